-- Fixing disallowed ancestors of a node (HTML Editing APIs, "fix disallowed ancestors"). The steps
-- are those of docs/ALGORITHMS.md.
use Rattle.std.specs.Prelude.{ℕ, Bool, true, false, ◌||◌, ◌&&◌, not, [], ◌∷◌, codes, if◌then◌else◌}
use Rattle.std.specs.List.{list_any}
use Rattle.std.specs.Option.{option_map_or}
use Rattle.edit_model.specs.DomModel.Contents.{has_name}
use Rattle.edit_model.specs.DomModel.Forest.{parent_of, children_of}
use Rattle.wrap_split.specs.NodeStyles.Allowed.{allowed_in, name_allowed_in}
use Rattle.edit_model.specs.State.{State}
use Rattle.edit_model.specs.Confined.{is_editable_for, is_inside}
use Rattle.edit_model.specs.Compositions.{set_tag_name}
use Rattle.edit_model.specs.Run.{Run, ◌>>=◌, ◌>>◌, done, look, for_each, while_at_most}
use Rattle.wrap_split.specs.declared.rule.Blank.{Blank}
use Rattle.wrap_split.specs.declared.rule.Criterion.TheVariants.{Named}
use Rattle.wrap_split.specs.declared.rule.Recipe.TheVariants.{Make}
use Rattle.wrap_split.specs.Split.{split_parent, split_around}
use Rattle.wrap_split.specs.Walks.{turn_bound}
use Rattle.wrap_split.specs.Wrap.{wrap}
use Rattle.edit_query.specs.BlockExtend.Prohibited as prohibited
use Rattle.edit_query.specs.Rows.{container_name}
use Rattle.inline_value.specs.Forcing.{ancestors}
use Rattle.inline_value.specs.Recording.{record_values, restore_values}

unfoldable pub is_prohibited : State → ℕ → Bool
is_prohibited s n = prohibited.is_prohibited s.trees n

-- the node may stand in one of its ancestors that are inside
unfoldable pub has_place : State → ℕ → Bool
has_place s n = list_any (λ a. is_inside s a && allowed_in s.trees n a) (ancestors s.trees n)

-- fix disallowed ancestors, step 3: the parent is split as long as the node may not stand in it
abbrev pub is_misplaced : State → ℕ → Bool
is_misplaced s n = option_map_or (λ p. not (allowed_in s.trees n p)) (parent_of s.trees n) false

-- fix disallowed ancestors, step 3: up, out of each parent in which the node may not stand
unfoldable pub lifted : ℕ → Run (Unit {0})
lifted n = look λ s. while_at_most (turn_bound s) is_misplaced split_around n >> done

-- fix disallowed ancestors, step 3: the node keeps its values
unfoldable pub lift : ℕ → Run (Unit {0})
lift n = do
  list ← record_values (n ∷ [])
  lifted n
  restore_values list

-- fix disallowed ancestors, step 2 a: items of a description list get one
unfoldable pub is_description : State → ℕ → Bool
is_description s n = has_name s.trees n (codes "dd") || has_name s.trees n (codes "dt")

abbrev pub description_list : Blank
description_list = record { name = codes "dl"; attributes = [] }

-- fix disallowed ancestors, step 2 a: the node is wrapped in a dl
unfoldable pub wrap_description : ℕ → Run (Unit {0})
wrap_description n = wrap (Named (codes "dl") true) (Make description_list) (n ∷ []) >> done

-- fix disallowed ancestors, step 2 b: the host takes no paragraph, or the node is no prohibited
-- paragraph child
unfoldable pub hosts_none : State → Bool
hosts_none s = not (option_map_or (λ h. name_allowed_in (codes "p") s.trees h) s.host false)

-- fix disallowed ancestors, step 2 d: a child that may not stand in a paragraph leaves the node
unfoldable pub split_out : ℕ → Run (Unit {0})
split_out k = do
  list ← record_values (k ∷ [])
  split_parent (k ∷ [])
  restore_values list

-- fix disallowed ancestors, step 2 d: a prohibited paragraph child, as its turn comes
unfoldable pub part_child : ℕ → Run (Unit {0})
part_child k = look λ s. if is_prohibited s k then split_out k else done

-- fix disallowed ancestors, step 2 d: each child, in order
unfoldable pub part_children : ℕ → Run (Unit {0})
part_children n = look λ s. for_each (children_of s.trees n) part_child

-- fix disallowed ancestors, steps 2 c and 2 d
unfoldable pub lift_renamed : ℕ → Run (Unit {0})
lift_renamed n = lift n >> part_children n

-- fix disallowed ancestors, steps 2 c and 2 d: the node gets the default container's name
unfoldable pub rename : ℕ → Run (Unit {0})
rename n = look λ s. set_tag_name n (container_name s.flags.paragraphs) >>= lift_renamed

-- fix disallowed ancestors, step 2
unfoldable pub replace_misplaced : ℕ → Run (Unit {0})
replace_misplaced n = look λ s.
    if is_description s n then wrap_description n
    else (if hosts_none s || not (is_prohibited s n) then done else rename n)

-- fix disallowed ancestors, step 1, and then 2 or 3
unfoldable pub fix_ancestors : ℕ → Run (Unit {0})
fix_ancestors n = look λ s.
    if not (is_editable_for s n) then done
    else (if has_place s n then lift n else replace_misplaced n)
