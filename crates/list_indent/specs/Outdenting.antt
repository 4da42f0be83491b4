-- Outdenting a node (HTML Editing APIs, "outdent"). The steps are those of docs/ALGORITHMS.md.
use Rattle.std.specs.Prelude.{ℕ, Bool, true, false, ◌==◌, ◌||◌, ◌&&◌, not, List, [], ◌∷◌, reverse, find, codes, Option, Some, None, is_some, if◌then◌else◌}
use Rattle.std.specs.Option.{option_map_or}
use Rattle.edit_model.specs.DomModel.Contents.{is_element_at}
use Rattle.edit_model.specs.DomModel.Forest.{is_label, parent_of, children_of, first_in}
use Rattle.edit_model.specs.HtmlNames.BoxNames.{box_names}
use Rattle.inline_value.specs.NodeStyles.NameClasses.{is_indentation, is_simple_indentation}
use Rattle.edit_model.specs.State.{State}
use Rattle.edit_model.specs.Confined.{is_editable_for}
use Rattle.edit_model.specs.Compositions.{set_tag_name}
use Rattle.edit_model.specs.Run.{Run, ◌>>=◌, ◌>>◌, done, look, given, for_each, remove, unset_attribute}
use Rattle.inline_value.specs.EditActions.Siblings.{until}
use Rattle.inline_value.specs.WrapSplit.Split.{remove_keeping_children}
use Rattle.inline_value.specs.WrapSplit.Target.{is_without_attributes}
use Rattle.inline_value.specs.WrapSplit.Wrap.{break_next}
use Rattle.inline_value.specs.Ancestors.{fix_ancestors}
use Rattle.inline_value.specs.Forcing.{ancestors}
use Rattle.inline_value.specs.Recording.{record_values, restore_values}
use Rattle.inline_value.specs.Styling.{unset_style}
use Rattle.list_indent.specs.Sublists.{is_list, is_in_list}
use Rattle.list_indent.specs.Indenting.{indent_list}

-- ---- steps 2 and 3: an indentation element

-- steps 3 and 5: the tag name of an element is set to div
unfoldable pub to_div : ℕ → Run (Unit {0})
to_div n = look λ s. if is_element_at s.trees n then set_tag_name n (codes "div") >> done else done

-- step 3: dir and the box properties go
unfoldable pub unboxed : ℕ → Run (Unit {0})
unboxed n = do
  unset_attribute n (codes "dir")
  for_each box_names (unset_style n)
  to_div n

-- step 2 or 3, whichever applies
unfoldable pub unindented : ℕ → Run (Unit {0})
unindented n = look λ s.
    if is_simple_indentation s.trees n then remove_keeping_children n
    else (if is_indentation s.trees n then unboxed n else done)

-- ---- step 4: the ancestors A, the nearest first, and the next one up, C

-- simple indentation elements alone, or all
abbrev pub indents : Bool → State → ℕ → Bool
indents simple s n = if simple then is_simple_indentation s.trees n else is_indentation s.trees n

-- an ancestor is passed on the way up
unfoldable pub is_passed : Bool → State → ℕ → Bool
is_passed simple s a =
    is_editable_for s a
    && (is_element_at s.trees a && (not (indents simple s a) && not (is_list s a)))

-- those that are passed, and the next one
abbrev pub climb : (ℕ → Bool) → List ℕ → List ℕ × Option ℕ
climb passes [] = ([], None)
climb passes (x ∷ xs) =
    if passes x then (x ∷ (climb passes xs).0, (climb passes xs).1) else ([], Some x)

unfoldable pub way_by : Bool → State → ℕ → List ℕ × Option ℕ
way_by simple s n = climb (is_passed simple s) (ancestors s.trees n)

-- C, if it is editable and indents
abbrev pub if_indents : Bool → State → Option ℕ → Option ℕ
if_indents simple s None = None
if_indents simple s (Some c) = if is_editable_for s c && indents simple s c then Some c else None

-- to a simple indentation element, or else to any
unfoldable pub way_of : State → ℕ → List ℕ × Option ℕ
way_of s n =
    if is_some (if_indents true s (way_by true s n).1) then way_by true s n else way_by false s n

-- ---- step 5: a list that stands in no indentation element

-- the list goes, and its children keep their values
unfoldable pub unwrapped : ℕ → List ℕ → Run (Unit {0})
unwrapped n children = do
  values ← record_values children
  remove_keeping_children n
  restore_values values

-- the list becomes a div, or it goes
unfoldable pub released : ℕ → List ℕ → Run (Unit {0})
released n children = look λ s.
    if not (is_without_attributes s.trees n) && not (is_in_list s n) then to_div n
    else unwrapped n children

unfoldable pub outdent_list : ℕ → Run (Unit {0})
outdent_list n = do
  unset_attribute n (codes "reversed")
  unset_attribute n (codes "start")
  unset_attribute n (codes "type")
  look λ s. released n (children_of s.trees n) >> for_each (children_of s.trees n) fix_ancestors

-- ---- step 7: the siblings along the way are indented in its place

-- the child of e that is the node or the member of A before e
unfoldable pub child_on_way : State → ℕ → ℕ → Option ℕ → Option ℕ
child_on_way s e n below = find (λ k. k == n || is_label below k) (children_of s.trees e)

abbrev pub rest_after : ℕ → List ℕ → List ℕ
rest_after t [] = []
rest_after t (x ∷ xs) = if x == t then xs else rest_after t xs

unfoldable pub siblings_after : State → ℕ → List ℕ
siblings_after s t =
    option_map_or (λ p. rest_after t (children_of s.trees p)) (parent_of s.trees t) []

-- around the child t of e: the br after it goes, and the siblings on either side are indented
unfoldable pub part_around : ℕ → ℕ → Run (Unit {0})
part_around e t = do
  look λ s. given (break_next s t) done λ b. remove b >> done
  look λ s. indent_list (until t (children_of s.trees e))
  look λ s. indent_list (siblings_after s t)

-- one turn, with the member e and the one before it
unfoldable pub part_level : ℕ → Option ℕ → ℕ → Run (Unit {0})
part_level n below e = look λ s. given (child_on_way s e n below) done (part_around e)

-- from the last member of A to the first
unfoldable pub part_levels : ℕ → List ℕ → Run (Unit {0})
part_levels n [] = done
part_levels n (e ∷ list) = part_level n (first_in list) e >> part_levels n list

-- ---- the whole

-- the end of step 6, which appends c to A, and steps 7 and 8; way is A
unfoldable pub outdent_through : ℕ → List ℕ → ℕ → Run (Unit {0})
outdent_through n way c = do
  part_levels n (c ∷ reverse way)
  unindented c

-- steps 5 to 8, with A and C
unfoldable pub outdent_along : ℕ → List ℕ × Option ℕ → Run (Unit {0})
outdent_along n way = look λ s. given (if_indents false s way.1)
    (if is_list s n then outdent_list n else done)
    (outdent_through n way.0)

-- steps 1 to 8
unfoldable pub outdent_node : ℕ → Run (Unit {0})
outdent_node n = look λ s.
    if not (is_editable_for s n) then done
    else (if is_indentation s.trees n then unindented n
    else outdent_along n (way_of s n))
