-- Toggle lists, step 6 a: siblings of a list become items, series by series. The steps are those of
-- docs/ALGORITHMS.md.
use Rattle.std.specs.Prelude.{ℕ, Bool, true, false, not, ◌&&◌, ◌||◌, List, [], ◌++◌, drop, codes, Option, Some, None, if◌then◌else◌}
use Rattle.edit_model.specs.DomModel.Contents.{has_name, is_break}
use Rattle.edit_model.specs.DomModel.Forest.{first_in, last_in}
use Rattle.inline_value.specs.NodeStyles.Blocks.{is_block}
use Rattle.inline_value.specs.BlockExtend.Series.{is_next}
use Rattle.block_commands.specs.Series.{take_series}
use Rattle.edit_model.specs.State.{State}
use Rattle.edit_model.specs.Compositions.{set_tag_name}
use Rattle.edit_model.specs.Run.{Run, ◌>>=◌, answer, look, given, while_at_most}
use Rattle.inline_value.specs.WrapSplit.declared.rule.Criterion.TheVariants.{Never}
use Rattle.inline_value.specs.WrapSplit.declared.rule.Recipe.TheVariants.{Make}
use Rattle.inline_value.specs.WrapSplit.Walks.{turn_bound}
use Rattle.inline_value.specs.WrapSplit.Wrap.{wrap, one_of}
use Rattle.inline_value.specs.Wrappers.{bare}
use Rattle.list_indent.specs.Sublists.{is_list, is_item}

-- what a turn has made of first members: an item, unless nothing was made, and the members that are
-- left
abbrev pub Made : Type 0
Made = Option ℕ × List ℕ

-- the items so far, and the members that are left
abbrev pub Collected : Type 0
Collected = List ℕ × List ℕ

-- ---- one turn

unfoldable pub is_container : State → ℕ → Bool
is_container s l = has_name s.trees l (codes "p") || has_name s.trees l (codes "div")

-- x is the item, and one member is taken
abbrev pub made_one : List ℕ → ℕ → Run Made
made_one list x = answer (Some x, drop 1 list)

-- a line: siblings that are inline, up to a br
unfoldable pub goes_on_line : State → ℕ → ℕ → Bool
goes_on_line s x y =
    is_next s.trees x y
    && (not (is_block s.trees y) && (not (is_block s.trees x) && not (is_break s.trees x)))

-- the line that the list begins with is wrapped in a new li
unfoldable pub wrap_line : List ℕ → Run Made
wrap_line list = look λ s.
    let line = take_series (goes_on_line s) list in
    wrap Never (Make (bare (codes "li"))) line.0 >>= λ item. answer (item, line.1)

-- with the first member x: a p or div becomes an li, an item or a list stays as it is, and what
-- else stands on the line goes into an li with it
unfoldable pub make_item : List ℕ → ℕ → Run Made
make_item list x = look λ s.
    if is_container s x then set_tag_name x (codes "li") >>= made_one list
    else (if is_item s x || is_list s x then made_one list x else wrap_line list)

-- the item is appended
unfoldable pub collect_next : Collected → Run Collected
collect_next c = given (first_in c.1) (answer c) λ x. do
  made ← make_item c.1 x
  answer (c.0 ++ one_of made.0, made.1)

-- ---- the whole

-- it goes on while members are left and the first of them is the next sibling of the last item
abbrev pub follows : State → Option ℕ → Option ℕ → Bool
follows s last None = false
follows s None (Some x) = true
follows s (Some z) (Some x) = is_next s.trees z x

unfoldable pub goes_on : State → Collected → Bool
goes_on s c = follows s (last_in c.0) (first_in c.1)

unfoldable pub collect_items : List ℕ → Run Collected
collect_items list = look λ s. while_at_most (turn_bound s) goes_on collect_next ([], list)
