-- Indenting a list of siblings (HTML Editing APIs, "indent"). The steps are those of
-- docs/ALGORITHMS.md.
use Rattle.std.specs.Prelude.{ℕ, false, List, codes, Option, Some, None, if◌then◌else◌}
use Rattle.edit_model.specs.DomModel.Forest.{parent_of, first_in}
use Rattle.edit_model.specs.State.{State}
use Rattle.edit_model.specs.Compositions.{tag_of}
use Rattle.edit_model.specs.Run.{Run, ◌>>=◌, ◌>>◌, done, look, given}
use Rattle.inline_value.specs.WrapSplit.declared.rule.Criterion.TheVariants.{Named, SimpleIndentation}
use Rattle.inline_value.specs.WrapSplit.declared.rule.Recipe.TheVariants.{Make}
use Rattle.inline_value.specs.WrapSplit.Wrap.{wrap}
use Rattle.inline_value.specs.Ancestors.{fix_ancestors}
use Rattle.inline_value.specs.Wrappers.{bare}
use Rattle.list_indent.specs.Sublists.{is_list}

abbrev pub if_list : State → Option ℕ → Option ℕ
if_list s None = None
if_list s (Some p) = if is_list s p then Some p else None

-- indent a list, step 2: into a list of the name of p, which the members stand in
unfoldable pub nested : List ℕ → ℕ → Run (Unit {0})
nested list p =
    look λ s. wrap (Named (tag_of s.trees p) false) (Make (bare (tag_of s.trees p))) list >> done

abbrev pub fixed : Option ℕ → Run (Unit {0})
fixed o = given o done fix_ancestors

-- indent a list, step 3: into a simple indentation element
unfoldable pub quoted : List ℕ → Run (Unit {0})
quoted list = wrap SimpleIndentation (Make (bare (codes "blockquote"))) list >>= fixed

-- indent a list, steps 1 to 3, where a is the first member
unfoldable pub indent_list : List ℕ → Run (Unit {0})
indent_list list = given (first_in list) done λ a. look λ s.
    given (if_list s (parent_of s.trees a)) (quoted list) (nested list)
