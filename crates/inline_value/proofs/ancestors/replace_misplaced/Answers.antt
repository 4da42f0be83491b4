use Rattle.std.proofs.Common.{◌≡◌, ℕ, Bool, true, false, Option, Some, None, refl, sym, ◌∙◌, true≢false}
use Rattle.std.specs.Option.{option_map_or, option_and_then}
use Rattle.edit_model.specs.DomModel.declared.Content.{Content}
use Rattle.edit_model.specs.DomModel.declared.Content.TheVariants.{Document, Element, Words, Remark}
use Rattle.edit_model.specs.DomModel.Contents.{is_element, is_element_at, name_in}
use Rattle.edit_model.specs.DomModel.Forest.{content_of}
use Rattle.edit_model.specs.HtmlNames.ElementNames.{is_prohibited_child}
use Rattle.edit_model.specs.State.{State}
use Rattle.inline_value.specs.Ancestors.{is_prohibited}
use Rattle.inline_value.proofs.ancestors.replace_misplaced.Goals as goal

named : (o : Option Content) → option_map_or is_prohibited_child (option_and_then name_in o) false ≡ true → option_map_or is_element o false ≡ true
named None h = absurd (true≢false (sym h))
named (Some Document) h = absurd (true≢false (sym h))
named (Some (Element name attributes)) h = refl
named (Some (Words chars)) h = absurd (true≢false (sym h))
named (Some (Remark chars)) h = absurd (true≢false (sym h))

prohibited_element : (s : State) (n : ℕ) → is_prohibited s n ≡ true → is_element_at s.trees n ≡ true
unfolding is_prohibited
prohibited_element s n h = named (content_of s.trees n) h

pub rename-requires-clause-element : goal.rename-requires-clause-element
rename-requires-clause-element c =
    prohibited_element c.args.doc.now.state c.args.node.label (sym c.is_prohibited.ensures ∙ c.if-not-is_prohibited.false)
