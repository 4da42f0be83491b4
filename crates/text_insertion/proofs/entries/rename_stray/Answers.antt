use Rattle.std.proofs.Common.{◌≡◌, ℕ, Bool, true, false, ◌||◌, ◌&&◌, List, Option, Some, None, codes, refl, sym, ◌∙◌, true≢false}
use Rattle.std.specs.Prelude.{bytes_eq, not}
use Rattle.std.specs.Option.{option_map_or, option_and_then}
use Rattle.edit_model.specs.DomModel.declared.Content.{Content}
use Rattle.edit_model.specs.DomModel.declared.Content.TheVariants.{Document, Element, Words, Remark}
use Rattle.edit_model.specs.DomModel.Contents.{is_element, is_element_at, has_name, name_in}
use Rattle.edit_model.specs.DomModel.Forest.{Forest, content_of}
use Rattle.edit_model.specs.State.{State}
use Rattle.inline_value.specs.Ancestors.{is_description, has_place}
use Rattle.text_insertion.specs.Entries.{is_stray}
use Rattle.text_insertion.proofs.entries.rename_stray.Goals as goal

named : (name : List ℕ) (o : Option Content) → option_map_or (λ own. bytes_eq own name) (option_and_then name_in o) false ≡ true → option_map_or is_element o false ≡ true
named name None h = absurd (true≢false (sym h))
named name (Some Document) h = absurd (true≢false (sym h))
named name (Some (Element own attributes)) h = refl
named name (Some (Words chars)) h = absurd (true≢false (sym h))
named name (Some (Remark chars)) h = absurd (true≢false (sym h))

named_element : (f : Forest Content) (l : ℕ) (name : List ℕ) → has_name f l name ≡ true → is_element_at f l ≡ true
named_element f l name h = named name (content_of f l) h

from_either : (a b c e : Bool) → (a ≡ true → e ≡ true) → (b ≡ true → e ≡ true) → ((a || b) && c) ≡ true → e ≡ true
from_either true b c e first other h = first refl
from_either false true c e first other h = other refl
from_either false false c e first other h = absurd (true≢false (sym h))

stray_element : (s : State) (n : ℕ) → is_stray s n ≡ true → is_element_at s.trees n ≡ true
unfolding is_stray is_description
stray_element s n h =
    from_either (has_name s.trees n (codes "dd")) (has_name s.trees n (codes "dt")) (not (has_place s n)) (is_element_at s.trees n) (named_element s.trees n (codes "dd")) (named_element s.trees n (codes "dt")) h

pub set_tag_name-requires-clause-element : goal.set_tag_name-requires-clause-element
set_tag_name-requires-clause-element c =
    stray_element c.args.doc.now.state c.args.node.label (sym c.is_stray.ensures ∙ c.if-not-is_stray.false)
