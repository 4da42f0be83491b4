use Rattle.std.proofs.Common.{◌≡◌, ◌≢◌, ℕ, Bool, true, false, not, List, [], ◌∷◌, map, filter, cond, ◌&&◌, refl, sym, ap, ◌∙◌}
use Rattle.std.specs.List.{list_all}
use Rattle.edit_model.specs.DomModel.declared.Content.{Content}
use Rattle.edit_model.specs.DomModel.declared.Content.TheVariants.{Document, Element, Words, Remark}
use Rattle.edit_model.specs.DomModel.declared.attributes.Attribute.{Attribute}
use Rattle.edit_model.specs.Kept.{Leaf, Letter, Thing, borne_by, is_blank, is_empty, is_kept, is_thing}
use Rattle.edit_parts.proofs.trees.bears.Goals as goal

thing_is : (l : ℕ) (b : Bool) → b ≡ not (is_empty (filter is_kept (cond b (Thing l ∷ []) [])))
thing_is l true = refl
thing_is l false = refl

element_is : (l : ℕ) (name : List ℕ) (list : List Attribute) → is_thing name ≡ not (is_empty (filter is_kept (borne_by l (Element name list))))
unfolding borne_by
element_is l name list = thing_is l (is_thing name)

letters : (chars : List ℕ) → not (list_all is_blank chars) ≡ not (is_empty (filter is_kept (map Letter chars)))
letters [] = refl
letters (x ∷ xs) = by (is_blank x) (letters xs)
  where
    by : (b : Bool) → not (list_all is_blank xs) ≡ not (is_empty (filter is_kept (map Letter xs))) → not (b && list_all is_blank xs) ≡ not (is_empty (cond (not b) (Letter x ∷ filter is_kept (map Letter xs)) (filter is_kept (map Letter xs))))
    by true e = e
    by false e = refl

words_is : (l : ℕ) (chars : List ℕ) → not (list_all is_blank chars) ≡ not (is_empty (filter is_kept (borne_by l (Words chars))))
unfolding borne_by
words_is l chars = letters chars

pub returns-in-Element : goal.returns-in-Element
returns-in-Element c = λ l. rw c.in-Element.is (c.is_thing.ensures ∙ (ap is_thing c.as_slice.ensures ∙ element_is l c.in-Element.name c.in-Element.attributes))

pub returns-in-Words : goal.returns-in-Words
returns-in-Words c = λ l. rw c.in-Words.is (ap not (c.is_all_blank.ensures ∙ ap (list_all is_blank) c.as_slice-in-Words.ensures) ∙ words_is l c.in-Words.chars)

other : (l : ℕ) (d : Content) → ((name : List ℕ) (list : List Attribute) → d ≢ Element name list) → ((chars : List ℕ) → d ≢ Words chars) → false ≡ not (is_empty (filter is_kept (borne_by l d)))
unfolding borne_by
other l Document a b = refl
other l (Element name list) a b = absurd (a name list refl)
other l (Words chars) a b = absurd (b chars refl)
other l (Remark chars) a b = refl

pub returns-in_default : goal.returns-in_default
returns-in_default c = λ l. other l c.args.content.now c.in_default.not-Element c.in_default.not-Words
