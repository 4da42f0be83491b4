-- An edit that is made fits the trees as a change, and makes the same of them.
use Rattle.std.proofs.Common.{◌≡◌, ℕ, ◌+◌, ◌-◌, ◌<◌, ◌≤◌, ◌^◌, Bool, true, false, true≢false, List, [], ◌++◌, length, take, drop, Option, Some, None, unwrap_or, refl, sym, ap, subst, ◌∙◌, arith, length-drop, length-append}
use Rattle.std.specs.Prelude.{not, IsSome}
use Rattle.std.specs.Option.{option_map_or, option_and_then}
use Rattle.std.proofs.lemmas.Bool.{and_parts}
use Rattle.std.proofs.lemmas.List.{drop-drop, length-take, take-append-drop}
use Rattle.edit_model.specs.DomModel.declared.Content.{Content}
use Rattle.edit_model.specs.DomModel.declared.Content.TheVariants.{Document, Element, Words, Remark}
use Rattle.edit_model.specs.DomModel.declared.attributes.Attribute.{Attribute}
use Rattle.edit_model.specs.DomModel.AttributeList.{IsDistinctNames, set_in, unset_in, value_of}
use Rattle.edit_model.specs.DomModel.Contents.{attributes_in, attributes_of, chars_in, chars_of, is_element, with_attributes, with_chars}
use Rattle.edit_model.specs.DomModel.Forest.{Forest, parent_of, content_of}
use Rattle.edit_model.specs.DomModel.Revised.{revised}
use Rattle.edit_model.specs.DomModel.Room.{spliced}
use Rattle.edit_model.proofs.DomModel.AttributeLemmas.{distinct-set, distinct-unset}
use Rattle.inline_value.specs.ForestChanges.Change.{Splice, SetAttributes, IsForest, HasPart, Fits, applied, spliced_at}
use Rattle.edit_model.specs.State.{State}
use Rattle.edit_model.specs.Edit.{Edit, Insert, Remove, Move, Replace, Set, Unset, is_made_edit, change_of, trees_after, with_replaced, with_set, with_unset}
use Rattle.edit_model.specs.Confined.{is_own, may_set, may_unset, has_value}
use Rattle.edit_model.specs.Valid.{IsValid, IsForest as IsModelForest}
use Rattle.edit_model.proofs.Forests.{can_go, parent_at-unlink}
use Rattle.edit_model.proofs.TailPlan.{attributes_distinct}
use Rattle.edit_model.proofs.Tests.{inserts, removes, goes, replaces, parent_there}
use Rattle.inline_value.proofs.EditDoc.Attributed.{revised_same}
use Rattle.inline_value.proofs.EditDoc.Replaced.{part_length}

pub record FitsMade (e : Edit) (f : Forest Content) : Type 0 where
  pub fits : Fits (change_of e f) f
  pub same : applied (change_of e f) f ≡ trees_after e f

pub plain_forest : (f : Forest Content) (next : ℕ) → IsModelForest f next → IsForest f
plain_forest f next is = record { distinct = is.distinct; rising = is.rising; document = is.document; root = is.root; nodes = is.nodes }

-- ---- characters

whole_part : (chars : List ℕ) (at count : ℕ) → chars ≡ take at chars ++ (take count (drop at chars) ++ drop (at + count) chars)
whole_part chars at count =
    sym (ap (λ t. take at chars ++ (take count (drop at chars) ++ t)) (sym (drop-drop count at chars))
    ∙ (ap (λ t. take at chars ++ t) (take-append-drop count (drop at chars)) ∙ take-append-drop at chars))

has_part : (f : Forest Content) (n at count : ℕ) (put chars : List ℕ) → chars_of f n ≡ Some chars → at + count ≤ length chars → length (spliced chars at count put) < 2 ^ 32 → HasPart f n at (length chars - (at + count)) (take count (drop at chars)) put
has_part f n at count put chars is reach low = record {
  front = take at chars;
  back = drop (at + count) chars;
  chars = is ∙ ap Some (whole_part chars at count);
  front_long = omega (arith, reach, length-take at chars);
  back_long = length-drop (at + count) chars;
  short = omega (arith, reach, low, length-append (take at chars) (put ++ drop (at + count) chars), length-append put (drop (at + count) chars), length-take at chars, length-drop (at + count) chars);
}

module _ (f : Forest Content) (is : IsForest f) (n : ℕ) where
  replaced_fits : (at count : ℕ) (put chars : List ℕ) → content_of f n ≡ Some (Words chars) → at + count ≤ length chars → length (spliced chars at count put) < 2 ^ 32 → FitsMade (Replace n at count put) f
  unfolding change_of trees_after applied
  replaced_fits at count put chars content reach short =
      let own : chars_of f n ≡ Some chars = ap (option_and_then chars_in) content in
      let words : spliced_at f n at (length (take count (drop at chars))) put ≡ spliced chars at count put =
      (λ i. spliced (unwrap_or (own i) []) at (part_length chars at count reach i) put) in
      let here : Both chars = (
        record { forest = is; here = has_part f n at count put chars own reach short },
        revised_same f n (with_chars (spliced_at f n at (length (take count (drop at chars))) put)) (with_replaced at count put) (Words chars) is.distinct content (ap Words words),
      ) in
      let both : Both (unwrap_or (chars_of f n) []) = subst Both (sym (ap (λ (o : Option (List ℕ)). unwrap_or o []) own)) here in
      record { fits = both.0; same = both.1 }
    where
      Both : List ℕ → Type 0
      Both xs =
          Fits (Splice n at (length xs - (at + count)) (take count (drop at xs)) put) f
          × (revised f n (with_chars (spliced_at f n at (length (take count (drop at xs))) put)) ≡ revised f n (with_replaced at count put))

  -- ---- attributes

  -- an element that has these
  record HasList : Type 0 where
    tag : List ℕ
    list : List Attribute
    content : content_of f n ≡ Some (Element tag list)

  has_list : (p : List Attribute → Bool) → option_map_or p (attributes_of f n) false ≡ true → HasList
  has_list p t = by_content (content_of f n) refl t
    where
      by_content : (o : Option Content) → content_of f n ≡ o → option_map_or p (option_and_then attributes_in o) false ≡ true → HasList
      by_content None e t = absurd (true≢false (sym t))
      by_content (Some Document) e t = absurd (true≢false (sym t))
      by_content (Some (Words chars)) e t = absurd (true≢false (sym t))
      by_content (Some (Remark chars)) e t = absurd (true≢false (sym t))
      by_content (Some (Element tag list)) e t = record { tag = tag; list = list; content = e }

  redressed : (g : List Attribute → List Attribute) (h : Content → Content) → ((list : List Attribute) → IsDistinctNames list → IsDistinctNames (g list)) → ((tag : List ℕ) (list : List Attribute) → Element tag (g list) ≡ h (Element tag list)) → HasList
      → Fits (SetAttributes n (g (unwrap_or (attributes_of f n) []))) f × (revised f n (with_attributes (g (unwrap_or (attributes_of f n) []))) ≡ revised f n h)
  redressed g h distinct same has =
      let own : unwrap_or (attributes_of f n) [] ≡ has.list = ap (λ (o : Option Content). unwrap_or (option_and_then attributes_in o) []) has.content in
      let names : IsDistinctNames has.list = subst IsDistinctNames own (attributes_distinct f is.nodes n) in
      subst (λ (xs : List Attribute). Fits (SetAttributes n (g xs)) f × (revised f n (with_attributes (g xs)) ≡ revised f n h)) (sym own) (
        record { forest = is; here = (ap (λ (o : Option Content). option_map_or is_element o false) has.content, distinct has.list names) },
        revised_same f n (with_attributes (g has.list)) h (Element has.tag has.list) is.distinct has.content (same has.tag has.list),
      )

-- ---- the edits

parent_some : (o : Option ℕ) (q : ℕ) → o ≡ Some q → IsSome o
parent_some None q e = absurd (let t : None ≡ Some q = e in cc)
parent_some (Some p) q e = refl

module _ (s : State) (is : IsValid s) where
  abbrev f : Forest Content
  f = s.trees

  abbrev forest : IsForest f
  forest = plain_forest f s.next is.forest

  pub fits_made : (e : Edit) → is_made_edit e s ≡ true → FitsMade e f
  unfolding is_made_edit may_set may_unset change_of trees_after applied
  fits_made (Insert p b n) may =
      let t = inserts s p b n may in
      record { fits = record { forest = forest; here = record { place = t.can; parent = t.parent } }; same = refl }
  fits_made (Remove n) may =
      let t = removes s n may in
      record { fits = record { forest = forest; here = parent_some (parent_of f n) t.from t.child }; same = refl }
  fits_made (Move n p b) may =
      let t = goes s n p b may in
      let can = can_go f s.next is.forest t.from n p b t.child t.apart t.parent (parent_there f p t.parent) t.before in
      record {
        fits = record { forest = forest; here = (parent_some (parent_of f n) t.from t.child, record { place = can; parent = parent_at-unlink f s.next is.forest t.from n p t.child t.parent }) };
        same = refl;
      }
  fits_made (Replace n at count put) may =
      let t = replaces s n at count put may in
      replaced_fits f forest n at count put t.chars t.content t.reach t.short
  fits_made (Set n name value) may =
      let has = has_list f forest n (λ list. not (has_value list name value)) (and_parts (is_own s n) _ may).1 in
      let both = redressed f forest n (λ list. set_in list name value) (with_set name value) (λ list h. distinct-set list name value h) (λ tag list. refl) has in
      record { fits = both.0; same = both.1 }
  fits_made (Unset n name) may =
      let has = has_list f forest n (λ list. option_map_or (λ _. true) (value_of list name) false) (and_parts (is_own s n) _ may).1 in
      let both = redressed f forest n (λ list. unset_in list name) (with_unset name) (λ list h. distinct-unset list name h) (λ tag list. refl) has in
      record { fits = both.0; same = both.1 }
