-- A document knows its own nodes, and what a command leaves is known by the document before it.
use Rattle.std.proofs.Common.{◌≡◌, ℕ, ◌≤◌, cond, eqb, [], Option, Some, None, refl, sym, ap, ◌∙◌, inl, inr, arith}
use Rattle.std.specs.Prelude.{unwrap_or}
use Rattle.std.specs.Option.{option_map, option_and_then}
use Rattle.edit_model.specs.DomModel.declared.Content.{Content}
use Rattle.edit_model.specs.DomModel.declared.Content.TheVariants.{Document, Element, Words, Remark}
use Rattle.edit_model.specs.DomModel.AttributeList.{value_of}
use Rattle.edit_model.specs.DomModel.Contents.{name_in, attributes_in, chars_in}
use Rattle.edit_model.specs.DomModel.Forest.{Forest, Seen, seek, count_of, tree_of, content_of, IsDistinct}
use Rattle.edit_model.proofs.DomModel.Links.{found_count}
use Rattle.edit_model.proofs.DomModel.Stands.{Stands-count, Stands-tree_of, seek_Stands}
use Rattle.edit_model.proofs.DomModel.Totals.{total-without}
use Rattle.edit_model.specs.History.{begun, rested}
use Rattle.edit_model.specs.Valid.{IsValid}
use Rattle.edit_model.proofs.Commands.{valid_begun}
use Rattle.edit_model.proofs.ValidRuns.{valid_along}
use Rattle.making_laws.specs.Known.{IsKnownAttribute, IsKnownCharacter, source_of}
use Rattle.making_laws.specs.Laws.{CommandsMakeKnown, NoneComes, OwnAreKnown}
use Rattle.making_laws.proofs.Attributes.{each_contained, no_value}
use Rattle.making_laws.proofs.Knowing.{knows_along}

pub own_known : OwnAreKnown
own_known source l Document e = tt
own_known source l (Element name list) e = (
  inr (l, ap (λ (o : Option Content). option_and_then name_in o) e),
  each_contained (IsKnownAttribute source.forest) list (λ a there. inr (l, list, ap (λ (o : Option Content). option_and_then attributes_in o) e, there)),
)
own_known source l (Words chars) e =
    each_contained (IsKnownCharacter source) chars (λ c there. inr (inl (l, chars, ap (λ (o : Option Content). option_and_then chars_in o) e, there)))
own_known source l (Remark chars) e =
    each_contained (IsKnownCharacter source) chars (λ c there. inr (inl (l, chars, ap (λ (o : Option Content). option_and_then chars_in o) e, there)))

-- a node of a tree has its content in the forest
content-tree : (f : Forest Content) (n l : ℕ) (c : Content) → IsDistinct f → content_of (tree_of f n) l ≡ Some c → content_of f l ≡ Some c
content-tree f n l c once e = by_seen (seek None (tree_of f n) l) refl e
  where
    by_seen : (o : Option (Seen Content)) → seek None (tree_of f n) l ≡ o → option_map (λ (y : Seen Content). y.content) o ≡ Some c → content_of f l ≡ Some c
    by_seen None at e = absurd (let t : None ≡ Some c = e in cc)
    by_seen (Some s) at e =
        let there = found_count (tree_of f n) l s at in
        let t = Stands-count None (tree_of f n) l there in
        let inner : count_of (tree_of f n) l ≤ 1 = omega (arith, once l, total-without (λ m _. cond (eqb m l) 1 0) f n) in
        let content : content_of f l ≡ Some t.0.content = elim (Stands-tree_of None None f n l t.0 (once n) t.1) [
          | inl (_, o, st, same) ↦ ap (option_map (λ (x : Seen Content). x.content)) (seek_Stands None f l o (once l) st) ∙ ap (λ (x : Seen Content). Some x.content) (sym same)
          | inr (_, st) ↦ ap (option_map (λ (x : Seen Content). x.content)) (seek_Stands None f l t.0 (once l) st)
        ] in
        let own : content_of (tree_of f n) l ≡ Some t.0.content = ap (λ (o : Option (Seen Content)). option_map (λ (x : Seen Content). x.content) o) (seek_Stands None (tree_of f n) l t.0 inner t.1) in
        let here : content_of (tree_of f n) l ≡ Some c = ap (λ (o : Option (Seen Content)). option_map (λ (x : Seen Content). x.content) o) at ∙ e in
        content ∙ (sym own ∙ here)

pub commands_make_known : CommandsMakeKnown
unfolding rested begun
commands_make_known s t value host keeping is r tame l c e =
    let began : IsValid (begun host keeping s) = valid_begun host keeping s is in
    let source = source_of s value in
    knows_along source r began (own_known source) tame l c (content-tree t.trees 0 l c (valid_along r began).forest.distinct e)

pub none_comes : NoneComes
none_comes name source g off known without l = by_content (content_of g l) refl
  where
    by_content : (o : Option Content) → content_of g l ≡ o → value_of (unwrap_or (option_and_then attributes_in o) []) name ≡ None
    by_content None e = refl
    by_content (Some Document) e = refl
    by_content (Some (Element own list)) e = no_value source.forest name list off without (known l (Element own list) e).1
    by_content (Some (Words chars)) e = refl
    by_content (Some (Remark chars)) e = refl
