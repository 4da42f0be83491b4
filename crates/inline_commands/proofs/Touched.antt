-- The links that a range touches: those around its start, and those around its end alone with those that it contains.
use Rattle.std.proofs.Common.{◌≡◌, ◌≢◌, ◌⊎◌, inl, inr, ℕ, ◌+◌, ◌<◌, ◌≤◌, Bool, true, false, cond, not, ◌&&◌, ◌||◌, List, [], ◌∷◌, ◌++◌, Option, Some, None, refl, sym, ap, ◌∙◌, arith}
use Rattle.std.specs.Prelude.{filter}
use Rattle.std.proofs.lemmas.Bool.{and_parts}
use Rattle.edit_model.specs.DomModel.declared.Content.{Content}
use Rattle.edit_model.specs.DomModel.Contents.{length_of}
use Rattle.edit_model.specs.DomModel.Forest.{Forest, count_of, IsWithin, tree_of, parent_of, preorder}
use Rattle.edit_model.specs.DomModel.Places.{index_of}
use Rattle.edit_model.specs.LiveRange.declared.places.Pair.{Pair}
use Rattle.edit_model.specs.LiveRange.declared.places.Point.{Point}
use Rattle.edit_model.specs.PointOrder.PointOrder.{is_ancestor, is_before}
use Rattle.inline_value.specs.NodeTests.Ranges.{is_contained, contained_nodes}
use Rattle.inline_value.proofs.NodeTests.Reaching.{before_it}
use Rattle.edit_model.specs.Valid.{IsForest}
use Rattle.edit_model.proofs.Documents.{index_below}
use Rattle.edit_model.proofs.Trees.{within_trans}
use Rattle.inline_value.specs.EditActions.ActiveRange.{start_of, end_of}
use Rattle.inline_commands.specs.Merging.{links_above, links_inside, merged}
use Rattle.inline_commands.specs.Unlink.{is_link, is_touched, links_in}
use Rattle.inline_commands.proofs.Ancestors.{filter_by, filter_both, filter_none, and_false, found_above}
use Rattle.inline_commands.proofs.Elsewhere.{contained_in}
use Rattle.inline_commands.proofs.Merging.{Agree, parted}
use Rattle.inline_commands.proofs.Order.{above_is, above_off, above_parts, above_through, child_of, none_earlier, one_way, own_front, sibling_before}
use Rattle.inline_commands.proofs.Pairs.{document_pairs}

-- the points of a range are in order
abbrev pub InOrder : Forest Content → Point → Point → Type 0
InOrder f start end = (is_before f start end ≡ true) ⊎ (is_before f end start ≡ false)

pub ends_ordered : (f : Forest Content) (pair : Pair) → InOrder f (start_of f pair) (end_of f pair)
ends_ordered f pair = by_focus (is_before f pair.focus pair.anchor) refl
  where
    by_focus : (b : Bool) → is_before f pair.focus pair.anchor ≡ b → InOrder f (cond b pair.focus pair.anchor) (cond b pair.anchor pair.focus)
    by_focus true e = inl e
    by_focus false e = inr e

contained_both : (f : Forest Content) (start end : Point) (l : ℕ) → is_contained f start end l ≡ true → (is_before f start (record { label = l; offset = 0 }) ≡ true) × (is_before f (record { label = l; offset = length_of f l }) end ≡ true)
unfolding is_contained
contained_both f start end l e = and_parts (is_before f start (record { label = l; offset = 0 })) (is_before f (record { label = l; offset = length_of f l }) end) e

-- ---- the three kinds of links

module _ (f : Forest Content) (next : ℕ) (law : IsForest f next) (start end : Point) where
  abbrev from : ℕ → Bool
  from l = is_link f l && is_ancestor f l start.label

  abbrev upto : ℕ → Bool
  upto l = not (is_ancestor f l start.label) && (is_link f l && is_ancestor f l end.label)

  abbrev amid : ℕ → Bool
  amid l = is_link f l && (is_before f start end && is_contained f start end l)

  from_is : (l : ℕ) → from l ≡ true → (l ≢ start.label) × IsWithin f l start.label
  from_is l e = above_parts f law.distinct l start.label (and_parts (is_link f l) (is_ancestor f l start.label) e).1

  upto_is : (l : ℕ) → upto l ≡ true → (not (is_ancestor f l start.label) ≡ true) × ((l ≢ end.label) × IsWithin f l end.label)
  upto_is l e =
      let r = and_parts (not (is_ancestor f l start.label)) (is_link f l && is_ancestor f l end.label) e in
      (r.0, above_parts f law.distinct l end.label (and_parts (is_link f l) (is_ancestor f l end.label) r.1).1)

  amid_is : (l : ℕ) → amid l ≡ true → is_contained f start end l ≡ true
  amid_is l e = (and_parts (is_before f start end) (is_contained f start end l) (and_parts (is_link f l) (is_before f start end && is_contained f start end l) e).1).1

  -- a node with an end of the range in its tree isn't contained
  not_amid_start : (l : ℕ) → amid l ≡ true → IsWithin f l start.label → ⊥
  not_amid_start l e inside =
      let on = (contained_both f start end l (amid_is l e)).0 in
      let off = none_earlier f law.distinct l start inside in
      cc

  not_amid_end : (l : ℕ) → amid l ≡ true → l ≢ end.label → IsWithin f l end.label → ⊥
  not_amid_end l e other inside =
      let k = child_of f law.distinct l end.label other inside in
      let off = (before_it f law.distinct (record { label = l; offset = length_of f l }) l k.0 k.1 (inl (refl, index_below f next law l k.0 k.1))).none end.label end.offset k.2 in
      let on = (contained_both f start end l (amid_is l e)).1 in
      cc

  from_or_upto : (l : ℕ) → from l ≡ true → upto l ≡ true → ⊥
  from_or_upto l e e' =
      let on : is_ancestor f l start.label ≡ true = (and_parts (is_link f l) (is_ancestor f l start.label) e).1 in
      let off = (upto_is l e').0 in
      absurd (let t : false ≡ true = ap not (sym on) ∙ off in cc)

  amid_or_above : (l : ℕ) → amid l ≡ true → (from l || upto l) ≡ true → ⊥
  amid_or_above l e e' = by_from (from l) refl e'
    where
      by_from : (b : Bool) → from l ≡ b → (b || upto l) ≡ true → ⊥
      by_from true t u = not_amid_start l e (from_is l t).1
      by_from false t u = let r = (upto_is l u).1 in not_amid_end l e r.0 r.1

  -- a node and one below it
  down : (p q : ℕ) → p ≢ q → IsWithin f p q → Agree f from upto amid p q
  down p q off inside = record {
    second = λ e e'.
        let on = above_through f law.distinct p q start.label off inside (and_parts (is_link f q) (is_ancestor f q start.label) e).1 in
        let out = (upto_is p e').0 in
        absurd (let t : false ≡ true = ap not (sym on) ∙ out in cc);
    third = λ e e'. not_amid_start p e' (within_trans f p q start.label law.distinct inside (from_is q e).1);
    below = λ _ _. above_is f law.distinct p q off inside;
    apart = λ _ _. above_off f law.distinct q p (λ up. off (one_way f law.distinct p q inside up));
  }

  -- a node and one below a later sibling
  module _ (ordered : InOrder f start end) where
    across : (top k c p q : ℕ) → parent_of f k ≡ Some top → parent_of f c ≡ Some top → index_of f k < index_of f c → IsWithin f k p → IsWithin f c q → Agree f from upto amid p q
    across top k c p q child other low in_k in_c = record {
      second = λ e e'.
          let lies = sibling_before f law.distinct top k c start child other low (within_trans f c q start.label law.distinct in_c (from_is q e).1) in
          let inside : IsWithin f k end.label = within_trans f k p end.label law.distinct in_k (upto_is p e').1.1 in
          let off = lies.none end.label end.offset inside in
          let on = lies.comes end.label end.offset inside in
          elim ordered [
            | inl t ↦ absurd (let u : true ≡ false = sym t ∙ off in cc)
            | inr t ↦ absurd (let u : true ≡ false = sym on ∙ t in cc)
          ];
      third = λ e e'.
          let lies = sibling_before f law.distinct top k c start child other low (within_trans f c q start.label law.distinct in_c (from_is q e).1) in
          let off = lies.none p 0 in_k in
          let on = (contained_both f start end p (amid_is p e')).0 in
          absurd (let u : true ≡ false = sym on ∙ off in cc);
      below = λ e e'.
          let lies = sibling_before f law.distinct top k c (record { label = q; offset = length_of f q }) child other low in_c in
          let off = lies.none end.label end.offset (within_trans f k p end.label law.distinct in_k (upto_is p e).1.1) in
          let on = (contained_both f start end q (amid_is q e')).1 in
          absurd (let u : true ≡ false = sym on ∙ off in cc);
      apart = λ _ _. above_off f law.distinct q p (λ inside.
          let lies = sibling_before f law.distinct top k c (record { label = p; offset = 0 }) child other low (within_trans f c q p law.distinct in_c inside) in
          let off = lies.none p 1 in_k in
          let on = lies.comes p 1 in_k in
          let own = own_front f (record { label = p; offset = 1 }) p refl in
          absurd (let u : true ≡ false = sym on ∙ own in cc));
    }

    in_parts : filter (λ l. amid l || (from l || upto l)) (preorder (tree_of f 0)) ≡ filter from (preorder (tree_of f 0)) ++ merged f (filter upto (preorder (tree_of f 0))) (filter amid (preorder (tree_of f 0)))
    in_parts = parted f from upto amid from_or_upto amid_or_above (preorder (tree_of f 0)) (document_pairs f law.distinct (Agree f from upto amid) down across next law)

  either_kind : (k x a b : Bool) → (k && (x || (a || b))) ≡ ((k && x) || ((k && a) || (not a && (k && b))))
  either_kind false x true b = refl
  either_kind false x false b = refl
  either_kind true true a b = refl
  either_kind true false true b = refl
  either_kind true false false b = refl

  touches : (l : ℕ) → (is_link f l && is_touched f start end l) ≡ (amid l || (from l || upto l))
  unfolding is_touched
  touches l = either_kind (is_link f l) (is_before f start end && is_contained f start end l) (is_ancestor f l start.label) (is_ancestor f l end.label)

  -- ---- what each of them finds

  amid_links : IsWithin f 0 start.label → filter amid (preorder (tree_of f 0)) ≡ links_inside f start end
  amid_links inside = by_order (is_before f start end)
    where
      by_order : (b : Bool) → filter (λ l. is_link f l && (b && is_contained f start end l)) (preorder (tree_of f 0)) ≡ cond b (filter (is_link f) (contained_nodes f start end)) []
      by_order true =
          filter_both (is_link f) (is_contained f start end) (preorder (tree_of f 0))
          ∙ ap (filter (is_link f)) (contained_in f next law start end inside)
      by_order false = filter_none (λ l. is_link f l && false) (preorder (tree_of f 0)) (λ l. and_false (is_link f l) false refl)

pub links_found : (f : Forest Content) (next : ℕ) → IsForest f next → (start end : Point) → InOrder f start end
    → IsWithin f 0 start.label → IsWithin f 0 end.label → 0 < count_of f start.label → 0 < count_of f end.label
    → links_above f start.label ++ merged f (filter (λ l. not (is_ancestor f l start.label)) (links_above f end.label)) (links_inside f start end) ≡ links_in f start end
unfolding links_in
links_found f next law start end ordered inside end_inside here end_here =
    let P = preorder (tree_of f 0) in
    let A = from f next law start end in
    let B = upto f next law start end in
    let X = amid f next law start end in
    let first : filter A P ≡ links_above f start.label = found_above f next law start.label inside here in
    let second : filter B P ≡ filter (λ l. not (is_ancestor f l start.label)) (links_above f end.label) =
    filter_both (λ l. not (is_ancestor f l start.label)) (λ l. is_link f l && is_ancestor f l end.label) P
    ∙ ap (filter (λ l. not (is_ancestor f l start.label))) (found_above f next law end.label end_inside end_here) in
    let third : filter X P ≡ links_inside f start end = amid_links f next law start end inside in
    ap (λ xs. xs ++ merged f (filter (λ l. not (is_ancestor f l start.label)) (links_above f end.label)) (links_inside f start end)) (sym first)
    ∙ ap (λ xs. filter A P ++ merged f xs (links_inside f start end)) (sym second)
    ∙ ap (λ xs. filter A P ++ merged f (filter B P) xs) (sym third)
    ∙ sym (in_parts f next law start end ordered)
    ∙ sym (filter_by (λ l. is_link f l && is_touched f start end l) (λ l. X l || (A l || B l)) P (touches f next law start end))
