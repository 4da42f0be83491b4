-- Where a tree stands after a link, and what the numbers of the document become.
use Rattle.std.proofs.Common.{◌≡◌, ℕ, zero, suc, ◌+◌, ◌<◌, ◌≤◌, ◌^◌, true, false, true≢false, cond, eqb, List, [], ◌∷◌, length, Option, Some, None, refl, sym, ap, subst, ◌∙◌, inl, inr, arith}
use Rattle.std.specs.Prelude.{nat_lt}
use Rattle.std.specs.Option.{option_map_or}
use Rattle.std.proofs.lemmas.Bool.Decides.{eqb_tells}
use Rattle.edit_model.specs.DomModel.declared.Content.{Content}
use Rattle.edit_model.specs.DomModel.declared.Content.TheVariants.{Document, Element, Words, Remark}
use Rattle.edit_model.specs.DomModel.Contents.{words_length, char_length}
use Rattle.edit_model.specs.DomModel.Forest.{Forest, total, times, put_in, count_of, tree_of, parent_of, children_of, link, CanPut, IsDistinct}
use Rattle.edit_model.specs.DomModel.Places.{place_in, index_of}
use Rattle.edit_model.specs.DomModel.ArenaState.{ArenaState as Arena, IsValid as IsArena}
use Rattle.edit_model.proofs.DomModel.Deepest.{total-bound}
use Rattle.edit_model.proofs.DomModel.Links.{total-link, parent_of-link, children_of-link, absent_n, seen}
use Rattle.edit_model.proofs.DomModel.Totals.{total-without}
use Rattle.edit_model.proofs.DomModel.Stands.{true_or_false}
use Rattle.edit_model.specs.PointOrder.PointOrder.{is_in_document}
use Rattle.edit_model.specs.Edit.{index_before}
use Rattle.edit_model.specs.Valid.{IsForest}
use Rattle.edit_doc.specs.Fields.{with_more}
use Rattle.edit_doc.proofs.Counted.{linked_inside, linked_outside}
use Rattle.edit_doc.proofs.HiddenTrees.{lt_true, true_lt}

-- ---- the place of a label that is put in a list

own_label : (n : ℕ) → eqb n n ≡ true
own_label n = elim (eqb_tells n n) [ inl (e, _) ↦ e | inr (_, off) ↦ absurd (off refl) ]

pub put_last : (xs : List ℕ) (n : ℕ) → times xs n ≡ 0 → place_in (put_in xs None n) n ≡ length xs
put_last [] n none = rw (own_label n) refl
put_last (x ∷ xs) n none = elim (eqb_tells x n) [
  | inl (t, _) ↦ absurd (let none' = rw t at none in omega (arith, none'))
  | inr (t, _) ↦ (let none' = rw t at none in rw t (omega (arith, put_last xs n (omega (arith, none')))))
]

pub put_before : (xs : List ℕ) (m n : ℕ) → times xs n ≡ 0 → place_in (put_in xs (Some m) n) n ≡ place_in xs m
put_before [] m n none = rw (own_label n) refl
put_before (x ∷ xs) m n none = elim (eqb_tells m x) [
  | inl (t, e) ↦ rw (t, own_label n) (let s : eqb x m ≡ true = subst (λ k. eqb x k ≡ true) (sym e) (own_label x) in rw s refl)
  | inr (t, off) ↦ rw t (elim (eqb_tells x n) [
    | inl (u, _) ↦ absurd (let none' = rw u at none in omega (arith, none'))
    | inr (u, _) ↦ (
        let none' = rw u at none in
        let s : eqb x m ≡ false = other x m (λ e. off (sym e)) in
        rw (u, s) (ap (λ k. k + 1) (put_before xs m n (omega (arith, none')))))
  ])
]
  where
    other : (a b : ℕ) → (a ≡ b → ⊥) → eqb a b ≡ false
    other a b h = elim (eqb_tells a b) [ inl (_, e) ↦ absurd (h e) | inr (e, _) ↦ e ]

-- ---- the index after a link

module _ (f : Forest Content) (p : ℕ) (b : Option ℕ) (n : ℕ) (once : IsDistinct f) (can : CanPut f p b n) where
  index_put : (o : Option ℕ) → times (children_of f p) n ≡ 0 → place_in (put_in (children_of f p) o n) n ≡ index_before f p o
  unfolding index_before
  index_put None none = put_last (children_of f p) n none
  index_put (Some m) none = put_before (children_of f p) m n none

  up : parent_of (link f p b n) n ≡ Some p
  up = let s = seen f n once can.node in parent_of-link f p b n once can n s.0 s.2 ∙ ap (λ t. cond t (Some p) s.0.parent) (own_label n)

  kids : children_of (link f p b n) p ≡ put_in (children_of f p) b n
  kids = children_of-link f p b n once can p ∙ ap (λ t. cond t (put_in (children_of f p) b n) (children_of f p)) (own_label p)

  pub index-link : index_of (link f p b n) n ≡ index_before f p b
  index-link =
      ap (λ o. option_map_or (λ q. place_in (children_of (link f p b n) q) n) o 0) up
      ∙ (ap (λ xs. place_in xs n) kids ∙ index_put b (absent_n f p b n once can))

-- ---- the numbers

pub none_of : (k : ℕ) → nat_lt 0 k ≡ false → k ≡ 0
none_of zero e = refl
none_of (suc k) e = absurd (true≢false (sym (true_lt 0 (suc k) (omega arith)) ∙ e))

words_few : (c : Content) → words_length c ≤ char_length c
words_few Document = omega arith
words_few (Element name attributes) = omega arith
words_few (Words w) = omega arith
words_few (Remark w) = omega arith

pub chars_bound : (a : Arena) → IsArena a → total (λ _ c. words_length c) a.trees < 2 ^ 64
chars_bound a law =
    let low = total-bound (λ _ c. words_length c) 4294967295 a.trees law.distinct (λ l r e. omega (arith, words_few r.content, (law.nodes l r e).short)) in
    omega (arith, low, law.few, law.capped, law.small)

pub nodes_bound : (a : Arena) → IsArena a → total (λ _ _. 1) a.trees < 2 ^ 32
nodes_bound a law = omega (arith, law.few, law.capped, law.small)

module _ (f : Forest Content) (next : ℕ) (is : IsForest f next) (w : ℕ → Content → ℕ) (p : ℕ) (b : Option ℕ) (n : ℕ) (can : CanPut f p b n) where
  pub more_linked : with_more (is_in_document f p) (total w (tree_of f 0)) (total w (tree_of f n)) ≡ total w (tree_of (link f p b n) 0)
  more_linked = elim (true_or_false (is_in_document f p)) [
    | inl t ↦ ap (λ x. with_more x (total w (tree_of f 0)) (total w (tree_of f n))) t ∙ sym (linked_inside f next is w p b n can (lt_true 0 (count_of (tree_of f 0) p) t))
    | inr t ↦ ap (λ x. with_more x (total w (tree_of f 0)) (total w (tree_of f n))) t ∙ sym (linked_outside f next is w p b n can (none_of (count_of (tree_of f 0) p) t))
  ]

  pub linked_low : total w (tree_of (link f p b n) 0) ≤ total w f
  linked_low = omega (arith, total-without w (link f p b n) 0, total-link f p b n is.distinct can w)
