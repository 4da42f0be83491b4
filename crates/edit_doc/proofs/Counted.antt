-- The numbers of the document after a tree is linked or made loose.
use Rattle.std.proofs.Common.{◌≡◌, ℕ, ◌+◌, cond, eqb, Option, Some, refl, ap, ◌∙◌, inl, inr, arith}
use Rattle.std.proofs.lemmas.Bool.Decides.{eqb_tells}
use Rattle.edit_model.specs.DomModel.declared.Content.{Content}
use Rattle.edit_model.specs.DomModel.Forest.{Forest, total, count_of, tree_of, parent_of, put_under, link, unlink, CanPut, IsWithin}
use Rattle.edit_model.specs.DomModel.Forest.Forest.{Nil, Tree}
use Rattle.edit_model.proofs.DomModel.DropTree.{without_absent}
use Rattle.edit_model.proofs.DomModel.Totals.{total-without, total-put_under}
use Rattle.edit_model.specs.Valid.{IsForest}
use Rattle.edit_model.proofs.Documents.{document-link, document-unlink}
use Rattle.edit_model.proofs.Trees.{tree_of-inside}

pub put_under-absent : (f : Forest Content) (p : ℕ) (b : Option ℕ) (t : Forest Content) → count_of f p ≡ 0 → put_under f p b t ≡ f
put_under-absent Nil p b t none = refl
put_under-absent (Tree m c ks rest) p b t none = elim (eqb_tells m p) [
  | inl (e, _) ↦ absurd (let none' = rw e at none in omega (arith, none'))
  | inr (e, _) ↦ (let none' = rw e at none in rw e (λ i. Tree m c (put_under-absent ks p b t (omega (arith, none')) i) (put_under-absent rest p b t (omega (arith, none')) i)))
]

module _ (f : Forest Content) (next : ℕ) (is : IsForest f next) (w : ℕ → Content → ℕ) where
  once_inside : (p : ℕ) → IsWithin f 0 p → count_of (tree_of f 0) p ≡ 1
  once_inside p h = (let once = is.distinct p in omega (arith, h, once, total-without (λ m _. cond (eqb m p) 1 0) f 0))

  pub linked_inside : (p : ℕ) (b : Option ℕ) (n : ℕ) → CanPut f p b n → IsWithin f 0 p → total w (tree_of (link f p b n) 0) ≡ total w (tree_of f 0) + total w (tree_of f n)
  linked_inside p b n can h = ap (total w) (document-link f next is p b n can) ∙ total-put_under w (tree_of f 0) p b (tree_of f n) (once_inside p h)

  pub linked_outside : (p : ℕ) (b : Option ℕ) (n : ℕ) → CanPut f p b n → count_of (tree_of f 0) p ≡ 0 → total w (tree_of (link f p b n) 0) ≡ total w (tree_of f 0)
  linked_outside p b n can none = ap (total w) (document-link f next is p b n can ∙ put_under-absent (tree_of f 0) p b (tree_of f n) none)

  pub unlinked_inside : (o n : ℕ) → parent_of f n ≡ Some o → IsWithin f 0 n → total w (tree_of (unlink f n) 0) + total w (tree_of f n) ≡ total w (tree_of f 0)
  unlinked_inside o n child h =
      let e = ap (total w) (document-unlink f next is o n child) in
      let t = ap (total w) (tree_of-inside f 0 n is.distinct h) in
      omega (arith, e, t, total-without w (tree_of f 0) n)

  pub unlinked_outside : (o n : ℕ) → parent_of f n ≡ Some o → count_of (tree_of f 0) n ≡ 0 → total w (tree_of (unlink f n) 0) ≡ total w (tree_of f 0)
  unlinked_outside o n child none = ap (total w) (document-unlink f next is o n child ∙ without_absent (tree_of f 0) n none)
