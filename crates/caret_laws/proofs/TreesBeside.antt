-- The trees of a forest where another one goes out of them or comes into them.
use Rattle.std.proofs.Common.{◌≡◌, ℕ, ◌+◌, ◌<◌, cond, eqb, Option, Some, refl, sym, ap, subst, ◌∙◌, inl, inr, arith}
use Rattle.std.proofs.lemmas.Bool.Decides.{eqb_tells}
use Rattle.edit_model.specs.DomModel.declared.Content.{Content}
use Rattle.edit_model.specs.DomModel.Forest.{Forest, join, count_of, tree_of, parent_of, without, put_under, put_rising, link, unlink, IsDistinct, CanPut}
use Rattle.edit_model.specs.DomModel.Forest.Forest.{Nil, Tree}
use Rattle.edit_model.proofs.DomModel.Totals.{total-join, total-without, put_under_nowhere}
use Rattle.edit_model.proofs.DomModel.Links.{tree_of_absent, tree, tree_n}
use Rattle.edit_model.proofs.DomModel.DropTree.{without_absent}
use Rattle.edit_model.proofs.DomModel.Within.{within_self, within_root}
use Rattle.edit_model.proofs.Trees.{none_or_some, tree_of-put_other, tree_of-rising_other, tree_of-without_other}
use Rattle.edit_laws.proofs.Patterns.{without-join, put_under-join}

-- ---- two lists of trees, of which one at most has a label

without_first : (f g : Forest Content) (n : ℕ) → count_of g n ≡ 0 → without (join f g) n ≡ join (without f n) g
without_first Nil g n none = without_absent g n none
without_first (Tree m c ks rest) g n none = elim (eqb_tells m n) [
  | inl (t, _) ↦ rw t refl
  | inr (t, _) ↦ rw (t, without_first rest g n none) refl
]

without_both : (f g : Forest Content) (n : ℕ) → count_of f n + count_of g n < 2 → without (join f g) n ≡ join (without f n) (without g n)
without_both f g n few = elim (none_or_some (count_of f n)) [
  | inl none ↦ without-join f g n none ∙ ap (λ h. join h (without g n)) (sym (without_absent f n none))
  | inr some ↦ (let none : count_of g n ≡ 0 = omega (arith, few, some) in without_first f g n none ∙ ap (join (without f n)) (sym (without_absent g n none)))
]

put_first : (f g : Forest Content) (p : ℕ) (b : Option ℕ) (t : Forest Content) → count_of g p ≡ 0 → put_under (join f g) p b t ≡ join (put_under f p b t) g
put_first Nil g p b t none = put_under_nowhere g p b t none
put_first (Tree m c ks rest) g p b t none = elim (eqb_tells m p) [
  | inl (u, _) ↦ rw u refl
  | inr (u, _) ↦ rw (u, put_first rest g p b t none) refl
]

put_both : (f g : Forest Content) (p : ℕ) (b : Option ℕ) (t : Forest Content) → count_of f p + count_of g p < 2 → put_under (join f g) p b t ≡ join (put_under f p b t) (put_under g p b t)
put_both f g p b t few = elim (none_or_some (count_of f p)) [
  | inl none ↦ put_under-join f g p b t none ∙ ap (λ h. join h (put_under g p b t)) (sym (put_under_nowhere f p b t none))
  | inr some ↦ (let none : count_of g p ≡ 0 = omega (arith, few, some) in put_first f g p b t none ∙ ap (join (put_under f p b t)) (sym (put_under_nowhere g p b t none)))
]

part : (f : Forest Content) (n l : ℕ) → count_of (without f n) l + count_of (tree_of f n) l ≡ count_of f l
part f n l = total-without (λ m _. cond (eqb m l) 1 0) f n

-- ---- a tree taken out

tree_of-without : (f : Forest Content) (n l : ℕ) → IsDistinct f → count_of (tree_of f n) l ≡ 0 → tree_of (without f n) l ≡ without (tree_of f l) n
tree_of-without Nil n l once off = refl
tree_of-without (Tree m c ks rest) n l once off =
    let once_ks : IsDistinct ks = λ k. (let o = once k in omega (arith, o)) in
    let once_rest : IsDistinct rest = λ k. (let o = once k in omega (arith, o)) in
    let o = once n in
    elim (eqb_tells m n) [
      | inl (t, _) ↦ (
          let off' = rw t at off in
          let o' = rw t at o in
          elim (eqb_tells m l) [
            | inl (u, _) ↦ absurd (let off2 = rw u at off' in omega (arith, off2))
            | inr (u, _) ↦ (
                let off2 = rw u at off' in
                rw (t, u, tree_of_absent ks l (omega (arith, off2)))
                (sym (without_absent (tree_of rest l) n (omega (arith, o', part rest l n)))))
          ])
      | inr (t, _) ↦ (
          let off' = rw t at off in
          let offs = total-join (λ k _. cond (eqb k l) 1 0) (tree_of ks n) (tree_of rest n) in
          elim (eqb_tells m l) [
            | inl (u, _) ↦ rw (t, u) (rw t refl)
            | inr (u, _) ↦
                rw (t, u, tree_of-without ks n l once_ks (omega (arith, off', offs)), tree_of-without rest n l once_rest (omega (arith, off', offs)))
                (sym (without_both (tree_of ks l) (tree_of rest l) n (omega (arith, o, part ks l n, part rest l n))))
          ])
    ]

-- a tree that doesn't hold l is made loose: it goes out of the tree of l, where it stands there
pub tree_of-unlinked : (f : Forest Content) (o n l : ℕ) → IsDistinct f → parent_of f n ≡ Some o → count_of (tree_of f n) l ≡ 0 → tree_of (unlink f n) l ≡ without (tree_of f l) n
tree_of-unlinked f o n l once child off =
    let t = tree_n f o n once child in
    let none : count_of (Tree n t.0 t.1 Nil) l ≡ 0 = ap (λ g. count_of g l) (sym t.2) ∙ off in
    subst (λ g. tree_of (put_rising (without f n) n g) l ≡ without (tree_of f l) n) (sym t.2)
    (tree_of-rising_other (without f n) n t.0 t.1 l none ∙ tree_of-without f n l once off)

-- ---- a tree put in

tree_of-put : (f : Forest Content) (p : ℕ) (b : Option ℕ) (n : ℕ) (d : Content) (js : Forest Content) (l : ℕ) → IsDistinct f → count_of (Tree n d js Nil) l ≡ 0 → tree_of (put_under f p b (Tree n d js Nil)) l ≡ put_under (tree_of f l) p b (Tree n d js Nil)
tree_of-put Nil p b n d js l once none = refl
tree_of-put (Tree m c ks rest) p b n d js l once none =
    let once_ks : IsDistinct ks = λ k. (let o = once k in omega (arith, o)) in
    let once_rest : IsDistinct rest = λ k. (let o = once k in omega (arith, o)) in
    let o = once p in
    elim (eqb_tells m l) [
      | inl (u, _) ↦ elim (eqb_tells m p) [
        | inl (t, _) ↦ rw (t, u) (rw t refl)
        | inr (t, _) ↦ rw (t, u) (rw t refl)
      ]
      | inr (u, _) ↦ elim (eqb_tells m p) [
        | inl (t, _) ↦ (
            let o' = rw t at o in
            let out : count_of (tree_of (Tree m c ks rest) l) p ≡ 0 = rw u (omega (arith, o', part ks l p, part rest l p, total-join (λ k _. cond (eqb k p) 1 0) (tree_of ks l) (tree_of rest l))) in
            tree_of-put_other (Tree m c ks rest) p b n d js l none out ∙ sym (put_under_nowhere (tree_of (Tree m c ks rest) l) p b (Tree n d js Nil) out))
        | inr (t, _) ↦
            rw (t, u, tree_of-put ks p b n d js l once_ks none, tree_of-put rest p b n d js l once_rest none)
            (sym (put_both (tree_of ks l) (tree_of rest l) p b (Tree n d js Nil) (omega (arith, o, part ks l p, part rest l p))))
      ]
    ]

-- a tree that doesn't hold l is linked: it comes into the tree of l, where its parent stands there
pub tree_of-linked : (f : Forest Content) (p : ℕ) (b : Option ℕ) (n l : ℕ) → IsDistinct f → CanPut f p b n → count_of (tree_of f n) l ≡ 0 → tree_of (link f p b n) l ≡ put_under (tree_of f l) p b (tree_of f n)
tree_of-linked f p b n l once can off =
    let t = tree f p b n once can in
    let none : count_of (Tree n t.0 t.1 Nil) l ≡ 0 = ap (λ g. count_of g l) (sym t.2) ∙ off in
    let left : IsDistinct (without f n) = λ k. omega (arith, once k, part f n k) in
    subst (λ g. tree_of (put_under (without f n) p b g) l ≡ put_under (tree_of f l) p b g) (sym t.2)
    (tree_of-put (without f n) p b n t.0 t.1 l left none ∙ ap (λ g. put_under g p b (Tree n t.0 t.1 Nil)) (tree_of-without_other f n l apart off))
  where
    apart : count_of (tree_of f l) n ≡ 0
    apart = elim (none_or_some (count_of f l)) [
      | inl none ↦ ap (λ g. count_of g n) (tree_of_absent f l none)
      | inr here ↦ elim (none_or_some (count_of (tree_of f l) n)) [
        | inl none ↦ none
        | inr some ↦ absurd (within_root f l once here n (λ e. (
            let own : 0 < count_of (tree_of f n) l = subst (λ k. 0 < count_of (tree_of f n) k) (sym e) (within_self f n once can.node) in
            omega (arith, own, off))) can.loose some)
      ]
    ]
