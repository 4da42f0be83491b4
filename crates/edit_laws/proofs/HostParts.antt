-- What is told of the nodes of a forest, one after another, is what is told before the children of a node, then what is told of
-- them, and then what is told after them; and the first and the last of the three don't depend on the children.
use Rattle.std.proofs.Common.{◌≡◌, ℕ, ◌+◌, ◌<◌, true, false, cond, eqb, List, [], ◌++◌, refl, sym, ap, ◌∙◌, inl, inr, arith, append_assoc}
use Rattle.std.specs.Prelude.{nat_lt}
use Rattle.std.proofs.lemmas.Bool.Decides.{eqb_tells}
use Rattle.std.proofs.lemmas.Bool.{le-ltb, lt-ltb}
use Rattle.edit_model.specs.DomModel.declared.Content.{Content}
use Rattle.edit_model.specs.DomModel.Forest.{Forest, count_of, tree_of, IsDistinct}
use Rattle.edit_model.specs.DomModel.Forest.Forest.{Nil, Tree}
use Rattle.edit_model.proofs.DomModel.Links.{join-Nil, tree_of_absent}
use Rattle.edit_model.specs.Outside.{hollowed}
use Rattle.edit_model.proofs.Hollow.{hollowed_absent}
use Rattle.edit_model.proofs.Trees.{none_or_some}
use Rattle.edit_laws.specs.BelowHost.{below}

distinct_kids : (m : ℕ) (c : Content) (ks rest : Forest Content) → IsDistinct (Tree m c ks rest) → IsDistinct ks
distinct_kids m c ks rest once l = omega (arith, once l)

distinct_rest : (m : ℕ) (c : Content) (ks rest : Forest Content) → IsDistinct (Tree m c ks rest) → IsDistinct rest
distinct_rest m c ks rest once l = omega (arith, once l)

-- a node of a list of trees is the first root, or below it, or beyond it
data Where (m : ℕ) (ks rest : Forest Content) (h : ℕ) : Type 0 where
  at_root : eqb m h ≡ true → count_of ks h ≡ 0 → count_of rest h ≡ 0 → Where m ks rest h
  among_kids : eqb m h ≡ false → nat_lt 0 (count_of ks h) ≡ true → 0 < count_of ks h → count_of rest h ≡ 0 → Where m ks rest h
  beyond : eqb m h ≡ false → nat_lt 0 (count_of ks h) ≡ false → count_of ks h ≡ 0 → 0 < count_of rest h → Where m ks rest h

placed : (m : ℕ) (c : Content) (ks rest : Forest Content) (h : ℕ) → IsDistinct (Tree m c ks rest) → 0 < count_of (Tree m c ks rest) h → Where m ks rest h
placed m c ks rest h once here = elim (eqb_tells m h) [
  | inl (t, _) ↦ (
      let single : count_of (Tree m c ks rest) h ≡ 1 + (count_of ks h + count_of rest h) = rw t (omega arith) in
      at_root t (omega (arith, single, once h)) (omega (arith, single, once h)))
  | inr (t, _) ↦ (
      let sum : count_of (Tree m c ks rest) h ≡ count_of ks h + count_of rest h = rw t (omega arith) in
      elim (none_or_some (count_of ks h)) [
        | inl none ↦ beyond t (le-ltb 0 (count_of ks h) (omega (arith, none))) none (omega (arith, sum, none, here))
        | inr some ↦ among_kids t (lt-ltb 0 (count_of ks h) some) some (omega (arith, sum, some, once h))
      ])
]

pub host_stays : (h : ℕ) (f : Forest Content) → 0 < count_of f h → 0 < count_of (hollowed f h) h
unfolding hollowed
host_stays h Nil here = here
host_stays h (Tree m c ks rest) here = elim (eqb_tells m h) [
  | inl (t, _) ↦ rw t (rw t (omega arith))
  | inr (t, _) ↦ (
      let sum : count_of (Tree m c ks rest) h ≡ count_of ks h + count_of rest h = rw t (omega arith) in
      let sum' : count_of (Tree m c (hollowed ks h) (hollowed rest h)) h ≡ count_of (hollowed ks h) h + count_of (hollowed rest h) h = rw t (omega arith) in
      rw t (elim (none_or_some (count_of ks h)) [
        | inl none ↦ (let k = host_stays h rest (omega (arith, sum, none, here)) in omega (arith, sum', k))
        | inr some ↦ (let k = host_stays h ks some in omega (arith, sum', k))
      ]))
]

-- what is told of a node before its children, and after them
module _ {A : Type 0} (opens closes : ℕ → Content → List A) where
  -- what is told of all nodes
  abbrev pub told : Forest Content → List A
  told Nil = []
  told (Tree m c ks rest) = opens m c ++ (told ks ++ (closes m c ++ told rest))

  module _ (h : ℕ) where
    -- what is told before the children of h, and after them
    abbrev pub lead : Forest Content → List A
    lead Nil = []
    lead (Tree m c ks rest) =
        cond (eqb m h) (opens m c) (cond (nat_lt 0 (count_of ks h)) (opens m c ++ lead ks) (opens m c ++ (told ks ++ (closes m c ++ lead rest))))

    abbrev pub trail : Forest Content → List A
    trail Nil = []
    trail (Tree m c ks rest) = cond (eqb m h) (closes m c ++ told rest) (cond (nat_lt 0 (count_of ks h)) (trail ks ++ (closes m c ++ told rest)) (trail rest))

    pub parts : (f : Forest Content) → IsDistinct f → 0 < count_of f h → told f ≡ lead f ++ (told (below f h) ++ trail f)
    parts Nil once here = absurd (omega (arith, here))
    parts (Tree m c ks rest) once here = by (parts ks (distinct_kids m c ks rest once)) (parts rest (distinct_rest m c ks rest once)) (placed m c ks rest h once here)
      where
        by : (0 < count_of ks h → told ks ≡ lead ks ++ (told (below ks h) ++ trail ks)) → (0 < count_of rest h → told rest ≡ lead rest ++ (told (below rest h) ++ trail rest)) → Where m ks rest h → told (Tree m c ks rest) ≡ lead (Tree m c ks rest) ++ (told (below (Tree m c ks rest) h) ++ trail (Tree m c ks rest))
        by kids others (at_root t no_kid no_rest) = rw t refl
        by kids others (among_kids t u kid no_rest) =
            let deep = kids kid in
            let none = tree_of_absent rest h no_rest in
            let alone = join-Nil (tree_of ks h) in
            rw (t, u, none, alone, deep) (simp append_assoc)
        by kids others (beyond t u none some) =
            let on = others some in
            let empty = tree_of_absent ks h none in
            rw (t, u, empty, on) (simp append_assoc)

    -- ---- they don't depend on the children of h

    same_lead : (f : Forest Content) → IsDistinct f → 0 < count_of f h → lead (hollowed f h) ≡ lead f
    unfolding hollowed
    same_lead Nil once here = refl
    same_lead (Tree m c ks rest) once here = by (same_lead ks (distinct_kids m c ks rest once)) (same_lead rest (distinct_rest m c ks rest once)) (placed m c ks rest h once here)
      where
        by : (0 < count_of ks h → lead (hollowed ks h) ≡ lead ks) → (0 < count_of rest h → lead (hollowed rest h) ≡ lead rest) → Where m ks rest h → lead (cond (eqb m h) (Tree m c Nil (hollowed rest h)) (Tree m c (hollowed ks h) (hollowed rest h))) ≡ lead (Tree m c ks rest)
        by kids others (at_root t no_kid no_rest) = rw t (rw t refl)
        by kids others (among_kids t u kid no_rest) =
            let deep = kids kid in
            let still = lt-ltb 0 (count_of (hollowed ks h) h) (host_stays h ks kid) in
            rw t (rw (t, u, still, deep) refl)
        by kids others (beyond t u none some) =
            let on = others some in
            let same = hollowed_absent ks h none in
            rw t (rw (t, same, u, on) refl)

    same_trail : (f : Forest Content) → IsDistinct f → 0 < count_of f h → trail (hollowed f h) ≡ trail f
    unfolding hollowed
    same_trail Nil once here = refl
    same_trail (Tree m c ks rest) once here = by (same_trail ks (distinct_kids m c ks rest once)) (same_trail rest (distinct_rest m c ks rest once)) (placed m c ks rest h once here)
      where
        by : (0 < count_of ks h → trail (hollowed ks h) ≡ trail ks) → (0 < count_of rest h → trail (hollowed rest h) ≡ trail rest) → Where m ks rest h → trail (cond (eqb m h) (Tree m c Nil (hollowed rest h)) (Tree m c (hollowed ks h) (hollowed rest h))) ≡ trail (Tree m c ks rest)
        by kids others (at_root t no_kid no_rest) =
            let same = hollowed_absent rest h no_rest in
            rw t (rw (t, same) refl)
        by kids others (among_kids t u kid no_rest) =
            let deep = kids kid in
            let still = lt-ltb 0 (count_of (hollowed ks h) h) (host_stays h ks kid) in
            let same = hollowed_absent rest h no_rest in
            rw t (rw (t, u, still, deep, same) refl)
        by kids others (beyond t u none some) =
            let on = others some in
            let same = hollowed_absent ks h none in
            rw t (rw (t, same, u, on) refl)

    -- where the same lies outside, the same is told before and after
    pub parts_again : (f g : Forest Content) → IsDistinct f → IsDistinct g → 0 < count_of f h → 0 < count_of g h → hollowed g h ≡ hollowed f h → told g ≡ lead f ++ (told (below g h) ++ trail f)
    parts_again f g once_f once_g in_f in_g same =
        let front : lead g ≡ lead f = sym (same_lead g once_g in_g) ∙ (ap lead same ∙ same_lead f once_f in_f) in
        let end : trail g ≡ trail f = sym (same_trail g once_g in_g) ∙ (ap trail same ∙ same_trail f once_f in_f) in
        parts g once_g in_g ∙ (ap (λ x. x ++ (told (below g h) ++ trail g)) front ∙ ap (λ x. lead f ++ (told (below g h) ++ x)) end)
