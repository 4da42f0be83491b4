-- In a list in tree order, a node whose tree is left isn't come to again; so only the member that was taken last can be an
-- ancestor of the next one.
use Rattle.std.proofs.Common.{◌≡◌, ℕ, ◌+◌, ◌<◌, ◌≤◌, Bool, true, false, cond, not, ◌&&◌, ◌||◌, List, [], ◌∷◌, ◌++◌, Option, Some, None, refl, sym, ap, subst, ◌∙◌, inl, inr, arith, eqb, nat_lt, append_assoc}
use Rattle.std.specs.List.{list_any}
use Rattle.std.proofs.lemmas.Bool.{lt-ltb, le-ltb}
use Rattle.std.proofs.lemmas.Bool.Decides.{eqb_tells}
use Rattle.node_paths.specs.DomModel.declared.Content.{Content}
use Rattle.node_paths.specs.DomModel.Forest.{Forest, join, count_of, IsDistinct, first_in, preorder, preorder_onto, tree_of}
use Rattle.node_paths.specs.DomModel.Forest.Forest.{Nil, Tree}
use Rattle.node_paths.proofs.DomModel.Links.{eqb_refl_true, join-Nil, tree_of_absent}
use Rattle.node_paths.proofs.DomModel.Totals.{total-without}
use Rattle.node_tests.specs.PointOrder.PointOrder.{is_ancestor}
use Rattle.block_extend.specs.Gaps.{is_below}
use Rattle.block_extend.specs.Gather.{gather_on}
use Rattle.block_extend.specs.Order.{Subsequence, empty, both, left_out}

module _ (f : Forest Content) where
  -- none of them stands below t
  abbrev pub Off : ℕ → List ℕ → Type 0
  Off t [] = Unit {0}
  Off t (x ∷ xs) = (is_ancestor f t x ≡ false) × Off t xs

  -- after the first that doesn't, none does
  abbrev pub Closes : ℕ → List ℕ → Type 0
  Closes t [] = Unit {0}
  Closes t (x ∷ xs) = (is_ancestor f t x ≡ false → Off t xs) × Closes t xs

  abbrev pub Nested : List ℕ → Type 0
  Nested [] = Unit {0}
  Nested (t ∷ xs) = Closes t xs × Nested xs

  -- ---- lists of which members are left out

  off_part : (t : ℕ) (xs ys : List ℕ) → Subsequence xs ys → Off t ys → Off t xs
  off_part t xs ys empty h = tt
  off_part t xs ys (both {xs = us} {ys = vs} x s) h = (h.0, off_part t us vs s h.1)
  off_part t xs ys (left_out {ys = vs} y s) h = off_part t xs vs s h.1

  closes_part : (t : ℕ) (xs ys : List ℕ) → Subsequence xs ys → Closes t ys → Closes t xs
  closes_part t xs ys empty h = tt
  closes_part t xs ys (both {xs = us} {ys = vs} x s) h = (λ e. off_part t us vs s (h.0 e), closes_part t us vs s h.1)
  closes_part t xs ys (left_out {ys = vs} y s) h = closes_part t xs vs s h.1

  pub nested_part : (xs ys : List ℕ) → Subsequence xs ys → Nested ys → Nested xs
  nested_part xs ys empty h = tt
  nested_part xs ys (both {xs = us} {ys = vs} x s) h = (closes_part x us vs s h.0, nested_part us vs s h.1)
  nested_part xs ys (left_out {ys = vs} y s) h = nested_part xs vs s h.1

  -- ---- lists one after another

  off-append : (t : ℕ) (xs ys : List ℕ) → Off t xs → Off t ys → Off t (xs ++ ys)
  off-append t [] ys h k = k
  off-append t (x ∷ xs) ys h k = (h.0, off-append t xs ys h.1 k)

  closes-append : (t : ℕ) (xs ys : List ℕ) → Closes t xs → Off t ys → Closes t (xs ++ ys)
  closes-append t [] ys h k = closes_off ys k
    where
      closes_off : (ys : List ℕ) → Off t ys → Closes t ys
      closes_off [] k = tt
      closes_off (y ∷ ys) k = (λ e. k.1, closes_off ys k.1)
  closes-append t (x ∷ xs) ys h k = (λ e. off-append t xs ys (h.0 e) k, closes-append t xs ys h.1 k)

  -- each of the first is off the second
  abbrev Parted : List ℕ → List ℕ → Type 0
  Parted [] ys = Unit {0}
  Parted (t ∷ xs) ys = Off t ys × Parted xs ys

  nested-append : (xs ys : List ℕ) → Nested xs → Nested ys → Parted xs ys → Nested (xs ++ ys)
  nested-append [] ys h k p = k
  nested-append (t ∷ xs) ys h k p = (closes-append t xs ys h.0 p.0, nested-append xs ys h.1 k p.1)

  -- ---- taking

  -- none of those taken before the last one has a descendant among the rest, and nor has the last one once its tree is left
  abbrev pub Settled : List ℕ → List ℕ → Type 0
  Settled [] xs = Unit {0}
  Settled (t ∷ taken) xs = Closes t xs × Parted taken xs

  any_off : (taken : List ℕ) (x : ℕ) (xs : List ℕ) → Parted taken (x ∷ xs) → list_any (λ t. is_ancestor f t x) taken ≡ false
  any_off [] x xs p = refl
  any_off (t ∷ taken) x xs p = ap (λ b. b || list_any (λ t. is_ancestor f t x) taken) p.0.0 ∙ any_off taken x xs p.1

  parted_on : (taken : List ℕ) (x : ℕ) (xs : List ℕ) → Parted taken (x ∷ xs) → Parted taken xs
  parted_on [] x xs p = tt
  parted_on (t ∷ taken) x xs p = (p.0.1, parted_on taken x xs p.1)

  or_false : (a : Bool) → (a || false) ≡ a
  or_false true = refl
  or_false false = refl

  last_tells : (taken : List ℕ) (x : ℕ) (xs : List ℕ) → Settled taken (x ∷ xs) → list_any (λ t. is_ancestor f t x) taken ≡ is_below f (first_in taken) x
  last_tells [] x xs s = refl
  last_tells (t ∷ taken) x xs s = ap (λ b. is_ancestor f t x || b) (any_off taken x xs s.1) ∙ or_false (is_ancestor f t x)

  passed_on : (taken : List ℕ) (x : ℕ) (xs : List ℕ) → Settled taken (x ∷ xs) → Settled taken xs
  passed_on [] x xs s = tt
  passed_on (t ∷ taken) x xs s = (s.0.1, parted_on taken x xs s.1)

  taken_on : (taken : List ℕ) (x : ℕ) (xs : List ℕ) → Closes x xs → Settled taken (x ∷ xs) → is_below f (first_in taken) x ≡ false → Settled (x ∷ taken) xs
  taken_on [] x xs own s e = (own, tt)
  taken_on (t ∷ taken) x xs own s e = (own, (s.0.0 e, parted_on taken x xs s.1))

  -- gathering that looks at the one taken last alone
  abbrev pub gather_after : Option ℕ → List ℕ → List ℕ
  gather_after last [] = []
  gather_after last (x ∷ xs) = cond (is_below f last x) (gather_after last xs) (x ∷ gather_after (Some x) xs)

  pub gather_same : (taken xs : List ℕ) → Nested xs → Settled taken xs → gather_on f taken xs ≡ gather_after (first_in taken) xs
  gather_same taken [] n s = refl
  gather_same taken (x ∷ xs) n s =
      ap (λ b. cond b (gather_on f taken xs) (x ∷ gather_on f (x ∷ taken) xs)) (last_tells taken x xs s)
      ∙ by_last (is_below f (first_in taken) x) refl (gather_same taken xs n.1 (passed_on taken x xs s)) (λ e. gather_same (x ∷ taken) xs n.1 (taken_on taken x xs n.0 s e))
    where
      by_last : (b : Bool) → is_below f (first_in taken) x ≡ b → gather_on f taken xs ≡ gather_after (first_in taken) xs → (is_below f (first_in taken) x ≡ false → gather_on f (x ∷ taken) xs ≡ gather_after (Some x) xs)
          → cond b (gather_on f taken xs) (x ∷ gather_on f (x ∷ taken) xs) ≡ cond b (gather_after (first_in taken) xs) (x ∷ gather_after (Some x) xs)
      by_last true e on taken_in = on
      by_last false e on taken_in = ap (λ ys. x ∷ ys) (taken_in e)

  -- ---- tree order

  preorder_onto_is : (g : Forest Content) (ls : List ℕ) → preorder_onto g ls ≡ preorder g ++ ls
  preorder_onto_is Nil ls = refl
  preorder_onto_is (Tree l c ks rest) ls =
      ap (λ xs. l ∷ xs)
      (preorder_onto_is ks (preorder_onto rest ls)
      ∙ (ap (λ xs. preorder ks ++ xs) (preorder_onto_is rest ls)
      ∙ (sym (append_assoc (preorder ks) (preorder rest) ls)
      ∙ ap (λ xs. xs ++ ls) (sym (preorder_onto_is ks (preorder rest))))))

  preorder_is : (l : ℕ) (c : Content) (ks rest : Forest Content) → preorder (Tree l c ks rest) ≡ l ∷ (preorder ks ++ preorder rest)
  preorder_is l c ks rest = ap (λ xs. l ∷ xs) (preorder_onto_is ks (preorder rest))

  own_count : (l : ℕ) (c : Content) (ks rest : Forest Content) → 0 < count_of (Tree l c ks rest) l
  own_count l c ks rest = rw (eqb_refl_true l) (omega arith)

  -- what holds of each node of a forest holds of each label in tree order
  module _ (t : ℕ) where
    off_all : (g : Forest Content) → ((x : ℕ) → 0 < count_of g x → is_ancestor f t x ≡ false) → Off t (preorder g)
    off_all Nil h = tt
    off_all (Tree l c ks rest) h =
        subst (Off t) (sym (preorder_is l c ks rest))
        (h l (own_count l c ks rest), off-append t (preorder ks) (preorder rest) (off_all ks (λ x k. h x (omega (arith, k)))) (off_all rest (λ x k. h x (omega (arith, k)))))

    abbrev On : List ℕ → Type 0
    On [] = Unit {0}
    On (x ∷ xs) = (is_ancestor f t x ≡ true) × On xs

    on-append : (xs ys : List ℕ) → On xs → On ys → On (xs ++ ys)
    on-append [] ys h k = k
    on-append (x ∷ xs) ys h k = (h.0, on-append xs ys h.1 k)

    on_all : (g : Forest Content) → ((x : ℕ) → 0 < count_of g x → is_ancestor f t x ≡ true) → On (preorder g)
    on_all Nil h = tt
    on_all (Tree l c ks rest) h =
        subst On (sym (preorder_is l c ks rest))
        (h l (own_count l c ks rest), on-append (preorder ks) (preorder rest) (on_all ks (λ x k. h x (omega (arith, k)))) (on_all rest (λ x k. h x (omega (arith, k)))))

    closes_on : (xs : List ℕ) → On xs → Closes t xs
    closes_on [] h = tt
    closes_on (x ∷ xs) h = (λ e. absurd (let u = h.0 in let v = e in cc), closes_on xs h.1)

  parted-append : (xs ys zs : List ℕ) → Parted xs zs → Parted ys zs → Parted (xs ++ ys) zs
  parted-append [] ys zs h k = k
  parted-append (x ∷ xs) ys zs h k = (h.0, parted-append xs ys zs h.1 k)

  parted_all : (g : Forest Content) (ys : List ℕ) → ((t : ℕ) → 0 < count_of g t → Off t ys) → Parted (preorder g) ys
  parted_all Nil ys h = tt
  parted_all (Tree l c ks rest) ys h =
      subst (λ xs. Parted xs ys) (sym (preorder_is l c ks rest))
      (h l (own_count l c ks rest), parted-append (preorder ks) (preorder rest) ys (parted_all ks ys (λ t k. h t (omega (arith, k)))) (parted_all rest ys (λ t k. h t (omega (arith, k)))))

  -- ---- the trees of nodes

  -- each node of g has its whole tree there
  abbrev Whole : Forest Content → Type 0
  Whole g = (t : ℕ) → 0 < count_of g t → tree_of f t ≡ tree_of g t

  within_off : (t x : ℕ) (g : Forest Content) → tree_of f t ≡ g → count_of g x ≡ 0 → is_ancestor f t x ≡ false
  within_off t x g e none =
      let out : nat_lt 0 (count_of (tree_of f t) x) ≡ false = le-ltb 0 (count_of (tree_of f t) x) (omega (arith, ap (λ h. count_of h x) e, none)) in
      ap (λ b. not (eqb t x) && b) out ∙ and_false (not (eqb t x))
    where
      and_false : (a : Bool) → (a && false) ≡ false
      and_false true = refl
      and_false false = refl

  within_on : (t x : ℕ) (g : Forest Content) → eqb t x ≡ false → tree_of f t ≡ g → 0 < count_of g x → is_ancestor f t x ≡ true
  within_on t x g other e some =
      let in_it : nat_lt 0 (count_of (tree_of f t) x) ≡ true = lt-ltb 0 (count_of (tree_of f t) x) (omega (arith, ap (λ h. count_of h x) e, some)) in
      ap (λ b. not b && nat_lt 0 (count_of (tree_of f t) x)) other ∙ in_it

  count_in_tree : (g : Forest Content) (t x : ℕ) → count_of (tree_of g t) x ≤ count_of g x
  count_in_tree g t x = omega (arith, total-without (λ m _. cond (eqb m x) 1 0) g t)

  module _ (l : ℕ) (c : Content) (ks rest : Forest Content) (once : IsDistinct (Tree l c ks rest)) (whole : Whole (Tree l c ks rest)) where
    own_tree : tree_of f l ≡ Tree l c ks Nil
    own_tree = whole l (own_count l c ks rest) ∙ rw (eqb_refl_true l) refl

    once_ks : IsDistinct ks
    once_ks x = omega (arith, once x)

    once_rest : IsDistinct rest
    once_rest x = omega (arith, once x)

    not_top : (x : ℕ) → 0 < count_of ks x + count_of rest x → eqb l x ≡ false
    not_top x h = elim (eqb_tells l x) [ inl (t, _) ↦ absurd (let o = rw t at (once x) in omega (arith, o, h)) | inr (t, _) ↦ t ]

    whole_ks : Whole ks
    whole_ks t here =
        let top = not_top t (omega (arith, here)) in
        let none : count_of rest t ≡ 0 = omega (arith, once t, here) in
        whole t (omega (arith, here)) ∙ rw top (ap (λ g. join (tree_of ks t) g) (tree_of_absent rest t none) ∙ join-Nil (tree_of ks t))

    whole_rest : Whole rest
    whole_rest t here =
        let top = not_top t (omega (arith, here)) in
        let none : count_of ks t ≡ 0 = omega (arith, once t, here) in
        whole t (omega (arith, here)) ∙ rw top (ap (λ g. join g (tree_of rest t)) (tree_of_absent ks t none))

    kids_on : (x : ℕ) → 0 < count_of ks x → is_ancestor f l x ≡ true
    kids_on x here = within_on l x (Tree l c ks Nil) (not_top x (omega (arith, here))) own_tree (omega (arith, here))

    rest_off : (x : ℕ) → 0 < count_of rest x → is_ancestor f l x ≡ false
    rest_off x here =
        let top = not_top x (omega (arith, here)) in
        within_off l x (Tree l c ks Nil) own_tree (rw top (omega (arith, once x, here)))

    kids_part : (t : ℕ) → 0 < count_of ks t → Off t (preorder rest)
    kids_part t here = off_all t rest (λ x far. within_off t x (tree_of ks t) (whole_ks t here) (omega (arith, once x, far, count_in_tree ks t x)))

  pub preorder_nested : (g : Forest Content) → IsDistinct g → Whole g → Nested (preorder g)
  preorder_nested Nil once whole = tt
  preorder_nested (Tree l c ks rest) once whole =
      subst Nested (sym (preorder_is l c ks rest)) (
        closes-append l (preorder ks) (preorder rest) (closes_on l (preorder ks) (on_all l ks (kids_on l c ks rest once whole))) (off_all l rest (rest_off l c ks rest once whole)),
        nested-append (preorder ks) (preorder rest) (preorder_nested ks (once_ks l c ks rest once whole) (whole_ks l c ks rest once whole)) (preorder_nested rest (once_rest l c ks rest once whole) (whole_rest l c ks rest once whole))
            (parted_all ks (preorder rest) (kids_part l c ks rest once whole)),
      )

-- a list in tree order
pub gather_in_order : (f : Forest Content) → IsDistinct f → (xs : List ℕ) → Subsequence xs (preorder f) → gather_on f [] xs ≡ gather_after f None xs
gather_in_order f once xs among = gather_same f [] xs (nested_part f xs (preorder f) among (preorder_nested f f once (λ t here. refl))) tt
