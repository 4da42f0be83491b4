-- Which of two nodes comes first in tree order: an ancestor before what is below it, and else as the
-- two siblings do that hold them.
use Rattle.std.proofs.Common.{◌≡◌, ◌≢◌, ◌⊎◌, ℕ, zero, suc, ◌+◌, ◌<◌, ◌≤◌, Bool, true, false, cond, ◌&&◌, ◌||◌, List, [], ◌∷◌, ◌++◌, length, Some, None, refl, sym, ap, subst, ◌∙◌, inl, inr, arith, eqb, nat_lt}
use Rattle.std.proofs.lemmas.Bool.Decides.{eqb_tells, nat_tests}
use Rattle.std.specs.Option.{option_map_or, option_and_then}
use Rattle.dom_model.specs.Forest.{Forest, Seen, join, tops, count_of, IsDistinct, parent_of, children_of, times, tree_of, IsWithin, preorder_onto, preorder}
use Rattle.dom_model.specs.Forest.Forest.{Nil, Tree}
use Rattle.dom_model.specs.Places.{place_in, first_among, first_of_two}
use Rattle.dom_model.proofs.Totals.{total-join, total-without}
use Rattle.dom_model.proofs.Stands.{top_stands, parent_stands, seek_Stands, times-tops}
use Rattle.dom_model.proofs.Lists.{times-append}
use Rattle.dom_model.proofs.Links.{seen, join-Nil, tree_of_absent, times-children_of, child_of_parent, parent_count, eqb_refl_true}
use Rattle.dom_model.proofs.Parts.{Part, Part_here, Part_stands}

-- ---- lists

either_test : (v w : Bool) → (v || w) ≡ (w || v)
either_test true true = refl
either_test true false = refl
either_test false true = refl
either_test false false = refl

both_test : (v w : Bool) → (v && w) ≡ (w && v)
both_test true true = refl
both_test true false = refl
both_test false true = refl
both_test false false = refl

first_among-swap : (xs : List ℕ) (a b : ℕ) → first_among xs a b ≡ first_among xs b a
first_among-swap [] a b = refl
first_among-swap (x ∷ xs) a b = rw (either_test (eqb x a) (eqb x b), first_among-swap xs a b) refl

place_here : (pre : List ℕ) (x : ℕ) (ys : List ℕ) → times pre x ≡ 0 → place_in (pre ++ x ∷ ys) x ≡ length pre
place_here [] x ys none = rw (eqb_refl_true x) refl
place_here (y ∷ pre) x ys none = elim (eqb_tells y x) [
  | inl (t, _) ↦ absurd (let n = rw t at none in omega (arith, n))
  | inr (t, _) ↦ (let n = rw t at none in rw t (omega (arith, place_here pre x ys (omega (arith, n)))))
]

place_earlier : (pre : List ℕ) (y : ℕ) (ys : List ℕ) → 0 < times pre y → place_in (pre ++ ys) y < length pre
place_earlier [] y ys some = absurd (omega (arith, some))
place_earlier (x ∷ pre) y ys some = elim (eqb_tells x y) [
  | inl (t, _) ↦ rw t (omega arith)
  | inr (t, _) ↦ (let s = rw t at some in rw t (omega (arith, place_earlier pre y ys (omega (arith, s)))))
]

-- labels of a list at one place are one
same_place : (xs : List ℕ) (x y : ℕ) → 0 < times xs x → 0 < times xs y → place_in xs x ≡ place_in xs y → x ≡ y
same_place [] x y hx hy e = absurd (omega (arith, hx))
same_place (z ∷ xs) x y hx hy e = elim (eqb_tells z x) [
  | inl (t, is) ↦ elim (eqb_tells z y) [
    | inl (_, same) ↦ sym is ∙ same
    | inr (u, _) ↦ absurd (let e' = rw (t, u) at e in omega (arith, e'))
  ]
  | inr (t, _) ↦ elim (eqb_tells z y) [
    | inl (u, _) ↦ absurd (let e' = rw (t, u) at e in omega (arith, e'))
    | inr (u, _) ↦ (let e' = rw (t, u) at e in let hx' = rw t at hx in let hy' = rw u at hy in same_place xs x y (omega (arith, hx')) (omega (arith, hy')) (omega (arith, e')))
  ]
]

later_one : (k x y : ℕ) (pre : List ℕ) (ys : List ℕ) → times pre y ≡ k → place_in (pre ++ x ∷ ys) x < place_in (pre ++ x ∷ ys) y → place_in (pre ++ x ∷ ys) x ≡ length pre → 0 < times pre y + times (x ∷ ys) y → 0 < times ys y
later_one zero x y pre ys e lt first some = elim (eqb_tells x y) [
  | inl (_, is) ↦ absurd (let lt' = rw (← is) at lt in omega (arith, lt'))
  | inr (t, _) ↦ (let s = rw t at some in omega (arith, s, e))
]
later_one (suc k) x y pre ys e lt first some = absurd (let early = place_earlier pre y (x ∷ ys) (omega (arith, e)) in omega (arith, early, lt, first))

has : (n : ℕ) → 0 < n → nat_lt 0 n ≡ true
has n h = grind (arith, nat_tests)

hasnt : (n : ℕ) → n ≡ 0 → nat_lt 0 n ≡ false
hasnt n h = grind (arith, nat_tests)

module _ {C : Type 0} where
  off_head : (m : ℕ) (c : C) (ks rest : Forest C) (l : ℕ) → count_of (Tree m c ks rest) l ≤ 1 → 0 < count_of ks l + count_of rest l → eqb m l ≡ false
  off_head m c ks rest l once some = elim (eqb_tells m l) [ inl (t, _) ↦ absurd (let o = rw t at once in omega (arith, o, some)) | inr (t, _) ↦ t ]

  -- ---- the list in tree order

  -- where neither stands in a part it is passed over
  skip : (f : Forest C) (xs : List ℕ) (a b : ℕ) → count_of f a ≡ 0 → count_of f b ≡ 0 → first_among (preorder_onto f xs) a b ≡ first_among xs a b
  skip Nil xs a b none_a none_b = refl
  skip (Tree m c ks rest) xs a b none_a none_b =
      let off_a : eqb m a ≡ false = elim (eqb_tells m a) [ inl (t, _) ↦ absurd (let n = rw t at none_a in omega (arith, n)) | inr (t, _) ↦ t ] in
      let off_b : eqb m b ≡ false = elim (eqb_tells m b) [ inl (t, _) ↦ absurd (let n = rw t at none_b in omega (arith, n)) | inr (t, _) ↦ t ] in
      rw (off_a, off_b) (skip ks (preorder_onto rest xs) a b (omega (arith, none_a)) (omega (arith, none_b)) ∙ skip rest xs a b (omega (arith, none_a)) (omega (arith, none_b)))

  -- where a alone stands in a part it comes first
  alone : (f : Forest C) (xs : List ℕ) (a b : ℕ) → 0 < count_of f a → count_of f b ≡ 0 → first_among (preorder_onto f xs) a b ≡ Some a
  alone Nil xs a b some none = absurd (omega (arith, some))
  alone (Tree m c ks rest) xs a b some none =
      let off_b : eqb m b ≡ false = elim (eqb_tells m b) [ inl (t, _) ↦ absurd (let n = rw t at none in omega (arith, n)) | inr (t, _) ↦ t ] in
      elim (eqb_tells m a) [
        | inl (t, is) ↦ rw t (ap Some is)
        | inr (t, _) ↦ (
            let some' = rw t at some in
            rw (t, off_b) (by_count (count_of ks a) refl (omega (arith, some')) (λ more. alone ks (preorder_onto rest xs) a b more (omega (arith, none))) (λ more. alone rest xs a b more (omega (arith, none)))))
      ]
    where
      by_count : (k : ℕ) → count_of ks a ≡ k → 0 < count_of ks a + count_of rest a → (0 < count_of ks a → first_among (preorder_onto ks (preorder_onto rest xs)) a b ≡ Some a) → (0 < count_of rest a → first_among (preorder_onto rest xs) a b ≡ Some a) → first_among (preorder_onto ks (preorder_onto rest xs)) a b ≡ Some a
      by_count zero e both one two = skip ks (preorder_onto rest xs) a b e (omega (arith, none)) ∙ two (omega (arith, e, both))
      by_count (suc k) e both one two = one (omega (arith, e))

  -- a node comes before what is below it
  ahead : (f : Forest C) (xs : List ℕ) (a b : ℕ) → IsDistinct f → IsWithin f a b → first_among (preorder_onto f xs) a b ≡ Some a
  ahead Nil xs a b once h = absurd (omega (arith, h))
  ahead (Tree m c ks rest) xs a b once h =
      elim (eqb_tells m a) [
        | inl (t, is) ↦ rw t (ap Some is)
        | inr (t, _) ↦ (
            let h' = rw t at h in
            let joined = total-join (λ k _. cond (eqb k b) 1 0) (tree_of ks a) (tree_of rest a) in
            let in_ks = total-without (λ k _. cond (eqb k b) 1 0) ks a in
            let in_rest = total-without (λ k _. cond (eqb k b) 1 0) rest a in
            let off_b = off_head m c ks rest b (once b) (omega (arith, h', joined, in_ks, in_rest)) in
            rw (t, off_b) (elim (either_positive (count_of (tree_of ks a) b) (count_of (tree_of rest a) b) (omega (arith, h', joined))) [
              | inl below ↦ ahead ks (preorder_onto rest xs) a b (λ l. omega (arith, once l)) below
              | inr after ↦ (
                  let there : 0 < count_of rest a = tree_root rest a b after in
                  skip ks (preorder_onto rest xs) a b (omega (arith, once a, there)) (omega (arith, once b, after, in_rest)) ∙ ahead rest xs a b (λ l. omega (arith, once l)) after)
            ]))
      ]
    where
      either_positive : (i j : ℕ) → 0 < i + j → (0 < i) ⊎ (0 < j)
      either_positive i j h = grind arith

      tree_root : (g : Forest C) (n l : ℕ) → 0 < count_of (tree_of g n) l → 0 < count_of g n
      tree_root g n l h = by_count (count_of g n) refl
        where
          by_count : (k : ℕ) → count_of g n ≡ k → 0 < count_of g n
          by_count zero e = absurd (let none = ap (λ x. count_of x l) (tree_of_absent g n e) in omega (arith, none, h))
          by_count (suc k) e = omega (arith, e)

  -- ---- the same of the two in one tree

  abbrev in_both : Forest C → ℕ → ℕ → Bool
  in_both t a b = nat_lt 0 (count_of t a) && nat_lt 0 (count_of t b)

  pub first_of_two-swap : (f : Forest C) (a b : ℕ) → first_of_two f a b ≡ first_of_two f b a
  first_of_two-swap Nil a b = refl
  first_of_two-swap (Tree m c ks rest) a b =
      rw (both_test (nat_lt 0 (count_of (Tree m c ks Nil) a)) (nat_lt 0 (count_of (Tree m c ks Nil) b)), first_among-swap (preorder (Tree m c ks Nil)) a b, first_of_two-swap rest a b) refl

  two_absent : (f : Forest C) (a b : ℕ) → count_of f a ≡ 0 → first_of_two f a b ≡ None
  two_absent Nil a b none = refl
  two_absent (Tree m c ks rest) a b none = rw (hasnt (count_of (Tree m c ks Nil) a) (omega (arith, none))) (two_absent rest a b (omega (arith, none)))

  in_tree : (m : ℕ) (c : C) (ks rest : Forest C) (a b : ℕ) → 0 < count_of (Tree m c ks Nil) a → 0 < count_of (Tree m c ks Nil) b → first_of_two (Tree m c ks rest) a b ≡ first_among (preorder (Tree m c ks Nil)) a b
  in_tree m c ks rest a b ha hb = rw (has (count_of (Tree m c ks Nil) a) ha, has (count_of (Tree m c ks Nil) b) hb) refl

  in_rest : (m : ℕ) (c : C) (ks rest : Forest C) (a b : ℕ) → count_of (Tree m c ks Nil) a ≡ 0 → first_of_two (Tree m c ks rest) a b ≡ first_of_two rest a b
  in_rest m c ks rest a b none = rw (hasnt (count_of (Tree m c ks Nil) a) none) refl

  pub first_of_two-within : (f : Forest C) (a b : ℕ) → IsDistinct f → IsWithin f a b → first_of_two f a b ≡ Some a
  first_of_two-within Nil a b once h = absurd (omega (arith, h))
  first_of_two-within (Tree m c ks rest) a b once h =
      let tree_once : IsDistinct (Tree m c ks Nil) = λ l. omega (arith, once l) in
      elim (eqb_tells m a) [
        | inl (t, is) ↦ (
            let h' = rw t at h in
            let own : 0 < count_of (Tree m c ks Nil) a = rw t (omega arith) in
            in_tree m c ks rest a b own h' ∙ ahead (Tree m c ks Nil) [] a b tree_once (rw t h'))
        | inr (t, _) ↦ (
            let h' = rw t at h in
            let joined = total-join (λ k _. cond (eqb k b) 1 0) (tree_of ks a) (tree_of rest a) in
            let in_ks = total-without (λ k _. cond (eqb k b) 1 0) ks a in
            let in_more = total-without (λ k _. cond (eqb k b) 1 0) rest a in
            elim (either_positive (count_of (tree_of ks a) b) (count_of (tree_of rest a) b) (omega (arith, h', joined))) [
              | inl below ↦ (
                  let there : 0 < count_of ks a = tree_root ks a b below in
                  let own : IsWithin (Tree m c ks Nil) a b = rw t (omega (arith, below, total-join (λ k _. cond (eqb k b) 1 0) (tree_of ks a) Nil)) in
                  in_tree m c ks rest a b (omega (arith, there)) (omega (arith, below, in_ks)) ∙ ahead (Tree m c ks Nil) [] a b tree_once own)
              | inr after ↦ (
                  let there : 0 < count_of rest a = tree_root rest a b after in
                  in_rest m c ks rest a b (omega (arith, once a, there)) ∙ first_of_two-within rest a b (λ l. omega (arith, once l)) after)
            ])
      ]
    where
      either_positive : (i j : ℕ) → 0 < i + j → (0 < i) ⊎ (0 < j)
      either_positive i j h = grind arith

      tree_root : (g : Forest C) (n l : ℕ) → 0 < count_of (tree_of g n) l → 0 < count_of g n
      tree_root g n l h = by_count (count_of g n) refl
        where
          by_count : (k : ℕ) → count_of g n ≡ k → 0 < count_of g n
          by_count zero e = absurd (let none = ap (λ x. count_of x l) (tree_of_absent g n e) in omega (arith, none, h))
          by_count (suc k) e = omega (arith, e)

  -- ---- siblings

  -- a part has no more than its forest
  part_low : (w : ℕ → C → ℕ) (g : Forest C) (x : ℕ) (c : C) (ks rest : Forest C) (n : ℕ) → Part w g (Tree x c ks rest) n → (l : ℕ) → count_of (Tree x c ks rest) l ≤ count_of g l
  part_low w Nil x c ks rest n p l = absurd p
  part_low w (Tree m d js more) x c ks rest n (inl (e, _)) l = omega (arith, ap (λ g. count_of g l) e)
  part_low w (Tree m d js more) x c ks rest n (inr (inl (k, p, _))) l = omega (arith, part_low w js x c ks rest k p l)
  part_low w (Tree m d js more) x c ks rest n (inr (inr p)) l = omega (arith, part_low w more x c ks rest n p l)

  -- a stands in the first tree of a part, and b in a later one
  part_order : (w : ℕ → C → ℕ) (f : Forest C) (x : ℕ) (c : C) (ks rest : Forest C) (n : ℕ) (xs : List ℕ) (a b : ℕ) → IsDistinct f → Part w f (Tree x c ks rest) n → 0 < count_of (Tree x c ks Nil) a → 0 < count_of rest b → first_among (preorder_onto f xs) a b ≡ Some a
  part_order w Nil x c ks rest n xs a b once p ha hb = absurd p
  part_order w (Tree m d js more) x c ks rest n xs a b once (inl (e, _)) ha hb =
      let once' : IsDistinct (Tree x c ks rest) = subst IsDistinct e once in
      let none : count_of (Tree x c ks Nil) b ≡ 0 = omega (arith, once' b, hb) in
      ap (λ g. first_among (preorder_onto g xs) a b) e ∙ alone (Tree x c ks Nil) (preorder_onto rest xs) a b ha none
  part_order w (Tree m d js more) x c ks rest n xs a b once (inr (inl (k, p, _))) ha hb =
      let low_a = part_low w js x c ks rest k p a in
      let low_b = part_low w js x c ks rest k p b in
      let off_a = off_head m d js more a (once a) (omega (arith, low_a, ha)) in
      let off_b = off_head m d js more b (once b) (omega (arith, low_b, hb)) in
      rw (off_a, off_b) (part_order w js x c ks rest k (preorder_onto more xs) a b (λ l. omega (arith, once l)) p ha hb)
  part_order w (Tree m d js more) x c ks rest n xs a b once (inr (inr p)) ha hb =
      let low_a = part_low w more x c ks rest n p a in
      let low_b = part_low w more x c ks rest n p b in
      let off_a = off_head m d js more a (once a) (omega (arith, low_a, ha)) in
      let off_b = off_head m d js more b (once b) (omega (arith, low_b, hb)) in
      rw (off_a, off_b)
      (skip js (preorder_onto more xs) a b (omega (arith, once a, low_a, ha)) (omega (arith, once b, low_b, hb))
      ∙ part_order w more x c ks rest n xs a b (λ l. omega (arith, once l)) p ha hb)

  -- the same of the tree of both, where the part is none of whole trees
  two_part : (w : ℕ → C → ℕ) (f : Forest C) (x : ℕ) (c : C) (ks rest : Forest C) (n a b : ℕ) → IsDistinct f → times (tops f) x ≡ 0 → Part w f (Tree x c ks rest) n → 0 < count_of (Tree x c ks Nil) a → 0 < count_of rest b → first_of_two f a b ≡ Some a
  two_part w Nil x c ks rest n a b once inner p ha hb = absurd p
  two_part w (Tree m d js more) x c ks rest n a b once inner (inl (e, _)) ha hb =
      let is : m ≡ x = (let e' = e in cc) in
      absurd (elim (eqb_tells m x) [ inl (t, _) ↦ (let i = rw t at inner in omega (arith, i)) | inr (_, off) ↦ off is ])
  two_part w (Tree m d js more) x c ks rest n a b once inner (inr (inl (k, p, e))) ha hb =
      let low_a = part_low w js x c ks rest k p a in
      let low_b = part_low w js x c ks rest k p b in
      let tree_once : IsDistinct (Tree m d js Nil) = λ l. omega (arith, once l) in
      in_tree m d js more a b (omega (arith, low_a, ha)) (omega (arith, low_b, hb))
      ∙ part_order w (Tree m d js Nil) x c ks rest k [] a b tree_once (inr (inl (k, p, omega arith))) ha hb
  two_part w (Tree m d js more) x c ks rest n a b once inner (inr (inr p)) ha hb =
      let low_a = part_low w more x c ks rest n p a in
      in_rest m d js more a b (omega (arith, once a, low_a, ha))
      ∙ two_part w more x c ks rest n a b (λ l. omega (arith, once l)) (omega (arith, inner)) p ha hb

  -- the tree of a label of a part is that of the part
  part_tree : (w : ℕ → C → ℕ) (f : Forest C) (x : ℕ) (c : C) (ks rest : Forest C) (n y : ℕ) → IsDistinct f → Part w f (Tree x c ks rest) n → 0 < count_of (Tree x c ks rest) y → tree_of f y ≡ tree_of (Tree x c ks rest) y
  part_tree w Nil x c ks rest n y once p h = absurd p
  part_tree w (Tree m d js more) x c ks rest n y once (inl (e, _)) h = ap (λ g. tree_of g y) e
  part_tree w (Tree m d js more) x c ks rest n y once (inr (inl (k, p, _))) h =
      let low = part_low w js x c ks rest k p y in
      let off = off_head m d js more y (once y) (omega (arith, low, h)) in
      rw (off, tree_of_absent more y (omega (arith, once y, low, h)), join-Nil) (part_tree w js x c ks rest k y (λ l. omega (arith, once l)) p h)
  part_tree w (Tree m d js more) x c ks rest n y once (inr (inr p)) h =
      let low = part_low w more x c ks rest n p y in
      let off = off_head m d js more y (once y) (omega (arith, low, h)) in
      rw (off, tree_of_absent js y (omega (arith, once y, low, h))) (part_tree w more x c ks rest n y (λ l. omega (arith, once l)) p h)

  -- ---- roots

  tree_holds : (g : Forest C) (n l : ℕ) → 0 < count_of (tree_of g n) l → 0 < count_of g n
  tree_holds g n l h = by_count (count_of g n) refl
    where
      by_count : (k : ℕ) → count_of g n ≡ k → 0 < count_of g n
      by_count zero e = absurd (let none = ap (λ x. count_of x l) (tree_of_absent g n e) in omega (arith, none, h))
      by_count (suc k) e = omega (arith, e)

  two_roots : (f : Forest C) (x y a b : ℕ) → IsDistinct f → x ≢ y → 0 < times (tops f) x → 0 < times (tops f) y → IsWithin f x a → IsWithin f y b → first_of_two f a b ≡ None
  two_roots Nil x y a b once off tx ty ha hb = refl
  two_roots (Tree m c ks rest) x y a b once off tx ty ha hb =
      elim (eqb_tells m x) [
        | inl (t, is) ↦ (
            let ha' = rw t at ha in
            let other : eqb m y ≡ false = elim (eqb_tells m y) [ inl (_, same) ↦ absurd (off (sym is ∙ same)) | inr (u, _) ↦ u ] in
            let ty' = rw other at ty in
            let hb' = rw other at hb in
            let none_y : count_of ks y ≡ 0 = omega (arith, once y, ty', times-tops rest y) in
            let gone = ap (λ g. count_of (join g (tree_of rest y)) b) (tree_of_absent ks y none_y) in
            let there : 0 < count_of (tree_of rest y) b = omega (arith, hb', gone) in
            let low = total-without (λ k _. cond (eqb k b) 1 0) rest y in
            let off_b : count_of (Tree m c ks Nil) b ≡ 0 = omega (arith, once b, there, low) in
            let none_a : count_of rest a ≡ 0 = omega (arith, once a, ha') in
            first_of_two-swap (Tree m c ks rest) a b ∙ (in_rest m c ks rest b a off_b ∙ (first_of_two-swap rest b a ∙ two_absent rest a b none_a)))
        | inr (t, _) ↦ (
            let tx' = rw t at tx in
            let ha' = rw t at ha in
            let none_x : count_of ks x ≡ 0 = omega (arith, once x, tx', times-tops rest x) in
            let gone = ap (λ g. count_of (join g (tree_of rest x)) a) (tree_of_absent ks x none_x) in
            let there : 0 < count_of (tree_of rest x) a = omega (arith, ha', gone) in
            let low = total-without (λ k _. cond (eqb k a) 1 0) rest x in
            let off_a : count_of (Tree m c ks Nil) a ≡ 0 = omega (arith, once a, there, low) in
            elim (eqb_tells m y) [
              | inl (u, _) ↦ (
                  let hb' = rw u at hb in
                  let none_b : count_of rest b ≡ 0 = omega (arith, once b, hb') in
                  in_rest m c ks rest a b off_a ∙ (first_of_two-swap rest a b ∙ two_absent rest b a none_b))
              | inr (u, _) ↦ (
                  let ty' = rw u at ty in
                  let hb' = rw u at hb in
                  let none_y : count_of ks y ≡ 0 = omega (arith, once y, ty', times-tops rest y) in
                  let gone_y = ap (λ g. count_of (join g (tree_of rest y)) b) (tree_of_absent ks y none_y) in
                  let there_y : IsWithin rest y b = omega (arith, hb', gone_y) in
                  in_rest m c ks rest a b off_a ∙ two_roots rest x y a b (λ l. omega (arith, once l)) off (omega (arith, tx')) (omega (arith, ty')) there there_y)
            ])
      ]

module _ {C : Type 0} (f : Forest C) (once : IsDistinct f) where
  top_of_root : (l : ℕ) → 0 < count_of f l → parent_of f l ≡ None → 0 < times (tops f) l
  top_of_root l h root =
      let s = seen f l once h in
      let own : s.0.parent ≡ None = ap (option_and_then (λ (x : Seen C). x.parent)) (sym s.2) ∙ root in
      elim (parent_stands None f l s.0 s.1) [
        | inl (_, some) ↦ some
        | inr (p, _, at, _, _) ↦ absurd (let u : None ≡ Some p = sym own ∙ at in cc)
      ]

  not_top : (l p : ℕ) → parent_of f l ≡ Some p → times (tops f) l ≡ 0
  not_top l p child = by_count (times (tops f) l) refl
    where
      by_count : (k : ℕ) → times (tops f) l ≡ k → times (tops f) l ≡ 0
      by_count zero e = e
      by_count (suc k) e =
          let r = top_stands None f l (omega (arith, e)) in
          let found = ap (option_and_then (λ (x : Seen C). x.parent)) (seek_Stands None f l r.0 (once l) r.1) in
          absurd (let u : None ≡ Some p = sym r.2 ∙ (sym found ∙ child) in cc)

  -- nodes of different trees
  pub first_of_two-apart : (x y a b : ℕ) → x ≢ y → parent_of f x ≡ None → parent_of f y ≡ None → 0 < count_of f x → 0 < count_of f y → IsWithin f x a → IsWithin f y b → first_of_two f a b ≡ None
  first_of_two-apart x y a b off rx ry hx hy ha hb = two_roots f x y a b once off (top_of_root x hx rx) (top_of_root y hy ry) ha hb

  -- what is below an earlier sibling comes before what is below a later one
  pub first_of_two-siblings : (x y p a b : ℕ) → parent_of f x ≡ Some p → parent_of f y ≡ Some p → place_in (children_of f p) x < place_in (children_of f p) y → IsWithin f x a → IsWithin f y b → first_of_two f a b ≡ Some a
  first_of_two-siblings x y p a b cx cy lt ha hb =
      let q = Part_here weight f x (parent_count f x p once cx).0 in
      let c = q.0 in
      let ks = q.1 in
      let rest = q.2 in
      let r = Part_stands weight None f x c ks rest q.3 q.4 in
      let found = ap (option_and_then (λ (o : Seen C). o.parent)) (seek_Stands None f x _ (once x) r.1) in
      let later : 0 < times (tops rest) y = elim r.2 [
        | inl (at, _, _) ↦ absurd (let u : None ≡ Some p = sym at ∙ (sym found ∙ cx) in cc)
        | inr (k, o, at, st, pre, e) ↦ (
            let same : k ≡ p = (let u : Some k ≡ Some p = sym at ∙ (sym found ∙ cx) in cc) in
            let kids : children_of f p ≡ pre ++ x ∷ tops rest = subst (λ j. children_of f j ≡ pre ++ x ∷ tops rest) same (ap (λ z. option_map_or (λ (v : Seen C). v.children) z []) (seek_Stands None f k o (once k) st) ∙ e) in
            is_later pre rest kids)
      ] in
      let both : 0 < count_of (Tree x c ks rest) y = omega (arith, later, times-tops rest y) in
      let tree_x : tree_of f x ≡ Tree x c ks Nil = part_tree weight f x c ks rest q.3 x once q.4 (head_count x c ks rest) ∙ head_tree x c ks rest in
      let apart : count_of (Tree x c ks Nil) y ≡ 0 = omega (arith, once y, part_low weight f x c ks rest q.3 q.4 y, later, times-tops rest y) in
      let off_y : eqb x y ≡ false = elim (eqb_tells x y) [ inl (t, _) ↦ absurd (let z = rw t at apart in omega (arith, z)) | inr (t, _) ↦ t ] in
      let none_y : count_of ks y ≡ 0 = omega (arith, apart) in
      let tree_y : tree_of f y ≡ tree_of rest y = part_tree weight f x c ks rest q.3 y once q.4 both ∙ rw (off_y, tree_of_absent ks y none_y) refl in
      let in_x : 0 < count_of (Tree x c ks Nil) a = subst (λ g. 0 < count_of g a) tree_x ha in
      let in_y : 0 < count_of (tree_of rest y) b = subst (λ g. 0 < count_of g b) tree_y hb in
      two_part weight f x c ks rest q.3 a b once (not_top x p cx) q.4 in_x (omega (arith, in_y, total-without (λ k _. cond (eqb k b) 1 0) rest y))
    where
      weight : ℕ → C → ℕ
      weight = λ _ _. 0

      head_count : (x : ℕ) (c : C) (ks rest : Forest C) → 0 < count_of (Tree x c ks rest) x
      head_count x c ks rest = rw (eqb_refl_true x) (omega arith)

      head_tree : (x : ℕ) (c : C) (ks rest : Forest C) → tree_of (Tree x c ks rest) x ≡ Tree x c ks Nil
      head_tree x c ks rest = rw (eqb_refl_true x) refl

      is_later : (pre : List ℕ) (rest : Forest C) → children_of f p ≡ pre ++ x ∷ tops rest → 0 < times (tops rest) y
      is_later pre rest kids =
          let few_x = times-children_of f p x once in
          let few_x' = rw (kids, times-append pre (x ∷ tops rest) x, eqb_refl_true x) at few_x in
          let none : times pre x ≡ 0 = omega (arith, few_x') in
          let lt' = rw kids at lt in
          let first = place_here pre x (tops rest) none in
          let r = child_of_parent f y p once cy in
          let some : 0 < times (pre ++ x ∷ tops rest) y = subst (λ xs. 0 < times xs y) (ap (λ z. option_map_or (λ (v : Seen C). v.children) z []) (sym r.2) ∙ kids) r.3 in
          let some' = rw (times-append pre (x ∷ tops rest) y) at some in
          later_one (times pre y) x y pre (tops rest) refl lt' first some'

  pub other_place : (x y p : ℕ) → x ≢ y → parent_of f x ≡ Some p → parent_of f y ≡ Some p → place_in (children_of f p) x ≢ place_in (children_of f p) y
  other_place x y p off cx cy e =
      let rx = child_of_parent f x p once cx in
      let ry = child_of_parent f y p once cy in
      let kids : children_of f p ≡ rx.0.children = ap (λ z. option_map_or (λ (v : Seen C). v.children) z []) rx.2 in
      let kids' : children_of f p ≡ ry.0.children = ap (λ z. option_map_or (λ (v : Seen C). v.children) z []) ry.2 in
      off (same_place (children_of f p) x y (subst (λ xs. 0 < times xs x) (sym kids) rx.3) (subst (λ xs. 0 < times xs y) (sym kids') ry.3) e)
