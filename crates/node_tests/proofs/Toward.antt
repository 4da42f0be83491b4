-- The child of a node that another node is, or stands below.
use Rattle.std.proofs.Common.{◌≡◌, ◌≢◌, ℕ, zero, suc, ◌<◌, Bool, true, false, List, [], ◌∷◌, Option, Some, None, refl, sym, ap, subst, ◌∙◌, inl, inr, arith, nat_lt}
use Rattle.std.specs.List.{find}
use Rattle.std.specs.Option.{option_map_or}
use Rattle.std.proofs.lemmas.Bool.Decides.{eqb_tells}
use Rattle.node_styles.specs.DomModel.declared.Content.{Content}
use Rattle.node_styles.specs.DomModel.Forest.{Forest, Seen, seek, times, count_of, IsDistinct, IsWithin, tree_of, parent_of, children_of, depth_of}
use Rattle.node_styles.proofs.DomModel.Links.{parent_count, parent_of_child, child_of_parent, found_stands, eqb_refl_true}
use Rattle.node_styles.proofs.DomModel.Move.{parent_apart}
use Rattle.node_styles.proofs.DomModel.Stands.{true_or_false}
use Rattle.node_styles.proofs.DomModel.Within.{within_parent, within_step, within_up, depth_of-parent}
use Rattle.point_order.specs.PointOrder.{is_within, child_toward}
use Rattle.node_tests.proofs.Pieces.{has, hasnt, count_in_tree, tree_in_tree}

pub no_count : (n : ℕ) → (0 < n → ⊥) → n ≡ 0
no_count zero h = refl
no_count (suc n) h = absurd (h (omega arith))

some_count : (n : ℕ) → nat_lt 0 n ≡ true → 0 < n
some_count zero e = absurd (let t = e in cc)
some_count (suc n) e = omega arith

head_in : (x : ℕ) (xs : List ℕ) → 0 < times (x ∷ xs) x
head_in x xs = let t = eqb_refl_true x in rw t (omega arith)

-- a search finds none where none passes, and the one that passes alone
find-none : (p : ℕ → Bool) (xs : List ℕ) → ((k : ℕ) → 0 < times xs k → p k ≡ false) → find p xs ≡ None
find-none p [] h = refl
find-none p (x ∷ xs) h = rw (h x (head_in x xs)) (find-none p xs (λ k t. h k (omega (arith, t))))

find-one : (p : ℕ → Bool) (xs : List ℕ) (a : ℕ) → 0 < times xs a → p a ≡ true → ((k : ℕ) → 0 < times xs k → k ≢ a → p k ≡ false) → find p xs ≡ Some a
find-one p [] a h here off = absurd (omega (arith, h))
find-one p (x ∷ xs) a h here off =
    elim (eqb_tells x a) [
      | inl (_, is) ↦ rw (ap p is ∙ here) (ap Some is)
      | inr (t, other) ↦ (let h' = rw t at h in rw (off x (head_in x xs) other) (find-one p xs a (omega (arith, h')) here (λ k s. off k (omega (arith, s)))))
    ]

-- what a search finds is in the list and passes
found : (p : ℕ → Bool) (xs : List ℕ) (k : ℕ) → find p xs ≡ Some k → (0 < times xs k) × (p k ≡ true)
found p [] k e = absurd (let t = e in cc)
found p (x ∷ xs) k e =
    elim (true_or_false (p x)) [
      | inl t ↦ (
          let e' : Some x ≡ Some k = rw t at e in
          let is : x ≡ k = (let u = e' in cc) in
          (subst (λ j. 0 < times (x ∷ xs) j) is (head_in x xs), subst (λ j. p j ≡ true) is t))
      | inr t ↦ (
          let e' = rw t at e in
          let r = found p xs k e' in
          (omega (arith, r.0), r.1))
    ]

module _ (f : Forest Content) (once : IsDistinct f) where
  pub through : (a b l : ℕ) → IsWithin f a b → IsWithin f b l → IsWithin f a l
  through a b l ab bl =
      let same : count_of (tree_of (tree_of f a) b) l ≡ count_of (tree_of f b) l = ap (λ g. count_of g l) (tree_in_tree f a b once ab) in
      let low = count_in_tree (tree_of f a) b l in
      omega (arith, same, low, bl)

  pub parent_among : (p k : ℕ) → 0 < times (children_of f p) k → parent_of f k ≡ Some p
  parent_among p k h = by_seen (seek None f p) refl h
    where
      by_seen : (o : Option (Seen Content)) → seek None f p ≡ o → 0 < times (option_map_or (λ s. s.children) o []) k → parent_of f k ≡ Some p
      by_seen None e t = absurd (omega (arith, t))
      by_seen (Some s) e t = parent_of_child f p k s once (found_stands f p s once e) t

  child_among : (k p : ℕ) → parent_of f k ≡ Some p → 0 < times (children_of f p) k
  child_among k p child =
      let r = child_of_parent f k p once child in
      let e : children_of f p ≡ r.0.children = ap (λ o. option_map_or (λ (s : Seen Content). s.children) o []) r.2 in
      rw e r.3

  pub toward_none : (a b : ℕ) → (IsWithin f a b → ⊥) → child_toward f a b ≡ None
  toward_none a b off =
      find-none (λ k. is_within f k b) (children_of f a) (λ k t.
      let up = parent_among a k t in
      hasnt (count_of (tree_of f k) b) (no_count (count_of (tree_of f k) b) (λ w. off (within_up f once k a b up w))))

  pub toward_is : (top b k : ℕ) → child_toward f top b ≡ Some k → (parent_of f k ≡ Some top) × IsWithin f k b
  toward_is top b k e =
      let r = found (λ j. is_within f j b) (children_of f top) k e in
      (parent_among top k r.0, some_count (count_of (tree_of f k) b) r.1)

  -- nothing stands below two siblings
  two_by : (n top j k x : ℕ) → depth_of f x < n → parent_of f j ≡ Some top → parent_of f k ≡ Some top → j ≢ k → IsWithin f j x → IsWithin f k x → ⊥
  two_by zero top j k x low cj ck off ij ik = omega (arith, low)
  two_by (suc n) top j k x low cj ck off ij ik =
      let hj = (parent_count f j top once cj).0 in
      let hk = (parent_count f k top once ck).0 in
      elim (eqb_tells k x) [
        | inl (_, is) ↦ parent_apart f j top once cj (within_step f j once hj k top off ck (subst (λ y. IsWithin f j y) (sym is) ij))
        | inr (_, other) ↦ elim (eqb_tells j x) [
          | inl (_, is) ↦ parent_apart f k top once ck (within_step f k once hk j top (λ e. off (sym e)) cj (subst (λ y. IsWithin f k y) (sym is) ik))
          | inr (_, other') ↦ (
              let w = within_parent f k once hk x other ik in
              two_by n top j k w.0 (omega (arith, low, depth_of-parent f x w.0 once w.1)) cj ck off (within_step f j once hj x w.0 other' w.1 ij) w.2)
        ]
      ]

  two : (top j k x : ℕ) → parent_of f j ≡ Some top → parent_of f k ≡ Some top → j ≢ k → IsWithin f j x → IsWithin f k x → ⊥
  two top j k x = two_by (suc (depth_of f x)) top j k x (omega arith)

  -- the child toward what stands below a child is that child
  pub toward : (top k x : ℕ) → parent_of f k ≡ Some top → IsWithin f k x → child_toward f top x ≡ Some k
  toward top k x child inside =
      find-one (λ j. is_within f j x) (children_of f top) k (child_among k top child) (has (count_of (tree_of f k) x) inside) (λ j t off.
      hasnt (count_of (tree_of f j) x) (no_count (count_of (tree_of f j) x) (λ w. two top j k x (parent_among top j t) child off w inside)))

  -- what stands below two siblings is apart
  pub apart : (top k c a b : ℕ) → parent_of f k ≡ Some top → parent_of f c ≡ Some top → k ≢ c → IsWithin f k a → IsWithin f c b → IsWithin f a b → ⊥
  apart top k c a b child other off in_k in_c below = two top k c b child other off (through k a b in_k below) in_c
