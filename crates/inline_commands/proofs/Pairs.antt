-- Of two nodes in tree order, the later one stands below the earlier one, or below a later sibling of it or of one above it.
use Rattle.std.proofs.Common.{◌≡◌, ◌≢◌, ◌⊎◌, ℕ, zero, suc, ◌+◌, ◌<◌, ◌≤◌, Bool, true, false, cond, eqb, List, [], ◌∷◌, ◌++◌, Option, Some, None, refl, sym, ap, subst, ◌∙◌, inl, inr, arith}
use Rattle.std.specs.Prelude.{filter}
use Rattle.std.specs.Option.{option_map_or, option_and_then}
use Rattle.std.proofs.lemmas.Bool.Decides.{eqb_tells}
use Rattle.edit_model.specs.DomModel.declared.Content.{Content}
use Rattle.edit_model.specs.DomModel.Forest.{Forest, count_of, IsDistinct, IsWithin, times, tree_of, parent_of, children_of, first_of, next_of, first_in, after_in, preorder_onto, preorder}
use Rattle.edit_model.specs.DomModel.Forest.Forest.{Nil, Tree}
use Rattle.edit_model.specs.DomModel.Places.{index_of, place_in}
use Rattle.edit_model.proofs.DomModel.Links.{parent_count, times-children_of, eqb_refl_true}
use Rattle.edit_model.proofs.DomModel.Lists.{times-append}
use Rattle.edit_model.proofs.DomModel.Move.{parent_apart}
use Rattle.edit_model.proofs.DomModel.Parts.{at_label}
use Rattle.edit_model.proofs.DomModel.Walks.{document_first}
use Rattle.edit_model.proofs.DomModel.Within.{within_self, within_up}
use Rattle.edit_model.specs.Valid.{IsForest}
use Rattle.inline_value.specs.NodePaths.Onward.{onward_at}
use Rattle.inline_value.proofs.NodePaths.Onward.{first_inner, next_inner, first_leads}
use Rattle.inline_value.proofs.NodePaths.Visiting.{Visit, visit, size_from}
use Rattle.inline_commands.proofs.TreeOrder.{preorder_tree}

-- ---- lists

-- each member with each later one
abbrev pub Pairs : (ℕ → ℕ → Type 0) → List ℕ → Type 0
Pairs R [] = Unit {0}
Pairs R (x ∷ xs) = ((y : ℕ) → 0 < times xs y → R x y) × Pairs R xs

pub head_in : (x : ℕ) (xs : List ℕ) → 0 < times (x ∷ xs) x
head_in x xs = rw (eqb_refl_true x) (omega arith)

in_either : (P : Type 0) (xs ys : List ℕ) (y : ℕ) → 0 < times (xs ++ ys) y → (0 < times xs y → P) → (0 < times ys y → P) → P
in_either P xs ys y h one other = by_count (times xs y) refl
  where
    by_count : (n : ℕ) → times xs y ≡ n → P
    by_count zero e = other (omega (arith, h, e, times-append xs ys y))
    by_count (suc n) e = one (omega (arith, e))

pairs-append : (R : ℕ → ℕ → Type 0) (xs ys : List ℕ) → Pairs R xs → Pairs R ys → ((x y : ℕ) → 0 < times xs x → 0 < times ys y → R x y) → Pairs R (xs ++ ys)
pairs-append R [] ys h k across = k
pairs-append R (x ∷ xs) ys h k across =
    (λ y t. in_either (R x y) xs ys y t (h.0 y) (λ u. across x y (head_in x xs) u), pairs-append R xs ys h.1 k (λ a y t u. across a y (omega (arith, t)) u))

tail_in : (x : ℕ) (xs : List ℕ) (y : ℕ) → x ≢ y → 0 < times (x ∷ xs) y → 0 < times xs y
tail_in x xs y off h = elim (eqb_tells x y) [ inl (_, same) ↦ absurd (off same) | inr (t, _) ↦ (let h' = rw t at h in omega (arith, h')) ]

-- what a test finds
pub found : (T : ℕ → Bool) (xs : List ℕ) (l : ℕ) → 0 < times (filter T xs) l → (0 < times xs l) × (T l ≡ true)
found T [] l h = absurd (omega (arith, h))
found T (x ∷ xs) l h = by_test (T x) refl h (λ h'. found T xs l h')
  where
    by_test : (b : Bool) → T x ≡ b → 0 < times (cond b (x ∷ filter T xs) (filter T xs)) l → (0 < times (filter T xs) l → (0 < times xs l) × (T l ≡ true)) → (0 < times (x ∷ xs) l) × (T l ≡ true)
    by_test false e h more = let r = more h in (omega (arith, r.0), r.1)
    by_test true e h more =
        elim (eqb_tells x l) [
          | inl (t, is) ↦ (rw t (omega arith), ap T (sym is) ∙ e)
          | inr (t, _) ↦ (let h' = rw t at h in let r = more (omega (arith, h')) in (omega (arith, r.0), r.1))
        ]

module _ (R : ℕ → ℕ → Type 0) where
  -- of two members one comes first
  pub either_first : (xs : List ℕ) → Pairs R xs → (p q : ℕ) → 0 < times xs p → 0 < times xs q → p ≢ q → R p q ⊎ R q p
  either_first [] pairs p q has_p has_q off = absurd (omega (arith, has_p))
  either_first (x ∷ xs) pairs p q has_p has_q off =
      elim (eqb_tells x p) [
        | inl (_, is) ↦ inl (subst (λ y. R y q) is (pairs.0 q (tail_in x xs q (λ same. off (sym is ∙ same)) has_q)))
        | inr (_, not_p) ↦ elim (eqb_tells x q) [
          | inl (_, is) ↦ inr (subst (λ y. R y p) is (pairs.0 p (tail_in x xs p not_p has_p)))
          | inr (_, not_q) ↦ either_first xs pairs.1 p q (tail_in x xs p not_p has_p) (tail_in x xs q not_q has_q) off
        ]
      ]

  pub pairs_kept : (T : ℕ → Bool) (xs : List ℕ) → Pairs R xs → Pairs R (filter T xs)
  pairs_kept T [] pairs = tt
  pairs_kept T (x ∷ xs) pairs = by_test (T x) (pairs_kept T xs pairs.1)
    where
      by_test : (b : Bool) → Pairs R (filter T xs) → Pairs R (cond b (x ∷ filter T xs) (filter T xs))
      by_test true rest = (λ y h. pairs.0 y (found T xs y h).0, rest)
      by_test false rest = rest

  pub pairs_to : (S : ℕ → ℕ → Type 0) → ((p q : ℕ) → R p q → S p q) → (xs : List ℕ) → Pairs R xs → Pairs S xs
  pairs_to S to [] pairs = tt
  pairs_to S to (x ∷ xs) pairs = (λ y h. to x y (pairs.0 y h), pairs_to S to xs pairs.1)

times-onto : (g : Forest Content) (ls : List ℕ) (l : ℕ) → times (preorder_onto g ls) l ≡ count_of g l + times ls l
times-onto Nil ls l = omega arith
times-onto (Tree m c ks rest) ls l = omega (arith, times-onto ks (preorder_onto rest ls) l, times-onto rest ls l)

pub listed : (g : Forest Content) (l : ℕ) → 0 < times (preorder g) l → 0 < count_of g l
listed g l h = omega (arith, h, times-onto g [] l)

-- ---- the place of a later sibling

after_there : (xs : List ℕ) (k j : ℕ) → after_in xs k ≡ Some j → 0 < times xs j
after_there [] k j e = absurd (let t = e in cc)
after_there (x ∷ xs) k j e =
    elim (eqb_tells x k) [
      | inl (t, _) ↦ (let e' = rw t at e in omega (arith, first_there xs e'))
      | inr (t, _) ↦ (let e' = rw t at e in omega (arith, after_there xs k j e'))
    ]
  where
    first_there : (xs : List ℕ) → first_in xs ≡ Some j → 0 < times xs j
    first_there [] e = absurd (let t = e in cc)
    first_there (y ∷ ys) e = (let is : y ≡ j = (let t = e in cc) in subst (λ z. 0 < times (y ∷ ys) z) is (head_in y ys))

next_place : (xs : List ℕ) (k j : ℕ) → ((l : ℕ) → times xs l ≤ 1) → after_in xs k ≡ Some j → place_in xs j ≡ place_in xs k + 1
next_place [] k j once e = absurd (let t = e in cc)
next_place (x ∷ xs) k j once e =
    elim (eqb_tells x k) [
      | inl (t, _) ↦ (let e' = rw t at e in rw t (first_place xs e' once))
      | inr (t, _) ↦ (
          let e' = rw t at e in
          let other : eqb x j ≡ false = off x xs (once j) (after_there xs k j e') in
          rw (t, other) (ap (λ n. n + 1) (next_place xs k j (λ l. omega (arith, once l)) e')))
    ]
  where
    off : (x : ℕ) (xs : List ℕ) → times (x ∷ xs) j ≤ 1 → 0 < times xs j → eqb x j ≡ false
    off x xs one some = elim (eqb_tells x j) [ inl (t, _) ↦ absurd (let one' = rw t at one in omega (arith, one', some)) | inr (t, _) ↦ t ]

    first_place : (xs : List ℕ) → first_in xs ≡ Some j → ((l : ℕ) → times (x ∷ xs) l ≤ 1) → place_in (x ∷ xs) j ≡ 0 + 1
    first_place [] e once = absurd (let t = e in cc)
    first_place (y ∷ ys) e once =
        let is : y ≡ j = (let t = e in cc) in
        let here : 0 < times (y ∷ ys) j = subst (λ z. 0 < times (y ∷ ys) z) is (head_in y ys) in
        let same : eqb y j ≡ true = rw is (eqb_refl_true j) in
        rw (off x (y ∷ ys) (once j) here, same) refl

-- ---- nodes

module _ (f : Forest Content) (once : IsDistinct f) where
  next_index : (k j p : ℕ) → parent_of f k ≡ Some p → parent_of f j ≡ Some p → next_of f k ≡ Some j → index_of f j ≡ index_of f k + 1
  next_index k j p ck cj e =
      let at : after_in (children_of f p) k ≡ Some j = sym (ap (option_and_then (λ q. after_in (children_of f q) k)) ck) ∙ e in
      ap (λ o. option_map_or (λ q. place_in (children_of f q) j) o 0) cj
      ∙ next_place (children_of f p) k j (λ l. times-children_of f p l once) at
      ∙ ap (λ n. n + 1) (sym (ap (λ o. option_map_or (λ q. place_in (children_of f q) k) o 0) ck))

  visit_at : (k p : ℕ) → parent_of f k ≡ Some p → (c : Content) × Visit f k c
  visit_at k p child =
      let here = (parent_count f k p once child).0 in
      let at = at_label f once k here in
      (at.content, visit f k at.content once here (rw child refl) at.content_is)

  -- a child of a node, from an index on, with a node in its tree
  record Holder (top from q : ℕ) : Type 0 where
    by : ℕ
    child : parent_of f by ≡ Some top
    high : from ≤ index_of f by
    inside : IsWithin f by q

  holder : (n top j q : ℕ) → size_from f (Some j) < n → parent_of f j ≡ Some top → 0 < count_of (onward_at f (Some j)) q → Holder top (index_of f j) q
  holder zero top j q low child here = absurd (omega (arith, low))
  holder (suc n) top j q low child here =
      let v = visit_at j top child in
      by_place v.0 v.1 (λ i less up. holder n j i q less up) (λ i less up. holder n top i q less up)
    where
      by_place : (c : Content) → Visit f j c
          → ((i : ℕ) → size_from f (Some i) < n → parent_of f i ≡ Some j → 0 < count_of (onward_at f (Some i)) q → Holder j (index_of f i) q)
          → ((i : ℕ) → size_from f (Some i) < n → parent_of f i ≡ Some top → 0 < count_of (onward_at f (Some i)) q → Holder top (index_of f i) q)
          → Holder top (index_of f j) q
      by_place c v below after =
          let count : count_of (onward_at f (Some j)) q ≡ count_of (Tree j c (onward_at f (first_of f j)) (onward_at f (next_of f j))) q = ap (λ g. count_of g q) v.is in
          elim (eqb_tells j q) [
            | inl (_, same) ↦ record { by = j; child = child; high = omega arith; inside = subst (λ x. IsWithin f j x) same (within_self f j once (parent_count f j top once child).0) }
            | inr (t, _) ↦ (let count' = rw t at count in by_kids (count_of (onward_at f (first_of f j)) q) refl (omega (arith, count', here)))
          ]
        where
          by_kids : (m : ℕ) → count_of (onward_at f (first_of f j)) q ≡ m → 0 < count_of (onward_at f (first_of f j)) q + count_of (onward_at f (next_of f j)) q → Holder top (index_of f j) q
          by_kids (suc m) e some = by_first (first_of f j) refl (omega (arith, e)) (omega (arith, low, v.below))
            where
              by_first : (o : Option ℕ) → first_of f j ≡ o → 0 < count_of (onward_at f o) q → size_from f o < n → Holder top (index_of f j) q
              by_first None t h less = absurd (omega (arith, h))
              by_first (Some i) t h less =
                  let r = below i less (first_inner f j i once (parent_count f j top once child).0 t) h in
                  record { by = j; child = child; high = omega arith; inside = within_up f once r.by j q r.child r.inside }
          by_kids zero e some = by_next (next_of f j) refl (omega (arith, e, some)) (omega (arith, low, v.after))
            where
              by_next : (o : Option ℕ) → next_of f j ≡ o → 0 < count_of (onward_at f o) q → size_from f o < n → Holder top (index_of f j) q
              by_next None t h less = absurd (omega (arith, h))
              by_next (Some i) t h less =
                  let up = next_inner f j top i once child t in
                  let r = after i less up h in
                  record { by = r.by; child = r.child; high = omega (arith, next_index j i top child up t, r.high); inside = r.inside }

  kid_inside : (k q : ℕ) → 0 < count_of f k → 0 < count_of (onward_at f (first_of f k)) q → (k ≢ q) × IsWithin f k q
  kid_inside k q here h = by_first (first_of f k) refl h
    where
      by_first : (o : Option ℕ) → first_of f k ≡ o → 0 < count_of (onward_at f o) q → (k ≢ q) × IsWithin f k q
      by_first None t h = absurd (omega (arith, h))
      by_first (Some i) t h =
          let r = holder (suc (size_from f (Some i))) k i q (omega arith) (first_inner f k i once here t) h in
          (λ same. parent_apart f r.by k once r.child (subst (λ x. IsWithin f r.by x) (sym same) r.inside), within_up f once r.by k q r.child r.inside)

  module _ (R : ℕ → ℕ → Type 0)
      (down : (p q : ℕ) → p ≢ q → IsWithin f p q → R p q)
      (across : (top k c p q : ℕ) → parent_of f k ≡ Some top → parent_of f c ≡ Some top → index_of f k < index_of f c → IsWithin f k p → IsWithin f c q → R p q) where
    beside : (top k p q : ℕ) → parent_of f k ≡ Some top → IsWithin f k p → 0 < count_of (onward_at f (next_of f k)) q → R p q
    beside top k p q child inside h = by_next (next_of f k) refl h
      where
        by_next : (o : Option ℕ) → next_of f k ≡ o → 0 < count_of (onward_at f o) q → R p q
        by_next None t h = absurd (omega (arith, h))
        by_next (Some i) t h =
            let up = next_inner f k top i once child t in
            let r = holder (suc (size_from f (Some i))) top i q (omega arith) up h in
            across top k r.by p q child r.child (omega (arith, next_index k i top child up t, r.high)) inside r.inside

    pairs_from : (n top : ℕ) (o : Option ℕ) → size_from f o < n → ((k : ℕ) → o ≡ Some k → parent_of f k ≡ Some top) → Pairs R (preorder (onward_at f o))
    pairs_from zero top o low under = absurd (omega (arith, low))
    pairs_from (suc n) top None low under = tt
    pairs_from (suc n) top (Some k) low under =
        let child = under k refl in
        let here = (parent_count f k top once child).0 in
        let v = visit_at k top child in
        let below = onward_at f (first_of f k) in
        let after = onward_at f (next_of f k) in
        let self : IsWithin f k k = within_self f k once here in
        let firsts : Pairs R (preorder below) = pairs_from n k (first_of f k) (omega (arith, low, v.1.below)) (λ j e. first_inner f k j once here e) in
        let others : Pairs R (preorder after) = pairs_from n top (next_of f k) (omega (arith, low, v.1.after)) (λ j e. next_inner f k top j once child e) in
        subst (Pairs R) (sym (ap preorder v.1.is ∙ preorder_tree k v.0 below after)) (
          λ q t. in_either (R k q) (preorder below) (preorder after) q t (λ u. let r = kid_inside k q here (listed below q u) in down k q r.0 r.1) (λ u. beside top k k q child self (listed after q u)),
          pairs-append R (preorder below) (preorder after) firsts others (λ p q t u. beside top k p q child (kid_inside k p here (listed below p t)).1 (listed after q u)),
        )

    -- the nodes of the document
    pub document_pairs : (next : ℕ) → IsForest f next → Pairs R (preorder (tree_of f 0))
    document_pairs next law =
        let d = document_first f law.distinct law.rising law.document law.root in
        let below = onward_at f (first_of f 0) in
        let kids : below ≡ d.1 = subst (λ g. onward_at g (first_of g 0) ≡ d.1) (sym d.3) (first_leads 0 d.0 d.1 d.2 (subst (λ g. IsDistinct g) d.3 once)) in
        let tree : tree_of f 0 ≡ Tree 0 d.0 below Nil = ap (λ g. tree_of g 0) d.3 ∙ ap (λ g. Tree 0 d.0 g Nil) (sym kids) in
        subst (λ g. Pairs R (preorder g)) (sym tree) (
          λ q t. (let r = kid_inside 0 q law.document (listed below q t) in down 0 q r.0 r.1),
          pairs_from (suc (size_from f (first_of f 0))) 0 (first_of f 0) (omega arith) (λ j e. first_inner f 0 j once law.document e),
        )
