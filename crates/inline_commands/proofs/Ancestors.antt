-- The links among the ancestors of a node, as a test finds them in tree order.
use Rattle.std.proofs.Common.{◌≡◌, ◌≢◌, ℕ, zero, suc, ◌<◌, ◌≤◌, Bool, true, false, ◌&&◌, ◌||◌, List, [], ◌∷◌, ◌++◌, reverse, map, Option, Some, None, refl, sym, ap, ◌∙◌, subst, inl, inr, arith, eqb, append_assoc}
use Rattle.std.specs.Prelude.{filter, nat_lt}
use Rattle.std.specs.Option.{unwrap_or}
use Rattle.std.proofs.lemmas.Bool.Decides.{eqb_tells, nat_tests}
use Rattle.std.proofs.lemmas.List.{append-nil, reverse-append}
use Rattle.std.proofs.lemmas.List.Elements.{filter-append}
use Rattle.edit_model.specs.DomModel.declared.Content.{Content}
use Rattle.edit_model.specs.DomModel.Forest.{Forest, count_of, tree_of, parent_of, preorder, IsDistinct, IsWithin}
use Rattle.edit_model.specs.DomModel.Forest.Forest.{Nil, Tree}
use Rattle.edit_model.proofs.DomModel.Links.{join-Nil, tree_of_absent, eqb_refl_true}
use Rattle.edit_model.proofs.DomModel.Move.{parent_apart}
use Rattle.edit_model.proofs.DomModel.Walks.{document_first}
use Rattle.edit_model.proofs.DomModel.Within.{within_step, within_child, within_root}
use Rattle.edit_model.specs.PointOrder.PointOrder.{is_within, is_ancestor}
use Rattle.inline_value.specs.NodeStyles.Lineage.{Ancestor, lineage_from, lineage}
use Rattle.inline_value.proofs.NodeStyles.Lineages.{ancestor, lineage_absent}
use Rattle.edit_model.specs.Valid.{IsForest}
use Rattle.inline_commands.specs.Merging.{links_above}
use Rattle.inline_commands.specs.Unlink.{is_link}
use Rattle.inline_commands.proofs.Above.{none_above, above_child}
use Rattle.inline_commands.proofs.TreeOrder.{preorder_tree}

abbrev pub labels : List Ancestor → List ℕ
labels ks = map (λ k. k.label) ks

-- the trees of labels below the first tree, and after it
tree_below : (m : ℕ) (c : Content) (ks rest : Forest Content) (l : ℕ) → IsDistinct (Tree m c ks rest) → 0 < count_of ks l → tree_of (Tree m c ks rest) l ≡ tree_of ks l
tree_below m c ks rest l once here =
    elim (eqb_tells m l) [
      | inl (t, _) ↦ absurd (let o = once l in let o' = rw t at o in omega (arith, o', here))
      | inr (t, _) ↦ (let none : count_of rest l ≡ 0 = (let o = once l in let o' = rw t at o in omega (arith, o', here)) in rw (t, tree_of_absent rest l none) (join-Nil (tree_of ks l)))
    ]

pub tree_after : (m : ℕ) (c : Content) (ks rest : Forest Content) (l : ℕ) → IsDistinct (Tree m c ks rest) → 0 < count_of rest l → tree_of (Tree m c ks rest) l ≡ tree_of rest l
tree_after m c ks rest l once here =
    elim (eqb_tells m l) [
      | inl (t, _) ↦ absurd (let o = once l in let o' = rw t at o in omega (arith, o', here))
      | inr (t, _) ↦ (let none : count_of ks l ≡ 0 = (let o = once l in let o' = rw t at o in omega (arith, o', here)) in rw (t, tree_of_absent ks l none) refl)
    ]

-- a test that tells which nodes of a forest are n or above it
abbrev TellsAbove : (ℕ → Bool) → Forest Content → ℕ → Type 0
TellsAbove W g n = (l : ℕ) → 0 < count_of g l → W l ≡ is_within g l n

below_tells : (W : ℕ → Bool) (m : ℕ) (c : Content) (ks rest : Forest Content) (n : ℕ) → IsDistinct (Tree m c ks rest) → TellsAbove W (Tree m c ks rest) n → TellsAbove W ks n
below_tells W m c ks rest n once tells l here = tells l (omega (arith, here)) ∙ ap (λ t. nat_lt 0 (count_of t n)) (tree_below m c ks rest l once here)

after_tells : (W : ℕ → Bool) (m : ℕ) (c : Content) (ks rest : Forest Content) (n : ℕ) → IsDistinct (Tree m c ks rest) → TellsAbove W (Tree m c ks rest) n → TellsAbove W rest n
after_tells W m c ks rest n once tells l here = tells l (omega (arith, here)) ∙ ap (λ t. nat_lt 0 (count_of t n)) (tree_after m c ks rest l once here)

top_test : (m : ℕ) (c : Content) (ks rest : Forest Content) (n : ℕ) → is_within (Tree m c ks rest) m n ≡ nat_lt 0 (count_of (Tree m c ks Nil) n)
top_test m c ks rest n = let t = eqb_refl_true m in rw t refl

pub parts : (W : ℕ → Bool) (m : ℕ) (c : Content) (ks rest : Forest Content) → filter W (preorder (Tree m c ks rest)) ≡ filter W (m ∷ []) ++ (filter W (preorder ks) ++ filter W (preorder rest))
parts W m c ks rest =
    ap (filter W) (preorder_tree m c ks rest) ∙ (filter-append W (m ∷ []) (preorder ks ++ preorder rest) ∙ ap (λ xs. filter W (m ∷ []) ++ xs) (filter-append W (preorder ks) (preorder rest)))

kept : (W : ℕ → Bool) (m : ℕ) → W m ≡ true → filter W (m ∷ []) ≡ m ∷ []
kept W m t = rw t refl

dropped : (W : ℕ → Bool) (m : ℕ) → W m ≡ false → filter W (m ∷ []) ≡ []
dropped W m t = rw t refl

pub reverse-cons : (x : ℕ) (xs : List ℕ) → reverse (x ∷ xs) ≡ reverse xs ++ (x ∷ [])
reverse-cons x xs = reverse-append (x ∷ []) xs

-- none of these trees' nodes is n or above it, where n isn't in them
none_listed : (W : ℕ → Bool) (g : Forest Content) (n : ℕ) → IsDistinct g → TellsAbove W g n → count_of g n ≡ 0 → filter W (preorder g) ≡ []
none_listed W Nil n once tells none = refl
none_listed W (Tree m c ks rest) n once tells none =
    elim (eqb_tells m n) [
      | inl (t, _) ↦ absurd (let none' = rw t at none in omega (arith, none'))
      | inr (t, _) ↦ (
          let none' = rw t at none in
          let no_ks : count_of ks n ≡ 0 = omega (arith, none') in
          let no_rest : count_of rest n ≡ 0 = omega (arith, none') in
          let in_ks : (k : ℕ) → count_of ks k ≤ 1 = λ k. omega (arith, once k) in
          let in_rest : (k : ℕ) → count_of rest k ≤ 1 = λ k. omega (arith, once k) in
          let below = none_listed W ks n in_ks (below_tells W m c ks rest n once tells) no_ks in
          let after = none_listed W rest n in_rest (after_tells W m c ks rest n once tells) no_rest in
          let own : 0 < count_of (Tree m c ks rest) m = grind (arith, nat_tests) in
          let top = tells m own ∙ top_test m c ks rest n in
          let no : W m ≡ false = top ∙ (rw t (grind (arith, nat_tests, no_ks))) in
          parts W m c ks rest ∙ rw (dropped W m no, below, after) refl)
    ]

-- the lineage of a node in these trees, which stand below others, is what the test finds in tree order, from the innermost on
record Listed (W : ℕ → Bool) (above : List Ancestor) (g : Forest Content) (n : ℕ) : Type 0 where
  line : List Ancestor
  is : lineage_from above g n ≡ Some line
  back : reverse (labels line) ≡ reverse (labels above) ++ filter W (preorder g)

above_listed : (W : ℕ → Bool) (above : List Ancestor) (g : Forest Content) (n : ℕ) → IsDistinct g → TellsAbove W g n → 0 < count_of g n → Listed W above g n
above_listed W above Nil n once tells here = absurd (omega (arith, here))
above_listed W above (Tree m c ks rest) n once tells here =
    let in_ks : (k : ℕ) → count_of ks k ≤ 1 = λ k. omega (arith, once k) in
    let in_rest : (k : ℕ) → count_of rest k ≤ 1 = λ k. omega (arith, once k) in
    let own : 0 < count_of (Tree m c ks rest) m = grind (arith, nat_tests) in
    let top = tells m own ∙ top_test m c ks rest n in
    let below_tell = below_tells W m c ks rest n once tells in
    let after_tell = after_tells W m c ks rest n once tells in
    elim (eqb_tells m n) [
      | inl (t, _) ↦ (
          let o = once n in
          let o' = rw t at o in
          let no_ks : count_of ks n ≡ 0 = omega (arith, o') in
          let no_rest : count_of rest n ≡ 0 = omega (arith, o') in
          let yes : W m ≡ true = top ∙ (rw t (grind (arith, nat_tests))) in
          let found : filter W (preorder (Tree m c ks rest)) ≡ m ∷ [] = parts W m c ks rest ∙ rw (kept W m yes, none_listed W ks n in_ks below_tell no_ks, none_listed W rest n in_rest after_tell no_rest) refl in
          record {
            line = ancestor m c ∷ above;
            is = rw t refl;
            back = reverse-cons m (labels above) ∙ ap (λ xs. reverse (labels above) ++ xs) (sym found);
          })
      | inr (t, _) ↦ by_count (count_of ks n) refl t in_ks in_rest below_tell after_tell top (λ h. above_listed W (ancestor m c ∷ above) ks n in_ks below_tell h) (λ h. above_listed W above rest n in_rest after_tell h)
    ]
  where
    from_rest : Listed W above rest n → eqb m n ≡ false → count_of ks n ≡ 0 → W m ≡ false → filter W (preorder ks) ≡ [] → Listed W above (Tree m c ks rest) n
    from_rest r t e out none =
        let found : filter W (preorder (Tree m c ks rest)) ≡ filter W (preorder rest) = parts W m c ks rest ∙ rw (dropped W m out, none) refl in
        record {
          line = r.line;
          is = rw (t, lineage_absent (ancestor m c ∷ above) ks n e) r.is;
          back = r.back ∙ ap (λ xs. reverse (labels above) ++ xs) (sym found);
        }

    from_below : Listed W (ancestor m c ∷ above) ks n → eqb m n ≡ false → W m ≡ true → filter W (preorder rest) ≡ [] → Listed W above (Tree m c ks rest) n
    from_below r t held none =
        let found : filter W (preorder (Tree m c ks rest)) ≡ (m ∷ []) ++ filter W (preorder ks) = parts W m c ks rest ∙ rw (kept W m held, none) (ap (λ xs. m ∷ xs) (append-nil (filter W (preorder ks)))) in
        let more : reverse (labels (ancestor m c ∷ above)) ++ filter W (preorder ks) ≡ reverse (labels above) ++ ((m ∷ []) ++ filter W (preorder ks)) =
        ap (λ xs. xs ++ filter W (preorder ks)) (reverse-cons m (labels above)) ∙ append_assoc (reverse (labels above)) (m ∷ []) (filter W (preorder ks)) in
        record {
          line = r.line;
          is = rw (t, r.is) refl;
          back = r.back ∙ (more ∙ ap (λ xs. reverse (labels above) ++ xs) (sym found));
        }

    by_count : (k : ℕ) → count_of ks n ≡ k → eqb m n ≡ false → ((k : ℕ) → count_of ks k ≤ 1) → ((k : ℕ) → count_of rest k ≤ 1) → TellsAbove W ks n → TellsAbove W rest n → W m ≡ nat_lt 0 (count_of (Tree m c ks Nil) n)
        → (0 < count_of ks n → Listed W (ancestor m c ∷ above) ks n) → (0 < count_of rest n → Listed W above rest n) → Listed W above (Tree m c ks rest) n
    by_count zero e t in_ks in_rest below_tell after_tell top below after =
        let out : W m ≡ false = top ∙ (rw t (grind (arith, nat_tests, e))) in
        let low : 0 < count_of rest n = (let h = rw t at here in omega (arith, h, e)) in
        from_rest (after low) t e out (none_listed W ks n in_ks below_tell e)
    by_count (suc k) e t in_ks in_rest below_tell after_tell top below after =
        let low : 0 < count_of ks n = omega (arith, e) in
        let no_rest : count_of rest n ≡ 0 = (let o = once n in let o' = rw t at o in omega (arith, o', low)) in
        let held : W m ≡ true = top ∙ (rw t (grind (arith, nat_tests, low))) in
        from_below (below low) t held (none_listed W rest n in_rest after_tell no_rest)

-- ---- tests one after another

pub filter_by : (A B : ℕ → Bool) (xs : List ℕ) → ((l : ℕ) → A l ≡ B l) → filter A xs ≡ filter B xs
filter_by A B [] same = refl
filter_by A B (x ∷ xs) same = rw (same x, filter_by A B xs same) refl

pub filter_both : (A B : ℕ → Bool) (xs : List ℕ) → filter (λ l. A l && B l) xs ≡ filter A (filter B xs)
filter_both A B [] = refl
filter_both A B (x ∷ xs) = by_tests (A x) (B x) refl refl (filter_both A B xs)
  where
    by_tests : (a b : Bool) → A x ≡ a → B x ≡ b → filter (λ l. A l && B l) xs ≡ filter A (filter B xs) → filter (λ l. A l && B l) (x ∷ xs) ≡ filter A (filter B (x ∷ xs))
    by_tests true true s t more = rw (s, t) (rw s (ap (λ ys. x ∷ ys) more))
    by_tests true false s t more = rw (s, t) more
    by_tests false true s t more = rw (s, t) (rw s more)
    by_tests false false s t more = rw (s, t) more

pub filter_none : (A : ℕ → Bool) (xs : List ℕ) → ((l : ℕ) → A l ≡ false) → filter A xs ≡ []
filter_none A [] none = refl
filter_none A (x ∷ xs) none = rw (none x, filter_none A xs none) refl

pub and_false : (a b : Bool) → b ≡ false → (a && b) ≡ false
and_false true b off = off
and_false false b off = refl

-- ---- the ancestors of a node

same_tests : (a b : ℕ) → (0 < a → 0 < b) → (0 < b → 0 < a) → nat_lt 0 a ≡ nat_lt 0 b
same_tests a b to from = grind (arith, nat_tests)

pub none_told : (n : ℕ) → (0 < n → ⊥) → nat_lt 0 n ≡ false
none_told n h = grind (arith, nat_tests)

nowhere : (f : Forest Content) (l x : ℕ) → count_of f l ≡ 0 → is_within f l x ≡ false
nowhere f l x none = ap (λ t. nat_lt 0 (count_of t x)) (tree_of_absent f l none)

module _ (f : Forest Content) (once : IsDistinct f) (l p : ℕ) where
  within_up : (q : ℕ) → l ≢ p → parent_of f p ≡ Some q → (k : ℕ) → count_of f l ≡ k → is_within f l p ≡ is_within f l q
  within_up q off up zero none = nowhere f l p none ∙ sym (nowhere f l q none)
  within_up q off up (suc k) e =
      let here : 0 < count_of f l = omega (arith, e) in
      same_tests (count_of (tree_of f l) p) (count_of (tree_of f l) q) (λ h. within_step f l once here p q off up h) (λ h. within_child f l once here p q up h)

  -- an ancestor of a child is its parent, or an ancestor of that
  ancestor_up : (q : ℕ) → parent_of f p ≡ Some q → is_ancestor f l p ≡ is_within f l q
  ancestor_up q up =
      elim (eqb_tells l p) [
        | inl (t, same) ↦ rw t (sym (ap (λ k. is_within f k q) same ∙ none_told (count_of (tree_of f p) q) (parent_apart f p q once up)))
        | inr (t, off) ↦ rw t (within_up q off up (count_of f l) refl)
      ]

  within_none : l ≢ p → parent_of f p ≡ None → (k : ℕ) → count_of f l ≡ k → is_within f l p ≡ false
  within_none off root zero none = nowhere f l p none
  within_none off root (suc k) e = none_told (count_of (tree_of f l) p) (within_root f l once (omega (arith, e)) p off root)

  pub ancestor_none : parent_of f p ≡ None → is_ancestor f l p ≡ false
  ancestor_none root =
      elim (eqb_tells l p) [
        | inl (t, _) ↦ rw t refl
        | inr (t, off) ↦ rw t (within_none off root (count_of f l) refl)
      ]

-- ---- the links around a node

first_ancestors : (c : Content) (ks rest : Forest Content) (n : ℕ) → IsDistinct (Tree 0 c ks rest) → IsWithin (Tree 0 c ks rest) 0 n → filter (λ l. is_within (Tree 0 c ks rest) l n) (preorder (Tree 0 c ks Nil)) ≡ reverse (labels (lineage (Tree 0 c ks rest) n))
unfolding lineage
first_ancestors c ks rest n once inner =
    let r = above_listed (λ l. is_within (Tree 0 c ks rest) l n) [] (Tree 0 c ks Nil) n alone tells inner in
    sym r.back ∙ ap (λ o. reverse (labels (unwrap_or o []))) (sym r.is ∙ same_line)
  where
    alone : IsDistinct (Tree 0 c ks Nil)
    alone k = let o = once k in omega (arith, o)

    tells : TellsAbove (λ l. is_within (Tree 0 c ks rest) l n) (Tree 0 c ks Nil) n
    tells l here =
        elim (eqb_tells 0 l) [
          | inl (t, _) ↦ rw t refl
          | inr (t, _) ↦ (
              let h : 0 < count_of ks l = (let h' = rw t at here in omega (arith, h')) in
              ap (λ x. nat_lt 0 (count_of x n)) (tree_below 0 c ks rest l once h ∙ sym (tree_below 0 c ks Nil l alone h)))
        ]

    same_line : lineage_from [] (Tree 0 c ks Nil) n ≡ lineage_from [] (Tree 0 c ks rest) n
    same_line =
        elim (eqb_tells 0 n) [
          | inl (t, _) ↦ rw t refl
          | inr (t, _) ↦ (
              let h : 0 < count_of ks n = (let h' = rw t at inner in omega (arith, h')) in
              let none : count_of rest n ≡ 0 = (let o = once n in omega (arith, o, h)) in
              rw (t, lineage_absent [] rest n none) refl)
        ]

module _ (f : Forest Content) (next : ℕ) (law : IsForest f next) where
  -- in tree order, the ancestors of a node and the node itself are its lineage from the outermost on
  ancestors : (n : ℕ) → IsWithin f 0 n → filter (λ l. is_within f l n) (preorder (tree_of f 0)) ≡ reverse (labels (lineage f n))
  ancestors n inner =
      let d = document_first f law.distinct law.rising law.document law.root in
      subst (λ t. filter (λ l. is_within t l n) (preorder (tree_of t 0)) ≡ reverse (labels (lineage t n))) (sym d.3)
      (first_ancestors d.0 d.1 d.2 n (subst (λ t. IsDistinct t) d.3 law.distinct) (subst (λ t. IsWithin t 0 n) d.3 inner))

  links_up : (n q : ℕ) → IsWithin f 0 n → parent_of f n ≡ Some q → filter (λ l. is_link f l && is_ancestor f l n) (preorder (tree_of f 0)) ≡ filter (is_link f) (reverse (labels (lineage f q)))
  links_up n q inner up =
      let off : 0 ≢ n = λ e. absurd (let root = law.root in let t : parent_of f 0 ≡ Some q = ap (parent_of f) e ∙ up in cc) in
      filter_by (λ l. is_link f l && is_ancestor f l n) (λ l. is_link f l && is_within f l q) (preorder (tree_of f 0)) (λ l. ap (λ b. is_link f l && b) (ancestor_up f law.distinct l n q up))
      ∙ (filter_both (is_link f) (λ l. is_within f l q) (preorder (tree_of f 0))
      ∙ ap (filter (is_link f)) (ancestors q (within_step f 0 law.distinct law.document n q off up inner)))

  pub found_above : (n : ℕ) → IsWithin f 0 n → 0 < count_of f n → filter (λ l. is_link f l && is_ancestor f l n) (preorder (tree_of f 0)) ≡ links_above f n
  found_above n inner here = by_parent (parent_of f n) refl
    where
      by_parent : (o : Option ℕ) → parent_of f n ≡ o → filter (λ l. is_link f l && is_ancestor f l n) (preorder (tree_of f 0)) ≡ links_above f n
      by_parent None root =
          filter_none (λ l. is_link f l && is_ancestor f l n) (preorder (tree_of f 0)) (λ l. and_false (is_link f l) (is_ancestor f l n) (ancestor_none f law.distinct l n root))
          ∙ sym (none_above f law.distinct n here root)
      by_parent (Some q) up = links_up n q inner up ∙ sym (above_child f law.distinct n here q up)
