-- The links above the nodes of a list in tree order, as a test finds them in tree order.
use Rattle.std.proofs.Common.{◌≡◌, ◌≢◌, ◌⊎◌, inl, inr, ℕ, ◌<◌, Bool, true, false, cond, not, ◌&&◌, ◌||◌, List, [], ◌∷◌, ◌++◌, Option, Some, None, refl, sym, ap, subst, ◌∙◌, arith, eqb}
use Rattle.std.specs.Prelude.{IfSome, filter}
use Rattle.std.specs.List.{list_any}
use Rattle.std.proofs.lemmas.Bool.{and_parts}
use Rattle.std.proofs.lemmas.Bool.Decides.{eqb_tells}
use Rattle.edit_model.specs.DomModel.declared.Content.{Content}
use Rattle.edit_model.specs.DomModel.Forest.{Forest, count_of, times, IsWithin, tree_of, parent_of, preorder}
use Rattle.edit_model.specs.DomModel.Places.{index_of}
use Rattle.edit_model.proofs.DomModel.Totals.{total-without}
use Rattle.edit_model.proofs.DomModel.Within.{within_self}
use Rattle.edit_model.specs.LiveRange.declared.places.Pair.{Pair}
use Rattle.edit_model.specs.PointOrder.PointOrder.{is_ancestor, is_before, is_placed}
use Rattle.inline_value.specs.NodeTests.Ranges.{is_effectively_contained}
use Rattle.edit_model.specs.State.{State}
use Rattle.edit_model.specs.Valid.{IsForest, IsPlacedPair, IsValid}
use Rattle.edit_model.proofs.Trees.{within_trans}
use Rattle.inline_value.specs.EditActions.ActiveRange.{start_of, end_of}
use Rattle.inline_value.proofs.EditActions.Placed.{placed_inside}
use Rattle.inline_value.specs.Selections.{nodes_by, nodes_in_range}
use Rattle.inline_commands.specs.Linking.{is_around, links_around}
use Rattle.inline_commands.specs.Merging.{links_above, links_over, merged}
use Rattle.inline_commands.specs.Unlink.{is_link}
use Rattle.inline_commands.proofs.Ancestors.{ancestor_none, and_false, filter_both, filter_by, filter_none, found_above}
use Rattle.inline_commands.proofs.Elsewhere.{effective_in}
use Rattle.inline_commands.proofs.Merging.{Agree, parted}
use Rattle.inline_commands.proofs.Order.{above_is, above_parts, above_through, begins_first, none_earlier, sibling_before}
use Rattle.inline_commands.proofs.Pairs.{Pairs, document_pairs, either_first, found, head_in, listed, pairs_kept, pairs_to}

any_in : (T : ℕ → Bool) (xs : List ℕ) → list_any T xs ≡ true → (r : ℕ) × (0 < times xs r) × (T r ≡ true)
any_in T [] e = absurd (let t : false ≡ true = e in cc)
any_in T (x ∷ xs) e = by_test (T x) refl e (λ e'. any_in T xs e')
  where
    by_test : (b : Bool) → T x ≡ b → (b || list_any T xs) ≡ true → (list_any T xs ≡ true → (r : ℕ) × (0 < times xs r) × (T r ≡ true)) → (r : ℕ) × (0 < times (x ∷ xs) r) × (T r ≡ true)
    by_test true t e more = (x, head_in x xs, t)
    by_test false t e more = (let r = more e in (r.0, omega (arith, r.1), r.2))

filter_in : (A B : ℕ → Bool) (xs : List ℕ) → ((l : ℕ) → 0 < times xs l → A l ≡ B l) → filter A xs ≡ filter B xs
filter_in A B [] same = refl
filter_in A B (x ∷ xs) same = rw (same x (head_in x xs), filter_in A B xs (λ l h. same l (omega (arith, h)))) refl

clash : (b : Bool) → b ≡ true → b ≡ false → ⊥
clash b on off = absurd (let t : true ≡ false = sym on ∙ off in cc)

not_both : (b : Bool) → b ≡ true → not b ≡ true → ⊥
not_both b on off = absurd (let t : false ≡ true = ap not (sym on) ∙ off in cc)

-- a link that stands above one node or another and not above a third, by what stands above the third and the others
link_parts : (k a b c : Bool) → (a ≡ true → c ≡ true → b ≡ true) → ((not a && (k && b)) || (not b && (k && c))) ≡ (not a && (k && (b || c)))
link_parts k true true c h = refl
link_parts k true false true h = absurd (let t : false ≡ true = h refl refl in cc)
link_parts true true false false h = refl
link_parts false true false false h = refl
link_parts true false true c h = refl
link_parts true false false c h = refl
link_parts false false true c h = refl
link_parts false false false c h = refl

module _ (f : Forest Content) (next : ℕ) (law : IsForest f next) where
  abbrev nodes : List ℕ
  nodes = preorder (tree_of f 0)

  abbrev Before : ℕ → ℕ → Type 0
  Before p q = is_before f (record { label = p; offset = 0 }) (record { label = q; offset = 0 }) ≡ true

  -- how a node lies to a later one: that stands below it, or none of its tree begins before one of the node's
  record Turns (p q : ℕ) : Type 0 where
    comes : Before p q
    kind : ((p ≢ q) × IsWithin f p q) ⊎ ((a b : ℕ) → IsWithin f p a → IsWithin f q b → Before b a → ⊥)

  down : (p q : ℕ) → p ≢ q → IsWithin f p q → Turns p q
  down p q off inside = record { comes = begins_first f law.distinct p q off inside; kind = inl (off, inside) }

  across : (top k c p q : ℕ) → parent_of f k ≡ Some top → parent_of f c ≡ Some top → index_of f k < index_of f c → IsWithin f k p → IsWithin f c q → Turns p q
  across top k c p q child other low in_k in_c = record {
    comes = (sibling_before f law.distinct top k c (record { label = q; offset = 0 }) child other low in_c).comes p 0 in_k;
    kind = inr (λ a b in_p in_q e.
        let lies = sibling_before f law.distinct top k c (record { label = b; offset = 0 }) child other low (within_trans f c q b law.distinct in_c in_q) in
        let off = lies.none a 0 (within_trans f k p a law.distinct in_k in_p) in
        absurd (let t : true ≡ false = sym e ∙ off in cc));
  }

  turns : Pairs Turns nodes
  turns = document_pairs f law.distinct Turns down across next law

  -- those above n but not above m, and those above the nodes of a list but not above n, where m comes before n, and n before the list
  module _ (m n : ℕ) (ns : List ℕ) (listed_n : 0 < times nodes n) (first : (l : ℕ) → is_ancestor f l m ≡ true → Before m n) (others : (r : ℕ) → 0 < times ns r → Before n r) where
    inside : IsWithin f 0 n
    inside = listed (tree_of f 0) n listed_n

    here : 0 < count_of f n
    here = omega (arith, inside, total-without (λ k _. cond (eqb k n) 1 0) f 0)

    itself : IsWithin f n n
    itself = within_self f n law.distinct here

    abbrev own : ℕ → Bool
    own l = not (is_ancestor f l m) && (is_link f l && is_ancestor f l n)

    abbrev later : ℕ → Bool
    later l = not (is_ancestor f l n) && (is_link f l && list_any (is_ancestor f l) ns)

    own_is : (l : ℕ) → own l ≡ true → is_ancestor f l n ≡ true
    own_is l e = (and_parts (is_link f l) (is_ancestor f l n) (and_parts (not (is_ancestor f l m)) (is_link f l && is_ancestor f l n) e).1).1

    later_is : (l : ℕ) → later l ≡ true → (not (is_ancestor f l n) ≡ true) × (list_any (is_ancestor f l) ns ≡ true)
    later_is l e =
        let r = and_parts (not (is_ancestor f l n)) (is_link f l && list_any (is_ancestor f l) ns) e in
        (r.0, (and_parts (is_link f l) (list_any (is_ancestor f l) ns) r.1).1)

    -- what stands above m and above one of the list stands above n
    between : (l : ℕ) → 0 < times nodes l → is_ancestor f l m ≡ true → list_any (is_ancestor f l) ns ≡ true → is_ancestor f l n ≡ true
    between l listed_l up some =
        let low = (above_parts f law.distinct l m up).1 in
        let r = any_in (is_ancestor f l) ns some in
        let under = (above_parts f law.distinct l r.0 r.2).1 in
        elim (eqb_tells l n) [
          | inl (_, same) ↦ absurd (behind l same low)
          | inr (_, off) ↦ by_turn (either_first Turns nodes turns l n listed_l listed_n off) low r.0 (others r.0 r.1) under
        ]
      where
        behind : (k : ℕ) → k ≡ n → IsWithin f k m → ⊥
        behind k same low = clash _ (first l up) (subst (λ j. is_before f (record { label = m; offset = 0 }) (record { label = j; offset = 0 }) ≡ false) same (none_earlier f law.distinct k (record { label = m; offset = 0 }) low))

        by_turn : (Turns l n) ⊎ (Turns n l) → IsWithin f l m → (r : ℕ) → Before n r → IsWithin f l r → is_ancestor f l n ≡ true
        by_turn side low r after under =
            elim side [
              | inl turn ↦ elim turn.kind [
                | inl (off, within) ↦ above_is f law.distinct l n off within
                | inr apart ↦ absurd (apart r n under itself after)
              ]
              | inr turn ↦ elim turn.kind [
                | inl (_, within) ↦ absurd (behind n refl (within_trans f n l m law.distinct within low))
                | inr apart ↦ absurd (apart n m itself low (first l up))
              ]
            ]

    agree : (p q : ℕ) → Turns p q → Agree f own later (λ _. false) p q
    agree p q turn = record {
      second = λ e e'.
          let on = own_is q e in
          let out = later_is p e' in
          let r = any_in (is_ancestor f p) ns out.1 in
          elim turn.kind [
            | inl (off, within) ↦ not_both (is_ancestor f p n) (above_through f law.distinct p q n off within on) out.0
            | inr apart ↦ apart r.0 n (above_parts f law.distinct p r.0 r.2).1 (above_parts f law.distinct q n on).1 (others r.0 r.1)
          ];
      third = λ _ e. absurd (let t : false ≡ true = e in cc);
      below = λ _ e. absurd (let t : false ≡ true = e in cc);
      apart = λ e _. absurd (let t : false ≡ true = e in cc);
    }

    joined : filter (λ l. own l || later l) nodes ≡ filter own nodes ++ filter later nodes
    joined =
        parted f own later (λ _. false) (λ l e e'. not_both (is_ancestor f l n) (own_is l e) (later_is l e').0) (λ l e _. absurd (let t : false ≡ true = e in cc)) nodes (pairs_to Turns (Agree f own later (λ _. false)) agree nodes turns)
        ∙ ap (λ xs. filter own nodes ++ merged f (filter later nodes) xs) (filter_none (λ _. false) nodes (λ l. refl))

    one_more : links_over f n ns ≡ filter later nodes
        → links_over f m (n ∷ ns) ≡ filter (λ l. not (is_ancestor f l m) && (is_link f l && list_any (is_ancestor f l) (n ∷ ns))) nodes
    one_more rest =
        let own_found : filter own nodes ≡ filter (λ l. not (is_ancestor f l m)) (links_above f n) =
        filter_both (λ l. not (is_ancestor f l m)) (λ l. is_link f l && is_ancestor f l n) nodes
        ∙ ap (filter (λ l. not (is_ancestor f l m))) (found_above f next law n inside here) in
        ap (λ xs. filter (λ l. not (is_ancestor f l m)) (links_above f n) ++ xs) rest
        ∙ ap (λ xs. xs ++ filter later nodes) (sym own_found)
        ∙ sym joined
        ∙ filter_in (λ l. own l || later l) (λ l. not (is_ancestor f l m) && (is_link f l && list_any (is_ancestor f l) (n ∷ ns))) nodes
        (λ l h. link_parts (is_link f l) (is_ancestor f l m) (is_ancestor f l n) (list_any (is_ancestor f l) ns) (between l h))

  over_found : (m : ℕ) (ns : List ℕ) → ((n l : ℕ) → 0 < times ns n → is_ancestor f l m ≡ true → Before m n) → Pairs Before ns → ((n : ℕ) → 0 < times ns n → 0 < times nodes n)
      → links_over f m ns ≡ filter (λ l. not (is_ancestor f l m) && (is_link f l && list_any (is_ancestor f l) ns)) nodes
  over_found m [] first pairs within =
      sym (filter_none (λ l. not (is_ancestor f l m) && (is_link f l && false)) nodes (λ l. and_false (not (is_ancestor f l m)) (is_link f l && false) (and_false (is_link f l) false refl)))
  over_found m (n ∷ ns) first pairs within =
      one_more m n ns (within n (head_in n ns)) (λ l e. first n l (head_in n ns) e) pairs.0
      (over_found n ns (λ r l h e. pairs.0 r h) pairs.1 (λ r h. within r (omega (arith, h))))

  -- beginning with the document's root, which none stands above
  all_over : (ns : List ℕ) → Pairs Before ns → ((n : ℕ) → 0 < times ns n → 0 < times nodes n) → links_over f 0 ns ≡ filter (λ l. is_link f l && list_any (is_ancestor f l) ns) nodes
  all_over ns pairs within =
      over_found 0 ns (λ n l h e. absurd (clash (is_ancestor f l 0) e (none l))) pairs within
      ∙ filter_by (λ l. not (is_ancestor f l 0) && (is_link f l && list_any (is_ancestor f l) ns)) (λ l. is_link f l && list_any (is_ancestor f l) ns) nodes (λ l. ap (λ b. not b && (is_link f l && list_any (is_ancestor f l) ns)) (none l))
    where
      none : (l : ℕ) → is_ancestor f l 0 ≡ false
      none l = ancestor_none f law.distinct l 0 law.root

  -- ---- the nodes that a range effectively contains

  abbrev IsOrdered : List ℕ → Type 0
  IsOrdered ns = Pairs Before ns × ((n : ℕ) → 0 < times ns n → 0 < times nodes n)

  ends_placed : (pair : Pair) → IsPlacedPair f pair → (is_placed f (start_of f pair) ≡ true) × (is_placed f (end_of f pair) ≡ true)
  ends_placed pair placed = by_focus (is_before f pair.focus pair.anchor)
    where
      by_focus : (b : Bool) → (is_placed f (cond b pair.focus pair.anchor) ≡ true) × (is_placed f (cond b pair.anchor pair.focus) ≡ true)
      by_focus true = (placed.focus, placed.anchor)
      by_focus false = (placed.anchor, placed.focus)

  kept_order : (W : ℕ → Bool) → IsOrdered (filter W nodes)
  kept_order W = (pairs_kept Before W nodes (pairs_to Turns Before (λ p q t. t.comes) nodes turns), λ n h. (found W nodes n h).0)

  range_order : (o : Option Pair) → IfSome o (IsPlacedPair f) → IsOrdered (nodes_by f o)
  range_order None placed = (tt, λ n h. absurd (omega (arith, h)))
  range_order (Some pair) placed =
      let start = start_of f pair in
      let end = end_of f pair in
      let ends = ends_placed pair placed in
      subst IsOrdered (effective_in f next law start end (placed_inside f start ends.0) (placed_inside f end ends.1)) (kept_order (is_effectively_contained f start end))

pub links_are : (s : State) → IsValid s → links_over s.trees 0 (nodes_in_range s) ≡ links_around s
unfolding nodes_in_range links_around is_around
links_are s valid =
    let o = range_order s.trees s.next valid.forest s.points.selection valid.placed.selection in
    all_over s.trees s.next valid.forest (nodes_in_range s) o.0 o.1
