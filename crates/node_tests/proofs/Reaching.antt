-- On which side of a point the children of a node lie.
use Rattle.std.proofs.Common.{◌≡◌, ◌≢◌, ℕ, zero, suc, ◌<◌, ◌≤◌, ◌⊎◌, true, false, Option, Some, None, refl, sym, ap, subst, ◌∙◌, inl, inr, arith}
use Rattle.std.proofs.lemmas.Bool.{cases_lt, lt-ltb, le-ltb}
use Rattle.std.proofs.lemmas.Bool.Decides.{eqb_tells}
use Rattle.node_styles.specs.DomModel.declared.Content.{Content}
use Rattle.node_styles.specs.DomModel.Forest.{Forest, IsDistinct, IsWithin, count_of, parent_of, children_of, first_of, next_of, depth_of}
use Rattle.std.specs.Option.{option_map_or}
use Rattle.node_styles.specs.DomModel.Contents.{length_of}
use Rattle.node_styles.specs.DomModel.Places.{place_in, index_of}
use Rattle.node_styles.proofs.DomModel.Links.{parent_count, times-children_of, eqb_refl_true}
use Rattle.node_styles.proofs.DomModel.Neighbours.{parent_of-first, parent_of-next}
use Rattle.node_styles.proofs.DomModel.Within.{within_self, within_child, within_parent, depth_of-parent}
use Rattle.point_order.specs.LiveRange.declared.places.Point.{Point}
use Rattle.node_styles.specs.NodeArena.declared.NodeRef.{NodeRef}
use Rattle.node_styles.specs.NodeArena.Held.{label}
use Rattle.node_styles.specs.NodeArena.Reads.{IsValid, Names}
use Rattle.point_order.specs.PointOrder.{is_before, child_toward}
use Rattle.node_tests.specs.BlockPoints.{child_at}
use Rattle.node_tests.specs.declared.listing.Reach.{Reach}
use Rattle.node_tests.specs.Listing.{IsAhead, Follows, Precedes, LiesAfter, LiesBefore, Reaches, Ends}
use Rattle.node_tests.proofs.Skipping.{sibling_before, sibling_after, own_before, own_after, child_before, child_after}
use Rattle.node_tests.proofs.Toward.{parent_among, toward, toward_is}
use Rattle.node_tests.proofs.Turning.{at_index, first_get, get_none, get_times, index_first, index_low, index_under, next_index, no_next, place_is}

module _ (f : Forest Content) (once : IsDistinct f) where
  later : (p : Point) → is_before f p (record { label = p.label; offset = suc p.offset }) ≡ true
  unfolding is_before
  later p = rw (eqb_refl_true p.label) (lt-ltb p.offset (suc p.offset) (omega arith))

  front : (p : Point) → is_before f p (record { label = p.label; offset = 0 }) ≡ false
  unfolding is_before
  front p = rw (eqb_refl_true p.label) (le-ltb p.offset 0 (omega arith))

  both : (p q : Point) → p.label ≡ q.label → p.offset < q.offset → (is_before f p q ≡ true) × (is_before f q p ≡ false)
  unfolding is_before
  both p q same low = rw (same, eqb_refl_true q.label) (lt-ltb p.offset q.offset low, le-ltb q.offset p.offset (omega (arith, low)))

  -- a point isn't on one side of a tree that it stands in
  pub not_before_itself : (p : Point) (top : ℕ) → LiesBefore f p top → IsWithin f top p.label → ⊥
  not_before_itself p top lies inside =
      let off = lies.none p.label (suc p.offset) inside in
      let on = later p in
      cc

  pub not_after_itself : (p : Point) (top : ℕ) → LiesAfter f p top → IsWithin f top p.label → ⊥
  not_after_itself p top lies inside =
      let on = lies.comes p.label 0 inside in
      let off = front p in
      cc

  pub after_it : (p : Point) (top k : ℕ) → parent_of f k ≡ Some top → Follows f p top k → LiesAfter f p k
  after_it p top k child side =
      elim side [
        | inl (is, low) ↦ own_after f once p k (child ∙ ap Some (sym is)) low
        | inr (m, other, inside, low) ↦ sibling_after f once top k m p child other low inside
      ]

  pub before_it : (p : Point) (top k : ℕ) → parent_of f k ≡ Some top → Precedes f p top k → LiesBefore f p k
  before_it p top k child side =
      elim side [
        | inl (is, low) ↦ own_before f once p k (child ∙ ap Some (sym is)) low
        | inr (m, other, inside, low) ↦ sibling_before f once top k m p child other low inside
      ]

  -- a point that a child follows comes before one that the child precedes
  pub order : (p q : Point) (top k : ℕ) → parent_of f k ≡ Some top → Follows f p top k → Precedes f q top k → (is_before f p q ≡ true) × (is_before f q p ≡ false)
  order p q top k child left right =
      elim left [
        | inl (is, low) ↦ elim right [
          | inl (is', high) ↦ both p q (is ∙ sym is') (omega (arith, low, high))
          | inr (m, other, inside, high) ↦ (
              let lies = own_after f once p m (other ∙ ap Some (sym is)) (omega (arith, low, high)) in
              (lies.comes q.label q.offset inside, lies.none q.label q.offset inside))
        ]
        | inr (m, other, inside, low) ↦ elim right [
          | inl (is', high) ↦ (
              let lies = own_before f once q m (other ∙ ap Some (sym is')) (omega (arith, low, high)) in
              (lies.comes p.label p.offset inside, lies.none p.label p.offset inside))
          | inr (n, other', inside', high) ↦ (
              let lies = sibling_after f once top n m p other' other (omega (arith, low, high)) inside in
              (lies.comes q.label q.offset inside', lies.none q.label q.offset inside'))
        ]
      ]

  -- the child toward what stands below a node
  pub toward_some : (n top x : ℕ) → depth_of f x < n → 0 < count_of f top → IsWithin f top x → top ≢ x → (k : ℕ) × (child_toward f top x ≡ Some k)
  toward_some zero top x low here inside off = absurd (omega (arith, low))
  toward_some (suc n) top x low here inside off =
      let up = within_parent f top once here x off inside in
      elim (eqb_tells top up.0) [
        | inl (_, is) ↦ (x, toward f once top x x (up.1 ∙ ap Some (sym is)) (within_self f x once (parent_count f x up.0 once up.1).0))
        | inr (_, other) ↦ (
            let r = toward_some n top up.0 (omega (arith, low, depth_of-parent f x up.0 once up.1)) here up.2 other in
            let t = toward_is f once top up.0 r.0 r.1 in
            let k_here = (parent_count f r.0 top once t.0).0 in
            (r.0, toward f once top r.0 x t.0 (within_child f r.0 once k_here x up.0 up.1 t.1)))
      ]

  pub child_with : (top x : ℕ) → 0 < count_of f top → IsWithin f top x → top ≢ x → (k : ℕ) × (parent_of f k ≡ Some top) × IsWithin f k x
  child_with top x here inside off =
      let r = toward_some (suc (depth_of f x)) top x (omega arith) here inside off in
      let t = toward_is f once top x r.0 r.1 in
      (r.0, t.0, t.1)

module _ {holds : NodeRef → Type 0} {f : Forest Content} {upper : ℕ} (law : IsValid holds f upper) where
  pub same_index : (top j k : ℕ) → parent_of f j ≡ Some top → parent_of f k ≡ Some top → index_of f j ≡ index_of f k → j ≡ k
  same_index top j k cj ck e =
      let t : Some j ≡ Some k = sym (at_index law j top cj) ∙ ap (child_at f top) e ∙ at_index law k top ck in
      cc

  pub index_at : (top m i : ℕ) → parent_of f m ≡ Some top → child_at f top i ≡ Some m → index_of f m ≡ i
  index_at top m i child at =
      ap (λ o. option_map_or (λ q. place_in (children_of f q) m) o 0) child
      ∙ place_is (children_of f top) i m (λ j. times-children_of f top j law.distinct) at

  -- the child at an offset
  pub at_child : (top m i : ℕ) → child_at f top i ≡ Some m → (parent_of f m ≡ Some top) × (index_of f m ≡ i) × (i < length_of f top)
  at_child top m i at =
      let child = parent_among f law.distinct top m (get_times (children_of f top) i m at) in
      let place = index_at top m i child at in
      (child, place, omega (arith, place, index_low law m top child))

  -- the side on which a child lies to a point of its parent's tree
  pub side : (p : Point) (top k : ℕ) → 0 < count_of f top → parent_of f k ≡ Some top → IsWithin f top p.label → Follows f p top k ⊎ (Precedes f p top k ⊎ IsWithin f k p.label)
  side p top k here child inside =
      elim (eqb_tells p.label top) [
        | inl (_, is) ↦ elim (cases_lt (index_of f k) p.offset) [
          | inl low ↦ inr (inl (inl (is, low)))
          | inr high ↦ inl (inl (is, high))
        ]
        | inr (_, off) ↦ (
            let r = toward_some f law.distinct (suc (depth_of f p.label)) top p.label (omega arith) here inside (λ e. off (sym e)) in
            let t = toward_is f law.distinct top p.label r.0 r.1 in
            elim (cases_lt (index_of f k) (index_of f r.0)) [
              | inl low ↦ inr (inl (inr (r.0, t.0, t.1, low)))
              | inr high ↦ elim (cases_lt (index_of f r.0) (index_of f k)) [
                | inl low ↦ inl (inr (r.0, t.0, t.1, low))
                | inr low ↦ (
                    let same : r.0 ≡ k = same_index top r.0 k t.0 child (omega (arith, high, low)) in
                    inr (inr (subst (λ j. IsWithin f j p.label) same t.1)))
              ]
            ])
      ]

  -- ---- the four ways in which they are reached

  module _ (p : Point) (top : ℕ) where
    abbrev known : (k : ℕ) → parent_of f k ≡ Some top → Follows f p top k → LiesAfter f p k × (IsWithin f top p.label → Follows f p top k)
    known k child side = (after_it f law.distinct p top k child side, λ _. side)

    abbrev passed : (k : ℕ) → parent_of f k ≡ Some top → Precedes f p top k → LiesBefore f p k × (IsWithin f top p.label → Precedes f p top k)
    passed k child side = (before_it f law.distinct p top k child side, λ _. side)

    -- by an offset among them
    module _ (is : p.label ≡ top) (o : Option NodeRef) (names : Names holds o (child_at f top p.offset)) where
      found : (m : ℕ) → label o ≡ Some m → (parent_of f m ≡ Some top) × (index_of f m ≡ p.offset)
      found m e =
          let at : child_at f top p.offset ≡ Some m = sym names.is ∙ e in
          let child = parent_among f law.distinct top m (get_times (children_of f top) p.offset m at) in
          (child, index_at top m p.offset child at)

      ahead : (k : ℕ) → parent_of f k ≡ Some top → (u : Option ℕ) → label o ≡ u → IsAhead f k u → index_of f k < p.offset
      ahead k child None e t = (let low = get_none (children_of f top) p.offset (sym names.is ∙ e) in omega (arith, low, index_under law k top child))
      ahead k child (Some m) e low = omega (arith, low, (found m e).1)

      pub own_reaches : Reaches holds f p top (record { child = o; holds = false })
      own_reaches = record {
        held = names.held;
        under = λ m e. (found m e).0;
        before = λ k child t. passed k child (inl (is, ahead k child (label o) refl t));
        after = λ k m child e low. known k child (inl (is, omega (arith, low, (found m e).1)));
        inside = λ m e t. absurd (let u : false ≡ true = t in cc);
        beyond = λ m e t. known m (found m e).0 (inl (is, omega (arith, (found m e).1)));
      }

    -- toward a point below one of them
    module _ (here : 0 < count_of f top) (inside : IsWithin f top p.label) (off : p.label ≢ top) (o : Option NodeRef) (names : Names holds o (child_toward f top p.label)) where
      way : (m : ℕ) → label o ≡ Some m → (parent_of f m ≡ Some top) × IsWithin f m p.label
      way m e = toward_is f law.distinct top p.label m (sym names.is ∙ e)

      ahead_of : (k : ℕ) → parent_of f k ≡ Some top → (u : Option ℕ) → label o ≡ u → IsAhead f k u → Precedes f p top k
      ahead_of k child None e t =
          let r = toward_some f law.distinct (suc (depth_of f p.label)) top p.label (omega arith) here inside (λ e. off (sym e)) in
          absurd (let u : None ≡ Some r.0 = sym e ∙ names.is ∙ r.1 in cc)
      ahead_of k child (Some m) e low = inr (m, (way m e).0, (way m e).1, low)

      pub toward_reaches : Reaches holds f p top (record { child = o; holds = true })
      toward_reaches = record {
        held = names.held;
        under = λ m e. (way m e).0;
        before = λ k child t. passed k child (ahead_of k child (label o) refl t);
        after = λ k m child e low. known k child (inr (m, (way m e).0, (way m e).1, low));
        inside = λ m e t. (way m e).1;
        beyond = λ m e t. absurd (let u : true ≡ false = t in cc);
      }

    -- where the tree of their parent lies on one side of it
    pub after_reaches : LiesAfter f p top → (o : Option NodeRef) → Names holds o (first_of f top) → Reaches holds f p top (record { child = o; holds = false })
    after_reaches lies o names = record {
      held = names.held;
      under = λ m e. parent_of-first f law.distinct top m (sym names.is ∙ e);
      before = λ k child t. absurd (none_ahead k child (label o) refl t);
      after = λ k m child e low. (child_after f law.distinct p top k child lies, λ inside. absurd (not_after_itself f law.distinct p top lies inside));
      inside = λ m e t. absurd (let u : false ≡ true = t in cc);
      beyond = λ m e t. (child_after f law.distinct p top m (parent_of-first f law.distinct top m (sym names.is ∙ e)) lies, λ inside. absurd (not_after_itself f law.distinct p top lies inside));
    }
      where
        none_ahead : (k : ℕ) → parent_of f k ≡ Some top → (u : Option ℕ) → label o ≡ u → IsAhead f k u → ⊥
        none_ahead k child None e t =
            let low = get_none (children_of f top) 0 (first_get (children_of f top) ∙ sym names.is ∙ e) in
            omega (arith, low, index_under law k top child)
        none_ahead k child (Some m) e low = omega (arith, low, index_first law m top (parent_of-first f law.distinct top m (sym names.is ∙ e)) (sym names.is ∙ e))

    pub before_reaches : LiesBefore f p top → Reaches holds f p top (record { child = None; holds = false })
    before_reaches lies = record {
      held = tt;
      under = λ m e. absurd (let u : None ≡ Some m = e in cc);
      before = λ k child t. (child_before f law.distinct p top k child lies, λ inside. absurd (not_before_itself f law.distinct p top lies inside));
      after = λ k m child e low. absurd (let u : None ≡ Some m = e in cc);
      inside = λ m e t. absurd (let u : None ≡ Some m = e in cc);
      beyond = λ m e t. absurd (let u : None ≡ Some m = e in cc);
    }

    -- ---- the first one after the point

    pub ends_next : (reach : Reach) → Reaches holds f p top reach → (r : NodeRef) → reach.child ≡ Some r → reach.holds ≡ true → (o : Option NodeRef) → Names holds o (next_of f r.label) → Ends holds f p top reach o
    ends_next reach reaches r is held o names =
        let at : label reach.child ≡ Some r.label = ap label is in
        let child = reaches.under r.label at in
        record {
          held = names.held;
          under = λ s e. parent_of-next f law.distinct r.label s top child (sym names.is ∙ e);
          after = λ k s kid e low.
              let step = next_index law r.label top child s (parent_of-next f law.distinct r.label s top child (sym names.is ∙ e)) (sym names.is ∙ e) in
              reaches.after k r.label kid at (omega (arith, low, step));
          near = λ k m kid t e. (λ _. held, by_stop k kid (label o) refl t m (let u : Some m ≡ Some r.label = sym e ∙ at in cc));
        }
      where
        by_stop : (k : ℕ) → parent_of f k ≡ Some top → (u : Option ℕ) → label o ≡ u → IsAhead f k u → (m : ℕ) → m ≡ r.label → index_of f k ≤ index_of f m
        by_stop k kid None e t m same =
            let child = reaches.under r.label (ap label is) in
            rw same (let last = no_next law r.label top child (sym names.is ∙ e) in omega (arith, last, index_under law k top kid))
        by_stop k kid (Some s) e low m same =
            let child = reaches.under r.label (ap label is) in
            rw same (let step = next_index law r.label top child s (parent_of-next f law.distinct r.label s top child (sym names.is ∙ e)) (sym names.is ∙ e) in omega (arith, low, step))

    pub ends_same : (reach : Reach) → Reaches holds f p top reach → reach.holds ≡ false → Ends holds f p top reach reach.child
    ends_same reach reaches out = record {
      held = reaches.held;
      under = reaches.under;
      after = λ k s kid e low. elim (cases_lt (index_of f s) (index_of f k)) [
        | inl more ↦ reaches.after k s kid e more
        | inr less ↦ (
            let same : s ≡ k = same_index top s k (reaches.under s e) kid (omega (arith, low, less)) in
            subst (λ j. LiesAfter f p j × (IsWithin f top p.label → Follows f p top j)) same (reaches.beyond s e out))
      ];
      near = λ k m kid t e. let low = ahead_is k m (label reach.child) e t in (λ same. absurd (omega (arith, low, ap (index_of f) same)), omega (arith, low));
    }
      where
        ahead_is : (k m : ℕ) → (u : Option ℕ) → u ≡ Some m → IsAhead f k u → index_of f k < index_of f m
        ahead_is k m None e t = absurd (let u : None ≡ Some m = e in cc)
        ahead_is k m (Some s) e t = (let same : s ≡ m = (let u : Some s ≡ Some m = e in cc) in subst (λ j. index_of f k < index_of f j) same t)

    pub ends_none : (reach : Reach) → Reaches holds f p top reach → reach.child ≡ None → Ends holds f p top reach None
    ends_none reach reaches is = record {
      held = tt;
      under = λ s e. absurd (let u : None ≡ Some s = e in cc);
      after = λ k s kid e low. absurd (let u : None ≡ Some s = e in cc);
      near = λ k m kid t e. absurd (let u : None ≡ Some m = ap label (sym is) ∙ e in cc);
    }
