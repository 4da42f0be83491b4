-- What a walk over the children of a node that a range reaches has listed, and whether the range effectively contains them all.
use Rattle.std.proofs.Common.{◌≡◌, ◌≢◌, ℕ, zero, suc, ◌+◌, ◌<◌, ◌≤◌, ◌⊎◌, inl, inr, Bool, true, false, not, ◌&&◌, List, [], ◌∷◌, ◌++◌, Option, Some, None, IfSome, refl, sym, ap, subst, ◌∙◌, arith, length, take, drop, cond}
use Rattle.std.specs.Prelude.{map}
use Rattle.std.specs.List.{All, filter, insert}
use Rattle.std.proofs.lemmas.Bool.{and_parts, cases_lt, eqb-true}
use Rattle.std.proofs.lemmas.List.{length-append}
use Rattle.std.proofs.lemmas.List.Elements.{All-append, All-cons, All-drop, All-push, All-take}
use Rattle.node_styles.specs.DomModel.declared.Content.{Content}
use Rattle.node_styles.specs.DomModel.Forest.{Forest, IsDistinct, IsWithin, count_of, parent_of, children_of, first_of, next_of, preorder, times, tree_of}
use Rattle.node_styles.specs.DomModel.Places.{index_of, onward}
use Rattle.node_styles.proofs.DomModel.Links.{parent_count, eqb_refl_true}
use Rattle.node_styles.proofs.DomModel.Neighbours.{parent_of-first, parent_of-next}
use Rattle.node_styles.proofs.DomModel.Within.{within_self}
use Rattle.point_order.specs.LiveRange.declared.places.Point.{Point}
use Rattle.node_styles.specs.NodeArena.declared.NodeRef.{NodeRef}
use Rattle.node_styles.specs.NodeArena.Held.{label}
use Rattle.node_styles.specs.NodeArena.Reads.{IsValid}
use Rattle.point_order.specs.PointOrder.{is_before}
use Rattle.node_tests.specs.declared.listing.Reach.{Reach}
use Rattle.node_tests.specs.declared.listing.Sides.{Sides}
use Rattle.node_tests.specs.declared.listing.Wanted.{Wanted}
use Rattle.node_tests.specs.declared.listing.Wanted.TheVariants.{Contained, Effective}
use Rattle.node_tests.specs.Listing.{is_at, is_listed, is_wanted, siblings, Ends, IsAhead, Lies, LiesAfter, LiesBefore, Reaches}
use Rattle.node_tests.specs.Ranges.{is_contained, all_effective, is_effectively_contained}
use Rattle.node_tests.proofs.Above.{set_off, set_on}
use Rattle.node_tests.proofs.Effective.{next_effective}
use Rattle.node_tests.proofs.Inside.{nodes, onward_is_tree, fewer_kids, fewer_onward, some_node}
use Rattle.node_tests.proofs.Kids.{Kid}
use Rattle.node_tests.proofs.Pieces.{count_in_tree}
use Rattle.node_tests.proofs.Propping.{and_assoc}
use Rattle.node_tests.proofs.Reaching.{order, same_index}
use Rattle.node_tests.proofs.Skipping.{and_none, child_before, skipped_after, skipped_before, unwanted_after, unwanted_before, wanted_inside}
use Rattle.node_tests.proofs.Toward.{through}
use Rattle.node_tests.proofs.Turning.{first_get, get_none, index_first, index_under, next_index, no_next}
use Rattle.node_tests.proofs.Wanting.{passed, passed_every, passed_join, tree_passed}

module _ {holds : NodeRef → Type 0} {f : Forest Content} {upper : ℕ} (law : IsValid holds f upper) (p : ℕ) where
  -- a node with a child has a first one
  no_first : (k : ℕ) → parent_of f k ≡ Some p → first_of f p ≡ None → ⊥
  no_first k child e = (let low = get_none (children_of f p) 0 (first_get (children_of f p) ∙ e) in omega (arith, low, index_under law k p child))

  module _ (test : ℕ → Bool) where
    abbrev Bare : ℕ → Type 0
    Bare j = passed test (tree_of f j) ≡ []

    past : (k : ℕ) → parent_of f k ≡ Some p → Bare k → passed test (onward f k) ≡ passed test (siblings f (next_of f k))
    past k child bare =
        ap (passed test) (onward_is_tree f law.distinct k p child)
        ∙ passed_join test (tree_of f k) (siblings f (next_of f k))
        ∙ ap (λ xs. xs ++ passed test (siblings f (next_of f k))) bare

    -- from a child to a later one, where nothing between passes
    skip : (n k m : ℕ) → parent_of f k ≡ Some p → parent_of f m ≡ Some p → index_of f m ≡ n + index_of f k → ((j : ℕ) → parent_of f j ≡ Some p → index_of f j < index_of f m → Bare j) → passed test (onward f k) ≡ passed test (onward f m)
    skip zero k m ck cm e bare = ap (λ j. passed test (onward f j)) (same_index law p k m ck cm (omega (arith, e)))
    skip (suc n) k m ck cm e bare = past k ck (bare k ck (omega (arith, e))) ∙ by_next (next_of f k) refl (λ j cj e'. skip n j m cj cm e' bare)
      where
        by_next : (o : Option ℕ) → next_of f k ≡ o → ((j : ℕ) → parent_of f j ≡ Some p → index_of f m ≡ n + index_of f j → passed test (onward f j) ≡ passed test (onward f m)) → passed test (siblings f o) ≡ passed test (onward f m)
        by_next None t on = absurd (let last = no_next law k p ck t in omega (arith, last, e, index_under law m p cm))
        by_next (Some j) t on =
            let cj = parent_of-next f law.distinct k j p ck t in
            let step = next_index law k p ck j cj t in
            on j cj (omega (arith, e, step))

    -- from a child on, where nothing passes
    tail : (n : ℕ) (o : Option ℕ) → nodes (siblings f o) < n → ((k : ℕ) → o ≡ Some k → parent_of f k ≡ Some p) → ((k : ℕ) → o ≡ Some k → (j : ℕ) → parent_of f j ≡ Some p → index_of f k ≤ index_of f j → Bare j) → passed test (siblings f o) ≡ []
    tail zero o low child bare = absurd (omega (arith, low))
    tail (suc n) None low child bare = refl
    tail (suc n) (Some k) low child bare =
        let ck = child k refl in
        let fewer = fewer_onward f law.distinct k p ck in
        let some = some_node f law.distinct k p ck in
        past k ck (bare k refl k ck (omega arith))
        ∙ tail n (next_of f k) (omega (arith, low, fewer, some)) (λ i t. parent_of-next f law.distinct k i p ck t) (λ i t j cj high.
        let step = next_index law k p ck i (parent_of-next f law.distinct k i p ck t) t in
        bare k refl j cj (omega (arith, step, high)))

  module _ (start end : Point) (w : Wanted) where
    -- what comes before the first child that the range reaches adds nothing
    pub from_first : (o : Option NodeRef) → ((m : ℕ) → label o ≡ Some m → parent_of f m ≡ Some p) → ((k : ℕ) → parent_of f k ≡ Some p → IsAhead f k (label o) → LiesBefore f start k)
        → passed (is_wanted w f start end) (siblings f (label o)) ≡ passed (is_wanted w f start end) (siblings f (first_of f p))
    from_first None under before =
        sym (tail (is_wanted w f start end) (suc (nodes (siblings f (first_of f p)))) (first_of f p) (omega arith) (λ k t. parent_of-first f law.distinct p k t) (λ k t j cj high. skipped_before f law.distinct start end j (before j cj tt) w))
    from_first (Some r) under before = sym (by_first (first_of f p) refl)
      where
        by_first : (u : Option ℕ) → first_of f p ≡ u → passed (is_wanted w f start end) (siblings f u) ≡ passed (is_wanted w f start end) (onward f r.label)
        by_first None t = absurd (no_first r.label (under r.label refl) t)
        by_first (Some k) t =
            let ck = parent_of-first f law.distinct p k t in
            skip (is_wanted w f start end) (index_of f r.label) k r.label ck (under r.label refl) (omega (arith, index_first law k p ck t)) (λ j cj low. skipped_before f law.distinct start end j (before j cj low) w)

    -- nor does what comes from a child on that lies after it
    pub none_left : (s : ℕ) → parent_of f s ≡ Some p → ((k : ℕ) → parent_of f k ≡ Some p → index_of f s ≤ index_of f k → LiesAfter f end k) → passed (is_wanted w f start end) (onward f s) ≡ []
    none_left s child after =
        tail (is_wanted w f start end) (suc (nodes (onward f s))) (Some s) (omega arith) (λ k t. subst (λ i. parent_of f i ≡ Some p) (let u : Some s ≡ Some k = t in (let v : s ≡ k = cc in v)) child) (λ k t j cj high. skipped_after f law.distinct start end j (after j cj (let v : s ≡ k = (let u : Some s ≡ Some k = t in cc) in omega (arith, high, ap (index_of f) v))) w)

  -- ---- all children in effect

  module _ (start end : Point) (ordered : is_before f start end ≡ true) where
    pub effective_is : (k : ℕ) → is_effectively_contained f start end k ≡ all_effective f start end (tree_of f k)
    unfolding is_effectively_contained
    effective_is k = ap (λ v. v && all_effective f start end (tree_of f k)) ordered

    listed_effective : (k : ℕ) → is_wanted Effective f start end k ≡ all_effective f start end (tree_of f k)
    unfolding is_wanted
    listed_effective k = effective_is k

    listed_contained : (k : ℕ) → is_wanted Contained f start end k ≡ is_contained f start end k
    unfolding is_wanted
    listed_contained k = refl

    pub listed_above : (w : Wanted) (k : ℕ) (contained effective : Bool) → contained ≡ is_contained f start end k → effective ≡ all_effective f start end (tree_of f k) → is_listed w contained effective ≡ is_wanted w f start end k
    listed_above Contained k contained effective c e = c ∙ sym (listed_contained k)
    listed_above Effective k contained effective c e = e ∙ sym (listed_effective k)

    pub off_before : (k : ℕ) → parent_of f k ≡ Some p → LiesBefore f start k → all_effective f start end (tree_of f k) ≡ false
    off_before k child lies =
        let here = (parent_count f k p law.distinct child).0 in
        sym (listed_effective k) ∙ unwanted_before f law.distinct start end k lies Effective k (within_self f k law.distinct here)

    pub off_after : (k : ℕ) → parent_of f k ≡ Some p → LiesAfter f end k → all_effective f start end (tree_of f k) ≡ false
    off_after k child lies =
        let here = (parent_count f k p law.distinct child).0 in
        sym (listed_effective k) ∙ unwanted_after f law.distinct start end k lies Effective k (within_self f k law.distinct here)

    pub begins_off : (k : ℕ) → parent_of f k ≡ Some p → all_effective f start end (tree_of f k) ≡ false → all_effective f start end (onward f k) ≡ false
    begins_off k child off = next_effective f start end law.distinct k p child (next_of f k) refl false (sym off)

    -- before the first child that is looked at
    pub flag_init : (first o : Option NodeRef) → label first ≡ first_of f p → ((m : ℕ) → label o ≡ Some m → parent_of f m ≡ Some p) → ((k : ℕ) → parent_of f k ≡ Some p → IsAhead f k (label o) → LiesBefore f start k)
        → (same : Bool) → (same ≡ true → label first ≡ label o) → (same ≡ false → label first ≢ label o)
        → (same && all_effective f start end (siblings f (label o))) ≡ all_effective f start end (siblings f (first_of f p))
    flag_init first o is under before true equal other = ap (λ u. all_effective f start end (siblings f u)) (sym (equal refl) ∙ is)
    flag_init first o is under before false equal other = by_first (first_of f p) refl (label o) refl
      where
        by_first : (u : Option ℕ) → first_of f p ≡ u → (v : Option ℕ) → label o ≡ v → false ≡ all_effective f start end (siblings f u)
        by_first None t None e = absurd (other refl (is ∙ t ∙ sym e))
        by_first None t (Some m) e = absurd (no_first m (under m e) t)
        by_first (Some k) t None e =
            let ck = parent_of-first f law.distinct p k t in
            sym (begins_off k ck (off_before k ck (before k ck (rw e tt))))
        by_first (Some k) t (Some m) e =
            let ck = parent_of-first f law.distinct p k t in
            let low : index_of f k < index_of f m = first_low k m ck (under m e) t (λ same. other refl (is ∙ t ∙ ap Some same ∙ sym e)) in
            sym (begins_off k ck (off_before k ck (before k ck (rw e low))))
          where
            first_low : (k m : ℕ) → parent_of f k ≡ Some p → parent_of f m ≡ Some p → first_of f p ≡ Some k → k ≢ m → index_of f k < index_of f m
            first_low k m ck cm t off = low_by (index_of f m) refl
              where
                low_by : (n : ℕ) → index_of f m ≡ n → index_of f k < index_of f m
                low_by zero e = absurd (off (same_index law p k m ck cm (index_first law k p ck t ∙ sym e)))
                low_by (suc n) e = omega (arith, e, index_first law k p ck t)

    -- past one of them
    pub flag_next : (k : ℕ) → parent_of f k ≡ Some p → (o : Option ℕ) → o ≡ next_of f k → (whole e : Bool) → e ≡ all_effective f start end (tree_of f k) → ((whole && e) && all_effective f start end (siblings f o)) ≡ (whole && all_effective f start end (onward f k))
    flag_next k child o next whole e is = and_assoc whole e (all_effective f start end (siblings f o)) ∙ ap (λ v. whole && v) (sym (next_effective f start end law.distinct k p child o next e is))

    -- at the first that lies after the range
    pub flag_stop : (s : ℕ) → parent_of f s ≡ Some p → LiesAfter f end s → (whole : Bool) → false ≡ (whole && all_effective f start end (onward f s))
    flag_stop s child lies whole = sym (ap (λ v. whole && v) (begins_off s child (off_after s child lies)) ∙ and_none whole)

-- ---- where the walk stands

-- it has come from the first child that the range reaches, and not past the first that lies after the range
pub record Stands (f : Forest Content) (from child stop : Option ℕ) : Type 0 where
  pub some : from ≡ None → child ≡ None
  pub later : (r m : ℕ) → child ≡ Some r → from ≡ Some m → (r ≡ m) ⊎ (index_of f m < index_of f r)
  pub upto : (r s : ℕ) → child ≡ Some r → stop ≡ Some s → index_of f r ≤ index_of f s

pub stands_none : (f : Forest Content) (from stop : Option ℕ) → Stands f from None stop
stands_none f from stop = record {
  some = λ _. refl;
  later = λ r m e. absurd (let t : None ≡ Some r = e in cc);
  upto = λ r s e. absurd (let t : None ≡ Some r = e in cc);
}

and_off : (a b : Bool) → (a && b) ≡ false → a ≡ true → b ≡ false
and_off true b e t = e
and_off false b e t = absurd (let u : false ≡ true = t in cc)

and_out : (a b : Bool) → (a && b) ≡ false → b ≡ true → a ≡ false
and_out true b e t = absurd (let u : true ≡ false = sym t ∙ e in cc)
and_out false b e t = refl

is_on : (b : Bool) → (b ≡ true) ⊎ (b ≡ false)
is_on true = inl refl
is_on false = inr refl

module _ {holds : NodeRef → Type 0} {f : Forest Content} {upper : ℕ} (law : IsValid holds f upper) (start end : Point) (top : ℕ) where
  pub stands_first : (sides : Sides) → Lies f start end sides top → is_before f start end ≡ true
      → (from upto : Reach) (stop : Option NodeRef) → Reaches holds f start top from → (sides.after ≡ true → label from.child ≡ first_of f top) → Ends holds f end top upto stop
      → Stands f (label from.child) (label from.child) (label stop)
  stands_first sides lies ordered from upto stop reaches first ends = record {
    some = λ e. e;
    later = λ r m e e'. inl (let t : Some r ≡ Some m = sym e ∙ e' in cc);
    upto = λ r s e e'. elim (is_on sides.after) [
      | inl on ↦ omega (arith, index_first law r top (reaches.under r e) (sym (first on) ∙ e))
      | inr off ↦ elim (is_on sides.before) [
        | inl on ↦ (
            let cs = ends.under s e' in
            let own = within_self f s law.distinct (parent_count f s top law.distinct cs).0 in
            let one = (ends.after s s cs e' (omega arith)).0.none s 0 own in
            let two = (child_before f law.distinct end top s cs (lies.before on)).comes s 0 own in
            absurd (let t : true ≡ false = sym two ∙ one in cc))
        | inr off' ↦ elim (cases_lt (index_of f s) (index_of f r)) [
          | inl low ↦ (
              let cs = ends.under s e' in
              let left = (ends.after s s cs e' (omega arith)).1 (lies.ends off') in
              let right = (reaches.before s cs (rw e low)).1 (lies.starts off) in
              absurd (let t : true ≡ false = sym ordered ∙ (order f law.distinct end start top s cs left right).1 in cc))
          | inr high ↦ high
        ]
      ]
    ];
  }

  module _ (r : ℕ) (child : parent_of f r ≡ Some top) (stop : Option ℕ) (off : is_at stop r ≡ false) where
    other : (s : ℕ) → stop ≡ Some s → r ≢ s
    other s e same = absurd (let t : true ≡ false = sym (ap (λ o. is_at o r) e ∙ ap (λ k. is_at (Some s) k) same ∙ eqb_refl_true s) ∙ off in cc)

    low : (under : (s : ℕ) → stop ≡ Some s → parent_of f s ≡ Some top) (from : Option ℕ) → Stands f from (Some r) stop → (s : ℕ) → stop ≡ Some s → index_of f r < index_of f s
    low under from stands s e =
        let at = stands.upto r s refl e in
        elim (cases_lt (index_of f r) (index_of f s)) [ inl less ↦ less | inr more ↦ absurd (other s e (same_index law top r s child (under s e) (omega (arith, at, more)))) ]

    pub stands_next : ((s : ℕ) → stop ≡ Some s → parent_of f s ≡ Some top) → (from : Option ℕ) → Stands f from (Some r) stop → (o : Option ℕ) → o ≡ next_of f r → Stands f from o stop
    stands_next under from stands o is = record {
      some = λ e. absurd (let t : Some r ≡ None = stands.some e in cc);
      later = λ k m e e'. inr (
          let step = next_index law r top child k (parent_of-next f law.distinct r k top child (sym is ∙ e)) (sym is ∙ e) in
          elim (stands.later r m refl e') [ inl same ↦ omega (arith, step, ap (index_of f) same) | inr more ↦ omega (arith, step, more) ]);
      upto = λ k s e e'. (
          let step = next_index law r top child k (parent_of-next f law.distinct r k top child (sym is ∙ e)) (sym is ∙ e) in
          omega (arith, step, low under from stands s e'));
    }

    ahead : (under : (s : ℕ) → stop ≡ Some s → parent_of f s ≡ Some top) (from : Option ℕ) → Stands f from (Some r) stop → (u : Option ℕ) → stop ≡ u → IsAhead f r u
    ahead under from stands None e = tt
    ahead under from stands (Some s) e = low under from stands s e

  -- what is known of the tree of the child
  pub child_lies : (r : ℕ) → parent_of f r ≡ Some top → (from upto : Reach) (stop : Option NodeRef) → Reaches holds f start top from → Reaches holds f end top upto → Ends holds f end top upto stop
      → Stands f (label from.child) (Some r) (label stop) → is_at (label stop) r ≡ false
      → (inner : Sides) → inner.after ≡ not (from.holds && is_at (label from.child) r) → inner.before ≡ not (upto.holds && is_at (label upto.child) r) → Lies f start end inner r
  child_lies r child from upto stop reaches reaches' ends stands off inner a b = record {
    after = λ on. by_from (label from.child) refl (set_off (from.holds && is_at (label from.child) r) (sym a ∙ on));
    before = λ on. by_upto (label upto.child) refl (set_off (upto.holds && is_at (label upto.child) r) (sym b ∙ on));
    starts = λ out. (let t = and_parts from.holds (is_at (label from.child) r) (set_on (from.holds && is_at (label from.child) r) (sym a ∙ out)) in
        found (label from.child) t.1 (λ m e. reaches.inside m e t.0));
    ends = λ out. (let t = and_parts upto.holds (is_at (label upto.child) r) (set_on (upto.holds && is_at (label upto.child) r) (sym b ∙ out)) in
        found' (label upto.child) t.1 (λ m e. reaches'.inside m e t.0));
  }
    where
      found : (o : Option ℕ) → is_at o r ≡ true → ((m : ℕ) → o ≡ Some m → IsWithin f m start.label) → IsWithin f r start.label
      found None t at = absurd (let u : false ≡ true = t in cc)
      found (Some m) t at = subst (λ j. IsWithin f j start.label) (eqb-true m r t) (at m refl)

      found' : (o : Option ℕ) → is_at o r ≡ true → ((m : ℕ) → o ≡ Some m → IsWithin f m end.label) → IsWithin f r end.label
      found' None t at = absurd (let u : false ≡ true = t in cc)
      found' (Some m) t at = subst (λ j. IsWithin f j end.label) (eqb-true m r t) (at m refl)

      by_from : (o : Option ℕ) → label from.child ≡ o → (from.holds && is_at (label from.child) r) ≡ false → LiesAfter f start r
      by_from None e t = absurd (let u : Some r ≡ None = stands.some e in cc)
      by_from (Some m) e t = elim (stands.later r m refl e) [
        | inl same ↦ (
            let self : is_at (label from.child) r ≡ true = ap (λ o. is_at o r) e ∙ ap (λ k. is_at (Some m) k) same ∙ eqb_refl_true m in
            let out : from.holds ≡ false = and_out from.holds (is_at (label from.child) r) t self in
            subst (λ j. LiesAfter f start j) (sym same) (reaches.beyond m e out).0)
        | inr more ↦ (reaches.after r m child e more).0
      ]

      by_upto : (o : Option ℕ) → label upto.child ≡ o → (upto.holds && is_at (label upto.child) r) ≡ false → LiesBefore f end r
      by_upto None e t = (reaches'.before r child (rw e tt)).0
      by_upto (Some m) e t =
          let near = ends.near r m child (ahead r child (label stop) off ends.under (label from.child) stands (label stop) refl) e in
          elim (cases_lt (index_of f r) (index_of f m)) [
            | inl less ↦ (reaches'.before r child (rw e less)).0
            | inr more ↦ (
                let same : r ≡ m = same_index law top r m child (reaches'.under m e) (omega (arith, near.1, more)) in
                let self : is_at (label upto.child) r ≡ true = ap (λ o. is_at o r) e ∙ ap (λ k. is_at (Some m) k) same ∙ eqb_refl_true m in
                absurd (let u : true ≡ false = sym (ap (λ h. h && is_at (label upto.child) r) (near.0 same) ∙ self) ∙ t in cc))
          ]

-- ---- the tree of a node between the ends

module _ {holds : NodeRef → Type 0} {f : Forest Content} {upper : ℕ} (law : IsValid holds f upper) (start end : Point) (ordered : is_before f start end ≡ true) (k : ℕ) (here : 0 < count_of f k) (after : LiesAfter f start k) (before : LiesBefore f end k) where
  inside : (w : Wanted) (l : ℕ) → IsWithin f k l → is_wanted w f start end l ≡ true
  inside w l within =
      let l_here : 0 < count_of f l = (let fewer = count_in_tree f k l in omega (arith, fewer, within)) in
      wanted_inside f law.distinct start end l l_here
      (record { comes = λ x o t. after.comes x o (through f law.distinct k l x within t); none = λ x o t. after.none x o (through f law.distinct k l x within t) })
      (record { comes = λ x o t. before.comes x o (through f law.distinct k l x within t); none = λ x o t. before.none x o (through f law.distinct k l x within t) })
      ordered w

  pub every_listed : (w : Wanted) → passed (is_wanted w f start end) (tree_of f k) ≡ preorder (tree_of f k)
  every_listed w = passed_every (is_wanted w f start end) (tree_of f k) (inside w)

  pub every_effective : true ≡ all_effective f start end (tree_of f k)
  every_effective = sym (inside Effective k (within_self f k law.distinct here)) ∙ listed_effective law k start end ordered k

-- ---- the first child that the range reaches

module _ {holds : NodeRef → Type 0} {f : Forest Content} {upper : ℕ} (law : IsValid holds f upper) (p : ℕ) (here : 0 < count_of f p) where
  fewer : (n k m : ℕ) → parent_of f k ≡ Some p → parent_of f m ≡ Some p → index_of f m ≡ n + index_of f k → nodes (onward f m) ≤ nodes (onward f k)
  fewer zero k m ck cm e = (let same = same_index law p k m ck cm (omega (arith, e)) in rw same (omega arith))
  fewer (suc n) k m ck cm e = by_next (next_of f k) refl (λ j cj e'. fewer n j m cj cm e')
    where
      by_next : (o : Option ℕ) → next_of f k ≡ o → ((j : ℕ) → parent_of f j ≡ Some p → index_of f m ≡ n + index_of f j → nodes (onward f m) ≤ nodes (onward f j)) → nodes (onward f m) ≤ nodes (onward f k)
      by_next None t on = absurd (let last = no_next law k p ck t in omega (arith, last, e, index_under law m p cm))
      by_next (Some j) t on =
          let cj = parent_of-next f law.distinct k j p ck t in
          let step = next_index law k p ck j cj t in
          let less = on j cj (omega (arith, e, step)) in
          let whole = fewer_onward f law.distinct k p ck in
          let rest : nodes (siblings f (next_of f k)) ≡ nodes (onward f j) = ap (λ o. nodes (siblings f o)) t in
          omega (arith, less, whole, rest)

  pub none_kid : Kid holds f p None
  none_kid = record { held = tt; under = tt; less = (let low = fewer_kids f law.distinct p here in omega (arith, low)) }

  pub reached_kid : (o : Option NodeRef) → IfSome o (λ r. holds r) → ((m : ℕ) → label o ≡ Some m → parent_of f m ≡ Some p) → Kid holds f p o
  reached_kid None held under = none_kid
  reached_kid (Some r) held under = record { held = held; under = under r.label refl; less = by_first (first_of f p) refl }
    where
      by_first : (u : Option ℕ) → first_of f p ≡ u → nodes (onward f r.label) < nodes (tree_of f p)
      by_first None t = absurd (no_first law p r.label (under r.label refl) t)
      by_first (Some k) t =
          let ck = parent_of-first f law.distinct p k t in
          let less = fewer (index_of f r.label) k r.label ck (under r.label refl) (omega (arith, index_first law k p ck t)) in
          let low = fewer_kids f law.distinct p here in
          let whole : nodes (siblings f (first_of f p)) ≡ nodes (onward f k) = ap (λ o. nodes (siblings f o)) t in
          omega (arith, less, low, whole)

  pub ended : (r : ℕ) → parent_of f r ≡ Some p → nodes (siblings f None) < nodes (siblings f (Some r))
  ended r child = (let whole = fewer_onward f law.distinct r p child in let some = some_node f law.distinct r p child in omega (arith, whole, some))

pub stop_is : (o : Option ℕ) (r : ℕ) → is_at o r ≡ true → o ≡ Some r
stop_is None r e = absurd (let t : false ≡ true = e in cc)
stop_is (Some s) r e = ap Some (eqb-true s r e)

-- ---- a node put before what was listed of its children

labels_insert : (xs : List NodeRef) (i : ℕ) (x : NodeRef) → map (λ r. r.label) (insert xs i x) ≡ insert (map (λ r. r.label) xs) i x.label
labels_insert [] zero x = refl
labels_insert [] (suc i) x = refl
labels_insert (y ∷ xs) zero x = refl
labels_insert (y ∷ xs) (suc i) x = ap (λ ls. y.label ∷ ls) (labels_insert xs i x)

at_seam : (xs ys : List ℕ) (y : ℕ) → insert (xs ++ ys) (length xs) y ≡ xs ++ y ∷ ys
at_seam [] ys y = refl
at_seam (x ∷ xs) ys y = ap (λ ls. x ∷ ls) (at_seam xs ys y)

count_labels : (xs : List NodeRef) → length (map (λ r. r.label) xs) ≡ length xs
count_labels [] = refl
count_labels (x ∷ xs) = omega (arith, count_labels xs)

pub all_inserted : (P : NodeRef → Type 0) (xs : List NodeRef) (i : ℕ) (x : NodeRef) → All P xs → P x → All P (insert xs i x)
all_inserted P xs i x all own = All-append P (take i xs) (x ∷ drop i xs) (All-take P i xs all) (All-cons P x (drop i xs) own (All-drop P i xs all))

module _ (test : ℕ → Bool) (f : Forest Content) (once : IsDistinct f) (r : NodeRef) (here : 0 < count_of f r.label) where
  -- the node before its children
  pub inserted : (old found : List NodeRef) (n : ℕ) → n ≡ length old → map (λ k. k.label) found ≡ map (λ k. k.label) old ++ passed test (siblings f (first_of f r.label)) → test r.label ≡ true
      → map (λ k. k.label) (insert found n r) ≡ map (λ k. k.label) old ++ passed test (tree_of f r.label)
  inserted old found n is listed passes =
      let ls = map (λ k. k.label) old in
      let ks = passed test (siblings f (first_of f r.label)) in
      labels_insert found n r
      ∙ (ap (λ xs. insert xs n r.label) listed
      ∙ (ap (λ m. insert (ls ++ ks) m r.label) (is ∙ sym (count_labels old))
      ∙ (at_seam ls ks r.label
      ∙ ap (λ xs. ls ++ xs) (sym (tree_passed test f once r.label here ∙ ap (λ b. cond b (r.label ∷ []) [] ++ ks) passes)))))

  pub left_out : (old found : List NodeRef) → map (λ k. k.label) found ≡ map (λ k. k.label) old ++ passed test (siblings f (first_of f r.label)) → test r.label ≡ false
      → map (λ k. k.label) found ≡ map (λ k. k.label) old ++ passed test (tree_of f r.label)
  left_out old found listed fails =
      let ks = passed test (siblings f (first_of f r.label)) in
      listed ∙ ap (λ xs. map (λ k. k.label) old ++ xs) (sym (tree_passed test f once r.label here ∙ ap (λ b. cond b (r.label ∷ []) [] ++ ks) fails))

all_passed : (test : ℕ → Bool) (xs : List ℕ) → ((l : ℕ) → 0 < times xs l → test l ≡ true) → filter test xs ≡ xs
all_passed test [] on = refl
all_passed test (x ∷ xs) on = (let self = eqb_refl_true x in let h : 0 < times (x ∷ xs) x = (rw self (omega arith)) in
    rw (on x h) (ap (λ ls. x ∷ ls) (all_passed test xs (λ l t. on l (omega (arith, t))))))

pub passed_whole : (g : Forest Content) → passed (λ _. true) g ≡ preorder g
passed_whole g = all_passed (λ _. true) (preorder g) (λ l h. refl)

pub all_pushed : (P : NodeRef → Type 0) (xs ys : List NodeRef) (x : NodeRef) → ys ≡ xs ++ x ∷ [] → All P xs → P x → All P ys
all_pushed P xs ys x is all own = subst (All P) (sym is) (All-push P xs x all own)

pub longer : (old found : List NodeRef) (ks : List ℕ) → map (λ r. r.label) found ≡ map (λ r. r.label) old ++ ks → length old ≤ length found
longer old found ks e = (let size = ap length e in omega (arith, size, count_labels old, count_labels found, length-append (map (λ r. r.label) old) ks))
