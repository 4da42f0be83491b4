-- Points between which a lane leads into nodes, down to an empty one, and another one out of nodes again, from there: a valley. What it
-- contains holds the empty node, and bears nothing where none of these nodes is an image or a rule.
use Rattle.std.proofs.Common.{◌≡◌, ◌≢◌, ℕ, zero, suc, ◌+◌, ◌<◌, ◌≤◌, Bool, true, false, eqb, if◌then◌else◌, List, [], ◌∷◌, Some, refl, sym, ap, subst, ◌∙◌, inl, inr, arith, true≢false}
use Rattle.std.specs.List.{filter, list_any}
use Rattle.std.proofs.lemmas.Bool.{and_from, and_parts}
use Rattle.std.proofs.lemmas.Bool.Decides.{eqb_tells}
use Rattle.edit_model.specs.DomModel.declared.Content.{Content}
use Rattle.edit_model.specs.DomModel.declared.Content.TheVariants.{Words}
use Rattle.edit_model.specs.DomModel.Contents.{length_of}
use Rattle.edit_model.specs.DomModel.Forest.{Forest, times, tree_of, preorder, parent_of, content_of, depth_of, IsWithin}
use Rattle.edit_model.specs.DomModel.Places.{index_of}
use Rattle.edit_model.proofs.DomModel.Within.{within_self, within_up, within_parent, depth_of-parent}
use Rattle.edit_model.specs.LiveRange.declared.places.Point.{Point}
use Rattle.edit_model.specs.PointOrder.PointOrder.{is_ancestor, is_before}
use Rattle.inline_value.specs.NodeTests.BlockPoints.{child_at}
use Rattle.inline_value.specs.NodeTests.CollapsedWhitespace.{is_words}
use Rattle.inline_value.specs.NodeTests.Ranges.{is_contained, contained_nodes}
use Rattle.inline_value.proofs.NodeTests.Reaching.{after_it, before_it, child_with}
use Rattle.edit_model.specs.State.{State}
use Rattle.edit_model.specs.Valid.{IsForest, IsValid}
use Rattle.edit_model.proofs.Documents.{index_below}
use Rattle.edit_model.proofs.Trees.{within_trans}
use Rattle.inline_value.specs.BlockExtend.Gather.{gather_on, gather, gathered}
use Rattle.inline_commands.proofs.Elsewhere.{contained_in}
use Rattle.inline_commands.proofs.Pairs.{head_in, listed}
use Rattle.delete_core.specs.Ends.{out_of_start, out_of_end}
use Rattle.delete_core.specs.Equivalent.{last_equivalent, first_equivalent}
use Rattle.delete_core.specs.Places.{at, before_node, after_node}
use Rattle.caret_laws.proofs.BareTrees.{IsBarren, Chain, AllBarren, bare_plain, no_chars}
use Rattle.caret_laws.proofs.Blanks.{length_words}
use Rattle.caret_laws.proofs.CaretErasing.{to_last, from_first}
use Rattle.caret_laws.proofs.EmptyRanges.{Gap, gap_in, gap_out, start_left, end_left, and_left}
use Rattle.caret_laws.proofs.InsideRuns.{Began, top_known}
use Rattle.caret_laws.proofs.Lanes.{Lane, stays, leads, lane_trail, lane_begins, lane_ends, lane_first, lane_last, words_off, no_words, lane_from, lane_to, none_within}
use Rattle.caret_laws.proofs.Trails.{own_index, index_is, same_low, by_tree, there_is, not_back, Out, Trail, trail_trans, trail_inside}

pub record Valley (P : ℕ → Type 0) (f : Forest Content) (x : ℕ) (a b : Point) : Type 0 where
  pub down : Lane P false f a (at x 0)
  pub up : Lane P true f (at x 0) b

module _ (P : ℕ → Type 0) (f : Forest Content) (next : ℕ) (law : IsForest f next) (x : ℕ) where
  abbrev low : Point
  low = at x 0

  pub valley_trail : (a b : Point) → Valley P f x a b → Trail f a b
  valley_trail a b k = trail_trans f a low b (lane_trail P false f a low k.down) (lane_trail P true f low b k.up)

  -- ---- what it contains

  module _ (a b : Point) (k : Valley P f x a b) (here : IsWithin f 0 a.label) where
    there_low : IsWithin f 0 x
    there_low = trail_inside f next law a low (lane_trail P false f a low k.down) here

    there_end : IsWithin f 0 b.label
    there_end = trail_inside f next law a b (valley_trail a b k) here

    -- each node that it contains holds the lowest one
    contained_holds : (l : ℕ) → IsWithin f 0 l → is_contained f a b l ≡ true → IsWithin f l x
    unfolding is_contained
    contained_holds l inside e =
        let parts = and_parts (is_before f a (at l 0)) (is_before f (at l (length_of f l)) b) e in
        let own = within_self f l law.distinct (there_is f next law l inside) in
        by_tree f next law low there_low l inside
        (λ lies. absurd (none_within f next law P true low b l k.up there_low inside (and_from (is_before f low (at l 0)) (is_before f (at l (length_of f l)) b) (lies.comes l 0 own) parts.1)))
        (λ lies. absurd (none_within f next law P false a low l k.down here inside (and_from (is_before f a (at l 0)) (is_before f (at l (length_of f l)) low) parts.0 (lies.comes l (length_of f l) own))))
        (λ is. subst (λ m. IsWithin f l m) (sym is) own)
        (λ m child within. within_up f law.distinct m l x child within)

    -- and so it contains what stands below such a node
    contained_below : b.offset ≤ length_of f b.label → (l n : ℕ) → IsWithin f 0 l → is_contained f a b l ≡ true → IsWithin f l n → is_contained f a b n ≡ true
    unfolding is_contained
    contained_below fits l n inside e within =
        let parts = and_parts (is_before f a (at l 0)) (is_before f (at l (length_of f l)) b) e in
        let once = law.distinct in
        let own = within_self f l once (there_is f next law l inside) in
        let first : is_before f a (at n 0) ≡ true = by_tree f next law a here l inside
        (λ lies. lies.comes n 0 within)
        (λ lies. absurd (true≢false (sym parts.0 ∙ lies.none l 0 own)))
        (λ is. absurd (let less = same_low f a (at l 0) is parts.0 in omega (arith, less)))
        (λ m child held. absurd (true≢false (sym parts.0 ∙ (after_it f once (at l 0) l m child (inl (refl, omega arith))).none a.label a.offset held))) in
        let last : is_before f (at n (length_of f n)) b ≡ true = by_tree f next law b there_end l inside
        (λ lies. absurd (true≢false (sym parts.1 ∙ lies.none l (length_of f l) own)))
        (λ lies. lies.comes n (length_of f n) within)
        (λ is. absurd (
        let less = same_low f (at l (length_of f l)) b (sym is) parts.1 in
        let same : length_of f b.label ≡ length_of f l = ap (length_of f) is in
        omega (arith, less, fits, same)))
        (λ m child held. absurd (true≢false (sym parts.1 ∙ (before_it f once (at l (length_of f l)) l m child (inl (refl, index_below f next law l m child))).none b.label b.offset held))) in
        and_from (is_before f a (at n 0)) (is_before f (at n (length_of f n)) b) first last

-- ---- nodes that hold a node

-- what holds for a node and from each node to its parent holds for each that holds it
module _ (f : Forest Content) (next : ℕ) (law : IsForest f next) (Q : ℕ → Type 0) (closed : (l q : ℕ) → Q l → parent_of f l ≡ Some q → Q q) (top : ℕ) where
  holder_step : (l : ℕ) → ((p : ℕ) → parent_of f l ≡ Some p → Q p → IsWithin f top p → Q top) → Q l → IsWithin f top l → Q top
  holder_step l above own inside = elim (eqb_tells top l) [
    | inl (_, e) ↦ subst Q (sym e) own
    | inr (_, off) ↦ (
        let w = within_parent f top law.distinct (top_known f top l inside) l off inside in
        above w.0 w.1 (closed l w.0 own w.1) w.2)
  ]

  holder_at : (n l : ℕ) → depth_of f l ≡ n → Q l → IsWithin f top l → Q top
  holder_at zero l deep own inside = holder_step l (λ p e _ _. absurd (let more = depth_of-parent f l p law.distinct e in omega (arith, deep, more))) own inside
  holder_at (suc n) l deep own inside = holder_step l (λ p e k w. holder_at n p (let more = depth_of-parent f l p law.distinct e in omega (arith, deep, more)) k w) own inside

  holder : (l : ℕ) → Q l → IsWithin f top l → Q top
  holder l own inside = holder_at (depth_of f l) l refl own inside

-- ---- what is gathered of it bears nothing

module _ (s : State) (h : ℕ) (b : Began s h) (Q : ℕ → Type 0) (t : State) where
  barren_filter : (T : ℕ → Bool) (xs : List ℕ) → AllBarren s h b Q t xs → AllBarren s h b Q t (filter T xs)
  barren_filter T [] all = tt
  barren_filter T (n ∷ xs) all = by (T n) (barren_filter T xs all.1)
    where
      by : (v : Bool) → AllBarren s h b Q t (filter T xs) → AllBarren s h b Q t (if v then n ∷ filter T xs else filter T xs)
      by true rest = (all.0, rest)
      by false rest = rest

  barren_those : (T : ℕ → Bool) (xs : List ℕ) → ((l : ℕ) → 0 < times xs l → T l ≡ true → Q l × IsBarren t l) → AllBarren s h b Q t (filter T xs)
  barren_those T [] those = tt
  barren_those T (n ∷ xs) those = by (T n) refl (barren_those T xs (λ l found e. those l (omega (arith, found)) e))
    where
      by : (v : Bool) → T n ≡ v → AllBarren s h b Q t (filter T xs) → AllBarren s h b Q t (if v then n ∷ filter T xs else filter T xs)
      by true e rest = (those n (head_in n xs) e, rest)
      by false e rest = rest

  barren_gathered : (f : Forest Content) (taken xs : List ℕ) → AllBarren s h b Q t xs → AllBarren s h b Q t (gather_on f taken xs)
  barren_gathered f taken [] all = tt
  barren_gathered f taken (n ∷ xs) all = by (list_any (λ k. is_ancestor f k n) taken) (barren_gathered f taken xs all.1) (barren_gathered f (n ∷ taken) xs all.1)
    where
      by : (v : Bool) → AllBarren s h b Q t (gather_on f taken xs) → AllBarren s h b Q t (gather_on f (n ∷ taken) xs)
          → AllBarren s h b Q t (if v then gather_on f taken xs else n ∷ gather_on f (n ∷ taken) xs)
      by true rest more = rest
      by false rest more = (all.0, more)

  module _ (P : ℕ → Type 0) (is : IsValid t) (chain : Chain s h b Q t) (x : ℕ) (own : Q x) (empty : length_of t.trees x ≡ 0) where
    -- a text that holds the lowest node is that one, and empty
    bare_holder : (l : ℕ) → IsWithin t.trees l x → (chars : List ℕ) → content_of t.trees l ≡ Some (Words chars) → chars ≡ []
    bare_holder l within chars text = elim (eqb_tells l x) [
      | inl (_, same) ↦ no_chars chars (sym (length_words t.trees l chars text) ∙ (ap (length_of t.trees) same ∙ empty))
      | inr (_, off) ↦ absurd (
          let m = child_with t.trees is.forest.distinct l x (top_known t.trees l x within) within off in
          no_words t.trees t.next is.forest l (index_of t.trees m.0) m.0 (own_index t.trees is.forest.distinct m.0 l m.1) chars text)
    ]

    pub valley_barren : (test : ℕ → Bool) (a z : Point) → Valley P t.trees x a z → IsWithin t.trees 0 a.label → z.offset ≤ length_of t.trees z.label → AllBarren s h b Q t (gathered test t.trees a z)
    unfolding gathered gather
    valley_barren test a z k here fits =
        barren_gathered t.trees [] (filter test (contained_nodes t.trees a z)) (barren_filter test (contained_nodes t.trees a z)
        (subst (AllBarren s h b Q t) (contained_in t.trees t.next is.forest a z here) (barren_those (is_contained t.trees a z) (preorder (tree_of t.trees 0)) (λ l found e. (
        let inside = listed (tree_of t.trees 0) l found in
        let chained : (n : ℕ) → IsWithin t.trees n x → Q n = λ n w. holder t.trees t.next is.forest Q chain.closed n x own w in (
          chained l (contained_holds P t.trees t.next is.forest x a z k here l inside e),
          λ n within.
              let inner : IsWithin t.trees 0 n = within_trans t.trees 0 l n is.forest.distinct inside within in
              let holds = contained_holds P t.trees t.next is.forest x a z k here n inner (contained_below P t.trees t.next is.forest x a z k here fits l n inside e within) in
              bare_plain t n (chain.plain n (chained n holds)) (bare_holder n holds),
        ))))))

-- ---- the ends of what is deleted

-- lanes, or a valley
pub data Path (P : ℕ → Type 0) (f : Forest Content) (x : ℕ) (a b : Point) : Type 0 where
  along : (v : Bool) → Lane P v f a b → Path P f x a b
  through : Valley P f x a b → Path P f x a b

-- what holds of the ends: neither is a text that the deletion would cut
pub record Cleared (P : ℕ → Type 0) (f : Forest Content) (x : ℕ) (a b : Point) : Type 0 where
  pub path : Path P f x a b
  pub apart : (a.label ≡ b.label) → is_words f a.label ≡ false
  pub after : is_words f a.label ≡ true → a.offset ≡ length_of f a.label
  pub before : is_words f b.label ≡ true → b.offset ≡ 0

module _ (P : ℕ → Type 0) (f : Forest Content) (next : ℕ) (law : IsForest f next) (x : ℕ) (empty : length_of f x ≡ 0)
    (above : is_words f x ≡ true → (q : ℕ) × (parent_of f x ≡ Some q) × P q) where
  abbrev base : Point
  base = at x 0

  child_long : (l i k : ℕ) → child_at f l i ≡ Some k → length_of f l ≢ 0
  child_long l i k found none =
      let c = index_is f law.distinct l k i found in
      let less = index_below f next law l k c.0 in
      omega (arith, less, none)

  parent_child : (w b : Point) → Out f w b → child_at f b.label (index_of f w.label) ≡ Some w.label
  parent_child w b s = subst (λ (q : Point). child_at f q.label (index_of f w.label) ≡ Some w.label) (sym s.there) (own_index f law.distinct w.label s.parent s.child)

  cleared_gap : (v : Bool) (a b : Point) → Gap P v f a b → Cleared P f x (out_of_start f a) (out_of_end f b)
  cleared_gap v a b gap =
      subst (λ q. Cleared P f x q (out_of_end f b)) (sym gap.start)
      (subst (λ q. Cleared P f x a q) (sym gap.end) (record { path = along v gap.lane; apart = gap.apart; after = gap.after; before = gap.before }))

  record Start (a : Point) : Type 0 where
    down : Lane P false f (out_of_start f a) (at x 0)
    off : is_words f (out_of_start f a).label ≡ false

  abbrev Falls : Point → Type 0
  Falls a = Lane P false f a (at x 0) × (is_words f a.label ≡ false)

  start_as : (a q : Point) → out_of_start f a ≡ q → Falls q → Start a
  start_as a q e k = record { down = subst (λ w. Lane P false f w (at x 0)) (sym e) k.0; off = subst (λ (w : Point). is_words f w.label ≡ false) (sym e) k.1 }

  low_start : Lane P false f (at x 0) (at x 0) → Start (at x 0)
  unfolding out_of_start before_node
  low_start lane = by (is_words f x) refl
    where
      by : (v : Bool) → is_words f x ≡ v → Start (at x 0)
      by false e = start_as base base (rw e refl) (lane, e)
      by true e =
          let q = above e in
          let up : Point = at q.0 (index_of f x) in
          let own = own_index f law.distinct x q.0 q.1 in
          start_as base up (rw (e, q.1) refl) (
            leads up (stays refl q.2) (record { child = x; stands = own; there = refl }) (lane_ends P false f base base lane),
            words_off f next law q.0 (index_of f x) x own,
          )

  start_out : (a : Point) → Lane P false f a (at x 0) → Start a
  start_out a lane = elim (lane_first P false f a base lane) [
    | inr (w, first) ↦ (
        let off = words_off f next law a.label a.offset first.child first.stands in
        start_as a a (start_left f a (and_left (is_words f a.label) (eqb a.offset 0) off)) (lane, off))
    | inl e ↦ subst Start (sym e) (low_start (subst (λ w. Lane P false f w (at x 0)) e lane))
  ]

  record End (b : Point) : Type 0 where
    up : Lane P true f (at x 0) (out_of_end f b)
    off : is_words f (out_of_end f b).label ≡ false

  abbrev Rises : Point → Type 0
  Rises b = Lane P true f (at x 0) b × (is_words f b.label ≡ false)

  end_as : (b q : Point) → out_of_end f b ≡ q → Rises q → End b
  end_as b q e k = record { up = subst (λ w. Lane P true f (at x 0) w) (sym e) k.0; off = subst (λ (w : Point). is_words f w.label ≡ false) (sym e) k.1 }

  low_end : Lane P true f (at x 0) (at x 0) → End (at x 0)
  unfolding out_of_end after_node
  low_end lane = by (is_words f x) refl
    where
      by : (v : Bool) → is_words f x ≡ v → End (at x 0)
      by false e = end_as base base (rw e refl) (lane, e)
      by true e =
          let q = above e in
          let up : Point = at q.0 (index_of f x + 1) in
          let own = own_index f law.distinct x q.0 q.1 in
          end_as base up (rw (e, empty, q.1) refl) (
            leads base lane (record { parent = q.0; child = q.1; end = sym empty; there = refl }) q.2,
            words_off f next law q.0 (index_of f x) x own,
          )

  end_out : (b : Point) → Lane P true f (at x 0) b → End b
  end_out b lane = elim (lane_last P true f base b lane) [
    | inr (w, last) ↦ (
        let off = words_off f next law b.label (index_of f w.label) w.label (parent_child w b last) in
        end_as b b (end_left f b (and_left (is_words f b.label) (eqb b.offset (length_of f b.label)) off)) (lane, off))
    | inl e ↦ subst End e (low_end (subst (λ w. Lane P true f (at x 0) w) (sym e) lane))
  ]

  cleared_valley : (a b : Point) → Valley P f x a b → Cleared P f x (out_of_start f a) (out_of_end f b)
  cleared_valley a b k =
      let s = start_out a k.down in
      let e = end_out b k.up in
      record {
        path = through (record { down = s.down; up = e.up });
        apart = λ same. s.off;
        after = λ words. absurd (true≢false (sym words ∙ s.off));
        before = λ words. absurd (true≢false (sym words ∙ e.off));
      }

  module _ (y z : Point) (k : Valley P f x y z) (here : IsWithin f 0 y.label) (there : IsWithin f 0 z.label) (a b : Point) (before : is_before f a b ≡ true) (ahead : Trail f y a) (behind : Trail f b z) (there_b : IsWithin f 0 b.label) where
    never : Trail f b a → ⊥
    never t = true≢false (sym before ∙ not_back f next law b a t there_b)

    there_a : IsWithin f 0 a.label
    there_a = trail_inside f next law y a ahead here

    -- both on the way down
    both_down : Lane P false f a (at x 0) → Lane P false f b (at x 0) → Trail f b (at x 0) → Cleared P f x (out_of_start f a) (out_of_end f b)
    both_down from_a from_b t = elim (lane_first P false f b base from_b) [
      | inl e ↦ cleared_valley a b (record { down = from_a; up = stays (sym e) (lane_ends P false f a base from_a) })
      | inr (w, first) ↦ elim (lane_to f next law P false a base b from_a t) [
        | inr back ↦ absurd (never back)
        | inl j ↦ cleared_gap false a b (gap_in P f next law a b there_a a b before (child_long b.label b.offset first.child first.stands) j.first (stays refl (lane_ends P false f a b j.first)))
      ]
    ]

    -- both on the way up
    both_up : Lane P true f (at x 0) a → Lane P true f (at x 0) b → Trail f (at x 0) a → Cleared P f x (out_of_start f a) (out_of_end f b)
    both_up to_a to_b t = elim (lane_last P true f base a to_a) [
      | inl e ↦ cleared_valley a b (record { down = stays (sym e) (subst (λ (w : Point). P w.label) e (lane_begins P true f base a to_a)); up = to_b })
      | inr (w, last) ↦ elim (lane_from f next law P true base b a to_b t) [
        | inr back ↦ absurd (never back)
        | inl j ↦ cleared_gap true a b (gap_out P f next law a b there_a a b before (child_long a.label (index_of f w.label) w.label (parent_child w a last)) (stays refl (lane_begins P true f a b j.rest)) j.rest)
      ]
    ]

    cleared_between : Cleared P f x (out_of_start f a) (out_of_end f b)
    cleared_between = elim (lane_from f next law P false y base a k.down ahead) [
      | inl i ↦ elim (lane_to f next law P true base z b k.up behind) [
        | inl j ↦ cleared_valley a b (record { down = i.rest; up = j.first })
        | inr t ↦ elim (lane_to f next law P false y base b k.down t) [
          | inl j ↦ both_down i.rest j.rest t
          | inr back ↦ absurd (never (trail_trans f b y a back ahead))
        ]
      ]
      | inr t ↦ elim (lane_from f next law P true base z a k.up t) [
        | inr back ↦ absurd (never (trail_trans f b z a behind back))
        | inl i ↦ elim (lane_to f next law P true base z b k.up behind) [
          | inl j ↦ both_up i.first j.first t
          | inr back ↦ absurd (never (trail_trans f b base a back t))
        ]
      ]
    ]

  pub cleared : (y z : Point) → Valley P f x y z → IsWithin f 0 y.label → IsWithin f 0 z.label → is_before f (last_equivalent f y) (first_equivalent f z) ≡ true
      → Cleared P f x (out_of_start f (last_equivalent f y)) (out_of_end f (first_equivalent f z))
  cleared y z k here there before =
      let behind = from_first f next law z there in
      cleared_between y z k here there (last_equivalent f y) (first_equivalent f z) before (to_last f next law y) behind.0 behind.1
