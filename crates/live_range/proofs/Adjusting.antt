-- An edit on the points of some rows after one another, and so on all points.
use Rattle.std.proofs.Common.{◌≡◌, ℕ, suc, zero, ◌+◌, ◌*◌, ◌/◌, ◌%◌, ◌<◌, ◌≤◌, Bool, true, false, ◌==◌, ◌||◌, List, [], ◌∷◌, length, map, slice_get, Option, Some, None, IsSome, IfSome, if◌then◌else◌, refl, sym, ap, ◌∙◌, subst, arith, true≢false}
use Rattle.std.specs.List.{list_any, All}
use Rattle.std.specs.Option.{option_map, option_map_or}
use Rattle.std.proofs.lemmas.List.{length-take}
use Rattle.std.proofs.lemmas.Bool.Decides.{Decides-eqb, nat_tests}
use Rattle.live_range.specs.declared.places.Point.{Point}
use Rattle.live_range.specs.declared.places.Pair.{Pair}
use Rattle.live_range.specs.declared.places.MarkPlace.{MarkPlace}
use Rattle.live_range.specs.declared.places.Places.{Places}
use Rattle.live_range.specs.declared.rows.RowSet.{RowSet}
use Rattle.live_range.specs.PointsEdit.{PointsEdit, Insert, Remove, Move, Replace, Split, Grown, adjusted, adjusted_pair, named_nodes, has_label, PointFits, PairFits}
use Rattle.live_range.specs.Names.{marks_of, at_place, PlacesFit}
use Rattle.live_range.specs.Rows.{RowsByNode, pair_at, point_at, has_row, listed_at, side, Lists}
use Rattle.live_range.proofs.Apart.{All-head, All-tail}

-- ---- a point at a node that the edit doesn't name

flip : (a b : ℕ) → (a == b) ≡ (b == a)
flip a b = grind (arith, nat_tests)

apart_left : (a b : Bool) → (a || b) ≡ false → a ≡ false
apart_left true b h = absurd (true≢false h)
apart_left false b h = refl

apart_right : (a b : Bool) → (a || b) ≡ false → b ≡ false
apart_right true b h = absurd (true≢false h)
apart_right false b h = h

unnamed : (e : PointsEdit) (x : Point) → has_label (named_nodes e) x.label ≡ false → adjusted e x ≡ x
unnamed (Insert parent index) x h = grind (arith, nat_tests)
unnamed (Remove tree parent index) x h = grind (arith, nat_tests)
unnamed (Move from to) x h = grind (arith, nat_tests)
unnamed (Replace node at taken put) x h = grind (arith, nat_tests)
unnamed (Split node at tail parent index) x h = grind (arith, nat_tests)
unnamed (Grown at) x h = grind (arith, nat_tests)

-- ---- the rows in turn

-- the rows in `rest` are still to be adjusted, and each has a point
pub record Halfway (e : PointsEdit) (p q : Places) (rest : RowSet) : Type 0 where
  pub points : (r : ℕ) → r < 64 → point_at q r ≡ (if has_row rest r then point_at p r else option_map (adjusted e) (point_at p r))
  pub there : (r : ℕ) → r < 64 → has_row rest r ≡ true → IsSome (point_at p r)

abbrev pub label_is : ℕ → Option Point → Bool
label_is l o = option_map_or (λ x. x.label == l) o false

-- whether the point stands at one of the labels
abbrev pub stands_among : List ℕ → Option Point → Bool
stands_among labels o = list_any (λ l. label_is l o) labels

pub nowhere : (labels : List ℕ) → stands_among labels None ≡ false
nowhere [] = refl
nowhere (l ∷ ls) = nowhere ls

pub among : (labels : List ℕ) (x : Point) → stands_among labels (Some x) ≡ has_label labels x.label
among [] x = refl
among (l ∷ ls) x = λ i. flip x.label l i || among ls x i

module _ (n : RowsByNode) (p : Places) (listed : Lists p n) where
  pub row_among : (labels : List ℕ) (r : ℕ) → r < 64 → list_any (λ l. listed_at n l r) labels ≡ stands_among labels (point_at p r)
  row_among [] r h = refl
  row_among (l ∷ ls) r h = λ i. listed l r h i || row_among ls r h i

  module _ (e : PointsEdit) (rest : RowSet) (rows : (r : ℕ) → has_row rest r ≡ list_any (λ l. listed_at n l r) (named_nodes e)) where
    at_start : (o : Option Point) (b : Bool) → b ≡ stands_among (named_nodes e) o → o ≡ (if b then o else option_map (adjusted e) o)
    at_start None true h = refl
    at_start None false h = refl
    at_start (Some x) true h = refl
    at_start (Some x) false h = ap Some (sym (unnamed e x (sym (among (named_nodes e) x) ∙ sym h)))

    has_point : (o : Option Point) → stands_among (named_nodes e) o ≡ true → IsSome o
    has_point None h = absurd (true≢false (sym h ∙ nowhere (named_nodes e)))
    has_point (Some x) h = refl

    pub halfway_start : Halfway e p p rest
    halfway_start = record {
      points = λ r h. at_start (point_at p r) (has_row rest r) (rows r ∙ row_among (named_nodes e) r h);
      there = λ r h t. has_point (point_at p r) (sym (rows r ∙ row_among (named_nodes e) r h) ∙ t);
    }

module _ (e : PointsEdit) (p q : Places) (rest : RowSet) (half : Halfway e p q rest) (row : ℕ) (within : row < 64) (on : has_row rest row ≡ true) where
  -- the point of a row that is still to be adjusted
  pub untouched : point_at q row ≡ point_at p row
  untouched = half.points row within ∙ ap (λ b. if b then point_at p row else option_map (adjusted e) (point_at p row)) on

  pub still_there : IsSome (point_at q row)
  still_there = subst IsSome (sym untouched) (half.there row within on)

  module _ (q2 : Places) (less : RowSet) (x y : Point) (at : Some x ≡ point_at q row) (is : y ≡ adjusted e x)
      (rows : (r : ℕ) → r < 64 → has_row less r ≡ (if r == row then false else has_row rest r))
      (points : (r : ℕ) → point_at q2 r ≡ (if r == row then Some y else point_at q r)) where
    next_point : (r : ℕ) → r < 64 → (b : Bool) → (r == row) ≡ b → point_at q2 r ≡ (if has_row less r then point_at p r else option_map (adjusted e) (point_at p r))
    next_point r h true t =
        points r ∙ ap (λ b. if b then Some y else point_at q r) t ∙ ap Some is ∙ ap (option_map (adjusted e)) (at ∙ untouched ∙ ap (point_at p) (sym ((Decides-eqb r row).0 t)))
        ∙ ap (λ b. if b then point_at p r else option_map (adjusted e) (point_at p r)) (sym (rows r h ∙ ap (λ b. if b then false else has_row rest r) t))
    next_point r h false t =
        points r ∙ ap (λ b. if b then Some y else point_at q r) t ∙ half.points r h
        ∙ ap (λ b. if b then point_at p r else option_map (adjusted e) (point_at p r)) (sym (rows r h ∙ ap (λ b. if b then false else has_row rest r) t))

    kept : (r : ℕ) (b c : Bool) → (if b then false else c) ≡ true → c ≡ true
    kept r true c h = absurd (true≢false (sym h))
    kept r false c h = h

    pub halfway_on : Halfway e p q2 less
    halfway_on = record {
      points = λ r h. next_point r h (r == row) refl;
      there = λ r h t. half.there r h (kept r (r == row) (has_row rest r) (sym (rows r h) ∙ t));
    }

-- ---- a row's point fits

module _ (e : PointsEdit) where
  mark_fits : (ms : List MarkPlace) (k : ℕ) → All (λ m. PairFits e m.pair) ms → IfSome (option_map (λ (m : MarkPlace). m.pair) (slice_get ms k)) (PairFits e)
  mark_fits [] k h = tt
  mark_fits (m ∷ ms) zero h = All-head (λ m. PairFits e m.pair) m ms h
  mark_fits (m ∷ ms) (suc k) h = mark_fits ms k (All-tail (λ m. PairFits e m.pair) m ms h)

  pair_fits : (p : Places) (k : ℕ) → PlacesFit e p → IfSome (pair_at p k) (PairFits e)
  pair_fits p zero h = h.selection
  pair_fits p (suc zero) h = h.scratch
  pair_fits p (suc (suc k)) h = mark_fits (marks_of p) k h.marks

  one_side : (b : Bool) (q : Pair) → PairFits e q → PointFits e (if b then q.anchor else q.focus)
  one_side true q h = h.0
  one_side false q h = h.1

  side_fits : (r : ℕ) (o : Option Pair) → IfSome o (PairFits e) → IfSome (option_map (side r) o) (PointFits e)
  side_fits r None h = tt
  side_fits r (Some q) h = one_side (r % 2 == 0) q h

  pub point_fits : (p : Places) (r : ℕ) (x : Point) → PlacesFit e p → Some x ≡ point_at p r → PointFits e x
  point_fits p r x h at = subst (λ o. IfSome o (PointFits e)) (sym at) (side_fits r (pair_at p (r / 2)) (pair_fits p (r / 2) h))

-- the point that is found at a row still to be adjusted
pub looked_fits : (e : PointsEdit) (p q : Places) (rest : RowSet) (half : Halfway e p q rest) (row : ℕ) → row < 64 → has_row rest row ≡ true → (o : Option Point) (x : Point)
    → o ≡ Some x → o ≡ point_at q row → PlacesFit e p → PointFits e x
looked_fits e p q rest half row within on o x is at fits = point_fits e p row x fits (sym is ∙ at ∙ untouched e p q rest half row within on)

-- ---- all rows done

none_is_no_some : {X : Type 0} (x : X) → None ≡ Some x → ⊥
none_is_no_some x h = cc

some_is_no_none : {X : Type 0} (x : X) → Some x ≡ None → ⊥
some_is_no_none x h = cc

some_same : {X : Type 0} (x y : X) → Some x ≡ Some y → x ≡ y
some_same x y h = cc

module _ (p : Places) (k : ℕ) where
  pub at_anchor : point_at p (2 * k) ≡ option_map (λ (q : Pair). q.anchor) (pair_at p k)
  at_anchor =
      let half : (2 * k) / 2 ≡ k = omega arith in
      let even : (2 * k) % 2 ≡ 0 = omega arith in
      λ i. option_map (λ (q : Pair). if even i == 0 then q.anchor else q.focus) (pair_at p (half i))

  pub at_focus : point_at p (2 * k + 1) ≡ option_map (λ (q : Pair). q.focus) (pair_at p k)
  at_focus =
      let half : (2 * k + 1) / 2 ≡ k = omega arith in
      let odd : (2 * k + 1) % 2 ≡ 1 = omega arith in
      λ i. option_map (λ (q : Pair). if odd i == 0 then q.anchor else q.focus) (pair_at p (half i))

both_sides : (e : PointsEdit) (a b : Option Pair)
    → option_map (λ (q : Pair). q.anchor) b ≡ option_map (adjusted e) (option_map (λ (q : Pair). q.anchor) a)
    → option_map (λ (q : Pair). q.focus) b ≡ option_map (adjusted e) (option_map (λ (q : Pair). q.focus) a) → b ≡ option_map (adjusted_pair e) a
both_sides e None None h k = refl
both_sides e None (Some y) h k = absurd (some_is_no_none _ h)
both_sides e (Some x) None h k = absurd (none_is_no_some _ h)
both_sides e (Some x) (Some y) h k =
    let a = some_same y.anchor (adjusted e x.anchor) h in
    let f = some_same y.focus (adjusted e x.focus) k in
    λ i. Some (record { anchor = a i; focus = f i })

abbrev nothing : MarkPlace
nothing = record { name = 0; pair = record { anchor = record { label = 0; offset = 0 }; focus = record { label = 0; offset = 0 } } }

no_cons : (x : ℕ) (xs : List ℕ) → [] ≡ x ∷ xs → ⊥
no_cons x xs h = cc

cons_no : (x : ℕ) (xs : List ℕ) → x ∷ xs ≡ [] → ⊥
cons_no x xs h = cc

same_head : (x y : ℕ) (xs ys : List ℕ) → x ∷ xs ≡ y ∷ ys → x ≡ y
same_head x y xs ys h = cc

same_tail : (x y : ℕ) (xs ys : List ℕ) → x ∷ xs ≡ y ∷ ys → xs ≡ ys
same_tail x y xs ys h = cc

marks_adjusted : (f : Pair → Pair) (ms ns : List MarkPlace) → map (λ m. m.name) ns ≡ map (λ m. m.name) ms
    → ((k : ℕ) → k < length ms → option_map (λ (m : MarkPlace). m.pair) (slice_get ns k) ≡ option_map f (option_map (λ (m : MarkPlace). m.pair) (slice_get ms k)))
    → ns ≡ map (at_place f) ms
marks_adjusted f [] [] names h = refl
marks_adjusted f [] (n ∷ ns) names h = absurd (cons_no _ _ names)
marks_adjusted f (m ∷ ms) [] names h = absurd (no_cons _ _ names)
marks_adjusted f (m ∷ ms) (n ∷ ns) names h =
    let name = same_head n.name m.name (map (λ m. m.name) ns) (map (λ m. m.name) ms) names in
    let pair = some_same n.pair (f m.pair) (h 0 (omega arith)) in
    let rest = marks_adjusted f ms ns (same_tail n.name m.name (map (λ m. m.name) ns) (map (λ m. m.name) ms) names) (λ k l. h (suc k) (omega (arith, l))) in
    λ i. record { name = name i; pair = pair i } ∷ rest i

module _ (e : PointsEdit) (p q : Places) (few : p.count ≤ 16) (points : (r : ℕ) → r < 64 → point_at q r ≡ option_map (adjusted e) (point_at p r)) where
  pub pair_done : (k : ℕ) → k < 32 → pair_at q k ≡ option_map (adjusted_pair e) (pair_at p k)
  pair_done k h =
      both_sides e (pair_at p k) (pair_at q k)
      (sym (at_anchor q k) ∙ points (2 * k) (omega (arith, h)) ∙ ap (option_map (adjusted e)) (at_anchor p k))
      (sym (at_focus q k) ∙ points (2 * k + 1) (omega (arith, h)) ∙ ap (option_map (adjusted e)) (at_focus p k))

  pub marks_done : map (λ m. m.name) (marks_of q) ≡ map (λ m. m.name) (marks_of p) → marks_of q ≡ map (at_place (adjusted_pair e)) (marks_of p)
  marks_done names =
      marks_adjusted (adjusted_pair e) (marks_of p) (marks_of q) names
      (λ k l. pair_done (suc (suc k)) (omega (arith, l, few, length-take p.count p.marks)))

pub points_done : (e : PointsEdit) (p q : Places) (rest : RowSet) → Halfway e p q rest → ((r : ℕ) → has_row rest r ≡ false)
    → (r : ℕ) → r < 64 → point_at q r ≡ option_map (adjusted e) (point_at p r)
points_done e p q rest half none r h = half.points r h ∙ ap (λ b. if b then point_at p r else option_map (adjusted e) (point_at p r)) (none r)
