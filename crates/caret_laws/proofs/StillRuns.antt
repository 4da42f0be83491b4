-- Runs that select nothing, by their parts: points move by edits alone, to where an edit sends them. So where the points of the
-- selection stand at nodes that are inside, they do so after such a run.
use Rattle.std.proofs.Common.{◌≡◌, ℕ, ◌+◌, Bool, true, false, ◌&&◌, if◌then◌else◌, eqb, List, length, Option, Some, None, IfSome, refl, sym, ap, subst, ◌∙◌, inl, inr, true≢false}
use Rattle.std.specs.Option.{option_map, option_map_or}
use Rattle.std.proofs.lemmas.Bool.{cases_Bool}
use Rattle.edit_model.specs.DomModel.declared.Content.{Content}
use Rattle.edit_model.specs.DomModel.declared.Content.TheVariants.{Document, Element, Words, Remark}
use Rattle.edit_model.specs.DomModel.declared.attributes.Attribute.{Attribute}
use Rattle.edit_model.specs.DomModel.Contents.{is_parent_at, may_have_children}
use Rattle.edit_model.specs.DomModel.Forest.{Forest, preorder, tree_of, content_of, unlink}
use Rattle.edit_model.specs.DomModel.Places.{index_of}
use Rattle.edit_model.specs.LiveRange.declared.places.Point.{Point}
use Rattle.edit_model.specs.LiveRange.declared.places.Pair.{Pair}
use Rattle.edit_model.specs.LiveRange.LivePoints.{LivePoints}
use Rattle.edit_model.specs.LiveRange.PointsEdit as range
use Rattle.edit_model.specs.LiveRange.PointsEdit.{adjusted, adjusted_pair, with_offset, after_insert, after_removal, after_replacement, after_loss, has_label}
use Rattle.edit_model.specs.State.{State}
use Rattle.edit_model.specs.Confined.{is_open, may_grow, may_select}
use Rattle.edit_model.specs.Edit.{Edit, Insert, Remove, Move, Replace, Set, Unset, is_made_edit, points_after, index_before, parent_or_0, changed, with_change, edited}
use Rattle.edit_model.specs.Action as action
use Rattle.edit_model.specs.Action.{Action, made, words_content, grown, scratched, acted, element_content}
use Rattle.edit_model.specs.Laws.{LeavesStates}
use Rattle.edit_model.specs.Run.{Reaches, here, onward, Run, ◌>>=◌, answer, look, given, for_each, final, edit, make_element, perform}
use Rattle.edit_model.proofs.Documents.{has_children}
use Rattle.edit_model.proofs.Each.{Each, EachOn, each_bind, each_answer, each_look, each_if, each_given, each_for_each, each_edit, each_make_element, each_perform}
use Rattle.edit_model.proofs.Made.{parent_is}
use Rattle.edit_model.proofs.Tests.{removes, goes, parent_there}
use Rattle.edit_model.proofs.Steps.{either_way}
use Rattle.edit_laws.specs.Kinds as kind
use Rattle.edit_laws.specs.Kinds.{Kind, kind_in, kind_of}
use Rattle.edit_laws.proofs.StayingKinds.{kind_along}
use Rattle.caret_laws.proofs.InsideRuns.{Began, Underway, Near, open_near, valid_way}

-- ---- actions that select nothing and send no points, and change no state of contenteditable

abbrev pub IsStill : Action → Type 0
IsStill (action.Select anchor focus) = ⊥
IsStill (action.Extend focus) = ⊥
IsStill action.Unselect = ⊥
IsStill (action.Send node at tail) = ⊥
IsStill (action.Extract from end target) = ⊥
IsStill a = LeavesStates a

abbrev pub Stilling : Action → State → Type 0
Stilling a s = IsStill a

pub record Still {T : Type 0} (m : Run T) : Type 0 where
  pub each : Each Stilling m

pub still_answer : {A : Type 0} (a : A) → Still (answer a)
still_answer a = record { each = each_answer Stilling a }

pub still_bind : {A B : Type 0} (m : Run A) (k : A → Run B) → Still m → ((a : A) → Still (k a)) → Still (m >>= k)
still_bind m k h g = record { each = each_bind Stilling m k h.each (λ a. (g a).each) }

pub still_look : {A : Type 0} (k : State → Run A) → ((s : State) → Still (k s)) → Still (look k)
still_look k h = record { each = each_look Stilling k (λ s _. (h s).each) }

pub still_if : {A : Type 0} (b : Bool) (m n : Run A) → Still m → Still n → Still (if b then m else n)
still_if b m n h g = record { each = each_if Stilling b m n h.each g.each }

pub still_given : {A B : Type 0} (o : Option A) (n : Run B) (f : A → Run B) → Still n → ((a : A) → Still (f a)) → Still (given o n f)
still_given o n f h g = record { each = each_given Stilling o n f h.each (λ a. (g a).each) }

pub still_each : {A : Type 0} (xs : List A) (f : A → Run (Unit {0})) → ((x : A) → Still (f x)) → Still (for_each xs f)
still_each xs f h = record { each = each_for_each Stilling xs f (λ x. (h x).each) }

pub still_edit : (e : Edit) → IsStill (action.Change e) → Still (edit e)
still_edit e h = record { each = each_edit Stilling e (λ s is. h) }

pub still_make_element : (name : List ℕ) (attributes : List Attribute) → IsStill (action.MakeElement name attributes) → Still (make_element name attributes)
still_make_element name attributes h = record { each = each_make_element Stilling name attributes (λ s is. h) }

pub still_perform : (a : Action) → IsStill a → Still (perform a)
still_perform a h = record { each = each_perform Stilling a (λ s is. h) }

pub ruleset still_parts = (still_answer, still_bind, still_look, still_if, still_given, still_each, still_edit, still_perform)

leaves_still : (a : Action) → IsStill a → LeavesStates a
leaves_still (action.Change e) h = h
leaves_still (action.MakeElement name attributes) h = h
leaves_still (action.MakeWords chars) h = h
leaves_still (action.Select anchor focus) h = absurd h
leaves_still (action.Extend focus) h = absurd h
leaves_still action.Unselect h = absurd h
leaves_still (action.Grow at) h = h
leaves_still (action.Send node at tail) h = absurd h
leaves_still (action.Scratch pair) h = h
leaves_still (action.Override command setting) h = h
leaves_still (action.Flag flags) h = h
leaves_still (action.Extract from end target) h = absurd h

-- ---- what can have children stays so

pub parent_kind : (f g : Forest Content) (l : ℕ) → kind_of g l ≡ kind_of f l → is_parent_at f l ≡ true → is_parent_at g l ≡ true
parent_kind f g l same h = by (content_of f l) (content_of g l) same h
  where
    of_kind : Kind → Bool
    of_kind kind.Document = true
    of_kind (kind.Element name) = true
    of_kind kind.Text = false
    of_kind kind.Comment = false

    told : (c : Content) → may_have_children c ≡ of_kind (kind_in c)
    told Document = refl
    told (Element name attributes) = refl
    told (Words chars) = refl
    told (Remark chars) = refl

    by : (o p : Option Content) → option_map kind_in p ≡ option_map kind_in o → option_map_or may_have_children o false ≡ true → option_map_or may_have_children p false ≡ true
    by None p same h = absurd (true≢false (sym h))
    by (Some c) None same h = absurd (let e : None ≡ Some (kind_in c) = same in cc)
    by (Some c) (Some d) same h =
        let e : kind_in d ≡ kind_in c = (let q : Some (kind_in d) ≡ Some (kind_in c) = same in cc) in
        told d ∙ (ap of_kind e ∙ (sym (told c) ∙ h))

-- ---- one action

module _ (s : State) (h : ℕ) (keeping : Bool) (b : Began s h) where
  -- a node that is near and can have children
  pub record Good (u : State) (l : ℕ) : Type 0 where
    pub near : Near s h keeping b l
    pub parent : is_parent_at u.trees l ≡ true

  abbrev pub GoodPair : State → Pair → Type 0
  GoodPair u p = Good u p.anchor.label × Good u p.focus.label

  -- the points of the selection stand at such nodes
  pub record Selects (u : State) : Type 0 where
    pub points : IfSome u.points.selection (GoodPair u)

  module _ (u : State) (way : Underway s h keeping u) where
    good_later : (a : Action) (l : ℕ) → Good u l → Good (acted a u) l
    good_later a l good =
        let low = (valid_way s h keeping b u way).forest.below l (parent_there u.trees l good.parent) in
        record {
          near = good.near;
          parent = parent_kind u.trees (acted a u).trees l (kind_along {s = u} {t = acted a u} l (onward here a) (valid_way s h keeping b u way) low) good.parent;
        }

    pair_later : (a : Action) (o : Option Pair) → IfSome o (GoodPair u) → IfSome o (GoodPair (acted a u))
    pair_later a None good = tt
    pair_later a (Some p) good = (good_later a p.anchor.label good.0, good_later a p.focus.label good.1)

    -- an adjustment that leaves a point at its node or sends it to a good one
    abbrev Sends : range.PointsEdit → Type 0
    Sends e = (p : Point) → Good u p.label → Good u (adjusted e p).label

    adjusted_later : (a : Action) (e : range.PointsEdit) → Sends e → (o : Option Pair) → IfSome o (GoodPair u) → IfSome (option_map (adjusted_pair e) o) (GoodPair (acted a u))
    adjusted_later a e sends None good = tt
    adjusted_later a e sends (Some p) good = (good_later a (adjusted e p.anchor).label (sends p.anchor good.0), good_later a (adjusted e p.focus).label (sends p.focus good.1))

    same_label : (v : Bool) (p : Point) (o : ℕ) → Good u p.label → Good u (if v then with_offset p o else p).label
    same_label true p o good = good
    same_label false p o good = good

    sends_insert : (parent index : ℕ) → Sends (range.Insert parent index)
    sends_insert parent index p good = same_label (eqb p.label parent) p (after_insert index p.offset) good

    sends_remove : (tree : List ℕ) (parent index : ℕ) → Good u parent → Sends (range.Remove tree parent index)
    sends_remove tree parent index to p good = by (has_label tree p.label)
      where
        by : (v : Bool) → Good u (if v then record { label = parent; offset = index } else (if eqb p.label parent then with_offset p (after_removal index p.offset) else p)).label
        by true = to
        by false = same_label (eqb p.label parent) p (after_removal index p.offset) good

    sends_loss : (from to p : Point) → Good u to.label → Good u p.label → Good u (after_loss from to p).label
    sends_loss from to p there good = by (eqb p.offset from.offset) (eqb p.offset (from.offset + 1))
      where
        by : (v w : Bool) → Good u (if v then to else (if w then with_offset to (to.offset + 1) else with_offset p (after_removal from.offset p.offset))).label
        by true w = there
        by false true = there
        by false false = good

    sends_move : (from to : Point) → Good u to.label → Sends (range.Move from to)
    sends_move from to there p good = by (eqb from.label to.label) (eqb p.label from.label)
      where
        by : (v w : Bool) → Good u (if v
            then (if w then with_offset p (after_insert to.offset (after_removal from.offset p.offset)) else p)
            else (if w then after_loss from to p
            else (if eqb p.label to.label then with_offset p (after_insert to.offset p.offset) else p))).label
        by true true = good
        by true false = good
        by false true = sends_loss from to p there good
        by false false = same_label (eqb p.label to.label) p (after_insert to.offset p.offset) good

    sends_replace : (node at taken put : ℕ) → Sends (range.Replace node at taken put)
    sends_replace node at taken put p good = same_label (eqb p.label node) p (after_replacement at taken put p.offset) good

    sends_grown : (at : Point) → Sends (range.Grown at)
    sends_grown at p good = same_label (eqb p.label at.label && eqb p.offset at.offset) p (p.offset + 1) good

    -- an open node that can have children
    open_good : (p : ℕ) → is_open u p ≡ true → is_parent_at u.trees p ≡ true → Good u p
    open_good p allowed parent = record { near = open_near s h keeping b u way p allowed; parent = parent }

    abbrev After : Edit → Type 0
    After e = IfSome (points_after e u.trees u.points).selection (GoodPair (acted (action.Change e) u))

    edit_selects : (e : Edit) → is_made_edit e u ≡ true → Selects u → After e
    unfolding is_made_edit points_after
    edit_selects (Insert p c n) may sel = adjusted_later (action.Change (Insert p c n)) (range.Insert p (index_before u.trees p c)) (sends_insert p (index_before u.trees p c)) u.points.selection sel.points
    edit_selects (Remove n) may sel =
        let t = removes u n may in
        let is = valid_way s h keeping b u way in
        let to : Good u (parent_or_0 u.trees n) = subst (λ k. Good u k) (sym (parent_is u.trees t.from n t.child)) (open_good t.from t.allowed (has_children u.trees u.next is.forest t.from n t.child)) in
        adjusted_later (action.Change (Remove n)) (range.Remove (preorder (tree_of u.trees n)) (parent_or_0 u.trees n) (index_of u.trees n))
        (sends_remove (preorder (tree_of u.trees n)) (parent_or_0 u.trees n) (index_of u.trees n) to) u.points.selection sel.points
    edit_selects (Move n p c) may sel =
        let t = goes u n p c may in
        let from : Point = record { label = parent_or_0 u.trees n; offset = index_of u.trees n } in
        let to : Point = record { label = p; offset = index_before (unlink u.trees n) p c } in
        adjusted_later (action.Change (Move n p c)) (range.Move from to) (sends_move from to (open_good p t.allowed_to t.parent)) u.points.selection sel.points
    edit_selects (Replace n at count put) may sel = adjusted_later (action.Change (Replace n at count put)) (range.Replace n at count (length put)) (sends_replace n at count (length put)) u.points.selection sel.points
    edit_selects (Set n name value) may sel = pair_later (action.Change (Set n name value)) u.points.selection sel.points
    edit_selects (Unset n name) may sel = pair_later (action.Change (Unset n name)) u.points.selection sel.points

    -- the same points in another state of the same trees
    points_made : (e : Edit) → is_made_edit e u ≡ true → (edited e u).points ≡ points_after e u.trees u.points
    unfolding edited changed with_change
    points_made e may = rw may refl

    points_left : (e : Edit) → is_made_edit e u ≡ false → (edited e u).points ≡ u.points
    unfolding edited changed with_change
    points_left e off = rw off refl

    acted_edit : (e : Edit) → acted (action.Change e) u ≡ edited e u
    unfolding acted
    acted_edit e = refl

    selects_edit : (e : Edit) → Selects u → Selects (acted (action.Change e) u)
    selects_edit e sel = elim (cases_Bool (is_made_edit e u)) [
      | inl may ↦ record {
        points = subst (λ (q : LivePoints). IfSome q.selection (GoodPair (acted (action.Change e) u))) (sym (ap (λ (t : State). t.points) (acted_edit e) ∙ points_made e may)) (edit_selects e may sel);
      }
      | inr off ↦ record {
        points = subst (λ (q : LivePoints). IfSome q.selection (GoodPair (acted (action.Change e) u))) (sym (ap (λ (t : State). t.points) (acted_edit e) ∙ points_left e off)) (pair_later (action.Change e) u.points.selection sel.points);
      }
    ]

    same_points : (a : Action) → (acted a u).points.selection ≡ u.points.selection → Selects u → Selects (acted a u)
    same_points a same sel = record { points = subst (λ o. IfSome o (GoodPair (acted a u))) (sym same) (pair_later a u.points.selection sel.points) }

    made_points : (c : Content) → (made c u).points.selection ≡ u.points.selection
    unfolding made
    made_points c = refl

    grown_points : (at : Point) → may_grow u at ≡ true → (acted (action.Grow at) u).points.selection ≡ option_map (adjusted_pair (range.Grown at)) u.points.selection
    unfolding acted grown changed
    grown_points at e = rw e refl

    left_points : (at : Point) → may_grow u at ≡ false → (acted (action.Grow at) u).points.selection ≡ u.points.selection
    unfolding acted grown changed
    left_points at e = rw e refl

    grown_selects : (at : Point) → Selects u → Selects (acted (action.Grow at) u)
    grown_selects at sel = record { points = by (may_grow u at) refl }
      where
        by : (v : Bool) → may_grow u at ≡ v → IfSome (acted (action.Grow at) u).points.selection (GoodPair (acted (action.Grow at) u))
        by true e = subst (λ o. IfSome o (GoodPair (acted (action.Grow at) u))) (sym (grown_points at e)) (adjusted_later (action.Grow at) (range.Grown at) (sends_grown at) u.points.selection sel.points)
        by false e = subst (λ o. IfSome o (GoodPair (acted (action.Grow at) u))) (sym (left_points at e)) (pair_later (action.Grow at) u.points.selection sel.points)

    scratched_points : (pair : Pair) → (acted (action.Scratch pair) u).points.selection ≡ u.points.selection
    unfolding acted scratched
    scratched_points pair = let P : State → Type 0 = λ t. t.points.selection ≡ u.points.selection in either_way P (may_select u pair.anchor && may_select u pair.focus) refl refl

    selects_acted : (a : Action) → IsStill a → Selects u → Selects (acted a u)
    unfolding acted
    selects_acted (action.Change e) still sel = selects_edit e sel
    selects_acted (action.MakeElement name attributes) still sel = same_points (action.MakeElement name attributes) (made_points (element_content name attributes)) sel
    selects_acted (action.MakeWords chars) still sel = same_points (action.MakeWords chars) (made_points (words_content chars)) sel
    selects_acted (action.Select anchor focus) still sel = absurd still
    selects_acted (action.Extend focus) still sel = absurd still
    selects_acted action.Unselect still sel = absurd still
    selects_acted (action.Grow at) still sel = grown_selects at sel
    selects_acted (action.Send node at tail) still sel = absurd still
    selects_acted (action.Scratch pair) still sel = same_points (action.Scratch pair) (scratched_points pair) sel
    selects_acted (action.Override command setting) still sel = same_points (action.Override command setting) refl sel
    selects_acted (action.Flag flags) still sel = same_points (action.Flag flags) refl sel
    selects_acted (action.Extract from end target) still sel = absurd still

  pub record Stays (u : State) : Type 0 where
    pub way : Underway s h keeping u
    pub selects : Selects u

  stays_along : {u t : State} (r : Reaches u t) → EachOn Stilling r → Stays u → Stays t
  stays_along here still k = k
  stays_along (onward {t = t} q a) still k =
      let before = stays_along q still.0 k in
      record {
        way = record { way = onward before.way.way a; leaves = (before.way.leaves, leaves_still a still.1) };
        selects = selects_acted t before.way a still.1 before.selects;
      }

  -- a run that selects nothing keeps the points of the selection at such nodes
  pub still_stays : {T : Type 0} (m : Run T) (u : State) → Still m → Stays u → Stays (final m u)
  unfolding final
  still_stays m u still k = stays_along (m.by_actions u) (still.each.on u (valid_way s h keeping b u k.way)) k
