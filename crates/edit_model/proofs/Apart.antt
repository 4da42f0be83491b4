-- No edit and no selecting step moves a point that stands apart from the affected host.
use Rattle.std.proofs.Common.{◌≡◌, ◌≢◌, ℕ, zero, suc, ◌<◌, true, false, ◌&&◌, cond, eqb, List, [], ◌∷◌, length, map, Option, Some, None, refl, sym, ap, subst, ◌∙◌, inl, inr, arith}
use Rattle.std.specs.Prelude.{unwrap_or}
use Rattle.std.specs.List.{AllZip}
use Rattle.std.proofs.lemmas.Bool.{and_parts, cases_Bool, ne_eqb, eqb-false, le-ltb}
use Rattle.point_order.specs.DomModel.Forest.{is_label, count_of, tree_of, preorder, parent_of, without, unlink, IsWithin}
use Rattle.point_order.specs.DomModel.Places.{index_of}
use Rattle.point_order.proofs.DomModel.Totals.{total-without}
use Rattle.point_order.specs.LiveRange.declared.places.Point.{Point}
use Rattle.point_order.specs.LiveRange.declared.places.Pair.{Pair}
use Rattle.point_order.specs.LiveRange.PointsEdit as range
use Rattle.point_order.specs.LiveRange.PointsEdit.{adjusted, adjusted_pair, has_label}
use Rattle.point_order.specs.LiveRange.LivePoints.{LivePoints, mapped, at_pair}
use Rattle.edit_model.specs.State.{State}
use Rattle.edit_model.specs.Confined.{is_open, is_own, may_select, may_grow, may_send}
use Rattle.edit_model.specs.Edit.{Edit, Insert, Remove, Move, Replace, Set, Unset, is_made_edit, index_before, points_after, changed, with_change, edited}
use Rattle.edit_model.specs.Action as action
use Rattle.edit_model.specs.Action.{Action, made, applied, tail_of, extracted, with_selection, selected, extended_from, extended, grown, sent, scratched, acted}
use Rattle.edit_model.specs.Run.{Reaches, here, onward}
use Rattle.edit_model.specs.Valid.{IsValid}
use Rattle.edit_model.specs.Outside.{hollowed, outside_by, outside, IsConfined, IsApart}
use Rattle.edit_model.specs.Laws.{KeepsMark}
use Rattle.edit_model.proofs.Steps.{either_way}
use Rattle.edit_model.proofs.CommandParts.{command_along}
use Rattle.edit_model.proofs.Tests.{inserts, removes, goes, replaces}
use Rattle.edit_model.proofs.Documents.{within_inside}
use Rattle.edit_model.proofs.Points.{has_label-preorder}
use Rattle.edit_model.proofs.Made.{removed_event, moved_event, parent_is}
use Rattle.edit_model.proofs.ValidRuns.{chosen}
use Rattle.edit_model.proofs.Hollow.{hollowed_le, hollowed-without, child_left_out, inside_whole}
use Rattle.edit_model.proofs.OutsideRuns.{rim, rest_of, outside_is, open_out, own_out, outside_along}
use Rattle.edit_model.proofs.TailPossible.{tail_possible}
use Rattle.edit_model.proofs.TailPlan.{IsCopy}
use Rattle.edit_model.proofs.TailSteps.{either_extracted}
use Rattle.edit_model.proofs.TailRuns.{fit_steps}
use Rattle.edit_model.proofs.TailOutside.{Base, Moves, Takes, base_made, base_removed, base_inserted, tail_host, tail_out}
use Rattle.edit_model.proofs.TailMarks.{StandsApart, still_inserted, still_removed}

abbrev Apart : State → ℕ → Type 0
Apart s l = IsApart s.host s.trees l

-- an adjustment that moves no point that stands apart
abbrev Rests : State → range.PointsEdit → Type 0
Rests s e = (x : Point) → Apart s x.label → adjusted e x ≡ x

module _ (s : State) (is : IsValid s) (confined : IsConfined s) where
  apart_rest : (l : ℕ) → Apart s l → 0 < count_of (rest_of s s.trees) l
  unfolding outside
  apart_rest l h = subst (λ g. 0 < count_of g l) (outside_is s.host s.trees s.next is.forest) h.outside

  apart_document : (l : ℕ) → Apart s l → IsWithin s.trees 0 l
  apart_document l h = omega (arith, apart_rest l h, hollowed_le (tree_of s.trees 0) (rim s) l)

  apart_rim : (l : ℕ) → Apart s l → l ≢ rim s
  apart_rim l h = by_host s.host h.other
    where
      below : l < s.next
      below = is.forest.below l (omega (arith, apart_document l h, total-without (λ m _. cond (eqb m l) 1 0) s.trees 0))

      by_host : (o : Option ℕ) → is_label o l ≡ false → l ≢ unwrap_or o s.next
      by_host None off e = omega (arith, below, e)
      by_host (Some k) off e = eqb-false k l off (sym e)

  -- it doesn't stand at an open node, nor at an own one, nor in a tree that leaves an open node
  not_open : (p l : ℕ) → is_open s p ≡ true → Apart s l → eqb l p ≡ false
  not_open p l allowed h = ne_eqb l p (λ e. (
      let none = open_out s is confined p allowed (λ q. apart_rim l h (e ∙ q)) in
      let some : 0 < count_of (rest_of s s.trees) p = subst (λ k. 0 < count_of (rest_of s s.trees) k) e (apart_rest l h) in
      omega (arith, none, some)))

  not_own : (n l : ℕ) → is_own s n ≡ true → Apart s l → eqb l n ≡ false
  not_own n l own h = ne_eqb l n (λ e. (
      let none = own_out s is confined n own in
      let some : 0 < count_of (rest_of s s.trees) n = subst (λ k. 0 < count_of (rest_of s s.trees) k) e (apart_rest l h) in
      omega (arith, none, some)))

  not_leaving : (o n l : ℕ) → parent_of s.trees n ≡ Some o → is_open s o ≡ true → Apart s l → count_of (tree_of s.trees n) l ≡ 0
  not_leaving o n l child allowed h = by_count (count_of (tree_of s.trees n) l) refl
    where
      by_count : (k : ℕ) → count_of (tree_of s.trees n) l ≡ k → k ≡ 0
      by_count zero e = refl
      by_count (suc k) e = absurd (
          let f = s.trees in
          let inside = apart_document l h in
          let top = within_inside f s.next is.forest o n l child (omega (arith, e)) inside in
          let same = inside_whole f s.next is.forest n l top in
          let out = child_left_out f s.next is.forest (rim s) o n child (open_out s is confined o allowed) in
          let kept : count_of (hollowed (without (tree_of f 0) n) (rim s)) l ≡ count_of (rest_of s f) l = ap (λ g. count_of g l) (hollowed-without (tree_of f 0) (rim s) n out) in
          omega (
            arith,
            e,
            same,
            kept,
            apart_rest l h,
            hollowed_le (without (tree_of f 0) n) (rim s) l,
            total-without (λ m _. cond (eqb m l) 1 0) (tree_of f 0) n,
            total-without (λ m _. cond (eqb m l) 1 0) f 0,
            is.forest.distinct l,
          ))

  -- ---- the rows of the table

  rests-inserted : (p i : ℕ) → is_open s p ≡ true → Rests s (range.Insert p i)
  rests-inserted p i allowed x h = rw (not_open p x.label allowed h) refl

  rests-removed : (o n : ℕ) → parent_of s.trees n ≡ Some o → is_open s o ≡ true → Rests s (removed_event s.trees o n)
  rests-removed o n child allowed x h =
      let unlisted : has_label (preorder (tree_of s.trees n)) x.label ≡ false = has_label-preorder (tree_of s.trees n) x.label ∙ le-ltb 0 (count_of (tree_of s.trees n) x.label) (omega (arith, not_leaving o n x.label child allowed h)) in
      rw (unlisted, not_open o x.label allowed h) refl

  rests-moved : (from to : Point) → is_open s from.label ≡ true → is_open s to.label ≡ true → Rests s (range.Move from to)
  rests-moved from to allowed_from allowed_to x h = elim (cases_Bool (eqb from.label to.label)) [
    | inl t ↦ rw (t, not_open from.label x.label allowed_from h) refl
    | inr t ↦ rw (t, not_open from.label x.label allowed_from h, not_open to.label x.label allowed_to h) refl
  ]

  rests-replaced : (n at taken put : ℕ) → is_own s n ≡ true → Rests s (range.Replace n at taken put)
  rests-replaced n at taken put own x h = rw (not_own n x.label own h) refl

  rests-grown : (at : Point) → may_grow s at ≡ true → Rests s (range.Grown at)
  unfolding may_grow
  rests-grown at may x h = rw (not_open at.label x.label (and_parts (is_open s at.label) _ may).0 h) refl

  rests-sent : (n at tail : ℕ) → may_send s n at tail ≡ true → Rests s (range.Split n at tail n 0)
  unfolding may_send
  rests-sent n at tail may x h = rw (not_own n x.label (and_parts (is_own s n) _ may).0 h) refl

-- ---- marks

abbrev Marks : Type 0
Marks = List (List ℕ × Pair)

-- the marks of t against those of s
abbrev KeepsMarks : State → Marks → Type 0
KeepsMarks s ms = AllZip (KeepsMark s.host s.trees) s.points.marks ms

keep_each : (s : State) (ms : Marks) → AllZip (KeepsMark s.host s.trees) ms ms
keep_each s [] = tt
keep_each s (m ∷ ms) = ((refl, λ _ _. refl), keep_each s ms)

keep_mapped : (s : State) (f : Pair → Pair) → ((p : Pair) → Apart s p.anchor.label → Apart s p.focus.label → f p ≡ p) → (ms ns : Marks) → AllZip (KeepsMark s.host s.trees) ms ns → AllZip (KeepsMark s.host s.trees) ms (map (at_pair f) ns)
keep_mapped s f rests [] [] h = tt
keep_mapped s f rests [] (n ∷ ns) h = absurd h
keep_mapped s f rests (m ∷ ms) [] h = absurd h
keep_mapped s f rests (m ∷ ms) (n ∷ ns) h =
    ((h.0.0, λ a b. ap f (h.0.1 a b) ∙ rests m.1 a b), keep_mapped s f rests ms ns h.1)

-- what stood apart stands apart
apart_later : (s t : State) → outside t ≡ outside s → t.host ≡ s.host → (l : ℕ) → Apart s l → Apart t l
unfolding outside
apart_later s t same host l h = record {
  outside = subst (λ g. 0 < count_of g l) (sym same) h.outside;
  other = subst (λ o. is_label o l ≡ false) (sym host) h.other;
}

module _ (s t : State) (same : outside t ≡ outside s) (host : t.host ≡ s.host) where
  keep_adjusted : (e : range.PointsEdit) → Rests t e → (points : LivePoints) → KeepsMarks s points.marks → KeepsMarks s (mapped e points).marks
  keep_adjusted e rests points h =
      keep_mapped s (adjusted_pair e)
      (λ p a b. (λ i. record { anchor = (rests p.anchor (apart_later s t same host p.anchor.label a)) i; focus = (rests p.focus (apart_later s t same host p.focus.label b)) i }))
      s.points.marks points.marks h

  -- ---- each action

  abbrev KeepsHere : State → Type 0
  KeepsHere u = KeepsMarks s u.points.marks

  marks_after : IsValid t → IsConfined t → (e : Edit) → is_made_edit e t ≡ true → KeepsHere t → KeepsMarks s (points_after e t.trees t.points).marks
  unfolding is_made_edit points_after
  marks_after is confined (Insert p b n) may h = keep_adjusted (range.Insert p (index_before t.trees p b)) (rests-inserted t is confined p (index_before t.trees p b) (inserts t p b n may).allowed) t.points h
  marks_after is confined (Remove n) may h =
      let g = removes t n may in
      subst (λ o. KeepsMarks s (mapped (removed_event t.trees o n) t.points).marks) (sym (parent_is t.trees g.from n g.child))
      (keep_adjusted (removed_event t.trees g.from n) (rests-removed t is confined g.from n g.child g.allowed) t.points h)
  marks_after is confined (Move n p b) may h =
      let g = goes t n p b may in
      subst (λ o. KeepsMarks s (mapped (moved_event t.trees o n p b) t.points).marks) (sym (parent_is t.trees g.from n g.child))
      (keep_adjusted (moved_event t.trees g.from n p b) (rests-moved t is confined (record { label = g.from; offset = index_of t.trees n }) (record { label = p; offset = index_before (unlink t.trees n) p b }) g.allowed_from g.allowed_to) t.points h)
  marks_after is confined (Replace n at count put) may h = keep_adjusted (range.Replace n at count (length put)) (rests-replaced t is confined n at count (length put) (replaces t n at count put may).own) t.points h
  marks_after is confined (Set n name value) may h = h
  marks_after is confined (Unset n name) may h = h

  marks-edited : IsValid t → IsConfined t → (e : Edit) → KeepsHere t → KeepsHere (edited e t)
  unfolding edited changed with_change
  marks-edited is confined e h = chosen KeepsHere (is_made_edit e t) (λ may. marks_after is confined e may h) h

  marks-extended : (o : Option Pair) (at : Point) → KeepsHere t → KeepsHere (extended_from o at t)
  unfolding changed
  marks-extended None at h = h
  marks-extended (Some pair) at h = either_way KeepsHere (may_select t at) h h

  marks-selected : (anchor focus : Point) → KeepsHere t → KeepsHere (selected anchor focus t)
  unfolding selected changed
  marks-selected anchor focus h = either_way KeepsHere (may_select t anchor && may_select t focus) h h

  marks-grown : IsValid t → IsConfined t → (at : Point) → KeepsHere t → KeepsHere (grown at t)
  unfolding grown changed
  marks-grown is confined at h = chosen KeepsHere (may_grow t at) (λ may. keep_adjusted (range.Grown at) (rests-grown t is confined at may) t.points h) h

  marks-sent : IsValid t → IsConfined t → (n at tail : ℕ) → KeepsHere t → KeepsHere (sent n at tail t)
  unfolding sent changed
  marks-sent is confined n at tail h = chosen KeepsHere (may_send t n at tail) (λ may. keep_adjusted (range.Split n at tail n 0) (rests-sent t is confined n at tail may) t.points h) h

  marks-scratched : (pair : Pair) → KeepsHere t → KeepsHere (scratched pair t)
  unfolding scratched
  marks-scratched pair h = either_way KeepsHere (may_select t pair.anchor && may_select t pair.focus) h h

  -- what stands apart from the host, by label
  stands_apart : (h : ℕ) → t.host ≡ Some h → (l : ℕ) → Apart s l → StandsApart h (hollowed (tree_of t.trees 0) h) l
  unfolding outside
  stands_apart h is_h l a =
      let k = apart_later s t same host l a in (
        subst (λ o. 0 < count_of (outside_by o t.trees) l) is_h k.outside,
        λ e. eqb-false h l (subst (λ o. is_label o l ≡ false) is_h k.other) (sym e),
      )

  marks-extracted : IsValid t → IsConfined t → (from : Point) (end target : ℕ) → KeepsHere t → KeepsHere (extracted from end target t)
  unfolding made applied with_change changed points_after
  marks-extracted is confined from end target h =
      either_extracted KeepsHere from end target t
      (λ may. (
      let k = tail_host t is confined from end target may in
      let base = hollowed (tree_of t.trees 0) k.0 in
      let apart = stands_apart k.0 k.1 in
      (fit_steps IsCopy (Moves k.0 base) (Takes k.0 base) (λ c q. q) (λ u. KeepsHere u × Base k.0 base u)
      (λ c u is' _ q. (q.0, base_made k.0 base c u is' q.1))
      (λ n o u is' moves child q. (
        subst (λ p. KeepsMarks s (mapped (removed_event u.trees p n) u.points).marks) (sym (parent_is u.trees o n child))
            (keep_mapped s (adjusted_pair (removed_event u.trees o n))
            (λ p a b. (λ i. record { anchor = (still_removed k.0 base u is' q.1 n o moves child p.anchor (apart p.anchor.label a)) i; focus = (still_removed k.0 base u is' q.1 n o moves child p.focus (apart p.focus.label b)) i }))
            s.points.marks u.points.marks q.0),
        base_removed k.0 base n o u is' moves child q.1,
      ))
      (λ p before n u is' takes _ can q. (
        keep_mapped s (adjusted_pair (range.Insert p (index_before u.trees p before)))
            (λ m a b. (λ i. record { anchor = (still_inserted k.0 base p (index_before u.trees p before) m.anchor takes (apart m.anchor.label a)) i; focus = (still_inserted k.0 base p (index_before u.trees p before) m.focus takes (apart m.focus.label b)) i }))
            s.points.marks u.points.marks q.0,
        base_inserted k.0 base p before n u is' takes can q.1,
      ))
      (tail_of t from end target) t (tail_out t is confined from end target may k.0 k.1 k.2) (tail_possible t is from end target may) is (h, refl)).0))
      h

  marks-acted : IsValid t → IsConfined t → (a : Action) → KeepsHere t → KeepsHere (acted a t)
  unfolding acted made extended changed
  marks-acted is confined (action.Change e) h = marks-edited is confined e h
  marks-acted is confined (action.MakeElement name attributes) h = h
  marks-acted is confined (action.MakeWords chars) h = h
  marks-acted is confined (action.Select anchor focus) h = marks-selected anchor focus h
  marks-acted is confined (action.Extend focus) h = marks-extended t.points.selection focus h
  marks-acted is confined action.Unselect h = h
  marks-acted is confined (action.Grow at) h = marks-grown is confined at h
  marks-acted is confined (action.Send node at tail) h = marks-sent is confined node at tail h
  marks-acted is confined (action.Scratch pair) h = marks-scratched pair h
  marks-acted is confined (action.Override command setting) h = h
  marks-acted is confined (action.Flag flags) h = h
  marks-acted is confined (action.Extract from end target) h = marks-extracted is confined from end target h

pub marks_along : {s t : State} (r : Reaches s t) → IsValid s → IsConfined s → AllZip (KeepsMark s.host s.trees) s.points.marks t.points.marks
marks_along {s = s} here is confined = keep_each s s.points.marks
marks_along {s = s} (onward {t = t} q a) is confined =
    let k = outside_along q is confined in
    marks-acted s t k.same (command_along q).host k.valid k.confined a (marks_along q is confined)
