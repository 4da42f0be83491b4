-- The first children of a node go to just before it, in order.
use Rattle.std.proofs.Common.{◌≡◌, ℕ, ◌+◌, ◌<◌, Bool, true, false, ◌&&◌, [], Option, Some, None, refl, sym, ap, subst, ◌∙◌, arith}
use Rattle.std.specs.Option.{option_and_then}
use Rattle.std.proofs.lemmas.Bool.{ne_eqb}
use Rattle.edit_model.specs.DomModel.declared.Content.{Content}
use Rattle.edit_model.specs.DomModel.Contents.{is_parent_at}
use Rattle.edit_model.specs.DomModel.Forest.{Forest, Seen, times, tops, count_of, IsDistinct, IsWithin, seek, parent_of, tree_of, join}
use Rattle.edit_model.specs.DomModel.Forest.Forest.{Nil, Tree}
use Rattle.edit_model.proofs.DomModel.Links.{found_stands, parent_of_child, eqb_refl_true}
use Rattle.edit_model.specs.State.{State}
use Rattle.edit_model.specs.Kept.{borne_by}
use Rattle.edit_model.specs.Confined.{is_open, is_place, may_move}
use Rattle.edit_model.specs.Edit.{Move, is_made_edit, edited}
use Rattle.edit_model.specs.History.{document_of}
use Rattle.edit_model.specs.Valid.{IsValid}
use Rattle.edit_model.specs.Run.{final, for_each}
use Rattle.edit_model.proofs.Steps.{final-bind, final-answer, final-look, final-edit, for_each-cons, for_each-nil}
use Rattle.edit_model.proofs.Giving.{edited-left}
use Rattle.edit_laws.specs.Order.{KeepsOrder, IsKeeping}
use Rattle.edit_model.specs.Moves.{move_before}
use Rattle.edit_laws.proofs.Subsequences.{keeps_refl, keeps_trans}
use Rattle.edit_laws.proofs.QuietActions.{keeping_edited}
use Rattle.edit_laws.proofs.Around.{Spot, spot_distinct, spot_as, spot_tree, spot_without, spot_put_top, self_one, fill, count-fill}
use Rattle.edit_laws.proofs.Patterns.{count-join, join-assoc, seek-join, take_first, put_before_node, lift_leaves}
use Rattle.edit_laws.proofs.Slides.{document_distinct, Slide, slide, found_below, parent_other, not_within_above, goes_where_open, each_stays}

pub final_move_before : (o n q : ℕ) (s : State) → parent_of s.trees o ≡ Some q → final (move_before o n) s ≡ edited (Move n q (Some o)) s
unfolding move_before
final_move_before o n q s up = rw (final-look, up, final-bind, final-edit, final-answer) refl

-- a move that is left out
pub move_stays : (n p : ℕ) (b : Option ℕ) (s : State) → may_move s n p b ≡ false → edited (Move n p b) s ≡ s
unfolding is_made_edit
move_stays n p b s off = edited-left (Move n p b) s off

-- the node o among the children of q
module _ (s : State) (is : IsValid s) (q : ℕ) (pre : Forest Content) (o : ℕ) (c : Content) (ks post : Forest Content) (spot : Spot (document_of s.trees) q (join pre (Tree o c ks post))) where
  pub node_once : IsDistinct (join pre (Tree o c ks post))
  node_once = spot_distinct (tree_of s.trees 0) (document_distinct s.trees is.forest.distinct) q (join pre (Tree o c ks post)) spot

  pub node_apart : count_of pre o ≡ 0
  node_apart = omega (arith, node_once o, count-join pre (Tree o c ks post) o, self_one o)

  pub node_found : seek None s.trees o ≡ Some (record { parent = Some q; content = c; children = tops ks })
  node_found =
      found_below s is q (join pre (Tree o c ks post)) spot o (record { parent = Some q; content = c; children = tops ks })
      (omega (arith, count-join pre (Tree o c ks post) o, self_one o))
      (seek-join (Some q) pre (Tree o c ks post) o node_apart ∙ rw (eqb_refl_true o) refl)

  pub node_parent : parent_of s.trees o ≡ Some q
  node_parent = ap (option_and_then (λ (x : Seen Content). x.parent)) node_found

  pub child_parent : (n : ℕ) → 0 < times (tops ks) n → parent_of s.trees n ≡ Some o
  child_parent n h = parent_of_child s.trees o n (record { parent = Some q; content = c; children = tops ks }) is.forest.distinct (found_stands s.trees o (record { parent = Some q; content = c; children = tops ks }) is.forest.distinct node_found) h

  pub owner_inside : IsWithin s.trees 0 q
  owner_inside = let e = ap (λ g. count_of g q) spot.is in omega (arith, e, count-fill spot.around (Tree q spot.content (join pre (Tree o c ks post)) spot.rest) q, self_one q)

  pub lift_open : (n : ℕ) → 0 < times (tops ks) n → may_move s n q (Some o) ≡ (is_open s o && (is_open s q && is_parent_at s.trees q))
  lift_open n h =
      let f = s.trees in
      let once = is.forest.distinct in
      let child = child_parent n h in
      let place : is_place f q (Some o) n ≡ true = rw (node_parent, eqb_refl_true q, ne_eqb o n (parent_other f once n o child)) refl in
      goes_where_open s n o q (Some o) child (not_within_above f once n o q child node_parent) place owner_inside (λ e. parent_other f once o q node_parent (sym e))

pub tops-join : (f g : Forest Content) (n : ℕ) → times (tops (join f g)) n ≡ times (tops f) n + times (tops g) n
tops-join Nil g n = omega arith
tops-join (Tree m c ks rest) g n = omega (arith, tops-join rest g n)

-- one child
pub lift : (s : State) → IsKeeping s → (q : ℕ) (pre : Forest Content) (o : ℕ) (c : Content) (n : ℕ) (d : Content) (j k post : Forest Content) → borne_by o c ≡ [] → Spot (document_of s.trees) q (join pre (Tree o c (Tree n d j k) post))
    → Slide s (edited (Move n q (Some o)) s) q (join pre (Tree n d j (Tree o c k post))) (may_move s n q (Some o))
lift s is q pre o c n d j k post bare spot =
    let f = document_of s.trees in
    let once = document_distinct s.trees is.valid.forest.distinct in
    let kids = join pre (Tree o c (Tree n d j k) post) in
    let others = join pre (Tree n d j (Tree o c k post)) in
    let inside : 0 < count_of kids n = omega (arith, count-join pre (Tree o c (Tree n d j k) post) n, self_one n) in
    let t = take_first pre o c n d j k post (spot_distinct f once q kids spot) in
    let apart = node_apart s is.valid q pre o c (Tree n d j k) post spot in
    slide s is q kids others spot n q (Some o) inside
    (rw (spot_without f once q kids spot n inside, spot_tree f once q kids spot n inside, t.tree, t.out)
    (spot_put_top f once q kids spot (join pre (Tree o c k post)) (Some o) (Tree n d j Nil) ∙ ap (λ g. fill spot.around (Tree q spot.content g spot.rest)) (put_before_node pre o c k post n d j apart)))
    (lift_leaves pre o c n d j k post bare)

-- how a loop ends: all nodes went, or the rest of them stays since one of two nodes isn't open
pub data Ends (t : State) (q : ℕ) (wanted : Forest Content) (o p : ℕ) (stopped : Forest Content → Forest Content → Forest Content) : Type 0 where
  all_went : Spot (document_of t.trees) q wanted → Ends t q wanted o p stopped
  some_stay : (went left : Forest Content) → Spot (document_of t.trees) q (stopped went left) → (is_open t o && (is_open t p && is_parent_at t.trees p)) ≡ false → Ends t q wanted o p stopped

pub record Ran (s t : State) (q : ℕ) (wanted : Forest Content) (o p : ℕ) (stopped : Forest Content → Forest Content → Forest Content) : Type 0 where
  pub keeps : KeepsOrder s t
  pub ends : Ends t q wanted o p stopped

-- all of them
pub lift_all : (list : Forest Content) (s : State) → IsKeeping s → (q : ℕ) (pre : Forest Content) (o : ℕ) (c : Content) (k post : Forest Content) → borne_by o c ≡ [] → Spot (document_of s.trees) q (join pre (Tree o c (join list k) post))
    → Ran s (final (for_each (tops list) (move_before o)) s) q (join pre (join list (Tree o c k post))) o q (λ went left. join went (Tree o c (join left k) post))
lift_all Nil s is q pre o c k post bare spot = rw (for_each-nil, final-answer) (record { keeps = keeps_refl (document_of s.trees); ends = all_went spot })
lift_all (Tree n d j list) s is q pre o c k post bare spot =
    rw (for_each-cons, final-bind, final_move_before o n q s (node_parent s is.valid q pre o c (Tree n d j (join list k)) post spot))
    (by_made (may_move s n q (Some o)) refl (lift s is q pre o c n d j (join list k) post bare spot)
    (λ next. lift_all list t (keeping_edited (Move n q (Some o)) s is) q (join pre (Tree n d j Nil)) o c k post bare (spot_as (document_of t.trees) q (join pre (Tree n d j (Tree o c (join list k) post))) (join (join pre (Tree n d j Nil)) (Tree o c (join list k) post)) (sym (join-assoc pre (Tree n d j Nil) (Tree o c (join list k) post))) next)))
  where
    t : State
    t = edited (Move n q (Some o)) s

    stopped : Forest Content → Forest Content → Forest Content
    stopped went left = join went (Tree o c (join left k) post)

    by_made : (v : Bool) → may_move s n q (Some o) ≡ v → Slide s t q (join pre (Tree n d j (Tree o c (join list k) post))) v
        → (Spot (document_of t.trees) q (join pre (Tree n d j (Tree o c (join list k) post))) → Ran t (final (for_each (tops list) (move_before o)) t) q (join (join pre (Tree n d j Nil)) (join list (Tree o c k post))) o q stopped)
        → Ran s (final (for_each (tops list) (move_before o)) t) q (join pre (Tree n d j (join list (Tree o c k post)))) o q stopped
    by_made true e one more =
        let rest = more (one.moved refl) in
        record { keeps = keeps_trans one.keeps rest.keeps; ends = subst (λ g. Ends (final (for_each (tops list) (move_before o)) t) q g o q stopped) (join-assoc pre (Tree n d j Nil) (join list (Tree o c k post))) rest.ends }
    by_made false e one more =
        let self : 0 < times (tops (Tree n d j (join list k))) n = omega (arith, self_one n) in
        let shut : (is_open s o && (is_open s q && is_parent_at s.trees q)) ≡ false = sym (lift_open s is.valid q pre o c (Tree n d j (join list k)) post spot n self) ∙ e in
        let stays : (m : ℕ) → 0 < times (tops list) m → final (move_before o m) s ≡ s = λ m h.
        final_move_before o m q s (node_parent s is.valid q pre o c (Tree n d j (join list k)) post spot)
        ∙ move_stays m q (Some o) s (lift_open s is.valid q pre o c (Tree n d j (join list k)) post spot m (omega (arith, h, tops-join list k m)) ∙ shut) in
        rw (one.left refl, each_stays (tops list) (move_before o) s stays)
        (record { keeps = keeps_refl (document_of s.trees); ends = some_stay pre (Tree n d j list) spot shut })
