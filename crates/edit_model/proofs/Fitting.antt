-- No kept point passes the greatest offset by an edit that is made: what the calls that adjust points ask for.
use Rattle.std.proofs.Common.{◌≡◌, ℕ, ◌+◌, ◌<◌, ◌^◌, true, not, eqb, List, length, Option, Some, None, IfSome, refl, sym, subst, arith}
use Rattle.std.specs.Prelude.{nat_lt, nat_le}
use Rattle.std.specs.Option.{option_map, option_map_or}
use Rattle.std.proofs.lemmas.Bool.{and_parts, ltb-true, leb-true}
use Rattle.std.proofs.lemmas.List.Elements.{All-weaker}
use Rattle.point_order.specs.DomModel.declared.Content.{Content}
use Rattle.point_order.specs.DomModel.declared.Content.TheVariants.{Document, Element, Words, Remark}
use Rattle.point_order.specs.DomModel.Contents.{length_in, length_of, char_length}
use Rattle.point_order.specs.DomModel.Forest.{Forest, Seen, seek, count_of, tree_of, preorder, children_of, link, unlink}
use Rattle.point_order.specs.DomModel.Places.{index_of}
use Rattle.point_order.specs.DomModel.Revised.{revised}
use Rattle.point_order.proofs.DomModel.Few.{some_nodes}
use Rattle.point_order.proofs.DomModel.Indexes.{length-children_of}
use Rattle.point_order.specs.LiveRange.declared.places.Point.{Point}
use Rattle.point_order.specs.LiveRange.declared.places.Pair.{Pair}
use Rattle.point_order.specs.LiveRange.PointsEdit as range
use Rattle.point_order.specs.LiveRange.PointsEdit.{adjusted, PointFits, PairFits}
use Rattle.point_order.specs.LiveRange.LivePoints.{LivePoints, Fits}
use Rattle.point_order.specs.PointOrder.{is_in_document}
use Rattle.edit_model.specs.State.{State}
use Rattle.edit_model.specs.Edit.{index_before, parent_or_0, with_replaced}
use Rattle.edit_model.specs.Confined.{is_open, is_own, may_insert, may_remove, may_move, may_replace, may_grow, may_send}
use Rattle.edit_model.specs.Valid.{IsForest, IsPlacedPair, IsPlaced, IsValid}
use Rattle.edit_model.proofs.Tests.{inserts, removes, goes, replaces, parent_there}
use Rattle.edit_model.proofs.Forests.{forest-link, forest-unlink, can_go, parent_at-unlink, few_nodes}
use Rattle.edit_model.proofs.Points.{Placed, placed_is, Places, places-inserted, places-removed, places-moved, places-replaced, places-grown, places-sent}
use Rattle.edit_model.proofs.Made.{inside_goes, forest-replaced, removed_event, moved_event, parent_is}

-- the length of a node can be counted in 32 bits, where the labels can
pub length_small : (f : Forest Content) (next l : ℕ) → IsForest f next → next < 2 ^ 32 → length_of f l < 2 ^ 32
length_small f next l is small = by_seen (seek None f l) refl
  where
    kids : length (children_of f l) < 2 ^ 32
    kids = omega (arith, length-children_of f is.distinct l (some_nodes f 0 is.document), few_nodes f next is, small)

    by_content : (c : Content) → char_length c < 2 ^ 32 → length_in c (children_of f l) < 2 ^ 32
    by_content Document short = kids
    by_content (Element name attributes) short = kids
    by_content (Words chars) short = short
    by_content (Remark chars) short = short

    by_seen : (o : Option (Seen Content)) → seek None f l ≡ o → option_map_or (λ c. length_in c (children_of f l)) (option_map (λ s. s.content) o) 0 < 2 ^ 32
    by_seen None e = omega arith
    by_seen (Some s) e = by_content s.content (is.nodes l s e).short

module _ (e : range.PointsEdit) (f g : Forest Content) (places : Places e f g) (small : (l : ℕ) → length_of g l < 2 ^ 32) where
  point_fits : (x : Point) → Placed f x → PointFits e x
  point_fits x h = λ _. (let after = places x h in let low = small (adjusted e x).label in omega (arith, after.fits, low))

  pair_fits : (p : Pair) → IsPlacedPair f p → PairFits e p
  pair_fits p h = (point_fits p.anchor (placed_is f p.anchor h.anchor), point_fits p.focus (placed_is f p.focus h.focus))

  some_fits : (o : Option Pair) → IfSome o (IsPlacedPair f) → IfSome o (PairFits e)
  some_fits None h = tt
  some_fits (Some p) h = pair_fits p h

  pub points_fit : (points : LivePoints) → IsPlaced f points → Fits e points
  points_fit points h = record {
    selection = some_fits points.selection h.selection;
    scratch = some_fits points.scratch h.scratch;
    marks = All-weaker (λ m. IsPlacedPair f m.1) (λ m. PairFits e m.1) (λ m k. pair_fits m.1 k) points.marks h.marks;
  }

-- ---- the edits that move points

pub fits-insert : (s : State) (p : ℕ) (b : Option ℕ) (n : ℕ) → IsValid s → s.next < 2 ^ 32 → may_insert s p b n ≡ true → Fits (range.Insert p (index_before s.trees p b)) s.points
fits-insert s p b n is small may =
    let t = inserts s p b n may in
    let f = s.trees in
    points_fit (range.Insert p (index_before s.trees p b)) f (link f p b n) (places-inserted f s.next is.forest p b n t.can t.parent)
    (λ l. length_small (link f p b n) s.next l (forest-link f s.next is.forest p b n t.can t.parent) small) s.points is.placed

pub fits-remove : (s : State) (n : ℕ) → IsValid s → s.next < 2 ^ 32 → may_remove s n ≡ true → Fits (range.Remove (preorder (tree_of s.trees n)) (parent_or_0 s.trees n) (index_of s.trees n)) s.points
fits-remove s n is small may =
    let t = removes s n may in
    let f = s.trees in
    subst (λ o. Fits (removed_event f o n) s.points) (sym (parent_is f t.from n t.child))
    (points_fit (removed_event f t.from n) f (unlink f n) (places-removed f s.next is.forest t.from n t.child)
    (λ l. length_small (unlink f n) s.next l (forest-unlink f s.next is.forest t.from n t.child) small) s.points is.placed)

pub fits-move : (s : State) (n p : ℕ) (b : Option ℕ) → IsValid s → s.next < 2 ^ 32 → may_move s n p b ≡ true → Fits (range.Move (record { label = parent_or_0 s.trees n; offset = index_of s.trees n }) (record { label = p; offset = index_before (unlink s.trees n) p b })) s.points
fits-move s n p b is small may =
    let t = goes s n p b may in
    let f = s.trees in
    let can = can_go f s.next is.forest t.from n p b t.child t.apart t.parent (parent_there f p t.parent) t.before in
    subst (λ o. Fits (moved_event f o n p b) s.points) (sym (parent_is f t.from n t.child))
    (points_fit (moved_event f t.from n p b) f (link (unlink f n) p b n) (places-moved f s.next is.forest t.from n p b t.child can t.apart t.parent (inside_goes s n p b t))
    (λ l. length_small (link (unlink f n) p b n) s.next l (forest-link (unlink f n) s.next (forest-unlink f s.next is.forest t.from n t.child) p b n can (parent_at-unlink f s.next is.forest t.from n p t.child t.parent)) small) s.points is.placed)

pub fits-replace : (s : State) (n at count : ℕ) (put : List ℕ) → IsValid s → s.next < 2 ^ 32 → may_replace s n at count put ≡ true → Fits (range.Replace n at count (length put)) s.points
fits-replace s n at count put is small may =
    let t = replaces s n at count put may in
    let f = s.trees in
    points_fit (range.Replace n at count (length put)) f (revised f n (with_replaced at count put)) (places-replaced f s.next is.forest n at count put t.chars t.content t.reach)
    (λ l. length_small (revised f n (with_replaced at count put)) s.next l (forest-replaced s n at count put is t) small) s.points is.placed

-- ---- the selecting steps that move points

pub places-grow : (s : State) (at : Point) → IsValid s → may_grow s at ≡ true → Places (range.Grown at) s.trees s.trees
unfolding may_grow
places-grow s at is may =
    let t = and_parts (is_in_document s.trees at.label) (nat_lt at.offset (length_of s.trees at.label)) (and_parts (is_open s at.label) _ may).1 in
    places-grown s.trees s.next is.forest at (ltb-true 0 (count_of (tree_of s.trees 0) at.label) t.0) (ltb-true at.offset (length_of s.trees at.label) t.1)

pub places-send : (s : State) (n at tail : ℕ) → IsValid s → may_send s n at tail ≡ true → Places (range.Split n at tail n 0) s.trees s.trees
unfolding may_send
places-send s n at tail is may =
    let t = and_parts (is_in_document s.trees tail) _ (and_parts (is_own s n) _ may).1 in
    let u = and_parts (not (eqb n tail)) (nat_le (length_of s.trees n) (at + length_of s.trees tail)) t.1 in
    places-sent s.trees s.next is.forest n at tail (ltb-true 0 (count_of (tree_of s.trees 0) tail) t.0) (leb-true (length_of s.trees n) (at + length_of s.trees tail) u.1)

pub fits-grow : (s : State) (at : Point) → IsValid s → s.next < 2 ^ 32 → may_grow s at ≡ true → Fits (range.Grown at) s.points
fits-grow s at is small may = points_fit (range.Grown at) s.trees s.trees (places-grow s at is may) (λ l. length_small s.trees s.next l is.forest small) s.points is.placed

pub fits-send : (s : State) (n at tail : ℕ) → IsValid s → s.next < 2 ^ 32 → may_send s n at tail ≡ true → Fits (range.Split n at tail n 0) s.points
fits-send s n at tail is small may = points_fit (range.Split n at tail n 0) s.trees s.trees (places-send s n at tail is may) (λ l. length_small s.trees s.next l is.forest small) s.points is.placed
