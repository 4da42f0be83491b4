-- The trees after an edit that is made are valid, and the kept points are placed in them.
use Rattle.std.proofs.Common.{◌≡◌, ◌↔◌, ℕ, ◌<◌, ◌^◌, true, List, length, Option, Some, IfSome, refl, sym, ap, subst}
use Rattle.std.proofs.lemmas.Bool.{ltb-true, lt-ltb}
use Rattle.point_order.specs.DomModel.declared.Content.{Content}
use Rattle.point_order.specs.DomModel.declared.Content.TheVariants.{Document, Element, Words, Remark}
use Rattle.point_order.specs.DomModel.AttributeList.{IsDistinctNames}
use Rattle.point_order.specs.DomModel.Contents.{may_have_children, attributes_in, char_length, length_in}
use Rattle.point_order.specs.DomModel.Forest.{Forest, count_of, tree_of, parent_of, content_of, link, unlink, IsWithin, preorder}
use Rattle.point_order.specs.DomModel.Places.{index_of}
use Rattle.point_order.specs.DomModel.Revised.{revised}
use Rattle.point_order.proofs.DomModel.AttributeLemmas.{distinct-set, distinct-unset}
use Rattle.std.specs.Prelude.{unwrap_or}
use Rattle.point_order.specs.LiveRange.PointsEdit as range
use Rattle.point_order.specs.LiveRange.LivePoints.{mapped}
use Rattle.edit_model.specs.State.{State}
use Rattle.edit_model.specs.Edit.{Edit, Insert, Remove, Move, Replace, Set, Unset, is_made_edit, trees_after, points_after, index_before, parent_or_0, with_replaced, with_set, with_unset}
use Rattle.edit_model.specs.Confined.{spliced}
use Rattle.edit_model.specs.Valid.{IsForest, IsPlaced, IsValid}
use Rattle.edit_model.proofs.Tests.{inserts, removes, Goes, goes, Replaces, replaces, parent_there}
use Rattle.edit_model.proofs.Forests.{forest-link, forest-unlink, forest-revised, can_go, parent_at-unlink}
use Rattle.edit_model.proofs.Points.{mapped_placed, points_left, places-inserted, places-removed, places-moved, places-replaced, leaves-revised}

pub inside_goes : (s : State) (n p : ℕ) (b : Option ℕ) → Goes s n p b → IsWithin s.trees 0 n → IsWithin s.trees 0 p
inside_goes s n p b t h = ltb-true 0 (count_of (tree_of s.trees 0) p) (t.inside (lt-ltb 0 (count_of (tree_of s.trees 0) n) h))

-- what a removal and a move are to points
abbrev pub removed_event : Forest Content → ℕ → ℕ → range.PointsEdit
removed_event f o n = range.Remove (preorder (tree_of f n)) o (index_of f n)

abbrev pub moved_event : Forest Content → ℕ → ℕ → ℕ → Option ℕ → range.PointsEdit
moved_event f o n p b = range.Move (record { label = o; offset = index_of f n }) (record { label = p; offset = index_before (unlink f n) p b })

pub parent_is : (f : Forest Content) (o n : ℕ) → parent_of f n ≡ Some o → parent_or_0 f n ≡ o
parent_is f o n child = ap (λ (q : Option ℕ). unwrap_or q 0) child

-- ---- contents

pub forest-replaced : (s : State) (n at count : ℕ) (put : List ℕ) → IsValid s → Replaces s n at count put → IsForest (revised s.trees n (with_replaced at count put)) s.next
forest-replaced s n at count put is t = forest-revised s.trees s.next is.forest n (with_replaced at count put) keeps
  where
    keeps : (c : Content) → content_of s.trees n ≡ Some c → char_length c < 2 ^ 32 → IfSome (attributes_in c) IsDistinctNames → ((with_replaced at count put c ≡ Document) ↔ (c ≡ Document)) × (may_have_children (with_replaced at count put c) ≡ may_have_children c) × (char_length (with_replaced at count put c) < 2 ^ 32) × IfSome (attributes_in (with_replaced at count put c)) IsDistinctNames
    keeps Document e short names = (((λ h. h), λ h. h), refl, short, names)
    keeps (Element name attributes) e short names = (((λ h. h), λ h. h), refl, short, names)
    keeps (Remark chars) e short names = (((λ h. h), λ h. h), refl, short, names)
    keeps (Words chars) e short names =
        let same : Words t.chars ≡ Words chars = (let a = t.content in cc) in
        let same' : t.chars ≡ chars = (let a = same in cc) in
        (((λ h. absurd cc), λ h. absurd cc), refl, subst (λ xs. length (spliced xs at count put) < 2 ^ 32) same' t.short, tt)

pub forest-set : (s : State) (n : ℕ) (name value : List ℕ) → IsValid s → IsForest (revised s.trees n (with_set name value)) s.next
forest-set s n name value is = forest-revised s.trees s.next is.forest n (with_set name value) (λ c _ short names. keeps c short names)
  where
    keeps : (c : Content) → char_length c < 2 ^ 32 → IfSome (attributes_in c) IsDistinctNames → ((with_set name value c ≡ Document) ↔ (c ≡ Document)) × (may_have_children (with_set name value c) ≡ may_have_children c) × (char_length (with_set name value c) < 2 ^ 32) × IfSome (attributes_in (with_set name value c)) IsDistinctNames
    keeps Document short names = (((λ h. h), λ h. h), refl, short, names)
    keeps (Element tag list) short names = (((λ h. absurd cc), λ h. absurd cc), refl, short, distinct-set list name value names)
    keeps (Remark chars) short names = (((λ h. h), λ h. h), refl, short, names)
    keeps (Words chars) short names = (((λ h. h), λ h. h), refl, short, names)

pub forest-unset : (s : State) (n : ℕ) (name : List ℕ) → IsValid s → IsForest (revised s.trees n (with_unset name)) s.next
forest-unset s n name is = forest-revised s.trees s.next is.forest n (with_unset name) (λ c _ short names. keeps c short names)
  where
    keeps : (c : Content) → char_length c < 2 ^ 32 → IfSome (attributes_in c) IsDistinctNames → ((with_unset name c ≡ Document) ↔ (c ≡ Document)) × (may_have_children (with_unset name c) ≡ may_have_children c) × (char_length (with_unset name c) < 2 ^ 32) × IfSome (attributes_in (with_unset name c)) IsDistinctNames
    keeps Document short names = (((λ h. h), λ h. h), refl, short, names)
    keeps (Element tag list) short names = (((λ h. absurd cc), λ h. absurd cc), refl, short, distinct-unset list name names)
    keeps (Remark chars) short names = (((λ h. h), λ h. h), refl, short, names)
    keeps (Words chars) short names = (((λ h. h), λ h. h), refl, short, names)

length_in-set : (name value : List ℕ) (c : Content) (kids : List ℕ) → length_in (with_set name value c) kids ≡ length_in c kids
length_in-set name value Document kids = refl
length_in-set name value (Element tag list) kids = refl
length_in-set name value (Words chars) kids = refl
length_in-set name value (Remark chars) kids = refl

length_in-unset : (name : List ℕ) (c : Content) (kids : List ℕ) → length_in (with_unset name c) kids ≡ length_in c kids
length_in-unset name Document kids = refl
length_in-unset name (Element tag list) kids = refl
length_in-unset name (Words chars) kids = refl
length_in-unset name (Remark chars) kids = refl

-- ---- each edit that is made

pub made_forest : (e : Edit) (s : State) → IsValid s → is_made_edit e s ≡ true → IsForest (trees_after e s.trees) s.next
unfolding is_made_edit trees_after
made_forest (Insert p b n) s is may = let t = inserts s p b n may in forest-link s.trees s.next is.forest p b n t.can t.parent
made_forest (Remove n) s is may = let t = removes s n may in forest-unlink s.trees s.next is.forest t.from n t.child
made_forest (Move n p b) s is may =
    let t = goes s n p b may in
    let f = s.trees in
    let can = can_go f s.next is.forest t.from n p b t.child t.apart t.parent (parent_there f p t.parent) t.before in
    forest-link (unlink f n) s.next (forest-unlink f s.next is.forest t.from n t.child) p b n can (parent_at-unlink f s.next is.forest t.from n p t.child t.parent)
made_forest (Replace n at count put) s is may = forest-replaced s n at count put is (replaces s n at count put may)
made_forest (Set n name value) s is may = forest-set s n name value is
made_forest (Unset n name) s is may = forest-unset s n name is

pub made_placed : (e : Edit) (s : State) → IsValid s → is_made_edit e s ≡ true → IsPlaced (trees_after e s.trees) (points_after e s.trees s.points)
unfolding is_made_edit trees_after points_after
made_placed (Insert p b n) s is may =
    let t = inserts s p b n may in
    mapped_placed (range.Insert p (index_before s.trees p b)) s.trees (link s.trees p b n) (places-inserted s.trees s.next is.forest p b n t.can t.parent) s.points is.placed
made_placed (Remove n) s is may =
    let t = removes s n may in
    let f = s.trees in
    subst (λ o. IsPlaced (unlink f n) (mapped (removed_event f o n) s.points)) (sym (parent_is f t.from n t.child))
    (mapped_placed (removed_event f t.from n) f (unlink f n) (places-removed f s.next is.forest t.from n t.child) s.points is.placed)
made_placed (Move n p b) s is may =
    let t = goes s n p b may in
    let f = s.trees in
    let can = can_go f s.next is.forest t.from n p b t.child t.apart t.parent (parent_there f p t.parent) t.before in
    subst (λ o. IsPlaced (link (unlink f n) p b n) (mapped (moved_event f o n p b) s.points)) (sym (parent_is f t.from n t.child))
    (mapped_placed (moved_event f t.from n p b) f (link (unlink f n) p b n) (places-moved f s.next is.forest t.from n p b t.child can t.apart t.parent (inside_goes s n p b t)) s.points is.placed)
made_placed (Replace n at count put) s is may =
    let t = replaces s n at count put may in
    mapped_placed (range.Replace n at count (length put)) s.trees (revised s.trees n (with_replaced at count put)) (places-replaced s.trees s.next is.forest n at count put t.chars t.content t.reach) s.points is.placed
made_placed (Set n name value) s is may = points_left s.trees (revised s.trees n (with_set name value)) (leaves-revised s.trees s.next is.forest n (with_set name value) (length_in-set name value)) s.points is.placed
made_placed (Unset n name) s is may = points_left s.trees (revised s.trees n (with_unset name)) (leaves-revised s.trees s.next is.forest n (with_unset name) (length_in-unset name)) s.points is.placed
