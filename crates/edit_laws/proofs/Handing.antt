-- Nodes go, in order, to the end of a node that stands just before them: the first children of the next sibling, or the next
-- siblings themselves.
use Rattle.std.proofs.Common.{◌≡◌, ◌≢◌, ℕ, ◌<◌, Bool, true, false, ◌&&◌, eqb, [], Option, Some, None, refl, sym, ap, subst, ◌∙◌, arith, true≢false}
use Rattle.std.specs.Option.{option_map_or}
use Rattle.std.proofs.lemmas.Bool.{eq-eqb}
use Rattle.edit_model.specs.DomModel.declared.Content.{Content}
use Rattle.edit_model.specs.DomModel.Contents.{is_parent_at}
use Rattle.edit_model.specs.DomModel.Forest.{Forest, Seen, times, tops, count_of, IsDistinct, IsWithin, seek, parent_of, children_of, tree_of, without, join}
use Rattle.edit_model.specs.DomModel.Forest.Forest.{Nil, Tree}
use Rattle.edit_model.proofs.DomModel.Stands.{times-tops}
use Rattle.edit_model.proofs.DomModel.Links.{found_stands, parent_of_child, join-Nil}
use Rattle.edit_model.specs.State.{State}
use Rattle.edit_model.specs.Kept.{borne_by}
use Rattle.edit_model.specs.Confined.{is_open, may_move}
use Rattle.edit_model.specs.Edit.{Move, edited}
use Rattle.edit_model.specs.History.{document_of}
use Rattle.edit_model.specs.Valid.{IsValid}
use Rattle.edit_model.specs.Run.{final, for_each}
use Rattle.edit_model.specs.Moves.{move_last}
use Rattle.edit_model.proofs.Resting.{seek_document}
use Rattle.edit_model.proofs.Steps.{final-bind, final-answer, final-edit, for_each-cons, for_each-nil}
use Rattle.edit_laws.specs.Order.{IsKeeping}
use Rattle.edit_laws.proofs.Subsequences.{keeps_refl, keeps_trans}
use Rattle.edit_laws.proofs.QuietActions.{keeping_edited}
use Rattle.edit_laws.proofs.Around.{Spot, spot_distinct, spot_as, spot_tree, spot_without, spot_put_below, spot_top, self_one, off_by, fill, count-fill, owner_of}
use Rattle.edit_laws.proofs.Patterns.{count-join, join-assoc, take_first, take_one, put_last_below, hand_leaves, take_leaves}
use Rattle.edit_laws.proofs.Slides.{document_distinct, Slide, slide, parent_other, not_within_cousin, not_within_beside, goes_where_open, each_stays}
use Rattle.edit_laws.proofs.Lifting.{node_parent, child_parent, node_apart, tops-join, move_stays, Ends, all_went, some_stay, Ran}

pub final_move_last : (p n : ℕ) (s : State) → final (move_last p n) s ≡ edited (Move n p None) s
final_move_last p n s = rw (final-bind, final-edit, final-answer) refl

-- ---- the children of a node of the document

module _ (s : State) (is : IsValid s) (q : ℕ) (kids : Forest Content) (spot : Spot (document_of s.trees) q kids) where
  pub owner_found : seek None s.trees q ≡ Some (record { parent = owner_of None spot.around; content = spot.content; children = tops kids })
  owner_found =
      seek_document s.trees s.next q (record { parent = owner_of None spot.around; content = spot.content; children = tops kids }) is.forest
      (spot_top (tree_of s.trees 0) (document_distinct s.trees is.forest.distinct) q kids spot)

  pub owner_children : children_of s.trees q ≡ tops kids
  owner_children = ap (λ (o : Option (Seen Content)). option_map_or (λ (x : Seen Content). x.children) o []) owner_found

  pub top_parent : (n : ℕ) → 0 < times (tops kids) n → parent_of s.trees n ≡ Some q
  top_parent n h =
      let seen : Seen Content = record { parent = owner_of None spot.around; content = spot.content; children = tops kids } in
      parent_of_child s.trees q n seen is.forest.distinct (found_stands s.trees q seen is.forest.distinct owner_found) h

  -- what is below q is in the document
  pub below_inside : (n : ℕ) → 0 < count_of kids n → IsWithin s.trees 0 n
  below_inside n h = let e = ap (λ g. count_of g n) spot.is in omega (arith, e, count-fill spot.around (Tree q spot.content kids spot.rest) n, h)

-- two nodes of a list are not the same
pub pair_apart : (pre : Forest Content) (x : ℕ) (e : Content) (g : Forest Content) (o : ℕ) (c : Content) (ks post : Forest Content) → IsDistinct (join pre (Tree x e g (Tree o c ks post))) → x ≢ o
pair_apart pre x e g o c ks post once same =
    let off : eqb x o ≡ false = off_by x o (omega (arith, once o, count-join pre (Tree x e g (Tree o c ks post)) o, self_one o)) in
    true≢false (sym (eq-eqb x o same) ∙ off)

-- ---- the first children of o go to the end of x, which stands before o

module _ (s : State) (is : IsKeeping s) (q : ℕ) (pre : Forest Content) (x : ℕ) (e : Content) (g : Forest Content) (o : ℕ) (c : Content) (ks post : Forest Content) (spot : Spot (document_of s.trees) q (join pre (Tree x e g (Tree o c ks post)))) where
  pub spot_after : Spot (document_of s.trees) q (join (join pre (Tree x e g Nil)) (Tree o c ks post))
  spot_after = spot_as (document_of s.trees) q (join pre (Tree x e g (Tree o c ks post))) (join (join pre (Tree x e g Nil)) (Tree o c ks post)) (sym (join-assoc pre (Tree x e g Nil) (Tree o c ks post))) spot

  pub hand_open : (n : ℕ) → 0 < times (tops ks) n → may_move s n x None ≡ (is_open s o && (is_open s x && is_parent_at s.trees x))
  hand_open n h =
      let once = is.valid.forest.distinct in
      let child = child_parent s is.valid q (join pre (Tree x e g Nil)) o c ks post spot_after n h in
      let up = node_parent s is.valid q (join pre (Tree x e g Nil)) o c ks post spot_after in
      let beside = node_parent s is.valid q pre x e g (Tree o c ks post) spot in
      let kids_once = spot_distinct (document_of s.trees) (document_distinct s.trees once) q (join pre (Tree x e g (Tree o c ks post))) spot in
      goes_where_open s n o x None child (not_within_cousin s.trees once n o q x child up beside) refl
      (below_inside s is.valid q (join pre (Tree x e g (Tree o c ks post))) spot x (omega (arith, count-join pre (Tree x e g (Tree o c ks post)) x, self_one x)))
      (λ same. pair_apart pre x e g o c ks post kids_once (sym same))

pub hand : (s : State) → IsKeeping s → (q : ℕ) (pre : Forest Content) (x : ℕ) (e : Content) (g : Forest Content) (o : ℕ) (c : Content) (n : ℕ) (d : Content) (j k post : Forest Content) → borne_by o c ≡ []
    → Spot (document_of s.trees) q (join pre (Tree x e g (Tree o c (Tree n d j k) post)))
    → Slide s (edited (Move n x None) s) q (join pre (Tree x e (join g (Tree n d j Nil)) (Tree o c k post))) (may_move s n x None)
hand s is q pre x e g o c n d j k post bare spot =
    let f = document_of s.trees in
    let once = document_distinct s.trees is.valid.forest.distinct in
    let kids = join pre (Tree x e g (Tree o c (Tree n d j k) post)) in
    let others = join pre (Tree x e (join g (Tree n d j Nil)) (Tree o c k post)) in
    let kids_once = spot_distinct f once q kids spot in
    let same : join (join pre (Tree x e g Nil)) (Tree o c (Tree n d j k) post) ≡ kids = join-assoc pre (Tree x e g Nil) (Tree o c (Tree n d j k) post) in
    let inside : 0 < count_of kids n = omega (arith, count-join pre (Tree x e g (Tree o c (Tree n d j k) post)) n, self_one n) in
    let here : 0 < count_of kids x = omega (arith, count-join pre (Tree x e g (Tree o c (Tree n d j k) post)) x, self_one x) in
    let t = take_first (join pre (Tree x e g Nil)) o c n d j k post (subst IsDistinct (sym same) kids_once) in
    let tree : tree_of kids n ≡ Tree n d j Nil = ap (λ h. tree_of h n) (sym same) ∙ t.tree in
    let out = ap (λ h. without h n) (sym same) ∙ (t.out ∙ join-assoc pre (Tree x e g Nil) (Tree o c k post)) in
    let apart = node_apart s is.valid q pre x e g (Tree o c (Tree n d j k) post) spot in
    slide s is q kids others spot n x None inside
    (rw (spot_without f once q kids spot n inside, spot_tree f once q kids spot n inside, tree, out)
    (spot_put_below f once q kids spot (join pre (Tree x e g (Tree o c k post))) x None (Tree n d j Nil) here ∙ ap (λ h. fill spot.around (Tree q spot.content h spot.rest)) (put_last_below pre x e g (Tree o c k post) n d j apart)))
    (hand_leaves pre x e g o c n d j k post bare)

pub hand_all : (list : Forest Content) (s : State) → IsKeeping s → (q : ℕ) (pre : Forest Content) (x : ℕ) (e : Content) (g : Forest Content) (o : ℕ) (c : Content) (k post : Forest Content) → borne_by o c ≡ []
    → Spot (document_of s.trees) q (join pre (Tree x e g (Tree o c (join list k) post)))
    → Ran s (final (for_each (tops list) (move_last x)) s) q (join pre (Tree x e (join g list) (Tree o c k post))) o x (λ went left. join pre (Tree x e went (Tree o c (join left k) post)))
hand_all Nil s is q pre x e g o c k post bare spot =
    rw (for_each-nil, final-answer)
    (record { keeps = keeps_refl (document_of s.trees); ends = all_went (spot_as (document_of s.trees) q (join pre (Tree x e g (Tree o c k post))) (join pre (Tree x e (join g Nil) (Tree o c k post))) (ap (λ h. join pre (Tree x e h (Tree o c k post))) (sym (join-Nil g))) spot) })
hand_all (Tree n d j list) s is q pre x e g o c k post bare spot =
    rw (for_each-cons, final-bind, final_move_last x n s)
    (by_made (may_move s n x None) refl (hand s is q pre x e g o c n d j (join list k) post bare spot)
    (λ next. hand_all list t (keeping_edited (Move n x None) s is) q pre x e (join g (Tree n d j Nil)) o c k post bare next))
  where
    t : State
    t = edited (Move n x None) s

    stopped : Forest Content → Forest Content → Forest Content
    stopped went left = join pre (Tree x e went (Tree o c (join left k) post))

    by_made : (v : Bool) → may_move s n x None ≡ v → Slide s t q (join pre (Tree x e (join g (Tree n d j Nil)) (Tree o c (join list k) post))) v
        → (Spot (document_of t.trees) q (join pre (Tree x e (join g (Tree n d j Nil)) (Tree o c (join list k) post))) → Ran t (final (for_each (tops list) (move_last x)) t) q (join pre (Tree x e (join (join g (Tree n d j Nil)) list) (Tree o c k post))) o x stopped)
        → Ran s (final (for_each (tops list) (move_last x)) t) q (join pre (Tree x e (join g (Tree n d j list)) (Tree o c k post))) o x stopped
    by_made true w one more =
        let rest = more (one.moved refl) in
        record { keeps = keeps_trans one.keeps rest.keeps; ends = subst (λ h. Ends (final (for_each (tops list) (move_last x)) t) q (join pre (Tree x e h (Tree o c k post))) o x stopped) (join-assoc g (Tree n d j Nil) list) rest.ends }
    by_made false w one more =
        let self : 0 < times (tops (Tree n d j (join list k))) n = omega (arith, self_one n) in
        let shut : (is_open s o && (is_open s x && is_parent_at s.trees x)) ≡ false = sym (hand_open s is q pre x e g o c (Tree n d j (join list k)) post spot n self) ∙ w in
        let stays : (m : ℕ) → 0 < times (tops list) m → final (move_last x m) s ≡ s = λ m h.
        final_move_last x m s ∙ move_stays m x None s (hand_open s is q pre x e g o c (Tree n d j (join list k)) post spot m (omega (arith, h, tops-join list k m)) ∙ shut) in
        rw (one.left refl, each_stays (tops list) (move_last x) s stays)
        (record { keeps = keeps_refl (document_of s.trees); ends = some_stay g (Tree n d j list) spot shut })

-- ---- the siblings after p go to its end

module _ (s : State) (is : IsKeeping s) (q : ℕ) (pre : Forest Content) (p : ℕ) (e : Content) (g post : Forest Content) (spot : Spot (document_of s.trees) q (join pre (Tree p e g post))) where
  pub take_open : (n : ℕ) → 0 < times (tops post) n → may_move s n p None ≡ (is_open s q && (is_open s p && is_parent_at s.trees p))
  take_open n h =
      let once = is.valid.forest.distinct in
      let kids = join pre (Tree p e g post) in
      let kids_once = spot_distinct (document_of s.trees) (document_distinct s.trees once) q kids spot in
      let among : 0 < times (tops kids) n = omega (arith, h, tops-join pre (Tree p e g post) n) in
      let child = top_parent s is.valid q kids spot n among in
      let beside = node_parent s is.valid q pre p e g post spot in
      let off : n ≢ p = λ same. (
      let h' : 0 < times (tops post) p = subst (λ m. 0 < times (tops post) m) same h in
      omega (arith, h', times-tops post p, kids_once p, count-join pre (Tree p e g post) p, self_one p)) in
      goes_where_open s n q p None child (not_within_beside s.trees once n q p child beside off) refl
      (below_inside s is.valid q kids spot p (omega (arith, count-join pre (Tree p e g post) p, self_one p)))
      (λ same. parent_other s.trees once p q beside same)

pub take : (s : State) → IsKeeping s → (q : ℕ) (pre : Forest Content) (p : ℕ) (e : Content) (g : Forest Content) (n : ℕ) (d : Content) (j post : Forest Content)
    → Spot (document_of s.trees) q (join pre (Tree p e g (Tree n d j post)))
    → Slide s (edited (Move n p None) s) q (join pre (Tree p e (join g (Tree n d j Nil)) post)) (may_move s n p None)
take s is q pre p e g n d j post spot =
    let f = document_of s.trees in
    let once = document_distinct s.trees is.valid.forest.distinct in
    let kids = join pre (Tree p e g (Tree n d j post)) in
    let others = join pre (Tree p e (join g (Tree n d j Nil)) post) in
    let kids_once = spot_distinct f once q kids spot in
    let same : join (join pre (Tree p e g Nil)) (Tree n d j post) ≡ kids = join-assoc pre (Tree p e g Nil) (Tree n d j post) in
    let inside : 0 < count_of kids n = omega (arith, count-join pre (Tree p e g (Tree n d j post)) n, self_one n) in
    let here : 0 < count_of kids p = omega (arith, count-join pre (Tree p e g (Tree n d j post)) p, self_one p) in
    let t = take_one (join pre (Tree p e g Nil)) n d j post (subst IsDistinct (sym same) kids_once) in
    let tree : tree_of kids n ≡ Tree n d j Nil = ap (λ h. tree_of h n) (sym same) ∙ t.tree in
    let out = ap (λ h. without h n) (sym same) ∙ (t.out ∙ join-assoc pre (Tree p e g Nil) post) in
    let apart = node_apart s is.valid q pre p e g (Tree n d j post) spot in
    slide s is q kids others spot n p None inside
    (rw (spot_without f once q kids spot n inside, spot_tree f once q kids spot n inside, tree, out)
    (spot_put_below f once q kids spot (join pre (Tree p e g post)) p None (Tree n d j Nil) here ∙ ap (λ h. fill spot.around (Tree q spot.content h spot.rest)) (put_last_below pre p e g post n d j apart)))
    (take_leaves pre p e g n d j post)

pub take_all : (list : Forest Content) (s : State) → IsKeeping s → (q : ℕ) (pre : Forest Content) (p : ℕ) (e : Content) (g post : Forest Content)
    → Spot (document_of s.trees) q (join pre (Tree p e g (join list post)))
    → Ran s (final (for_each (tops list) (move_last p)) s) q (join pre (Tree p e (join g list) post)) q p (λ went left. join pre (Tree p e went (join left post)))
take_all Nil s is q pre p e g post spot =
    rw (for_each-nil, final-answer)
    (record { keeps = keeps_refl (document_of s.trees); ends = all_went (spot_as (document_of s.trees) q (join pre (Tree p e g post)) (join pre (Tree p e (join g Nil) post)) (ap (λ h. join pre (Tree p e h post)) (sym (join-Nil g))) spot) })
take_all (Tree n d j list) s is q pre p e g post spot =
    rw (for_each-cons, final-bind, final_move_last p n s)
    (by_made (may_move s n p None) refl (take s is q pre p e g n d j (join list post) spot)
    (λ next. take_all list t (keeping_edited (Move n p None) s is) q pre p e (join g (Tree n d j Nil)) post next))
  where
    t : State
    t = edited (Move n p None) s

    stopped : Forest Content → Forest Content → Forest Content
    stopped went left = join pre (Tree p e went (join left post))

    by_made : (v : Bool) → may_move s n p None ≡ v → Slide s t q (join pre (Tree p e (join g (Tree n d j Nil)) (join list post))) v
        → (Spot (document_of t.trees) q (join pre (Tree p e (join g (Tree n d j Nil)) (join list post))) → Ran t (final (for_each (tops list) (move_last p)) t) q (join pre (Tree p e (join (join g (Tree n d j Nil)) list) post)) q p stopped)
        → Ran s (final (for_each (tops list) (move_last p)) t) q (join pre (Tree p e (join g (Tree n d j list)) post)) q p stopped
    by_made true w one more =
        let rest = more (one.moved refl) in
        record { keeps = keeps_trans one.keeps rest.keeps; ends = subst (λ h. Ends (final (for_each (tops list) (move_last p)) t) q (join pre (Tree p e h post)) q p stopped) (join-assoc g (Tree n d j Nil) list) rest.ends }
    by_made false w one more =
        let self : 0 < times (tops (Tree n d j (join list post))) n = omega (arith, self_one n) in
        let shut : (is_open s q && (is_open s p && is_parent_at s.trees p)) ≡ false = sym (take_open s is q pre p e g (Tree n d j (join list post)) spot n self) ∙ w in
        let stays : (m : ℕ) → 0 < times (tops list) m → final (move_last p m) s ≡ s = λ m h.
        final_move_last p m s ∙ move_stays m p None s (take_open s is q pre p e g (Tree n d j (join list post)) spot m (omega (arith, h, tops-join list post m)) ∙ shut) in
        rw (one.left refl, each_stays (tops list) (move_last p) s stays)
        (record { keeps = keeps_refl (document_of s.trees); ends = some_stay g (Tree n d j list) spot shut })
