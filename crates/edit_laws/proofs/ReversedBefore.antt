-- Lists that a loop goes through from the end: the last children of a node go to just after it, and the siblings before a node to
-- its front. Also a node goes over the bare one before it, or into the bare one after it.
use Rattle.std.proofs.Common.{◌≡◌, ◌≢◌, ℕ, ◌+◌, ◌<◌, Bool, true, false, ◌&&◌, [], ◌∷◌, ◌++◌, Some, None, refl, sym, ap, subst, ◌∙◌, arith}
use Rattle.std.specs.Option.{option_and_then, option_map_or}
use Rattle.std.proofs.lemmas.Bool.{ne_eqb}
use Rattle.edit_model.specs.DomModel.declared.Content.{Content}
use Rattle.edit_model.specs.DomModel.Contents.{is_parent_at}
use Rattle.edit_model.specs.DomModel.Forest.{Forest, Seen, times, tops, first_in, after_in, count_of, IsDistinct, parent_of, children_of, next_of, first_of, tree_of, without, join}
use Rattle.edit_model.specs.DomModel.Forest.Forest.{Nil, Tree}
use Rattle.edit_model.proofs.DomModel.Stands.{times-tops}
use Rattle.edit_model.proofs.DomModel.Lists.{after_in-middle}
use Rattle.edit_model.proofs.DomModel.Links.{eqb_refl_true, join-Nil}
use Rattle.edit_model.specs.State.{State}
use Rattle.edit_model.specs.Kept.{borne_by, leaves}
use Rattle.edit_model.specs.Confined.{is_open, is_place, may_move}
use Rattle.edit_model.specs.Edit.{Move, edited}
use Rattle.edit_model.specs.History.{document_of}
use Rattle.edit_model.specs.Valid.{IsValid}
use Rattle.edit_model.specs.Run.{final, for_each}
use Rattle.edit_model.proofs.Steps.{final-bind, final-answer, final-look, final-edit, for_each-cons, for_each-nil}
use Rattle.edit_laws.specs.Order.{IsKeeping}
use Rattle.edit_model.specs.Moves.{move_after, move_first}
use Rattle.edit_laws.proofs.Subsequences.{keeps_refl, keeps_trans}
use Rattle.edit_laws.proofs.QuietActions.{keeping_edited}
use Rattle.edit_laws.proofs.Around.{Spot, spot_distinct, spot_as, spot_tree, spot_without, spot_put_top, spot_put_below, self_one, fill}
use Rattle.edit_laws.proofs.Patterns.{count-join, join-assoc, take_last, take_one, put_after_node, put_first_below, put_last_below, put_before_node, drop_leaves, front_leaves, take_leaves, swap_leaves}
use Rattle.edit_laws.proofs.Slides.{document_distinct, Slide, slide, parent_other, not_within_above, not_within_beside, goes_where_open, each_stays}
use Rattle.edit_laws.proofs.Lifting.{node_parent, node_found, child_parent, node_apart, owner_inside, tops-join, move_stays, all_went, some_stay, Ran}
use Rattle.edit_laws.proofs.Handing.{owner_children, top_parent, below_inside}

-- ---- a forest reversed_before round, before another

abbrev pub reversed_before : Forest Content → Forest Content → Forest Content
reversed_before Nil g = g
reversed_before (Tree n d j rest) g = reversed_before rest (Tree n d j g)

pub reversed_before-join : (r g h : Forest Content) → reversed_before r (join g h) ≡ join (reversed_before r g) h
reversed_before-join Nil g h = refl
reversed_before-join (Tree n d j rest) g h = reversed_before-join rest (Tree n d j g) h

pub reversed_before-last : (n : ℕ) (d : Content) (j r : Forest Content) → reversed_before (Tree n d j r) Nil ≡ join (reversed_before r Nil) (Tree n d j Nil)
reversed_before-last n d j r = reversed_before-join r Nil (Tree n d j Nil)

pub times-reversed_before : (r g : Forest Content) (n : ℕ) → times (tops (reversed_before r g)) n ≡ times (tops r) n + times (tops g) n
times-reversed_before Nil g n = omega arith
times-reversed_before (Tree m d j rest) g n = omega (arith, times-reversed_before rest (Tree m d j g) n)

pub tops-after : (f g : Forest Content) → tops (join f g) ≡ tops f ++ tops g
tops-after Nil g = refl
tops-after (Tree m c ks rest) g = ap (λ r. m ∷ r) (tops-after rest g)

-- ---- the last children of o go to just after it

pub next_is : (s : State) (is : IsValid s) (q : ℕ) (pre : Forest Content) (o : ℕ) (c : Content) (ks post : Forest Content) → Spot (document_of s.trees) q (join pre (Tree o c ks post)) → next_of s.trees o ≡ first_in (tops post)
next_is s is q pre o c ks post spot =
    let none : times (tops pre) o ≡ 0 = omega (arith, times-tops pre o, node_apart s is q pre o c ks post spot) in
    ap (λ p. option_and_then (λ k. after_in (children_of s.trees k) o) p) (node_parent s is q pre o c ks post spot)
    ∙ (ap (λ l. after_in l o) (owner_children s is q (join pre (Tree o c ks post)) spot ∙ tops-after pre (Tree o c ks post))
    ∙ after_in-middle (tops pre) o (tops post) none)

pub final_move_after : (o n q : ℕ) (s : State) → parent_of s.trees o ≡ Some q → final (move_after o n) s ≡ edited (Move n q (next_of s.trees o)) s
unfolding move_after
final_move_after o n q s up = rw (final-look, up, final-bind, final-edit, final-answer) refl

module _ (s : State) (is : IsKeeping s) (q : ℕ) (pre : Forest Content) (o : ℕ) (c : Content) (ks post : Forest Content) (spot : Spot (document_of s.trees) q (join pre (Tree o c ks post))) where
  place_after : (n : ℕ) → parent_of s.trees n ≡ Some o → (g : Forest Content) → ((m : ℕ) → 0 < times (tops g) m → parent_of s.trees m ≡ Some q) → is_place s.trees q (first_in (tops g)) n ≡ true
  place_after n child Nil among = refl
  place_after n child (Tree b d j h) among =
      let beside : parent_of s.trees b ≡ Some q = among b (omega (arith, self_one b)) in
      let up = node_parent s is.valid q pre o c ks post spot in
      let off : b ≢ n = λ e. (let k : Some q ≡ Some o = sym beside ∙ (ap (parent_of s.trees) e ∙ child) in let same : q ≡ o = (let k' = k in cc) in parent_other s.trees is.valid.forest.distinct o q up same) in
      rw (beside, eqb_refl_true q, ne_eqb b n off) refl

  pub drop_open : (n : ℕ) → 0 < times (tops ks) n → may_move s n q (first_in (tops post)) ≡ (is_open s o && (is_open s q && is_parent_at s.trees q))
  drop_open n h =
      let once = is.valid.forest.distinct in
      let child = child_parent s is.valid q pre o c ks post spot n h in
      let up = node_parent s is.valid q pre o c ks post spot in
      let among : (m : ℕ) → 0 < times (tops post) m → parent_of s.trees m ≡ Some q = λ m k. top_parent s is.valid q (join pre (Tree o c ks post)) spot m (omega (arith, k, tops-join pre (Tree o c ks post) m)) in
      goes_where_open s n o q (first_in (tops post)) child (not_within_above s.trees once n o q child up) (place_after n child post among)
      (owner_inside s is.valid q pre o c ks post spot) (λ same. parent_other s.trees once o q up (sym same))

pub drop : (s : State) → IsKeeping s → (q : ℕ) (pre : Forest Content) (o : ℕ) (c : Content) (n : ℕ) (d : Content) (j k post : Forest Content)
    → Spot (document_of s.trees) q (join pre (Tree o c (join k (Tree n d j Nil)) post))
    → Slide s (edited (Move n q (first_in (tops post))) s) q (join pre (Tree o c k (Tree n d j post))) (may_move s n q (first_in (tops post)))
drop s is q pre o c n d j k post spot =
    let f = document_of s.trees in
    let once = document_distinct s.trees is.valid.forest.distinct in
    let kids = join pre (Tree o c (join k (Tree n d j Nil)) post) in
    let others = join pre (Tree o c k (Tree n d j post)) in
    let kids_once = spot_distinct f once q kids spot in
    let inside : 0 < count_of kids n = omega (arith, count-join pre (Tree o c (join k (Tree n d j Nil)) post) n, count-join k (Tree n d j Nil) n, self_one n) in
    let t = take_last pre o c n d j k post kids_once in
    let left_once : IsDistinct (join pre (Tree o c k post)) = λ l. omega (arith, kids_once l, count-join pre (Tree o c (join k (Tree n d j Nil)) post) l, count-join k (Tree n d j Nil) l, count-join pre (Tree o c k post) l) in
    slide s is q kids others spot n q (first_in (tops post)) inside
    (rw (spot_without f once q kids spot n inside, spot_tree f once q kids spot n inside, t.tree, t.out)
    (spot_put_top f once q kids spot (join pre (Tree o c k post)) (first_in (tops post)) (Tree n d j Nil) ∙ ap (λ g. fill spot.around (Tree q spot.content g spot.rest)) (put_after_node pre o c k post n d j left_once)))
    (drop_leaves pre o c n d j k post)

pub drop_all : (r : Forest Content) (s : State) → IsKeeping s → (q : ℕ) (pre : Forest Content) (o : ℕ) (c : Content) (k post : Forest Content)
    → Spot (document_of s.trees) q (join pre (Tree o c (join k (reversed_before r Nil)) post))
    → Ran s (final (for_each (tops r) (move_after o)) s) q (join pre (Tree o c k (reversed_before r post))) o q (λ left went. join pre (Tree o c (join k (reversed_before left Nil)) went))
drop_all Nil s is q pre o c k post spot =
    rw (for_each-nil, final-answer)
    (record { keeps = keeps_refl (document_of s.trees); ends = all_went (spot_as (document_of s.trees) q (join pre (Tree o c (join k Nil) post)) (join pre (Tree o c k post)) (ap (λ h. join pre (Tree o c h post)) (join-Nil k)) spot) })
drop_all (Tree n d j r) s is q pre o c k post spot =
    rw (for_each-cons, final-bind, final_move_after o n q s (node_parent s is.valid q pre o c (join k (reversed_before r (Tree n d j Nil))) post spot), next_is s is.valid q pre o c (join k (reversed_before r (Tree n d j Nil))) post spot)
    (by_made (may_move s n q (first_in (tops post))) refl (drop s is q pre o c n d j (join k (reversed_before r Nil)) post here)
    (λ next. drop_all r t (keeping_edited (Move n q (first_in (tops post))) s is) q pre o c k (Tree n d j post) next))
  where
    t : State
    t = edited (Move n q (first_in (tops post))) s

    same : join k (reversed_before r (Tree n d j Nil)) ≡ join (join k (reversed_before r Nil)) (Tree n d j Nil)
    same = ap (join k) (reversed_before-last n d j r) ∙ sym (join-assoc k (reversed_before r Nil) (Tree n d j Nil))

    here : Spot (document_of s.trees) q (join pre (Tree o c (join (join k (reversed_before r Nil)) (Tree n d j Nil)) post))
    here = spot_as (document_of s.trees) q _ _ (ap (λ h. join pre (Tree o c h post)) same) spot

    stopped : Forest Content → Forest Content → Forest Content
    stopped left went = join pre (Tree o c (join k (reversed_before left Nil)) went)

    by_made : (v : Bool) → may_move s n q (first_in (tops post)) ≡ v → Slide s t q (join pre (Tree o c (join k (reversed_before r Nil)) (Tree n d j post))) v
        → (Spot (document_of t.trees) q (join pre (Tree o c (join k (reversed_before r Nil)) (Tree n d j post))) → Ran t (final (for_each (tops r) (move_after o)) t) q (join pre (Tree o c k (reversed_before r (Tree n d j post)))) o q stopped)
        → Ran s (final (for_each (tops r) (move_after o)) t) q (join pre (Tree o c k (reversed_before r (Tree n d j post)))) o q stopped
    by_made true w one more = let rest = more (one.moved refl) in record { keeps = keeps_trans one.keeps rest.keeps; ends = rest.ends }
    by_made false w one more =
        let ks = join k (reversed_before r (Tree n d j Nil)) in
        let among : (m : ℕ) → 0 < times (tops (Tree n d j r)) m → 0 < times (tops ks) m = λ m h. omega (arith, h, tops-join k (reversed_before r (Tree n d j Nil)) m, times-reversed_before r (Tree n d j Nil) m) in
        let shut : (is_open s o && (is_open s q && is_parent_at s.trees q)) ≡ false = sym (drop_open s is q pre o c ks post spot n (among n (omega (arith, self_one n)))) ∙ w in
        let stays : (m : ℕ) → 0 < times (tops r) m → final (move_after o m) s ≡ s = λ m h.
        final_move_after o m q s (node_parent s is.valid q pre o c ks post spot)
        ∙ (ap (λ b. edited (Move m q b) s) (next_is s is.valid q pre o c ks post spot)
        ∙ move_stays m q (first_in (tops post)) s (drop_open s is q pre o c ks post spot m (among m (omega (arith, h))) ∙ shut)) in
        rw (one.left refl, each_stays (tops r) (move_after o) s stays)
        (record { keeps = keeps_refl (document_of s.trees); ends = some_stay (Tree n d j r) post spot shut })

-- ---- the siblings before p go to its front

pub final_move_first : (p n : ℕ) (s : State) → final (move_first p n) s ≡ edited (Move n p (first_of s.trees p)) s
unfolding move_first
final_move_first p n s = rw (final-look, final-bind, final-edit, final-answer) refl

module _ (s : State) (is : IsKeeping s) (q : ℕ) (pre : Forest Content) (p : ℕ) (e : Content) (g post : Forest Content) (spot : Spot (document_of s.trees) q (join pre (Tree p e g post))) where
  pub first_is : first_of s.trees p ≡ first_in (tops g)
  first_is = ap (λ o. first_in (option_map_or (λ (x : Seen Content). x.children) o [])) (node_found s is.valid q pre p e g post spot)

  place_first : (n : ℕ) → parent_of s.trees n ≡ Some q → (h : Forest Content) → ((m : ℕ) → 0 < times (tops h) m → parent_of s.trees m ≡ Some p) → is_place s.trees p (first_in (tops h)) n ≡ true
  place_first n child Nil among = refl
  place_first n child (Tree b d j h) among =
      let below : parent_of s.trees b ≡ Some p = among b (omega (arith, self_one b)) in
      let up = node_parent s is.valid q pre p e g post spot in
      let off : b ≢ n = λ w. (let k : Some p ≡ Some q = sym below ∙ (ap (parent_of s.trees) w ∙ child) in let same : p ≡ q = (let k' = k in cc) in parent_other s.trees is.valid.forest.distinct p q up (sym same)) in
      rw (below, eqb_refl_true p, ne_eqb b n off) refl

  pub front_open : (n : ℕ) → 0 < times (tops pre) n → may_move s n p (first_in (tops g)) ≡ (is_open s q && (is_open s p && is_parent_at s.trees p))
  front_open n h =
      let once = is.valid.forest.distinct in
      let kids = join pre (Tree p e g post) in
      let kids_once = spot_distinct (document_of s.trees) (document_distinct s.trees once) q kids spot in
      let child = top_parent s is.valid q kids spot n (omega (arith, h, tops-join pre (Tree p e g post) n)) in
      let beside = node_parent s is.valid q pre p e g post spot in
      let off : n ≢ p = λ same. (
      let h' : 0 < times (tops pre) p = subst (λ m. 0 < times (tops pre) m) same h in
      omega (arith, h', times-tops pre p, kids_once p, count-join pre (Tree p e g post) p, self_one p)) in
      goes_where_open s n q p (first_in (tops g)) child (not_within_beside s.trees once n q p child beside off)
      (place_first n child g (λ m k. child_parent s is.valid q pre p e g post spot m k))
      (below_inside s is.valid q kids spot p (omega (arith, count-join pre (Tree p e g post) p, self_one p)))
      (λ same. parent_other s.trees once p q beside same)

pub front : (s : State) → IsKeeping s → (q : ℕ) (pre : Forest Content) (n : ℕ) (d : Content) (j : Forest Content) (p : ℕ) (e : Content) (g post : Forest Content) → borne_by p e ≡ []
    → Spot (document_of s.trees) q (join pre (Tree n d j (Tree p e g post)))
    → Slide s (edited (Move n p (first_in (tops g))) s) q (join pre (Tree p e (Tree n d j g) post)) (may_move s n p (first_in (tops g)))
front s is q pre n d j p e g post bare spot =
    let f = document_of s.trees in
    let once = document_distinct s.trees is.valid.forest.distinct in
    let kids = join pre (Tree n d j (Tree p e g post)) in
    let others = join pre (Tree p e (Tree n d j g) post) in
    let kids_once = spot_distinct f once q kids spot in
    let inside : 0 < count_of kids n = omega (arith, count-join pre (Tree n d j (Tree p e g post)) n, self_one n) in
    let here : 0 < count_of kids p = omega (arith, count-join pre (Tree n d j (Tree p e g post)) p, self_one p) in
    let apart : count_of pre p ≡ 0 = omega (arith, kids_once p, count-join pre (Tree n d j (Tree p e g post)) p, self_one p) in
    let t = take_one pre n d j (Tree p e g post) kids_once in
    slide s is q kids others spot n p (first_in (tops g)) inside
    (rw (spot_without f once q kids spot n inside, spot_tree f once q kids spot n inside, t.tree, t.out)
    (spot_put_below f once q kids spot (join pre (Tree p e g post)) p (first_in (tops g)) (Tree n d j Nil) here ∙ ap (λ h. fill spot.around (Tree q spot.content h spot.rest)) (put_first_below pre p e g post n d j apart)))
    (front_leaves pre n d j p e g post bare)

pub front_all : (r : Forest Content) (s : State) → IsKeeping s → (q : ℕ) (pre : Forest Content) (p : ℕ) (e : Content) (g post : Forest Content) → borne_by p e ≡ []
    → Spot (document_of s.trees) q (join pre (join (reversed_before r Nil) (Tree p e g post)))
    → Ran s (final (for_each (tops r) (move_first p)) s) q (join pre (Tree p e (reversed_before r g) post)) q p (λ left went. join pre (join (reversed_before left Nil) (Tree p e went post)))
front_all Nil s is q pre p e g post bare spot = rw (for_each-nil, final-answer) (record { keeps = keeps_refl (document_of s.trees); ends = all_went spot })
front_all (Tree n d j r) s is q pre p e g post bare spot =
    rw (for_each-cons, final-bind, final_move_first p n s, first_is s is q (join pre (reversed_before r (Tree n d j Nil))) p e g post around)
    (by_made (may_move s n p (first_in (tops g))) refl (front s is q (join pre (reversed_before r Nil)) n d j p e g post bare here)
    (λ next. front_all r t (keeping_edited (Move n p (first_in (tops g))) s is) q pre p e (Tree n d j g) post bare (spot_as (document_of t.trees) q _ _ (join-assoc pre (reversed_before r Nil) (Tree p e (Tree n d j g) post)) next)))
  where
    t : State
    t = edited (Move n p (first_in (tops g))) s

    around : Spot (document_of s.trees) q (join (join pre (reversed_before r (Tree n d j Nil))) (Tree p e g post))
    around = spot_as (document_of s.trees) q _ _ (sym (join-assoc pre (reversed_before r (Tree n d j Nil)) (Tree p e g post))) spot

    here : Spot (document_of s.trees) q (join (join pre (reversed_before r Nil)) (Tree n d j (Tree p e g post)))
    here = spot_as (document_of s.trees) q _ _ (ap (λ h. join pre (join h (Tree p e g post))) (reversed_before-last n d j r) ∙ (ap (join pre) (join-assoc (reversed_before r Nil) (Tree n d j Nil) (Tree p e g post)) ∙ sym (join-assoc pre (reversed_before r Nil) (Tree n d j (Tree p e g post))))) spot

    stopped : Forest Content → Forest Content → Forest Content
    stopped left went = join pre (join (reversed_before left Nil) (Tree p e went post))

    by_made : (v : Bool) → may_move s n p (first_in (tops g)) ≡ v → Slide s t q (join (join pre (reversed_before r Nil)) (Tree p e (Tree n d j g) post)) v
        → (Spot (document_of t.trees) q (join (join pre (reversed_before r Nil)) (Tree p e (Tree n d j g) post)) → Ran t (final (for_each (tops r) (move_first p)) t) q (join pre (Tree p e (reversed_before r (Tree n d j g)) post)) q p stopped)
        → Ran s (final (for_each (tops r) (move_first p)) t) q (join pre (Tree p e (reversed_before r (Tree n d j g)) post)) q p stopped
    by_made true w one more = let rest = more (one.moved refl) in record { keeps = keeps_trans one.keeps rest.keeps; ends = rest.ends }
    by_made false w one more =
        let before = join pre (reversed_before r (Tree n d j Nil)) in
        let among : (m : ℕ) → 0 < times (tops (Tree n d j r)) m → 0 < times (tops before) m = λ m h. omega (arith, h, tops-join pre (reversed_before r (Tree n d j Nil)) m, times-reversed_before r (Tree n d j Nil) m) in
        let shut : (is_open s q && (is_open s p && is_parent_at s.trees p)) ≡ false = sym (front_open s is q before p e g post around n (among n (omega (arith, self_one n)))) ∙ w in
        let stays : (m : ℕ) → 0 < times (tops r) m → final (move_first p m) s ≡ s = λ m h.
        final_move_first p m s
        ∙ (ap (λ b. edited (Move m p b) s) (first_is s is q before p e g post around)
        ∙ move_stays m p (first_in (tops g)) s (front_open s is q before p e g post around m (among m (omega (arith, h))) ∙ shut)) in
        rw (one.left refl, each_stays (tops r) (move_first p) s stays)
        (record { keeps = keeps_refl (document_of s.trees); ends = some_stay (Tree n d j r) g spot shut })

-- ---- a node goes over the one before it, whose tree bears nothing

pub swap : (s : State) → IsKeeping s → (q : ℕ) (pre : Forest Content) (x : ℕ) (e : Content) (g : Forest Content) (n : ℕ) (d : Content) (j post : Forest Content) → borne_by x e ++ leaves g ≡ []
    → Spot (document_of s.trees) q (join pre (Tree x e g (Tree n d j post)))
    → Slide s (edited (Move n q (Some x)) s) q (join pre (Tree n d j (Tree x e g post))) (may_move s n q (Some x))
swap s is q pre x e g n d j post bare spot =
    let f = document_of s.trees in
    let once = document_distinct s.trees is.valid.forest.distinct in
    let kids = join pre (Tree x e g (Tree n d j post)) in
    let others = join pre (Tree n d j (Tree x e g post)) in
    let kids_once = spot_distinct f once q kids spot in
    let same : join (join pre (Tree x e g Nil)) (Tree n d j post) ≡ kids = join-assoc pre (Tree x e g Nil) (Tree n d j post) in
    let inside : 0 < count_of kids n = omega (arith, count-join pre (Tree x e g (Tree n d j post)) n, self_one n) in
    let t = take_one (join pre (Tree x e g Nil)) n d j post (subst IsDistinct (sym same) kids_once) in
    let tree : tree_of kids n ≡ Tree n d j Nil = ap (λ h. tree_of h n) (sym same) ∙ t.tree in
    let out = ap (λ h. without h n) (sym same) ∙ (t.out ∙ join-assoc pre (Tree x e g Nil) post) in
    let apart = node_apart s is.valid q pre x e g (Tree n d j post) spot in
    slide s is q kids others spot n q (Some x) inside
    (rw (spot_without f once q kids spot n inside, spot_tree f once q kids spot n inside, tree, out)
    (spot_put_top f once q kids spot (join pre (Tree x e g post)) (Some x) (Tree n d j Nil) ∙ ap (λ h. fill spot.around (Tree q spot.content h spot.rest)) (put_before_node pre x e g post n d j apart)))
    (swap_leaves pre x e g n d j post bare)

-- ---- a node goes to the end of the one after it, whose tree bears nothing

pub enter : (s : State) → IsKeeping s → (q : ℕ) (pre : Forest Content) (n : ℕ) (d : Content) (j : Forest Content) (x : ℕ) (e : Content) (g post : Forest Content) → borne_by x e ++ leaves g ≡ []
    → Spot (document_of s.trees) q (join pre (Tree n d j (Tree x e g post)))
    → Slide s (edited (Move n x None) s) q (join pre (Tree x e (join g (Tree n d j Nil)) post)) (may_move s n x None)
enter s is q pre n d j x e g post bare spot =
    let f = document_of s.trees in
    let once = document_distinct s.trees is.valid.forest.distinct in
    let kids = join pre (Tree n d j (Tree x e g post)) in
    let others = join pre (Tree x e (join g (Tree n d j Nil)) post) in
    let kids_once = spot_distinct f once q kids spot in
    let inside : 0 < count_of kids n = omega (arith, count-join pre (Tree n d j (Tree x e g post)) n, self_one n) in
    let here : 0 < count_of kids x = omega (arith, count-join pre (Tree n d j (Tree x e g post)) x, self_one x) in
    let apart : count_of pre x ≡ 0 = omega (arith, kids_once x, count-join pre (Tree n d j (Tree x e g post)) x, self_one x) in
    let t = take_one pre n d j (Tree x e g post) kids_once in
    slide s is q kids others spot n x None inside
    (rw (spot_without f once q kids spot n inside, spot_tree f once q kids spot n inside, t.tree, t.out)
    (spot_put_below f once q kids spot (join pre (Tree x e g post)) x None (Tree n d j Nil) here ∙ ap (λ h. fill spot.around (Tree q spot.content h spot.rest)) (put_last_below pre x e g post n d j apart)))
    (take_leaves pre x e g n d j post ∙ sym (swap_leaves pre x e g n d j post bare))
