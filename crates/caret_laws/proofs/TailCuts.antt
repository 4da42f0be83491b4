-- What the trees become by the steps of a tail: of a node's children the first stay, and the others go to the end of another
-- node, where copies stand for those that are parted.
use Rattle.std.proofs.Common.{◌≡◌, ◌≢◌, ℕ, zero, suc, ◌+◌, ◌<◌, ◌≤◌, true, false, cond, eqb, List, [], ◌∷◌, ◌++◌, take, drop, Option, Some, None, refl, sym, ap, subst, ◌∙◌, inl, inr, arith, add-one, append_assoc}
use Rattle.std.specs.Option.{option_map_or}
use Rattle.std.proofs.lemmas.Bool.{and_parts, cases_Bool, ne_eqb, ltb-true}
use Rattle.std.proofs.lemmas.List.{append-nil, take-append-drop}
use Rattle.edit_model.specs.DomModel.declared.Content.{Content}
use Rattle.edit_model.specs.DomModel.Forest.{Forest, join, tops, times, count_of, tree_of, parent_of, children_of, put_under, with_leaf, IsDistinct, IsWithin, CanPut}
use Rattle.edit_model.specs.DomModel.Forest.Forest.{Nil, Tree}
use Rattle.edit_model.specs.DomModel.Places.{place_in}
use Rattle.edit_model.proofs.DomModel.Totals.{total-without}
use Rattle.edit_model.proofs.DomModel.Links.{join-Nil, eqb_refl_true}
use Rattle.edit_model.proofs.DomModel.NodesKept.{AreNodes}
use Rattle.edit_model.proofs.DomModel.Within.{within_step}
use Rattle.edit_model.specs.LiveRange.declared.places.Point.{Point}
use Rattle.edit_model.specs.PointOrder.PointOrder.{is_within, child_toward}
use Rattle.edit_model.specs.State.{State}
use Rattle.edit_model.specs.Edit.{Insert, is_made_edit, trees_after, changed, with_change}
use Rattle.edit_model.specs.Kept.{Leaf, borne_by, leaves}
use Rattle.edit_model.specs.Tail.{Step, Copy, Do, carried, later, copy_of, tail_steps}
use Rattle.edit_model.specs.Action.{made, applied, stepped, stepped_all}
use Rattle.edit_model.specs.Possible.{freed, are_possible}
use Rattle.edit_model.specs.Valid.{IsValid}
use Rattle.edit_model.proofs.Forests.{fresh}
use Rattle.edit_model.proofs.Tests.{inserts}
use Rattle.edit_model.proofs.Trees.{tree_of-inside, tree_of-with_leaf_other}
use Rattle.edit_model.proofs.TailPlan.{AllOf, Fits, IsCopy, is_copy, tail_fits, parent_among, find_some}
use Rattle.edit_model.proofs.TailOutside.{root_there}
use Rattle.edit_model.proofs.ValidParts.{valid_applied, valid_copied, valid_steps}
use Rattle.edit_laws.proofs.Around.{off_by, self_one}
use Rattle.edit_laws.proofs.Leaves.{leaves-Nil, leaves-Tree, leaves-join}
use Rattle.edit_laws.proofs.Patterns.{count-join, join-assoc, tree_of-join, put_last, take_one}
use Rattle.edit_laws.proofs.Seats.{split_top, Parts, parts_of}
use Rattle.caret_laws.proofs.Trees.{root_seen}
use Rattle.caret_laws.proofs.OtherChildren.{with_children, children_here, children_past, children_absent, children_put, children_inner, children_swap, children_none, children_only, children_at, children_join}
use Rattle.caret_laws.proofs.TreesBeside.{tree_of-linked}
use Rattle.caret_laws.proofs.CarriedTrees.{look_carried}

-- ---- lists of steps, and of trees

stepped-append : (xs ys : List Step) (u : State) → stepped_all (xs ++ ys) u ≡ stepped_all ys (stepped_all xs u)
unfolding stepped_all
stepped-append [] ys u = refl
stepped-append (x ∷ xs) ys u = stepped-append xs ys (stepped x u)

possible-append : (xs ys : List Step) (u : State) → are_possible (xs ++ ys) u ≡ true → (are_possible xs u ≡ true) × (are_possible ys (stepped_all xs u) ≡ true)
unfolding stepped_all are_possible
possible-append [] ys u h = (refl, h)
possible-append (Copy c ∷ xs) ys u h = possible-append xs ys (stepped (Copy c) u) h
possible-append (Do e ∷ xs) ys u h =
    let p = and_parts (is_made_edit e (freed u)) _ h in
    let q = possible-append xs ys (stepped (Do e) u) p.1 in
    (rw p.0 q.0, q.1)

later_after : (pre : Forest Content) (k : ℕ) (c : Content) (ks post : Forest Content) → count_of pre k ≡ 0 → later (tops (join pre (Tree k c ks post))) k ≡ tops post
later_after Nil k c ks post none = rw (eqb_refl_true k) refl
later_after (Tree m d js rest) k c ks post none =
    let xs = tops (join rest (Tree k c ks post)) in
    rw (off_by m k (omega (arith, none)), add-one (place_in xs k + 1)) (later_after rest k c ks post (omega (arith, none)))

-- ---- the walk

-- P holds of the nodes whose children go, from the end down to the point's node, and the copies of these bear nothing
module _ (f : Forest Content) (once : IsDistinct f) (nodes : AreNodes f) (from : Point) (P : ℕ → Type 0) (down : (c k : ℕ) → P c → parent_of f k ≡ Some c → IsWithin f k from.label → P k) (bare : (c k n : ℕ) → P c → parent_of f k ≡ Some c → IsWithin f k from.label → borne_by n (copy_of f k) ≡ []) where
  -- c has the tree that it had at first, and d stands beside it
  pub record Begins (c d : ℕ) (own : Content) (ks : Forest Content) (other : Content) (js : Forest Content) (u : State) : Type 0 where
    pub valid : IsValid u
    pub path : P c
    pub at_first : tree_of f c ≡ Tree c own ks Nil
    pub here : tree_of u.trees c ≡ Tree c own ks Nil
    pub there : tree_of u.trees d ≡ Tree d other js Nil
    pub off : c ≢ d
    pub out : count_of ks d ≡ 0
    pub apart : count_of js c ≡ 0

  -- what the steps make of the children of c: some stay, and others come after those of d
  pub record Cut (c d : ℕ) (ks js : Forest Content) (u w : State) : Type 0 where
    pub keep : Forest Content
    pub go : Forest Content
    pub order : leaves keep ++ leaves go ≡ leaves ks
    pub counts : (l : ℕ) → l < u.next → count_of keep l + count_of go l ≡ count_of ks l
    pub trees : (l : ℕ) → count_of ks l ≡ 0 → l < u.next → tree_of w.trees l ≡ with_children (with_children (tree_of u.trees l) c keep) d (join js go)

  plain : (fuel c d n : ℕ) → AllOf (Fits IsCopy (λ _. Unit {0}) (λ _. Unit {0})) (tail_steps fuel f from c d n)
  plain fuel c d n = tail_fits IsCopy (λ _. Unit {0}) (λ _. Unit {0}) f once 0 from (λ _. Unit {0}) (λ _ _ _ _ _. tt) (λ _ _ _ _. tt) (λ k _. is_copy f nodes k) (λ _ _. tt) (λ _ _. tt) fuel c d n tt tt (omega arith)

  module _ (c d : ℕ) (own : Content) (ks : Forest Content) (other : Content) (js : Forest Content) (u : State) (h : Begins c d own ks other js u) where
    once_u : IsDistinct u.trees
    once_u = h.valid.forest.distinct

    part : (p l : ℕ) → count_of (tree_of u.trees p) l ≤ count_of u.trees l
    part p l = omega (arith, total-without (λ m _. cond (eqb m l) 1 0) u.trees p)

    in_c : (l : ℕ) → cond (eqb c l) 1 0 + count_of ks l ≤ count_of u.trees l
    in_c l = omega (arith, part c l, ap (λ g. count_of g l) h.here)

    once_ks : IsDistinct ks
    once_ks = λ l. omega (arith, in_c l, once_u l)

    out_c : count_of ks c ≡ 0
    out_c = omega (arith, in_c c, once_u c, self_one c)

    low_c : c < u.next
    low_c = h.valid.forest.below c (omega (arith, in_c c, self_one c))

    low_d : d < u.next
    low_d = h.valid.forest.below d (omega (arith, part d d, ap (λ g. count_of g d) h.there, self_one d))

    new : count_of u.trees u.next ≡ 0
    new = fresh u.trees u.next h.valid.forest

    -- a node that isn't below c, and is there or was
    abbrev Out : ℕ → Type 0
    Out l = (count_of ks l ≡ 0) × (l < u.next)

    start : (l : ℕ) → tree_of u.trees l ≡ with_children (with_children (tree_of u.trees l) c ks) d js
    start l = sym (ap (λ g. with_children g d js) (children_at u.trees l c own ks once_u h.here) ∙ children_at u.trees l d other js once_u h.there)

    -- nothing goes
    none_cut : Cut c d ks js u u
    none_cut = record {
      keep = ks;
      go = Nil;
      order = ap (λ x. leaves ks ++ x) leaves-Nil ∙ append-nil (leaves ks);
      counts = λ l low. omega arith;
      trees = λ l o low. start l ∙ ap (with_children (with_children (tree_of u.trees l) c ks) d) (sym (join-Nil js));
    }

    -- the last children of the point's node go
    here_cut : are_possible (carried d (drop from.offset (children_of f c))) u ≡ true → Cut c d ks js u (stepped_all (carried d (drop from.offset (children_of f c))) u)
    here_cut may = record {
      keep = keep;
      go = go;
      order = sym (leaves-join keep go) ∙ ap leaves (sym is);
      counts = λ l low. sym (count-join keep go l) ∙ ap (λ g. count_of g l) (sym is);
      trees = λ l o low. ap (λ xs. tree_of (stepped_all (carried d xs) u).trees l) (sym listed) ∙ look l (o, low);
    }
      where
        kids : children_of f c ≡ tops ks
        kids = (root_seen f c own ks once h.at_first).1

        parts : Parts ks (take from.offset (tops ks)) (drop from.offset (tops ks))
        parts = parts_of ks (take from.offset (tops ks)) (drop from.offset (tops ks)) (sym (take-append-drop from.offset (tops ks)))

        keep : Forest Content
        keep = parts.first

        go : Forest Content
        go = parts.second

        is : ks ≡ join keep go
        is = parts.is

        listed : tops go ≡ drop from.offset (children_of f c)
        listed = parts.seconds ∙ ap (drop from.offset) (sym kids)

        look : (l : ℕ) → Out l → tree_of (stepped_all (carried d (tops go)) u).trees l ≡ with_children (with_children (tree_of u.trees l) c keep) d (join js go)
        look =
            look_carried c d own h.off (λ l. tree_of u.trees l) ks h.here Out (out_c, low_c) (h.out, low_d) keep go js u h.valid h.apart
            (λ l o. ap (λ g. count_of g l) (sym is) ∙ o.0)
            (λ l o. start l ∙ ap (λ g. with_children (with_children (tree_of u.trees l) c g) d js) is)
            (subst (λ xs. are_possible (carried d xs) u ≡ true) (sym listed) may)

    -- ---- the child in which the point stands

    module _ (k : ℕ) (among : 0 < times (children_of f c) k) (path : IsWithin f k from.label) (before : Forest Content) (k_content : Content) (k_kids past : Forest Content) (is : ks ≡ join before (Tree k k_content k_kids past)) where
      child : parent_of f k ≡ Some c
      child = parent_among f once c k among

      kids : children_of f c ≡ tops ks
      kids = (root_seen f c own ks once h.at_first).1

      counted : (l : ℕ) → count_of ks l ≡ count_of before l + (cond (eqb k l) 1 0 + (count_of k_kids l + count_of past l))
      counted l = ap (λ g. count_of g l) is ∙ count-join before (Tree k k_content k_kids past) l

      none_before : count_of before k ≡ 0
      none_before = omega (arith, counted k, once_ks k, self_one k)

      some_k : 0 < count_of ks k
      some_k = omega (arith, counted k, self_one k)

      c_off_k : c ≢ k
      c_off_k q = let none = subst (λ j. count_of ks j ≡ 0) q out_c in omega (arith, none, some_k)

      -- the tree of k in a forest where c has these children
      k_tree : (g : Forest Content) → IsDistinct g → tree_of g c ≡ Tree c own ks Nil → tree_of g k ≡ Tree k k_content k_kids Nil
      k_tree g once_g e =
          let inside : IsWithin g c k = rw e (omega (arith, some_k)) in
          sym (tree_of-inside g c k once_g inside)
          ∙ (ap (λ t. tree_of t k) e
          ∙ (rw (ne_eqb c k c_off_k) (join-Nil (tree_of ks k))
          ∙ (ap (λ t. tree_of t k) is ∙ (take_one before k k_content k_kids past (subst IsDistinct is once_ks)).tree)))

      low_k : k < u.next
      low_k = h.valid.forest.below k (omega (arith, in_c k, some_k))

      k_off_new : k ≢ u.next
      k_off_new q = omega (arith, low_k, q)

      new_k : count_of k_kids u.next ≡ 0
      new_k = omega (arith, counted u.next, in_c u.next, new)

      begins : Begins k u.next k_content k_kids (copy_of f k) Nil (made (copy_of f k) u)
      unfolding made
      begins = record {
        valid = valid_copied (copy_of f k) u (is_copy f nodes k) h.valid;
        path = down c k h.path child path;
        at_first = k_tree f once h.at_first;
        here = tree_of-with_leaf_other u.trees u.next k (copy_of f k) (λ q. k_off_new (sym q)) ∙ k_tree u.trees once_u h.here;
        there = tree_of-join u.trees (Tree u.next (copy_of f k) Nil Nil) u.next new ∙ rw (eqb_refl_true u.next) refl;
        off = k_off_new;
        out = new_k;
        apart = refl;
      }

      -- after the steps below k
      module _ (w : State) (valid_w : IsValid w) (cut : Cut k u.next k_kids Nil (made (copy_of f k) u) w) (put : is_made_edit (Insert d None u.next) (freed w) ≡ true) where
        k_counts : (l : ℕ) → l ≤ u.next → count_of cut.keep l + count_of cut.go l ≡ count_of k_kids l
        unfolding made
        k_counts l low = cut.counts l (omega (arith, low))

        k_trees : (l : ℕ) → count_of k_kids l ≡ 0 → l < u.next → tree_of w.trees l ≡ with_children (with_children (tree_of u.trees l) k cut.keep) u.next cut.go
        unfolding made
        k_trees l none low =
            cut.trees l none (omega (arith, low))
            ∙ ap (λ g. with_children (with_children g k cut.keep) u.next cut.go) (tree_of-with_leaf_other u.trees u.next l (copy_of f k) (λ q. omega (arith, low, q)))

        copy_tree : tree_of w.trees u.next ≡ Tree u.next (copy_of f k) cut.go Nil
        unfolding made
        copy_tree =
            let n = u.next in
            let own_n = eqb_refl_true n in
            let copied : tree_of (with_leaf u.trees n (copy_of f k)) n ≡ Tree n (copy_of f k) Nil Nil = tree_of-join u.trees (Tree n (copy_of f k) Nil Nil) n new ∙ rw own_n refl in
            cut.trees n new_k (omega arith)
            ∙ (ap (λ g. with_children (with_children g k cut.keep) n cut.go) copied
            ∙ (ap (λ g. with_children g n cut.go) (children_past n (copy_of f k) Nil Nil k cut.keep (ne_eqb n k (λ q. k_off_new (sym q))))
            ∙ children_here n (copy_of f k) Nil Nil n cut.go own_n))

        -- the children of c that stay, where k has what is left of it
        abbrev keep : Forest Content
        keep = join before (Tree k k_content cut.keep Nil)

        left_is : join before (Tree k k_content cut.keep past) ≡ join (join before (Tree k k_content cut.keep Nil)) past
        left_is = sym (join-assoc before (Tree k k_content cut.keep Nil) past)

        left_counts : (l : ℕ) → l ≤ u.next → count_of (join before (Tree k k_content cut.keep past)) l + count_of cut.go l ≡ count_of ks l
        left_counts l low = omega (arith, counted l, count-join before (Tree k k_content cut.keep past) l, k_counts l low)

        clear : (l : ℕ) → Out l → count_of (join before (Tree k k_content cut.keep past)) l ≡ 0
        clear l o = omega (arith, left_counts l (omega (arith, o.1)), o.0)

        left_here : with_children ks k cut.keep ≡ join before (Tree k k_content cut.keep past)
        left_here =
            ap (λ g. with_children g k cut.keep) is
            ∙ (children_join before (Tree k k_content k_kids past) k cut.keep none_before ∙ ap (join before) (children_here k k_content k_kids past k cut.keep (eqb_refl_true k)))

        -- k stands nowhere but among the children of c
        only : (l : ℕ) → Out l → count_of (with_children (tree_of u.trees l) c Nil) k ≡ 0
        only l o =
            let same = children_at u.trees l c own ks once_u h.here in
            let beside : l ≢ k = λ q. (let none = subst (λ j. count_of ks j ≡ 0) q o.0 in omega (arith, none, some_k)) in
            let up : parent_of u.trees k ≡ Some c = parent_among u.trees once_u c k (subst (λ xs. 0 < times xs k) (sym (root_seen u.trees c own ks once_u h.here).1) (subst (λ xs. 0 < times xs k) kids among)) in
            children_only (tree_of u.trees l) c ks k
            (λ j. omega (arith, once_u j, part l j, ap (λ g. count_of g j) same))
            some_k
            (λ some. (
            let held : IsWithin u.trees l k = subst (λ g. 0 < count_of g k) same some in
            subst (λ g. 0 < count_of g c) (sym same) (within_step u.trees l once_u (root_there u.trees l k held) k c beside up held)))

        look_w : (l : ℕ) → Out l → tree_of w.trees l ≡ with_children (tree_of u.trees l) c (join before (Tree k k_content cut.keep past))
        look_w l o =
            let g = tree_of u.trees l in
            let n = u.next in
            let none : count_of k_kids l ≡ 0 = omega (arith, counted l, o.0) in
            let no_copy : count_of g n ≡ 0 = omega (arith, part l n, new) in
            let no_copy_in : count_of cut.keep n ≡ 0 = omega (arith, k_counts n (omega arith), new_k) in
            k_trees l none o.1
            ∙ (children_absent (with_children g k cut.keep) n cut.go (children_none g k cut.keep n no_copy no_copy_in)
            ∙ (ap (λ t. with_children t k cut.keep) (sym (children_at u.trees l c own ks once_u h.here))
            ∙ (children_inner g c ks k cut.keep (only l o) ∙ ap (with_children g c) left_here)))

        can : CanPut w.trees d None u.next
        unfolding is_made_edit
        can = (inserts (freed w) d None u.next put).can

        -- the copy has gone to the end of d
        abbrev z : State
        z = applied (Insert d None u.next) w

        look_z : (l : ℕ) → Out l → tree_of (applied (Insert d None u.next) w).trees l ≡ with_children (with_children (tree_of u.trees l) c (join keep past)) d (join js (Tree u.next (copy_of f k) cut.go Nil))
        unfolding applied with_change changed trees_after
        look_z l o =
            let g = tree_of u.trees l in
            let n = u.next in
            let t = Tree n (copy_of f k) cut.go Nil in
            let now = with_children g c (join before (Tree k k_content cut.keep past)) in
            let n_off_l : eqb n l ≡ false = ne_eqb n l (λ q. (let low = o.1 in omega (arith, low, q))) in
            let none : count_of (tree_of w.trees n) l ≡ 0 = ap (λ x. count_of x l) copy_tree ∙ rw n_off_l (omega (arith, left_counts l (omega (arith, o.1)), o.0)) in
            let own_d : now ≡ with_children now d js = sym (
            children_swap g c d (join before (Tree k k_content cut.keep past)) js h.off (clear d (h.out, low_d)) h.apart
            ∙ ap (λ x. with_children x c (join before (Tree k k_content cut.keep past))) (children_at u.trees l d other js once_u h.there)) in
            tree_of-linked w.trees d None n l valid_w.forest.distinct can none
            ∙ (ap (λ x. put_under x d None (tree_of w.trees n)) (look_w l o ∙ own_d)
            ∙ (ap (put_under (with_children now d js) d None) copy_tree
            ∙ (children_put now d js None t
            ∙ (ap (with_children now d) (put_last js t) ∙ ap (λ x. with_children (with_children g c x) d (join js t)) left_is))))

        valid_z : IsValid (applied (Insert d None u.next) w)
        valid_z = valid_applied (Insert d None u.next) w valid_w put

        listed : tops past ≡ later (children_of f c) k
        listed = sym (ap (λ xs. later xs k) (kids ∙ ap tops is) ∙ later_after before k k_content k_kids past none_before)

        lists : (p q x y r : List Leaf) → (p ++ (q ++ (x ++ []))) ++ ([] ++ (y ++ r)) ≡ p ++ (q ++ ((x ++ y) ++ r))
        lists p q x y r = simp (append_assoc, append-nil)

        order : leaves (join before (Tree k k_content cut.keep Nil)) ++ leaves (Tree u.next (copy_of f k) cut.go past) ≡ leaves ks
        order =
            ap (λ x. x ++ leaves (Tree u.next (copy_of f k) cut.go past)) (leaves-join before (Tree k k_content cut.keep Nil) ∙ ap (λ x. leaves before ++ x) (leaves-Tree k k_content cut.keep Nil ∙ ap (λ x. borne_by k k_content ++ (leaves cut.keep ++ x)) leaves-Nil))
            ∙ (ap (λ x. (leaves before ++ (borne_by k k_content ++ (leaves cut.keep ++ []))) ++ x) (leaves-Tree u.next (copy_of f k) cut.go past ∙ ap (λ x. x ++ (leaves cut.go ++ leaves past)) (bare c k u.next h.path child path))
            ∙ (lists (leaves before) (borne_by k k_content) (leaves cut.keep) (leaves cut.go) (leaves past)
            ∙ (ap (λ x. leaves before ++ (borne_by k k_content ++ (x ++ leaves past))) cut.order
            ∙ sym (ap leaves is ∙ (leaves-join before (Tree k k_content k_kids past) ∙ ap (λ x. leaves before ++ x) (leaves-Tree k k_content k_kids past))))))

        rest_cut : are_possible (carried d (later (children_of f c) k)) (applied (Insert d None u.next) w) ≡ true → Cut c d ks js u (stepped_all (carried d (later (children_of f c) k)) (applied (Insert d None u.next) w))
        rest_cut may =
            let n = u.next in
            let t = Tree n (copy_of f k) cut.go Nil in
            let apart_t : count_of (join js t) c ≡ 0 = (let off_c : eqb n c ≡ false = ne_eqb n c (λ q. omega (arith, low_c, q)) in count-join js t c ∙ rw off_c (omega (arith, h.apart, left_counts c (omega (arith, low_c)), out_c))) in
            let look =
            look_carried c d own h.off (λ l. tree_of u.trees l) ks h.here Out (out_c, low_c) (h.out, low_d) keep past (join js t) z valid_z apart_t
            (λ l o. ap (λ g. count_of g l) (sym left_is) ∙ clear l o)
            look_z
            (subst (λ xs. are_possible (carried d xs) z ≡ true) (sym listed) may) in
            record {
              keep = keep;
              go = Tree n (copy_of f k) cut.go past;
              order = order;
              counts = λ l low. (
                  let off_l : eqb n l ≡ false = ne_eqb n l (λ q. omega (arith, low, q)) in
                  rw off_l (omega (arith, left_counts l (omega (arith, low)), ap (λ g. count_of g l) left_is, count-join keep past l)));
              trees = λ l o low.
                  ap (λ xs. tree_of (stepped_all (carried d xs) z).trees l) (sym listed)
                  ∙ (look l (o, low) ∙ ap (with_children (with_children (tree_of u.trees l) c keep) d) (join-assoc js t past));
            }

  abbrev Inner : ℕ → State → Type 0
  Inner fuel u = (k : ℕ) (own : Content) (ks : Forest Content) → Begins k u.next own ks (copy_of f k) Nil (made (copy_of f k) u) → are_possible (tail_steps fuel f from k u.next (u.next + 1)) (made (copy_of f k) u) ≡ true
      → Cut k u.next ks Nil (made (copy_of f k) u) (stepped_all (tail_steps fuel f from k u.next (u.next + 1)) (made (copy_of f k) u))

  -- the steps where the point stands below the child k
  abbrev Through : ℕ → ℕ → ℕ → ℕ → ℕ → List Step
  Through fuel c d n k = Copy (copy_of f k) ∷ (tail_steps fuel f from k n (n + 1) ++ (Do (Insert d None n) ∷ carried d (later (children_of f c) k)))

  through : (fuel c d : ℕ) (own : Content) (ks : Forest Content) (other : Content) (js : Forest Content) (u : State) → Begins c d own ks other js u → Inner fuel u → (k : ℕ) → child_toward f c from.label ≡ Some k
      → are_possible (Through fuel c d u.next k) u ≡ true → Cut c d ks js u (stepped_all (Through fuel c d u.next k) u)
  unfolding stepped_all stepped are_possible
  through fuel c d own ks other js u h inner k e may =
      let r = find_some (λ j. is_within f j from.label) (children_of f c) k e in
      let path : IsWithin f k from.label = ltb-true 0 (count_of (tree_of f k) from.label) r.0 in
      let n = u.next in
      let v = made (copy_of f k) u in
      let xs = tail_steps fuel f from k n (n + 1) in
      let ys = carried d (later (children_of f c) k) in
      let parts = possible-append xs (Do (Insert d None n) ∷ ys) v may in
      let w = stepped_all xs v in
      let put = and_parts (is_made_edit (Insert d None n) (freed w)) _ parts.1 in
      let cs = split_top ks k (subst (λ xs. 0 < times xs k) (root_seen f c own ks once h.at_first).1 r.1) in
      let below = begins c d own ks other js u h k r.1 path cs.pre cs.content cs.kids cs.post cs.is in
      let is_w = valid_steps xs v (plain fuel k n (n + 1)) parts.0 below.valid in
      let cut = inner k cs.content cs.kids below parts.0 in
      subst (λ y. Cut c d ks js u y) (sym (stepped-append xs (Do (Insert d None n) ∷ ys) v))
      (rest_cut c d own ks other js u h k r.1 path cs.pre cs.content cs.kids cs.post cs.is w is_w cut put.0 put.1)

  pub cut_off : (fuel c d : ℕ) (own : Content) (ks : Forest Content) (other : Content) (js : Forest Content) (u : State) → Begins c d own ks other js u → are_possible (tail_steps fuel f from c d u.next) u ≡ true → Cut c d ks js u (stepped_all (tail_steps fuel f from c d u.next) u)
  unfolding tail_steps made stepped_all
  cut_off zero c d own ks other js u h may = none_cut c d own ks other js u h
  cut_off (suc fuel) c d own ks other js u h may = elim (cases_Bool (eqb from.label c)) [
    | inl t ↦ (let may' = rw t at may in rw t (here_cut c d own ks other js u h may'))
    | inr t ↦ (let may' = rw t at may in rw t (toward (λ k k_own k_ks below inner_may. cut_off fuel k u.next k_own k_ks (copy_of f k) Nil (made (copy_of f k) u) below inner_may) (child_toward f c from.label) refl may'))
  ]
    where
      toward : Inner fuel u → (o : Option ℕ) → child_toward f c from.label ≡ o
          → are_possible (option_map_or (λ k. Through fuel c d u.next k) o []) u ≡ true
          → Cut c d ks js u (stepped_all (option_map_or (λ k. Through fuel c d u.next k) o []) u)
      toward inner None e may = none_cut c d own ks other js u h
      toward inner (Some k) e may = through fuel c d own ks other js u h inner k e may
