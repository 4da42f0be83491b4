-- What the trees become where a list of nodes goes to the end of another node.
use Rattle.std.proofs.Common.{◌≡◌, ◌≢◌, ℕ, ◌+◌, ◌<◌, ◌≤◌, true, cond, eqb, Some, None, sym, ap, subst, ◌∙◌, arith}
use Rattle.std.proofs.lemmas.Bool.{and_parts, ne_eqb}
use Rattle.edit_model.specs.DomModel.declared.Content.{Content}
use Rattle.edit_model.specs.DomModel.Forest.{Forest, join, tops, times, count_of, tree_of, parent_of, children_of, without, put_under, IsDistinct, IsWithin, CanPut}
use Rattle.edit_model.specs.DomModel.Forest.Forest.{Nil, Tree}
use Rattle.edit_model.proofs.DomModel.Totals.{total-without}
use Rattle.edit_model.proofs.DomModel.Links.{join-Nil, eqb_refl_true}
use Rattle.edit_model.proofs.DomModel.Move.{tree_of-unlink}
use Rattle.edit_model.proofs.DomModel.Within.{within_step}
use Rattle.edit_model.specs.State.{State}
use Rattle.edit_model.specs.Edit.{Insert, Remove, is_made_edit, trees_after, changed, with_change}
use Rattle.edit_model.specs.Tail.{carried}
use Rattle.edit_model.specs.Action.{applied, stepped, stepped_all}
use Rattle.edit_model.specs.Possible.{freed, are_possible}
use Rattle.edit_model.specs.Valid.{IsValid}
use Rattle.edit_model.proofs.Tests.{inserts}
use Rattle.edit_model.proofs.Trees.{tree_of-inside}
use Rattle.edit_model.proofs.TailPlan.{parent_among}
use Rattle.edit_model.proofs.TailOutside.{root_there}
use Rattle.edit_model.proofs.ValidParts.{valid_applied}
use Rattle.edit_laws.proofs.Around.{self_one}
use Rattle.edit_laws.proofs.Patterns.{count-join, join-assoc, put_last, Taken, take_one}
use Rattle.edit_laws.proofs.Lifting.{tops-join}
use Rattle.caret_laws.proofs.Trees.{root_seen}
use Rattle.caret_laws.proofs.OtherChildren.{with_children, children_here, children_past, children_absent, children_put, children_without, children_swap, children_only}
use Rattle.caret_laws.proofs.TreesBeside.{tree_of-unlinked, tree_of-linked}

-- The trees looked like this at first. Of the children of c the first stay. Only trees of nodes outside are told, which don't stand
-- below c.
module _ (c d : ℕ) (own : Content) (off : c ≢ d) (at_first : ℕ → Forest Content) (kids : Forest Content) (top : at_first c ≡ Tree c own kids Nil) (Out : ℕ → Type 0) (out_c : Out c) (out_d : Out d) (keep : Forest Content) where
  -- now c has these children, and d has those
  abbrev pub Look : State → Forest Content → Forest Content → Type 0
  Look u ks js = (l : ℕ) → Out l → tree_of u.trees l ≡ with_children (with_children (at_first l) c ks) d js

  abbrev pub Clear : Forest Content → Type 0
  Clear ks = (l : ℕ) → Out l → count_of ks l ≡ 0

  -- the first of the nodes that go
  module _ (x : ℕ) (e : Content) (j rest js : Forest Content) (u : State) (is : IsValid u) (apart : count_of js c ≡ 0) (clear : Clear (join keep (Tree x e j rest))) (look : Look u (join keep (Tree x e j rest)) js) (first : is_made_edit (Remove x) (freed u) ≡ true) (second : is_made_edit (Insert d None x) (freed (applied (Remove x) u)) ≡ true) where
    once : IsDistinct u.trees
    once = is.forest.distinct

    among : 0 < count_of (join keep (Tree x e j rest)) x
    among = omega (arith, count-join keep (Tree x e j rest) x, self_one x)

    tree_c : tree_of u.trees c ≡ Tree c own (join keep (Tree x e j rest)) Nil
    tree_c =
        let ks = join keep (Tree x e j rest) in
        look c out_c
        ∙ (ap (λ g. with_children (with_children g c ks) d js) top
        ∙ (ap (λ g. with_children g d js) (children_here c own kids Nil c ks (eqb_refl_true c))
        ∙ (children_past c own ks Nil d js (ne_eqb c d off) ∙ ap (λ g. Tree c own g Nil) (children_absent ks d js (clear d out_d)))))

    in_tree : (l : ℕ) → count_of (join keep (Tree x e j rest)) l + cond (eqb c l) 1 0 ≤ count_of u.trees l
    in_tree l = omega (arith, total-without (λ m _. cond (eqb m l) 1 0) u.trees c, ap (λ g. count_of g l) tree_c)

    once_all : IsDistinct (join keep (Tree x e j rest))
    once_all = λ l. omega (arith, in_tree l, once l)

    taken : Taken (join keep (Tree x e j rest)) x e j (join keep rest)
    taken = take_one keep x e j rest once_all

    child : parent_of u.trees x ≡ Some c
    child =
        let kids_c : children_of u.trees c ≡ tops (join keep (Tree x e j rest)) = (root_seen u.trees c own (join keep (Tree x e j rest)) once tree_c).1 in
        parent_among u.trees once c x (subst (λ xs. 0 < times xs x) (sym kids_c) (omega (arith, tops-join keep (Tree x e j rest) x, self_one x)))

    other : c ≢ x
    other q = let none = subst (λ k. count_of (join keep (Tree x e j rest)) k ≡ 0) q (clear c out_c) in omega (arith, none, among)

    tree_x : tree_of u.trees x ≡ Tree x e j Nil
    tree_x =
        let inside : IsWithin u.trees c x = rw tree_c (omega (arith, among)) in
        sym (tree_of-inside u.trees c x once inside)
        ∙ (ap (λ g. tree_of g x) tree_c ∙ (rw (ne_eqb c x other) (join-Nil (tree_of (join keep (Tree x e j rest)) x)) ∙ taken.tree))

    clear_x : (l : ℕ) → Out l → count_of (tree_of u.trees x) l ≡ 0
    clear_x l o = ap (λ g. count_of g l) tree_x ∙ omega (arith, clear l o, count-join keep (Tree x e j rest) l)

    clear_rest : Clear (join keep rest)
    clear_rest l o = omega (arith, clear l o, count-join keep (Tree x e j rest) l, count-join keep rest l)

    -- c has its place around the one of d, or beside it
    swapped : (l : ℕ) → Out l → tree_of u.trees l ≡ with_children (with_children (at_first l) d js) c (join keep (Tree x e j rest))
    swapped l o = look l o ∙ children_swap (at_first l) c d (join keep (Tree x e j rest)) js off (clear d out_d) apart

    up : (l : ℕ) → Out l → 0 < count_of (tree_of u.trees l) x → 0 < count_of (tree_of u.trees l) c
    up l o h =
        let beside : l ≢ x = λ q. (let none = subst (λ k. count_of (join keep (Tree x e j rest)) k ≡ 0) q (clear l o) in omega (arith, none, among)) in
        within_step u.trees l once (root_there u.trees l x h) x c beside child h

    only : (l : ℕ) → Out l → count_of (with_children (with_children (at_first l) d js) c Nil) x ≡ 0
    only l o =
        let same = swapped l o in
        children_only (with_children (at_first l) d js) c (join keep (Tree x e j rest)) x
        (λ k. omega (arith, once k, total-without (λ m _. cond (eqb m k) 1 0) u.trees l, ap (λ g. count_of g k) same))
        among (λ h. subst (λ g. 0 < count_of g c) same (up l o (subst (λ g. 0 < count_of g x) (sym same) h)))

    look_taken : Look (applied (Remove x) u) (join keep rest) js
    unfolding applied with_change changed trees_after
    look_taken l o =
        tree_of-unlinked u.trees c x l once child (clear_x l o)
        ∙ (ap (λ g. without g x) (swapped l o)
        ∙ (children_without (with_children (at_first l) d js) c (join keep (Tree x e j rest)) x (only l o)
        ∙ (ap (with_children (with_children (at_first l) d js) c) taken.out ∙ sym (children_swap (at_first l) c d (join keep rest) js off (clear_rest d out_d) apart))))

    is_taken : IsValid (applied (Remove x) u)
    is_taken = valid_applied (Remove x) u is first

    can : CanPut (applied (Remove x) u).trees d None x
    unfolding is_made_edit
    can = (inserts (freed (applied (Remove x) u)) d None x second).can

    loose_x : tree_of (applied (Remove x) u).trees x ≡ Tree x e j Nil
    unfolding applied with_change changed trees_after
    loose_x = tree_of-unlink u.trees c x once child ∙ tree_x

    look_put : Look (applied (Insert d None x) (applied (Remove x) u)) (join keep rest) (join js (Tree x e j Nil))
    unfolding applied with_change changed trees_after
    look_put l o =
        let v = applied (Remove x) u in
        let now = with_children (at_first l) c (join keep rest) in
        tree_of-linked v.trees d None x l is_taken.forest.distinct can (ap (λ g. count_of g l) (loose_x ∙ sym tree_x) ∙ clear_x l o)
        ∙ (ap (λ g. put_under g d None (tree_of v.trees x)) (look_taken l o)
        ∙ (ap (put_under (with_children now d js) d None) loose_x ∙ (children_put now d js None (Tree x e j Nil) ∙ ap (with_children now d) (put_last js (Tree x e j Nil)))))

    is_put : IsValid (applied (Insert d None x) (applied (Remove x) u))
    is_put = valid_applied (Insert d None x) (applied (Remove x) u) is_taken second

    apart_put : count_of (join js (Tree x e j Nil)) c ≡ 0
    apart_put = omega (arith, apart, count-join js (Tree x e j Nil) c, clear c out_c, count-join keep (Tree x e j rest) c)

  -- and all of them
  pub look_carried : (go js : Forest Content) (u : State) → IsValid u → count_of js c ≡ 0 → Clear (join keep go) → Look u (join keep go) js → are_possible (carried d (tops go)) u ≡ true → Look (stepped_all (carried d (tops go)) u) keep (join js go)
  unfolding carried stepped_all stepped are_possible
  look_carried Nil js u is apart clear look may =
      λ l o. look l o ∙ (ap (λ ks. with_children (with_children (at_first l) c ks) d js) (join-Nil keep) ∙ ap (with_children (with_children (at_first l) c keep) d) (sym (join-Nil js)))
  look_carried (Tree x e j rest) js u is apart clear look may =
      let p1 = and_parts (is_made_edit (Remove x) (freed u)) _ may in
      let p2 = and_parts (is_made_edit (Insert d None x) (freed (applied (Remove x) u))) _ p1.1 in
      let more =
      look_carried rest (join js (Tree x e j Nil)) (applied (Insert d None x) (applied (Remove x) u))
      (is_put x e j rest js u is apart clear look p1.0 p2.0) (apart_put x e j rest js u is apart clear look p1.0 p2.0) (clear_rest x e j rest js u is apart clear look p1.0 p2.0) (look_put x e j rest js u is apart clear look p1.0 p2.0) p2.1 in
      λ l o. more l o ∙ ap (with_children (with_children (at_first l) c keep) d) (join-assoc js (Tree x e j Nil) rest)
