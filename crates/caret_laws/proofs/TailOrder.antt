-- Extracting a tail keeps the order of what the document bears, where the target stands just after the node and bears nothing.
use Rattle.std.proofs.Common.{◌≡◌, ◌≢◌, ℕ, ◌+◌, ◌<◌, true, false, cond, eqb, List, [], ◌++◌, Option, Some, None, refl, sym, ap, subst, ◌∙◌, inl, inr, arith, append_assoc}
use Rattle.std.specs.Option.{option_map_or, option_and_then}
use Rattle.std.specs.Prelude.{unwrap_or, codes}
use Rattle.std.proofs.lemmas.Bool.{eqb-false}
use Rattle.std.proofs.lemmas.List.{append-nil}
use Rattle.edit_model.specs.DomModel.declared.Content.{Content}
use Rattle.edit_model.specs.DomModel.declared.Content.TheVariants.{Element}
use Rattle.edit_model.specs.DomModel.AttributeList.{unset_in}
use Rattle.edit_model.specs.DomModel.Contents.{name_of, attributes_of}
use Rattle.edit_model.specs.DomModel.Forest.{Forest, Seen, join, tops, first_in, after_in, count_of, tree_of, parent_of, children_of, next_of, IsDistinct, IsWithin}
use Rattle.edit_model.specs.DomModel.Forest.Forest.{Nil, Tree}
use Rattle.edit_model.specs.DomModel.Places.{rest_in}
use Rattle.edit_model.proofs.DomModel.Totals.{total-without}
use Rattle.edit_model.proofs.DomModel.Links.{parent_count, eqb_refl_true}
use Rattle.edit_model.proofs.DomModel.Move.{parent_apart}
use Rattle.edit_model.proofs.DomModel.Within.{within_self, within_child, within_root}
use Rattle.edit_model.specs.LiveRange.declared.places.Point.{Point}
use Rattle.edit_model.specs.State.{State}
use Rattle.edit_model.specs.Kept.{borne_by, leaves, is_thing}
use Rattle.edit_model.specs.Tail.{copy_of, document_size}
use Rattle.edit_model.specs.Action.{stepped_all, tail_of, may_extract, extracted}
use Rattle.edit_model.specs.History.{document_of}
use Rattle.edit_model.specs.Valid.{IsValid}
use Rattle.edit_model.proofs.Documents.{within_above}
use Rattle.edit_model.proofs.TailPossible.{tail_possible}
use Rattle.edit_model.proofs.TailSteps.{Extracts, extract_tests, either_extracted}
use Rattle.edit_model.proofs.Trees.{none_or_some, tree_of-inside}
use Rattle.edit_laws.proofs.Around.{Spot, fill, off_by, self_one, spot_as, spot_count, spot_distinct, spot_tree, spot_leaves}
use Rattle.edit_laws.proofs.Leaves.{leaves-Nil, leaves-Tree, leaves-join}
use Rattle.edit_laws.proofs.Lifting.{node_found}
use Rattle.edit_laws.proofs.MoveLaws.{headed_first}
use Rattle.edit_laws.proofs.Patterns.{count-join, join-assoc, take_one}
use Rattle.edit_laws.proofs.ReversedBefore.{next_is}
use Rattle.edit_laws.proofs.Seats.{Headed, Seat, seat}
use Rattle.edit_laws.proofs.Slides.{document_distinct}
use Rattle.caret_laws.specs.TailLaws.{is_thing_at, AmidNoThing}
use Rattle.caret_laws.proofs.OtherChildren.{with_children, children_here, children_past, children_absent, children_join, children_fill}
use Rattle.caret_laws.proofs.TailCuts.{Begins, Cut, cut_off}

no_tops : (f : Forest Content) → tops f ≡ [] → f ≡ Nil
no_tops Nil e = refl
no_tops (Tree m c ks rest) e = absurd (let e' = e in cc)

-- a copy bears nothing itself, where what is copied is no image and no rule
copy_bare : (f : Forest Content) (k n : ℕ) → is_thing_at f k ≡ false → borne_by n (copy_of f k) ≡ []
unfolding borne_by copy_of
copy_bare f k n plain = by_name (name_of f k) plain
  where
    by_name : (o : Option (List ℕ)) → option_map_or is_thing o false ≡ false → borne_by n (Element (unwrap_or o []) (unset_in (unwrap_or (attributes_of f k) []) (codes "id"))) ≡ []
    by_name None e = refl
    by_name (Some name) e = rw e refl

module _ (s : State) (is : IsValid s) (from : Point) (end target : ℕ) (may : may_extract s from end target ≡ true) (empty : children_of s.trees target ≡ []) (none : leaves (tree_of s.trees target) ≡ []) (amid : AmidNoThing s end from.label) where
  tests : Extracts s from end target
  tests = extract_tests s from end target may

  once : IsDistinct s.trees
  once = is.forest.distinct

  once_document : IsDistinct (tree_of s.trees 0)
  once_document = document_distinct s.trees once

  module _ (q : ℕ) (up : parent_of s.trees end ≡ Some q) (pre : Forest Content) (own : Content) (ks : Forest Content) (other : Content) (post : Forest Content) (spot : Spot (tree_of s.trees 0) q (join pre (Tree end own ks (Tree target other Nil post)))) where
    abbrev kids : Forest Content
    kids = join pre (Tree end own ks (Tree target other Nil post))

    end_known : 0 < count_of s.trees end
    end_known = (parent_count s.trees end q once up).0

    once_kids : IsDistinct (join pre (Tree end own ks (Tree target other Nil post)))
    once_kids = spot_distinct (tree_of s.trees 0) once_document q kids spot

    counted : (l : ℕ) → count_of (join pre (Tree end own ks (Tree target other Nil post))) l ≡ count_of pre l + (cond (eqb end l) 1 0 + (count_of ks l + (cond (eqb target l) 1 0 + (0 + count_of post l))))
    counted l = count-join pre (Tree end own ks (Tree target other Nil post)) l

    tree_end : tree_of s.trees end ≡ Tree end own ks Nil
    tree_end =
        sym (tree_of-inside s.trees 0 end once tests.end_inside)
        ∙ (spot_tree (tree_of s.trees 0) once_document q kids spot end (omega (arith, counted end, self_one end))
        ∙ (take_one pre end own ks (Tree target other Nil post) once_kids).tree)

    tree_target : tree_of s.trees target ≡ Tree target other Nil Nil
    tree_target =
        let same : join (join pre (Tree end own ks Nil)) (Tree target other Nil post) ≡ kids = join-assoc pre (Tree end own ks Nil) (Tree target other Nil post) in
        sym (tree_of-inside s.trees 0 target once tests.inside)
        ∙ (spot_tree (tree_of s.trees 0) once_document q kids spot target (omega (arith, counted target, self_one target))
        ∙ (ap (λ g. tree_of g target) (sym same) ∙ (take_one (join pre (Tree end own ks Nil)) target other Nil post (subst IsDistinct (sym same) once_kids)).tree))

    bare_target : borne_by target other ≡ []
    bare_target =
        sym (append-nil (borne_by target other))
        ∙ (ap (λ x. borne_by target other ++ (x ++ x)) (sym leaves-Nil)
        ∙ (sym (leaves-Tree target other Nil Nil) ∙ (ap leaves (sym tree_target) ∙ none)))

    end_off_target : eqb end target ≡ false
    end_off_target = off_by end target (omega (arith, once_kids target, counted target, self_one target))

    out : count_of ks target ≡ 0
    out = omega (arith, once_kids target, counted target, self_one target)

    down : (c k : ℕ) → IsWithin s.trees end c → parent_of s.trees k ≡ Some c → IsWithin s.trees k from.label → IsWithin s.trees end k
    down c k path child held = within_child s.trees end once end_known k c child path

    bare : (c k n : ℕ) → IsWithin s.trees end c → parent_of s.trees k ≡ Some c → IsWithin s.trees k from.label → borne_by n (copy_of s.trees k) ≡ []
    bare c k n path child held =
        copy_bare s.trees k n
        (amid k (down c k path child held) (λ e. parent_apart s.trees k c once child (subst (λ j. IsWithin s.trees j c) (sym e) path)) held)

    begins : Begins s.trees once is.forest.nodes from (λ c. IsWithin s.trees end c) down bare end target own ks other Nil s
    begins = record {
      valid = is;
      path = within_self s.trees end once end_known;
      at_first = tree_end;
      here = tree_end;
      there = tree_target;
      off = eqb-false end target end_off_target;
      out = out;
      apart = refl;
    }

    cut : Cut s.trees once is.forest.nodes from (λ c. IsWithin s.trees end c) down bare end target ks Nil s (stepped_all (tail_of s from end target) s)
    unfolding tail_of
    cut = cut_off s.trees once is.forest.nodes from (λ c. IsWithin s.trees end c) down bare (document_size s.trees) end target own ks other Nil s begins (tail_possible s is from end target may)

    abbrev others : Forest Content
    others = join pre (Tree end own cut.keep (Tree target other cut.go post))

    -- the root of the document isn't below the node
    root_out : count_of ks 0 ≡ 0
    root_out = elim (none_or_some (count_of ks 0)) [
      | inl out ↦ out
      | inr some ↦ absurd (
          let off : end ≢ 0 = λ e. (let t : Some q ≡ None = sym up ∙ (ap (parent_of s.trees) e ∙ is.forest.root) in cc) in
          within_root s.trees end once end_known 0 off is.forest.root (rw tree_end (omega (arith, some))))
    ]

    -- other children of a node below q
    at_spot : (g : Forest Content) (p : ℕ) (new : Forest Content) → 0 < count_of (join pre (Tree end own ks (Tree target other Nil post))) p → with_children (fill spot.around (Tree q spot.content g spot.rest)) p new ≡ fill spot.around (Tree q spot.content (with_children g p new) spot.rest)
    at_spot g p new some =
        let few = spot_count (tree_of s.trees 0) once_document q kids spot p in
        children_fill spot.around (Tree q spot.content g spot.rest) p new (omega (arith, few, some))
        ∙ ap (fill spot.around)
        (children_past q spot.content g spot.rest p new (off_by q p (omega (arith, few, some)))
        ∙ ap (Tree q spot.content (with_children g p new)) (children_absent spot.rest p new (omega (arith, few, some))))

    cut_end : with_children (join pre (Tree end own ks (Tree target other Nil post))) end cut.keep ≡ join pre (Tree end own cut.keep (Tree target other Nil post))
    cut_end =
        children_join pre (Tree end own ks (Tree target other Nil post)) end cut.keep (omega (arith, once_kids end, counted end, self_one end))
        ∙ ap (join pre) (children_here end own ks (Tree target other Nil post) end cut.keep (eqb_refl_true end))

    filled : with_children (join pre (Tree end own cut.keep (Tree target other Nil post))) target cut.go ≡ join pre (Tree end own cut.keep (Tree target other cut.go post))
    filled =
        let low : target < s.next = is.forest.below target (omega (arith, total-without (λ m _. cond (eqb m target) 1 0) s.trees 0, tests.inside)) in
        let none_kept : count_of cut.keep target ≡ 0 = omega (arith, cut.counts target low, out) in
        children_join pre (Tree end own cut.keep (Tree target other Nil post)) target cut.go (omega (arith, once_kids target, counted target, self_one target))
        ∙ ap (join pre)
        (children_past end own cut.keep (Tree target other Nil post) target cut.go end_off_target
        ∙ (ap (λ g. Tree end own g (with_children (Tree target other Nil post) target cut.go)) (children_absent cut.keep target cut.go none_kept)
        ∙ ap (Tree end own cut.keep) (children_here target other Nil post target cut.go (eqb_refl_true target))))

    now : tree_of (stepped_all (tail_of s from end target) s).trees 0 ≡ fill spot.around (Tree q spot.content (join pre (Tree end own cut.keep (Tree target other cut.go post))) spot.rest)
    now =
        cut.trees 0 root_out (is.forest.below 0 is.forest.document)
        ∙ (ap (λ g. with_children (with_children g end cut.keep) target cut.go) spot.is
        ∙ (ap (λ g. with_children g target cut.go) (at_spot kids end cut.keep (omega (arith, counted end, self_one end)) ∙ ap (λ g. fill spot.around (Tree q spot.content g spot.rest)) cut_end)
        ∙ (at_spot (join pre (Tree end own cut.keep (Tree target other Nil post))) target cut.go (omega (arith, counted target, self_one target))
        ∙ ap (λ g. fill spot.around (Tree q spot.content g spot.rest)) filled)))

    target_leaves : (g : Forest Content) → leaves (Tree target other g post) ≡ leaves g ++ leaves post
    target_leaves g = leaves-Tree target other g post ∙ ap (λ x. x ++ (leaves g ++ leaves post)) bare_target

    parted : leaves (Tree end own cut.keep (Tree target other cut.go post)) ≡ leaves (Tree end own ks (Tree target other Nil post))
    parted =
        leaves-Tree end own cut.keep (Tree target other cut.go post)
        ∙ (ap (λ x. borne_by end own ++ x) (ap (λ x. leaves cut.keep ++ x) (target_leaves cut.go) ∙ (sym (append_assoc (leaves cut.keep) (leaves cut.go) (leaves post)) ∙ ap (λ x. x ++ leaves post) cut.order))
        ∙ sym (leaves-Tree end own ks (Tree target other Nil post) ∙ ap (λ x. borne_by end own ++ (leaves ks ++ x)) (target_leaves Nil ∙ ap (λ x. x ++ leaves post) leaves-Nil)))

    pub ordered : leaves (tree_of (stepped_all (tail_of s from end target) s).trees 0) ≡ leaves (tree_of s.trees 0)
    ordered =
        spot_leaves (tree_of s.trees 0) (tree_of (stepped_all (tail_of s from end target) s).trees 0) q kids others spot now
        (leaves-join pre (Tree end own cut.keep (Tree target other cut.go post)) ∙ (ap (λ x. leaves pre ++ x) parted ∙ sym (leaves-join pre (Tree end own ks (Tree target other Nil post)))))

  -- ---- by look-ups

  -- the children of the target, by its place after the node
  target_kids : (q : ℕ) (pre : Forest Content) (own : Content) (ks : Forest Content) (other : Content) (js post : Forest Content) → Spot (tree_of s.trees 0) q (join pre (Tree end own ks (Tree target other js post))) → children_of s.trees target ≡ tops js
  target_kids q pre own ks other js post spot =
      let front = join pre (Tree end own ks Nil) in
      let deeper = spot_as (tree_of s.trees 0) q (join pre (Tree end own ks (Tree target other js post))) (join front (Tree target other js post)) (sym (join-assoc pre (Tree end own ks Nil) (Tree target other js post))) spot in
      ap (λ (k : Option (Seen Content)). option_map_or (λ (y : Seen Content). y.children) k []) (node_found s is q front target other js post deeper)

  -- so it has no children there
  target_spot : (q : ℕ) (pre : Forest Content) (own : Content) (ks : Forest Content) (other : Content) (js post : Forest Content) → Spot (tree_of s.trees 0) q (join pre (Tree end own ks (Tree target other js post))) → Spot (tree_of s.trees 0) q (join pre (Tree end own ks (Tree target other Nil post)))
  target_spot q pre own ks other js post spot =
      let none = no_tops js (sym (target_kids q pre own ks other js post spot) ∙ empty) in
      spot_as (tree_of s.trees 0) q (join pre (Tree end own ks (Tree target other js post))) (join pre (Tree end own ks (Tree target other Nil post))) (ap (λ g. join pre (Tree end own ks (Tree target other g post))) none) spot

  seated : (q : ℕ) → parent_of s.trees end ≡ Some q → next_of s.trees end ≡ Some target → leaves (tree_of (stepped_all (tail_of s from end target) s).trees 0) ≡ leaves (tree_of s.trees 0)
  seated q up next =
      let w : Seat s end q = seat s is end q up (within_above s.trees s.next is.forest q end up tests.end_inside) in
      let after : first_in (tops w.post) ≡ Some target = sym (next_is s is q w.pre end w.content w.kids w.post w.spot) ∙ next in
      by_head w (headed_first w.post target after)
    where
      by_head : (w : Seat s end q) → Headed w.post target (tops (rest_in w.post)) → leaves (tree_of (stepped_all (tail_of s from end target) s).trees 0) ≡ leaves (tree_of s.trees 0)
      by_head w h =
          let whole = λ (g : Forest Content). join w.pre (Tree end w.content w.kids g) in
          ordered q up w.pre w.content w.kids h.content h.post
          (target_spot q w.pre w.content w.kids h.content h.kids h.post (spot_as (tree_of s.trees 0) q (whole w.post) (whole (Tree target h.content h.kids h.post)) (ap whole h.is) w.spot))

  pub steps_ordered : next_of s.trees end ≡ Some target → leaves (tree_of (stepped_all (tail_of s from end target) s).trees 0) ≡ leaves (tree_of s.trees 0)
  steps_ordered next = by_parent (parent_of s.trees end) refl
    where
      by_parent : (o : Option ℕ) → parent_of s.trees end ≡ o → leaves (tree_of (stepped_all (tail_of s from end target) s).trees 0) ≡ leaves (tree_of s.trees 0)
      by_parent None root = absurd (let t : None ≡ Some target = sym (ap (λ p. option_and_then (λ k. after_in (children_of s.trees k) end) p) root) ∙ next in cc)
      by_parent (Some q) up = seated q up next

pub tails_ordered : (s : State) (from : Point) (end target : ℕ) → IsValid s → may_extract s from end target ≡ true → next_of s.trees end ≡ Some target → children_of s.trees target ≡ [] → leaves (tree_of s.trees target) ≡ [] → AmidNoThing s end from.label
    → leaves (document_of (extracted from end target s).trees) ≡ leaves (document_of s.trees)
tails_ordered s from end target is may next empty none amid =
    either_extracted (λ t. leaves (document_of t.trees) ≡ leaves (document_of s.trees)) from end target s
    (λ _. steps_ordered s is from end target may empty none amid next) refl
