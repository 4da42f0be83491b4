-- A move that is made.
use Rattle.std.proofs.Common.{◌≡◌, ◌≢◌, ℕ, ◌+◌, ◌<◌, ◌≤◌, ◌^◌, Bool, true, false, true≢false, not, cond, eqb, List, [], ◌∷◌, length, Option, Some, None, IfSome, refl, sym, ap, subst, ◌∙◌, inl, inr, arith}
use Rattle.std.specs.Prelude.{◌&&◌, nat_lt, IsNone, IsSome, unwrap_or}
use Rattle.std.proofs.lemmas.Bool.Decides.{eqb_tells}
use Rattle.std.proofs.lemmas.List.{append-nil}
use Rattle.edit_model.specs.DomModel.declared.Content.{Content}
use Rattle.edit_model.specs.DomModel.Contents.{words_length}
use Rattle.edit_model.specs.DomModel.Document.{node_count, char_count, page_depth}
use Rattle.edit_model.specs.DomModel.Forest.{Forest, total, taken_from, count_of, depth_of, tree_of, parent_of, next_of, children_of, link, unlink, CanPut, IsDistinct}
use Rattle.edit_model.specs.DomModel.Places.{levels, place_in, index_of}
use Rattle.edit_model.specs.DomModel.Pruned.{pruned}
use Rattle.edit_model.specs.DomModel.ArenaState.{ArenaState as Arena, IsValid as IsArena, IsSlotted}
use Rattle.edit_model.proofs.DomModel.Links.{children_of-unlink}
use Rattle.edit_model.proofs.DomModel.Move.{tree_of-unlink}
use Rattle.edit_model.proofs.DomModel.Pruning.{children_of-pruned, IsDistinct-pruned}
use Rattle.edit_model.proofs.DomModel.Stands.{true_or_false}
use Rattle.edit_model.proofs.DomModel.Totals.{total-unlink}
use Rattle.edit_model.specs.NodeArena.declared.NodeRef.{NodeRef}
use Rattle.edit_model.specs.NodeArena.Held.{label}
use Rattle.edit_model.specs.LiveRange.declared.places.Point.{Point}
use Rattle.edit_model.specs.LiveRange.PointsEdit as range
use Rattle.edit_model.specs.LiveRange.PointsEdit.{has_label}
use Rattle.edit_model.specs.LiveRange.LivePoints.{LivePoints, Fits, mapped, labels_of}
use Rattle.edit_model.specs.PointOrder.PointOrder.{is_in_document}
use Rattle.step_edits.specs.ForestChanges.Change.{applied, inverse, Fits as ChangeFits}
use Rattle.edit_model.specs.DomModel.Change as change
use Rattle.step_edits.specs.ForestChanges.Named.{Each, listed, named}
use Rattle.step_edits.specs.ForestChanges.Down.{IsLeft}
use Rattle.step_edits.proofs.ForestChanges.DownChange.{IsForest-pruned, up as goes_up}
use Rattle.step_edits.proofs.ForestChanges.Twice.{forest_of}
use Rattle.step_edits.specs.EditSteps.declared.step.Step.{Step}
use Rattle.step_edits.specs.EditSteps.declared.step.Step.TheVariants as step
use Rattle.step_edits.specs.EditSteps.Step.{StepFits, change_of, step_applied, step_inverse}
use Rattle.edit_model.specs.declared.settings.Setting.{Setting}
use Rattle.edit_model.specs.State.{State}
use Rattle.edit_model.specs.Edit.{Move, is_made_edit, change_of as edit_change, trees_after, points_after, index_before, parent_or_0}
use Rattle.edit_model.specs.Confined.{may_move, may_go}
use Rattle.edit_model.specs.Gives.{label_of}
use Rattle.edit_model.specs.Valid.{IsForest, IsPlaced}
use Rattle.edit_model.proofs.Documents.{length_of-parent}
use Rattle.edit_model.proofs.Fitting.{fits-move}
use Rattle.edit_model.proofs.Forests.{can_go, forest-unlink, parent_at-unlink}
use Rattle.edit_model.proofs.Made.{parent_is}
use Rattle.edit_model.proofs.Tests.{Goes, goes, parent_there}
use Rattle.edit_parts.proofs.Points.{mapped_same}
use Rattle.edit_parts.specs.Following.{unset_if_range_changed, IsFrom, AreUpTo}
use Rattle.edit_parts.specs.declared.Counts.{Counts}
use Rattle.edit_doc.specs.declared.Doc.TheInside.{Inside}
use Rattle.edit_doc.specs.declared.command.Command.{Command}
use Rattle.edit_doc.specs.Fields.{comes_in, IsRaised, with_more}
use Rattle.edit_doc.specs.Whole.{Whole, IsOpen}
use Rattle.edit_doc.specs.Held.{Holds, IfHeld}
use Rattle.edit_doc.specs.Marks.{Marks, IsMarked, AreMarkable, place_labels}
use Rattle.edit_doc.specs.Trail.{Trail, with_note}
use Rattle.edit_doc.specs.Live.{live}
use Rattle.edit_doc.specs.Counted.{IsCounted}
use Rattle.edit_doc.proofs.Inner.{seen, Ok, open_of}
use Rattle.edit_doc.proofs.SeenNodes.{shows_of, out_of, held_seen, parent_seen, index_seen, tree_seen}
use Rattle.edit_doc.proofs.Rests.{arena_forest}
use Rattle.edit_doc.proofs.HiddenTrees.{lt_true}
use Rattle.edit_doc.proofs.Placing.{document_seen}
use Rattle.edit_doc.proofs.Linked.{labels_same, place_held, place_seen}
use Rattle.edit_doc.proofs.Ends.{end_index, points_up_to}
use Rattle.edit_doc.proofs.Counted.{unlinked_inside, unlinked_outside}
use Rattle.edit_doc.proofs.Inserted.{index-link, none_of, more_linked, linked_low, chars_bound, nodes_bound}
use Rattle.edit_doc.proofs.Raised.{stands_low, moved_depth}
use Rattle.edit_doc.proofs.Settling.{points_next, overrides_are as settled_after}
use Rattle.edit_doc.proofs.Changing.{Follows, run, seen_prunes}
use Rattle.edit_doc.proofs.Freely.{freed_edit}
use Rattle.edit_doc.proofs.Edited.{Makes, Done, edit_called}

-- ---- what moves leave

pub not_moved : (s : State) (n p : ℕ) (b o : Option ℕ) → parent_of s.trees n ≡ o → may_go s n o p b ≡ false → is_made_edit (Move n p b) s ≡ false
unfolding is_made_edit may_move
not_moved s n p b o up h = ap (λ q. may_go s n q p b) up ∙ h

-- where no point stands at either parent a move leaves them
pub moved_same : (s : LivePoints) (from to : Point) → has_label (labels_of s) from.label ≡ false → has_label (labels_of s) to.label ≡ false → s ≡ mapped (range.Move from to) s
moved_same s from to off off' = mapped_same (range.Move from to) s (λ x here.
    let a = apart x from.label here off in
    let b = apart x to.label here off' in
    stays (eqb from.label to.label) x a b)
  where
    apart : (x : Point) (l : ℕ) → has_label (labels_of s) x.label ≡ true → has_label (labels_of s) l ≡ false → eqb x.label l ≡ false
    apart x l here none = elim (eqb_tells x.label l) [ inl (_, e) ↦ absurd (true≢false (sym here ∙ (ap (has_label (labels_of s)) e ∙ none))) | inr (t, _) ↦ t ]

    stays : (same : Bool) (x : Point) → eqb x.label from.label ≡ false → eqb x.label to.label ≡ false →
        cond same (cond (eqb x.label from.label) (range.with_offset x (range.after_insert to.offset (range.after_removal from.offset x.offset))) x)
        (cond (eqb x.label from.label) (range.after_loss from to x) (cond (eqb x.label to.label) (range.with_offset x (range.after_insert to.offset x.offset)) x)) ≡ x
    stays true x a b = rw a refl
    stays false x a b = rw (a, b) refl

-- ---- the index after a move

unlinked_kids : (k : ℕ → Bool) (f : Forest Content) (o n p : ℕ) → IsDistinct f → parent_of f n ≡ Some o → parent_of (pruned k f) n ≡ Some o → 0 < count_of (pruned k f) p → children_of (unlink (pruned k f) n) p ≡ children_of (unlink f n) p
unlinked_kids k f o n p once up up' here =
    children_of-unlink (pruned k f) o n (IsDistinct-pruned k f once) up' p
    ∙ (ap (λ xs. cond (eqb o p) (taken_from xs n) xs) (children_of-pruned k f p once here)
    ∙ sym (children_of-unlink f o n once up p))

index_detached : (k : ℕ → Bool) (f : Forest Content) (o n p : ℕ) (b : Option ℕ) → IsDistinct f → parent_of f n ≡ Some o → parent_of (pruned k f) n ≡ Some o → 0 < count_of (pruned k f) p → index_before (unlink (pruned k f) n) p b ≡ index_before (unlink f n) p b
unfolding index_before
index_detached k f o n p None once up up' here = ap length (unlinked_kids k f o n p once up up' here)
index_detached k f o n p (Some m) once up up' here = ap (λ xs. place_in xs m) (unlinked_kids k f o n p once up up' here)

none_label : (o : Option NodeRef) → IsNone o → label o ≡ None
none_label None h = refl
none_label (Some r) h = absurd (true≢false h)

-- ---- the numbers

module _ (f : Forest Content) (next : ℕ) (is : IsForest f next) (w : ℕ → Content → ℕ) (o n p : ℕ) (b : Option ℕ) (up : parent_of f n ≡ Some o) (can : CanPut (unlink f n) p b n)
    (inside : is_in_document f n ≡ true → is_in_document f p ≡ true) (apart : count_of (tree_of f n) p ≡ 0) where
  loose : IsForest (unlink f n) next
  loose = forest-unlink f next is o n up

  tree_same : total w (tree_of (unlink f n) n) ≡ total w (tree_of f n)
  tree_same = ap (total w) (tree_of-unlink f o n is.distinct up)

  linked : with_more (is_in_document (unlink f n) p) (total w (tree_of (unlink f n) 0)) (total w (tree_of f n)) ≡ total w (tree_of (link (unlink f n) p b n) 0)
  linked = ap (with_more (is_in_document (unlink f n) p) (total w (tree_of (unlink f n) 0))) (sym tree_same) ∙ more_linked (unlink f n) next loose w p b n can

  -- whether p is in the document stays
  same_count : count_of (tree_of (unlink f n) 0) p ≡ count_of (tree_of f 0) p
  same_count = elim (true_or_false (is_in_document f n)) [
    | inl t ↦ (let e = unlinked_inside f next is (λ m _. cond (eqb m p) 1 0) o n up (lt_true 0 (count_of (tree_of f 0) n) t) in omega (arith, e, apart))
    | inr t ↦ unlinked_outside f next is (λ m _. cond (eqb m p) 1 0) o n up (none_of (count_of (tree_of f 0) n) t)
  ]

  pub in_same : is_in_document (unlink f n) p ≡ is_in_document f p
  in_same = ap (nat_lt 0) same_count

  by_case : (i j : Bool) → is_in_document f n ≡ i → is_in_document f p ≡ j → (i ≡ true → j ≡ true) → with_more (not i && j) (total w (tree_of f 0)) (total w (tree_of f n)) ≡ total w (tree_of (link (unlink f n) p b n) 0)
  by_case true true t u h =
      let e = unlinked_inside f next is w o n up (lt_true 0 (count_of (tree_of f 0) n) t) in
      let l = sym (ap (λ x. with_more x (total w (tree_of (unlink f n) 0)) (total w (tree_of f n))) (in_same ∙ u)) ∙ linked in
      omega (arith, e, l)
  by_case true false t u h = absurd (true≢false (sym (h refl)))
  by_case false true t u h =
      let e = unlinked_outside f next is w o n up (none_of (count_of (tree_of f 0) n) t) in
      let l = sym (ap (λ x. with_more x (total w (tree_of (unlink f n) 0)) (total w (tree_of f n))) (in_same ∙ u)) ∙ linked in
      omega (arith, e, l)
  by_case false false t u h =
      let e = unlinked_outside f next is w o n up (none_of (count_of (tree_of f 0) n) t) in
      let l = sym (ap (λ x. with_more x (total w (tree_of (unlink f n) 0)) (total w (tree_of f n))) (in_same ∙ u)) ∙ linked in
      omega (arith, e, l)

  pub more_moved : with_more (not (is_in_document f n) && is_in_document f p) (total w (tree_of f 0)) (total w (tree_of f n)) ≡ total w (tree_of (link (unlink f n) p b n) 0)
  more_moved = by_case (is_in_document f n) (is_in_document f p) refl refl inside

  pub moved_low : total w (tree_of (link (unlink f n) p b n) 0) ≤ total w f
  moved_low = omega (arith, linked_low (unlink f n) next loose w p b n can, total-unlink w f n)

-- ---- the command

pub moves_follow : (c c' d : Command) (node parent from : NodeRef) (before next : Option NodeRef) (f : Forest Content) → parent_of f node.label ≡ Some from.label → label next ≡ next_of f node.label →
    Marks (place_labels node from next) c c' → Marks (place_labels node parent before) c' d → Follows c d (change.Move node.label parent.label (label before)) (inverse (change.Move node.label parent.label (label before)) f)
unfolding inverse
moves_follow c c' d node parent from before next f up after m k = record {
  start = ap (λ (k : Command). k.start) k.rest ∙ ap (λ (k : Command). k.start) m.rest;
  host = ap (λ (k : Command). k.host) k.rest ∙ ap (λ (k : Command). k.host) m.rest;
  keeping = ap (λ (k : Command). k.keeping) k.rest ∙ ap (λ (k : Command). k.keeping) m.rest;
  resumed = ap (λ (k : Command). k.resumed) k.rest ∙ ap (λ (k : Command). k.resumed) m.rest;
  kept = ap (λ (k : Command). k.kept) k.rest ∙ ap (λ (k : Command). k.kept) m.rest;
  detached_before = ap (λ (k : Command). k.detached_before) k.rest ∙ ap (λ (k : Command). k.detached_before) m.rest;
  count = k.count ∙ m.count;
  stay = λ l h. k.stay l (m.stay l h);
  marked = subst (λ o. Each (IsMarked d) (node.label ∷ parent.label ∷ listed o)) (sym (labels_same before)) k.marked;
  marked_inverse = subst (λ o. Each (IsMarked d) (node.label ∷ o ∷ listed (next_of f node.label))) (sym (ap (λ q. unwrap_or q 0) up))
      (subst (λ o. Each (IsMarked d) (node.label ∷ from.label ∷ listed o)) (sym (labels_same next) ∙ after)
      (k.stay node.label m.marked.0, (k.stay from.label m.marked.1.0, stays (label_of next) m.marked.1.1)));
  only = λ l h. elim (k.only l h) [
    | inl t ↦ elim (m.only l t) [
      | inl u ↦ inl u
      | inr u ↦ inr (inr (subst (λ o. has_label (node.label ∷ o ∷ listed (next_of f node.label)) l ≡ true) (sym (ap (λ q. unwrap_or q 0) up)) (subst (λ o. has_label (node.label ∷ from.label ∷ listed o) l ≡ true) (sym (labels_same next) ∙ after) u)))
    ]
    | inr t ↦ inr (inl (subst (λ o. has_label (node.label ∷ parent.label ∷ listed o) l ≡ true) (sym (labels_same before)) t))
  ];
  more = [];
  detached = ap (λ (k : Command). k.detached.items) k.rest ∙ (ap (λ (k : Command). k.detached.items) m.rest ∙ sym (append-nil c.detached.items));
  loosed_is = refl;
}
  where
    stays : (o : Option ℕ) → Each (IsMarked c') (listed o) → Each (IsMarked d) (listed o)
    stays None h = tt
    stays (Some l) h = (k.stay l h.0, tt)

-- ---- the move

module _ (d : Inside) (v : Whole) (is : seen d ≡ v) (law : IsArena d.tree.nodes.arena) (slotted : IsSlotted d.tree.nodes.arena) (now_open : IsOpen v) (ok : Ok d) (node from parent : NodeRef) (before : Option NodeRef)
    (node_held : Holds v node) (parent_held : Holds v parent) (before_held : IfHeld v before) (up : parent_of d.tree.nodes.arena.trees node.label ≡ Some from.label) (may : may_go v.state node.label (Some from.label) parent.label (label_of before) ≡ true) where
  abbrev f : Forest Content
  f = d.tree.nodes.arena.trees

  abbrev g : Forest Content
  g = pruned (out_of d) d.tree.nodes.arena.trees

  abbrev p : ℕ
  p = parent.label

  abbrev b : Option ℕ
  b = label before

  abbrev n : ℕ
  n = node.label

  abbrev x : Step
  x = step.Move node parent before

  may_here : may_move v.state n p b ≡ true
  unfolding may_move
  may_here = ap (λ q. may_go v.state n q p b) (parent_seen (shows_of d law v is) node node_held ∙ up) ∙ subst (λ o. may_go v.state n (Some from.label) p o ≡ true) (sym (labels_same before)) may

  may_seen : may_move (seen d).state n p b ≡ true
  may_seen = subst (λ (w : Whole). may_move w.state n p b ≡ true) (sym is) may_here

  made : is_made_edit (Move n p b) v.state ≡ true
  unfolding is_made_edit
  made = may_here

  told : Goes (seen d).state n p b
  told = goes (seen d).state n p b may_seen

  node_here : Holds (seen d) node
  node_here = held_seen d v is node node_held

  up_seen : parent_of g n ≡ Some from.label
  up_seen = parent_seen (shows_of d law (seen d) refl) node node_here ∙ up

  fits_seen : ChangeFits (change.Move n p b) g
  fits_seen = record {
    forest = IsForest-pruned (out_of d) f refl (forest_of d.tree.nodes.arena law);
    here = (
      subst IsSome (sym up_seen) refl,
      record {
        place = can_go g d.tree.nodes.arena.next ok.valid.forest from.label n p b up_seen told.apart told.parent (parent_there g p told.parent) told.before;
        parent = parent_at-unlink g d.tree.nodes.arena.next ok.valid.forest from.label n p up_seen told.parent;
      },
    );
  }

  fits_here : ChangeFits (change.Move n p b) f
  fits_here = (goes_up (out_of d) (change.Move n p b) f (seen_prunes (live d.tree) d.command d.history law (open_of d v is now_open) ok) (forest_of d.tree.nodes.arena law) fits_seen).0

  can : CanPut (unlink f n) p b n
  can = fits_here.here.1.place

  apart : count_of (tree_of f n) p ≡ 0
  apart = ap (λ t. count_of t p) (sym (tree_seen (shows_of d law (seen d) refl) node node_here)) ∙ told.apart

  inside : is_in_document f n ≡ true → is_in_document f p ≡ true
  inside h = sym (document_seen (shows_of d law (seen d) refl) p) ∙ told.inside (document_seen (shows_of d law (seen d) refl) n ∙ h)

  pub fits : StepFits (step.Move node parent before) d.tree.nodes.arena
  fits = record { fits = fits_here; slotted = slotted; held = place_held d v is law slotted node parent before node_held parent_held before_held }

  seen_place : Each (IsLeft (out_of d) d.tree.nodes.arena.trees) (named (change_of x))
  seen_place = place_seen d v is law slotted node parent before node_held parent_held before_held

  -- ---- the marks

  markable : (r : NodeRef) → Holds v r → r.label < d.command.start + length d.command.named.items
  markable r h =
      let k = held_seen d v is r h in
      let low = law.below r.label (law.here r.slot r.label k.slot) in
      let marks = (run (live d.tree) d.command d.history law (open_of d v is now_open) ok).marks in
      omega (arith, low, marks)

  pub place_markable : (a c : NodeRef) (o : Option NodeRef) → Holds v a → Holds v c → IfHeld v o → AreMarkable d.command (place_labels a c o)
  place_markable a c None h k l = (markable a h, (markable c k, tt))
  place_markable a c (Some r) h k l = (markable a h, (markable c k, (markable r l, tt)))

  pub markable_after : (c : Command) (ls ms : List ℕ) → Marks ms d.command c → AreMarkable d.command ls → AreMarkable c ls
  markable_after c ls ms m h =
      let s : c.start ≡ d.command.start = ap (λ (k : Command). k.start) m.rest in
      subst (λ k. Each (λ l. l < k) ls) (let e = m.count in omega (arith, s, e)) h

  -- ---- the numbers

  module _ (enters : Bool) (enters_is : enters ≡ (not (is_in_document f n) && is_in_document f p)) where
    nodes_is : with_more enters d.tree.nodes.counts.nodes (total (λ _ _. 1) (tree_of f n)) ≡ node_count (link (unlink f n) p b n)
    nodes_is = (λ i. with_more (enters_is i) (d.tree.nodes.counted.nodes i) (total (λ _ _. 1) (tree_of f n))) ∙ more_moved f d.tree.nodes.arena.next (arena_forest d.tree.nodes.arena law) (λ _ _. 1) from.label n p b up can inside apart

    chars_is : with_more enters d.tree.nodes.counts.chars (total (λ _ c. words_length c) (tree_of f n)) ≡ char_count (link (unlink f n) p b n)
    chars_is = (λ i. with_more (enters_is i) (d.tree.nodes.counted.chars i) (total (λ _ c. words_length c) (tree_of f n))) ∙ more_moved f d.tree.nodes.arena.next (arena_forest d.tree.nodes.arena law) (λ _ c. words_length c) from.label n p b up can inside apart

    pub nodes_fit : with_more enters d.tree.nodes.counts.nodes (total (λ _ _. 1) (tree_of f n)) < 2 ^ 32
    nodes_fit = omega (arith, nodes_is, moved_low f d.tree.nodes.arena.next (arena_forest d.tree.nodes.arena law) (λ _ _. 1) from.label n p b up can inside apart, nodes_bound d.tree.nodes.arena law)

    pub chars_fit : with_more enters d.tree.nodes.counts.chars (total (λ _ c. words_length c) (tree_of f n)) < 2 ^ 64
    chars_fit = omega (arith, chars_is, moved_low f d.tree.nodes.arena.next (arena_forest d.tree.nodes.arena law) (λ _ c. words_length c) from.label n p b up can inside apart, chars_bound d.tree.nodes.arena law)

  -- how deep the tree is where it stands in the document
  pub stands : is_in_document f n ≡ true → levels (tree_of f n) + depth_of f n ≤ d.tree.nodes.counts.depth + 1
  stands t = omega (arith, stands_low f d.tree.nodes.arena.next (arena_forest d.tree.nodes.arena law) n t, d.tree.nodes.counted.depth)

  depth_is : (new : ℕ) → IsRaised f p n (is_in_document f p) d.tree.nodes.counts.depth new → page_depth (link (unlink f n) p b n) ≤ new
  depth_is new raised =
      let few = moved_low f d.tree.nodes.arena.next (arena_forest d.tree.nodes.arena law) (λ _ _. 1) from.label n p b up can inside apart in
      moved_depth f d.tree.nodes.arena.next (arena_forest d.tree.nodes.arena law) from.label n p b up can (in_same f d.tree.nodes.arena.next (arena_forest d.tree.nodes.arena law) (λ _ _. 1) from.label n p b up can inside apart)
      d.tree.nodes.counts.depth new d.tree.nodes.counted.depth raised (omega (arith, few, nodes_bound d.tree.nodes.arena law))

  pub counted_moved : (counts : Counts) → counts.nodes ≡ with_more (comes_in f n p) d.tree.nodes.counts.nodes (total (λ _ _. 1) (tree_of f n)) → counts.chars ≡ with_more (comes_in f n p) d.tree.nodes.counts.chars (total (λ _ c. words_length c) (tree_of f n)) →
      IsRaised f p n (is_in_document f p) d.tree.nodes.counts.depth counts.depth → IsCounted (step_applied x d.tree.nodes.arena).trees counts
  unfolding step_applied applied
  counted_moved counts nodes chars raised = record { nodes = nodes ∙ nodes_is (comes_in f n p) refl; chars = chars ∙ chars_is (comes_in f n p) refl; depth = depth_is counts.depth raised }

  -- ---- the points

  trees_is : applied (change_of x) g ≡ trees_after (Move n p b) g
  unfolding applied trees_after
  trees_is = refl

  abbrev start_at : Point
  start_at = record { label = parent_or_0 g n; offset = index_of g n }

  abbrev end_at : Point
  end_at = record { label = p; offset = index_before (unlink g n) p b }

  points_is : mapped (range.Move start_at end_at) d.tree.points ≡ points_after (Move n p b) g d.tree.points
  unfolding points_after
  points_is = refl

  fit_here : Fits (range.Move start_at end_at) d.tree.points
  fit_here = fits-move (seen d).state n p b ok.valid (omega (arith, law.capped, law.small)) may_seen

  index_is : index_of (link (unlink f n) p b n) n ≡ index_before (unlink g n) p b
  index_is = index-link (unlink f n) p b n (forest-unlink f d.tree.nodes.arena.next (arena_forest d.tree.nodes.arena law) from.label n up).distinct can ∙ sym (index_detached (out_of d) f from.label n p b law.distinct up up_seen (held_seen d v is parent parent_held).here)

  start_label : from.label ≡ parent_or_0 g n
  start_label = sym (parent_is g from.label n up_seen)

  start_index : index_of f n ≡ index_of g n
  start_index = sym (index_seen (shows_of d law (seen d) refl) node node_here)

  module _ (arena : Arena) (arena_is : arena ≡ step_applied (step.Move node parent before) d.tree.nodes.arena) where
    trees_here : arena.trees ≡ link (unlink f n) p b n
    unfolding step_applied applied
    trees_here = ap (λ (a : Arena). a.trees) arena_is

    index_here : index_of arena.trees n ≡ index_before (unlink g n) p b
    index_here = ap (λ t. index_of t n) trees_here ∙ index_is

    pub held_here : d.tree.nodes.arena.held ≡ arena.held
    unfolding step_applied
    held_here = sym (ap (λ (a : Arena). a.held) arena_is)

    abbrev to : Point
    to = record { label = p; offset = index_of arena.trees n }

    same_move : (at : Point) → at.label ≡ from.label → at.offset ≡ index_of f n → range.Move at to ≡ range.Move start_at end_at
    same_move at e k = λ i. range.Move (record { label = (e ∙ start_label) i; offset = (k ∙ start_index) i }) (record { label = p; offset = index_here i })

    pub points_fit : (place : Option Point) → IsFrom f d.tree.points n from.label p place → IfSome place (λ at. Fits (range.Move at (record { label = p; offset = index_of arena.trees n })) d.tree.points)
    points_fit None h = tt
    points_fit (Some at) h = subst (λ m. Fits m d.tree.points) (sym (same_move at h.0 h.1)) fit_here

    -- at the end of another parent no point lies past the place
    pub up_to_end : (place : Option Point) → IsFrom f d.tree.points n from.label p place → IsNone before → IfSome place (λ at. at.label ≢ p → AreUpTo p (index_of arena.trees n) d.tree.points)
    up_to_end None h ends = tt
    up_to_end (Some at) h ends = λ off.
        points_up_to g p (index_of arena.trees n)
        (length_of-parent g p told.parent ∙ sym (index_here ∙ end_index g from.label n p b ok.valid.forest.distinct up_seen (λ e. off (h.0 ∙ e)) (none_label before ends)))
        d.tree.points ok.valid.placed

    module _ (points : LivePoints) (place : Option Point) (place_is : IsFrom f d.tree.points n from.label p place)
        (moved : IfSome place (λ at. points ≡ mapped (range.Move at (record { label = p; offset = index_of arena.trees n })) d.tree.points)) (none : IsNone place → points ≡ d.tree.points) where
      points_moved : points ≡ mapped (range.Move start_at end_at) d.tree.points
      points_moved = by_place place place_is moved none
        where
          by_place : (o : Option Point) → IsFrom f d.tree.points n from.label p o → IfSome o (λ at. points ≡ mapped (range.Move at to) d.tree.points) → (IsNone o → points ≡ d.tree.points) → points ≡ mapped (range.Move start_at end_at) d.tree.points
          by_place None h m k = k refl ∙ moved_same d.tree.points start_at end_at (ap (has_label (labels_of d.tree.points)) (sym start_label) ∙ h.0) h.1
          by_place (Some at) h m k = m ∙ ap (λ e. mapped e d.tree.points) (same_move at h.0 h.1)

      points_here : points ≡ points_after (Move n p b) g d.tree.points
      points_here = points_moved ∙ points_is

      pub placed : IsPlaced arena.trees points
      unfolding applied
      placed = subst (λ t. IsPlaced t points) (sym trees_here) (subst (IsPlaced (link (unlink f n) p b n)) (sym points_here) (points_next d v is law now_open ok (Move n p b) x fits seen_place (freed_edit (Move n p b) v.state made) trees_is))

      module _ (overrides : List Setting) (overrides_are : overrides ≡ unset_if_range_changed f d.tree.points arena.trees points d.tree.overrides)
          (next : Option NodeRef) (next_is : label next ≡ next_of f n) (mid c : Command) (m : Marks (place_labels node from next) d.command mid) (k : Marks (place_labels node parent before) mid c) (trail : Trail) (trail_is : trail ≡ with_note d.history (step_inverse x d.tree.nodes.arena)) where
        makes : Makes d (Move n p b) x points overrides c
        unfolding applied edit_change
        makes = record {
          fits = fits;
          seen = seen_place;
          follows = moves_follow d.command mid c node parent from before next f up next_is m k;
          names = ap (λ (s : LivePoints). s.names) points_moved;
          change = refl;
          trees = trees_is;
          points_are = points_here;
          overrides_are = overrides_are ∙ ((λ i. unset_if_range_changed f d.tree.points (trees_here i) (points_here i) d.tree.overrides) ∙ settled_after d v is law now_open ok (Move n p b) x fits seen_place (freed_edit (Move n p b) v.state made) trees_is);
        }

        pub move_done : Done d v (Move n p (label_of before)) arena points overrides c trail
        move_done = subst (λ o. Done d v (Move n p o) arena points overrides c trail) (labels_same before) (edit_called d v is law now_open ok (Move n p b) x points overrides c made makes arena trail arena_is trail_is)
