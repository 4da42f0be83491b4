-- An edit that removes a tree, which becomes loose.
use Rattle.edit_model.specs.LiveRange.PointsEdit.{has_label}
use Rattle.std.proofs.Common.{◌≡◌, ℕ, zero, suc, ◌+◌, ◌<◌, ◌≤◌, true, false, List, [], ◌∷◌, ◌++◌, length, Option, Some, None, refl, sym, ap, subst, ◌∙◌, arith, inl, inr}
use Rattle.std.specs.Prelude.{IsSome, unwrap_or}
use Rattle.edit_model.specs.DomModel.declared.Content.{Content}
use Rattle.edit_model.specs.DomModel.Document.{node_count, char_count, page_depth}
use Rattle.edit_model.specs.DomModel.Forest.{Forest, preorder, tree_of, parent_of, next_of, unlink}
use Rattle.edit_model.specs.DomModel.Places.{index_of}
use Rattle.edit_model.specs.DomModel.Pruned.{pruned}
use Rattle.edit_model.specs.DomModel.ArenaState.{ArenaState as Arena, IsValid as IsArena, IsSlotted}
use Rattle.edit_model.proofs.DomModel.Pruning.{count_of-pruned, parent_of-pruned, tree_of-pruned}
use Rattle.edit_model.specs.NodeArena.declared.NodeRef.{NodeRef}
use Rattle.edit_model.specs.LiveRange.PointsEdit as range
use Rattle.edit_model.specs.LiveRange.LivePoints.{LivePoints, mapped}
use Rattle.step_edits.specs.ForestChanges.Change.{applied, inverse}
use Rattle.edit_model.specs.DomModel.Change as change
use Rattle.step_edits.specs.ForestChanges.Named.{Each, named, listed}
use Rattle.step_edits.specs.ForestChanges.Down.{IsLeft}
use Rattle.step_edits.proofs.ForestChanges.Twice.{forest_of}
use Rattle.step_edits.specs.EditSteps.declared.step.Step.TheVariants as step
use Rattle.step_edits.specs.EditSteps.Step.{StepFits, change_of, step_applied, step_inverse}
use Rattle.edit_model.specs.declared.settings.Setting.{Setting}
use Rattle.edit_model.specs.Edit.{Remove, is_made_edit, change_of as edit_change, trees_after, points_after}
use Rattle.edit_model.specs.Confined.{may_leave, may_remove}
use Rattle.edit_model.specs.State.{State}
use Rattle.edit_model.specs.Possible.{freed}
use Rattle.edit_model.specs.Gives.{label_of}
use Rattle.edit_parts.specs.declared.Counts.{Counts}
use Rattle.edit_doc.specs.declared.Doc.TheInside.{Inside}
use Rattle.edit_doc.specs.declared.command.Command.{Command}
use Rattle.edit_doc.specs.Whole.{Whole, IsOpen}
use Rattle.edit_doc.specs.Held.{Holds, IfHeld}
use Rattle.edit_doc.specs.Marks.{Marks, IsMarked, AreMarkable, place_labels, has_named}
use Rattle.edit_doc.specs.Trail.{Trail, with_note}
use Rattle.edit_doc.specs.Live.{live}
use Rattle.edit_doc.specs.Counted.{IsCounted}
use Rattle.edit_doc.proofs.Changing.{Follows, run}
use Rattle.edit_doc.proofs.Edited.{Makes, Applied, edit_linked}
use Rattle.edit_doc.proofs.Inner.{seen, Ok, open_of}
use Rattle.edit_doc.proofs.SeenLookUps.{index_detached}
use Rattle.edit_doc.proofs.Rests.{arena_forest}
use Rattle.edit_doc.proofs.Raised.{unlinked_depth}
use Rattle.edit_doc.proofs.SeenNodes.{shows_of, out_of, held_seen, parent_seen}
use Rattle.edit_doc.proofs.Settling.{overrides_next, overrides_are}

-- the tree of n was detached, which stood under p before o
follows : (c b d : Command) (node parent : NodeRef) (o : Option NodeRef) (f : Forest Content) → record b { detached = c.detached } ≡ c → b.detached.items ≡ c.detached.items ++ node ∷ [] →
    parent_of f node.label ≡ Some parent.label → label_of o ≡ next_of f node.label → Marks (place_labels node parent o) b d → Follows c d (change.Remove node.label) (inverse (change.Remove node.label) f)
unfolding inverse
follows c b d node parent o f same detached up next m = record {
  start = ap (λ (k : Command). k.start) m.rest ∙ ap (λ (k : Command). k.start) same;
  host = ap (λ (k : Command). k.host) m.rest ∙ ap (λ (k : Command). k.host) same;
  keeping = ap (λ (k : Command). k.keeping) m.rest ∙ ap (λ (k : Command). k.keeping) same;
  resumed = ap (λ (k : Command). k.resumed) m.rest ∙ ap (λ (k : Command). k.resumed) same;
  kept = ap (λ (k : Command). k.kept) m.rest ∙ ap (λ (k : Command). k.kept) same;
  detached_before = ap (λ (k : Command). k.detached_before) m.rest ∙ ap (λ (k : Command). k.detached_before) same;
  count = m.count ∙ ap (λ (k : Command). length k.named.items) same;
  stay = λ l h. m.stay l (subst (λ k. IsMarked k l) (sym same) h);
  marked = (m.marked.0, tt);
  marked_inverse = subst (λ q. Each (IsMarked d) (node.label ∷ unwrap_or q 0 ∷ listed (next_of f node.label))) (sym up) (subst (λ q. Each (IsMarked d) (node.label ∷ parent.label ∷ listed q)) next m.marked);
  only = λ l h. elim (m.only l h) [
    | inl t ↦ inl (subst (λ k. has_named k l ≡ true) same t)
    | inr t ↦ inr (inr (subst (λ q. has_label (node.label ∷ unwrap_or q 0 ∷ listed (next_of f node.label)) l ≡ true) (sym up) (subst (λ q. has_label (node.label ∷ parent.label ∷ listed q) l ≡ true) next t)))
  ];
  more = node ∷ [];
  detached = ap (λ (k : Command). k.detached.items) m.rest ∙ detached;
  loosed_is = refl;
}

module _ (d : Inside) (law : IsArena d.tree.nodes.arena) (v : Whole) (is : seen d ≡ v) (now_open : IsOpen v) (ok : Ok d) where
  markable : (r : NodeRef) → Holds v r → r.label < d.command.start + length d.command.named.items
  markable r h =
      let here = (held_seen d v is r h).here in
      let below = law.below r.label (omega (arith, here, count_of-pruned (out_of d) d.tree.nodes.arena.trees r.label)) in
      let marks = (run (live d.tree) d.command d.history law (open_of d v is now_open) ok).marks in
      omega (arith, below, marks)

  pub place_markable : (node parent : NodeRef) (o : Option NodeRef) → Holds v node → Holds v parent → IfHeld v o → AreMarkable d.command (place_labels node parent o)
  place_markable node parent None hn hp ho = (markable node hn, (markable parent hp, tt))
  place_markable node parent (Some r) hn hp ho = (markable node hn, (markable parent hp, (markable r ho, tt)))

pub not_remove_root : (s : State) (n : ℕ) → parent_of s.trees n ≡ None → is_made_edit (Remove n) s ≡ false
unfolding is_made_edit may_remove
not_remove_root s n none = rw none refl

pub not_remove_here : (s : State) (n p : ℕ) → parent_of s.trees n ≡ Some p → may_leave s n (Some p) ≡ false → is_made_edit (Remove n) s ≡ false
unfolding is_made_edit may_remove
not_remove_here s n p up off = ap (may_leave s n) up ∙ off

pub may_remove_here : (s : State) (n p : ℕ) → parent_of s.trees n ≡ Some p → may_leave s n (Some p) ≡ true → is_made_edit (Remove n) s ≡ true
unfolding is_made_edit may_remove
may_remove_here s n p up may = ap (may_leave s n) up ∙ may

module _ (d : Inside) (law : IsArena d.tree.nodes.arena) (v : Whole) (is : seen d ≡ v) (node : NodeRef) (holds : Holds v node) where
  module _ (parent : NodeRef) (child : parent_of v.state.trees node.label ≡ Some parent.label) where
    pub up : parent_of d.tree.nodes.arena.trees node.label ≡ Some parent.label
    up = sym (parent_seen (shows_of d law v is) node holds) ∙ child

    module _ (slotted : IsSlotted d.tree.nodes.arena) (now_open : IsOpen v) (ok : Ok d) (may : is_made_edit (Remove node.label) (freed v.state) ≡ true) where
      abbrev f : Forest Content
      f = d.tree.nodes.arena.trees

      abbrev g : Forest Content
      g = pruned (out_of d) d.tree.nodes.arena.trees

      pub fits : StepFits (step.Remove node) d.tree.nodes.arena
      fits = record {
        fits = record { forest = forest_of d.tree.nodes.arena law; here = subst IsSome (sym up) refl };
        slotted = slotted;
        held = ((held_seen d v is node holds).slot, tt);
      }

      pub detached : Each (IsLeft (out_of d) d.tree.nodes.arena.trees) (named (change_of (step.Remove node)))
      detached = ((held_seen d v is node holds).here, tt)

      pub trees : applied (change_of (step.Remove node)) g ≡ trees_after (Remove node.label) g
      unfolding applied trees_after
      trees = refl

      pub points_are : mapped (range.Remove (preorder (tree_of f node.label)) parent.label (index_of f node.label)) d.tree.points ≡ points_after (Remove node.label) g d.tree.points
      unfolding points_after
      points_are =
          let here = (held_seen d v is node holds).here in
          let t : tree_of f node.label ≡ tree_of g node.label = sym (tree_of-pruned (out_of d) f node.label law.distinct here) in
          let p : Some parent.label ≡ parent_of g node.label = sym (parent_of-pruned (out_of d) f node.label law.distinct here ∙ up) in
          let x : index_of f node.label ≡ index_of g node.label = sym (index_detached (out_of d) f law.distinct node.label here) in
          λ i. mapped (range.Remove (preorder (t i)) (unwrap_or (p i) 0) (x i)) d.tree.points

      unlinked : unlink f node.label ≡ applied (change.Remove node.label) f
      unfolding applied
      unlinked = refl

      depth_is : (new : ℕ) → new ≡ d.tree.nodes.counts.depth → page_depth (applied (change.Remove node.label) f) ≤ new
      depth_is new same =
          let low = unlinked_depth f d.tree.nodes.arena.next (arena_forest d.tree.nodes.arena law) node.label (inner_child node.label up) in
          subst (λ t. page_depth t ≤ new) unlinked (omega (arith, low, d.tree.nodes.counted.depth, same))
        where
          -- a node with a parent isn't the document
          inner_child : (l : ℕ) → parent_of f l ≡ Some parent.label → 0 < l
          inner_child zero child = absurd (let t : None ≡ Some parent.label = sym law.root ∙ child in cc)
          inner_child (suc l) child = omega arith

      pub counted_unlinked : (counts : Counts) → counts.nodes ≡ node_count (unlink f node.label) → counts.chars ≡ char_count (unlink f node.label) → counts.depth ≡ d.tree.nodes.counts.depth → IsCounted (step_applied (step.Remove node) d.tree.nodes.arena).trees counts
      unfolding step_applied
      counted_unlinked counts nodes chars depth = record { nodes = nodes ∙ ap node_count unlinked; chars = chars ∙ ap char_count unlinked; depth = depth_is counts.depth depth }

      module _ (points : LivePoints) (overrides : List Setting) (b c : Command) (o : Option NodeRef) (next : label_of o ≡ next_of d.tree.nodes.arena.trees node.label)
          (same : record b { detached = d.command.detached } ≡ d.command) (pushed : b.detached.items ≡ d.command.detached.items ++ node ∷ []) (m : Marks (place_labels node parent o) b c)
          (points_is : points ≡ mapped (range.Remove (preorder (tree_of d.tree.nodes.arena.trees node.label)) parent.label (index_of d.tree.nodes.arena.trees node.label)) d.tree.points)
          (overrides_is : overrides ≡ overrides_next d v is law now_open ok (Remove node.label) (step.Remove node) fits detached may trees) where
        removes : Makes d (Remove node.label) (step.Remove node) points overrides c
        unfolding edit_change
        removes = record {
          fits = fits;
          seen = detached;
          follows = follows d.command b c node parent o f same pushed up next m;
          names = ap (λ (p : LivePoints). p.names) points_is;
          change = refl;
          trees = trees;
          points_are = points_is ∙ points_are;
          overrides_are = overrides_is ∙ overrides_are d v is law now_open ok (Remove node.label) (step.Remove node) fits detached may trees;
        }

        pub unlink_done : (arena : Arena) (trail : Trail) → arena ≡ step_applied (step.Remove node) d.tree.nodes.arena → trail ≡ with_note d.history (step_inverse (step.Remove node) d.tree.nodes.arena) → Applied d v (Remove node.label) arena points overrides c trail
        unlink_done arena trail arena_is trail_is =
            edit_linked d v is law now_open ok (Remove node.label) (step.Remove node) points overrides c may removes arena trail arena_is trail_is
