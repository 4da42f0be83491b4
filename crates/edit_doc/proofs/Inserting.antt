-- A loose tree that is linked.
use Rattle.std.proofs.Common.{◌≡◌, ℕ, ◌<◌, ◌≤◌, ◌^◌, Bool, true, false, List, length, Option, Some, None, refl, sym, ap, subst, ◌∙◌, arith}
use Rattle.edit_model.specs.DomModel.declared.Content.{Content}
use Rattle.edit_model.specs.DomModel.Contents.{is_parent_at, words_length}
use Rattle.edit_model.specs.DomModel.Document.{node_count, char_count, page_depth}
use Rattle.edit_model.specs.DomModel.Forest.{Forest, total, count_of, tree_of, link, CanPut, IsDistinct}
use Rattle.edit_model.specs.DomModel.Places.{place_in, index_of}
use Rattle.edit_model.specs.DomModel.Pruned.{pruned}
use Rattle.edit_model.specs.DomModel.ArenaState.{ArenaState as Arena, IsValid as IsArena, IsSlotted}
use Rattle.edit_model.proofs.DomModel.Pruning.{children_of-pruned}
use Rattle.edit_model.specs.NodeArena.declared.NodeRef.{NodeRef}
use Rattle.edit_model.specs.NodeArena.Held.{label}
use Rattle.edit_model.specs.LiveRange.PointsEdit as range
use Rattle.edit_model.specs.LiveRange.LivePoints.{LivePoints, Fits, mapped}
use Rattle.edit_model.specs.PointOrder.PointOrder.{is_in_document}
use Rattle.step_edits.specs.ForestChanges.Change.{applied}
use Rattle.step_edits.specs.ForestChanges.Named.{Each, named}
use Rattle.step_edits.specs.ForestChanges.Down.{IsLeft}
use Rattle.step_edits.proofs.ForestChanges.PrunedChanges.{CanPut-pruned}
use Rattle.step_edits.proofs.ForestChanges.Twice.{forest_of}
use Rattle.step_edits.specs.EditSteps.declared.step.Step.{Step}
use Rattle.step_edits.specs.EditSteps.declared.step.Step.TheVariants as step
use Rattle.step_edits.specs.EditSteps.Step.{StepFits, change_of, step_applied, step_inverse}
use Rattle.edit_model.specs.declared.settings.Setting.{Setting}
use Rattle.edit_model.specs.State.{State}
use Rattle.edit_model.specs.Edit.{Insert, is_made_edit, change_of as edit_change, trees_after, points_after, index_before}
use Rattle.edit_model.specs.Confined.{may_insert}
use Rattle.edit_model.specs.Gives.{label_of}
use Rattle.edit_model.specs.Valid.{IsPlaced}
use Rattle.edit_model.specs.Possible.{freed}
use Rattle.edit_model.proofs.ValidParts.{valid_freed}
use Rattle.edit_model.proofs.Fitting.{fits-insert}
use Rattle.edit_model.proofs.Tests.{Inserts, inserts}
use Rattle.edit_parts.specs.Following.{unset_if_range_changed}
use Rattle.edit_parts.specs.declared.Counts.{Counts}
use Rattle.edit_doc.specs.declared.Doc.TheInside.{Inside}
use Rattle.edit_doc.specs.declared.command.Command.{Command}
use Rattle.edit_doc.specs.Fields.{IsRaised, with_more}
use Rattle.edit_doc.specs.Whole.{Whole, IsOpen}
use Rattle.edit_doc.specs.Held.{Holds, IfHeld}
use Rattle.edit_doc.specs.Marks.{Marks, place_labels}
use Rattle.edit_doc.specs.Trail.{Trail, with_note}
use Rattle.edit_doc.specs.Counted.{IsCounted}
use Rattle.edit_doc.proofs.Inner.{seen, Ok}
use Rattle.edit_doc.proofs.SeenNodes.{shows_of, out_of, held_seen, is_parent_seen}
use Rattle.edit_doc.proofs.Rests.{arena_forest}
use Rattle.edit_doc.proofs.Linked.{labels_same, inserts_follow, place_seen, link_fits}
use Rattle.edit_doc.proofs.Inserted.{index-link, more_linked, linked_low, chars_bound, nodes_bound}
use Rattle.edit_doc.proofs.Raised.{linked_depth}
use Rattle.edit_doc.proofs.Settling.{points_next, overrides_are as settled_after}
use Rattle.edit_doc.proofs.Edited.{Makes, Applied, edit_linked}

pub index_detached : (k : ℕ → Bool) (f : Forest Content) (p : ℕ) (b : Option ℕ) → IsDistinct f → 0 < count_of (pruned k f) p → index_before (pruned k f) p b ≡ index_before f p b
unfolding index_before
index_detached k f p None once here = ap length (children_of-pruned k f p once here)
index_detached k f p (Some m) once here = ap (λ xs. place_in xs m) (children_of-pruned k f p once here)

pub not_inserted : (s : State) (p : ℕ) (b : Option ℕ) (n : ℕ) → may_insert s p b n ≡ false → is_made_edit (Insert p b n) s ≡ false
unfolding is_made_edit
not_inserted s p b n h = h

pub is_inserted : (s : State) (p : ℕ) (b : Option ℕ) (n : ℕ) → may_insert s p b n ≡ true → is_made_edit (Insert p b n) s ≡ true
unfolding is_made_edit
is_inserted s p b n h = h

module _ (d : Inside) (v : Whole) (is : seen d ≡ v) (law : IsArena d.tree.nodes.arena) (slotted : IsSlotted d.tree.nodes.arena) (now_open : IsOpen v) (ok : Ok d) (node parent : NodeRef) (before : Option NodeRef)
    (node_held : Holds v node) (parent_held : Holds v parent) (before_held : IfHeld v before) (may : is_made_edit (Insert parent.label (label_of before) node.label) (freed v.state) ≡ true) where
  abbrev f : Forest Content
  f = d.tree.nodes.arena.trees

  abbrev g : Forest Content
  g = pruned (out_of d) d.tree.nodes.arena.trees

  abbrev p : ℕ
  p = parent.label

  abbrev b : Option ℕ
  b = label before

  abbrev n : ℕ
  n = node.label

  abbrev x : Step
  x = step.Insert node parent before

  made : is_made_edit (Insert p b n) (freed v.state) ≡ true
  made = subst (λ o. is_made_edit (Insert p o n) (freed v.state) ≡ true) (sym (labels_same before)) may

  may_seen : may_insert (freed (seen d).state) p b n ≡ true
  unfolding is_made_edit
  may_seen = subst (λ (w : Whole). may_insert (freed w.state) p b n ≡ true) (sym is) made

  told : Inserts (freed (seen d).state) p b n
  told = inserts (freed (seen d).state) p b n may_seen

  bears : is_parent_at f p ≡ true
  bears = sym (is_parent_seen (shows_of d law (seen d) refl) parent (held_seen d v is parent parent_held)) ∙ told.parent

  can : CanPut f p b n
  can = CanPut-pruned (out_of d) f p b n (forest_of d.tree.nodes.arena law) told.can

  pub fits : StepFits (step.Insert node parent before) d.tree.nodes.arena
  fits = link_fits d v is law slotted node parent before node_held parent_held before_held told.can bears

  index_is : index_of (link f p b n) n ≡ index_before g p b
  index_is = index-link f p b n law.distinct can ∙ sym (index_detached (out_of d) f p b law.distinct told.can.parent)

  -- ---- the numbers

  module _ (enters : Bool) (enters_is : enters ≡ is_in_document f p) where
    nodes_is : with_more enters d.tree.nodes.counts.nodes (total (λ _ _. 1) (tree_of f n)) ≡ node_count (link f p b n)
    nodes_is = (λ i. with_more (enters_is i) (d.tree.nodes.counted.nodes i) (total (λ _ _. 1) (tree_of f n))) ∙ more_linked f d.tree.nodes.arena.next (arena_forest d.tree.nodes.arena law) (λ _ _. 1) p b n can

    chars_is : with_more enters d.tree.nodes.counts.chars (total (λ _ c. words_length c) (tree_of f n)) ≡ char_count (link f p b n)
    chars_is = (λ i. with_more (enters_is i) (d.tree.nodes.counted.chars i) (total (λ _ c. words_length c) (tree_of f n))) ∙ more_linked f d.tree.nodes.arena.next (arena_forest d.tree.nodes.arena law) (λ _ c. words_length c) p b n can

    pub nodes_fit : with_more enters d.tree.nodes.counts.nodes (total (λ _ _. 1) (tree_of f n)) < 2 ^ 32
    nodes_fit = omega (arith, nodes_is, linked_low f d.tree.nodes.arena.next (arena_forest d.tree.nodes.arena law) (λ _ _. 1) p b n can, nodes_bound d.tree.nodes.arena law)

    pub chars_fit : with_more enters d.tree.nodes.counts.chars (total (λ _ c. words_length c) (tree_of f n)) < 2 ^ 64
    chars_fit = omega (arith, chars_is, linked_low f d.tree.nodes.arena.next (arena_forest d.tree.nodes.arena law) (λ _ c. words_length c) p b n can, chars_bound d.tree.nodes.arena law)

    depth_is : (new : ℕ) → IsRaised f p n enters d.tree.nodes.counts.depth new → page_depth (link f p b n) ≤ new
    depth_is new raised =
        let few = linked_low f d.tree.nodes.arena.next (arena_forest d.tree.nodes.arena law) (λ _ _. 1) p b n can in
        linked_depth f d.tree.nodes.arena.next (arena_forest d.tree.nodes.arena law) p b n can enters enters_is d.tree.nodes.counts.depth new d.tree.nodes.counted.depth raised (omega (arith, few, nodes_bound d.tree.nodes.arena law))

    pub counted_linked : (counts : Counts) → counts.nodes ≡ with_more enters d.tree.nodes.counts.nodes (total (λ _ _. 1) (tree_of f n)) → counts.chars ≡ with_more enters d.tree.nodes.counts.chars (total (λ _ c. words_length c) (tree_of f n)) →
        IsRaised f p n enters d.tree.nodes.counts.depth counts.depth → IsCounted (step_applied x d.tree.nodes.arena).trees counts
    unfolding step_applied applied
    counted_linked counts nodes chars raised = record { nodes = nodes ∙ nodes_is; chars = chars ∙ chars_is; depth = depth_is counts.depth raised }

  -- ---- the points

  trees_is : applied (change_of x) g ≡ trees_after (Insert p b n) g
  unfolding applied trees_after
  trees_is = refl

  points_is : mapped (range.Insert p (index_before g p b)) d.tree.points ≡ points_after (Insert p b n) g d.tree.points
  unfolding points_after
  points_is = refl

  fit_here : Fits (range.Insert p (index_before g p b)) d.tree.points
  fit_here = fits-insert (freed (seen d).state) p b n (valid_freed (seen d).state ok.valid) (omega (arith, law.capped, law.small)) may_seen

  seen_place : Each (IsLeft (out_of d) d.tree.nodes.arena.trees) (named (change_of x))
  seen_place = place_seen d v is law slotted node parent before node_held parent_held before_held

  module _ (arena : Arena) (arena_is : arena ≡ step_applied (step.Insert node parent before) d.tree.nodes.arena) where
    trees_here : arena.trees ≡ link f p b n
    unfolding step_applied applied
    trees_here = ap (λ (a : Arena). a.trees) arena_is

    index_here : index_of arena.trees n ≡ index_before g p b
    index_here = ap (λ t. index_of t n) trees_here ∙ index_is

    pub held_here : d.tree.nodes.arena.held ≡ arena.held
    unfolding step_applied
    held_here = sym (ap (λ (a : Arena). a.held) arena_is)

    pub points_fit : Fits (range.Insert p (index_of arena.trees n)) d.tree.points
    points_fit = subst (λ i. Fits (range.Insert p i) d.tree.points) (sym index_here) fit_here

    module _ (points : LivePoints) (points_are : points ≡ mapped (range.Insert p (index_of arena.trees n)) d.tree.points) where
      points_here : points ≡ points_after (Insert p b n) g d.tree.points
      points_here = points_are ∙ (ap (λ i. mapped (range.Insert p i) d.tree.points) index_here ∙ points_is)

      pub placed : IsPlaced arena.trees points
      unfolding applied
      placed = subst (λ t. IsPlaced t points) (sym trees_here) (subst (IsPlaced (link f p b n)) (sym points_here) (points_next d v is law now_open ok (Insert p b n) x fits seen_place made trees_is))

      module _ (overrides : List Setting) (overrides_are : overrides ≡ unset_if_range_changed f d.tree.points arena.trees points d.tree.overrides) (c : Command) (m : Marks (place_labels node parent before) d.command c) (trail : Trail) (trail_is : trail ≡ with_note d.history (step_inverse x d.tree.nodes.arena)) where
        makes : Makes d (Insert p b n) x points overrides c
        unfolding applied edit_change
        makes = record {
          fits = fits;
          seen = seen_place;
          follows = inserts_follow d.command c node parent before f m;
          names = ap (λ (s : LivePoints). s.names) points_are;
          change = refl;
          trees = trees_is;
          points_are = points_here;
          overrides_are = overrides_are ∙ ((λ i. unset_if_range_changed f d.tree.points (trees_here i) (points_here i) d.tree.overrides) ∙ settled_after d v is law now_open ok (Insert p b n) x fits seen_place made trees_is);
        }

        pub link_done : Applied d v (Insert p (label_of before) n) arena points overrides c trail
        link_done = subst (λ o. Applied d v (Insert p o n) arena points overrides c trail) (labels_same before) (edit_linked d v is law now_open ok (Insert p b n) x points overrides c made makes arena trail arena_is trail_is)
