-- Where the points stand after an edit that is made, and what settling the overrides writes.
use Rattle.std.proofs.Common.{◌≡◌, true, List, Option, refl, sym, ap, subst, ◌∙◌, arith}
use Rattle.edit_model.specs.DomModel.declared.Content.{Content}
use Rattle.edit_model.specs.DomModel.Forest.{Forest}
use Rattle.edit_model.specs.DomModel.Pruned.{pruned}
use Rattle.edit_model.specs.DomModel.ArenaState.{ArenaState as Arena, IsValid as IsArena}
use Rattle.edit_model.specs.LiveRange.LivePoints.{LivePoints}
use Rattle.step_edits.specs.ForestChanges.Change.{applied}
use Rattle.step_edits.specs.ForestChanges.Named.{Each, named}
use Rattle.step_edits.specs.ForestChanges.Down.{IsLeft, GoesDown}
use Rattle.step_edits.proofs.ForestChanges.Twice.{IsForest-applied, count_of-applied}
use Rattle.step_edits.specs.EditSteps.declared.step.Step.{Step}
use Rattle.step_edits.specs.EditSteps.Step.{change_of, step_applied, StepFits}
use Rattle.edit_model.specs.declared.settings.Setting.{Setting}
use Rattle.edit_model.specs.Edit.{Edit, is_made_edit, trees_after, points_after, overrides_after}
use Rattle.edit_model.specs.Valid.{IsForest, IsPlaced}
use Rattle.edit_model.specs.Possible.{freed}
use Rattle.edit_model.proofs.Made.{made_placed}
use Rattle.edit_model.proofs.ValidParts.{valid_freed}
use Rattle.edit_parts.specs.declared.overrides.Watch.{Watch}
use Rattle.edit_parts.specs.Following.{Watches, unset_if_range_changed}
use Rattle.edit_doc.specs.declared.Doc.TheInside.{Inside}
use Rattle.edit_doc.specs.Whole.{Whole, IsOpen}
use Rattle.edit_doc.specs.Live.{live}
use Rattle.edit_doc.proofs.Inner.{seen, seen as seen_of, Ok, open_of}
use Rattle.edit_doc.proofs.SeenNodes.{out_of}
use Rattle.edit_doc.proofs.Changing.{goes}
use Rattle.edit_doc.proofs.HiddenTrees.{model_forest, placed-whole}
use Rattle.edit_doc.proofs.Rests.{arena_forest}
use Rattle.edit_doc.proofs.Settled.{settled_seen}

module _ (d : Inside) (law : IsArena d.tree.nodes.arena) (ok : Ok d) where
  pub points_now : IsPlaced d.tree.nodes.arena.trees d.tree.points
  points_now = placed-whole d.tree.nodes.arena.trees d.tree.nodes.arena.next (arena_forest d.tree.nodes.arena law) (out_of d) refl d.tree.points ok.valid.placed

module _ (d : Inside) (v : Whole) (is : seen d ≡ v) (law : IsArena d.tree.nodes.arena) (now_open : IsOpen v) (ok : Ok d)
    (e : Edit) (x : Step) (fits : StepFits x d.tree.nodes.arena) (detached : Each (IsLeft (out_of d) d.tree.nodes.arena.trees) (named (change_of x))) (may : is_made_edit e (freed v.state) ≡ true)
    (trees : applied (change_of x) (pruned (out_of d) d.tree.nodes.arena.trees) ≡ trees_after e (pruned (out_of d) d.tree.nodes.arena.trees)) where
  abbrev f : Forest Content
  f = d.tree.nodes.arena.trees

  abbrev g : Forest Content
  g = applied (change_of x) d.tree.nodes.arena.trees

  abbrev after : LivePoints
  after = points_after e (pruned (out_of d) d.tree.nodes.arena.trees) d.tree.points

  down : GoesDown (out_of d) (change_of x) d.tree.nodes.arena.trees
  down = goes (live d.tree) d.command d.history law (open_of d v is now_open) ok x fits detached

  pruned_is : pruned (out_of d) g ≡ trees_after e (pruned (out_of d) f)
  pruned_is = down.same ∙ trees

  may_seen : is_made_edit e (freed (seen_of d).state) ≡ true
  may_seen = subst (λ (w : Whole). is_made_edit e (freed w.state) ≡ true) (sym is) may

  placed_seen : IsPlaced (pruned (out_of d) g) after
  placed_seen = subst (λ t. IsPlaced t after) (sym pruned_is) (made_placed e (freed (seen_of d).state) (valid_freed (seen_of d).state ok.valid) may_seen)

  forest_next : IsForest g d.tree.nodes.arena.next
  forest_next = model_forest g (IsForest-applied (change_of x) f fits.fits) d.tree.nodes.arena.next (λ l h. law.below l (let same = count_of-applied (change_of x) f fits.fits l in omega (arith, h, same)))

  pub points_next : IsPlaced g after
  points_next = placed-whole g d.tree.nodes.arena.next forest_next (out_of d) refl after placed_seen

  abbrev pub overrides_next : List Setting
  overrides_next = unset_if_range_changed d.tree.nodes.arena.trees d.tree.points (applied (change_of x) d.tree.nodes.arena.trees) (points_after e (pruned (out_of d) d.tree.nodes.arena.trees) d.tree.points) d.tree.overrides

  pub overrides_are : overrides_next ≡ overrides_after (seen_of d).state (trees_after e (pruned (out_of d) f)) after
  overrides_are =
      settled_seen (out_of d) f g (seen_of d).state after law.distinct forest_next.distinct refl ok.valid.placed placed_seen
      ∙ ap (λ t. overrides_after (seen_of d).state t after) pruned_is

  -- what settling writes
  pub settled_items : (new : List Setting) (n : LivePoints) (a : Arena) (w : Option Watch) → n ≡ after → a ≡ step_applied x d.tree.nodes.arena →
      Watches d.tree.nodes.arena.trees d.tree.points d.tree.overrides w → ((h : Forest Content) (b : LivePoints) → Watches h b d.tree.overrides w → new ≡ unset_if_range_changed h b a.trees n d.tree.overrides) → new ≡ overrides_next
  unfolding step_applied
  settled_items new n a w en ea watches settles = settles f d.tree.points watches ∙ (λ i. unset_if_range_changed f d.tree.points (ea i).trees (en i) d.tree.overrides)

  pub placed_called : (n : LivePoints) (a : Arena) → n ≡ after → a ≡ step_applied x d.tree.nodes.arena → IsPlaced a.trees n
  unfolding step_applied
  placed_called n a en ea = subst (λ (b : Arena). IsPlaced b.trees n) (sym ea) (subst (IsPlaced g) (sym en) points_next)
