-- A step that only moves points of a document under edits.
use Rattle.std.proofs.Common.{◌≡◌, ℕ, Bool, true, false, if◌then◌else◌, List, length, Option, None, refl, sym, ap, subst, ◌∙◌}
use Rattle.std.specs.Prelude.{map}
use Rattle.std.specs.Option.{option_map}
use Rattle.edit_model.specs.DomModel.declared.Content.{Content}
use Rattle.edit_model.specs.DomModel.Forest.{Forest}
use Rattle.edit_model.specs.DomModel.ArenaState.{IsValid as IsArena}
use Rattle.edit_model.specs.LiveRange.declared.places.Pair.{Pair}
use Rattle.edit_model.specs.LiveRange.LivePoints.{LivePoints, mapped, at_pair}
use Rattle.edit_model.specs.LiveRange.PointsEdit.{PointsEdit, adjusted_pair}
use Rattle.edit_model.specs.LiveRange.ActiveRange.{range_changed}
use Rattle.step_edits.specs.UndoLog.Log.Open.{Closed}
use Rattle.edit_model.specs.PointOrder.PointOrder.{is_before}
use Rattle.edit_model.specs.declared.settings.Setting.{Setting}
use Rattle.edit_model.specs.Edit.{changed, overrides_after}
use Rattle.edit_model.specs.Valid.{IsPlaced}
use Rattle.edit_model.specs.Overrides.{no_overrides}
use Rattle.edit_model.proofs.Points.{Places, mapped_placed}
use Rattle.edit_doc.specs.declared.Doc.TheInside.{Inside}
use Rattle.edit_doc.specs.Live.{Live, live}
use Rattle.edit_parts.specs.declared.overrides.Watch.{Watch}
use Rattle.edit_parts.specs.Following.{Watches, unset_if_range_changed}
use Rattle.edit_doc.specs.Whole.{Whole, with_state}
use Rattle.edit_doc.specs.History.{seen_trees, whole_of}
use Rattle.edit_doc.specs.Sound.{IsSoundDoc}
use Rattle.edit_doc.proofs.Chosen.{moved_to, other_ok, scratch_at_rest}
use Rattle.edit_doc.proofs.HiddenTrees.{placed-whole}
use Rattle.edit_doc.proofs.Inner.{seen, Ok}
use Rattle.edit_doc.proofs.Rests.{arena_forest}
use Rattle.edit_doc.proofs.SeenNodes.{out_of}
use Rattle.edit_doc.proofs.Settled.{settled_seen}

none_set : length no_overrides ≡ 32
unfolding no_overrides
none_set = refl

pub settled_length : (b : Bool) (list : List Setting) → length list ≡ 32 → length (if b then no_overrides else list) ≡ 32
settled_length true list h = none_set
settled_length false list h = h

module _ (d : Inside) (law : IsArena d.tree.nodes.arena) (ok : Ok d) where
  module _ (selection scratch : Option Pair) (marks : List (List ℕ × Pair)) (placed : IsPlaced (seen_trees d.history.log d.command.start d.tree.nodes.arena.trees) (moved_to d.tree.points selection scratch marks)) where
    abbrev points : LivePoints
    points = moved_to d.tree.points selection scratch marks

    abbrev overrides : List Setting
    overrides = unset_if_range_changed d.tree.nodes.arena.trees d.tree.points d.tree.nodes.arena.trees points d.tree.overrides

    pub placed_then : IsPlaced d.tree.nodes.arena.trees points
    placed_then = placed-whole d.tree.nodes.arena.trees d.tree.nodes.arena.next (arena_forest d.tree.nodes.arena law) (out_of d) refl points placed

    -- what settling writes
    pub settled_items : (new : List Setting) (n : LivePoints) (w : Option Watch) → n ≡ points → Watches d.tree.nodes.arena.trees d.tree.points d.tree.overrides w →
        ((g : Forest Content) (b : LivePoints) → Watches g b d.tree.overrides w → new ≡ unset_if_range_changed g b d.tree.nodes.arena.trees n d.tree.overrides) → new ≡ overrides
    settled_items new n w en watches settles = settles d.tree.nodes.arena.trees d.tree.points watches ∙ ap (λ q. unset_if_range_changed d.tree.nodes.arena.trees d.tree.points d.tree.nodes.arena.trees q d.tree.overrides) en

    pub step_ok : (d.history.log.open_entry ≡ Closed → scratch ≡ None) → IsSoundDoc (record (live d.tree) { points = points; overrides = overrides }) d.command d.history
    step_ok none = other_ok d ok selection scratch marks overrides d.tree.flags placed (settled_length (range_changed (is_before d.tree.nodes.arena.trees) (is_before d.tree.nodes.arena.trees) d.tree.points.selection selection) d.tree.overrides ok.valid.settings) none

    settled_so : overrides ≡ overrides_after (seen d).state (seen d).state.trees points
    settled_so = settled_seen (out_of d) d.tree.nodes.arena.trees d.tree.nodes.arena.trees (seen d).state points law.distinct law.distinct refl ok.valid.placed placed

    pub step_is : (v : Whole) → seen d ≡ v →
        whole_of (record (live d.tree) { points = points; overrides = overrides }) d.command d.history
        ≡ with_state v (changed v.state v.state.trees (moved_to v.state.points selection scratch marks))
    unfolding changed
    step_is v is =
        ap (λ o. whole_of (record (live d.tree) { points = points; overrides = o }) d.command d.history) settled_so
        ∙ ap (λ (w : Whole). with_state w (record w.state { points = moved_to w.state.points selection scratch marks; overrides = overrides_after w.state w.state.trees (moved_to w.state.points selection scratch marks) })) is

  -- the points go along with a change of their places
  module _ (e : PointsEdit) (places : Places e (seen d).state.trees (seen d).state.trees) where
    abbrev chosen : Option Pair
    chosen = option_map (adjusted_pair e) d.tree.points.selection

    abbrev kept : Option Pair
    kept = option_map (adjusted_pair e) d.tree.points.scratch

    abbrev marks : List (List ℕ × Pair)
    marks = map (at_pair (adjusted_pair e)) d.tree.points.marks

    stand : IsPlaced (seen d).state.trees (mapped e d.tree.points)
    stand = mapped_placed e (seen d).state.trees (seen d).state.trees places d.tree.points ok.valid.placed

    pub mapped_then : IsPlaced d.tree.nodes.arena.trees (mapped e d.tree.points)
    mapped_then = placed_then chosen kept marks stand

    -- what settling leaves then
    module _ (n : LivePoints) (n_is : n ≡ mapped e d.tree.points) (w : Option Watch) (new : List Setting) (watches : Watches d.tree.nodes.arena.trees d.tree.points d.tree.overrides w)
        (settles : (g : Forest Content) (b : LivePoints) → Watches g b d.tree.overrides w → new ≡ unset_if_range_changed g b d.tree.nodes.arena.trees n d.tree.overrides) where
      abbrev after : Live
      after = record (live d.tree) { points = n; overrides = new }

      after_is : after ≡ record (live d.tree) { points = mapped e d.tree.points; overrides = unset_if_range_changed d.tree.nodes.arena.trees d.tree.points d.tree.nodes.arena.trees (mapped e d.tree.points) d.tree.overrides }
      after_is = λ i. record (live d.tree) { points = n_is i; overrides = settled_items chosen kept marks stand new n w n_is watches settles i }

      pub mapped_ok : IsSoundDoc after d.command d.history
      mapped_ok = subst (λ t. IsSoundDoc t d.command d.history) (sym after_is) (step_ok chosen kept marks stand (λ closed. ap (option_map (adjusted_pair e)) (scratch_at_rest d ok closed)))

      pub mapped_is : (v : Whole) → seen d ≡ v → whole_of after d.command d.history ≡ with_state v (changed v.state v.state.trees (mapped e v.state.points))
      mapped_is v is = ap (λ t. whole_of t d.command d.history) after_is ∙ (step_is chosen kept marks stand (seen d) refl ∙ ap (λ (w : Whole). with_state w (changed w.state w.state.trees (mapped e w.state.points))) is)
