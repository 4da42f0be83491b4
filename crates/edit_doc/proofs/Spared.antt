-- A commit with an edit gives up what no kept entry names.
use Rattle.std.proofs.Common.{◌≡◌, ℕ, ◌<◌, Bool, [], sym, ap, subst, ◌∙◌, arith}
use Rattle.edit_model.specs.DomModel.Forest.{count_of}
use Rattle.edit_model.specs.DomModel.ArenaState.{ArenaState as Arena, IsValid as IsArena}
use Rattle.edit_model.proofs.DomModel.Pruning.{count_of-pruned}
use Rattle.edit_model.specs.LiveRange.LivePoints.{LivePoints}
use Rattle.edit_model.specs.LiveRange.Names.{shown}
use Rattle.step_edits.specs.UndoLog.Log.{Log, IsLog, noted, committed}
use Rattle.step_edits.specs.ForestChanges.Down.{Prunes}
use Rattle.step_edits.specs.EditSteps.declared.step.Step.{Step}
use Rattle.edit_model.specs.History.{rested}
use Rattle.edit_doc.specs.declared.Doc.TheInside.{Inside}
use Rattle.edit_doc.specs.declared.command.Command.{Command}
use Rattle.edit_doc.specs.Fields.{IsEnded}
use Rattle.edit_doc.specs.GivingUp.{GivesUp}
use Rattle.edit_doc.specs.Held.{KeepsThere}
use Rattle.edit_doc.specs.History.{begun_forest, is_hidden, state_of, history_of, whole_of}
use Rattle.edit_doc.specs.Sound.{AreNeeded, IsSoundDoc}
use Rattle.edit_doc.specs.Whole.{Whole, history_committed}
use Rattle.edit_doc.specs.Trail.{trail_of}
use Rattle.edit_doc.specs.Live.{live}
use Rattle.edit_doc.proofs.Downs.{EntriesLeft}
use Rattle.edit_doc.proofs.Freed.{freed, freed_state, freed_history}
use Rattle.edit_doc.proofs.Inner.{seen, Entering}
use Rattle.edit_doc.proofs.Needs.{needed_after}
use Rattle.edit_doc.proofs.Outgone.{unkept, prunes_both, kept_both}
use Rattle.edit_doc.proofs.Joins.{entry_redo, entry_rests, entry_state, entry_history}
use Rattle.edit_doc.proofs.Rolls.{Leaves}
use Rattle.edit_doc.proofs.Rests.{AtRest, rest_sound, none_noted}

module _ (d : Inside) (enters : Entering d) (logged : IsLog d.history.log) (c : Command) (ended : IsEnded d.tree.nodes.arena.next c) (log : Log Step) (is : log ≡ committed d.history.log)
    (a : Arena) (gives : GivesUp (unkept d enters) d.tree.nodes.arena a) (law' : IsArena a) where
  abbrev k : ℕ → Bool
  k = unkept d enters

  prunes : Prunes k d.tree.nodes.arena.trees
  prunes = prunes_both d enters

  undo_detached : EntriesLeft k d.tree.nodes.arena.trees log.undo
  undo_detached = kept_both d enters log is

  needed : AreNeeded c.start a.trees log.undo log.redo
  needed = needed_after d enters logged log is a gives c.start

  abbrev points : LivePoints
  points = shown d.tree.points.names enters.ending.places

  rests : AtRest (record (live d.tree) { points = points }) c (trail_of log enters.past [])
  rests = entry_rests d enters logged c ended log is

  redo_detached : EntriesLeft k d.tree.nodes.arena.trees log.redo
  redo_detached = subst (EntriesLeft k d.tree.nodes.arena.trees) (sym (entry_redo d enters logged c ended log is)) tt

  spared_ok : IsSoundDoc (record (live d.tree) { arena = a; points = points }) c (trail_of log enters.past [])
  spared_ok =
      rest_sound (record (live d.tree) { arena = a; points = points }) c (trail_of log enters.past [])
      (freed (record (live d.tree) { points = points }) a k gives prunes law' c (trail_of log enters.past []) rests undo_detached redo_detached) needed

  spared_state : (v : Whole) → seen d ≡ v → state_of (record (live d.tree) { arena = a; points = points }) c log ≡ rested v.state
  spared_state v sees =
      freed_state (record (live d.tree) { points = points }) a k gives prunes law' c (trail_of log enters.past []) rests undo_detached redo_detached
      ∙ entry_state d enters logged c ended log is v sees

  spared_history : (v : Whole) → seen d ≡ v → history_of d.tree.points.names (begun_forest log a.trees) (trail_of log enters.past []) ≡ history_committed v
  spared_history v sees =
      let none = ap noted rests.closed in
      ap (λ t. history_of d.tree.points.names t (trail_of log enters.past [])) (none_noted log a.trees none)
      ∙ (freed_history (record (live d.tree) { points = points }) a k gives prunes law' c (trail_of log enters.past []) rests undo_detached redo_detached
      ∙ (ap (λ t. history_of d.tree.points.names t (trail_of log enters.past [])) (sym (none_noted log d.tree.nodes.arena.trees none))
      ∙ entry_history d enters logged c ended log is v sees))

  abbrev spared_whole : Whole
  spared_whole = whole_of (record (live d.tree) { arena = a; points = points }) c (trail_of log enters.past [])

  spared_keeps : (v : Whole) → seen d ≡ v → KeepsThere v spared_whole
  spared_keeps v sees =
      let own : KeepsThere (seen d) spared_whole = (λ r h there. record {
        slot = gives.keeps r h.slot (subst (λ t. 0 < count_of t r.label) gives.trees (let le = count_of-pruned (is_hidden (begun_forest log a.trees) c.start) a.trees r.label in omega (arith, le, there)));
        here = there;
      }) in
      subst (λ (w : Whole). KeepsThere w spared_whole) sees own

  pub spared : (v : Whole) → seen d ≡ v → Leaves (record (live d.tree) { arena = a; points = points }) c (trail_of log enters.past []) v (rested v.state) (history_committed v)
  spared v sees = record { invariant = spared_ok; state = spared_state v sees; history = spared_history v sees; keeps = spared_keeps v sees }
