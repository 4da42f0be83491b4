-- The fields of a document under edits, and whether a command is open.
use Rattle.std.proofs.Common.{◌≡◌, ◌<◌, List, length, Option, None, refl, sym, ap, subst, ◌∙◌}
use Rattle.std.specs.Prelude.{IsTrue, IsSome}
use Rattle.edit_model.specs.DomModel.ArenaState.{IsValid as IsArena}
use Rattle.step_edits.specs.UndoLog.Log.{Open, noted, is_open}
use Rattle.step_edits.specs.UndoLog.Log.Open.{Closed, Begun, Resumed}
use Rattle.step_edits.specs.EditSteps.declared.step.Step.{Step}
use Rattle.edit_model.specs.State.{State}
use Rattle.edit_doc.specs.declared.Doc.TheInside.{Inside}
use Rattle.edit_doc.specs.Whole.{Whole, IsOpen, IsClosed}
use Rattle.edit_doc.specs.History.{whole_of, began_with}
use Rattle.edit_model.specs.LiveRange.declared.places.Places.{Places}
use Rattle.edit_doc.specs.declared.command.EntrySnapshot.{EntrySnapshot}
use Rattle.edit_doc.specs.Fields.{AreResting, Enters}
use Rattle.edit_doc.specs.GivingUp.{loose_roots}
use Rattle.edit_doc.specs.Sound.{IsSoundDoc}
use Rattle.edit_doc.specs.Live.{live}

abbrev pub seen : Inside → Whole
seen d = whole_of (live d.tree) d.command d.history

abbrev pub Ok : Inside → Type 0
Ok d = IsSoundDoc (live d.tree) d.command d.history

closed_in : (s : State) (o : Open Step) → began_with s o ≡ None → o ≡ Closed
closed_in s Closed e = refl
closed_in s (Begun xs) e = absurd (cc)
closed_in s (Resumed xs) e = absurd (cc)

open_in : (s : State) (o : Open Step) → IsSome (began_with s o) → IsTrue (is_open o)
open_in s Closed h = absurd (let h' = h in cc)
open_in s (Begun xs) h = refl
open_in s (Resumed xs) h = refl

-- where the value has no command, no entry is open
pub closed_of : (d : Inside) (v : Whole) → seen d ≡ v → IsClosed v → d.history.log.open_entry ≡ Closed
closed_of d v is h = closed_in _ d.history.log.open_entry (ap (λ (w : Whole). w.began) is ∙ h)

pub open_of : (d : Inside) (v : Whole) → seen d ≡ v → IsOpen v → IsTrue (is_open d.history.log.open_entry)
open_of d v is h = open_in _ d.history.log.open_entry (subst (λ (w : Whole). IsSome w.began) (sym is) h)

-- the fields while a command is open
pub record Opened (d : Inside) : Type 0 where
  pub law : IsArena d.tree.nodes.arena
  pub ok : Ok d
  pub opened : IsTrue (is_open d.history.log.open_entry)

abbrev pub opened_of : (d : Inside) (v : Whole) → seen d ≡ v → IsArena d.tree.nodes.arena → Ok d → IsOpen v → Opened d
opened_of d v is law ok h = record { law = law; ok = ok; opened = open_of d v is h }

-- as it ends, with the places where the points rest
pub record Ending (d : Inside) : Type 0 where
  pub during : Opened d
  pub places : Places
  pub resting : AreResting d.tree.points places

abbrev pub ending_of : (d : Inside) (v : Whole) → seen d ≡ v → IsArena d.tree.nodes.arena → Ok d → IsOpen v → (p : Places) → AreResting d.tree.points p → Ending d
ending_of d v is law ok h p resting = record { during = opened_of d v is law ok h; places = p; resting = resting }

-- with an edit: the snapshots beside the entries that undo would take then, and the one that goes out
pub record Entering (d : Inside) : Type 0 where
  pub ending : Ending d
  pub some : 0 < length (noted d.history.log.open_entry)
  pub past : List EntrySnapshot
  pub out : Option EntrySnapshot
  pub entered : Enters d.command (loose_roots d.tree.nodes.arena.trees d.command.detached.items) ending.places d.tree.nodes.counts d.history.log.depth d.history.past past out
