-- What closing the open entry of the history makes. No public clause cites this module.
use Rattle.std.specs.Prelude.{◌≡◌, ◌<◌, [], length, Option}
use Rattle.edit_model.specs.DomModel.declared.Content.{Content}
use Rattle.edit_model.specs.DomModel.Forest.{Forest}
use Rattle.edit_model.specs.LiveRange.declared.places.Places.{Places}
use Rattle.step_edits.specs.UndoLog.Log.{noted, committed}
use Rattle.edit_parts.specs.declared.Counts.{Counts}
use Rattle.edit_doc.specs.declared.command.EntrySnapshot.{EntrySnapshot}
use Rattle.edit_doc.specs.declared.command.Command.{Command}
use Rattle.edit_doc.specs.declared.history.Closing.{Closing}
use Rattle.edit_doc.specs.declared.history.Closing.TheVariants.{Nothing, Entry}
use Rattle.edit_doc.specs.Fields.{Enters}
use Rattle.edit_doc.specs.GivingUp.{loose_roots}
use Rattle.edit_doc.specs.Trail.{Trail, with_log}

-- no step was noted, and all else is as it was
pub record MakesNothing (t u : Trail) (c d : Command) : Type 0 where
  pub none : noted t.log.open_entry ≡ []
  pub history : u ≡ with_log t (committed t.log)
  pub command : d ≡ c

-- Steps were noted. They make an entry, or join the resumed one, with the roots of the loose trees
-- that the command detached; what redo would take goes, and the oldest entry where there are too
-- many.
pub record MakesEntry (f : Forest Content) (after : Places) (counts : Counts) (t u : Trail)
    (c d : Command)
    (out : Option EntrySnapshot) : Type 0 where
  pub some : 0 < length (noted t.log.open_entry)
  pub log : u.log ≡ committed t.log
  pub future : u.future ≡ []
  pub entered : Enters c (loose_roots f c.detached.items) after counts t.log.depth t.past u.past out
  pub command : d ≡ record c { detached = d.detached }

abbrev pub Closes : Forest Content → Places → Counts → Trail → Trail → Command → Command → Closing
    → Type 0
Closes f after counts t u c d Nothing = MakesNothing t u c d
Closes f after counts t u c d (Entry out) = MakesEntry f after counts t u c d out
