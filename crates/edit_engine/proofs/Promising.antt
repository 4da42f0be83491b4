-- All that is promised of a command, from what its run comes to.
use Rattle.std.proofs.Common.{◌≡◌, ℕ, Bool, false, List, Option, Some, None, Result, refl, sym, inl}
use Rattle.edit_model.specs.HtmlNames.declared.commands.Command.{Command}
use Rattle.edit_model.specs.HtmlNames.declared.commands.Command.TheVariants.{InsertText}
use Rattle.edit_model.specs.LiveRange.declared.places.Pair.{Pair}
use Rattle.inline_value.specs.EditDoc.Kept.{HoldsOnlyNeeded}
use Rattle.edit_engine.specs.declared.answers.Answer.{Answer}
use Rattle.edit_engine.specs.declared.answers.ExecFault.{ExecFault}
use Rattle.edit_engine.specs.Changes.{CanFollow}
use Rattle.edit_engine.specs.Confinement.{joins_last}
use Rattle.edit_engine.specs.Editing.{EditorValue, document}
use Rattle.edit_engine.specs.Execution.{Tells, command_outcome, host_at}
use Rattle.edit_engine.specs.Going.{joins_by}
use Rattle.edit_engine.specs.Promises.{ExecPromises, PromisesAsIs, is_yes, told_by_exec}
use Rattle.edit_engine.proofs.Confining.{Standing, changes, command_kept, unchanged_kept, characters_kept, given_back, same_back, same_characters}
use Rattle.edit_engine.proofs.GoingOn.{joins_on}

pub promised : (r : Result Answer ExecFault) (at : Option Pair) (joined : Bool) (c : Command) (v : List ℕ) (old new : EditorValue)
    → Standing old.editing → Tells r old.editing new.editing (command_outcome old.editing at (joins_by joined old.editing.going c) v c)
    → HoldsOnlyNeeded (document new) → CanFollow old new → new.following ≡ told_by_exec (is_yes r) at joined (Some c) v old
    → ExecPromises (is_yes r) at joined (Some c) v old new
promised r at joined c v old new stands tells needed followed told =
    let joining = joins_by joined old.editing.going c in
    let joins = joins_on joined old.editing.going c in
    let k = changes r old.editing new.editing at joining c v tells in
    record {
      kept = command_kept old.editing new.editing at joining c v joins stands k;
      characters = characters_kept old.editing new.editing at joining c v joins stands k;
      given_back = given_back old.editing new.editing at joining c v joins stands k;
      needed = needed;
      followed = followed;
      told = told;
    }

-- a command that isn't taken tells nothing
told_untaken : (at : Option Pair) (joined : Bool) (o : Option Command) (v : List ℕ) (w : EditorValue) → told_by_exec false at joined o v w ≡ w.following
told_untaken at joined None v w = refl
told_untaken at joined (Some c) v w = refl

pub promised_as_is : (w : EditorValue) → Standing w.editing → HoldsOnlyNeeded (document w) → PromisesAsIs w
promised_as_is w stands needed at joined o v =
    let joining = joins_by joined w.editing.going InsertText in
    let joins = joins_on joined w.editing.going InsertText in
    record {
      kept = unchanged_kept w.editing w.editing at joining InsertText v joins stands refl o;
      characters = same_characters (host_at at w.editing.state) o w.editing;
      given_back = same_back (joins_last joined w.editing o) w.editing w.editing refl;
      needed = needed;
      followed = inl (refl, refl);
      told = sym (told_untaken at joined o v w);
    }
