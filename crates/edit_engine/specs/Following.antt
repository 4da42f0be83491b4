-- What an editor keeps for hosts that follow its document: how many calls changed it, and which
-- edits the last of them made.
use Rattle.std.specs.Prelude.{◌≡◌, ℕ, ◌+◌, ◌-◌, ◌^◌, min, ◌≤◌, Bool, true, false, Option, Some, None, refl}
use Rattle.std.specs.Coded.{Coded, code_by, coded×, coded_ℕ, coded_option}
use Rattle.inline_value.specs.UndoLog.declared.log.Committed.{Committed}
use Rattle.inline_value.specs.UndoLog.declared.log.Committed.TheVariants as committed
use Rattle.edit_model.specs.History.{History}
use Rattle.inline_value.specs.EditDoc.Whole.{first_edits}
use Rattle.edit_engine.specs.declared.following.Following.{Following}
use Rattle.edit_engine.specs.declared.following.LastChange.{LastChange}
use Rattle.edit_engine.specs.declared.following.LastChange.TheVariants.{Made, Undone}

abbrev pub last_parts : LastChange → Option ℕ
last_parts (Made kept) = Some kept
last_parts Undone = None

abbrev pub of_last_parts : Option ℕ → LastChange
of_last_parts (Some kept) = Made kept
of_last_parts None = Undone

pub of_last_parts-last_parts : (x : LastChange) → of_last_parts (last_parts x) ≡ x
of_last_parts-last_parts (Made kept) = refl
of_last_parts-last_parts Undone = refl

abbrev pub last_code : Coded LastChange
last_code = code_by (Option ℕ) (coded_option coded_ℕ) last_parts of_last_parts of_last_parts-last_parts

abbrev pub following_code : Coded Following
following_code =
    code_by (LastChange × ℕ) (coded× last_code coded_ℕ) (λ w. (w.last, w.revision))
    (λ c. record { last = c.0; revision = c.1 }) (λ _. refl)

-- ---- after a call

-- a new editor: nothing changed yet
abbrev pub first_following : Following
first_following = record { last = Made 0; revision = 0 }

-- one change more, up to the greatest number that there is
abbrev pub next_revision : ℕ → ℕ
next_revision r = min (r + 1) (2 ^ 64 - 1)

abbrev pub changed_by : LastChange → Following → Following
changed_by last w = record { last = last; revision = next_revision w.revision }

-- a commit changed something where it made an entry, or more edits of one that had some
abbrev pub after_commit : Committed → ℕ → Following → Following
after_commit committed.Nothing kept w = w
after_commit committed.Entry kept w = changed_by (Made kept) w

-- undo and redo, where they took an entry
abbrev pub after_undo : Bool → Following → Following
after_undo true w = changed_by Undone w
after_undo false w = w

abbrev pub after_redo : Bool → Following → Following
after_redo true w = changed_by (Made 0) w
after_redo false w = w

-- ---- what holds of it

-- the edits before those that the last call made are edits of the same entry
abbrev pub IsWithin : LastChange → History → Type 0
IsWithin (Made kept) h = kept ≤ first_edits h.undo
IsWithin Undone h = Unit {0}
