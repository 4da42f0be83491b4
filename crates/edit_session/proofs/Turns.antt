-- Going through the history so many times.
use Rattle.std.proofs.Common.{◌≡◌, ℕ, zero, suc, ◌+◌, ◌-◌, ◌<◌, ◌≤◌, List, [], ◌∷◌, length, Bool, false, true≢false, refl, sym, ap, arith}
use Rattle.std.specs.Prelude.{min, IsTrue, ◌↔◌}
use Rattle.edit_model.specs.History.{Entry, undone_state, undone_history, redone_state, redone_history}
use Rattle.edit_engine.specs.declared.turning.Turn.{Turn}
use Rattle.edit_engine.specs.declared.turning.Turn.TheVariants.{Undo, Redo}
use Rattle.edit_engine.specs.Editing.{Editing, undone, redone, turned_times}
use Rattle.edit_engine.specs.Turning.{entries_of, turned_by}

-- one turn more
pub turn_more : (n m : ℕ) (turn : Editing → Editing) (e : Editing) → n ≡ suc m → turned_times n turn e ≡ turned_times m turn (turn e)
unfolding turned_times
turn_more n m turn e is = ap (λ k. turned_times k turn e) is

pub turn_none : (n : ℕ) (turn : Editing → Editing) (e : Editing) → n ≡ 0 → turned_times n turn e ≡ e
unfolding turned_times
turn_none n turn e is = ap (λ k. turned_times k turn e) is

undone_length : (e : Editing) → 0 < length e.history.undo → length e.history.undo ≡ suc (length (undone e).history.undo)
unfolding undone_history
undone_length e some = by_entries e.history.undo refl some
  where
    by_entries : (es : List Entry) → e.history.undo ≡ es → 0 < length es → length e.history.undo ≡ suc (length (undone e).history.undo)
    by_entries [] is h = absurd (omega (arith, h))
    by_entries (x ∷ xs) is h = rw is refl

redone_length : (e : Editing) → 0 < length e.history.redo → length e.history.redo ≡ suc (length (redone e).history.redo)
unfolding redone_history
redone_length e some = by_entries e.history.redo refl some
  where
    by_entries : (es : List Entry) → e.history.redo ≡ es → 0 < length es → length e.history.redo ≡ suc (length (redone e).history.redo)
    by_entries [] is h = absurd (omega (arith, h))
    by_entries (x ∷ xs) is h = rw is refl

undone_none : (e : Editing) → length e.history.undo ≡ 0 → undone e ≡ e
unfolding undone_state undone_history
undone_none e none = by_entries e.history.undo refl none
  where
    by_entries : (es : List Entry) → e.history.undo ≡ es → length es ≡ 0 → undone e ≡ e
    by_entries [] is h = rw is refl
    by_entries (x ∷ xs) is h = absurd (omega (arith, h))

redone_none : (e : Editing) → length e.history.redo ≡ 0 → redone e ≡ e
unfolding redone_state redone_history
redone_none e none = by_entries e.history.redo refl none
  where
    by_entries : (es : List Entry) → e.history.redo ≡ es → length es ≡ 0 → redone e ≡ e
    by_entries [] is h = rw is refl
    by_entries (x ∷ xs) is h = absurd (omega (arith, h))

-- a turn takes one entry of those that are there
pub turned_length : (way : Turn) (e : Editing) → 0 < length (entries_of way e.history) → length (entries_of way e.history) ≡ suc (length (entries_of way (turned_by way e).history))
turned_length Undo e some = undone_length e some
turned_length Redo e some = redone_length e some

pub turned_none : (way : Turn) (e : Editing) → length (entries_of way e.history) ≡ 0 → turned_by way e ≡ e
turned_none Undo e none = undone_none e none
turned_none Redo e none = redone_none e none

-- so many are left of those asked for and there
pub one_left : (count taken there later : ℕ) → taken < count → there ≡ suc later → min (count - taken) there ≡ suc (min (count - (taken + 1)) later)
one_left count taken there later more is = omega (arith, more, is)

pub none_left : (count taken there : ℕ) → count ≤ taken → min (count - taken) there ≡ 0
none_left count taken there done = omega (arith, done)

pub none_there : (count taken there : ℕ) → there ≡ 0 → min (count - taken) there ≡ 0
none_there count taken there none = omega (arith, none)

pub none_of : (n : ℕ) (b : Bool) → (IsTrue b ↔ (0 < n)) → b ≡ false → n ≡ 0
none_of zero b h off = refl
none_of (suc n) b h off = absurd (let t : IsTrue b = h.1 (omega arith) in let e = rw off at t in true≢false (sym e))
