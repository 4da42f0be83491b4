-- So many undos and as many redos after them, and the other way round.
use Rattle.std.specs.Prelude.{◌≡◌, ℕ, ◌≤◌, List, [], ◌∷◌, length, Option, Some, None, IfSome}
use Rattle.edit_model.specs.LiveRange.LivePoints.{LivePoints}
use Rattle.edit_model.specs.History.{Entry, View}
use Rattle.edit_engine.specs.Editing.{Editing, undone, redone, turned_times}

abbrev pub there_and_back : ℕ → (there back : Editing → Editing) → Editing → Editing
there_and_back n there back e = turned_times n back (turned_times n there e)

-- the selection and the marks are those of the view
abbrev pub AreAt : LivePoints → View → Type 0
AreAt points v = (points.selection ≡ v.selection) × (points.marks ≡ v.marks)

-- the view that the next entry has on this side of it
abbrev pub after_first : List Entry → Option View
after_first [] = None
after_first (e ∷ es) = Some e.after

abbrev pub before_first : List Entry → Option View
before_first [] = None
before_first (e ∷ es) = Some e.before

-- the document, the flags, the next label, the cap and the history are as before, and so are the
-- selection and the marks if they were those of the view: if none was moved since
pub record IsBack (view : Option View) (old new : Editing) : Type 0 where
  pub document : new.state.trees ≡ old.state.trees
  pub flags : new.state.flags ≡ old.state.flags
  pub next : new.state.next ≡ old.state.next
  pub cap : new.state.cap ≡ old.state.cap
  pub history : new.history ≡ old.history
  pub points : IfSome view (AreAt old.state.points)
      → (new.state.points.selection ≡ old.state.points.selection)
      × (new.state.points.marks ≡ old.state.points.marks)

-- so it is after as many undos as there are entries for, or fewer, and as many redos
abbrev pub UndosComeBack : Editing → Type 0
UndosComeBack e = (n : ℕ) → n ≤ length e.history.undo
    → IsBack (after_first e.history.undo) e (there_and_back n undone redone e)

-- and after as many redos, and as many undos
abbrev pub RedosComeBack : Editing → Type 0
RedosComeBack e = (n : ℕ) → n ≤ length e.history.redo
    → IsBack (before_first e.history.redo) e (there_and_back n redone undone e)
