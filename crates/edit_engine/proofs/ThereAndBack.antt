-- As many redos after undos, and as many undos after redos, give back the document.
use Rattle.std.proofs.Common.{◌≡◌, ℕ, zero, suc, ◌≤◌, List, [], ◌∷◌, length, Option, Some, refl, sym, ap, subst, ◌∙◌, arith}
use Rattle.std.specs.Prelude.{IfSome}
use Rattle.edit_model.specs.DomModel.declared.Content.{Content}
use Rattle.edit_model.specs.DomModel.Forest.{Forest}
use Rattle.inline_value.specs.ForestChanges.Change.{Change}
use Rattle.edit_model.specs.State.{State}
use Rattle.edit_model.specs.History.{Entry, History, View, document_of, at_view, undone_state, undone_state_by, undone_history, undone_history_by, redone_state, redone_state_by, redone_history, redone_history_by}
use Rattle.inline_value.specs.EditDoc.Kept.{LeadAllBack, LeadAllForth, HoldsOnlyNeeded}
use Rattle.edit_engine.specs.Editing.{Editing, EditorValue, document, undone, redone, turned_times}
use Rattle.edit_engine.specs.ThereAndBack.{there_and_back, AreAt, after_first, before_first, IsBack, UndosComeBack, RedosComeBack}

-- one more turn may be the last one
turned_last : (n : ℕ) (turn : Editing → Editing) (e : Editing) → turned_times (suc n) turn e ≡ turn (turned_times n turn e)
unfolding turned_times
turned_last zero turn e = refl
turned_last (suc n) turn e = turned_last n turn (turn e)

first_entry : (es : List Entry) (n : ℕ) → suc n ≤ length es → (u : Entry) × (us : List Entry) × (es ≡ u ∷ us)
first_entry [] n some = absurd (omega (arith, some))
first_entry (u ∷ us) n some = (u, us, refl)

rest_long : (es : List Entry) (u : Entry) (us : List Entry) (n : ℕ) → es ≡ u ∷ us → suc n ≤ length es → n ≤ length us
rest_long es u us n is some = let count : length es ≡ suc (length us) = ap length is in omega (arith, some, count)

-- ---- what no turn changes

record SameSettings (a b : State) : Type 0 where
  flags : a.flags ≡ b.flags
  next : a.next ≡ b.next
  cap : a.cap ≡ b.cap

settings_on : (a b c : State) → SameSettings a b → SameSettings b c → SameSettings a c
settings_on a b c first second =
    record { flags = first.flags ∙ second.flags; next = first.next ∙ second.next; cap = first.cap ∙ second.cap }

abbrev KeepsSettings : (Editing → Editing) → Type 0
KeepsSettings turn = (e : Editing) → SameSettings (turn e).state e.state

settings_turned : (n : ℕ) (turn : Editing → Editing) → KeepsSettings turn → KeepsSettings (turned_times n turn)
unfolding turned_times
settings_turned zero turn keeps e = record { flags = refl; next = refl; cap = refl }
settings_turned (suc n) turn keeps e =
    settings_on (turned_times n turn (turn e)).state (turn e).state e.state (settings_turned n turn keeps (turn e)) (keeps e)

undone_settings : KeepsSettings undone
unfolding undone_state at_view
undone_settings e = by_entries e.history.undo
  where
    by_entries : (us : List Entry) → SameSettings (undone_state_by us e.state) e.state
    by_entries [] = record { flags = refl; next = refl; cap = refl }
    by_entries (u ∷ us) = record { flags = refl; next = refl; cap = refl }

redone_settings : KeepsSettings redone
unfolding redone_state at_view
redone_settings e = by_entries e.history.redo
  where
    by_entries : (us : List Entry) → SameSettings (redone_state_by us e.state) e.state
    by_entries [] = record { flags = refl; next = refl; cap = refl }
    by_entries (u ∷ us) = record { flags = refl; next = refl; cap = refl }

-- ---- one way and the other

-- the entries that lie one way, and what a turn that way and one back make of the history and of the state: past the first entry,
-- and back to its view on this side
record Ways (there back : Editing → Editing) (ahead : History → List Entry) (view : Entry → View) : Type 0 where
  past : (e : Editing) (u : Entry) (us : List Entry) → ahead e.history ≡ u ∷ us → ahead (there e).history ≡ us
  again : (x e : Editing) (u : Entry) (us : List Entry) → ahead e.history ≡ u ∷ us → x.history ≡ (there e).history → (back x).history ≡ e.history
  state : (x e : Editing) (u : Entry) (us : List Entry) → ahead e.history ≡ u ∷ us → x.history ≡ (there e).history → (back x).state ≡ at_view (view u) x.state
  there_keeps : KeepsSettings there
  back_keeps : KeepsSettings back

module _ (there back : Editing → Editing) (ahead : History → List Entry) (view : Entry → View) (ways : Ways there back ahead view) where
  back_last : (n : ℕ) (e : Editing) → there_and_back (suc n) there back e ≡ back (there_and_back n there back (there e))
  unfolding turned_times
  back_last n e = turned_last n back (turned_times n there (there e))

  history_back : (n : ℕ) (e : Editing) → n ≤ length (ahead e.history) → (there_and_back n there back e).history ≡ e.history
  unfolding turned_times
  history_back zero e some = refl
  history_back (suc n) e some =
      let t = first_entry (ahead e.history) n some in
      let left = rest_long (ahead e.history) t.0 t.1 n t.2 some in
      let past = ways.past e t.0 t.1 t.2 in
      ap (λ (x : Editing). x.history) (back_last n e)
      ∙ ways.again (there_and_back n there back (there e)) e t.0 t.1 t.2 (history_back n (there e) (subst (λ es. n ≤ length es) (sym past) left))

  state_back : (n : ℕ) (e : Editing) (u : Entry) (us : List Entry) → ahead e.history ≡ u ∷ us → suc n ≤ length (ahead e.history) → (s : State) × ((there_and_back (suc n) there back e).state ≡ at_view (view u) s)
  state_back n e u us is some =
      let y = there_and_back n there back (there e) in
      let left = rest_long (ahead e.history) u us n is some in
      let history = history_back n (there e) (subst (λ es. n ≤ length es) (sym (ways.past e u us is)) left) in
      (y.state, ap (λ (x : Editing). x.state) (back_last n e) ∙ ways.state y e u us is history)

  settings_back : (n : ℕ) (e : Editing) → SameSettings (there_and_back n there back e).state e.state
  settings_back n e =
      settings_on (turned_times n back (turned_times n there e)).state (turned_times n there e).state e.state
      (settings_turned n back ways.back_keeps (turned_times n there e)) (settings_turned n there ways.there_keeps e)

  -- where the first entry has this document on this side, and this is its view
  come_back : (e : Editing) (o : Option View) → ((u : Entry) (us : List Entry) → ahead e.history ≡ u ∷ us → ((view u).document ≡ e.state.trees) × (o ≡ Some (view u))) → (n : ℕ) → n ≤ length (ahead e.history) → IsBack o e (there_and_back n there back e)
  unfolding turned_times at_view
  come_back e o first zero some = record { document = refl; flags = refl; next = refl; cap = refl; history = refl; points = λ _. (refl, refl) }
  come_back e o first (suc n) some =
      let t = first_entry (ahead e.history) n some in
      let k = state_back n e t.0 t.1 t.2 some in
      let own = first t.0 t.1 t.2 in
      let settings = settings_back (suc n) e in
      record {
        document = ap (λ (s : State). s.trees) k.1 ∙ own.0;
        flags = settings.flags;
        next = settings.next;
        cap = settings.cap;
        history = history_back (suc n) e some;
        points = λ at. (
            let placed : AreAt e.state.points (view t.0) = subst (λ p. IfSome p (AreAt e.state.points)) own.1 at in
            (ap (λ (s : State). s.points.selection) k.1 ∙ sym placed.0, ap (λ (s : State). s.points.marks) k.1 ∙ sym placed.1));
      }

-- ---- undos, and redos

undo_ways : Ways undone redone (λ h. h.undo) (λ u. u.after)
unfolding undone_history redone_history redone_state
undo_ways = record {
  past = λ e u us is. ap (λ (es : List Entry). (undone_history_by es e.history).undo) is;
  again = λ x e u us is same. (
      ap redone_history same
      ∙ (ap (λ (es : List Entry). redone_history_by (undone_history_by es e.history).redo (undone_history_by es e.history)) is
      ∙ ap (λ (es : List Entry). record e.history { undo = es }) (sym is)));
  state = λ x e u us is same. ap (λ (h : History). redone_state_by h.redo x.state) same ∙ ap (λ (es : List Entry). redone_state_by (undone_history_by es e.history).redo x.state) is;
  there_keeps = undone_settings;
  back_keeps = redone_settings;
}

redo_ways : Ways redone undone (λ h. h.redo) (λ u. u.before)
unfolding undone_history redone_history undone_state
redo_ways = record {
  past = λ e u us is. ap (λ (es : List Entry). (redone_history_by es e.history).redo) is;
  again = λ x e u us is same. (
      ap undone_history same
      ∙ (ap (λ (es : List Entry). undone_history_by (redone_history_by es e.history).undo (redone_history_by es e.history)) is
      ∙ ap (λ (es : List Entry). record e.history { redo = es }) (sym is)));
  state = λ x e u us is same. ap (λ (h : History). undone_state_by h.undo x.state) same ∙ ap (λ (es : List Entry). undone_state_by (redone_history_by es e.history).undo x.state) is;
  there_keeps = redone_settings;
  back_keeps = undone_settings;
}

-- the document after the last entry, and before the next one, is the one that is there
last_document : (f : Forest Content) (xss : List (List Change)) (es : List Entry) (u : Entry) (us : List Entry) → es ≡ u ∷ us → LeadAllBack f xss es → u.after.document ≡ document_of f
last_document f xss [] u us is h = absurd (let e : [] ≡ u ∷ us = is in cc)
last_document f [] (e ∷ es) u us is h = absurd h
last_document f (x ∷ xs) (e ∷ es) u us is h =
    let same : e ≡ u = (let t = is in cc) in
    ap (λ (y : Entry). y.after.document) (sym same) ∙ h.0.after

next_document : (f : Forest Content) (xss : List (List Change)) (es : List Entry) (u : Entry) (us : List Entry) → es ≡ u ∷ us → LeadAllForth f xss es → u.before.document ≡ document_of f
next_document f xss [] u us is h = absurd (let e : [] ≡ u ∷ us = is in cc)
next_document f [] (e ∷ es) u us is h = absurd h
next_document f (x ∷ xs) (e ∷ es) u us is h =
    let same : e ≡ u = (let t = is in cc) in
    ap (λ (y : Entry). y.before.document) (sym same) ∙ h.0.before

pub undos_come_back : (v : EditorValue) → HoldsOnlyNeeded (document v) → UndosComeBack v.editing
undos_come_back v (f, xs, ys, needed) =
    let h = v.editing.history in
    come_back undone redone (λ h. h.undo) (λ u. u.after) undo_ways v.editing (after_first h.undo)
    (λ u us is. (last_document f xs h.undo u us is needed.undo ∙ needed.document, ap after_first is))

pub redos_come_back : (v : EditorValue) → HoldsOnlyNeeded (document v) → RedosComeBack v.editing
redos_come_back v (f, xs, ys, needed) =
    let h = v.editing.history in
    come_back redone undone (λ h. h.redo) (λ u. u.before) redo_ways v.editing (before_first h.redo)
    (λ u us is. (next_document f ys h.redo u us is needed.redo ∙ needed.document, ap before_first is))
