-- The entries of a document are undone, and redone as they are read.
use Rattle.std.proofs.Common.{◌≡◌, ℕ, zero, suc, ◌+◌, ◌<◌, ◌≤◌, List, [], ◌∷◌, ◌++◌, length, map, take, drop, reverse, Option, Some, None, refl, sym, ap, subst, ◌∙◌, arith, add-one}
use Rattle.std.proofs.Math.Seq.{take-append_seam, drop-append_seam, take-length, drop-length}
use Rattle.std.specs.Option.{option_map}
use Rattle.std.specs.Prelude.{slice_get, IsSome}
use Rattle.std.proofs.lemmas.List.{map-append, length-append, length-reverse, reverse-append, reverse-reverse}
use Rattle.edit_model.specs.DomModel.declared.Content.{Content}
use Rattle.edit_model.specs.DomModel.Forest.{Forest}
use Rattle.edit_model.specs.LiveRange.LivePoints.{LivePoints}
use Rattle.step_edits.specs.ForestChanges.Change.{Change}
use Rattle.edit_model.specs.declared.settings.Flags.{Flags}
use Rattle.edit_model.specs.declared.settings.Setting.{Setting}
use Rattle.edit_model.specs.History.{Entry, History, document_of, at_view, undone_state, undone_state_by, undone_history, undone_history_by, redone_state, redone_state_by, redone_history, redone_history_by}
use Rattle.edit_doc.specs.Kept.{LeadAllBack, HoldsOnlyNeeded}
use Rattle.edit_doc.specs.declared.logged.LoggedEdit.{LoggedEdit}
use Rattle.edit_doc.specs.declared.logged.MadeNode.{MadeNode}
use Rattle.edit_doc.specs.Logged.{Logged, logged_entry, first_made, first_logged, HasMoved}
use Rattle.edit_doc.specs.Whole.{Whole, with_state}

-- ---- lists

-- the list before and after one more item of it
pub record OneMore {A : Type 0} (xs : List A) (i : ℕ) : Type 0 where
  pub item : A
  pub here : drop i xs ≡ item ∷ drop (i + 1) xs
  pub taken : take (i + 1) xs ≡ take i xs ++ item ∷ []
  pub inverse : reverse (take (i + 1) xs) ≡ item ∷ reverse (take i xs)

pub one_more : {A : Type 0} (xs : List A) (i : ℕ) → i < length xs → OneMore xs i
one_more xs i h =
    let p = parts xs i h in
    record {
      item = p.0;
      here = rw add-one p.1;
      taken = rw add-one p.2;
      inverse = rw add-one (ap (λ ys. reverse ys) p.2 ∙ reverse-append (take i xs) (p.0 ∷ []));
    }
  where
    parts : {A : Type 0} (xs : List A) (i : ℕ) → i < length xs → (x : A) × (drop i xs ≡ x ∷ drop (suc i) xs) × (take (suc i) xs ≡ take i xs ++ x ∷ [])
    parts [] i h = absurd (omega (arith, h))
    parts (y ∷ ys) zero h = (y, refl, refl)
    parts (y ∷ ys) (suc i) h = (let r = parts ys i (omega (arith, h)) in (r.0, r.1, ap (λ t. y ∷ t) r.2))

-- ---- moves across the cursor

-- what is as it was, with another document and the points and overrides at it
abbrev moved : Whole → List Entry → List Entry → Whole → Whole
moved old us rs w = record old {
  state = record old.state {
    trees = w.state.trees;
    points = record old.state.points { selection = w.state.points.selection; scratch = w.state.points.scratch; marks = w.state.points.marks };
    overrides = w.state.overrides;
  };
  history = record old.history { undo = us; redo = rs };
}

pub moved_none : (d : Whole) → HasMoved d d d.history.undo d.history.redo
moved_none d = record { undo = refl; redo = refl; rest = refl }

pub moved_on : (a b c : Whole) (us rs vs ws : List Entry) → HasMoved a b us rs → HasMoved b c vs ws → HasMoved a c vs ws
moved_on a b c us rs vs ws h k = record {
  undo = k.undo;
  redo = k.redo;
  rest = k.rest ∙ ap (λ (w : Whole). moved w vs ws c) h.rest;
}

abbrev undone_by : List Entry → Whole → Whole
undone_by es d = record d { state = undone_state_by es d.state; history = undone_history_by es d.history }

abbrev redone_by : List Entry → Whole → Whole
redone_by es d = record d { state = redone_state_by es d.state; history = redone_history_by es d.history }

pub moved_back : (old d new : Whole) (e : Entry) (es rs : List Entry) → HasMoved old d (e ∷ es) rs → new ≡ record d { state = undone_state d.history d.state; history = undone_history d.history } → HasMoved old new es (e ∷ rs)
unfolding undone_state undone_history at_view
moved_back old d new e es rs h is =
    let w : Whole = moved old (e ∷ es) rs d in
    let eq : new ≡ undone_by (e ∷ es) w = is ∙ (ap (λ us. undone_by us d) h.undo ∙ ap (undone_by (e ∷ es)) h.rest) in
    record {
      undo = ap (λ (v : Whole). v.history.undo) eq;
      redo = ap (λ (v : Whole). v.history.redo) eq;
      rest = eq ∙ sym (ap (moved old es (e ∷ rs)) eq);
    }

pub moved_forth : (old d new : Whole) (us : List Entry) (e : Entry) (es : List Entry) → HasMoved old d us (e ∷ es) → new ≡ record d { state = redone_state d.history d.state; history = redone_history d.history } → HasMoved old new (e ∷ us) es
unfolding redone_state redone_history at_view
moved_forth old d new us e es h is =
    let w : Whole = moved old us (e ∷ es) d in
    let eq : new ≡ redone_by (e ∷ es) w = is ∙ (ap (λ rs. redone_by rs d) h.redo ∙ ap (redone_by (e ∷ es)) h.rest) in
    record {
      undo = ap (λ (v : Whole). v.history.undo) eq;
      redo = ap (λ (v : Whole). v.history.redo) eq;
      rest = eq ∙ sym (ap (moved old (e ∷ us) es) eq);
    }

-- ---- all the way and back

-- the document is the one after the entry that undo would take
after_of : (f : Forest Content) (xs : List (List Change)) (us : List Entry) (e : Entry) (es : List Entry) → LeadAllBack f xs us → us ≡ e ∷ es → e.after.document ≡ document_of f
after_of f [] [] e es h is = absurd (let t : [] ≡ e ∷ es = is in cc)
after_of f [] (y ∷ ys) e es h is = absurd h
after_of f (x ∷ xs) [] e es h is = absurd h
after_of f (x ∷ xs) (y ∷ ys) e es h is = ap (λ (v : Entry). v.after.document) (let t : y ∷ ys ≡ e ∷ es = is in let u : e ≡ y = cc in u) ∙ h.0.after

last_is : (d : Whole) (e : Entry) (es : List Entry) → HoldsOnlyNeeded d → d.history.undo ≡ e ∷ es → e.after.document ≡ d.state.trees
last_is d e es h is = after_of h.0 h.1 d.history.undo e es h.3.undo is ∙ h.3.document

some_last : (d e : Whole) (us : List Entry) → 0 < length us → d.history.undo ≡ us → e.history.undo ≡ us → HoldsOnlyNeeded d → HoldsOnlyNeeded e → e.state.trees ≡ d.state.trees
some_last d e [] more a b h k = absurd (omega (arith, more))
some_last d e (u ∷ us) more a b h k = sym (last_is e u us k b) ∙ last_is d u us h a

pub record Returned (old mid new : Whole) : Type 0 where
  pub moved : HasMoved old new old.history.undo old.history.redo
  pub trees : new.state.trees ≡ old.state.trees
  pub listed : take (length old.history.undo) mid.history.redo ≡ reverse old.history.undo
  pub within : length old.history.undo ≤ length mid.history.redo

pub returned : (old mid new : Whole) → 0 < length old.history.undo → HasMoved old mid [] (reverse old.history.undo ++ old.history.redo) →
    HasMoved mid new (reverse (take (length old.history.undo) mid.history.redo)) (drop (length old.history.undo) mid.history.redo) →
    HoldsOnlyNeeded old → HoldsOnlyNeeded new → Returned old mid new
returned old mid new more back forth was is =
    let us = old.history.undo in
    let count : length us ≡ length (reverse us) = sym (length-reverse us) in
    let all = back.redo in
    let taken : take (length us) mid.history.redo ≡ reverse us = rw (all, count) (take-append_seam (reverse us) old.history.redo) in
    let detached : drop (length us) mid.history.redo ≡ old.history.redo = rw (all, count) (drop-append_seam (reverse us) old.history.redo) in
    let inverse : reverse (take (length us) mid.history.redo) ≡ us = ap (λ xs. reverse xs) taken ∙ reverse-reverse us in
    let on = moved_on old mid new [] (reverse us ++ old.history.redo) (reverse (take (length us) mid.history.redo)) (drop (length us) mid.history.redo) back forth in
    let m : HasMoved old new us old.history.redo = subst (λ xs. HasMoved old new xs old.history.redo) inverse (subst (λ xs. HasMoved old new (reverse (take (length us) mid.history.redo)) xs) detached on) in
    record {
      moved = m;
      trees = some_last old new us more refl m.undo was is;
      listed = taken;
      within = rw all (omega (arith, length-append (reverse us) old.history.redo, count));
    }

-- the points, the overrides and the flags are put back
pub all_back : (old new : Whole) (points : LivePoints) (overrides : List Setting) (flags : Flags) → HasMoved old new old.history.undo old.history.redo → new.state.trees ≡ old.state.trees →
    points ≡ old.state.points → overrides ≡ old.state.overrides → flags ≡ old.state.flags → with_state new (record new.state { points = points; overrides = overrides; flags = flags }) ≡ old
all_back old new points overrides flags h trees p o f =
    ap (λ (w : Whole). with_state w (record w.state { points = points; overrides = overrides; flags = flags })) h.rest
    ∙ (λ i. record old { state = record old.state { trees = trees i; points = p i; overrides = o i; flags = f i } })

pub all_taken : {A : Type 0} (xs : List A) (n i : ℕ) → n ≤ i → i ≤ n → n ≡ length xs → (take i xs ≡ xs) × (drop i xs ≡ [])
all_taken xs n i up low e =
    let same : i ≡ length xs = omega (arith, up, low, e) in
    (rw same (take-length xs), rw same (drop-length xs))

-- a document outside commands stays so
pub still_closed : (old d : Whole) (us rs : List Entry) → HasMoved old d us rs → old.began ≡ None → d.began ≡ None
still_closed old d us rs h closed = ap (λ (w : Whole). w.began) h.rest ∙ closed

pub some_detached : {A : Type 0} (xs ys : List A) (i : ℕ) → i < length xs → ys ≡ drop i xs → 0 < length ys
some_detached xs ys i lt e = rw (e, (one_more xs i lt).here) (omega arith)

-- one entry more is undone
pub undone_one : (old d new : Whole) (us rs : List Entry) (i : ℕ) → i < length us → HasMoved old d (drop i us) (reverse (take i us) ++ rs) →
    new ≡ record d { state = undone_state d.history d.state; history = undone_history d.history } → HasMoved old new (drop (i + 1) us) (reverse (take (i + 1) us) ++ rs)
undone_one old d new us rs i lt h is =
    let o = one_more us i lt in
    let m = moved_back old d new o.item (drop (i + 1) us) (reverse (take i us) ++ rs) (subst (λ xs. HasMoved old d xs (reverse (take i us) ++ rs)) o.here h) is in
    subst (λ xs. HasMoved old new (drop (i + 1) us) (xs ++ rs)) (sym o.inverse) m

-- and redone
pub redone_one : (old d new : Whole) (rs : List Entry) (i : ℕ) → i < length rs → HasMoved old d (reverse (take i rs)) (drop i rs) →
    new ≡ record d { state = redone_state d.history d.state; history = redone_history d.history } → HasMoved old new (reverse (take (i + 1) rs)) (drop (i + 1) rs)
redone_one old d new rs i lt h is =
    let o = one_more rs i lt in
    let m = moved_forth old d new (reverse (take i rs)) o.item (drop (i + 1) rs) (subst (λ xs. HasMoved old d (reverse (take i rs)) xs) o.here h) is in
    subst (λ xs. HasMoved old new xs (drop (i + 1) rs)) (sym o.inverse) m

-- one entry more is listed
pub listed_more : (rs ds : List Entry) (i : ℕ) → i < length rs → ds ≡ drop i rs → (es : List Logged) → es ≡ map logged_entry (take i rs) → (more : List Logged) → more ≡ es ++ map logged_entry (take 1 ds) →
    more ≡ map logged_entry (take (i + 1) rs)
listed_more rs ds i lt d es e more m =
    let o = one_more rs i lt in
    m
    ∙ (ap (λ xs. xs ++ map logged_entry (take 1 ds)) e
    ∙ (ap (λ xs. map logged_entry (take i rs) ++ map logged_entry (take 1 xs)) (d ∙ o.here)
    ∙ (sym (map-append logged_entry (take i rs) (o.item ∷ [])) ∙ ap (λ xs. map logged_entry xs) (sym o.taken))))

-- the entry that redo would take is listed, from its nodes and, where undo would take it, its edits
pub next_listed : (h : History) (before more : List Logged) (made : List MadeNode) (edits : List LoggedEdit) → 0 < length h.redo → made ≡ first_made h.redo → edits ≡ first_logged (redone_history h).undo →
    more ≡ before ++ record { made = made; edits = edits } ∷ [] → more ≡ before ++ map logged_entry (take 1 h.redo)
unfolding redone_history
next_listed h before more made edits some nodes last is = is ∙ ap (λ xs. before ++ xs) (by_redo h.redo some nodes last)
  where
    by_redo : (rs : List Entry) → 0 < length rs → made ≡ first_made rs → edits ≡ first_logged (redone_history_by rs h).undo → record { made = made; edits = edits } ∷ [] ≡ map logged_entry (take 1 rs)
    by_redo [] some nodes last = absurd (omega (arith, some))
    by_redo (r ∷ rs) some nodes last = λ i. record { made = nodes i; edits = last i } ∷ []

pub some_of : {A B : Type 0} (g : A → B) (o : Option A) (xs : List B) → option_map g o ≡ slice_get xs 0 → 0 < length xs → IsSome o
some_of g None [] e h = absurd (omega (arith, h))
some_of g None (x ∷ xs) e h = absurd (let t : None ≡ Some x = e in cc)
some_of g (Some y) xs e h = refl
