-- The history as it lies over a forest: its lengths, and what it becomes as its parts change.
use Rattle.std.proofs.Common.{◌≡◌, ℕ, suc, ◌<◌, ◌≤◌, Bool, false, List, [], ◌∷◌, length, Option, None, refl, sym, ap, ◌∙◌, arith}
use Rattle.std.specs.Prelude.{IsTrue, ◌↔◌}
use Rattle.edit_model.specs.DomModel.declared.Content.{Content}
use Rattle.edit_model.specs.DomModel.Forest.{Forest, parent_of}
use Rattle.step_edits.specs.UndoLog.Log.{first_length}
use Rattle.step_edits.specs.UndoLog.Turning.{inverses_back, inverses_forth}
use Rattle.step_edits.specs.ForestChanges.Change.{Change, applied, inverse}
use Rattle.step_edits.specs.ForestChanges.Named.{named_in}
use Rattle.step_edits.proofs.ForestChanges.ChangeLists.{each_of}
use Rattle.step_edits.specs.EditSteps.declared.step.Step.{Step}
use Rattle.step_edits.specs.EditSteps.Step.{changes_of}
use Rattle.edit_model.specs.NodeArena.declared.NodeRef.{NodeRef}
use Rattle.edit_model.specs.Gives.{labels_of}
use Rattle.edit_doc.specs.declared.command.EntrySnapshot.{EntrySnapshot}
use Rattle.edit_doc.specs.declared.command.Command.{Command}
use Rattle.edit_doc.specs.declared.Doc.TheInside.{Inside}
use Rattle.edit_doc.specs.Whole.{Whole, first_edits}
use Rattle.edit_doc.specs.declared.history.Way.{Way}
use Rattle.edit_doc.specs.History.{forest_before, forest_after, begun_forest, led, edits_of, entries}
use Rattle.edit_doc.specs.declared.history.Way.TheVariants.{Back, Forth}
use Rattle.edit_doc.specs.Sound.{IsSnapshot, next_first, UndoSound, RedoSound, Lies, next_bound}
use Rattle.edit_doc.proofs.Inner.{seen, Ok}
use Rattle.edit_doc.proofs.MadeNodes.{count_changes, count_edits}

-- ---- lengths

module _ (held : List (Option ℕ)) (names : List (List ℕ)) (c : Command) where
  pub sides_length : (w : Way) (r : Bool) (high : ℕ) (f : Forest Content) (es : List (List Step)) (bs : List EntrySnapshot) → Lies w held names r c high f es bs → length bs ≡ length es
  sides_length w r high f [] [] h = refl
  sides_length w r high f [] (b ∷ bs) h = absurd h
  sides_length w r high f (e ∷ es) [] h = absurd h
  sides_length w r high f (e ∷ es) (b ∷ bs) h = ap suc (sides_length w false (next_bound w high b) (led w e f) es bs h.1.1)

entries_length : (w : Way) (names : List (List ℕ)) (f : Forest Content) (es : List (List Step)) (bs : List EntrySnapshot) → length bs ≡ length es → length (entries w names f es bs) ≡ length es
entries_length w names f [] bs h = refl
entries_length w names f (e ∷ es) [] h = h
entries_length w names f (e ∷ es) (b ∷ bs) h = ap suc (entries_length w names (led w e f) es bs (omega arith))

edits_length : (w : Way) (e : List Step) (f : Forest Content) → length (edits_of w e f) ≡ length e
edits_length Back e f = count_edits e f
edits_length Forth e f = count_changes e

first_length_is : (w : Way) (names : List (List ℕ)) (f : Forest Content) (es : List (List Step)) (bs : List EntrySnapshot) → length bs ≡ length es → first_edits (entries w names f es bs) ≡ first_length es
first_length_is w names f [] bs h = refl
first_length_is w names f (e ∷ es) [] h = absurd (omega arith)
first_length_is w names f (e ∷ es) (b ∷ bs) h = edits_length w e f

module _ (d : Inside) (v : Whole) (is : seen d ≡ v) (ok : Ok d) where
  us_length : length d.history.past ≡ length d.history.log.undo
  us_length = sides_length d.tree.nodes.arena.held d.tree.points.names d.command Back d.command.resumed (next_first d.command.start d.history.future) (begun_forest d.history.log d.tree.nodes.arena.trees) d.history.log.undo d.history.past ok.undo

  rs_length : length d.history.future ≡ length d.history.log.redo
  rs_length = sides_length d.tree.nodes.arena.held d.tree.points.names d.command Forth false 0 (begun_forest d.history.log d.tree.nodes.arena.trees) d.history.log.redo d.history.future ok.redo

  pub undo_count : length d.history.log.undo ≡ length v.history.undo
  undo_count = sym (entries_length Back d.tree.points.names (begun_forest d.history.log d.tree.nodes.arena.trees) d.history.log.undo d.history.past us_length) ∙ ap (λ (w : Whole). length w.history.undo) is

  pub redo_count : length d.history.log.redo ≡ length v.history.redo
  redo_count = sym (entries_length Forth d.tree.points.names (begun_forest d.history.log d.tree.nodes.arena.trees) d.history.log.redo d.history.future rs_length) ∙ ap (λ (w : Whole). length w.history.redo) is

  pub undo_edits : first_length d.history.log.undo ≡ first_edits v.history.undo
  undo_edits = sym (first_length_is Back d.tree.points.names (begun_forest d.history.log d.tree.nodes.arena.trees) d.history.log.undo d.history.past us_length) ∙ ap (λ (w : Whole). first_edits w.history.undo) is

  pub redo_edits : first_length d.history.log.redo ≡ first_edits v.history.redo
  redo_edits = sym (first_length_is Forth d.tree.points.names (begun_forest d.history.log d.tree.nodes.arena.trees) d.history.log.redo d.history.future rs_length) ∙ ap (λ (w : Whole). first_edits w.history.redo) is

  nil : {A : Type 0} (xs : List A) → length xs ≡ 0 → xs ≡ []
  nil [] e = refl
  nil (x ∷ xs) e = absurd (omega (arith, e))

  -- whether the last entry can be resumed
  pub resume_answer : (b : Bool) → (IsTrue b ↔ ((0 < length d.history.log.undo) × (d.history.log.redo ≡ []))) → IsTrue b ↔ ((0 < length v.history.undo) × (v.history.redo ≡ []))
  resume_answer b a =
      let n = undo_count in
      let m = redo_count in (
        λ t. (let h = a.0 t in let some = h.0 in let none = ap length h.1 in (omega (arith, n, some), nil v.history.redo (omega (arith, m, none)))),
        λ h. a.1 (let some = h.0 in let none = ap length h.1 in (omega (arith, n, some), nil d.history.log.redo (omega (arith, m, none)))),
      )

-- ---- what a command's fields say of the history

-- Without a resumed entry the history depends on the start alone, and the later the start the more holds; and the first
-- entry may leave room for more labels.
pub snapshot_later : (names : List (List ℕ)) (before after : Forest Content) (e : List Step) (ts : List Change) (b : EntrySnapshot) (detached : List NodeRef) (high start up later : ℕ) →
    IsSnapshot names before after e ts b detached high start → high ≤ up → up ≤ later → IsSnapshot names before after e ts b detached up later
snapshot_later names before after e ts b detached high start up later h le known = record {
  was = h.was;
  is = h.is;
  some_label = h.some_label;
  fresh = h.fresh;
  drawn = (let t = h.drawn in omega arith);
  known = known;
  hidden = h.hidden;
  names_seen = h.names_seen;
  names_there = h.names_there;
  names_old = each_of (λ l. l < high) (λ l. l < up) (named_in (changes_of e)) (λ l lt. omega arith) h.names_old;
  turns_old = each_of (λ l. l < high) (λ l. l < up) (named_in ts) (λ l lt. omega arith) h.turns_old;
  detached_loose = each_of (λ l. (0 < l) × ((l < high) × (parent_of after l ≡ None))) (λ l. (0 < l) × ((l < up) × (parent_of after l ≡ None))) (labels_of detached) (λ l t. (t.0, ((let lt = t.1.0 in omega arith), t.1.1))) h.detached_loose;
  detached_all = h.detached_all;
}

module _ (held : List (Option ℕ)) (names : List (List ℕ)) (c d : Command) (le : c.start ≤ d.start) where
  pub undo_later : (high up : ℕ) (f : Forest Content) (es : List (List Step)) (bs : List EntrySnapshot) → high ≤ up → up ≤ d.start → UndoSound held names false c high f es bs → UndoSound held names false d up f es bs
  undo_later high up f [] [] more known h = tt
  undo_later high up f [] (b ∷ bs) more known h = absurd h
  undo_later high up f (e ∷ es) [] more known h = absurd h
  undo_later high up f (e ∷ es) (b ∷ bs) more known h =
      let first : b.span.first_label ≤ d.start = (let t = h.1.0.drawn in omega arith) in
      (h.0, (snapshot_later names (forest_before e f) f e (inverses_back applied inverse (changes_of e) f) b b.detached.items high c.start up d.start h.1.0 more known, undo_later b.span.first_label b.span.first_label (forest_before e f) es bs (omega arith) first h.1.1))

  next_first_later : (bs : List EntrySnapshot) → next_first c.start bs ≤ next_first d.start bs
  next_first_later [] = le
  next_first_later (b ∷ bs) = omega arith

  next_first_known : (f : Forest Content) (es : List (List Step)) (bs : List EntrySnapshot) → RedoSound held names c f es bs → next_first d.start bs ≤ d.start
  next_first_known f es [] h = omega arith
  next_first_known f [] (b ∷ bs) h = absurd h
  next_first_known f (e ∷ es) (b ∷ bs) h = (let u = h.1.0.drawn in let w = h.1.0.known in omega arith)

  pub redo_later : (f : Forest Content) (es : List (List Step)) (bs : List EntrySnapshot) → RedoSound held names c f es bs → RedoSound held names d f es bs
  redo_later f [] [] h = tt
  redo_later f [] (b ∷ bs) h = absurd h
  redo_later f (e ∷ es) [] h = absurd h
  redo_later f (e ∷ es) (b ∷ bs) h =
      (h.0, (snapshot_later names f (forest_after e f) e (inverses_forth applied inverse (changes_of e) f) b b.detached.items (next_first c.start bs) c.start (next_first d.start bs) d.start h.1.0 (next_first_later bs) (next_first_known (forest_after e f) es bs h.1.1), redo_later (forest_after e f) es bs h.1.1))

-- the first label of an entry is no later than the next one as the command began
pub next_first_low : (held : List (Option ℕ)) (names : List (List ℕ)) (c : Command) (f : Forest Content) (es : List (List Step)) (bs : List EntrySnapshot) → RedoSound held names c f es bs → next_first c.start bs ≤ c.start
next_first_low held names c f es [] h = omega arith
next_first_low held names c f [] (b ∷ bs) h = absurd h
next_first_low held names c f (e ∷ es) (b ∷ bs) h = (let u = h.1.0.drawn in let w = h.1.0.known in omega arith)
