-- What the running command changed so far, and the entry that a commit leaves of it.
use Rattle.std.proofs.Common.{◌≡◌, ℕ, zero, suc, ◌<◌, ◌≤◌, Bool, true, false, List, [], ◌∷◌, ◌++◌, length, take, drop, refl, sym, ap, subst, ◌∙◌, arith}
use Rattle.std.specs.Prelude.{IsTrue}
use Rattle.edit_model.specs.DomModel.declared.Content.{Content}
use Rattle.edit_model.specs.DomModel.Forest.{Forest}
use Rattle.step_edits.specs.UndoLog.Log.{Open, Log, IsLog, is_open, is_resumed, noted, first_entry, first_length, committed, committed_with}
use Rattle.step_edits.specs.UndoLog.Log.Open.{Closed, Begun, Resumed}
use Rattle.step_edits.specs.UndoLog.Turning.{forth}
use Rattle.step_edits.proofs.UndoLog.Lists.{drop-first}
use Rattle.step_edits.specs.ForestChanges.Change.{Change, applied}
use Rattle.step_edits.specs.ForestChanges.Down.{IsLeft, GoBackDown}
use Rattle.step_edits.specs.ForestChanges.Named.{named_in}
use Rattle.step_edits.proofs.ForestChanges.ChangeLists.{each_of, back_down}
use Rattle.step_edits.proofs.ForestChanges.Twice.{back_turns, forest_of}
use Rattle.step_edits.specs.EditSteps.declared.step.Step.{Step}
use Rattle.step_edits.specs.EditSteps.Step.{changes_of}
use Rattle.step_edits.specs.DocumentEdits.Followed.{followed}
use Rattle.step_edits.specs.DocumentEdits.Told.{told_all}
use Rattle.step_edits.proofs.DocumentEdits.Following.{told_all_follows}
use Rattle.edit_model.specs.History.{Entry, History, document_of, used}
use Rattle.edit_model.specs.State.{State}
use Rattle.edit_doc.specs.declared.Doc.TheInside.{Inside}
use Rattle.edit_doc.specs.declared.command.Command.{Command}
use Rattle.edit_doc.specs.Changes.{Lead, LeadsSince, IsToldSince, changes_past, changes_since, resumed_at, told_before, steps_told}
use Rattle.edit_doc.specs.Fields.{IsEnded}
use Rattle.edit_doc.specs.History.{edits_before, roots_from, is_hidden, state_of, begun_state, began_with}
use Rattle.edit_doc.specs.Onward.{with_made}
use Rattle.edit_doc.specs.Whole.{Whole, first_edits, history_committed}
use Rattle.edit_doc.specs.Live.{live}
use Rattle.edit_doc.proofs.Inner.{seen, Opened, Entering}
use Rattle.edit_doc.proofs.Joins.{Recorded, recorded_is}
use Rattle.edit_doc.proofs.Laid.{undo_edits}
use Rattle.edit_doc.proofs.Leading.{document_alone, same_document}
use Rattle.edit_doc.proofs.Rolls.{run, g, xs, forest_g, below_g}
use Rattle.edit_doc.proofs.Telling.{Begins, begins_of, told_at_begin, undo_told}
use Rattle.edit_doc.proofs.Turnings.{prunes_after}

-- where an entry is open
leads_with : (o : State) (e : Open Step) (s : State) → Lead (changes_since o s) (document_of o.trees) (document_of s.trees) → LeadsSince (began_with o e) s
leads_with o Closed s h = tt
leads_with o (Begun ys) s h = h
leads_with o (Resumed ys) s h = h

told_with : (o : State) (e : Open Step) (s : State) (old new : List Entry) → changes_past (resumed_at (is_resumed e) old) new ≡ changes_since o s → IsToldSince (began_with o e) s old new
told_with o Closed s old new h = tt
told_with o (Begun ys) s old new h = h
told_with o (Resumed ys) s old new h = h

module _ (d : Inside) (during : Opened d) where
  abbrev now : Forest Content
  now = d.tree.nodes.arena.trees

  abbrev begun : Forest Content
  begun = g d during

  abbrev steps : List Step
  steps = xs d during

  abbrev edits : List Change
  edits = edits_before steps now

  abbrev began : State
  began = begun_state d.tree.nodes.arena d.tree.points.names d.command d.history.log

  abbrev state : State
  state = state_of (live d.tree) d.command d.history.log

  since_begins : Begins d.command.start edits begun
  since_begins =
      let r = run d during in
      let k = is_hidden begun d.command.start in
      let down : GoBackDown k (changes_of steps) now = back_down k (changes_of steps) now (prunes_after begun now d.command.start (forest_of d.tree.nodes.arena during.law) during.ok.hidden) r.can.0 r.names_there in
      begins_of d.command.start edits begun (forest_g d during) during.ok.some_label
      (record {
        loose = λ l from there. r.made.loose l from (below_g d during l there) there;
        leaf = λ l from there. r.made.leaf l from (below_g d during l there) there;
      })
      (back_turns (changes_of steps) now r.can.0).fit
      (each_of (IsLeft k now) (IsLeft k begun) (named_in edits) (λ l w. omega (arith, w, down.stays l)) down.names)

  since_told : changes_since began state ≡ told_before (changes_of steps) now
  unfolding forth
  since_told =
      ap (λ f. told_all edits (with_made f (used edits (roots_from d.command.start begun)))) (document_alone begun (forest_g d during))
      ∙ told_at_begin d.command.start edits begun since_begins 0

  since_leads : Lead (changes_since began state) (document_of began.trees) (document_of state.trees)
  since_leads =
      (λ i. forth followed (since_told i) (document_alone begun (forest_g d during) i))
      ∙ (told_all_follows edits begun since_begins.fits
      ∙ (ap document_of (back_turns (changes_of steps) now (run d during).can.0).state
      ∙ sym (same_document (is_hidden begun d.command.start) now refl (forest_of d.tree.nodes.arena during.law))))

  pub leads_so_far : (v : Whole) → seen d ≡ v → LeadsSince v.began v.state
  leads_so_far v sees = subst (λ (w : Whole). LeadsSince w.began w.state) sees (leads_with began d.history.log.open_entry state since_leads)

-- ---- as it is committed

resumed_from : Log Step → Open Step → ℕ
resumed_from l Closed = 0
resumed_from l (Begun ys) = 0
resumed_from l (Resumed ys) = first_length l.undo

-- the steps that were noted are those of the entry past the ones that it had
noted_past : (l : Log Step) (o : Open Step) → IsLog l → (is_resumed o ≡ true → 0 < length l.undo) → 0 < length (noted o) → drop (resumed_from l o) (first_entry (committed_with l o).undo) ≡ noted o
unfolding resumed_from
noted_past l Closed log more some = absurd (omega arith)
noted_past l (Begun []) log more some = absurd (omega arith)
noted_past l (Begun (x ∷ ys)) log more some = by_depth l.depth refl
  where
    by_depth : (n : ℕ) → l.depth ≡ n → first_entry (take l.depth ((x ∷ ys) ∷ l.undo)) ≡ x ∷ ys
    by_depth zero e = absurd (let some = log.some_depth in omega arith)
    by_depth (suc n) e = ap (λ m. first_entry (take m ((x ∷ ys) ∷ l.undo))) e
noted_past l (Resumed ys) log more some = by_undo l.undo refl
  where
    by_undo : (es : List (List Step)) → l.undo ≡ es → drop (first_length l.undo) (first_entry (committed_with l (Resumed ys)).undo) ≡ ys
    by_undo [] e = absurd (let some = more refl in omega (arith, ap length e))
    by_undo (e' ∷ es) e = subst (λ (us : List (List Step)). drop (first_length us) (first_entry (committed_with (record l { undo = us }) (Resumed ys)).undo) ≡ ys) (sym e) (drop-first e' ys)

module _ (d : Inside) (enters : Entering d) (logged : IsLog d.history.log) (c : Command) (ended : IsEnded d.tree.nodes.arena.next c) where
  abbrev during : Opened d
  during = enters.ending.during

  abbrev log : Log Step
  log = d.history.log

  recorded : Recorded d enters logged c ended (committed log)
  recorded = recorded_is d enters logged c ended

  from_is : (v : Whole) → seen d ≡ v → (o : Open Step) → resumed_at (is_resumed o) v.history.undo ≡ resumed_from log o
  unfolding resumed_from
  from_is v sees Closed = refl
  from_is v sees (Begun ys) = refl
  from_is v sees (Resumed ys) = sym (undo_edits d v sees during.ok)

  entry_told : (v : Whole) → seen d ≡ v → changes_past (resumed_at (is_resumed log.open_entry) v.history.undo) (history_committed v).undo ≡ told_before (changes_of (noted log.open_entry)) d.tree.nodes.arena.trees
  entry_told v sees =
      let k = resumed_at (is_resumed log.open_entry) v.history.undo in
      let f = d.tree.nodes.arena.trees in
      let past = noted_past log log.open_entry logged (λ t. (logged.resumes_last t).0) enters.some in
      sym (undo_told d.tree.nodes.arena.held d.tree.points.names c false d.tree.nodes.arena.next f (committed log).undo enters.past recorded.undo (forest_of d.tree.nodes.arena during.law) k
      ∙ ap (λ (h : History). changes_past k h.undo) (recorded.history v sees))
      ∙ (ap (λ n. steps_told n (committed log).undo f) (from_is v sees log.open_entry)
      ∙ ap (λ (ys : List Step). told_before (changes_of ys) f) past)

  pub told_since : (v : Whole) → seen d ≡ v → IsToldSince v.began v.state v.history.undo (history_committed v).undo
  told_since v sees =
      subst (λ (w : Whole). IsToldSince w.began w.state w.history.undo (history_committed w).undo) sees
      (told_with (began d during) log.open_entry (state d during) (seen d).history.undo (history_committed (seen d)).undo
      (entry_told (seen d) refl ∙ sym (since_told d during)))
