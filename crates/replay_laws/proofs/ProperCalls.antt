-- Each act of a session keeps the document and the entries within the grammar, and so the log is.
use Rattle.std.proofs.Common.{◌≡◌, ℕ, Bool, true, false, cond, not, nat_lt, eqb, List, [], ◌∷◌, length, map, reverse, Option, Some, None, refl, sym, subst}
use Rattle.std.specs.Prelude.{if◌then◌else◌}
use Rattle.std.specs.List.{flat_map}
use Rattle.std.proofs.lemmas.List.{reverse-reverse}
use Rattle.command_gate.specs.Denied.{is_denied}
use Rattle.edit_model.specs.HtmlNames.Commands.{command_named}
use Rattle.edit_model.specs.HtmlNames.declared.commands.Command.{Command}
use Rattle.edit_model.specs.HtmlNames.declared.commands.Command.TheVariants.{InsertText}
use Rattle.edit_model.specs.DomModel.declared.Content.{Content}
use Rattle.edit_model.specs.DomModel.ArenaState.{ArenaState as Arena}
use Rattle.edit_model.specs.DomModel.Document.{page_depth}
use Rattle.edit_model.specs.DomModel.Forest.{Forest}
use Rattle.edit_model.specs.LiveRange.declared.places.Pair.{Pair}
use Rattle.inline_value.specs.ForestChanges.Change.{Change}
use Rattle.inline_value.specs.ForestChanges.Named.{Each}
use Rattle.inline_value.proofs.ForestChanges.ChangeLists.{each_join}
use Rattle.edit_model.specs.State.{State}
use Rattle.edit_model.specs.History.{Entry, History, view_of, begun, rested, at_view, used, entry_of, with_entry, joined, joined_in, recorded, undone_state, undone_state_by, undone_history, undone_history_by, redone_state, redone_state_by, redone_history, redone_history_by}
use Rattle.edit_model.specs.declared.settings.Setting.{Setting}
use Rattle.edit_model.specs.Run.{Run, select}
use Rattle.edit_model.specs.Valid.{IsValid}
use Rattle.edit_model.specs.Action.{acted}
use Rattle.edit_model.proofs.Commands.{valid_begun}
use Rattle.inline_value.specs.EditDoc.Logged.{logged_entry}
use Rattle.inline_value.specs.EditDoc.Onward.{LeadFrom}
use Rattle.inline_value.specs.EditDoc.Whole.{first_state}
use Rattle.inline_value.proofs.EditDoc.MadeApart.{each_used}
use Rattle.step_text.specs.declared.line.StepLine.{StepLine}
use Rattle.edit_engine.specs.Commands.{row_of, action_of, is_enabled_in}
use Rattle.edit_engine.specs.Editing.{Editing, new_editing, undone, redone, going_past}
use Rattle.edit_engine.specs.Execution.{Outcome, Refused, Deep, Full, Acted, depth_limit, host_at, run_at, ran, answered, after_run, run_outcome, command_outcome, outcome_at, outcome_by, outcome, joined_outcome, gated_outcome, replaced_outcome, outcome_with}
use Rattle.edit_engine.specs.Going.{joins_by}
use Rattle.edit_engine.specs.Logs.{entry_steps, log_steps}
use Rattle.edit_engine.specs.Places.{pair_at, placed_pair, range_in, selecting, unselecting, marking, unmarking}
use Rattle.edit_session.specs.Replies.{is_crowded}
use Rattle.grammar_laws.specs.Proper.{AllNodes, IsText, IsProper, IsProperChange, IsProperNode, IsProperSetting, IsProperState}
use Rattle.grammar_laws.specs.Runs.{Proper}
use Rattle.grammar_laws.proofs.Keeping.{proper_selected, proper_selection, settings_none}
use Rattle.grammar_laws.proofs.Nodes.{nodes_tree}
use Rattle.grammar_laws.proofs.ProperRuns.{proper_bind, proper_final, proper_select}
use Rattle.grammar_laws.proofs.Texts.{each_take}
use Rattle.replay_laws.specs.Calls.{Call, Exec, ExecJoined, ExecGated, ExecWith, Replace, Select, SelectPoints, Unselect, Mark, MarkPoints, Unmark, Undo, Redo, after_outcome, after_replacing, after_options, after_selecting, after_marking, called, after_calls, HasText, IsOfCalls}
use Rattle.replay_laws.proofs.Calls.{Keeps, keeps_call, IsPage, tracked_first}
use Rattle.replay_laws.proofs.Entries.{IsKnown}
use Rattle.replay_laws.proofs.Labels.{IsInGrammar}
use Rattle.replay_laws.proofs.ProperCommands.{action_proper}
use Rattle.replay_laws.proofs.ProperEntries.{IsProperEntry, entry_lines}
use Rattle.replay_laws.proofs.Spelling.{Leads, each_leads, each_back, each_both}
use Rattle.replay_laws.proofs.Tracking.{IsTracked}

-- the state of the editor, and all entries, are of the grammar
pub record IsProperEditing (e : Editing) : Type 0 where
  pub state : IsProperState e.state
  pub undo : Each IsProperEntry e.history.undo
  pub redo : Each IsProperEntry e.history.redo

-- ---- other states

rested_proper : (t : State) → IsProperState t → IsProperState (rested t)
unfolding rested
rested_proper t h = record { nodes = nodes_tree IsProper t.trees 0 h.nodes; settings = h.settings; made = tt; edits = tt }

begun_proper : (host : Option ℕ) (keeping : Bool) (s : State) → IsProperState s → IsProperState (begun host keeping s)
unfolding begun
begun_proper host keeping s h = record { nodes = h.nodes; settings = h.settings; made = tt; edits = tt }

-- the points of a state tell nothing of this
same_proper : (s t : State) → IsProperState s → t.trees ≡ s.trees → t.overrides ≡ s.overrides → t.made ≡ s.made → t.edits ≡ s.edits → IsProperState t
same_proper s t h trees overrides made edits = record {
  nodes = subst (λ (f : Forest Content). AllNodes IsProper f) (sym trees) h.nodes;
  settings = subst (λ (w : List Setting). Each IsProperSetting w) (sym overrides) h.settings;
  made = subst (λ (w : List (ℕ × Content)). Each IsProperNode w) (sym made) h.made;
  edits = subst (λ (w : List Change). Each IsProperChange w) (sym edits) h.edits;
}

-- ---- a run

module _ (s t : State) (p : IsProperState s) (q : IsProperState t) where
  own_proper : IsProperEntry (entry_of s t)
  unfolding view_of
  own_proper = record {
    before = nodes_tree IsProper s.trees 0 p.nodes;
    after = nodes_tree IsProper t.trees 0 q.nodes;
    made = each_used IsProperNode t.edits t.made q.made;
    edits = q.edits;
  }

  longer_proper : (es : List Entry) → Each IsProperEntry es → Each IsProperEntry (joined_in t es)
  unfolding view_of
  longer_proper [] h = tt
  longer_proper (x ∷ es) h = (
    record {
      before = h.0.before;
      after = nodes_tree IsProper t.trees 0 q.nodes;
      made = each_join IsProperNode x.made (used t.edits t.made) h.0.made (each_used IsProperNode t.edits t.made q.made);
      edits = each_join IsProperChange x.edits t.edits h.0.edits q.edits;
    },
    h.1,
  )

  record AreProper (h : History) : Type 0 where
    undo : Each IsProperEntry h.undo
    redo : Each IsProperEntry h.redo

  recorded_proper : (joining : Bool) (h : History) → Each IsProperEntry h.undo → Each IsProperEntry h.redo → AreProper (recorded joining s t h)
  unfolding recorded with_entry joined
  recorded_proper joining h undo redo = by_edits (eqb (length t.edits) 0) joining
    where
      by_edits : (b j : Bool) → AreProper (cond b h (cond j (joined t h) (with_entry (entry_of s t) h)))
      by_edits true j = record { undo = undo; redo = redo }
      by_edits false true = record { undo = longer_proper h.undo undo; redo = redo }
      by_edits false false = record { undo = each_take IsProperEntry h.depth (entry_of s t ∷ h.undo) (own_proper, undo); redo = tt }

run_proper : (e : Editing) (host : Option ℕ) (keeping joining : Bool) (c : Command) (m : Run Bool) → Proper m → IsValid e.state → IsProperEditing e → IsProperEditing (after_run e joining c (ran host e.state keeping m))
run_proper e host keeping joining c m stays is h =
    let s = e.state in
    let b = begun_proper host keeping s h.state in
    let valid = valid_begun host keeping s is in
    let q : IsProperState (ran host s keeping m) = proper_final m (begun host keeping s) valid b (stays.stays (begun host keeping s) valid b) in
    let lists = recorded_proper s (ran host s keeping m) h.state q joining e.history h.undo h.redo in
    record { state = rested_proper (ran host s keeping m) q; undo = lists.undo; redo = lists.redo }

-- ---- through the history

undone_proper : (e : Editing) → IsProperEditing e → IsProperEditing (undone e)
unfolding undone_state undone_history at_view
undone_proper e h = by_entries e.history.undo h.undo
  where
    by_entries : (es : List Entry) → Each IsProperEntry es → IsProperEditing (record { state = undone_state_by es e.state; history = undone_history_by es e.history; going = going_past es e.going })
    by_entries [] k = record { state = h.state; undo = h.undo; redo = h.redo }
    by_entries (x ∷ xs) k = record {
      state = record { nodes = k.0.before; settings = settings_none; made = h.state.made; edits = h.state.edits };
      undo = k.1;
      redo = (k.0, h.redo);
    }

redone_proper : (e : Editing) → IsProperEditing e → IsProperEditing (redone e)
unfolding redone_state redone_history at_view
redone_proper e h = by_entries e.history.redo h.redo
  where
    by_entries : (es : List Entry) → Each IsProperEntry es → IsProperEditing (record { state = redone_state_by es e.state; history = redone_history_by es e.history; going = going_past es e.going })
    by_entries [] k = record { state = h.state; undo = h.undo; redo = h.redo }
    by_entries (x ∷ xs) k = record {
      state = record { nodes = k.0.after; settings = settings_none; made = h.state.made; edits = h.state.edits };
      undo = (k.0, h.undo);
      redo = k.1;
    }

module _ (page : Forest Content) (start cap : ℕ) where
  -- ---- commands

  abbrev After : Outcome → Type 0
  After (Acted answer after) = IsProperEditing after
  After _ = Unit {0}

  after_by : (refused deep full answer : Bool) (x y : Editing) → IsProperEditing x → IsProperEditing y → After (cond refused Refused (cond deep Deep (cond full Full (cond answer (Acted true x) (Acted false y)))))
  after_by true deep full answer x y first second = tt
  after_by false true full answer x y first second = tt
  after_by false false true answer x y first second = tt
  after_by false false false true x y first second = first
  after_by false false false false x y first second = second

  at_proper : (at : Option Pair) (m : Run Bool) → Proper m → Proper (run_at at m)
  at_proper None m h = h
  at_proper (Some range) m h = proper_bind (select range.anchor range.focus) (λ _. m) (proper_select range.anchor range.focus) (λ _. h)

  command_proper : (e : Editing) (at : Option Pair) (joining : Bool) (v : List ℕ) (c : Command) → IsText v → Keeps page start cap e → IsProperEditing e → After (command_outcome e at joining v c)
  unfolding command_outcome run_outcome
  command_proper e at joining v c own keeps h =
      let s = e.state in
      let host = host_at at s in
      let k = (row_of c).keeping in
      let m = run_at at (action_of c v) in
      let x = after_run e joining c (ran host s k m) in
      after_by (not (is_enabled_in host c)) (nat_lt depth_limit (page_depth s.trees)) (nat_lt s.cap (ran host s k m).next) (answered host s k m) x e
      (run_proper e host k joining c m (at_proper at (action_of c v) (action_proper c v own)) keeps.valid h) h

  named_proper : (at : Option Pair) (joined : Bool) (e : Editing) (v : List ℕ) (o : Option Command) → IsText v → Keeps page start cap e → IsProperEditing e → After (outcome_at at joined e o v)
  named_proper at joined e v None own keeps h = tt
  named_proper at joined e v (Some c) own keeps h = command_proper e at (joins_by joined e.going c) v c own keeps h

  outcome_proper : (joined : Bool) (e : Editing) (name v : List ℕ) → IsText v → Keeps page start cap e → IsProperEditing e → After (outcome_by joined e name v)
  unfolding outcome_by
  outcome_proper joined e name v own keeps h = named_proper None joined e v (command_named name) own keeps h

  gated_proper : (denied : List (List ℕ)) (e : Editing) (name v : List ℕ) → IsText v → Keeps page start cap e → IsProperEditing e → After (gated_outcome denied e name v)
  unfolding gated_outcome
  gated_proper denied e name v own keeps h = by_test (is_denied denied name)
    where
      by_test : (b : Bool) → After (cond b Refused (outcome_by false e name v))
      by_test true = tt
      by_test false = outcome_proper false e name v own keeps h

  with_proper : (denied : List (List ℕ)) (at : Option Pair) (joined : Bool) (e : Editing) (name v : List ℕ) → IsText v → Keeps page start cap e → IsProperEditing e → After (outcome_with denied at joined e name v)
  unfolding outcome_with
  with_proper denied at joined e name v own keeps h = by_test (is_denied denied name)
    where
      by_test : (b : Bool) → After (cond b Refused (outcome_at at joined e (command_named name) v))
      by_test true = tt
      by_test false = named_proper at joined e v (command_named name) own keeps h

  exec_proper : (e : Editing) (o : Outcome) → IsProperEditing e → After o → IsProperEditing (after_outcome e o)
  exec_proper e Refused h k = h
  exec_proper e Deep h k = h
  exec_proper e Full h k = h
  exec_proper e (Acted answer after) h k = k

  -- ---- calls

  replace_proper : (e : Editing) (text : List ℕ) (o : Option Pair) → IsText text → Keeps page start cap e → IsProperEditing e → IsProperEditing (after_replacing e text o)
  replace_proper e text None own keeps h = h
  replace_proper e text (Some range) own keeps h =
      exec_proper e (replaced_outcome e range text) h (command_proper e (Some range) (joins_by false e.going InsertText) text InsertText own keeps h)

  options_proper : (denied : List (List ℕ)) (joined : Bool) (e : Editing) (name value : List ℕ) (o : Option (Option Pair)) → IsText value → Keeps page start cap e → IsProperEditing e → IsProperEditing (after_options denied joined e name value o)
  options_proper denied joined e name value None own keeps h = h
  options_proper denied joined e name value (Some at) own keeps h = exec_proper e (outcome_with denied at joined e name value) h (with_proper denied at joined e name value own keeps h)

  selecting_proper : (e : Editing) (pair : Pair) → IsProperEditing e → IsProperEditing (selecting e pair)
  unfolding acted
  selecting_proper e pair h = record { state = proper_selected pair.anchor pair.focus e.state h.state; undo = h.undo; redo = h.redo }

  select_proper : (e : Editing) (o : Option Pair) → IsProperEditing e → IsProperEditing (after_selecting e o)
  select_proper e None h = h
  select_proper e (Some pair) h = selecting_proper e pair h

  unselect_proper : (e : Editing) → IsProperEditing e → IsProperEditing (unselecting e)
  unfolding acted
  unselect_proper e h = record { state = proper_selection None e.state h.state; undo = h.undo; redo = h.redo }

  marking_proper : (e : Editing) (name : List ℕ) (pair : Pair) → IsProperEditing e → IsProperEditing (marking e name pair)
  marking_proper e name pair h = record { state = same_proper e.state _ h.state refl refl refl refl; undo = h.undo; redo = h.redo }

  mark_proper : (e : Editing) (name : List ℕ) (o : Option Pair) → IsProperEditing e → IsProperEditing (after_marking e name o)
  mark_proper e name None h = h
  mark_proper e name (Some pair) h = by_test (is_crowded e name)
    where
      by_test : (b : Bool) → IsProperEditing (if b then e else marking e name pair)
      by_test true = h
      by_test false = marking_proper e name pair h

  unmark_proper : (e : Editing) (name : List ℕ) → IsProperEditing e → IsProperEditing (unmarking e name)
  unmark_proper e name h = record { state = same_proper e.state _ h.state refl refl refl refl; undo = h.undo; redo = h.redo }

  call_proper : (call : Call) (e : Editing) → HasText call → Keeps page start cap e → IsProperEditing e → IsProperEditing (called call e)
  unfolding called
  call_proper (Exec name value) e own keeps h = exec_proper e (outcome e name value) h (outcome_proper false e name value own keeps h)
  call_proper (ExecJoined name value) e own keeps h = exec_proper e (joined_outcome e name value) h (outcome_proper true e name value own keeps h)
  call_proper (ExecGated denied name value) e own keeps h = exec_proper e (gated_outcome denied e name value) h (gated_proper denied e name value own keeps h)
  call_proper (ExecWith denied range joined name value) e own keeps h = options_proper denied joined e name value (range_in e.state.trees range) own keeps h
  call_proper (Replace anchor focus text) e own keeps h = replace_proper e text (placed_pair e.state.trees anchor focus) own keeps h
  call_proper (Select anchor focus) e own keeps h = select_proper e (pair_at e.state.trees anchor focus) h
  call_proper (SelectPoints anchor focus) e own keeps h = select_proper e (placed_pair e.state.trees anchor focus) h
  call_proper Unselect e own keeps h = unselect_proper e h
  call_proper (Mark name anchor focus) e own keeps h = mark_proper e name (pair_at e.state.trees anchor focus) h
  call_proper (MarkPoints name anchor focus) e own keeps h = mark_proper e name (placed_pair e.state.trees anchor focus) h
  call_proper (Unmark name) e own keeps h = unmark_proper e name h
  call_proper Undo e own keeps h = undone_proper e h
  call_proper Redo e own keeps h = redone_proper e h

  all_proper : (calls : List Call) (e : Editing) → Each HasText calls → Keeps page start cap e → IsProperEditing e → IsProperEditing (after_calls calls e)
  unfolding after_calls
  all_proper [] e own keeps h = h
  all_proper (call ∷ calls) e own keeps h = all_proper calls (called call e) own.1 (keeps_call page start cap call e keeps) (call_proper call e own.0 keeps h)

-- ---- from a page on, and the log

first_proper : (page : Arena) (depth : ℕ) → AllNodes IsProper page.trees → IsProperEditing (new_editing page depth)
unfolding first_state
first_proper page depth nodes = record { state = record { nodes = nodes; settings = settings_none; made = tt; edits = tt }; undo = tt; redo = tt }

pub calls_proper : (page : Arena) (e : Editing) → IsPage page → AllNodes IsProper page.trees → IsOfCalls page e → IsProperEditing e
calls_proper page e is nodes s =
    subst (λ (w : Editing). IsProperEditing w) s.is
    (all_proper page.trees page.next page.cap s.calls (new_editing page s.depth) s.texts (tracked_first page is s.loose s.depth s.some_depth) (first_proper page s.depth nodes))

-- what holds of all lines of each entry
pub each_line : (P : StepLine → Type 0) (es : List Entry) → Each (λ (x : Entry). Each P (entry_steps (logged_entry x))) es → Each P (flat_map entry_steps (map logged_entry es))
each_line P [] h = tt
each_line P (x ∷ es) h = each_join P (entry_steps (logged_entry x)) (flat_map entry_steps (map logged_entry es)) h.0 (each_line P es h.1)

pub each_turned : (P : Entry → Type 0) (xs : List Entry) → Each P xs → Each P (reverse xs)
each_turned P xs h = each_back P (reverse xs) (subst (λ (w : List Entry). Each P w) (sym (reverse-reverse xs)) h)

pub log_proper : (page : Forest Content) (start cap : ℕ) (e : Editing) (d : Forest Content) (next : ℕ) → IsTracked page start cap e → LeadFrom d next (reverse e.history.undo) e.state.trees e.state.next → IsProperEditing e
    → Each IsInGrammar (log_steps e.history)
unfolding log_steps
log_proper page start cap e d next tr lead h =
    let leads : Each Leads e.history.undo = each_back Leads e.history.undo (each_leads (reverse e.history.undo) next d e.state.trees e.state.next lead.onward) in
    let both : Each (λ (x : Entry). IsKnown start e.state.next x × Leads x) e.history.undo =
    each_both (IsKnown start e.state.next) Leads (λ (x : Entry). IsKnown start e.state.next x × Leads x) e.history.undo (λ x k l. (k, l)) tr.undo leads in
    let lines : Each (λ (x : Entry). Each IsInGrammar (entry_steps (logged_entry x))) e.history.undo =
    each_both (λ (x : Entry). IsKnown start e.state.next x × Leads x) IsProperEntry (λ (x : Entry). Each IsInGrammar (entry_steps (logged_entry x))) e.history.undo
    (λ x k own. entry_lines start e.state.next k.1.from k.1.document x k.0 k.1.is own) both h.undo in
    each_line IsInGrammar (reverse e.history.undo) (each_turned (λ (x : Entry). Each IsInGrammar (entry_steps (logged_entry x))) e.history.undo lines)
