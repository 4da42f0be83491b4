-- The next label that a replay comes to isn't above that of the editor.
use Rattle.std.proofs.Common.{◌≡◌, ℕ, ◌+◌, ◌<◌, ◌≤◌, map, List, [], ◌∷◌, Result, Ok, subst, arith, reverse}
use Rattle.std.specs.List.{flat_map}
use Rattle.edit_model.specs.DomModel.declared.Content.{Content}
use Rattle.edit_model.specs.DomModel.declared.Content.TheVariants as content
use Rattle.inline_value.specs.ForestChanges.Change.{wholes}
use Rattle.inline_value.specs.ForestChanges.Named.{Each}
use Rattle.inline_value.proofs.ForestChanges.ChangeLists.{each_join}
use Rattle.edit_model.specs.History.{Entry}
use Rattle.inline_value.specs.EditDoc.Logged.{content_in, logged_edit, logged_entry, made_node}
use Rattle.inline_value.specs.EditDoc.declared.logged.LoggedEdit.{LoggedEdit}
use Rattle.inline_value.specs.EditDoc.declared.logged.LoggedEdit.TheVariants as edits
use Rattle.inline_value.specs.EditDoc.Onward.{RiseFrom, next_past, at_begin}
use Rattle.inline_value.proofs.EditDoc.Onwards.{below_past}
use Rattle.step_text.specs.Applying.{Labelled, fault_of, line_applied, replayed_from}
use Rattle.step_text.specs.declared.line.StepFault.{StepFault}
use Rattle.step_text.specs.declared.line.StepLine.{StepLine}
use Rattle.step_text.specs.declared.line.StepLine.TheVariants.{Entry as Begin, Make, Insert, Remove, Move, Words, Tag}
use Rattle.edit_engine.specs.Editing.{Editing}
use Rattle.edit_engine.specs.Logs.{content_steps, made_steps, edit_step, entry_steps, log_steps}
use Rattle.replay_laws.proofs.Chains.{ChainBack, IsLink, link_up}
use Rattle.replay_laws.proofs.Firsts.{first_applied}
use Rattle.replay_laws.proofs.ProperCalls.{each_line, each_turned}

module _ (n : ℕ) where
  -- a line makes no node of a label from n on
  abbrev pub DrawsBelow : StepLine → Type 0
  DrawsBelow (Make l made) = l < n
  DrawsBelow _ = Unit {0}

  -- ---- replayed lines

  after_line : (x : StepLine) (d : Labelled) → d.next ≤ n → DrawsBelow x → (line_applied x d).next ≤ n
  unfolding line_applied
  after_line Begin d le h = le
  after_line (Make l made) d le h = omega (arith, h)
  after_line (Insert l p b) d le h = le
  after_line (Remove l) d le h = le
  after_line (Move l p b) d le h = le
  after_line (Words l words) d le h = le
  after_line (Tag l name attributes) d le h = le

  pub next_low : (number : ℕ) (xs : List StepLine) (d last : Labelled) → replayed_from number xs d ≡ Ok last → d.next ≤ n → Each DrawsBelow xs → last.next ≤ n
  unfolding replayed_from
  next_low number [] d last e le h =
      let same : d ≡ last = (let t : ◌≡◌ {A = Result Labelled (ℕ × StepFault)} (Ok d) (Ok last) = e in cc) in
      subst (λ (w : Labelled). w.next ≤ n) same le
  next_low number (x ∷ xs) d last e le h =
      let parts = first_applied number (fault_of x d) (replayed_from (number + 1) xs (line_applied x d)) last e in
      next_low (number + 1) xs (line_applied x d) last parts.1 (after_line x d le h.0) h.1

  -- ---- the lines of entries

  drawn_low : (ns : List (ℕ × Content)) (next : ℕ) → RiseFrom next ns → next_past next ns ≤ n → Each (λ (m : ℕ × Content). m.0 < n) ns
  drawn_low [] next rise past = tt
  drawn_low (m ∷ ns) next rise past = ((let up = below_past ns (m.0 + 1) rise.1 in omega (arith, up, past)), drawn_low ns (m.0 + 1) rise.1 past)

  node_low : (label : ℕ) (c : Content) → label < n → Each DrawsBelow (content_steps label c)
  node_low label content.Document low = tt
  node_low label (content.Element name list) low = (low, tt)
  node_low label (content.Words chars) low = (low, tt)
  node_low label (content.Remark chars) low = tt

  made_low : (ns : List (ℕ × Content)) → Each (λ (m : ℕ × Content). m.0 < n) ns → Each DrawsBelow (flat_map made_steps (map made_node ns))
  made_low [] h = tt
  made_low (m ∷ ns) h = each_join DrawsBelow (content_steps m.0 m.1) (flat_map made_steps (map made_node ns)) (node_low m.0 m.1 h.0) (made_low ns h.1)

  edit_low : (x : LoggedEdit) → DrawsBelow (edit_step x)
  edit_low (edits.Remove node) = tt
  edit_low (edits.Insert node parent before) = tt
  edit_low (edits.Move node parent before) = tt
  edit_low (edits.SetText node words) = tt
  edit_low (edits.SetAttributes node name attributes) = tt

  edits_low : (xs : List LoggedEdit) → Each DrawsBelow (map edit_step xs)
  edits_low [] = tt
  edits_low (x ∷ xs) = (edit_low x, edits_low xs)

  entry_low : (low high : ℕ) (x : Entry) → high ≤ n → IsLink low high x → Each DrawsBelow (entry_steps (logged_entry x))
  unfolding entry_steps
  entry_low low high x le h = (
    tt,
    each_join DrawsBelow (flat_map made_steps (map made_node x.made)) (map edit_step (map (logged_edit (content_in x)) (wholes x.edits (at_begin x))))
        (made_low x.made (drawn_low x.made low h.leads.rise (let past = h.past in omega (arith, past, le)))) (edits_low (map (logged_edit (content_in x)) (wholes x.edits (at_begin x)))),
  )

  chain_low : (start mid : ℕ) (xs : List Entry) → mid ≤ n → ChainBack start mid xs → Each (λ (x : Entry). Each DrawsBelow (entry_steps (logged_entry x))) xs
  chain_low start mid [] le h = tt
  chain_low start mid (x ∷ xs) le h = (
    entry_low h.0 mid x le h.1,
    chain_low start h.0 xs (let up = link_up h.0 mid x h.1 in omega (arith, up, le)) h.2,
  )

  pub log_low : (start mid : ℕ) (e : Editing) → mid ≤ n → ChainBack start mid e.history.undo → Each DrawsBelow (log_steps e.history)
  unfolding log_steps
  log_low start mid e le h =
      each_line DrawsBelow (reverse e.history.undo)
      (each_turned (λ (x : Entry). Each DrawsBelow (entry_steps (logged_entry x))) e.history.undo (chain_low start mid e.history.undo le h))
