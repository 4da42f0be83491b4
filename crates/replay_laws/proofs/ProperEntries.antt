-- The lines of an entry are of the grammar, where its document, what it made and what its edits put are.
use Rattle.std.proofs.Common.{◌≡◌, ℕ, Bool, true, false, true≢false, cond, eqb, List, [], ◌∷◌, length, map, Option, Some, None, IfSome, sym, ◌∙◌}
use Rattle.std.specs.List.{flat_map}
use Rattle.std.specs.Option.{option_map, option_map_or}
use Rattle.edit_model.specs.DomModel.declared.Content.{Content}
use Rattle.edit_model.specs.DomModel.declared.Content.TheVariants as content
use Rattle.edit_model.specs.DomModel.Contents.{is_element}
use Rattle.edit_model.specs.DomModel.Forest.{Forest, either, content_of, with_leaf}
use Rattle.inline_value.specs.UndoLog.Turning.{FitsForth}
use Rattle.inline_value.specs.ForestChanges.Change.{Change, Remove, Insert, Move, SetText, Splice, SetAttributes, Fits, applied, whole, wholes}
use Rattle.inline_value.specs.ForestChanges.Named.{Each}
use Rattle.inline_value.proofs.ForestChanges.ChangeLists.{each_join}
use Rattle.edit_model.specs.History.{Entry}
use Rattle.edit_laws.specs.Kinds.{kind_in}
use Rattle.edit_laws.specs.Kinds as kinds
use Rattle.inline_value.specs.EditDoc.Logged.{content_made, content_in, element_name, logged_edit, logged_entry, made_node}
use Rattle.inline_value.specs.EditDoc.Onward.{with_made, at_begin, LeadsOnward}
use Rattle.step_text.specs.StepLine.{is_element_name}
use Rattle.edit_engine.specs.Logs.{content_steps, made_steps, edit_step, entry_steps}
use Rattle.grammar_laws.specs.Proper.{AllNodes, IsProper, IsProperChange, IsProperNode}
use Rattle.grammar_laws.proofs.Nodes.{node_at, nodes_leaf}
use Rattle.grammar_laws.proofs.Spelled.{IsSpelled, nodes_applied, nodes_spelled, splice_text}
use Rattle.replay_laws.proofs.Entries.{IsKnown}
use Rattle.replay_laws.proofs.Labels.{IsInGrammar}
use Rattle.replay_laws.proofs.Spelling.{AreKinds, kind_applied, told_kinds}

-- an entry between documents of the grammar
pub record IsProperEntry (x : Entry) : Type 0 where
  pub before : AllNodes IsProper x.before.document
  pub after : AllNodes IsProper x.after.document
  pub made : Each IsProperNode x.made
  pub edits : Each IsProperChange x.edits

-- ---- the nodes that were made

node_lines : (label : ℕ) (c : Content) → IsProper c → Each IsInGrammar (content_steps label c)
node_lines label content.Document h = tt
node_lines label (content.Element name list) h = (h.0, tt)
node_lines label (content.Words chars) h = (h, tt)
node_lines label (content.Remark chars) h = tt

made_lines : (ns : List (ℕ × Content)) → Each IsProperNode ns → Each IsInGrammar (flat_map made_steps (map made_node ns))
made_lines [] h = tt
made_lines (n ∷ ns) h = each_join IsInGrammar (content_steps n.0 n.1) (flat_map made_steps (map made_node ns)) (node_lines n.0 n.1 h.0) (made_lines ns h.1)

nodes_made : (ns : List (ℕ × Content)) (f : Forest Content) → Each IsProperNode ns → AllNodes IsProper f → AllNodes IsProper (with_made f ns)
nodes_made [] f h k = k
nodes_made (n ∷ ns) f h k = nodes_made ns (with_leaf f n.0 n.1) h.1 (nodes_leaf IsProper f n.0 n.1 h.0 k)

made_told : (ns : List (ℕ × Content)) (l : ℕ) → Each IsProperNode ns → IfSome (content_made ns l) IsProper
made_told [] l h = tt
made_told (n ∷ ns) l h = by_test (eqb n.0 l) (made_told ns l h.1)
  where
    by_test : (b : Bool) → IfSome (content_made ns l) IsProper → IfSome (cond b (Some n.1) (content_made ns l)) IsProper
    by_test true more = h.0
    by_test false more = more

told_proper : (x : Entry) → IsProperEntry x → (l : ℕ) → IfSome (content_in x l) IsProper
told_proper x h l = by_content (content_of x.before.document l) (node_at IsProper x.before.document l h.before)
  where
    by_content : (o : Option Content) → IfSome o IsProper → IfSome (either o (content_made x.made l)) IsProper
    by_content None k = made_told x.made l h.made
    by_content (Some c) k = k

-- ---- the edits

-- an element by what is told of it has a name
told_name : (p : Option Content) → option_map_or is_element p false ≡ true → (o : Option Content) → IfSome o IsProper → option_map kind_in o ≡ option_map kind_in p → is_element_name (element_name o) ≡ true
told_name None t o h e = absurd (true≢false (sym t))
told_name (Some content.Document) t o h e = absurd (true≢false (sym t))
told_name (Some (content.Words chars)) t o h e = absurd (true≢false (sym t))
told_name (Some (content.Remark chars)) t o h e = absurd (true≢false (sym t))
told_name (Some (content.Element name list)) t None h e = absurd (let u : None ≡ Some (kinds.Element name) = e in cc)
told_name (Some (content.Element name list)) t (Some content.Document) h e = absurd (let u : Some kinds.Document ≡ Some (kinds.Element name) = e in cc)
told_name (Some (content.Element name list)) t (Some (content.Element own old)) h e = h.0.0
told_name (Some (content.Element name list)) t (Some (content.Words chars)) h e = absurd (let u : Some kinds.Text ≡ Some (kinds.Element name) = e in cc)
told_name (Some (content.Element name list)) t (Some (content.Remark chars)) h e = absurd (let u : Some kinds.Comment ≡ Some (kinds.Element name) = e in cc)

module _ (told : ℕ → Option Content) (all : (l : ℕ) → IfSome (told l) IsProper) where
  edit_lines : (xs : List Change) (f : Forest Content) → FitsForth applied Fits xs f → AreKinds told f → AllNodes IsSpelled f → Each IsProperChange xs
      → Each IsInGrammar (map edit_step (map (logged_edit told) (wholes xs f)))
  unfolding FitsForth wholes
  edit_lines [] f fits are nodes h = tt
  edit_lines (x ∷ xs) f fits are nodes h =
      (by_change x fits.0 h.0, edit_lines xs (applied x f) fits.1 (λ l. are l ∙ sym (kind_applied x f fits.0 l)) (nodes_applied x f h.0 nodes) h.1)
    where
      by_change : (x : Change) → Fits x f → IsProperChange x → IsInGrammar (edit_step (logged_edit told (whole x f)))
      by_change (Remove n) fit own = tt
      by_change (Insert n p b) fit own = tt
      by_change (Move n p b) fit own = tt
      by_change (SetText n words) fit own = own
      by_change (Splice n at rest taken put) fit own = splice_text f n at (length taken) put own nodes
      by_change (SetAttributes n list) fit own = (told_name (content_of f n) fit.here.0 (told n) (all n) (are n), own.0, own.1)

-- ---- an entry

pub entry_lines : (start next from : ℕ) (d : Forest Content) (x : Entry) → IsKnown start next x → LeadsOnward from d x → IsProperEntry x → Each IsInGrammar (entry_steps (logged_entry x))
unfolding entry_steps
entry_lines start next from d x k leads h = (
  tt,
  each_join IsInGrammar (flat_map made_steps (map made_node x.made)) (map edit_step (map (logged_edit (content_in x)) (wholes x.edits (at_begin x)))) (made_lines x.made h.made)
      (edit_lines (content_in x) (told_proper x h) x.edits (at_begin x) leads.fits (told_kinds start next from d x k leads) (nodes_spelled (at_begin x) (nodes_made x.made x.before.document h.made h.before)) h.edits),
)
