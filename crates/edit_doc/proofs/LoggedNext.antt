-- The nodes that the commands of the entry made that redo would take, read from the fields of a document.
use Rattle.std.proofs.Common.{◌≡◌, ℕ, ◌<◌, ◌≤◌, List, [], ◌∷◌, drop, map, Option, Some, None, Bor, sym, ap, subst, ◌∙◌}
use Rattle.std.specs.Prelude.{slice_get}
use Rattle.std.specs.Option.{option_map}
use Rattle.edit_model.specs.DomModel.declared.Content.{Content}
use Rattle.edit_model.specs.DomModel.Forest.{Forest}
use Rattle.edit_model.specs.DomModel.ArenaState.{IsValid as IsArena}
use Rattle.step_edits.specs.UndoLog.Log.{noted}
use Rattle.step_edits.specs.UndoLog.Log.Open.{Closed}
use Rattle.step_edits.specs.ForestChanges.Named.{Each, named_in}
use Rattle.step_edits.specs.EditSteps.declared.step.Step.{Step}
use Rattle.step_edits.specs.EditSteps.Step.{changes_of}
use Rattle.edit_model.specs.History.{used}
use Rattle.edit_doc.specs.declared.Doc.TheInside.{Inside}
use Rattle.edit_doc.specs.declared.command.EntrySnapshot.{EntrySnapshot}
use Rattle.edit_doc.specs.History.{roots_from, redo_entries}
use Rattle.edit_doc.specs.Logged.{made_node, first_made}
use Rattle.edit_doc.specs.Sound.{AreFresh, RedoSound, next_first}
use Rattle.edit_doc.specs.Whole.{Whole}
use Rattle.edit_doc.specs.Live.{live}
use Rattle.edit_doc.proofs.Inner.{seen, Ok}
use Rattle.edit_doc.proofs.Rests.{AtRest, rest_of, none_noted}

module _ (d : Inside) (v : Whole) (sees : seen d ≡ v) (law : IsArena d.tree.nodes.arena) (closed : d.history.log.open_entry ≡ Closed) (ok : Ok d) where
  abbrev f : Forest Content
  f = d.tree.nodes.arena.trees

  rests : AtRest (live d.tree) d.command d.history
  rests = rest_of (live d.tree) d.command d.history law closed ok

  entries_are : v.history.redo ≡ redo_entries d.tree.points.names f d.history.log.redo d.history.future
  entries_are =
      ap (λ (w : Whole). w.history.redo) (sym sees)
      ∙ ap (λ g. redo_entries d.tree.points.names g d.history.log.redo d.history.future) (none_noted d.history.log f (ap noted closed))

  -- what reading the nodes that its commands made needs, and what they are
  pub record Next (e : List Step) (first end : ℕ) : Type 0 where
    pub order : first ≤ end
    pub fresh : AreFresh f first
    pub within : Each (λ l. l < end) (named_in (changes_of e))
    pub made : map made_node (used (changes_of e) (roots_from first f)) ≡ first_made v.history.redo

  next_in : (es : List (List Step)) (bs : List EntrySnapshot) → RedoSound d.tree.nodes.arena.held d.tree.points.names d.command f es bs → v.history.redo ≡ redo_entries d.tree.points.names f es bs →
      (e : List Step) → slice_get es 0 ≡ Some e → Next e (next_first d.command.start bs) (next_first d.command.start (drop 1 bs))
  next_in [] bs h is e at = absurd (let t : None ≡ Some e = at in cc)
  next_in (x ∷ es) [] h is e at = absurd h
  next_in (x ∷ es) (y ∷ bs) h is e at =
      let here : Some x ≡ Some e = at in
      let same : x ≡ e = cc in
      subst (λ z. Next z y.span.first_label (next_first d.command.start bs)) same own
    where
      own : Next x y.span.first_label (next_first d.command.start bs)
      own = record { order = h.1.0.drawn; fresh = h.1.0.fresh; within = h.1.0.names_old; made = ap first_made (sym is) }

  -- where the code has looked them up
  pub next_read : (o : Option (Bor (List Step))) (e : Bor (List Step)) (first end : ℕ) →
      option_map (λ r. r.now) o ≡ slice_get d.history.log.redo 0 → o ≡ Some e → first ≡ next_first d.command.start d.history.future → end ≡ next_first d.command.start (drop 1 d.history.future) →
      Next e.now first end
  next_read o e first end at is begins last =
      subst (λ n. Next e.now n end) (sym begins) (subst (λ n. Next e.now (next_first d.command.start d.history.future) n) (sym last)
      (next_in d.history.log.redo d.history.future rests.redo entries_are e.now (sym at ∙ ap (option_map (λ (r : Bor (List Step)). r.now)) is)))
