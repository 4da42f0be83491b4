-- A document outside commands.
use Rattle.std.proofs.Common.{◌≡◌, ◌<◌, false, [], length, Option, Some, None, IfSome, refl, sym, ap, subst, ◌∙◌, arith}
use Rattle.edit_model.specs.DomModel.declared.Content.{Content}
use Rattle.edit_model.specs.DomModel.Forest.{Forest, tops, times, count_of}
use Rattle.edit_model.specs.DomModel.Pruned.{pruned}
use Rattle.edit_model.specs.DomModel.ArenaState.{ArenaState as Arena, IsValid as IsArena}
use Rattle.step_edits.specs.UndoLog.Log.{Log, noted, is_resumed}
use Rattle.step_edits.specs.UndoLog.Log.Open.{Closed}
use Rattle.step_edits.proofs.UndoLog.Turns.{back-nil}
use Rattle.step_edits.specs.ForestChanges.Change.{applied}
use Rattle.step_edits.proofs.ForestChanges.Twice.{forest_of}
use Rattle.step_edits.specs.EditSteps.declared.step.Step.{Step}
use Rattle.edit_model.specs.Gives.{label_of}
use Rattle.edit_model.specs.Valid.{IsValid, IsForest, IsPlaced}
use Rattle.edit_model.specs.State.{State}
use Rattle.edit_model.specs.History.{document_of}
use Rattle.edit_model.proofs.Resting.{forest-document, leaves-document}
use Rattle.edit_model.proofs.Points.{points_left}
use Rattle.edit_doc.specs.declared.command.Command.{Command}
use Rattle.edit_doc.specs.History.{edits_before, roots_from, begun_forest, forest_before, is_hidden, seen_trees, state_of, begun_state, began_with, history_of, whole_of}
use Rattle.edit_model.specs.NodeArena.declared.NodeRef.{NodeRef}
use Rattle.edit_doc.specs.Sound.{RefIn, IsIdle, OpenSound, UndoSound, RedoSound, AreNeeded, next_first, IsSoundDoc}
use Rattle.edit_doc.specs.Trail.{Trail}
use Rattle.edit_doc.specs.Live.{Live}
use Rattle.edit_doc.proofs.HiddenTrees.{hidden_is, seen_at_rest, model_forest, placed-whole}
use Rattle.edit_doc.proofs.MadeNodes.{no_edits, roots-none}

pub arena_forest : (a : Arena) → IsArena a → IsForest a.trees a.next
arena_forest a law = model_forest a.trees (forest_of a law) a.next law.below

-- where no step is noted the command began at the forest itself
pub none_noted : (log : Log Step) (f : Forest Content) → noted log.open_entry ≡ [] → begun_forest log f ≡ f
none_noted log f e = ap (λ xs. forest_before xs f) e ∙ back-nil applied f

no_host : (o : Option NodeRef) (P : NodeRef → Type 0) → o ≡ None → IfSome o P
no_host None P e = tt
no_host (Some r) P e = absurd (cc)

abbrev pub rested_state : Live → State
rested_state tree = record {
  trees = document_of tree.arena.trees;
  points = tree.points;
  overrides = tree.overrides;
  flags = tree.flags;
  next = tree.arena.next;
  cap = tree.arena.cap;
  start = tree.arena.next;
  host = None;
  keeping = false;
  edits = [];
  made = [];
}

module _ (tree : Live) (c : Command) (trail : Trail) where
  -- what has to hold of the fields outside commands
  pub record AtRest : Type 0 where
    pub law : IsArena tree.arena
    pub closed : trail.log.open_entry ≡ Closed
    pub idle : IsIdle c tree.points tree.arena.next
    pub resumed : c.resumed ≡ false
    pub placed : IsPlaced tree.arena.trees tree.points
    pub settings : length tree.overrides ≡ 32
    pub undo : UndoSound tree.arena.held tree.points.names false c (next_first c.start trail.future) tree.arena.trees trail.log.undo trail.past
    pub redo : RedoSound tree.arena.held tree.points.names c tree.arena.trees trail.log.redo trail.future

  forest_is : trail.log.open_entry ≡ Closed → begun_forest trail.log tree.arena.trees ≡ tree.arena.trees
  forest_is closed = none_noted trail.log tree.arena.trees (ap noted closed)

  pub trees_are : IsArena tree.arena → trail.log.open_entry ≡ Closed → c.start ≡ tree.arena.next → seen_trees trail.log c.start tree.arena.trees ≡ document_of tree.arena.trees
  trees_are law closed start =
      ap (λ g. pruned (is_hidden g c.start) tree.arena.trees) (forest_is closed)
      ∙ (ap (λ n. pruned (is_hidden tree.arena.trees n) tree.arena.trees) start ∙ seen_at_rest tree.arena.trees tree.arena.next (arena_forest tree.arena law))

  pub rest_state : AtRest → state_of tree c trail.log ≡ rested_state tree
  rest_state r = λ i. record {
    trees = trees_are r.law r.closed r.idle.start i;
    points = tree.points;
    overrides = tree.overrides;
    flags = tree.flags;
    next = tree.arena.next;
    cap = tree.arena.cap;
    start = r.idle.start i;
    host = label_of (r.idle.host i);
    keeping = r.idle.keeping i;
    edits = (ap (λ o. edits_before (noted o) tree.arena.trees) r.closed ∙ no_edits tree.arena.trees) i;
    made = (ap (λ n. roots_from n (begun_forest trail.log tree.arena.trees)) r.idle.start ∙ (ap (roots_from tree.arena.next) (forest_is r.closed) ∙ roots-none tree.arena.next tree.arena.trees r.law.below)) i;
  }

  pub rest_whole : AtRest → whole_of tree c trail ≡ record {
    state = rested_state tree;
    history = history_of tree.points.names tree.arena.trees trail;
    began = None;
    held = tree.arena.held;
  }
  rest_whole r = λ i. record {
    state = rest_state r i;
    history = history_of tree.points.names (forest_is r.closed i) trail;
    began = began_with (begun_state tree.arena tree.points.names c trail.log) (r.closed i);
    held = tree.arena.held;
  }

  valid_rest : AtRest → IsValid (rested_state tree)
  valid_rest r =
      let f = arena_forest tree.arena r.law in
      record {
        forest = forest-document tree.arena.trees tree.arena.next f;
        placed = points_left tree.arena.trees (document_of tree.arena.trees) (leaves-document tree.arena.trees tree.arena.next f) tree.points r.placed;
        started = omega arith;
        settings = r.settings;
      }

  pub rest_sound : AtRest → AreNeeded c.start tree.arena.trees trail.log.undo trail.log.redo → IsSoundDoc tree c trail
  rest_sound r needed =
      let e = forest_is r.closed in
      record {
        valid = subst IsValid (sym (rest_state r)) (valid_rest r);
        some_label = (let s = r.idle.start in let t = r.law.below 0 r.law.document in omega arith);
        hidden = λ l h. subst (λ g. 0 < times (tops g) l) e (hidden_is (begun_forest trail.log tree.arena.trees) c.start l h).root;
        running = subst (λ o. OpenSound tree.arena tree.points c (begun_forest trail.log tree.arena.trees) o) (sym r.closed) r.idle;
        resumed = r.resumed ∙ ap is_resumed (sym r.closed);
        host = no_host c.host (λ h. RefIn tree.arena.held h × (0 < count_of (seen_trees trail.log c.start tree.arena.trees) h.label)) r.idle.host;
        undo = subst (λ b. UndoSound tree.arena.held tree.points.names b c (next_first c.start trail.future) (begun_forest trail.log tree.arena.trees) trail.log.undo trail.past) (sym r.resumed) (subst (λ g. UndoSound tree.arena.held tree.points.names false c (next_first c.start trail.future) g trail.log.undo trail.past) (sym e) r.undo);
        redo = subst (λ g. RedoSound tree.arena.held tree.points.names c g trail.log.redo trail.future) (sym e) r.redo;
        needed = subst (λ g. AreNeeded c.start g trail.log.undo trail.log.redo) (sym e) needed;
      }

  pub rest_of : IsArena tree.arena → trail.log.open_entry ≡ Closed → IsSoundDoc tree c trail → AtRest
  rest_of law closed ok =
      let e = forest_is closed in
      let idle : IsIdle c tree.points tree.arena.next = subst (λ o. OpenSound tree.arena tree.points c (begun_forest trail.log tree.arena.trees) o) closed ok.running in
      let resumed : c.resumed ≡ false = ok.resumed ∙ ap is_resumed closed in
      let f = arena_forest tree.arena law in
      record {
        law = law;
        closed = closed;
        idle = idle;
        resumed = resumed;
        placed = placed-whole tree.arena.trees tree.arena.next f (is_hidden (begun_forest trail.log tree.arena.trees) c.start) refl tree.points ok.valid.placed;
        settings = ok.valid.settings;
        undo = subst (λ g. UndoSound tree.arena.held tree.points.names false c (next_first c.start trail.future) g trail.log.undo trail.past) e (subst (λ b. UndoSound tree.arena.held tree.points.names b c (next_first c.start trail.future) (begun_forest trail.log tree.arena.trees) trail.log.undo trail.past) resumed ok.undo);
        redo = subst (λ g. RedoSound tree.arena.held tree.points.names c g trail.log.redo trail.future) e ok.redo;
      }
