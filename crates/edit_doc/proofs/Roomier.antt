-- Room for one more tree that is detached changes nothing that holds.
use Rattle.std.proofs.Common.{◌≡◌, ℕ, ◌<◌, ◌≤◌, Bool, true, false, List, length, take, drop, refl, sym, ap, subst, ◌∙◌, arith}
use Rattle.edit_model.specs.DomModel.declared.Content.{Content}
use Rattle.edit_model.specs.DomModel.Forest.{Forest, count_of}
use Rattle.edit_model.specs.DomModel.Pruned.{pruned}
use Rattle.edit_model.specs.DomModel.ArenaState.{ArenaState as Arena}
use Rattle.edit_model.specs.LiveRange.PointsEdit.{has_label}
use Rattle.edit_model.specs.LiveRange.LivePoints.{LivePoints}
use Rattle.step_edits.specs.UndoLog.Log.{Open, noted}
use Rattle.step_edits.specs.UndoLog.Log.Open.{Closed, Begun, Resumed}
use Rattle.step_edits.specs.ForestChanges.Named.{Each}
use Rattle.step_edits.specs.EditSteps.declared.step.Step.{Step}
use Rattle.edit_model.specs.Gives.{labels_of}
use Rattle.edit_doc.specs.declared.command.EntrySnapshot.{EntrySnapshot}
use Rattle.edit_doc.specs.declared.command.Command.{Command}
use Rattle.edit_doc.specs.History.{begun_forest, is_hidden}
use Rattle.edit_doc.specs.Sound.{IsRunning, OpenSound, IsSoundDoc, detached_of, next_first}
use Rattle.edit_doc.specs.Trail.{Trail}
use Rattle.edit_doc.specs.Live.{Live}
use Rattle.edit_doc.proofs.Changing.{undo_carried}
use Rattle.edit_doc.proofs.Laid.{redo_later}

module _ (c : Command) (l : _) (e : (record c { detached = l }).detached.items ≡ c.detached.items) where
  abbrev d : Command
  d = record c { detached = l }

  detached_same : (r : Bool) (b : EntrySnapshot) → detached_of r c b ≡ detached_of r d b
  detached_same false b = refl
  detached_same true b = ap (take c.detached_before) (sym e)

  runs : (a : Arena) (names : List (List ℕ)) (xs : List Step) (g : Forest Content) → IsRunning a names c xs g → IsRunning a names d xs g
  runs a names xs g r = record {
    kept = r.kept;
    settings = r.settings;
    made = r.made;
    can = r.can;
    names_there = r.names_there;
    marks = r.marks;
    marked = r.marked;
    marked_inverse = r.marked_inverse;
    named_all = r.named_all;
    detached_before = subst (λ ns. c.detached_before ≤ length ns) (sym e) r.detached_before;
    detached_seen = subst (λ ns. Each (λ m. 0 < count_of (pruned (is_hidden g c.start) a.trees) m) (labels_of (drop c.detached_before ns))) (sym e) r.detached_seen;
    newly_detached = λ m inner top. subst (λ ns. has_label (labels_of (drop c.detached_before ns)) m ≡ true) (sym e) (r.newly_detached m inner top);
  }

  opens : (a : Arena) (points : LivePoints) (g : Forest Content) (o : Open Step) → OpenSound a points c g o → OpenSound a points d g o
  opens a points g Closed h = record { start = h.start; host = h.host; keeping = h.keeping; named = h.named; detached = e ∙ h.detached; detached_before = h.detached_before; scratch = h.scratch }
  opens a points g (Begun xs) h = runs a points.names (noted (Begun xs)) g h
  opens a points g (Resumed xs) h = runs a points.names (noted (Resumed xs)) g h

  pub room_made : (tree : Live) (trail : Trail) →
      IsSoundDoc tree c trail → IsSoundDoc tree d trail
  room_made tree trail ok = record {
    valid = ok.valid;
    some_label = ok.some_label;
    hidden = ok.hidden;
    running = opens tree.arena tree.points (begun_forest trail.log tree.arena.trees) trail.log.open_entry ok.running;
    resumed = ok.resumed;
    host = ok.host;
    undo = undo_carried tree.arena.held tree.points.names c d refl c.resumed (next_first c.start trail.future) (begun_forest trail.log tree.arena.trees) trail.log.undo trail.past (detached_same c.resumed) ok.undo;
    redo = redo_later tree.arena.held tree.points.names c d (omega arith) (begun_forest trail.log tree.arena.trees) trail.log.redo trail.future ok.redo;
    needed = ok.needed;
  }
