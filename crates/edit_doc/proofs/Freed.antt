-- A document outside commands without trees that its history doesn't name.
use Rattle.std.proofs.Common.{◌≡◌, [], ℕ, Bool, false, sym, ap, subst, ◌∙◌, None}
use Rattle.edit_model.specs.DomModel.ArenaState.{ArenaState as Arena, IsValid as IsArena}
use Rattle.step_edits.specs.ForestChanges.Change.{IsForest}
use Rattle.step_edits.specs.ForestChanges.Down.{Prunes}
use Rattle.step_edits.proofs.ForestChanges.Twice.{forest_of}
use Rattle.edit_model.specs.Valid.{IsPlaced}
use Rattle.edit_model.specs.History.{document_of}
use Rattle.edit_doc.specs.declared.command.Command.{Command}
use Rattle.edit_doc.specs.GivingUp.{GivesUp}
use Rattle.edit_doc.specs.History.{state_of, history_of}
use Rattle.edit_doc.specs.declared.history.Way.TheVariants.{Back, Forth}
use Rattle.edit_doc.specs.Sound.{UndoSound, RedoSound, next_first}
use Rattle.edit_doc.specs.Trail.{Trail}
use Rattle.edit_doc.specs.Live.{Live}
use Rattle.edit_doc.proofs.Downs.{Bounded, EntriesLeft, lies-pruned, entries-pruned}
use Rattle.edit_doc.proofs.HiddenTrees.{document-pruned, placed-pruned}
use Rattle.edit_doc.proofs.Rests.{AtRest, rest_state, arena_forest}

module _ (tree : Live) (b : Arena) (k : ℕ → Bool) (gives : GivesUp k tree.arena b) (prunes : Prunes k tree.arena.trees) (law : IsArena b) (c : Command) (trail : Trail)
    (rests : AtRest tree c trail) (undo_detached : EntriesLeft k tree.arena.trees trail.log.undo) (redo_detached : EntriesLeft k tree.arena.trees trail.log.redo) where
  is : IsForest tree.arena.trees
  is = forest_of tree.arena rests.law

  bound : Bounded tree.arena.trees
  bound = record { next = tree.arena.next; below = rests.law.below }

  pub freed : AtRest (record tree { arena = b }) c trail
  freed =
      let f = arena_forest tree.arena rests.law in
      record {
        law = law;
        closed = rests.closed;
        idle = record {
          start = rests.idle.start ∙ sym gives.next;
          host = rests.idle.host;
          keeping = rests.idle.keeping;
          named = rests.idle.named;
          detached = rests.idle.detached;
          detached_before = rests.idle.detached_before;
          scratch = rests.idle.scratch;
        };
        resumed = rests.resumed;
        placed = subst (λ t. IsPlaced t tree.points) (sym gives.trees) (placed-pruned tree.arena.trees tree.arena.next f k prunes.document tree.points rests.placed);
        settings = rests.settings;
        undo = subst (λ t. UndoSound b.held tree.points.names false c (next_first c.start trail.future) t trail.log.undo trail.past) (sym gives.trees)
            (lies-pruned k tree.arena.held b.held tree.points.names c Back false (next_first c.start trail.future) tree.arena.trees trail.log.undo trail.past prunes is bound gives.keeps undo_detached rests.undo);
        redo = subst (λ t. RedoSound b.held tree.points.names c t trail.log.redo trail.future) (sym gives.trees)
            (lies-pruned k tree.arena.held b.held tree.points.names c Forth false 0 tree.arena.trees trail.log.redo trail.future prunes is bound gives.keeps redo_detached rests.redo);
      }

  document_is : document_of b.trees ≡ document_of tree.arena.trees
  document_is = ap document_of gives.trees ∙ document-pruned tree.arena.trees tree.arena.next (arena_forest tree.arena rests.law) k prunes.document

  pub freed_state : state_of (record tree { arena = b }) c trail.log ≡ state_of tree c trail.log
  freed_state =
      rest_state (record tree { arena = b }) c trail freed
      ∙ ((λ i. record {
        trees = document_is i;
        points = tree.points;
        overrides = tree.overrides;
        flags = tree.flags;
        next = gives.next i;
        cap = gives.cap i;
        start = gives.next i;
        host = None;
        keeping = false;
        edits = [];
        made = [];
      })
      ∙ sym (rest_state tree c trail rests))

  pub freed_history : history_of tree.points.names b.trees trail ≡ history_of tree.points.names tree.arena.trees trail
  freed_history =
      ap (λ t. history_of tree.points.names t trail) gives.trees
      ∙ (λ i. record {
        undo = entries-pruned k tree.arena.held b.held tree.points.names c Back false (next_first c.start trail.future) tree.arena.trees trail.log.undo trail.past prunes is bound undo_detached rests.undo i;
        redo = entries-pruned k tree.arena.held b.held tree.points.names c Forth false 0 tree.arena.trees trail.log.redo trail.future prunes is bound redo_detached rests.redo i;
        depth = trail.log.depth;
        dropped = trail.log.dropped;
      })
