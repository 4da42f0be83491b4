-- A command with an edit is recorded in the history.
use Rattle.std.proofs.Common.{◌≡◌, ℕ, ◌<◌, ◌≤◌, false, List, [], ◌∷◌, length, take, Option, None, refl, sym, ap, subst, ◌∙◌, arith}
use Rattle.std.specs.Prelude.{IsTrue, ◌==◌, ◌||◌, nat_le}
use Rattle.std.proofs.lemmas.Bool.Decides.{nat_tests}
use Rattle.edit_model.specs.DomModel.declared.Content.{Content}
use Rattle.edit_model.specs.DomModel.Forest.{Forest}
use Rattle.edit_model.specs.LiveRange.LivePoints.{LivePoints}
use Rattle.edit_model.specs.LiveRange.Names.{shown}
use Rattle.step_edits.specs.UndoLog.Turning.{inverses_back}
use Rattle.step_edits.specs.UndoLog.Log.{Log, Open, noted, is_open, is_resumed, committed_with}
use Rattle.step_edits.specs.UndoLog.Log.Open.{Closed, Begun, Resumed}
use Rattle.step_edits.specs.ForestChanges.Change.{applied, inverse}
use Rattle.step_edits.specs.EditSteps.declared.step.Step.{Step}
use Rattle.step_edits.specs.EditSteps.Step.{changes_of}
use Rattle.edit_model.specs.State.{State}
use Rattle.edit_model.specs.Valid.{IsForest}
use Rattle.edit_model.specs.History.{document_of, rested, recorded, with_entry, view_of, entry_of, used}
use Rattle.edit_model.proofs.Documents.{document_shape}
use Rattle.edit_doc.specs.declared.Doc.TheInside.{Inside}
use Rattle.edit_doc.specs.declared.command.EntrySnapshot.{EntrySnapshot}
use Rattle.edit_doc.specs.declared.command.EntrySpan.{EntrySpan}
use Rattle.edit_doc.specs.declared.command.Command.{Command}
use Rattle.edit_doc.specs.Fields.{IsEnded, EntersIn, Enters, made_span}
use Rattle.edit_doc.specs.GivingUp.{loose_roots}
use Rattle.edit_model.specs.NodeArena.declared.NodeRef.{NodeRef}
use Rattle.edit_doc.specs.Whole.{Whole, history_committed, committed_history}
use Rattle.edit_doc.specs.History.{edits_before, roots_from, state_of, begun_state, began_with, history_of, undo_entries, view_at}
use Rattle.edit_doc.specs.Sound.{IsSnapshot, UndoSound, RedoSound, next_first}
use Rattle.edit_doc.specs.Trail.{trail_of}
use Rattle.edit_doc.specs.Live.{live}
use Rattle.edit_doc.proofs.Inner.{seen, Ending}
use Rattle.edit_doc.proofs.Laid.{undo_count, undo_later, next_first_low}
use Rattle.edit_doc.proofs.HiddenTrees.{model_forest}
use Rattle.edit_doc.proofs.Rests.{AtRest, rest_state}
use Rattle.edit_doc.proofs.Rolls.{run, g, xs, forest_g, bound_g}
use Rattle.edit_doc.proofs.Commits.{placed_now, document_now}
use Rattle.edit_doc.proofs.Enters.{undo-take, undo_entries-take, made_snapshot}
use Rattle.edit_doc.proofs.MadeNodes.{count_edits}

-- ---- the log

pub committed_made : (l : Log Step) (o : Open Step) → IsTrue (is_open o) → is_resumed o ≡ false → 0 < length (noted o) →
    committed_with l o ≡ record l { undo = take l.depth (noted o ∷ l.undo); redo = []; open_entry = Closed; dropped = l.dropped || nat_le l.depth (length l.undo) }
committed_made l Closed t r some = absurd (let t' = t in cc)
committed_made l (Begun []) t r some = absurd (omega (arith, some))
committed_made l (Begun (x ∷ ys)) t r some = refl
committed_made l (Resumed ys) t r some = absurd (cc)

-- ---- the model's record

pub some_edits : (n : ℕ) → 0 < n → (n == 0) ≡ false
some_edits n h = grind (arith, nat_tests)

pub made_recorded : (s0 : State) (o : Open Step) (w : Whole) → IsTrue (is_open o) → is_resumed o ≡ false → 0 < length w.state.edits →
    committed_history w (began_with s0 o) ≡ record w.history { undo = take w.history.depth (entry_of s0 w.state ∷ w.history.undo); redo = []; dropped = w.history.dropped || nat_le w.history.depth (length w.history.undo) }
unfolding recorded with_entry
made_recorded s0 Closed w t r some = absurd (let t' = t in cc)
made_recorded s0 (Begun ys) w t r some = rw (some_edits (length w.state.edits) some) refl
made_recorded s0 (Resumed ys) w t r some = absurd (cc)

-- the document of the document is the document
pub document_twice : (f : Forest Content) (next : ℕ) → IsForest f next → document_of (document_of f) ≡ document_of f
document_twice f next is = let d = document_shape f next is in subst (λ h. document_of (document_of h) ≡ document_of h) (sym d.3) refl

module _ (d : Inside) (ending : Ending d) where
  abbrev steps : List Step
  steps = xs d ending.during

  abbrev before : Forest Content
  before = g d ending.during

  abbrev rested_points : LivePoints
  rested_points = shown d.tree.points.names ending.places

  abbrev pub high : ℕ
  high = next_first d.command.start d.history.future

  pub high_le : high ≤ d.command.start
  high_le = next_first_low d.tree.nodes.arena.held d.tree.points.names d.command before d.history.log.redo d.history.future ending.during.ok.redo

  -- ---- a document whose history has the entry

  module _ (log : Log Step) (closed : log.open_entry ≡ Closed) (redo : log.redo ≡ []) (depth : log.depth ≡ d.history.log.depth) (us : List EntrySnapshot) (c : Command) (ended : IsEnded d.tree.nodes.arena.next c) where
    module _ (undo : UndoSound d.tree.nodes.arena.held d.tree.points.names false c d.tree.nodes.arena.next d.tree.nodes.arena.trees log.undo us) where
      pub ends : AtRest (record (live d.tree) { points = rested_points }) c (trail_of log us [])
      ends = record {
        law = ending.during.law;
        closed = closed;
        idle = record {
          start = ended.start;
          host = ended.host;
          keeping = ended.keeping;
          named = ended.named;
          detached = ended.detached;
          detached_before = ended.detached_before;
          scratch = ending.resting.resting;
        };
        resumed = ended.resumed;
        placed = placed_now d ending;
        settings = ending.during.ok.valid.settings;
        undo = subst (λ n. UndoSound d.tree.nodes.arena.held d.tree.points.names false c n d.tree.nodes.arena.trees log.undo us) (sym ended.start) undo;
        redo = subst (λ es. RedoSound d.tree.nodes.arena.held d.tree.points.names c d.tree.nodes.arena.trees es []) (sym redo) tt;
      }

      pub recorded_state : (v : Whole) → seen d ≡ v → state_of (record (live d.tree) { points = rested_points }) c log ≡ rested v.state
      unfolding rested
      recorded_state v sees =
          rest_state (record (live d.tree) { points = rested_points }) c (trail_of log us []) ends
          ∙ ((λ i. record {
            trees = sym (document_now d ending) i;
            points = ending.resting.shown i;
            overrides = d.tree.overrides;
            flags = d.tree.flags;
            next = d.tree.nodes.arena.next;
            cap = d.tree.nodes.arena.cap;
            start = d.tree.nodes.arena.next;
            host = None;
            keeping = false;
            edits = [];
            made = [];
          })
          ∙ ap (λ (w : Whole). rested w.state) sees)

  -- ---- the views on both sides of the entry

  abbrev pub state_before : State
  state_before = begun_state d.tree.nodes.arena d.tree.points.names d.command d.history.log

  abbrev pub state_now : State
  state_now = state_of (live d.tree) d.command d.history.log

  pub view_before : view_at d.tree.points.names before d.command.kept.places ≡ view_of state_before
  unfolding view_of
  view_before = λ i. record {
    document = sym (document_twice before (bound_g d ending.during).next (model_forest before (forest_g d ending.during) (bound_g d ending.during).next (bound_g d ending.during).below)) i;
    selection = d.command.kept.places.selection;
    marks = (shown d.tree.points.names d.command.kept.places).marks;
  }

  pub view_now : view_at d.tree.points.names d.tree.nodes.arena.trees ending.places ≡ view_of state_now
  unfolding view_of
  view_now = λ i. record {
    document = sym (document_now d ending) i;
    selection = (ending.resting.shown i).selection;
    marks = (ending.resting.shown i).marks;
  }

  -- ---- an entry that the command began

  module _ (begun : is_resumed d.history.log.open_entry ≡ false) (c : Command) (starts : c.start ≡ d.tree.nodes.arena.next) (us : List EntrySnapshot) (out : Option EntrySnapshot) where
    abbrev roots : List NodeRef
    roots = loose_roots d.tree.nodes.arena.trees d.command.detached.items

    begun_undo : UndoSound d.tree.nodes.arena.held d.tree.points.names false d.command high before d.history.log.undo d.history.past
    begun_undo = subst (λ r. UndoSound d.tree.nodes.arena.held d.tree.points.names r d.command high before d.history.log.undo d.history.past) (ending.during.ok.resumed ∙ begun) ending.during.ok.undo

    start_le : d.command.start ≤ c.start
    start_le = (let s = starts in let t = ending.during.ok.valid.started in omega (arith, s, t))

    pub with_first : (b : EntrySnapshot) → b.span ≡ made_span d.command ending.places d.tree.nodes.counts → b.detached.items ≡ roots →
        UndoSound d.tree.nodes.arena.held d.tree.points.names false c d.tree.nodes.arena.next d.tree.nodes.arena.trees (steps ∷ d.history.log.undo) (b ∷ d.history.past)
    with_first b same none =
        let f = d.tree.nodes.arena.trees in
        let ts = inverses_back applied inverse (changes_of steps) f in
        let rest = undo_later d.tree.nodes.arena.held d.tree.points.names d.command c start_le high d.command.start before d.history.log.undo d.history.past high_le start_le begun_undo in (
          (run d ending.during).can,
          (
            subst (λ n. IsSnapshot d.tree.points.names before f steps ts b b.detached.items d.tree.nodes.arena.next n) (sym starts) (made_snapshot d ending b b.detached.items none same),
            subst (λ (s : EntrySpan). UndoSound d.tree.nodes.arena.held d.tree.points.names false c s.first_label before d.history.log.undo d.history.past) (sym same) rest,
          ),
        )

    pub entering : Enters d.command roots ending.places d.tree.nodes.counts d.history.log.depth d.history.past us out → EntersIn false (made_span d.command ending.places d.tree.nodes.counts) roots ending.places d.tree.nodes.counts d.history.log.depth d.history.past us out
    entering h = subst (λ r. EntersIn r (made_span d.command ending.places d.tree.nodes.counts) roots ending.places d.tree.nodes.counts d.history.log.depth d.history.past us out) (ending.during.ok.resumed ∙ begun) h

    module _ (enters : Enters d.command roots ending.places d.tree.nodes.counts d.history.log.depth d.history.past us out) where
      pub begun_sound : UndoSound d.tree.nodes.arena.held d.tree.points.names false c d.tree.nodes.arena.next d.tree.nodes.arena.trees (take d.history.log.depth (steps ∷ d.history.log.undo)) us
      begun_sound =
          let h = entering enters in
          let all = undo-take d.tree.nodes.arena.held d.tree.points.names c d.history.log.depth d.tree.nodes.arena.next d.tree.nodes.arena.trees (steps ∷ d.history.log.undo) (h.0 ∷ d.history.past) (with_first h.0 h.1 h.2) in
          let is : us ≡ take d.history.log.depth (h.0 ∷ d.history.past) = h.3 in
          subst (λ bs. UndoSound d.tree.nodes.arena.held d.tree.points.names false c d.tree.nodes.arena.next d.tree.nodes.arena.trees (take d.history.log.depth (steps ∷ d.history.log.undo)) bs) (sym is) all

      pub begun_history : 0 < length steps → (v : Whole) → seen d ≡ v →
          history_of d.tree.points.names d.tree.nodes.arena.trees (trail_of (record d.history.log { undo = take d.history.log.depth (steps ∷ d.history.log.undo); redo = []; open_entry = Closed; dropped = d.history.log.dropped || nat_le d.history.log.depth (length d.history.log.undo) }) us []) ≡ history_committed v
      unfolding history_committed
      begun_history some v sees =
          let f = d.tree.nodes.arena.trees in
          let h = entering enters in
          let is : us ≡ take d.history.log.depth (h.0 ∷ d.history.past) = h.3 in
          let was = ap (λ (s : EntrySpan). view_at d.tree.points.names before s.before) h.1 ∙ view_before in
          let now = ap (λ (s : EntrySpan). view_at d.tree.points.names f s.after) h.1 ∙ view_now in
          let made_is = ap (λ (s : EntrySpan). used (edits_before steps f) (roots_from s.first_label before)) h.1 in
          let entries : undo_entries d.tree.points.names f (take d.history.log.depth (steps ∷ d.history.log.undo)) us ≡ take d.history.log.depth (entry_of state_before state_now ∷ undo_entries d.tree.points.names before d.history.log.undo d.history.past) =
          ap (undo_entries d.tree.points.names f (take d.history.log.depth (steps ∷ d.history.log.undo))) is
          ∙ (undo_entries-take d.tree.points.names d.history.log.depth f (steps ∷ d.history.log.undo) (h.0 ∷ d.history.past)
          ∙ (λ i. take d.history.log.depth (record { before = was i; after = now i; edits = edits_before steps f; made = made_is i } ∷ undo_entries d.tree.points.names before d.history.log.undo d.history.past))) in
          (λ i. record { undo = entries i; redo = []; depth = d.history.log.depth; dropped = d.history.log.dropped || nat_le d.history.log.depth (undo_count d (seen d) refl ending.during.ok i) })
          ∙ (sym (made_recorded state_before d.history.log.open_entry (seen d) ending.during.opened begun (subst (λ n. 0 < n) (sym (count_edits steps d.tree.nodes.arena.trees)) some)) ∙ ap history_committed sees)
