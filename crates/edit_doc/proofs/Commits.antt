-- A command ends.
use Rattle.std.proofs.Common.{◌≡◌, ℕ, ◌<◌, Bool, false, List, [], ◌∷◌, length, None, refl, sym, ap, subst, ◌∙◌, arith}
use Rattle.std.specs.Prelude.{IsTrue, nat_le}
use Rattle.step_edits.specs.UndoLog.declared.Committed.TheVariants.{Nothing, Entry as Made}
use Rattle.edit_model.specs.DomModel.Forest.{count_of}
use Rattle.edit_model.specs.DomModel.Pruned.{pruned, IsWhole}
use Rattle.edit_model.specs.DomModel.ArenaState.{ArenaState as Arena, IsValid as IsArena}
use Rattle.edit_model.proofs.DomModel.Pruning.{count_of-pruned}
use Rattle.edit_model.specs.NodeArena.Held.{DropsMade}
use Rattle.edit_model.specs.LiveRange.LivePoints.{LivePoints}
use Rattle.edit_model.specs.LiveRange.Names.{shown}
use Rattle.step_edits.specs.UndoLog.Log.{Log, Open, noted, is_open, joined, committed_with}
use Rattle.step_edits.specs.UndoLog.Log.Open.{Closed, Begun, Resumed}
use Rattle.step_edits.proofs.UndoLog.Lists.{append-nil}
use Rattle.step_edits.specs.EditSteps.declared.step.Step.{Step}
use Rattle.edit_model.specs.State.{State}
use Rattle.edit_model.specs.Valid.{IsPlaced}
use Rattle.edit_model.specs.History.{document_of, rested, recorded}
use Rattle.edit_doc.specs.declared.Doc.TheInside.{Inside}
use Rattle.edit_doc.specs.declared.command.EntrySnapshot.{EntrySnapshot}
use Rattle.edit_doc.specs.declared.command.Command.{Command}
use Rattle.edit_doc.specs.Fields.{IsEnded, Forgets}
use Rattle.edit_doc.specs.Whole.{Whole, history_committed, committed_history}
use Rattle.edit_doc.specs.Held.{KeepsThere}
use Rattle.edit_doc.specs.History.{edits_before, begun_forest, is_hidden, seen_trees, state_of, begun_state, began_with, history_of, whole_of}
use Rattle.edit_doc.specs.Sound.{IsSoundDoc}
use Rattle.edit_doc.specs.Trail.{trail_of}
use Rattle.edit_doc.specs.Live.{live}
use Rattle.edit_doc.proofs.HiddenTrees.{false_le, document-pruned, placed-pruned, placed-whole}
use Rattle.edit_doc.proofs.Inner.{seen, Ending}
use Rattle.edit_doc.proofs.Rests.{AtRest, rest_sound, rest_state, none_noted, arena_forest}
use Rattle.edit_doc.proofs.Rolls.{Leaves, whole_g, prunes_g, Without, without_rest, without_needed, without_history}
use Rattle.edit_doc.proofs.MadeNodes.{no_edits, count_edits}

-- ---- whether a step was noted

pub none_made : (xs : List Step) → (0 < length xs → Nothing ≡ Made) → xs ≡ []
none_made [] h = refl
none_made (x ∷ xs) h = absurd (let e = h (omega arith) in cc)

join_none : {A : Type 0} (es : List (List A)) → joined es [] ≡ es
join_none [] = refl
join_none (e ∷ es) = ap (λ r. r ∷ es) (append-nil e)

pub committed_none : (l : Log Step) (o : Open Step) → noted o ≡ [] → IsTrue (is_open o) → committed_with l o ≡ record l { open_entry = Closed }
committed_none l Closed e h = absurd (let h' = h in cc)
committed_none l (Begun []) e h = refl
committed_none l (Begun (x ∷ xs)) e h = absurd (cc)
committed_none l (Resumed xs) e h = λ i. record l { undo = (ap (joined l.undo) e ∙ join_none l.undo) i; open_entry = Closed }

nothing_recorded : (s0 : State) (o : Open Step) (w : Whole) → w.state.edits ≡ [] → w.history ≡ committed_history w (began_with s0 o)
unfolding recorded
nothing_recorded s0 Closed w e = refl
nothing_recorded s0 (Begun xs) w e = rw e refl
nothing_recorded s0 (Resumed xs) w e = rw e refl

-- as many edits as steps were noted
pub edits_count : (d : Inside) (v : Whole) → seen d ≡ v → length (noted d.history.log.open_entry) ≡ length v.state.edits
edits_count d v sees = sym (count_edits (noted d.history.log.open_entry) d.tree.nodes.arena.trees) ∙ ap (λ (w : Whole). length w.state.edits) sees

-- ---- where no step was noted

module _ (d : Inside) (ending : Ending d) where
  abbrev rested_points : LivePoints
  rested_points = shown d.tree.points.names ending.places

  -- the points stand in the document, without the scratch pair too
  pub placed_now : IsPlaced d.tree.nodes.arena.trees rested_points
  placed_now =
      let h = placed-whole d.tree.nodes.arena.trees d.tree.nodes.arena.next (arena_forest d.tree.nodes.arena ending.during.law) (is_hidden (begun_forest d.history.log d.tree.nodes.arena.trees) d.command.start) refl d.tree.points ending.during.ok.valid.placed in
      let own : IsPlaced d.tree.nodes.arena.trees (record d.tree.points { scratch = None }) = record { selection = h.selection; scratch = tt; marks = h.marks } in
      subst (IsPlaced d.tree.nodes.arena.trees) (sym ending.resting.shown) own

  pub document_now : document_of (seen_trees d.history.log d.command.start d.tree.nodes.arena.trees) ≡ document_of d.tree.nodes.arena.trees
  document_now = document-pruned d.tree.nodes.arena.trees d.tree.nodes.arena.next (arena_forest d.tree.nodes.arena ending.during.law) (is_hidden (begun_forest d.history.log d.tree.nodes.arena.trees) d.command.start) refl

  module _ (nothing : noted d.history.log.open_entry ≡ []) where
    same_forest : begun_forest d.history.log d.tree.nodes.arena.trees ≡ d.tree.nodes.arena.trees
    same_forest = none_noted d.history.log d.tree.nodes.arena.trees nothing

    abbrev k : ℕ → Bool
    k l = nat_le d.command.start l

    pub nothing_whole : IsWhole k d.tree.nodes.arena.trees
    nothing_whole = subst (IsWhole k) same_forest (whole_g d ending.during)

    module _ (a : Arena) (drops : DropsMade d.tree.nodes.arena a d.command.start) (valid : IsArena a) (us : List EntrySnapshot) (forgets : Forgets d.history.past us d.command) (c : Command) (ended : IsEnded a.next c) where
      detached_out : Without d ending.during a
      detached_out = record {
        valid = valid;
        trees = drops.trees ∙ ap (pruned k) (sym same_forest);
        next = (let n = drops.next in let s = ending.during.ok.valid.started in omega (arith, n, s));
        cap = drops.cap;
        held = λ q h low. (drops.held q).1 (h, low);
      }

      abbrev log' : Log Step
      log' = record d.history.log { open_entry = Closed }

      prunes : k 0 ≡ false
      prunes = (prunes_g d ending.during).document

      ends : AtRest (record (live d.tree) { arena = a; points = rested_points }) c (trail_of log' us d.history.future)
      ends =
          let f = arena_forest d.tree.nodes.arena ending.during.law in
          without_rest d ending.during a detached_out us forgets c ended log' refl refl refl refl refl rested_points d.tree.overrides d.tree.flags
          refl ending.resting.resting
          (subst (λ t. IsPlaced t rested_points) (sym drops.trees) (placed-pruned d.tree.nodes.arena.trees d.tree.nodes.arena.next f k prunes rested_points placed_now))
          ending.during.ok.valid.settings

      nothing_ok : IsSoundDoc (record (live d.tree) { arena = a; points = rested_points }) c (trail_of log' us d.history.future)
      nothing_ok = rest_sound (record (live d.tree) { arena = a; points = rested_points }) c (trail_of log' us d.history.future) ends
          (without_needed d ending.during a detached_out us forgets c ended log' refl refl refl refl refl)

      document_is : document_of a.trees ≡ document_of (seen_trees d.history.log d.command.start d.tree.nodes.arena.trees)
      document_is = ap document_of drops.trees ∙ (document-pruned d.tree.nodes.arena.trees d.tree.nodes.arena.next (arena_forest d.tree.nodes.arena ending.during.law) k prunes ∙ sym document_now)

      nothing_state : (v : Whole) → seen d ≡ v → state_of (record (live d.tree) { arena = a; points = rested_points }) c log' ≡ rested v.state
      unfolding rested
      nothing_state v sees =
          rest_state (record (live d.tree) { arena = a; points = rested_points }) c (trail_of log' us d.history.future) ends
          ∙ ((λ i. record {
            trees = document_is i;
            points = ending.resting.shown i;
            overrides = d.tree.overrides;
            flags = d.tree.flags;
            next = drops.next i;
            cap = drops.cap i;
            start = drops.next i;
            host = None;
            keeping = false;
            edits = [];
            made = [];
          })
          ∙ ap (λ (w : Whole). rested w.state) sees)

      nothing_history : (v : Whole) → seen d ≡ v → history_of d.tree.points.names (begun_forest log' a.trees) (trail_of log' us d.history.future) ≡ history_committed v
      unfolding history_committed
      nothing_history v sees =
          ap (λ f. history_of d.tree.points.names f (trail_of log' us d.history.future)) (none_noted log' a.trees refl)
          ∙ (without_history d ending.during a detached_out us forgets c ended log' refl refl refl refl refl d.tree.points.names refl
          ∙ (nothing_recorded (begun_state d.tree.nodes.arena d.tree.points.names d.command d.history.log) d.history.log.open_entry (seen d) (ap (λ ys. edits_before ys d.tree.nodes.arena.trees) nothing ∙ no_edits d.tree.nodes.arena.trees) ∙ ap history_committed sees))

      abbrev nothing_doc : Whole
      nothing_doc = whole_of (record (live d.tree) { arena = a; points = rested_points }) c (trail_of log' us d.history.future)

      by_detached : (l : ℕ) → 0 < count_of a.trees l → l < d.command.start
      by_detached l here = false_le d.command.start l ((prunes_g d ending.during).out l (subst (λ t. 0 < count_of t l) detached_out.trees here))

      nothing_keeps : (v : Whole) → seen d ≡ v → KeepsThere v nothing_doc
      nothing_keeps v sees =
          let own : KeepsThere (seen d) nothing_doc = (λ r h there. record {
            slot = detached_out.held r h.slot (by_detached r.label (let le = count_of-pruned (is_hidden (begun_forest log' a.trees) c.start) a.trees r.label in omega (arith, le, there)));
            here = there;
          }) in
          subst (λ (w : Whole). KeepsThere w nothing_doc) sees own

      pub makes_nothing : (v : Whole) → seen d ≡ v → Leaves (record (live d.tree) { arena = a; points = rested_points }) c (trail_of log' us d.history.future) v (rested v.state) (history_committed v)
      makes_nothing v sees = record { invariant = nothing_ok; state = nothing_state v sees; history = nothing_history v sees; keeps = nothing_keeps v sees }
