-- A command begins, or the last entry is resumed.
use Rattle.std.proofs.Common.{◌≡◌, ℕ, zero, suc, ◌+◌, ◌<◌, ◌≤◌, Bool, true, false, true≢false, ◌-◌, List, [], ◌∷◌, length, take, drop, Option, Some, None, IfSome, refl, sym, ap, subst, ◌∙◌, inl, inr, arith}
use Rattle.std.specs.Prelude.{◌&&◌, nat_le, slice_index_or}
use Rattle.std.proofs.lemmas.Bool.Decides.{eqb_tells}
use Rattle.edit_model.specs.DomModel.declared.Content.{Content}
use Rattle.edit_model.specs.DomModel.Document.{page_depth}
use Rattle.edit_model.specs.DomModel.Forest.{Forest, tops, times, count_of}
use Rattle.edit_model.specs.DomModel.Pruned.{pruned}
use Rattle.edit_model.specs.DomModel.ArenaState.{IsValid as IsArena}
use Rattle.edit_model.specs.LiveRange.LivePoints.{LivePoints}
use Rattle.edit_model.specs.NodeArena.declared.NodeRef.{NodeRef}
use Rattle.step_edits.specs.UndoLog.Turning.{back, inverses_back, FitsBack}
use Rattle.step_edits.specs.UndoLog.Log.{Log, noted, is_resumed, begun as begun_log}
use Rattle.step_edits.specs.UndoLog.Log.Open.{Closed}
use Rattle.step_edits.specs.ForestChanges.Named.{Each}
use Rattle.step_edits.specs.EditSteps.declared.step.Step.{Step}
use Rattle.edit_model.specs.State.{State}
use Rattle.edit_model.specs.Valid.{IsPlaced, IsForest}
use Rattle.edit_model.specs.History.{begun, document_of}
use Rattle.edit_model.specs.Gives.{label_of, labels_of}
use Rattle.edit_parts.specs.declared.Counts.{Counts}
use Rattle.edit_doc.specs.declared.Doc.TheInside.{Inside}
use Rattle.edit_doc.specs.declared.command.EntrySnapshot.{EntrySnapshot}
use Rattle.edit_doc.specs.declared.command.Kept.{Kept}
use Rattle.edit_doc.specs.declared.command.Command.{Command}
use Rattle.edit_doc.specs.Fields.{IsKept}
use Rattle.edit_doc.specs.Whole.{Began, opened}
use Rattle.edit_doc.specs.Held.{IfHeld}
use Rattle.edit_doc.specs.History.{edits_before, roots_from, begun_forest, is_hidden, seen_trees, state_of, begun_state, began_with, history_of, whole_of}
use Rattle.edit_doc.specs.Marks.{has_named}
use Rattle.edit_doc.specs.Sound.{RefIn, IsRunning, OpenSound, UndoSound, RedoSound, AreNeeded, next_first, IsSoundDoc}
use Rattle.edit_doc.specs.Trail.{trail_of, with_log}
use Rattle.edit_doc.specs.Live.{live}
use Rattle.edit_doc.proofs.Inner.{seen, Ok}
use Rattle.edit_doc.proofs.Laid.{undo_later, redo_later, next_first_low}
use Rattle.edit_doc.proofs.Rests.{rest_state, AtRest, rest_of, trees_are, none_noted, arena_forest}
use Rattle.edit_doc.proofs.HiddenTrees.{seen_at_rest, hidden_is}
use Rattle.edit_model.proofs.Documents.{document_shape}
use Rattle.edit_doc.proofs.MadeNodes.{no_edits, roots-none}

-- ---- lists

pub take_all : {A : Type 0} (n : ℕ) (xs : List A) → n ≡ length xs → take n xs ≡ xs
take_all zero [] e = refl
take_all zero (x ∷ xs) e = absurd (omega (arith, e))
take_all (suc n) [] e = refl
take_all (suc n) (x ∷ xs) e = ap (λ r. x ∷ r) (take_all n xs (omega (arith, e)))

drop_all : {A : Type 0} (n : ℕ) (xs : List A) → n ≡ length xs → drop n xs ≡ []
drop_all zero [] e = refl
drop_all zero (x ∷ xs) e = absurd (omega (arith, e))
drop_all (suc n) [] e = refl
drop_all (suc n) (x ∷ xs) e = drop_all n xs (omega (arith, e))

inner_top : (l : ℕ) → 0 < l → 0 < times (0 ∷ []) l → ⊥
inner_top l inner top = elim (eqb_tells 0 l) [
  | inl (_, same) ↦ omega (arith, inner, same)
  | inr (u, _) ↦ (let top' = rw u at top in omega (arith, top'))
]

pub document_tops : (f : Forest Content) (next l : ℕ) → IsForest f next → 0 < l → 0 < times (tops (document_of f)) l → ⊥
document_tops f next l is inner top =
    let d = document_shape f next is in
    inner_top l inner (subst (λ g. 0 < times (tops (document_of g)) l) d.3 top)

-- ---- the fields of a command that begins

-- no step is noted, and what it keeps is as it is
pub record Opens (d : Inside) (c : Command) (log : Log Step) : Type 0 where
  pub start : c.start ≡ d.command.start
  pub named : c.named.items ≡ []
  pub kept : IsKept d.tree.points d.tree.overrides d.tree.flags d.tree.nodes.counts c.kept
  pub detached_before : c.detached_before ≡ length c.detached.items
  pub none : noted log.open_entry ≡ []
  pub depth : log.depth ≡ d.history.log.depth

module _ (d : Inside) (law : IsArena d.tree.nodes.arena) (closed : d.history.log.open_entry ≡ Closed) (ok : Ok d) where
  pub rest : AtRest (live d.tree) d.command d.history
  rest = rest_of (live d.tree) d.command d.history law closed ok

  was : begun_forest d.history.log d.tree.nodes.arena.trees ≡ d.tree.nodes.arena.trees
  was = none_noted d.history.log d.tree.nodes.arena.trees (ap noted closed)

  whole_document : seen_trees d.history.log d.command.start d.tree.nodes.arena.trees ≡ document_of d.tree.nodes.arena.trees
  whole_document = trees_are (live d.tree) d.command d.history law closed rest.idle.start

  module _ (c : Command) (log : Log Step) (o : Opens d c log) where
    now : begun_forest log d.tree.nodes.arena.trees ≡ d.tree.nodes.arena.trees
    now = none_noted log d.tree.nodes.arena.trees o.none

    same_trees : seen_trees log c.start d.tree.nodes.arena.trees ≡ seen_trees d.history.log d.command.start d.tree.nodes.arena.trees
    same_trees = λ i. pruned (is_hidden ((now ∙ sym was) i) (o.start i)) d.tree.nodes.arena.trees

    start_is : c.start ≡ d.tree.nodes.arena.next
    start_is = o.start ∙ rest.idle.start

    unnamed : (l : ℕ) → has_named c l ≡ false
    unnamed l = ap (λ (ms : List Bool). nat_le c.start l && slice_index_or ms (l - c.start) false) o.named ∙ and_false (nat_le c.start l)
      where
        and_false : (b : Bool) → (b && false) ≡ false
        and_false true = refl
        and_false false = refl

    runs : IsRunning d.tree.nodes.arena d.tree.points.names c [] d.tree.nodes.arena.trees
    unfolding back inverses_back FitsBack
    runs = record {
      kept = record {
        over = o.kept.over;
        placed = subst (IsPlaced d.tree.nodes.arena.trees) (sym o.kept.shown) rest.placed;
        resting = ap (λ (p : LivePoints). p.scratch) o.kept.shown ∙ rest.idle.scratch;
        nodes_are = ap (λ (n : Counts). n.nodes) o.kept.counts_are ∙ d.tree.nodes.counted.nodes;
        chars_are = ap (λ (n : Counts). n.chars) o.kept.counts_are ∙ d.tree.nodes.counted.chars;
        no_deeper = subst (λ (n : Counts). page_depth d.tree.nodes.arena.trees ≤ n.depth) (sym o.kept.counts_are) d.tree.nodes.counted.depth;
      };
      settings = ap length o.kept.overrides_are ∙ rest.settings;
      made = record {
        loose = λ l low high here. absurd (let s = start_is in omega (arith, s, low, high));
        leaf = λ l low high here. absurd (let s = start_is in omega (arith, s, low, high));
      };
      can = (tt, tt);
      names_there = tt;
      marks = ap (λ xs. length xs + c.start) o.named ∙ zero_more start_is;
      marked = tt;
      marked_inverse = tt;
      named_all = λ l e. absurd (true≢false (sym e ∙ unnamed l));
      detached_before = (let e = o.detached_before in omega (arith, e));
      detached_seen = subst (λ rs. Each (λ l. 0 < count_of (pruned (is_hidden d.tree.nodes.arena.trees c.start) d.tree.nodes.arena.trees) l) (labels_of rs)) (sym (drop_all c.detached_before c.detached.items o.detached_before)) tt;
      newly_detached = λ l inner top. absurd (document_tops d.tree.nodes.arena.trees d.tree.nodes.arena.next l (arena_forest d.tree.nodes.arena law) inner
          (subst (λ g. 0 < times (tops g) l) (ap (λ n. pruned (is_hidden d.tree.nodes.arena.trees n) d.tree.nodes.arena.trees) start_is ∙ seen_at_rest d.tree.nodes.arena.trees d.tree.nodes.arena.next (arena_forest d.tree.nodes.arena law)) top));
    }
      where
        zero_more : {n m : ℕ} → n ≡ m → 0 + n ≡ m
        zero_more e = omega (arith, e)

    pub opened_ok : (us : List EntrySnapshot) →
        ((g : Forest Content) → IsRunning d.tree.nodes.arena d.tree.points.names c [] g → OpenSound d.tree.nodes.arena d.tree.points c g log.open_entry) →
        c.resumed ≡ is_resumed log.open_entry →
        IfSome c.host (λ h. RefIn d.tree.nodes.arena.held h × (0 < count_of (seen_trees d.history.log d.command.start d.tree.nodes.arena.trees) h.label)) →
        UndoSound d.tree.nodes.arena.held d.tree.points.names c.resumed c (next_first c.start d.history.future) d.tree.nodes.arena.trees log.undo us →
        RedoSound d.tree.nodes.arena.held d.tree.points.names c d.tree.nodes.arena.trees log.redo d.history.future →
        AreNeeded d.command.start d.tree.nodes.arena.trees log.undo log.redo →
        IsSoundDoc (live d.tree) c (trail_of log us d.history.future)
    opened_ok us running resumed host undo redo needed = record {
      valid = record {
        forest = subst (λ t. IsForest t d.tree.nodes.arena.next) (sym same_trees) ok.valid.forest;
        placed = subst (λ t. IsPlaced t d.tree.points) (sym same_trees) ok.valid.placed;
        started = (let s = start_is in omega (arith, s));
        settings = ok.valid.settings;
      };
      some_label = subst (λ n. 0 < n) (sym o.start) ok.some_label;
      hidden = λ l h. subst (λ g. 0 < times (tops g) l) now (hidden_is (begun_forest log d.tree.nodes.arena.trees) c.start l h).root;
      running = running (begun_forest log d.tree.nodes.arena.trees) (subst (λ g. IsRunning d.tree.nodes.arena d.tree.points.names c [] g) (sym now) runs);
      resumed = resumed;
      host = subst (λ t. IfSome c.host (λ h. RefIn d.tree.nodes.arena.held h × (0 < count_of t h.label))) (sym same_trees) host;
      undo = subst (λ g. UndoSound d.tree.nodes.arena.held d.tree.points.names c.resumed c (next_first c.start d.history.future) g log.undo us) (sym now) undo;
      redo = subst (λ g. RedoSound d.tree.nodes.arena.held d.tree.points.names c g log.redo d.history.future) (sym now) redo;
      needed = subst (λ g. AreNeeded c.start g log.undo log.redo) (sym now) (subst (λ n. AreNeeded n d.tree.nodes.arena.trees log.undo log.redo) (sym o.start) needed);
    }

    kept_state : begun_state d.tree.nodes.arena d.tree.points.names c log ≡ state_of (live d.tree) d.command d.history.log
    kept_state = λ i. record {
      trees = (ap document_of now ∙ sym whole_document) i;
      points = o.kept.shown i;
      overrides = o.kept.overrides_are i;
      flags = o.kept.flags_are i;
      next = start_is i;
      cap = d.tree.nodes.arena.cap;
      start = o.start i;
      host = label_of (sym rest.idle.host i);
      keeping = sym rest.idle.keeping i;
      edits = sym (ap (λ o. edits_before (noted o) d.tree.nodes.arena.trees) closed ∙ no_edits d.tree.nodes.arena.trees) i;
      made = sym (ap (λ (s : State). s.made) (rest_state (live d.tree) d.command d.history rest)) i;
    }

    pub opened_is : (us : List EntrySnapshot) (resumed : Bool) →
        ((s : State) → began_with s log.open_entry ≡ Some (record { state = s; resumed = resumed })) →
        history_of d.tree.points.names d.tree.nodes.arena.trees (trail_of log us d.history.future) ≡ history_of d.tree.points.names d.tree.nodes.arena.trees d.history →
        whole_of (live d.tree) c (trail_of log us d.history.future) ≡ opened (label_of c.host) c.keeping resumed (seen d)
    unfolding opened begun
    opened_is us resumed began history = λ i. record {
      state = record {
        trees = same_trees i;
        points = d.tree.points;
        overrides = d.tree.overrides;
        flags = d.tree.flags;
        next = d.tree.nodes.arena.next;
        cap = d.tree.nodes.arena.cap;
        start = start_is i;
        host = label_of c.host;
        keeping = c.keeping;
        edits = (ap (λ ys. edits_before ys d.tree.nodes.arena.trees) o.none ∙ no_edits d.tree.nodes.arena.trees) i;
        made = (ap (roots_from c.start) now ∙ (ap (λ n. roots_from n d.tree.nodes.arena.trees) start_is ∙ roots-none d.tree.nodes.arena.next d.tree.nodes.arena.trees law.below)) i;
      };
      history = (ap (λ g. history_of d.tree.points.names g (trail_of log us d.history.future)) now ∙ (history ∙ ap (λ g. history_of d.tree.points.names g d.history) (sym was))) i;
      began = (began (begun_state d.tree.nodes.arena d.tree.points.names c log) ∙ ap (λ s. Some (began_at s resumed)) kept_state) i;
      held = d.tree.nodes.arena.held;
    }
      where
        began_at : State → Bool → Began
        began_at s r = record { state = s; resumed = r }

  pub needed_now : AreNeeded d.command.start d.tree.nodes.arena.trees d.history.log.undo d.history.log.redo
  needed_now = subst (λ g. AreNeeded d.command.start g d.history.log.undo d.history.log.redo) (none_noted d.history.log d.tree.nodes.arena.trees (ap noted closed)) ok.needed

  -- ---- begin

  pub held_host : (o : Option NodeRef) → IfHeld (seen d) o → IfSome o (λ h. RefIn d.tree.nodes.arena.held h × (0 < count_of (seen_trees d.history.log d.command.start d.tree.nodes.arena.trees) h.label))
  held_host None h = tt
  held_host (Some r) h = (h.slot, h.here)

  module _ (k : Kept) (host : Option NodeRef) (keeping : Bool) (keeps : IsKept d.tree.points d.tree.overrides d.tree.flags d.tree.nodes.counts k) where
    abbrev begun_command : Command
    begun_command = record d.command { host = host; keeping = keeping; kept = k }

    begun_opens : Opens d begun_command (begun_log d.history.log)
    begun_opens = record {
      start = refl;
      named = rest.idle.named;
      kept = keeps;
      detached_before = rest.idle.detached_before ∙ ap length (sym rest.idle.detached);
      none = refl;
      depth = refl;
    }

    pub begin_ok : IfHeld (seen d) host → IsSoundDoc (live d.tree) begun_command (with_log d.history (begun_log d.history.log))
    begin_ok held =
        let c = begun_command in
        let first = next_first_low d.tree.nodes.arena.held d.tree.points.names d.command d.tree.nodes.arena.trees d.history.log.redo d.history.future rest.redo in
        opened_ok c (begun_log d.history.log) begun_opens d.history.past (λ g h. h) rest.resumed (held_host host held)
        (subst (λ b. UndoSound d.tree.nodes.arena.held d.tree.points.names b c (next_first c.start d.history.future) d.tree.nodes.arena.trees d.history.log.undo d.history.past) (sym rest.resumed)
        (undo_later d.tree.nodes.arena.held d.tree.points.names d.command c (omega arith) (next_first d.command.start d.history.future) (next_first d.command.start d.history.future) d.tree.nodes.arena.trees d.history.log.undo d.history.past (omega arith) first rest.undo))
        (redo_later d.tree.nodes.arena.held d.tree.points.names d.command c (omega arith) d.tree.nodes.arena.trees d.history.log.redo d.history.future rest.redo)
        needed_now

    pub begin_is : whole_of (live d.tree) begun_command (with_log d.history (begun_log d.history.log)) ≡ opened (label_of host) keeping false (seen d)
    begin_is = opened_is begun_command (begun_log d.history.log) begun_opens d.history.past false (λ s. refl) refl
