-- The last entry is resumed.
use Rattle.std.proofs.Common.{◌≡◌, ℕ, ◌<◌, ◌≤◌, Bool, true, false, List, [], ◌∷◌, length, take, Option, refl, sym, ap, subst, ◌∙◌, arith}
use Rattle.edit_model.specs.DomModel.declared.Content.{Content}
use Rattle.edit_model.specs.DomModel.Forest.{Forest}
use Rattle.edit_model.specs.DomModel.ArenaState.{IsValid as IsArena}
use Rattle.edit_model.specs.NodeArena.declared.NodeRef.{NodeRef}
use Rattle.step_edits.specs.UndoLog.Turning.{inverses_back}
use Rattle.step_edits.specs.UndoLog.Log.{resumed as resumed_log}
use Rattle.step_edits.specs.UndoLog.Log.Open.{Closed}
use Rattle.step_edits.specs.ForestChanges.Change.{applied, inverse}
use Rattle.step_edits.specs.EditSteps.declared.step.Step.{Step}
use Rattle.step_edits.specs.EditSteps.Step.{changes_of}
use Rattle.edit_model.specs.Gives.{label_of}
use Rattle.edit_doc.specs.declared.Doc.TheInside.{Inside}
use Rattle.edit_doc.specs.declared.command.EntrySnapshot.{EntrySnapshot}
use Rattle.edit_doc.specs.declared.command.Kept.{Kept}
use Rattle.edit_doc.specs.declared.command.Command.{Command}
use Rattle.edit_doc.specs.Fields.{IsKept, SwapsLeft}
use Rattle.edit_doc.specs.Whole.{opened}
use Rattle.edit_doc.specs.Held.{IfHeld}
use Rattle.edit_doc.specs.History.{forest_before, undo_entries, redo_entries, whole_of}
use Rattle.edit_doc.specs.declared.history.Way.TheVariants.{Back}
use Rattle.edit_doc.specs.Sound.{IsSnapshot, UndoSound, next_first, IsSoundDoc}
use Rattle.edit_doc.specs.Trail.{trail_of}
use Rattle.edit_doc.specs.Live.{live}
use Rattle.edit_doc.proofs.Inner.{seen, Ok}
use Rattle.edit_doc.proofs.Laid.{snapshot_later, undo_later, redo_later, next_first_low, sides_length}
use Rattle.edit_doc.proofs.Rolls.{snapshot_of}
use Rattle.edit_doc.proofs.Begins.{Opens, rest, take_all, held_host, needed_now, opened_ok, opened_is}

-- the command but for its detached trees
record Swapped (c m : Command) : Type 0 where
  start : m.start ≡ c.start
  named : m.named.items ≡ c.named.items

swapped : (us new : List EntrySnapshot) (c m : Command) → SwapsLeft us new c m → Swapped c m
swapped [] new c m h = absurd h
swapped (b ∷ bs) new c m h = record { start = ap (λ (x : Command). x.start) h.1; named = ap (λ (x : Command). x.named.items) h.1 }

swapped_entries : (names : List (List ℕ)) (f : Forest Content) (es : List (List Step)) (us new : List EntrySnapshot) (c m : Command) → SwapsLeft us new c m → undo_entries names f es new ≡ undo_entries names f es us
swapped_entries names f es [] new c m h = absurd h
swapped_entries names f [] (b ∷ bs) new c m h = refl
swapped_entries names f (e ∷ es) (b ∷ bs) new c m h = ap (undo_entries names f (e ∷ es)) h.0

swapped_undo : (held : List (Option ℕ)) (names : List (List ℕ)) (c m r : Command) → c.start ≤ r.start → r.detached.items ≡ m.detached.items → r.detached_before ≡ length r.detached.items →
    (high : ℕ) (f : Forest Content) (es : List (List Step)) (us new : List EntrySnapshot) → high ≤ r.start → SwapsLeft us new c m → UndoSound held names false c high f es us → UndoSound held names true r high f es new
swapped_undo held names c m r le same all high f es [] new known h u = absurd h
swapped_undo held names c m r le same all high f [] (b ∷ bs) new known h u = absurd u
swapped_undo held names c m r le same all high f (e ∷ es) (b ∷ bs) new known h u =
    let ts = inverses_back applied inverse (changes_of e) f in
    let b' : EntrySnapshot = record b { detached = c.detached } in
    let detached : b.detached.items ≡ take r.detached_before r.detached.items = sym (take_all r.detached_before r.detached.items all ∙ (same ∙ ap (λ (x : Command). x.detached.items) h.1)) in
    let own = snapshot_of names (forest_before e f) f e ts b b' b.detached.items high r.start refl (snapshot_later names (forest_before e f) f e ts b b.detached.items high c.start high r.start u.1.0 (omega arith) known) in
    let first : b.span.first_label ≤ r.start = (let t = u.1.0.drawn in omega arith) in
    subst (λ ns. UndoSound held names true r high f (e ∷ es) ns) (sym h.0) (
      u.0,
      (
        subst (λ ls. IsSnapshot names (forest_before e f) f e ts b' ls high r.start) detached own,
        undo_later held names c r le b.span.first_label b.span.first_label (forest_before e f) es bs (omega arith) first u.1.1,
      ),
    )

module _ (d : Inside) (law : IsArena d.tree.nodes.arena) (closed : d.history.log.open_entry ≡ Closed) (ok : Ok d) where
  pub some_span : 0 < length d.history.log.undo → 0 < length d.history.past
  some_span h =
      let r = rest d law closed ok in
      let n = sides_length d.tree.nodes.arena.held d.tree.points.names d.command Back false (next_first d.command.start d.history.future) d.tree.nodes.arena.trees d.history.log.undo d.history.past r.undo in
      omega (arith, n, h)

  module _ (k : Kept) (host : Option NodeRef) (keeping : Bool) (keeps : IsKept d.tree.points d.tree.overrides d.tree.flags d.tree.nodes.counts k) (us : List EntrySnapshot) (m : Command) (swaps : SwapsLeft d.history.past us d.command m) (n : ℕ) (all : n ≡ length m.detached.items) where
    abbrev command : Command
    command = record m { host = host; keeping = keeping; resumed = true; detached_before = n; kept = k }

    opens : Opens d command (resumed_log d.history.log)
    opens =
        let r = rest d law closed ok in
        let s = swapped d.history.past us d.command m swaps in
        record {
          start = s.start;
          named = s.named ∙ r.idle.named;
          kept = keeps;
          detached_before = all;
          none = refl;
          depth = refl;
        }

    start_le : d.command.start ≤ command.start
    start_le = (let e = opens.start in omega (arith, e))

    pub resume_ok : IfHeld (seen d) host → IsSoundDoc (live d.tree) command (trail_of (resumed_log d.history.log) us d.history.future)
    resume_ok held =
        let r = rest d law closed ok in
        let high = next_first d.command.start d.history.future in
        let low = next_first_low d.tree.nodes.arena.held d.tree.points.names d.command d.tree.nodes.arena.trees d.history.log.redo d.history.future r.redo in
        let undo = swapped_undo d.tree.nodes.arena.held d.tree.points.names d.command m command start_le refl all high d.tree.nodes.arena.trees d.history.log.undo d.history.past us (omega (arith, low, start_le)) swaps r.undo in
        opened_ok d law closed ok command (resumed_log d.history.log) opens us (λ g h. h) refl (held_host d law closed ok host held)
        (subst (λ (x : ℕ). UndoSound d.tree.nodes.arena.held d.tree.points.names true command (next_first x d.history.future) d.tree.nodes.arena.trees d.history.log.undo us) (sym opens.start) undo)
        (redo_later d.tree.nodes.arena.held d.tree.points.names d.command command start_le d.tree.nodes.arena.trees d.history.log.redo d.history.future r.redo)
        (needed_now d law closed ok)

    pub resume_is : whole_of (live d.tree) command (trail_of (resumed_log d.history.log) us d.history.future) ≡ opened (label_of host) keeping true (seen d)
    resume_is =
        opened_is d law closed ok command (resumed_log d.history.log) opens us true (λ t. refl)
        (λ i. record {
          undo = swapped_entries d.tree.points.names d.tree.nodes.arena.trees d.history.log.undo d.history.past us d.command m swaps i;
          redo = redo_entries d.tree.points.names d.tree.nodes.arena.trees d.history.log.redo d.history.future;
          depth = d.history.log.depth;
          dropped = d.history.log.dropped;
        })
