-- What taking a command back owes.
use Rattle.std.proofs.Common.{◌≡◌, ℕ, ◌<◌, ◌≤◌, true, length, refl, ap, sym, subst, ◌∙◌, arith}
use Rattle.std.specs.Prelude.{nat_le}
use Rattle.edit_model.specs.DomModel.ArenaState.{ArenaState as Arena}
use Rattle.edit_model.specs.LiveRange.Names.{shown}
use Rattle.step_edits.specs.UndoLog.Log.{abandoned}
use Rattle.edit_doc.specs.Whole.{state_rolled_back}
use Rattle.edit_doc.specs.Counted.{IsCounted}
use Rattle.edit_doc.specs.Fields.{IsEnded, Forgets}
use Rattle.edit_doc.specs.Trail.{Trail, trail_of}
use Rattle.edit_doc.specs.Live.{live_of}
use Rattle.edit_doc.proofs.Rolls.{Leaves, fits_of, counted_back, drop_whole, back_is, resumed_some, rolls}
use Rattle.edit_doc.proofs.HiddenTrees.{counted-pruned, le_false}
use Rattle.edit_doc.proofs.Rests.{arena_forest}
use Rattle.edit_doc.proofs.Inner.{opened_of}
use Rattle.edit_doc.proofs.Doc.roll_back.Goals as goal

pub abandon-requires-clause-fit : goal.abandon-requires-clause-fit
abandon-requires-clause-fit c = fits_of c.self.inside (opened_of c.self.inside _ c.self.view_is c.valid-2.ensures c.self.invariant c.requires.«open») c.slotted.ensures

pub abandon-requires-clause-counted : goal.abandon-requires-clause-counted
abandon-requires-clause-counted c = counted_back c.self.inside (opened_of c.self.inside _ c.self.view_is c.valid-2.ensures c.self.invariant c.requires.«open») c.slotted.ensures _ refl

pub drop_made-requires-clause-whole : goal.drop_made-requires-clause-whole
drop_made-requires-clause-whole c = drop_whole c.self.inside (opened_of c.self.inside _ c.self.view_is c.valid-2.ensures c.self.invariant c.requires.«open») c.slotted.ensures _ c.abandon.ensures.arena

pub invariant_of-self-inside : goal.invariant_of-self-inside
invariant_of-self-inside c =
    let n = c.abandon.new.self in
    let start = c.self.inside.command.start in
    record { counted = subst (λ t. IsCounted t n.counts) (sym c.drop_made.ensures.drops.trees) (counted-pruned n.arena.trees n.arena.next (arena_forest n.arena c.valid-3.ensures) (nat_le start) (le_false start 0 c.self.invariant.some_label) n.counts n.counted) }

pub rewind-requires-clause-low : goal.rewind-requires-clause-low
rewind-requires-clause-low c =
    let e = ap (λ (a : Arena). a.next) (back_is c.self.inside (opened_of c.self.inside _ c.self.view_is c.valid-2.ensures c.self.invariant c.requires.«open») c.slotted.ensures _ c.abandon.ensures.arena) in
    let n = c.drop_made.ensures.drops.next in
    let s : c.self.inside.command.start ≤ c.self.inside.tree.nodes.arena.next = c.self.invariant.valid.started in
    omega (arith, e, n, s)

pub forget_detached-requires : goal.forget_detached-requires
forget_detached-requires c = subst (λ (t : Trail). c.self.inside.command.resumed ≡ true → 0 < length t.past) (sym c.abandon.ensures.history) (resumed_some c.self.inside (opened_of c.self.inside _ c.self.view_is c.valid-2.ensures c.self.invariant c.requires.«open») c.valid.ensures)

ended : (c : goal.After-end) → IsEnded c.rewind.new.self.next c.end.new.self
ended c = subst (λ (n : ℕ). IsEnded n c.end.new.self) c.next_label.ensures c.end.ensures

forgets : (c : goal.After-end) → Forgets c.self.inside.history.past c.forget_detached.new.self.past c.self.inside.command
forgets c = subst (λ (t : Trail). Forgets t.past c.forget_detached.new.self.past c.self.inside.command) c.abandon.ensures.history c.forget_detached.ensures.forgotten

trail : (c : goal.After-end) → c.forget_detached.new.self ≡ trail_of (abandoned c.self.inside.history.log) c.forget_detached.new.self.past c.self.inside.history.future
trail c = c.forget_detached.ensures.rest ∙ ap (λ (t : Trail). record t { past = c.forget_detached.new.self.past }) c.abandon.ensures.history

rolled : (c : goal.After-end) → Leaves (live_of c.rewind.new.self (shown c.self.inside.tree.points.names c.self.inside.command.kept.places) c.self.inside.command.kept.overrides c.self.inside.command.kept.flags) c.end.new.self
    (trail_of (abandoned c.self.inside.history.log) c.forget_detached.new.self.past c.self.inside.history.future) c.args.self.now (state_rolled_back c.args.self.now) c.args.self.now.history
rolled c =
    rolls c.self.inside (opened_of c.self.inside _ c.self.view_is c.valid-2.ensures c.self.invariant c.requires.«open») c.slotted.ensures _ c.abandon.ensures.arena
    _ _ c.drop_made.ensures.drops c.rewind.ensures c.valid-4.ensures _ (forgets c) _ (ended c) _ c.self.view_is

pub invariant_of-self : goal.invariant_of-self
invariant_of-self c = rw (c.set_places.ensures, c.swap.ensures.x_after, trail c) (rolled c).invariant

pub returns-clause-state : goal.returns-clause-state
returns-clause-state c = rw (c.set_places.ensures, c.swap.ensures.x_after, trail c) (rolled c).state

pub returns-clause-history : goal.returns-clause-history
returns-clause-history c = rw (c.set_places.ensures, trail c) (rolled c).history

pub returns-clause-keeps : goal.returns-clause-keeps
returns-clause-keeps c = rw (c.set_places.ensures, c.swap.ensures.x_after, trail c) (rolled c).keeps
