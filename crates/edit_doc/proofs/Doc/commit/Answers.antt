-- What a commit owes: with an edit, and without one.
use Rattle.std.proofs.Common.{◌≡◌, ℕ, ◌<◌, ◌∙◌, true, None, [], refl, sym, ap, subst, length, arith}
use Rattle.std.specs.Prelude.{nat_le}
use Rattle.edit_model.specs.DomModel.Forest.{parent_of}
use Rattle.edit_model.specs.DomModel.Pruned.{IsWhole}
use Rattle.edit_model.specs.NodeArena.Held.{DropsMade}
use Rattle.step_edits.specs.UndoLog.Log.Open.{Closed}
use Rattle.edit_model.specs.LiveRange.Names.{shown}
use Rattle.edit_model.specs.History.{History, rested}
use Rattle.edit_doc.specs.Whole.{history_committed}
use Rattle.edit_doc.specs.declared.command.Command.{Command}
use Rattle.edit_doc.specs.Changes.{IsToldSince}
use Rattle.edit_doc.specs.Counted.{IsCounted}
use Rattle.edit_doc.specs.Fields.{IsEnded, Forgets}
use Rattle.edit_doc.specs.GivingUp.{GivesUp, is_unnamed}
use Rattle.edit_doc.specs.Sound.{next_first}
use Rattle.edit_doc.specs.Trail.{Trail, trail_of}
use Rattle.edit_doc.specs.Live.{live}
use Rattle.edit_doc.proofs.Commits.{edits_count, committed_none, nothing_whole, makes_nothing}
use Rattle.edit_doc.proofs.Inner.{Entering, opened_of, open_of, ending_of}
use Rattle.edit_doc.proofs.Outgone.{detached_inner, detached_still_loose, unkept, gives_both, prunes_both}
use Rattle.edit_doc.proofs.HiddenTrees.{counted-pruned, le_false}
use Rattle.edit_doc.proofs.Rests.{arena_forest}
use Rattle.edit_doc.proofs.Spared.{spared}
use Rattle.edit_doc.proofs.ToldSince.{told_since}
use Rattle.edit_doc.proofs.Rolls.{Leaves}
use Rattle.edit_doc.proofs.Unnamed.{unnamed, some_low, unnamed_loose}
use Rattle.edit_doc.proofs.Doc.commit.Goals as goal

-- ---- without an edit

pub drop_made-requires-clause-whole : goal.drop_made-requires-clause-whole
drop_made-requires-clause-whole c =
    let n = c.in-Nothing.ensures.closes in
    subst (λ (m : Command). IsWhole (λ l. nat_le m.start l) c.self.inside.tree.nodes.arena.trees) (sym n.command)
    (nothing_whole c.self.inside (ending_of c.self.inside _ c.self.view_is c.valid-2.ensures c.self.invariant c.requires.«open» c.resting_places-places.result c.resting_places-places.ensures) n.none)

pub invariant_of-nodes : goal.invariant_of-nodes
invariant_of-nodes c =
    let n = c.self.inside.tree.nodes in
    let start = c.self.inside.command.start in
    let drops = subst (λ (m : Command). DropsMade n.arena c.drop_made.new.self m.start) c.in-Nothing.ensures.closes.command c.drop_made.ensures.drops in
    record { counted = subst (λ t. IsCounted t n.counts) (sym drops.trees) (counted-pruned n.arena.trees n.arena.next (arena_forest n.arena c.valid-2.ensures) (nat_le start) (le_false start 0 c.self.invariant.some_label) n.counts n.counted) }

drops : (c : goal.After-end) → DropsMade c.self.inside.tree.nodes.arena c.drop_made.new.self c.self.inside.command.start
drops c = subst (λ (m : Command). DropsMade c.self.inside.tree.nodes.arena c.drop_made.new.self m.start) c.in-Nothing.ensures.closes.command c.drop_made.ensures.drops

forgets : (c : goal.After-end) → Forgets c.self.inside.history.past c.forget_detached.new.self.past c.self.inside.command
forgets c =
    let n = c.in-Nothing.ensures.closes in
    subst (λ (m : Command). Forgets c.self.inside.history.past c.forget_detached.new.self.past m) n.command
    (subst (λ (t : Trail). Forgets t.past c.forget_detached.new.self.past c.commit.new.command) n.history c.forget_detached.ensures.forgotten)

trail : (c : goal.After-end) → c.forget_detached.new.self ≡ trail_of (record c.self.inside.history.log { open_entry = Closed }) c.forget_detached.new.self.past c.self.inside.history.future
trail c =
    let n = c.in-Nothing.ensures.closes in
    let log = committed_none c.self.inside.history.log c.self.inside.history.log.open_entry n.none (open_of c.self.inside _ c.self.view_is c.requires.«open») in
    c.forget_detached.ensures.rest
    ∙ (ap (λ (t : Trail). record t { past = c.forget_detached.new.self.past }) n.history
    ∙ ap (λ l. trail_of l c.forget_detached.new.self.past c.self.inside.history.future) log)

ended : (c : goal.After-end) → IsEnded c.drop_made.new.self.next c.end.new.self
ended c = subst (λ (n : ℕ). IsEnded n c.end.new.self) c.next_label.ensures c.end.ensures

nothing : (c : goal.After-end) → Leaves (record (live c.self.inside.tree) { arena = c.drop_made.new.self; points = shown c.self.inside.tree.points.names c.resting_places-places.result }) c.end.new.self
    (trail_of (record c.self.inside.history.log { open_entry = Closed }) c.forget_detached.new.self.past c.self.inside.history.future) c.args.self.now (rested c.args.self.now.state) (history_committed c.args.self.now)
nothing c =
    makes_nothing c.self.inside (ending_of c.self.inside _ c.self.view_is c.valid-2.ensures c.self.invariant c.requires.«open» c.resting_places-places.result c.resting_places-places.ensures) c.in-Nothing.ensures.closes.none
    _ (drops c) c.valid-in-Nothing.ensures _ (forgets c) _ (ended c) _ c.self.view_is

pub invariant_of-self : goal.invariant_of-self
invariant_of-self c = rw (c.set_places.ensures, trail c) (nothing c).invariant

pub returns-in-Nothing-clause-answer : goal.returns-in-Nothing-clause-answer
returns-in-Nothing-clause-answer c =
    let n = edits_count c.self.inside _ c.self.view_is in
    let none = ap length c.in-Nothing.ensures.closes.none in
    (λ e. absurd (cc), λ h. absurd (omega (arith, n, none, h)))

pub returns-in-Nothing-clause-state : goal.returns-in-Nothing-clause-state
returns-in-Nothing-clause-state c = rw (c.set_places.ensures, trail c) (nothing c).state

pub returns-in-Nothing-clause-history : goal.returns-in-Nothing-clause-history
returns-in-Nothing-clause-history c = rw (c.set_places.ensures, trail c) (nothing c).history

pub returns-in-Nothing-clause-keeps : goal.returns-in-Nothing-clause-keeps
returns-in-Nothing-clause-keeps c = rw (c.set_places.ensures, trail c) (nothing c).keeps

-- ---- with an edit

pub give_up_unnamed-requires-clause-inner : goal.give_up_unnamed-requires-clause-inner
give_up_unnamed-requires-clause-inner c = subst (λ (n : ℕ). 0 < n) (sym c.first_undone-low.ensures) (some_low c.self.inside (opened_of c.self.inside _ c.self.view_is c.valid-2.ensures c.self.invariant c.requires.«open»))

pub give_up_unnamed-requires-clause-loose : goal.give_up_unnamed-requires-clause-loose
give_up_unnamed-requires-clause-loose c =
    subst (λ (m : Command). (l : ℕ) → is_unnamed c.first_undone-low.result m l ≡ true → parent_of c.self.inside.tree.nodes.arena.trees l ≡ None) (sym c.in-Entry.ensures.closes.command)
    (subst (λ (n : ℕ). (l : ℕ) → is_unnamed n c.self.inside.command l ≡ true → parent_of c.self.inside.tree.nodes.arena.trees l ≡ None) (sym c.first_undone-low.ensures)
    (unnamed_loose c.self.inside (opened_of c.self.inside _ c.self.view_is c.valid-2.ensures c.self.invariant c.requires.«open»)))

abbrev enters : (c : goal.After-give_up_detached-arg-1) → Entering c.self.inside
enters c = let m = c.in-Entry.ensures.closes in record { ending = ending_of c.self.inside _ c.self.view_is c.valid-2.ensures c.self.invariant c.requires.«open» c.resting_places-places.result c.resting_places-places.ensures; some = m.some; past = c.commit.new.self.past; out = c.in-Entry.oldest; entered = m.entered }

gives : (c : goal.After-give_up_detached-arg-1) → GivesUp (unnamed c.self.inside (opened_of c.self.inside _ c.self.view_is c.valid-2.ensures c.self.invariant c.requires.«open»)) c.self.inside.tree.nodes.arena c.give_up_unnamed.new.arena
gives c =
    subst (λ (m : Command). GivesUp (is_unnamed (next_first c.self.inside.command.start c.self.inside.history.future) m) c.self.inside.tree.nodes.arena c.give_up_unnamed.new.arena) c.in-Entry.ensures.closes.command
    (subst (λ (n : ℕ). GivesUp (is_unnamed n c.commit.new.command) c.self.inside.tree.nodes.arena c.give_up_unnamed.new.arena) c.first_undone-low.ensures c.give_up_unnamed.ensures)

pub give_up_detached-requires-clause-inner : goal.give_up_detached-requires-clause-inner
give_up_detached-requires-clause-inner c =
    detached_inner c.self.inside (enters c)

pub give_up_detached-requires-clause-loose : goal.give_up_detached-requires-clause-loose
give_up_detached-requires-clause-loose c =
    detached_still_loose c.self.inside (enters c) _ (gives c)

abbrev enters_all : (c : goal.After-end-in-Entry) → Entering c.self.inside
enters_all c = let m = c.in-Entry.ensures.closes in record { ending = ending_of c.self.inside _ c.self.view_is c.valid-2.ensures c.self.invariant c.requires.«open» c.resting_places-places.result c.resting_places-places.ensures; some = m.some; past = c.commit.new.self.past; out = c.in-Entry.oldest; entered = m.entered }

gives_all : (c : goal.After-end-in-Entry) → GivesUp (unkept c.self.inside (enters_all c)) c.self.inside.tree.nodes.arena c.give_up_detached.new.arena
gives_all c =
    let m = c.in-Entry.ensures.closes in
    let first : GivesUp (unnamed c.self.inside (opened_of c.self.inside _ c.self.view_is c.valid-2.ensures c.self.invariant c.requires.«open»)) c.self.inside.tree.nodes.arena c.give_up_unnamed.new.arena =
    subst (λ (n : Command). GivesUp (is_unnamed (next_first c.self.inside.command.start c.self.inside.history.future) n) c.self.inside.tree.nodes.arena c.give_up_unnamed.new.arena) m.command
    (subst (λ (n : ℕ). GivesUp (is_unnamed n c.commit.new.command) c.self.inside.tree.nodes.arena c.give_up_unnamed.new.arena) c.first_undone-low.ensures c.give_up_unnamed.ensures) in
    gives_both c.self.inside (enters_all c) _ _ first c.give_up_detached.ensures

pub invariant_of-nodes-in-Entry : goal.invariant_of-nodes-in-Entry
invariant_of-nodes-in-Entry c =
    let n = c.self.inside.tree.nodes in
    let m = c.in-Entry.ensures.closes in
    let entering : Entering c.self.inside = record { ending = ending_of c.self.inside _ c.self.view_is c.valid-2.ensures c.self.invariant c.requires.«open» c.resting_places-places.result c.resting_places-places.ensures; some = m.some; past = c.commit.new.self.past; out = c.in-Entry.oldest; entered = m.entered } in
    let first : GivesUp (unnamed c.self.inside (opened_of c.self.inside _ c.self.view_is c.valid-2.ensures c.self.invariant c.requires.«open»)) c.self.inside.tree.nodes.arena c.give_up_unnamed.new.arena =
    subst (λ (n : Command). GivesUp (is_unnamed (next_first c.self.inside.command.start c.self.inside.history.future) n) c.self.inside.tree.nodes.arena c.give_up_unnamed.new.arena) m.command
    (subst (λ (n : ℕ). GivesUp (is_unnamed n c.commit.new.command) c.self.inside.tree.nodes.arena c.give_up_unnamed.new.arena) c.first_undone-low.ensures c.give_up_unnamed.ensures) in
    let gives = gives_both c.self.inside entering _ _ first c.give_up_detached.ensures in
    record { counted = subst (λ t. IsCounted t n.counts) (sym gives.trees) (counted-pruned n.arena.trees n.arena.next (arena_forest n.arena c.valid-2.ensures) (unkept c.self.inside entering) (prunes_both c.self.inside entering).document n.counts n.counted) }

entry_ended : (c : goal.After-end-in-Entry) → IsEnded c.self.inside.tree.nodes.arena.next c.end-in-Entry.new.self
entry_ended c = subst (λ (n : ℕ). IsEnded n c.end-in-Entry.new.self) (c.next_label-in-Entry.ensures ∙ (c.give_up_detached.ensures.next ∙ c.give_up_unnamed.ensures.next)) c.end-in-Entry.ensures

spares : (c : goal.After-end-in-Entry) → Leaves (record (live c.self.inside.tree) { arena = c.give_up_detached.new.arena; points = shown c.self.inside.tree.points.names c.resting_places-places.result }) c.end-in-Entry.new.self
    (trail_of c.commit.new.self.log c.commit.new.self.past []) c.args.self.now (rested c.args.self.now.state) (history_committed c.args.self.now)
spares c =
    let m = c.in-Entry.ensures.closes in
    spared c.self.inside (enters_all c) c.valid.ensures.log
    _ (entry_ended c) _ m.log _ (gives_all c) c.valid-in-Entry.ensures _ c.self.view_is

entry_trail : (c : goal.After-end-in-Entry) → c.commit.new.self ≡ trail_of c.commit.new.self.log c.commit.new.self.past []
entry_trail c = ap (trail_of c.commit.new.self.log c.commit.new.self.past) c.in-Entry.ensures.closes.future

pub invariant_of-self-in-Entry : goal.invariant_of-self-in-Entry
invariant_of-self-in-Entry c = rw (c.set_places.ensures, entry_trail c) (spares c).invariant

pub returns-in-Entry-clause-state : goal.returns-in-Entry-clause-state
returns-in-Entry-clause-state c = rw c.set_places.ensures (spares c).state

pub returns-in-Entry-clause-history : goal.returns-in-Entry-clause-history
returns-in-Entry-clause-history c = rw (c.set_places.ensures, entry_trail c) (spares c).history

pub returns-in-Entry-clause-keeps : goal.returns-in-Entry-clause-keeps
returns-in-Entry-clause-keeps c = rw (c.set_places.ensures, entry_trail c) (spares c).keeps

pub returns-in-Entry-clause-answer : goal.returns-in-Entry-clause-answer
returns-in-Entry-clause-answer c =
    let n = edits_count c.self.inside _ c.self.view_is in
    let some = c.in-Entry.ensures.closes.some in
    (λ e. omega (arith, n, some), λ h. refl)

pub returns-in-Nothing-clause-told : goal.returns-in-Nothing-clause-told
returns-in-Nothing-clause-told c = λ some. absurd (let n = edits_count c.self.inside _ c.self.view_is in let none = ap length c.in-Nothing.ensures.closes.none in omega (arith, n, none, some))

pub returns-in-Entry-clause-told : goal.returns-in-Entry-clause-told
returns-in-Entry-clause-told c =
    let is = returns-in-Entry-clause-history c in
    λ some. subst (λ (h : History). IsToldSince c.args.self.now.began c.args.self.now.state c.args.self.now.history.undo h.undo) (sym is)
    (told_since c.self.inside (enters_all c) c.valid.ensures.log _ (entry_ended c) _ c.self.view_is)
