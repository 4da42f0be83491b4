use Rattle.std.proofs.Common.{◌≡◌, ◌<◌, length, map, reverse, take, drop, subst, arith}
use Rattle.std.specs.Prelude.{IfOk}
use Rattle.std.proofs.lemmas.Result.{IfOk-weaker, IfOk-at_ok}
use Rattle.edit_doc.specs.Logged.{HasMoved, logged_entry}
use Rattle.edit_doc.proofs.LoggedDocs.{moved_none, still_closed, some_detached, redone_one, listed_more}
use Rattle.edit_doc.proofs.Doc.redo_and_read.Goals as goal
use Rattle.edit_doc.proofs.Doc.redo_and_read.Goals.{in-Ok, in-Err}

pub loop-done-init : goal.loop-done-init
loop-done-init g c = (subst (λ us. HasMoved c.args.self.now c.args.self.now us c.args.self.now.history.redo) c.requires.all (moved_none c.args.self.now), c.new.ensures.items)

pub redo_next-requires-clause-closed : goal.redo_next-requires-clause-closed
redo_next-requires-clause-closed g c = still_closed _ _ _ _ c.loop-done.invariant.0 c.requires.closed

pub redo_next-requires-clause-more : goal.redo_next-requires-clause-more
redo_next-requires-clause-more g c =
    let rs = c.args.self.now.history.redo in
    let more : c.loop-done._done < length rs = (let all = c.requires.within in let lt = c.loop-done-test.true in omega (arith, all, lt)) in
    some_detached rs c.loop-done.self.history.redo c.loop-done._done more c.loop-done.invariant.0.redo

pub redo-requires : goal.redo-requires
redo-requires g c = record { closed = still_closed _ _ _ _ c.loop-done.invariant.0 c.requires.closed }

pub loop-done-preserved : goal.loop-done-preserved
loop-done-preserved g c =
    let was = c.args.self.now in
    let rs = was.history.redo in
    let more : c.loop-done._done < length rs = (let all = c.requires.within in let lt = c.loop-done-test.true in omega (arith, all, lt)) in
    let h = c.loop-done.invariant.0 in
    elim c.match-entries.branch [
      | in-Ok w ↦ (
          let listed = IfOk-at_ok (λ es. es.items ≡ map logged_entry (take c.loop-done._done rs)) w.in-Ok.is c.loop-done.invariant.1 in
          rw (w.entries-is, w.self-is) (
            redone_one was c.loop-done.self w.redo_next.new.self rs c.loop-done._done more h w.redo_next.ensures.redone,
            IfOk-weaker w.redo_next.result _ _ (λ es e. listed_more rs c.loop-done.self.history.redo c.loop-done._done more h.redo w.in-Ok.before.items listed es.items e) w.redo_next.ensures.read,
          ))
      | in-Err w ↦ rw (w.entries-is, w.self-is) (redone_one was c.loop-done.self w.redo.new.self rs c.loop-done._done more h w.redo.ensures.doc, tt)
    ]

pub returns-clause-moved : goal.returns-clause-moved
returns-clause-moved g c =
    let was = c.args.self.now in
    let all : c.loop-done._done ≡ c.args.count = (let a = c.loop-done-test.false in let b = c.loop-done.auto._done-end in omega (arith, a, b)) in
    subst (λ n. HasMoved was c.loop-done.self (reverse (take n was.history.redo)) (drop n was.history.redo)) all c.loop-done.invariant.0

pub returns-clause-read : goal.returns-clause-read
returns-clause-read g c =
    let rs = c.args.self.now.history.redo in
    let all : c.loop-done._done ≡ c.args.count = (let a = c.loop-done-test.false in let b = c.loop-done.auto._done-end in omega (arith, a, b)) in
    subst (λ n. IfOk c.loop-done.entries (λ entries. entries.items ≡ map logged_entry (take n rs))) all c.loop-done.invariant.1
