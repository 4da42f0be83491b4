use Rattle.std.proofs.Common.{◌++◌, ◌<◌, [], length, reverse, take, subst, arith}
use Rattle.edit_doc.specs.Logged.{HasMoved}
use Rattle.edit_doc.proofs.LoggedDocs.{moved_none, still_closed, undone_one, all_taken}
use Rattle.edit_doc.proofs.Doc.undo_entries.Goals as goal

pub loop-done-init : goal.loop-done-init
loop-done-init g c = moved_none c.args.self.now

pub undo-requires : goal.undo-requires
undo-requires g c = record { closed = still_closed _ _ _ _ c.loop-done.invariant c.requires.closed }

pub loop-done-preserved : goal.loop-done-preserved
loop-done-preserved g c =
    let was = c.args.self.now in
    let more : c.loop-done._done < length was.history.undo = (let all = c.requires.all in let lt = c.loop-done-test.true in omega (arith, all, lt)) in
    undone_one was c.loop-done.self c.undo.new.self was.history.undo was.history.redo c.loop-done._done more c.loop-done.invariant c.undo.ensures.doc

pub returns : goal.returns
returns g c =
    let was = c.args.self.now in
    let all = all_taken was.history.undo c.args.count c.loop-done._done c.loop-done-test.false c.loop-done.auto._done-end c.requires.all in
    subst (λ xs. HasMoved was c.loop-done.self [] (reverse xs ++ was.history.redo)) all.0
    (subst (λ xs. HasMoved was c.loop-done.self xs (reverse (take c.loop-done._done was.history.undo) ++ was.history.redo)) all.1 c.loop-done.invariant)
