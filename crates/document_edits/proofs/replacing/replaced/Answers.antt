use Rattle.document_edits.proofs.Splicing.{replaced_none, replaced_some}
use Rattle.document_edits.proofs.replacing.replaced.Goals as goal
use Rattle.document_edits.proofs.replacing.replaced.Goals.{else-at-old-via-then-at-old+else-at-new, else-at-old-via-else-at-old}

pub returns-then-at-new : goal.returns-then-at-new
returns-then-at-new c =
    replaced_none c.args.node c.shared_start-at.result c.args.old.now c.args.new.now
    c.shared_start-at.ensures.shared c.if-at-old.true c.if-at-new.true

pub returns : goal.returns
returns c =
    replaced_some c.args.node c.shared_start-at.result c.shared_end-same.result c.args.old.now c.args.new.now c.in_ok-put.put
    c.shared_start-at.ensures.shared
    (λ long longer. elim c.else-at-old.branch [
      | else-at-old-via-then-at-old+else-at-new w ↦ w.if-at-new.false longer
      | else-at-old-via-else-at-old w ↦ w.if-at-old.false long
    ])
    c.shared_end-same.ensures.shared c.in_ok-put.ensures
