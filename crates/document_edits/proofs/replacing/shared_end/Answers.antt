use Rattle.std.proofs.Common.{◌∙◌, sym, arith, reverse}
use Rattle.std.proofs.lemmas.List.{length-reverse}
use Rattle.document_edits.proofs.Sharing.{one_more_at_end, differ_at_end, second_ends}
use Rattle.document_edits.proofs.replacing.shared_end.Goals as goal

pub loop-same-preserved : goal.loop-same-preserved
loop-same-preserved c =
    one_more_at_end c.args.old.now c.args.new.now c.loop-same.same c.loop-same.invariant
    c.index-old-old.result c.index-new-new.result (omega arith) (omega arith)
    (sym c.index-old-old.is ∙ (c.if-old-same.true ∙ c.index-new-new.is))

pub returns-else-old-same-clause-shared : goal.returns-else-old-same-clause-shared
returns-else-old-same-clause-shared c =
    differ_at_end c.args.old.now c.args.new.now c.loop-same.same c.loop-same.invariant
    c.index-old-old.result c.index-new-new.result (omega arith) (omega arith)
    (λ same. c.if-old-same.false (c.index-old-old.is ∙ (same ∙ sym c.index-new-new.is)))

pub returns-else-same-new-clause-shared : goal.returns-else-same-new-clause-shared
returns-else-same-new-clause-shared c =
    second_ends (reverse c.args.old.now) (reverse c.args.new.now) c.loop-same.same c.loop-same.invariant
    (omega (arith, length-reverse c.args.new.now))
