use Rattle.std.proofs.Common.{sym, ◌∙◌}
use Rattle.dom_model.proofs.AttributeLemmas.{next-name}
use Rattle.dom_model.proofs.attributes.scanned.Goals as goal

pub loop-place-preserved : goal.loop-place-preserved
loop-place-preserved c =
    next-name c.args.name.now c.loop-place.place c.args.rows.now.entries (sym c.is_at.ensures ∙ c.if-is_at.false) ∙ c.loop-place.invariant
