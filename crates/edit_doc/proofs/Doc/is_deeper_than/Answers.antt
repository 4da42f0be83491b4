use Rattle.std.proofs.Common.{sym, ap, ◌∙◌, arith}
use Rattle.std.specs.Prelude.{nat_lt}
use Rattle.std.proofs.lemmas.Bool.{le-ltb}
use Rattle.edit_model.specs.DomModel.Document.{page_depth}
use Rattle.edit_doc.proofs.Doc.is_deeper_than.Goals as goal

pub returns-then-counts-limit : goal.returns-then-counts-limit
returns-then-counts-limit c = ap (nat_lt c.args.limit) c.page_depth.ensures

pub returns-else-counts-limit : goal.returns-else-counts-limit
returns-else-counts-limit c =
    let low = c.counts.ensures.depth in
    le-ltb c.args.limit c.counts.result.depth c.if-counts-limit.false ∙ sym (le-ltb c.args.limit (page_depth c.args.self.now.state.trees) (omega (arith, low, c.if-counts-limit.false)))
