use Rattle.std.proofs.Common.{Some, ap, ◌∙◌, arith}
use Rattle.dom_model.specs.declared.Content.TheVariants.{Words, Remark}
use Rattle.dom_model.proofs.Laws.{short_chars}
use Rattle.node_arena.proofs.Arena.length.Goals as goal

pub overflow_cast-result : goal.overflow_cast-result
overflow_cast-result c =
    omega (arith, c.len.ensures, short_chars c.args.self.now c.valid.ensures c.args.node.label (Words c.in-Words.chars) (c.content.ensures ∙ ap Some c.in-Words.is))

pub overflow_cast-result-in-Remark : goal.overflow_cast-result-in-Remark
overflow_cast-result-in-Remark c =
    omega (arith, c.len-in-Remark.ensures, short_chars c.args.self.now c.valid.ensures c.args.node.label (Remark c.in-Remark.chars) (c.content.ensures ∙ ap Some c.in-Remark.is))
