use Rattle.std.proofs.Common.{ap, sym, subst, ◌∙◌, arith}
use Rattle.dom_model.specs.Forest.{IsWithin}
use Rattle.node_arena.specs.declared.NodeRef.{NodeRef}
use Rattle.node_arena.proofs.BeforeOk.{holder_first, holder_second}
use Rattle.node_arena.proofs.Arena.before.Goals as goal

pub returns-then-a_depth-b_depth : goal.returns-then-a_depth-b_depth
returns-then-a_depth-b_depth c =
    let t = c.if-a_depth-b_depth.true in
    let own = c.lifted-above_a.ensures.start (omega (arith, t, c.depth-a_depth.ensures)) in
    let same = sym c.if-above_a-above_b.false ∙ ap (λ (r : NodeRef). r.label) own in
    holder_first c.args.self.now c.valid.ensures c.args.a c.args.b (subst (λ k. IsWithin c.args.self.now.trees k c.args.b.label) same c.lifted-above_b.ensures.above) c.requires.first_held

pub returns-else-a_depth-b_depth : goal.returns-else-a_depth-b_depth
returns-else-a_depth-b_depth c =
    let t = c.if-a_depth-b_depth.false in
    let own = c.lifted-above_b.ensures.start (omega (arith, t, c.depth-b_depth.ensures)) in
    let same = c.if-above_a-above_b.false ∙ ap (λ (r : NodeRef). r.label) own in
    holder_second c.args.self.now c.valid.ensures c.args.a c.args.b (subst (λ k. IsWithin c.args.self.now.trees k c.args.a.label) same c.lifted-above_a.ensures.above) c.requires.second_held
