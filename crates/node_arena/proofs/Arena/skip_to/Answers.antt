use Rattle.std.proofs.Common.{◌≡◌, ◌-◌, ◌++◌, length, take, ap, sym, subst, ◌∙◌, vec_len, arith}
use Rattle.std.specs.Prelude.{replicate}
use Rattle.node_arena.proofs.UnlinkOk.{Leaves}
use Rattle.node_arena.proofs.SkipOk.{skip_state}
use Rattle.node_arena.proofs.Arena.skip_to.Goals as goal

left : (c : goal.After-self-1) → Leaves c.self.inside.nodes.slots c.args.label c.self.inside.cap c.resize.new.self.items (record c.args.self.now { next = c.args.label })
left c =
    let index = c.self.inside.index in
    let long : vec_len index ≡ length index.items = omega arith in
    let items : c.resize.new.self.items ≡ take c.args.label index.items ++ replicate (c.args.label - length index.items) 0 = c.in_ok-resize.ensures.items ∙ ap (λ n. take c.args.label index.items ++ replicate (c.args.label - n) 0) long in
    subst (λ items. Leaves c.self.inside.nodes.slots c.args.label c.self.inside.cap items (record c.args.self.now { next = c.args.label })) (sym items)
    (skip_state c.self.inside.nodes.slots c.self.inside.next c.self.inside.cap c.self.inside.index.items c.self.invariant c.args.self.now c.self.view_is c.args.label c.requires.low c.requires.high)

pub invariant_of-self-2 : goal.invariant_of-self-2
invariant_of-self-2 c = (left c).arena

pub returns-clause-ok : goal.returns-clause-ok
returns-clause-ok c = (left c).is
