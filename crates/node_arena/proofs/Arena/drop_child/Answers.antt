use Rattle.std.proofs.Common.{ap, ◌∙◌}
use Rattle.dom_model.specs.ArenaState.{ArenaState}
use Rattle.dom_model.specs.Forest.{parent_of, first_of}
use Rattle.node_arena.proofs.DropTreeOk.{loose_parent, loose_first, drops_child, given}
use Rattle.node_arena.proofs.Arena.drop_child.Goals as goal

pub drop_leaf-requires-clause-loose : goal.drop_leaf-requires-clause-loose
drop_leaf-requires-clause-loose g c =
    let p = given _ c.requires.child in
    ap (λ (s : ArenaState). parent_of s.trees c.args.node.label) c.unlink.ensures.unlinked ∙ loose_parent c.args.self.now.trees c.valid.ensures.distinct p.0 c.args.node.label p.1

pub drop_leaf-requires-clause-leaf : goal.drop_leaf-requires-clause-leaf
drop_leaf-requires-clause-leaf g c =
    let p = given _ c.requires.child in
    ap (λ (s : ArenaState). first_of s.trees c.args.node.label) c.unlink.ensures.unlinked ∙ (loose_first c.args.self.now.trees c.valid.ensures.distinct p.0 c.args.node.label p.1 ∙ c.requires.leaf)

pub returns : goal.returns
returns g c =
    let p = given _ c.requires.child in
    drops_child c.args.self.now c.unlink.new.self c.drop_leaf.new.self c.args.node p.0 c.valid.ensures.distinct p.1 c.unlink.ensures.unlinked c.drop_leaf.ensures
