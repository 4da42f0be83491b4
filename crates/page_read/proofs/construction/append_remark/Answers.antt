use Rattle.node_arena.specs.DomModel.declared.Content.TheVariants.{Remark}
use Rattle.page_read.proofs.ConstructionLemmas.{can_append}
use Rattle.page_read.proofs.construction.append_remark.Goals as goal

pub link_last-requires-clause-can : goal.link_last-requires-clause-can
link_last-requires-clause-can c =
    (can_append c.args.arena.now c.make_remark.new.self c.args.parent c.in-Ok.node (Remark c.args.words) c.valid.ensures c.valid-2.ensures c.requires c.in-Ok.ensures.made).can

pub returns : goal.returns
returns c =
    (can_append c.args.arena.now c.make_remark.new.self c.args.parent c.in-Ok.node (Remark c.args.words) c.valid.ensures c.valid-2.ensures c.requires c.in-Ok.ensures.made).gives c.link_last.new.arena c.link_last.ensures
