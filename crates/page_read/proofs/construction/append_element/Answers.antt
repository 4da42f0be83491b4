use Rattle.std.proofs.Common.{refl}
use Rattle.node_arena.specs.DomModel.declared.Content.TheVariants.{Element}
use Rattle.page_read.proofs.ConstructionLemmas.{can_append}
use Rattle.page_read.proofs.construction.append_element.Goals as goal

pub link_last-requires-clause-can : goal.link_last-requires-clause-can
link_last-requires-clause-can c =
    (can_append c.args.arena.now c.make_element.new.self c.args.parent c.in-Ok.node (Element c.args.name c.args.attributes) c.valid.ensures c.valid-2.ensures c.requires c.in-Ok.ensures.made).can

pub returns : goal.returns
returns c =
    let can = (can_append c.args.arena.now c.make_element.new.self c.args.parent c.in-Ok.node (Element c.args.name c.args.attributes) c.valid.ensures c.valid-2.ensures c.requires c.in-Ok.ensures.made) in
    record {
      label = c.in-Ok.ensures.made.label;
      here = can.here refl c.link_last.new.arena c.link_last.ensures;
      grown = can.gives c.link_last.new.arena c.link_last.ensures;
    }
