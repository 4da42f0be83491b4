use Rattle.node_texts.proofs.Visiting.{first_led, short_content, shown_tree}
use Rattle.node_texts.proofs.walk.walk.Goals as goal

pub enter-requires : goal.enter-requires
enter-requires g c = record { short = short_content c.valid.ensures c.args.node _ c.requires c.content-content.ensures }

pub walk_from-requires-clause-inner : goal.walk_from-requires-clause-inner
walk_from-requires-clause-inner g c = first_led c.valid.ensures c.args.node c.requires c.first_child.result c.first_child.ensures

pub returns : goal.returns
returns g c =
    record {
      ok = shown_tree g.V.Visitor.entered g.V.Visitor.left (g.N.Nodes.trees c.args.nodes.now) c.args.node.label _ c.valid.ensures.distinct (c.valid.ensures.here c.args.node c.requires) c.content-content.ensures _ c.first_child.ensures.is
          _ _ _ _ c.in_ok-enter.ensures.ok c.in_ok-walk_from.ensures.ok c.in_ok-leave.ensures.ok;
    }
