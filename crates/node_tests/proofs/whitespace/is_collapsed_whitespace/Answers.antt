use Rattle.std.proofs.Common.{sym, ◌∙◌}
use Rattle.node_tests.proofs.Collapsing.{whitespace_leaf}
use Rattle.node_tests.proofs.whitespace.is_collapsed_whitespace.Goals as goal

pub collapses_after-requires : goal.collapses_after-requires
collapses_after-requires g c =
    let law = c.valid.ensures in
    record {
      held = c.requires;
      leaf = whitespace_leaf law c.args.node.label (law.here c.args.node c.requires) (sym c.is_whitespace.ensures ∙ c.if-is_whitespace.true);
    }
