use Rattle.std.proofs.Common.{sym, ◌∙◌}
use Rattle.node_tests.proofs.Hosting.{affected_both, affected_end, affected_start}
use Rattle.node_tests.proofs.affected.affected_host.Goals as goal
use Rattle.node_tests.proofs.affected.affected_host.Goals.{else-takes_commands-via-then-takes_commands+else-takes_commands-2, else-takes_commands-via-else-takes_commands}

pub returns-then-takes_commands-2 : goal.returns-then-takes_commands-2
returns-then-takes_commands-2 g c = record {
  is =
      c.common_host.ensures.is
      ∙ affected_both (g.N.Nodes.trees c.args.nodes.now) c.args.range.0.label c.args.range.1.label c.in-Some-Some.start.label c.in-Some-Some.end.label c.in-Some-Some.ensures.found.0 c.in-Some-Some.ensures'.found.0 (sym c.takes_commands.ensures ∙ c.if-takes_commands.true) (sym c.takes_commands-then-takes_commands.ensures ∙ c.if-takes_commands-2.true);
  held = c.common_host.ensures.held;
}

pub returns-else-takes_commands : goal.returns-else-takes_commands
returns-else-takes_commands g c =
    elim c.else-takes_commands.branch [
      | else-takes_commands-via-then-takes_commands+else-takes_commands-2 w ↦ record {
        is = affected_end (g.N.Nodes.trees c.args.nodes.now) c.args.range.0.label c.args.range.1.label c.in-Some-Some.start.label c.in-Some-Some.end.label c.in-Some-Some.ensures.found.0 c.in-Some-Some.ensures'.found.0 (sym c.takes_commands.ensures ∙ w.if-takes_commands.true) (sym w.takes_commands-then-takes_commands.ensures ∙ w.if-takes_commands-2.false);
        held = tt;
      }
      | else-takes_commands-via-else-takes_commands w ↦ record {
        is = affected_start (g.N.Nodes.trees c.args.nodes.now) c.args.range.0.label c.args.range.1.label c.in-Some-Some.start.label c.in-Some-Some.end.label c.in-Some-Some.ensures.found.0 c.in-Some-Some.ensures'.found.0 (sym c.takes_commands.ensures ∙ w.if-takes_commands.false);
        held = tt;
      }
    ]
