use Rattle.std.proofs.Common.{sym, ◌∙◌}
use Rattle.edit_doc.proofs.Shown.{host_shown}
use Rattle.edit_doc.proofs.nodes.DocNodes.is_host.Goals as goal

pub returns : goal.returns
returns c = c.is_host.ensures ∙ sym (host_shown c.nodes.ensures c.args.node c.requires)
