use Rattle.edit_engine.proofs.Holding.{holds_only_needed}
use Rattle.edit_engine.proofs.editor.Editor.kept_nodes.Goals as goal

pub returns : goal.returns
returns c = holds_only_needed c.self.inside.doc c.self.inside.going c.self.inside.following c.args.self.now c.self.view_is c.self.invariant.closed c.kept_nodes.ensures
