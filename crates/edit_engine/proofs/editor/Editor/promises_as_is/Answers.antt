use Rattle.std.proofs.Common.{ap}
use Rattle.edit_engine.specs.Editing.{EditorValue}
use Rattle.edit_engine.proofs.Confining.{standing}
use Rattle.edit_engine.proofs.Promising.{promised_as_is}
use Rattle.edit_engine.proofs.editor.Editor.promises_as_is.Goals as goal

pub returns : goal.returns
returns c =
    promised_as_is c.args.self.now
    (standing c.self.inside.doc c.self.inside.going c.self.inside.following c.args.self.now.editing (ap (λ (e : EditorValue). e.editing) c.self.view_is) c.self.invariant c.valid.ensures)
    c.kept_nodes.ensures
