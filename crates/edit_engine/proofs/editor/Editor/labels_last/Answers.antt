use Rattle.edit_engine.proofs.HistoryKinds.{have_one_kind}
use Rattle.edit_engine.proofs.editor.Editor.labels_last.Goals as goal

pub returns : goal.returns
returns c = have_one_kind c.args.self.now c.kept_nodes.ensures
