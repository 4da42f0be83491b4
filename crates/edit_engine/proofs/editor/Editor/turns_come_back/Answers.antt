use Rattle.edit_engine.proofs.ThereAndBack.{undos_come_back, redos_come_back}
use Rattle.edit_engine.proofs.editor.Editor.turns_come_back.Goals as goal

pub returns : goal.returns
returns c = record {
  undos = undos_come_back c.args.self.now c.kept_nodes.ensures;
  redos = redos_come_back c.args.self.now c.kept_nodes.ensures;
}
