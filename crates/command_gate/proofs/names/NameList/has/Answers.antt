use Rattle.command_gate.proofs.Spelled.{denied_in}
use Rattle.command_gate.proofs.names.NameList.has.Goals as goal

pub loop-word-init : goal.loop-word-init
loop-word-init c = denied_in c.args.name.now c.deref-word-items.result.now _ _ c.deref-word-items.ensures.value c.self.view_is
