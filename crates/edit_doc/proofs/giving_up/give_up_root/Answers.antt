use Rattle.std.proofs.Common.{refl}
use Rattle.edit_doc.proofs.GivingUp.{gives_tree, gives_absent}
use Rattle.edit_doc.proofs.giving_up.give_up_root.Goals as goal

pub returns-in-Some : goal.returns-in-Some
returns-in-Some c = gives_tree c.args.arena.now c.drop_tree.new.self c.in-Some.node c.args.label c.valid.ensures c.in-Some.ensures.found.0 c.in-Some.ensures.found.1 c.requires.loose c.drop_tree.ensures

pub returns-in_default : goal.returns-in_default
returns-in_default c = gives_absent c.args.arena.now c.args.label (c.in_default.ensures.absent.0 refl)
