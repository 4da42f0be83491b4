use Rattle.node_arena.proofs.CountsOk.{root_place}
use Rattle.node_arena.proofs.Arena.document_place.Goals as goal

pub returns-clause-place : goal.returns-clause-place
returns-clause-place c = root_place c.args.self.now c.valid.ensures c.document.result c.document.ensures.label c.document.ensures.held
