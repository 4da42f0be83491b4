use Rattle.edit_engine.proofs.Finding.{all_inside}
use Rattle.edit_engine.proofs.editor.Editor.path_of.Goals as goal

pub path_of-requires-clause-inner : goal.path_of-requires-clause-inner
path_of-requires-clause-inner c = all_inside c.document-doc.result.now.state (c.valid.ensures.resting c.document-doc.ensures.closed) c.in-Some.node.label c.in-Some.ensures.found.1.here
