use Rattle.std.proofs.Common.{◌≡◌, ◌<◌, ◌^◌, Some, length, subst, sym, ap, ◌∙◌}
use Rattle.document_edits.specs.DomModel.Contents.{chars_of}
use Rattle.node_paths.specs.NodeArena.declared.NodeRef.{NodeRef}
use Rattle.edit_steps.proofs.ForestChanges.Contents.{chars_there}
use Rattle.edit_steps.proofs.ForestChanges.Splices.{part_chars}
use Rattle.step_edits.proofs.telling.tell_splice.Goals as goal

pub replaced-requires : goal.replaced-requires
replaced-requires c =
    let f = c.args.arena.now.trees in
    let s = c.args.splice.now in
    let chars = part_chars f s.node.label s.at s.rest s.taken s.put c.requires.part in
    let there = chars_there f s.node.label c.valid.ensures.distinct c.valid.ensures.nodes chars in
    let found : Some there.0 ≡ Some c.words.result.now = sym there.1 ∙ (ap (λ (n : NodeRef). chars_of f n.label) (sym c.node-node.ensures) ∙ c.words.ensures) in
    let same : there.0 ≡ c.as_slice-old.result.now = (let e = c.as_slice-old.ensures in cc) in
    subst (λ cs. length cs < 2 ^ 32) same there.2
