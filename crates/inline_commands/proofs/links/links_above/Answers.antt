use Rattle.std.proofs.Common.{◌≡◌, Some, None, sym, ap, ◌∙◌}
use Rattle.edit_model.specs.DomModel.Forest.{parent_of}
use Rattle.edit_model.specs.Gives.{label_of, labels_of}
use Rattle.inline_commands.proofs.Above.{none_above, above_child}
use Rattle.inline_commands.proofs.links.links_above.Goals as goal

pub returns-in-None-clause-links : goal.returns-in-None-clause-links
returns-in-None-clause-links c =
    let s = c.args.doc.now.state in
    let root : parent_of s.trees c.args.node.label ≡ None = sym c.parent.ensures.is ∙ ap label_of c.in-None.is in
    ap labels_of c.new-list.ensures.items ∙ sym (none_above s.trees c.valid.ensures.valid.forest.distinct c.args.node.label c.requires.here root)

pub returns-in_ok-push_above-in-Some-clause-links : goal.returns-in_ok-push_above-in-Some-clause-links
returns-in_ok-push_above-in-Some-clause-links c =
    let s = c.args.doc.now.state in
    let up : parent_of s.trees c.args.node.label ≡ Some c.in-Some.parent.label = sym c.parent.ensures.is ∙ ap label_of c.in-Some.is in
    let none = ap labels_of c.new-list.ensures.items in
    let made = c.in_ok-push_above-in-Some.ensures.ok in
    (rw none at made) ∙ sym (above_child s.trees c.valid.ensures.valid.forest.distinct c.args.node.label c.requires.here c.in-Some.parent.label up)
