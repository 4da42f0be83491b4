use Rattle.std.proofs.Common.{◌≡◌, true, sym, ap, ◌∙◌, codes}
use Rattle.edit_model.specs.DomModel.Contents.{has_name}
use Rattle.edit_model.specs.Gives.{labels_of}
use Rattle.edit_model.proofs.Steps.{labels_of_push_end}
use Rattle.inline_value.proofs.EditDoc.Children.{pushed_held}
use Rattle.list_indent.proofs.gathering.push_if_item.Goals as goal

pub returns-in_ok-push-clause-ok : goal.returns-in_ok-push-clause-ok
returns-in_ok-push-clause-ok c =
    let t : has_name c.args.doc.now.state.trees c.args.node.label (codes "li") ≡ true = sym c.is_item.ensures ∙ c.if-is_item.true in
    rw t (ap labels_of c.in_ok-push.ensures.items ∙ labels_of_push_end c.args.list.now.items c.args.node)

pub returns-in_ok-push-clause-held : goal.returns-in_ok-push-clause-held
returns-in_ok-push-clause-held c = pushed_held c.args.doc.now c.args.list.now.items _ c.args.node c.requires.each_held c.requires.node_held c.in_ok-push.ensures.items
