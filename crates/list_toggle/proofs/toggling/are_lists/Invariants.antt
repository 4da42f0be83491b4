use Rattle.std.proofs.Common.{◌≡◌, drop}
use Rattle.std.specs.List.{list_all}
use Rattle.edit_model.specs.Gives.{labels_of}
use Rattle.list_indent.specs.Sublists.{is_list}
use Rattle.list_toggle.proofs.toggling.are_lists.Given as goal

abbrev pub invariant-loop-node : goal.invariant-loop-node
invariant-loop-node l =
    list_all (is_list l.doc.state) (labels_of (drop l.node-index l.list)) ≡ list_all (is_list l.doc.state) (labels_of l.list)
