use Rattle.std.proofs.Common.{◌≡◌, drop}
use Rattle.std.specs.List.{find}
use Rattle.edit_model.specs.Gives.{labels_of}
use Rattle.text_insertion.specs.Containers.{is_line_content}
use Rattle.text_insertion.proofs.lines.first_content_in.Given as goal

-- what is left has the first one of the whole
abbrev pub invariant-loop-node : goal.invariant-loop-node
invariant-loop-node l =
    find (is_line_content l.doc.state) (labels_of (drop l.node-index l.list)) ≡ find (is_line_content l.doc.state) (labels_of l.list)
