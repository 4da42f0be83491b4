use Rattle.std.proofs.Common.{◌≡◌, ◌≤◌, [], length, drop}
use Rattle.edit_model.specs.Gives.{labels_of}
use Rattle.edit_model.specs.Run.{final, value, while_at_most}
use Rattle.inline_value.specs.EditDoc.Held.{EachHeld, Keeps}
use Rattle.inline_value.specs.WrapSplit.Walks.{turn_bound}
use Rattle.list_toggle.specs.Collecting.{goes_on, collect_next}
use Rattle.list_toggle.proofs.collecting.collect_items.Given as goal

-- what is left to do ends where the whole ends, with the same answer
abbrev pub invariant-loop-left : goal.invariant-loop-left
invariant-loop-left l = record {
  ends :
      final (while_at_most l.left goes_on collect_next (labels_of l.items.items, labels_of (drop l.at l.list))) l.doc.state
      ≡ final (while_at_most (turn_bound l.initial.doc.state) goes_on collect_next ([], labels_of l.list)) l.initial.doc.state;
  answers :
      value (while_at_most l.left goes_on collect_next (labels_of l.items.items, labels_of (drop l.at l.list))) l.doc.state
      ≡ value (while_at_most (turn_bound l.initial.doc.state) goes_on collect_next ([], labels_of l.list)) l.initial.doc.state;
  within : l.at ≤ length l.list;
  held : EachHeld l.doc l.items.items;
  keeps : Keeps l.initial.doc l.doc;
}

abbrev pub decreases-loop-left : goal.decreases-loop-left
decreases-loop-left l = l.left
