use Rattle.std.proofs.Common.{◌≡◌, true, drop}
use Rattle.edit_model.specs.Action.{stepped_all}
use Rattle.edit_model.specs.Gives.{labels_of}
use Rattle.edit_model.specs.Possible.{are_possible}
use Rattle.edit_model.specs.Tail.{carried}
use Rattle.edit_doc.specs.Extracting.{TellsIndex}
use Rattle.edit_doc.specs.Held.{Keeps}
use Rattle.edit_doc.proofs.Doc.carry_from.Given as goal

-- the nodes that are left can be carried, and that ends where the whole ends
abbrev pub invariant-loop-i : goal.invariant-loop-i
invariant-loop-i l = record {
  possible : are_possible (carried l.target.label (labels_of (drop l.i l.list))) l.self.state ≡ true;
  ends : stepped_all (carried l.target.label (labels_of (drop l.i l.list))) l.self.state ≡ stepped_all (carried l.target.label (drop l.from (labels_of l.list))) l.initial.self.state;
  known : TellsIndex l.self.state.trees l.known;
  keeps : Keeps l.initial.self l.self;
}
