use Rattle.std.proofs.Common.{◌≡◌, true, IfSome}
use Rattle.edit_model.specs.Confined.{is_inside}
use Rattle.edit_model.specs.Gives.{label_of}
use Rattle.inline_value.specs.EditDoc.Held.{IfHeld}
use Rattle.block_commands.specs.FormatBlock.{is_outer_block, has_outer_block}
use Rattle.inline_value.proofs.Above.{height}
use Rattle.block_commands.proofs.Above.{any_from}
use Rattle.block_commands.proofs.lines.has_outer_block.Given as goal

abbrev pub invariant-loop-at : goal.invariant-loop-at
invariant-loop-at l = record {
  held : IfHeld l.doc l.at;
  inside : l.inside ≡ true → IfSome l.at (λ r. is_inside l.doc.state r.label ≡ true);
  same : any_from (is_outer_block l.doc.state) l.doc.state.trees (label_of l.at) ≡ has_outer_block l.doc.state l.fn.node.label;
}

abbrev pub decreases-loop-at : goal.decreases-loop-at
decreases-loop-at l = height l.doc.state.trees (label_of l.at)
