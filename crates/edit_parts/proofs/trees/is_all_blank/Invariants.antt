use Rattle.std.proofs.Common.{◌≡◌, true, take}
use Rattle.std.specs.List.{list_all}
use Rattle.edit_model.specs.Kept.{is_blank}
use Rattle.edit_parts.proofs.trees.is_all_blank.Given as goal

abbrev pub invariant-loop-c : goal.invariant-loop-c
invariant-loop-c l = list_all is_blank (take l.c-index l.chars) ≡ true
