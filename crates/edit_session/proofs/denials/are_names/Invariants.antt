use Rattle.std.proofs.Common.{◌≡◌, ◌≤◌, length}
use Rattle.edit_session.specs.Denials.{are_names}
use Rattle.edit_session.proofs.DeniedNames.{fits}
use Rattle.edit_session.proofs.denials.are_names.Given as goal

-- with the names that are counted, what is left of the list decides
abbrev pub invariant-loop-name : goal.invariant-loop-name
invariant-loop-name l = record {
  rest : fits l.count l.rest ≡ are_names l.text;
  few : l.count ≤ 16;
}

abbrev pub decreases-loop-name : goal.decreases-loop-name
decreases-loop-name l = length l.rest
