use Rattle.std.proofs.Common.{◌≡◌, ◌++◌, ◌≤◌, ◌-◌}
use Rattle.edit_session.specs.Bulk.{paragraphs}
use Rattle.edit_session.proofs.bulk.push_paragraphs.Given as goal

-- the paragraphs so far are appended
abbrev pub invariant-loop-number : goal.invariant-loop-number
invariant-loop-number l = record {
  text : l.bytes.items ≡ l.initial.bytes.items ++ paragraphs l.number;
  within : l.number ≤ l.count;
}

abbrev pub decreases-loop-number : goal.decreases-loop-number
decreases-loop-number l = l.count - l.number
