use Rattle.std.proofs.Common.{ℕ, List, ◌+◌, ◌-◌, length, ap, arith}
use Rattle.edit_parts.proofs.Splices.{no_change, change}
use Rattle.edit_parts.proofs.texts.replaced_part.Goals as goal

pub returns-then-eq-clause-changes : goal.returns-then-eq-clause-changes
returns-then-eq-clause-changes c =
    rw c.in-Words.is (no_change c.in-Words.chars c.as_slice-chars.result.now c.args.put.now c.args.at c.args.count (c.args.at + c.args.count - c.args.at) (omega arith) c.as_slice-chars.ensures c.if-eq.ensures)

pub returns-clause-changes : goal.returns-clause-changes
returns-clause-changes c =
    rw c.in-Words.is (
    let e = c.as_slice-chars.ensures in
    let length_is = ap (λ (xs : List ℕ). length xs) e in
    change c.in-Words.chars c.as_slice-chars.result.now c.args.put.now c.args.at c.args.count (c.args.at + c.args.count - c.args.at) (omega arith) e (omega (arith, length_is)) (omega (arith, length_is)) c.if-eq.ensures)
