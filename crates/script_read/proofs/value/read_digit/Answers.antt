use Rattle.std.proofs.Common.{◌<◌, ◌≤◌, arith}
use Rattle.script_read.proofs.Numbers.{few_digits}
use Rattle.script_read.proofs.value.read_digit.Goals as goal

pub overflow_add-result : goal.overflow_add-result
overflow_add-result c = let few : c.args.count ≤ 6 = c.requires.0 in omega (arith, few)

pub overflow_mul-result : goal.overflow_mul-result
overflow_mul-result c =
    let few : c.args.count ≤ 6 = c.requires.0 in
    let less : c.args.count < 6 = omega (arith, few) in
    omega (arith, few_digits c.args.count c.args.number less c.requires.1)

pub overflow_add-result-2 : goal.overflow_add-result-2
overflow_add-result-2 c =
    let few : c.args.count ≤ 6 = c.requires.0 in
    let less : c.args.count < 6 = omega (arith, few) in
    let digit : c.in_ok-digit.digit < 16 = omega (arith, c.in_ok-digit.ensures.value.0, c.in_ok-digit.ensures.value.1) in
    omega (arith, few_digits c.args.count c.args.number less c.requires.1, digit)
