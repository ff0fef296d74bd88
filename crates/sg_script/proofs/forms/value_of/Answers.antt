use Rattle.std.proofs.Common.{◌≤◌, ◌^◌, length, slice_index_or, arith}
use Rattle.sg_script.proofs.Counts.{digit_at, at_most_nine, tens}
use Rattle.sg_script.proofs.forms.value_of.Goals as goal

pub overflow_mul-number : goal.overflow_mul-number
overflow_mul-number c =
    let nine : length c.args.digits.now ≤ 9 = at_most_nine c.args.digits.now c.requires in
    let low : 10 ^ c.loop-digit.digit-index ≤ 100000000 = tens c.loop-digit.digit-index (omega (arith, c.loop-digit-test.true, nine)) in
    omega (arith, c.loop-digit.invariant.small, low)

pub overflow_add-number : goal.overflow_add-number
overflow_add-number c =
    let nine : length c.args.digits.now ≤ 9 = at_most_nine c.args.digits.now c.requires in
    let low : 10 ^ c.loop-digit.digit-index ≤ 100000000 = tens c.loop-digit.digit-index (omega (arith, c.loop-digit-test.true, nine)) in
    let digit : slice_index_or c.args.digits.now c.loop-digit.digit-index 0 ≤ 57 = digit_at c.args.digits.now c.loop-digit.digit-index 0 c.requires c.loop-digit-test.true in
    omega (arith, c.loop-digit.invariant.small, low, digit)
