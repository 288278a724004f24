-- `sixteen_digits` meets its contract. Assumes nothing.
use native.Mathlib.Omega.{arith}
use Rattle.event_text.proofs.DigitBlocks.{high_room, low_room, starts_sixteen, starts_none}
use Rattle.event_text.proofs.number.sixteen_digits.Goals as goal

pub overflow_mul-result : goal.overflow_mul-result
overflow_mul-result c =
    omega (arith, high_room c.args.text.now c.args.at c.eight_digits-high.result c.eight_digits-low.result (omega (arith, c.requires, c.if-text-at-ge16.true)) c.eight_digits-high.ensures c.eight_digits-low.ensures c.if-high-low.true)

pub overflow_add-result : goal.overflow_add-result
overflow_add-result c =
    omega (arith, high_room c.args.text.now c.args.at c.eight_digits-high.result c.eight_digits-low.result (omega (arith, c.requires, c.if-text-at-ge16.true)) c.eight_digits-high.ensures c.eight_digits-low.ensures c.if-high-low.true, low_room c.args.text.now c.args.at c.eight_digits-high.result c.eight_digits-low.result (omega (arith, c.requires, c.if-text-at-ge16.true)) c.eight_digits-high.ensures c.eight_digits-low.ensures c.if-high-low.true)

pub returns-then-high-low : goal.returns-then-high-low
returns-then-high-low c =
    starts_sixteen c.args.text.now c.args.at c.eight_digits-high.result c.eight_digits-low.result (omega (arith, c.requires, c.if-text-at-ge16.true)) c.eight_digits-high.ensures c.eight_digits-low.ensures c.if-high-low.true

pub returns-else-high-low : goal.returns-else-high-low
returns-else-high-low c =
    starts_none c.args.text.now c.args.at c.requires

pub returns-else-text-at-ge16 : goal.returns-else-text-at-ge16
returns-else-text-at-ge16 c =
    starts_none c.args.text.now c.args.at c.requires
