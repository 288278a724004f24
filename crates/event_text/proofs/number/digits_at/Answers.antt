-- `digits_at` meets its contract: no digit, one digit, up to seven at once, or many. Assumes nothing.
use mathlib.Core.Path.{◌∙◌}
use native.Mathlib.Omega.{arith}
use Rattle.event_text.proofs.Numbers.{digit_low, read_none, read_single}
use Rattle.event_text.proofs.DigitBlocks.{read_few}
use Rattle.event_text.proofs.number.digits_at.Goals as goal

pub returns-then-first : goal.returns-then-first
returns-then-first c =
    let w = c.wide-first in
    c.ended.ensures ∙ read_none _ _ w.result (omega (arith, c.requires, c.if-text-at-ge8.true)) w.ensures c.if-first.true

pub overflow_sub-first : goal.overflow_sub-first
overflow_sub-first c = digit_low c.wide-first.result c.if-first.false

pub returns-then-second : goal.returns-then-second
returns-then-second c =
    let w = c.wide-first in
    let x = c.wide-second in
    c.ended-then-second.ensures
    ∙ read_single _ _ w.result x.result (omega (arith, c.requires, c.if-text-at-ge8.true)) w.ensures x.ensures
    c.if-first.false c.if-second.true

pub returns-then-count-lt8 : goal.returns-then-count-lt8
returns-then-count-lt8 c =
    let read = c.eight_digits-read in
    c.ended-then-count-lt8.ensures ∙ read_few c.args.text.now c.args.at (omega (arith, c.requires, c.if-text-at-ge8.true)) read.result read.ensures c.if-count-lt8.true
