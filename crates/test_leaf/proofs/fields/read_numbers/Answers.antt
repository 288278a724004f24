-- Numbers read one after the other. Each takes a byte or more, and the next field starts at most one past the end. Assumes nothing.
use mathlib.Core.Path.{sym, ◌∙◌}
use native.Mathlib.Omega.{arith}
use Rattle.event_text.proofs.Numbers.{number_within}
use Rattle.test_leaf.proofs.fields.read_numbers.Goals as goal

pub overflow_add-next : goal.overflow_add-next
overflow_add-next N c =
    let w = number_within _ _ _ _ (omega (arith, c.if-fields-next.false)) (sym c.in_ok-read.was ∙ c.number_at.ensures) in
    omega (arith, w.1, c.requires.1)

pub loop-i-preserved : goal.loop-i-preserved
loop-i-preserved N c =
    let w = number_within _ _ _ _ (omega (arith, c.if-fields-next.false)) (sym c.in_ok-read.was ∙ c.number_at.ensures) in
    (omega (arith, w.0, c.loop-i.invariant.0), omega (arith, w.1))
