-- Every line takes a byte at least. Assumes nothing.
use native.Mathlib.Omega.{arith}
use Rattle.test_pool_lists.proofs.lines.run_lines.Goals as goal

pub loop-from-smaller : goal.loop-from-smaller
loop-from-smaller c = omega (arith, c.next_line_from-next.ensures.0, c.next_line_from-next.ensures.1, c.loop-from-test.true)
