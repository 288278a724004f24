-- Every number takes at most 21 bytes, so the line fits. Assumes nothing.
use Prim.Native.Nat.{◌+◌, ◌*◌, ◌≤◌}
use Rattle.test_figures.proofs.print.figure.Given as goal

abbrev pub invariant-loop-value : goal.invariant-loop-value
invariant-loop-value l = l.at ≤ 64 + 21 * l.value-index
