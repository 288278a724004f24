-- Blocks of input until it ends. Less than a buffer is held. Assumes nothing.
use Prim.Native.Nat.{◌<◌}
use mathlib.Core.Path.{◌≡◌}
use lib.ListN.{length}
use Rattle.test_leaf.proofs.lines.answer_all.Given as goal

abbrev pub invariant-loop : goal.invariant-loop
invariant-loop g l = (l.held < length l.initial.buf) × (length l.buf ≡ length l.initial.buf)
