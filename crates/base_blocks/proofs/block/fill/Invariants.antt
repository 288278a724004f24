-- `fill` meets its contract: a copy of a run of one number. Assumes nothing.
use Rattle.std.proofs.Common.{◌≡◌, length, replicate}
use lib.Seq.{paste}
use Rattle.base_blocks.proofs.block.fill.Given as goal

abbrev pub invariant-loop-j : goal.invariant-loop-j
invariant-loop-j l = (length l.s ≡ length l.initial.s) × (l.s ≡ paste l.initial.s l.at (replicate l.j l.x) l.j)
