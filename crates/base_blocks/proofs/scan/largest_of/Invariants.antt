-- `largest_of` meets its contract. The larger of m and the largest of what is left is the answer. Assumes nothing.
use Rattle.std.proofs.Common.{◌≡◌, max}
use Rattle.base_blocks.specs.Blocks.{largest}
use Rattle.base_blocks.proofs.Scans.{from}
use Rattle.base_blocks.proofs.scan.largest_of.Given as goal

abbrev pub invariant-loop-x : goal.invariant-loop-x
invariant-loop-x l = max l.m (largest (from l.x-index l.s)) ≡ largest l.s
