-- `blocks_within` meets its contract: what is left is within b where the whole is. Assumes nothing.
use Rattle.std.proofs.Common.{◌≡◌, ◌-◌, ◌≤◌, length, drop}
use Rattle.base_blocks.specs.Lists.{all}
use Rattle.base_blocks.specs.Blocks.{at_most}
use Rattle.base_blocks.proofs.scan.blocks_within.Given as goal

abbrev pub invariant-loop-i : goal.invariant-loop-i
invariant-loop-i l = (l.i ≤ length l.s) × (all (at_most l.b) (drop l.i l.s) ≡ all (at_most l.b) l.s)

abbrev pub decreases-loop-i : goal.decreases-loop-i
decreases-loop-i l = length l.s - l.i
