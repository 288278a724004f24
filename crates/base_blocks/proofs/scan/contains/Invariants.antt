-- `contains` meets its contract: what is left has b where the whole has it: four a turn, then one a turn. Assumes nothing.
use Rattle.std.proofs.Common.{◌≡◌, ◌-◌, ◌≤◌, length, drop}
use Rattle.base_blocks.specs.Blocks.{member}
use Rattle.base_blocks.proofs.scan.contains.Given as goal

abbrev pub invariant-loop-i : goal.invariant-loop-i
invariant-loop-i l = (l.i ≤ length l.s) × (member l.b (drop l.i l.s) ≡ member l.b l.s)

abbrev pub decreases-loop-i : goal.decreases-loop-i
decreases-loop-i l = length l.s - l.i
