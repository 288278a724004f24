-- `within` meets its contract: what is left is within b where the whole is: after blocks of 64, four a turn, then one a turn. Assumes nothing.
use Rattle.std.proofs.Common.{◌≡◌, ◌-◌, ◌≤◌, length}
use Rattle.base_blocks.specs.Lists.{all}
use Rattle.base_blocks.specs.Blocks.{at_most}
use Rattle.base_blocks.proofs.Scans.{from}
use Rattle.base_blocks.proofs.scan.within.Given as goal

abbrev pub invariant-loop-i : goal.invariant-loop-i
invariant-loop-i l = (l.i ≤ length l.s) × (all (at_most l.b) (from l.i l.s) ≡ all (at_most l.b) l.s)

abbrev pub decreases-loop-i : goal.decreases-loop-i
decreases-loop-i l = length l.s - l.i

abbrev pub invariant-loop-j : goal.invariant-loop-j
invariant-loop-j l = all (at_most l.b) (from l.j l.s) ≡ all (at_most l.b) l.s
