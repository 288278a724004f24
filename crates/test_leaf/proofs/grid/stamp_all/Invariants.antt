-- Rectangles stamped one after the other. Each takes four fields, so the position grows and the stamps stay below it. Assumes nothing.
use Prim.Native.Nat.{◌≤◌, ◌+◌, ◌-◌}
use lib.ListN.{length}
use Rattle.test_leaf.proofs.grid.stamp_all.Given as goal

abbrev pub invariant-loop-next : goal.invariant-loop-next
invariant-loop-next l = (l.next ≤ length l.fields + 1) × (l.stamp ≤ l.next)

abbrev pub decreases-loop-next : goal.decreases-loop-next
decreases-loop-next l = length l.fields + 1 - l.next
