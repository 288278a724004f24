-- Numbers read one after the other. Each takes a byte or more, and the next field starts at most one past the end. Assumes nothing.
use Prim.Native.Nat.{◌≤◌, ◌+◌}
use lib.ListN.{length}
use Rattle.test_leaf.proofs.fields.read_numbers.Given as goal

abbrev pub invariant-loop-i : goal.invariant-loop-i
invariant-loop-i N l = (l.at + l.i ≤ l.next) × (l.next ≤ length l.fields + 1)
