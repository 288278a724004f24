-- `find_byte` meets its contract: what is found from i on is what is looked for, after blocks of eight. Assumes nothing.
use mathlib.Core.Path.{◌≡◌}
use Prim.Native.Nat.{◌+◌, ◌-◌, ◌≤◌}
use lib.ListN.{length, drop}
use Rattle.event_text.specs.Searches.{index_of}
use Rattle.event_text.proofs.find.find_byte.Given as goal

abbrev pub invariant-loop-i : goal.invariant-loop-i
invariant-loop-i l = (l.i ≤ length l.s) × (l.i + index_of l.b (drop l.i l.s) ≡ l.from + index_of l.b (drop l.from l.s))

abbrev pub decreases-loop-i : goal.decreases-loop-i
decreases-loop-i l = length l.s - l.i
