-- Lines until the input ends: the same stores, which form a pool once it is opened. The measure is the number of bytes that are left. Assumes nothing.
use mathlib.Core.Path.{◌≡◌}
use Prim.Native.Nat.{◌+◌, ◌-◌, ◌≤◌}
use lib.ListN.{length}
use Rattle.event_sessions.specs.Sessions.{HoldsPool}
use Rattle.event_sessions.specs.LentStores.{state_in, SameStores}
use Rattle.test_pool_questions.proofs.lines.run_lines.Given as goal

abbrev pub invariant-loop-from : goal.invariant-loop-from
invariant-loop-from l = record {
  holds : HoldsPool (state_in l.session l.stores);
  same : SameStores l.initial.stores l.stores;
  numbered : l.number ≤ l.from;
  inside : l.from ≤ length l.input + 1;
  page : length l.page ≡ length l.initial.page;
}

abbrev pub decreases-loop-from : goal.decreases-loop-from
decreases-loop-from l = length l.input + 1 - l.from
