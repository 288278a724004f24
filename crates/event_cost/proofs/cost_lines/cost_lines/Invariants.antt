-- `cost_lines` meets its contract: the lines before `from` were run. The measure is what is left of the input. Assumes nothing.
use Prim.Native.Nat.{◌-◌}
use lib.ListN.{length}
use Rattle.event_sessions.specs.LentStores.{state_in, SameStores}
use Rattle.event_cost.specs.Lines.{LinesRun, cost_progress_in}
use Rattle.event_cost.proofs.cost_lines.cost_lines.Given as goal

abbrev pub invariant-loop-run : goal.invariant-loop-run
invariant-loop-run l = record {
  run : LinesRun (length l.initial.stores.copies.now) (length l.initial.stores.views.now) l.input l.number (state_in l.initial.run.session l.initial.stores) l.initial.out
      (cost_progress_in l.run l.stores l.out);
  same : SameStores l.initial.stores l.stores;
}

abbrev pub decreases-loop-run : goal.decreases-loop-run
decreases-loop-run l = length l.input - l.run.from
