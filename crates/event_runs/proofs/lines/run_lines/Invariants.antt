-- `run_lines` meets its contract: what is left to run is, at every turn, what was to run at first. The measure is what is left of the input. Assumes nothing.
use Prim.Native.Nat.{◌-◌}
use lib.ListN.{length}
use Rattle.event_sessions.specs.LentStores.{SameStores}
use Rattle.event_runs.specs.Lines.{progress_in}
use Rattle.event_runs.proofs.Runs.{Going}
use Rattle.event_runs.proofs.lines.run_lines.Given as goal

abbrev pub invariant-loop-run : goal.invariant-loop-run
invariant-loop-run l = record {
  going : Going (length l.initial.stores.copies.now) (length l.initial.stores.views.now) l.input (progress_in l.initial.run l.initial.stores l.initial.out)
      (progress_in l.run l.stores l.out) l.size;
  same : SameStores l.initial.stores l.stores;
}

abbrev pub decreases-loop-run : goal.decreases-loop-run
decreases-loop-run l = length l.input - l.run.from
