-- `drop_history` meets its contract. Assumes nothing.
use mathlib.Core.Path.{ap, ◌∙◌}
use Prim.Native.Nat.{◌+◌, ◌-◌, ◌≤◌}
use native.Mathlib.Omega.{arith}
use Rattle.pool_history.specs.declared.run.HistoryRun.{HistoryRun}
use Rattle.pool_note_write.specs.Dropped.{newest_dropped, stamps_dropped}
use Rattle.pool_note_write.proofs.Dropped.{run_in, records_left}
use Rattle.pool_note_write.proofs.dropping.drop_history.Goals as goal
use Rattle.pool_note_write.proofs.dropping.drop_history.Goals.{After-history_run-run}

-- the run that was read lies within what is in use
module _ (c : After-history_run-run) where
  abbrev run : HistoryRun
  run = c.history_run-run.result

  within : (run.grid + run.grids ≤ c.args.used.grids) × (run.stamp + run.stamps ≤ c.args.used.stamps)
  within =
      let a = c.args in
      let q = run_in a.textures.now a.newest.now a.stamps.now a.n a.used a.i c.requires run c.history_run-run.ensures in
      (q.0, q.2)

pub remove_grids-requires : goal.remove_grids-requires
remove_grids-requires c =
    let a = c.args in
    run_in a.textures.now a.newest.now a.stamps.now a.n a.used a.i c.requires (run (goal.at.remove_grids-requires c).After-history_run-run) c.history_run-run.ensures

pub overflow_sub-result : goal.overflow_sub-result
overflow_sub-result c = omega (arith, (within (goal.at.overflow_sub-result c).After-history_run-run).0)

pub overflow_sub-result-2 : goal.overflow_sub-result-2
overflow_sub-result-2 c = omega (arith, (within (goal.at.overflow_sub-result-2 c).After-history_run-run).1)

pub returns : goal.returns
unfolding newest_dropped stamps_dropped
returns c =
    let a = c.args in
    let e = c.history_run-run.ensures in
    let g = c.remove_grids in (
      ap (λ (r : HistoryRun). a.used.grids - r.grids) e,
      ap (λ (r : HistoryRun). a.used.stamps - r.stamps) e,
      c.move_starts.ensures
          ∙ records_left a.textures.now a.newest.now a.stamps.now a.n a.used a.i c.requires (run (goal.at.returns c).After-history_run-run) e _ c.set_history.ensures,
      g.ensures.0 ∙ ap (newest_dropped a.newest.now a.used) e,
      g.ensures.1 ∙ ap (stamps_dropped a.stamps.now a.used) e,
    )
