-- `history_run` meets its contract. Assumes nothing.
use Prim.Native.Nat.{◌-◌}
use native.Mathlib.Omega.{arith}
use Rattle.pool_note_write.specs.Dropped.{run_at}
use Rattle.pool_note_write.proofs.AtPlace.{grid_number, stamp_number}
use Rattle.pool_note_write.proofs.dropping.history_run.Goals as goal

pub overflow_sub-grids : goal.overflow_sub-grids
overflow_sub-grids c =
    omega (arith, c.requires.2, c.grid_end.ensures, grid_number c.args.textures.now c.args.i)

pub overflow_sub-stamps : goal.overflow_sub-stamps
overflow_sub-stamps c =
    omega (arith, c.requires.3, c.stamp_end.ensures, stamp_number c.args.textures.now c.args.i)

pub returns : goal.returns
unfolding run_at
returns c =
    let a = c.args in
    let g = grid_number a.textures.now a.i in
    let n = stamp_number a.textures.now a.i in
    λ j. record { grid = g j; grids = c.grid_end.ensures j - g j; stamp = n j; stamps = c.stamp_end.ensures j - n j }
