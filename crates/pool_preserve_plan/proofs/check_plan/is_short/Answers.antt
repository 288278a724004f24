-- `is_short` meets its contract. Assumes nothing.
use mathlib.Core.Path.{sym}
use native.Mathlib.Omega.{arith}
use Rattle.pool_rules.proofs.HistorySizes.{grids_most}
use Rattle.pool_preserve_plan.specs.Copies.{footprint}
use Rattle.pool_preserve_plan.proofs.Refusals.{room_for_all}
use Rattle.pool_preserve_plan.proofs.check_plan.is_short.Goals as goal

pub shape_grids-requires : goal.shape_grids-requires
shape_grids-requires c = omega (arith, grids_most c.args.shape c.requires.0)

pub returns-then-shape_grids-room : goal.returns-then-shape_grids-room
returns-then-shape_grids-room c =
    let a = c.args in
    sym (room_for_all a.newest.now a.stamps.now a.shape a.since (footprint a.upload) c.shape_grids.result a.room c.shape_grids.ensures c.if-shape_grids-room.true)
