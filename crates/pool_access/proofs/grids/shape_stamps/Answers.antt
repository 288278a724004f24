-- `shape_stamps` meets its contract: as many times one slice's stamps as there are slices. Assumes nothing.
use native.Mathlib.Omega.{arith}
use Rattle.pool_access.proofs.Levels.{slices_stamps, slices_most}
use Rattle.pool_access.proofs.grids.shape_stamps.Goals as goal

pub overflow_mul-result : goal.overflow_mul-result
overflow_mul-result c =
    omega (arith, slices_most c.args.shape c.requires c.slices.result _ c.slices.ensures c.slice_tilings-slice.ensures.stamps)

pub returns : goal.returns
returns c =
    slices_stamps c.args.shape c.requires c.slices.result _ c.slices.ensures c.slice_tilings-slice.ensures.stamps
