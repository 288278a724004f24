-- `shape_grids` meets its contract: it is the definition. Assumes nothing.
use native.Mathlib.Omega.{arith}
use Rattle.pool_access.proofs.Levels.{grids_by_slices}
use Rattle.pool_access.proofs.grids.shape_grids.Goals as goal

pub overflow_mul-result : goal.overflow_mul-result
overflow_mul-result c = omega (arith, c.requires, grids_by_slices c.args.shape c.slices.result c.slices.ensures)

pub returns : goal.returns
returns c = grids_by_slices c.args.shape c.slices.result c.slices.ensures
