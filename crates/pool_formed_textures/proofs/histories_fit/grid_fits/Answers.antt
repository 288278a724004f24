-- `grid_fits` meets its contract. Assumes nothing.
use mathlib.Core.Path.{sym}
use Rattle.pool_formed_textures.proofs.GridTests.{grid_test, grid_ahead}
use Rattle.pool_formed_textures.proofs.histories_fit.grid_fits.Goals as goal

pub returns-then-newest-writes : goal.returns-then-newest-writes
returns-then-newest-writes c = sym (grid_ahead _ _ _ _ c.if-newest-writes.true)

pub returns : goal.returns
returns c = grid_test _ _ _ _ _ c.is_largest_stamp.ensures c.if-newest-writes.false
