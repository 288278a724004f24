-- Some dirty tile, or none if none is. Assumes nothing.
use mathlib.Core.Path.{◌≡◌, ap₂}
use Prim.Native.Nat.{◌*◌}
use native.Mathlib.Omega.{arith}
use Rattle.grid_stamps.specs.Grids.{columns_of, rows_of, stamp_count}
use Rattle.grid_stamps.proofs.Boxes.{dirty_found, dirty_none}
use Rattle.grid_stamps.proofs.dirty.dirty_tile.Goals as goal
use Rattle.grid_stamps.proofs.dirty.dirty_tile.Goals.{After-tiles}

-- the grid, and its columns and stamps as the definitions count them
module _ (c : After-tiles) where
  wide : c.tiles-columns.result ≡ columns_of c.args.tiling
  unfolding columns_of
  wide = c.tiles-columns.ensures

  many : c.tiles-columns.result * c.tiles.result ≡ stamp_count c.args.tiling
  unfolding stamp_count columns_of rows_of
  many = ap₂ (λ m n. m * n) c.tiles-columns.ensures c.tiles.ensures

pub bounds-page-k : goal.bounds-page-k
bounds-page-k c =
    omega (arith, many (goal.at.bounds-page-k c).After-tiles, c.loop-k-test.true, c.requires.1)

pub returns-then-held-page : goal.returns-then-held-page
returns-then-held-page c =
    dirty_found c.args.tiling c.args.held c.args.page.now _ _ (wide (goal.at.returns-then-held-page c).After-tiles) (many (goal.at.returns-then-held-page c).After-tiles) c.loop-k.k c.loop-k-test.true c.if-held-page.true

pub returns : goal.returns
returns c =
    dirty_none c.args.tiling c.args.held c.args.page.now _ _ (wide (goal.at.returns c).After-tiles) (many (goal.at.returns c).After-tiles) (λ i h. c.loop-k.invariant i (omega arith))
