-- `grids_fit` meets its contract. Assumes nothing.
use mathlib.Core.Path.{sym, ap, ◌∙◌}
use Prim.Native.Nat.{◌<◌}
use native.Mathlib.Omega.{arith}
use borrow.Author.Rules.{rules}
use borrow.Author.Tests.{not-true, not-false}
use Rattle.base_blocks.specs.Lists.{all}
use Rattle.base_blocks.proofs.Listed.{left_all, all_more}
use Rattle.grid_shapes.proofs.Shapes.{shape_bounds}
use Rattle.pool_rules.specs.Model.{grid_count}
use Rattle.pool_access.proofs.Levels.{tiling_known_ok}
use Rattle.pool_rules.proofs.HistorySizes.{grids_most}
use Rattle.pool_memory.specs.IsPool.{is_grid}
use Rattle.pool_formed_textures.specs.Textures.{own_grid, own_tiling}
use Rattle.pool_rules.proofs.HistorySizes.{grid_first}
use Rattle.pool_formed_textures.proofs.GridTests.{grid_ready, place, tiling_ready, tiling_test, grid_here, next_start, next_room, grids_few, grids_short, grids_stop, tilings_stop, grids_done}
use Rattle.pool_formed_textures.proofs.histories_fit.grids_fit.Goals as goal

pub shape_grids-n-requires : goal.shape_grids-n-requires
shape_grids-n-requires c = omega (arith, grids_most c.args.s c.requires.0)

pub overflow_mul-n : goal.overflow_mul-n
overflow_mul-n c = omega (arith, c.shape_grids-n.ensures, grids_most c.args.s c.requires.0)

pub returns-then-newest-n : goal.returns-then-newest-n
returns-then-newest-n c =
    let a = c.args in
    sym (grids_few a.s a.writes a.newest.now a.stamps.now _ c.shape_grids-n.ensures c.if-newest-n.true)

pub loop-k-init : goal.loop-k-init
loop-k-init c =
    let a = c.args in (
      search rules,
      sym (grid_first a.s),
      ap (all (is_grid a.writes)) (left_all (own_grid a.s a.newest.now a.stamps.now) _),
      ap (all (own_tiling a.s a.newest.now)) (left_all place _),
    )

pub nonzero_rem-level : goal.nonzero_rem-level
nonzero_rem-level c = omega (arith, (shape_bounds c.args.s c.requires.0).levels_pos)

pub stamp_count-count-requires : goal.stamp_count-count-requires
stamp_count-count-requires c = tiling_known_ok c.args.s c.requires.0 _ _ c.tiling_in-tiling.ensures

pub returns-then-count-stamps : goal.returns-then-count-stamps
returns-then-count-stamps c =
    let a = c.args in
    let l = c.loop-k in
    let t = c.tiling_in-tiling.ensures in
    let q : l.k < grid_count a.s = omega (arith, c.loop-k-test.true, c.shape_grids-n.ensures) in
    sym (grids_short a.s a.writes a.newest.now a.stamps.now l.k l.at _ _ q l.invariant.1 c.stamp_count-count.ensures t c.if-count-stamps.true)

pub tiling_fits-requires : goal.tiling_fits-requires
tiling_fits-requires c =
    let l = c.loop-k in
    let q : l.k < grid_count c.args.s = omega (arith, c.loop-k-test.true, c.shape_grids-n.ensures) in
    tiling_ready c.args.s l.k l.at _ c.tiling_in-tiling.ensures l.invariant.1 c.requires.0 q

pub returns-then-not-tiling_fits : goal.returns-then-not-tiling_fits
returns-then-not-tiling_fits c =
    let a = c.args in
    let l = c.loop-k in
    let t = tiling_test a.s l.k l.at _ c.tiling_in-tiling.ensures l.invariant.1 a.newest.now in
    let f = sym t ∙ sym c.tiling_fits.ensures ∙ not-true _ c.if-not-tiling_fits.true-raw in
    sym (tilings_stop a.s a.writes a.newest.now a.stamps.now _ l.k c.shape_grids-n.ensures l.invariant.2 l.invariant.3 c.loop-k-test.true f)

pub offset_bounds-stamps-at : goal.offset_bounds-stamps-at
offset_bounds-stamps-at c = omega (arith, c.loop-k.invariant.0, c.well_formed)

pub grid_fits-requires : goal.grid_fits-requires
grid_fits-requires c =
    let t = c.loop-k.at in
    grid_ready c.args.s _ _ c.tiling_in-tiling.ensures c.args.stamps.now t _ c.requires.0 c.stamp_count-count.ensures c.if-count-stamps.false

pub returns-then-not-grid_fits : goal.returns-then-not-grid_fits
returns-then-not-grid_fits c =
    let a = c.args in
    let l = c.loop-k in
    let t = c.tiling_in-tiling.ensures in
    let f = sym (grid_here a.s a.writes a.newest.now a.stamps.now l.k l.at _ t l.invariant.1) ∙ sym c.grid_fits.ensures ∙ not-true _ c.if-not-grid_fits.true-raw in
    sym (grids_stop a.s a.writes a.newest.now a.stamps.now _ l.k c.shape_grids-n.ensures l.invariant.2 l.invariant.3 c.loop-k-test.true f)

pub overflow_add-at : goal.overflow_add-at
overflow_add-at c =
    let a = c.args in
    let l = c.loop-k in
    let t = c.tiling_in-tiling.ensures in
    let q : l.k < grid_count a.s = omega (arith, c.loop-k-test.true, c.shape_grids-n.ensures) in
    omega (arith, next_room a.s a.writes a.newest.now a.stamps.now l.k l.at _ _ c.requires.0 q l.invariant.1 c.stamp_count-count.ensures t)

pub loop-k-preserved : goal.loop-k-preserved
loop-k-preserved c =
    let a = c.args in
    let l = c.loop-k in
    let t = c.tiling_in-tiling.ensures in
    let h = c.loop-k-test.true in
    let f = sym (grid_here a.s a.writes a.newest.now a.stamps.now l.k l.at _ t l.invariant.1) ∙ sym c.grid_fits.ensures ∙ not-false _ c.if-not-grid_fits.false-raw in
    let u = tiling_test a.s l.k l.at _ t l.invariant.1 a.newest.now in
    let g = sym u ∙ sym c.tiling_fits.ensures ∙ not-false _ c.if-not-tiling_fits.false-raw in (
      omega (arith, c.if-count-stamps.false, l.invariant.0),
      next_start a.s a.writes a.newest.now a.stamps.now l.k l.at _ _ (omega (arith, h, c.shape_grids-n.ensures)) l.invariant.1 c.stamp_count-count.ensures t,
      sym (all_more (own_grid a.s a.newest.now a.stamps.now) _ (is_grid a.writes) l.k h f) ∙ l.invariant.2,
      sym (all_more place _ (own_tiling a.s a.newest.now) l.k h g) ∙ l.invariant.3,
    )

pub returns : goal.returns
returns c =
    let a = c.args in
    let l = c.loop-k in
    grids_done a.s a.writes a.newest.now a.stamps.now _ l.k c.shape_grids-n.ensures l.invariant.2 l.invariant.3 l.at c.if-newest-n.false (omega arith) (omega arith) l.invariant.1
