-- `histories_in` meets its contract. Assumes nothing.
use mathlib.Core.Path.{sym, ap, ◌∙◌}
use native.Mathlib.Omega.{arith}
use borrow.Author.Rules.{rules}
use borrow.Author.Tests.{not-true, not-false}
use Rattle.base_tables.proofs.Records.{table_left}
use Rattle.pool_records.specs.Texture.{read_texture}
use Rattle.pool_formed_textures.specs.Textures.{histories_fit}
use Rattle.pool_formed_textures.proofs.RecordTests.{texture_read, read_shape, read_grid, read_stamp}
use Rattle.pool_formed_textures.proofs.Walk.{run_order, run_end, grid_stop, stamp_stop, history_stop, walk_more, walk_done}
use Rattle.pool_records.specs.RecordConstants.{texture_stride}
use Rattle.pool_formed_textures.proofs.histories_fit.histories_in.Goals as goal

pub loop-i-init : goal.loop-i-init
loop-i-init c =
    let a = c.args in
    (search rules, search rules, ap (histories_fit a.newest.now a.stamps.now a.grids a.used 0 0) (table_left texture_stride read_texture a.n a.textures.now))

pub returns-then-not-run_fits : goal.returns-then-not-run_fits
returns-then-not-run_fits c =
    let a = c.args in
    let l = c.loop-i in
    let f = sym c.run_fits.ensures ∙ not-true _ c.if-not-run_fits.true-raw in
    sym (grid_stop a.newest.now a.stamps.now a.textures.now a.n a.grids a.used l.i l.grid l.stamp c.loop-i-test.true _ _ (read_grid a.textures.now l.i _ c.record_at-p.ensures.1) c.grid_end-last.ensures f)
    ∙ l.invariant.2

pub returns-then-not-run_fits-2 : goal.returns-then-not-run_fits-2
returns-then-not-run_fits-2 c =
    let a = c.args in
    let l = c.loop-i in
    let f = sym c.run_fits-in-loop-i.ensures ∙ not-true _ c.if-not-run_fits-2.true-raw in
    sym (stamp_stop a.newest.now a.stamps.now a.textures.now a.n a.grids a.used l.i l.grid l.stamp c.loop-i-test.true _ _ (read_stamp a.textures.now l.i _ c.record_at-p.ensures.1) c.stamp_end-end.ensures f)
    ∙ l.invariant.2

pub offset_bounds-newest-grid : goal.offset_bounds-newest-grid
offset_bounds-newest-grid c = omega (arith, c.requires.2, c.loop-i.invariant.0)

pub slice_bounds-history_fits-count : goal.slice_bounds-history_fits-count
slice_bounds-history_fits-count c = run_order _ _ _ _ (sym c.run_fits.ensures ∙ not-false _ c.if-not-run_fits.false-raw)

pub slice_bounds-history_fits-start : goal.slice_bounds-history_fits-start
slice_bounds-history_fits-start c = omega (arith, run_order _ _ _ _ (sym c.run_fits.ensures ∙ not-false _ c.if-not-run_fits.false-raw))

pub slice_bounds-history_fits-end : goal.slice_bounds-history_fits-end
slice_bounds-history_fits-end c = omega (arith, c.requires.2, run_end _ _ _ _ (sym c.run_fits.ensures ∙ not-false _ c.if-not-run_fits.false-raw))

pub offset_bounds-stamps-stamp : goal.offset_bounds-stamps-stamp
offset_bounds-stamps-stamp c = omega (arith, c.requires.3, c.loop-i.invariant.1)

pub slice_bounds-history_fits-count-in-loop-i : goal.slice_bounds-history_fits-count-in-loop-i
slice_bounds-history_fits-count-in-loop-i c = run_order _ _ _ _ (sym c.run_fits-in-loop-i.ensures ∙ not-false _ c.if-not-run_fits-2.false-raw)

pub slice_bounds-history_fits-start-in-loop-i : goal.slice_bounds-history_fits-start-in-loop-i
slice_bounds-history_fits-start-in-loop-i c = omega (arith, run_order _ _ _ _ (sym c.run_fits-in-loop-i.ensures ∙ not-false _ c.if-not-run_fits-2.false-raw))

pub slice_bounds-history_fits-end-in-loop-i : goal.slice_bounds-history_fits-end-in-loop-i
slice_bounds-history_fits-end-in-loop-i c = omega (arith, c.requires.3, run_end _ _ _ _ (sym c.run_fits-in-loop-i.ensures ∙ not-false _ c.if-not-run_fits-2.false-raw))

pub history_fits-requires : goal.history_fits-requires
history_fits-requires c =
    let l = c.loop-i in
    let r = c.record_at-p.ensures in
    (omega (arith, r.0), read_shape c.args.textures.now l.i _ r.1 c.args.n c.requires.1 c.loop-i-test.true, c.requires.4)

pub returns-then-not-history_fits : goal.returns-then-not-history_fits
returns-then-not-history_fits c =
    let a = c.args in
    let s = a.textures.now in
    let l = c.loop-i in
    let r = c.record_at-p.ensures.1 in
    let g = sym c.run_fits.ensures ∙ not-false _ c.if-not-run_fits.false-raw in
    let k = sym c.run_fits-in-loop-i.ensures ∙ not-false _ c.if-not-run_fits-2.false-raw in
    let f = sym c.history_fits.ensures ∙ not-true _ c.if-not-history_fits.true-raw in
    sym (history_stop a.newest.now a.stamps.now s a.n a.grids a.used l.i l.grid l.stamp c.loop-i-test.true _ (texture_read s l.i _ r) _ _ _ _ (read_grid s l.i _ r) (read_stamp s l.i _ r) c.grid_end-last.ensures c.stamp_end-end.ensures g k c.requires.2 c.requires.3 f)
    ∙ l.invariant.2

pub loop-i-preserved : goal.loop-i-preserved
loop-i-preserved c =
    let a = c.args in
    let s = a.textures.now in
    let l = c.loop-i in
    let r = c.record_at-p.ensures.1 in
    let g = sym c.run_fits.ensures ∙ not-false _ c.if-not-run_fits.false-raw in
    let k = sym c.run_fits-in-loop-i.ensures ∙ not-false _ c.if-not-run_fits-2.false-raw in
    let f = sym c.history_fits.ensures ∙ not-false _ c.if-not-history_fits.false-raw in (
      run_end _ _ _ _ g,
      run_end _ _ _ _ k,
      sym (walk_more a.newest.now a.stamps.now s a.n a.grids a.used l.i l.grid l.stamp c.loop-i-test.true _ (texture_read s l.i _ r) _ _ _ _ (read_grid s l.i _ r) (read_stamp s l.i _ r) c.grid_end-last.ensures c.stamp_end-end.ensures g k c.requires.2 c.requires.3 f) ∙ l.invariant.2,
    )

pub returns : goal.returns
returns c =
    let a = c.args in
    let l = c.loop-i in
    sym (walk_done a.newest.now a.stamps.now a.textures.now a.n a.grids a.used l.i l.grid l.stamp (omega arith)) ∙ l.invariant.2
