-- `run_part` meets its contract: the parts stand within the memory given. Assumes nothing.
use Rattle.std.proofs.Common.{◌*◌, sym, arith, length-take-le}
use Rattle.bench_calls.proofs.Parts.{cut_long, grids_fit_lem}
use Rattle.grid_stamps.specs.StampConstants.{page_stamps}
use Rattle.pool_records.specs.RecordConstants.{doomed_stride, retiring_stride, spare_stride, texture_stride}
use Rattle.bench_calls.proofs.run.run_part.Goals as goal

pub slice_bounds-run-end-2 : goal.slice_bounds-run-end-2
slice_bounds-run-end-2 g c = sym (length-take-le (texture_stride * c.args.t) c.args.textures.now (omega (arith, c.requires.0, c.requires.3)))

pub slice_bounds-run-end-4 : goal.slice_bounds-run-end-4
slice_bounds-run-end-4 g c = sym (length-take-le (retiring_stride * c.args.v) c.args.retiring.now (omega (arith, c.requires.1, c.requires.4)))

pub slice_bounds-run-end-6 : goal.slice_bounds-run-end-6
slice_bounds-run-end-6 g c = sym (length-take-le (doomed_stride * c.args.v) c.args.doomed.now (omega (arith, c.requires.1, c.requires.5)))

pub slice_bounds-run-end-8 : goal.slice_bounds-run-end-8
slice_bounds-run-end-8 g c = sym (length-take-le (spare_stride * c.args.v) c.args.spares.now (omega (arith, c.requires.1, c.requires.6)))

pub slice_bounds-run-end-10 : goal.slice_bounds-run-end-10
slice_bounds-run-end-10 g c = let g = c.newest_length-g in sym (length-take-le g.result c.args.newest.now (grids_fit_lem _ _ _ _ c.requires.0 c.requires.7 g.ensures))

pub slice_bounds-run-end-12 : goal.slice_bounds-run-end-12
slice_bounds-run-end-12 g c = sym (length-take-le (page_stamps * c.args.p) c.args.stamps.now (omega (arith, c.requires.2, c.requires.8)))

pub shape_of-textures : goal.shape_of-textures
shape_of-textures g c = cut_long (texture_stride * c.args.t) c.args.textures.now c.run.new.textures (omega (arith, c.requires.0, c.requires.3)) c.run.auto.textures

pub shape_of-retiring : goal.shape_of-retiring
shape_of-retiring g c = cut_long (retiring_stride * c.args.v) c.args.retiring.now c.run.new.retiring (omega (arith, c.requires.1, c.requires.4)) c.run.auto.retiring

pub shape_of-doomed : goal.shape_of-doomed
shape_of-doomed g c = cut_long (doomed_stride * c.args.v) c.args.doomed.now c.run.new.doomed (omega (arith, c.requires.1, c.requires.5)) c.run.auto.doomed

pub shape_of-spares : goal.shape_of-spares
shape_of-spares g c = cut_long (spare_stride * c.args.v) c.args.spares.now c.run.new.spares (omega (arith, c.requires.1, c.requires.6)) c.run.auto.spares

pub shape_of-newest : goal.shape_of-newest
shape_of-newest g c = let g = c.newest_length-g in cut_long g.result c.args.newest.now c.run.new.newest (grids_fit_lem _ _ _ _ c.requires.0 c.requires.7 g.ensures) c.run.auto.newest

pub shape_of-stamps : goal.shape_of-stamps
shape_of-stamps g c = cut_long (page_stamps * c.args.p) c.args.stamps.now c.run.new.stamps (omega (arith, c.requires.2, c.requires.8)) c.run.auto.stamps
