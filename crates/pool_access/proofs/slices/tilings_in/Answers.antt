-- `tilings_in` meets its contract: level by level, each grid beginning where the one before it ends. Assumes nothing.
use mathlib.Core.Path.{◌≡◌, refl, sym, ap, ap₂, ◌∙◌}
use Prim.Native.Nat.{ℕ, ◌+◌, ◌<◌}
use native.Mathlib.Omega.{arith}
use lib.ListN.{length, length-set}
use Rattle.grid_shapes.proofs.Shapes.{shape_bounds}
use Rattle.grid_stamps.specs.Grids.{stamp_count}
use Rattle.pool_rules.specs.HistorySizes.{level_start}
use Rattle.pool_rules.proofs.HistorySizes.{level_none}
use Rattle.pool_records.specs.Tilings.{tiling_number}
use Rattle.pool_access.proofs.Levels.{tiling_known_ok, level_more, level_fits}
use Rattle.pool_access.proofs.SliceTilingLaws.{first_place, made_number, made_fits, numbers_more}
use Rattle.pool_access.proofs.slices.tilings_in.Goals as goal

pub loop-level-init : goal.loop-level-init
loop-level-init c = (sym (level_none c.args.shape), refl, λ k h. absurd (let y : ⊥ = omega (arith, h) in y))

pub tiling_number-requires : goal.tiling_number-requires
tiling_number-requires c =
    let h = c.loop-level-test.true in
    let fits =
    made_fits c.args.shape c.loop-level.level c.loop-level.start c.tiling_in-tiling.result h
    (first_place c.args.shape c.loop-level.level h) c.loop-level.invariant.0 c.tiling_in-tiling.ensures c.requires.0 in
    record { start = omega (arith, fits.start); across = omega (arith, fits.across); down = omega (arith, fits.down) }

pub offset_bounds-levels-level : goal.offset_bounds-levels-level
offset_bounds-levels-level c =
    omega (arith, c.loop-level-test.true, (shape_bounds c.args.shape c.requires.0).levels_bound)

pub bounds-levels-level : goal.bounds-levels-level
bounds-levels-level c =
    omega (arith, c.loop-level.invariant.1, c.loop-level-test.true, (shape_bounds c.args.shape c.requires.0).levels_bound)

pub stamp_count-start-requires : goal.stamp_count-start-requires
stamp_count-start-requires c = tiling_known_ok c.args.shape c.requires.0 _ _ c.tiling_in-tiling.ensures

pub overflow_add-start : goal.overflow_add-start
overflow_add-start c =
    let counted = c.stamp_count-start.ensures ∙ ap stamp_count c.tiling_in-tiling.ensures in
    omega (arith, c.loop-level.invariant.0, counted, level_fits c.args.shape c.requires.0 c.loop-level.level c.loop-level-test.true)

pub loop-level-preserved : goal.loop-level-preserved
loop-level-preserved c =
    let a = c.args in
    let h = c.loop-level-test.true in
    let tiling = c.tiling_in-tiling in
    let inv = c.loop-level.invariant in
    let counted = c.stamp_count-start.ensures ∙ ap stamp_count tiling.ensures in
    let made = made_number a.shape c.loop-level.level c.loop-level.start tiling.result h (first_place a.shape c.loop-level.level h) inv.0 tiling.ensures in
    let number = c.tiling_number.result in
    let room : c.loop-level.level < length c.loop-level.levels = omega (arith, h, inv.1, (shape_bounds a.shape c.requires.0).levels_bound) in (
      ap₂ (λ (x y : ℕ). x + y) inv.0 counted ∙ sym (level_more a.shape c.loop-level.level),
      length-set c.loop-level.levels c.loop-level.level number ∙ inv.1,
      numbers_more (tiling_number a.shape) c.loop-level.levels c.loop-level.level number room (c.tiling_number.ensures ∙ made) inv.2,
    )

pub returns : goal.returns
returns c =
    let a = c.args in
    let end : c.loop-level.level ≡ a.shape.levels = omega arith in
    record {
      levels = λ k h. c.loop-level.invariant.2 k (omega (arith, end, h));
      stamps = c.loop-level.invariant.0 ∙ ap (level_start a.shape) end;
    }
