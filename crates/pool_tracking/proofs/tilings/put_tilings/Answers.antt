-- `put_tilings` meets its contract: grid by grid, each by its level's tiling in a slice. Assumes nothing.
use mathlib.Core.Path.{sym, ap, ◌∙◌}
use mathlib.Core.List.{List}
use Prim.Native.Nat.{ℕ, ◌+◌, ◌*◌, ◌/◌, ◌%◌, ◌<◌}
use native.Mathlib.Omega.{arith}
use native.Mathlib.Nat.{mod-lt}
use lib.ListN.{get_or, set}
use lib.Seq.{sets}
use Rattle.grid_shapes.proofs.Shapes.{shape_bounds}
use Rattle.pool_rules.specs.Model.{grid_count}
use Rattle.pool_rules.specs.RuleConstants.{grid_stride}
use Rattle.pool_records.specs.Tilings.{fresh_from}
use Rattle.pool_access.proofs.SliceTilingLaws.{number_made, number_bound}
use Rattle.pool_tracking.proofs.FreshNumbers.{none_written, one_written}
use Rattle.pool_tracking.proofs.tilings.put_tilings.Goals as goal

pub returns-then-n-eq0 : goal.returns-then-n-eq0
returns-then-n-eq0 c =
    let a = c.args in
    none_written a.shape a.newest.now a.at ∙ ap (λ (i : ℕ). sets a.newest.now a.at (fresh_from a.shape 0 i)) (sym c.if-n-eq0.true)

pub loop-k-init : goal.loop-k-init
loop-k-init c =
    let a = c.args in
    none_written a.shape a.newest.now a.at

pub nonzero_rem-level : goal.nonzero_rem-level
nonzero_rem-level c =
    omega (arith, (shape_bounds c.args.shape c.requires.0).levels_pos)

pub nonzero_div-before : goal.nonzero_div-before
nonzero_div-before c =
    omega (arith, (shape_bounds c.args.shape c.requires.0).levels_pos)

pub overflow_mul-before : goal.overflow_mul-before
overflow_mul-before c =
    let more : c.loop-k.k < grid_count c.args.shape = omega (arith, c.requires.1) in
    omega (arith, number_bound c.args.shape c.slice_tilings-slice.result c.slice_tilings-slice.ensures c.requires.0 c.loop-k.k more)

pub bounds-slice-level : goal.bounds-slice-level
bounds-slice-level c =
    let z = shape_bounds c.args.shape c.requires.0 in
    omega (arith, mod-lt c.loop-k.k z.levels_pos, z.levels_bound)

pub overflow_add-newest : goal.overflow_add-newest
overflow_add-newest c =
    let more : c.loop-k.k < grid_count c.args.shape = omega (arith, c.requires.1) in
    omega (arith, number_bound c.args.shape c.slice_tilings-slice.result c.slice_tilings-slice.ensures c.requires.0 c.loop-k.k more)

pub loop-k-preserved : goal.loop-k-preserved
loop-k-preserved c =
    let a = c.args in
    let k = c.loop-k.k in
    let slice = c.slice_tilings-slice in
    let more : k < grid_count a.shape = omega (arith, c.requires.1) in
    let number = k / a.shape.levels * slice.result.stamps + get_or slice.result.levels (k % a.shape.levels) 0 in
    let p = a.at + grid_stride * k in
    ap (λ (l : List ℕ). set (set l p 0) (p + 1) number) c.loop-k.invariant
    ∙ one_written a.shape a.newest.now a.at k number (number_made a.shape slice.result slice.ensures c.requires.0 k more)
