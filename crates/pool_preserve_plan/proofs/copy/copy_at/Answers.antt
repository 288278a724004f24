-- `copy_at` meets its contract: the grid is cut from the middle of the stamps. Assumes nothing.
use mathlib.Core.Path.{◌≡◌, sym, ap, ◌∙◌}
use Prim.Native.Nat.{ℕ, ◌+◌, ◌*◌, ◌-◌, ◌≤◌}
use native.Mathlib.Omega.{arith}
use lib.ListN.{length}
use Rattle.grid_stamps.specs.Grids.{tiling_of, stamp_count}
use Rattle.pool_rules.specs.HistorySizes.{grid_start}
use Rattle.pool_rules.specs.RuleConstants.{grid_stride}
use Rattle.pool_memory.proofs.GridParts.{part_fits}
use Rattle.pool_access.proofs.Levels.{tiling_known_ok}
use Rattle.pool_preserve_plan.specs.Copies.{footprint, box_planned}
use Rattle.pool_preserve_plan.proofs.Planned.{planned_covered, planned_unknown, planned_after, planned_held, GridThere, grid_there, part_box}
use Rattle.pool_preserve_plan.proofs.copy.copy_at.Goals as goal
use Rattle.pool_preserve_plan.proofs.copy.copy_at.Goals.{After-stamp_count, After-start_at, In-Some}

-- the grid is there
module _ (c : In-Some) where
  there : GridThere c.args.shape c.args.newest.now c.args.stamps.now c.in-Some.after.grid c.in-Some.after.stamp c.args.k c.args.level
  there =
      let a = c.args in
      let q = c.requires in
      grid_there a.shape q.0 a.newest.now a.stamps.now c.in-Some.after a.k a.level a.since a.slice c.in-Some.is q.1 q.2 q.3 q.4

-- its stamps begin where the number beside its newest stamp says
module _ (c : After-start_at) where
  grid_here : GridThere c.args.shape c.args.newest.now c.args.stamps.now c.in-Some.after.grid c.in-Some.after.stamp c.args.k c.args.level
  grid_here =
      let a = c.args in
      let q = c.requires in
      grid_there a.shape q.0 a.newest.now a.stamps.now c.in-Some.after a.k a.level a.since a.slice c.in-Some.is q.1 q.2 q.3 q.4

  begun : c.start_at.result ≡ grid_start c.args.shape c.args.k
  begun = c.start_at.ensures ∙ grid_here.start

  room : c.in-Some.after.stamp + c.start_at.result + stamp_count (tiling_of c.args.shape c.args.level) ≤ length c.args.stamps.now
  room = omega (arith, grid_here.room, begun)

-- and are as many as its tiles
module _ (c : After-stamp_count) where
  abbrev start : ℕ
  start = c.in-Some.after.stamp + c.start_at.result

  counted : c.stamp_count.result ≡ stamp_count (tiling_of c.args.shape c.args.level)
  counted = c.stamp_count.ensures ∙ ap stamp_count c.tiling_at-tiling.ensures

  part_size : start + c.stamp_count.result - start ≡ stamp_count (tiling_of c.args.shape c.args.level)
  part_size = omega (arith, counted)

pub returns-then-covered : goal.returns-then-covered
returns-then-covered c =
    let a = c.args in
    sym (planned_covered a.newest.now a.stamps.now a.shape a.since (footprint a.upload) a.slice a.level c.if-covered.true)

pub returns-in_default : goal.returns-in_default
returns-in_default c =
    let a = c.args in
    sym (planned_unknown a.newest.now a.stamps.now a.shape a.since (footprint a.upload) a.slice a.level c.if-covered.false c.in_default.is)

pub returns-then-newest-p : goal.returns-then-newest-p
returns-then-newest-p c =
    let a = c.args in
    sym (planned_held a.newest.now a.stamps.now a.shape a.since (footprint a.upload) a.slice a.level c.if-covered.false
    c.in-Some.after a.k c.in-Some.is c.requires.4 c.if-newest-p.true)

pub overflow_add-start : goal.overflow_add-start
overflow_add-start c = omega (arith, room (goal.at.overflow_add-start c).After-start_at)

pub tiling_at-tiling-requires : goal.tiling_at-tiling-requires
tiling_at-tiling-requires c = let t = there (goal.at.tiling_at-tiling-requires c).In-Some in (t.numbers, t.edges)

pub stamp_count-requires : goal.stamp_count-requires
stamp_count-requires c = tiling_known_ok c.args.shape c.requires.0 c.args.level c.tiling_at-tiling.result c.tiling_at-tiling.ensures

pub overflow_add-end : goal.overflow_add-end
overflow_add-end c = omega (arith, counted (goal.at.overflow_add-end c).After-stamp_count, room (goal.at.overflow_add-end c).After-start_at)

pub offset_bounds-stamps-start : goal.offset_bounds-stamps-start
offset_bounds-stamps-start c = omega (arith, room (goal.at.offset_bounds-stamps-start c).After-start_at)

pub slice_bounds-written_since-end : goal.slice_bounds-written_since-end
slice_bounds-written_since-end c = omega (arith, counted (goal.at.slice_bounds-written_since-end c).After-stamp_count, room (goal.at.slice_bounds-written_since-end c).After-start_at)

pub written_since-dirty-requires : goal.written_since-dirty-requires
written_since-dirty-requires c =
    let a = c.args in
    let part = (goal.at.written_since-dirty-requires c).After-stamp_count in
    part_fits a.shape c.requires.0 a.level a.newest.now a.stamps.now (c.in-Some.after.grid + grid_stride * a.k) (start part) (room (goal.at.written_since-dirty-requires c).After-start_at) _ _ (part_size part)
    c.tiling_at-tiling.ensures

pub returns : goal.returns
returns c =
    let a = c.args in
    c.box_planned.ensures
    ∙ ap (box_planned a.shape a.level)
    (c.written_since-dirty.ensures
    ∙ part_box a.shape c.requires.0 a.newest.now a.stamps.now c.in-Some.after a.k a.level (there (goal.at.returns c).In-Some) _ _ _ (begun (goal.at.returns c).After-start_at) (part_size (goal.at.returns c).After-stamp_count)
    c.tiling_at-tiling.ensures)
    ∙ sym (planned_after a.newest.now a.stamps.now a.shape a.since (footprint a.upload) a.slice a.level c.if-covered.false
    c.in-Some.after a.k c.in-Some.is c.requires.4)
