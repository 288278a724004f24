-- `count_copies` meets its contract: one subresource after the other. Assumes nothing.
use mathlib.Core.Path.{◌≡◌, ap, ◌∙◌}
use mathlib.Core.List.{List}
use Prim.Native.Nat.{ℕ, ◌+◌, ◌≤◌, ◌<◌}
use native.Mathlib.Omega.{arith}
use lib.ListN.{length}
use Rattle.grid_shapes.proofs.Shapes.{shape_bounds}
use Rattle.pool_rules.specs.Model.{PreserveCopy, grid_count}
use Rattle.pool_rules.specs.RuleConstants.{most_grids}
use Rattle.pool_rules.proofs.HistorySizes.{grids_most}
use Rattle.pool_preserve_plan.specs.Copies.{footprint, copies_at}
use Rattle.pool_preserve_plan.proofs.Planned.{first_place, next_place}
use Rattle.pool_preserve_plan.proofs.Passes.{rest, lent_all, count_more, count_done, list_length, list_at}
use borrow.Author.Rules.{rules}
use Rattle.pool_preserve_plan.proofs.count_copies.count_copies.Goals as goal
use Rattle.pool_preserve_plan.proofs.count_copies.count_copies.Goals.{After-copy_count-count, In-loop-k}

-- a turn of the loop
module _ (c : In-loop-k) where
  abbrev copies : ℕ → List PreserveCopy
  copies = copies_at c.args.newest.now c.args.stamps.now c.args.shape c.args.since (footprint c.args.upload)

  within : c.loop-k.k < grid_count c.args.shape
  within = omega (arith, c.loop-k-test.true, c.shape_grids-all.ensures)

  most : c.loop-k.at.slice ≤ most_grids
  most = omega (arith, c.loop-k.invariant.1.below, within, grids_most c.args.shape c.requires.0)

-- the copies of one subresource
module _ (c : After-copy_count-count) where
  counted : c.copy_count-count.result ≡ length (copies_at c.args.newest.now c.args.stamps.now c.args.shape c.args.since (footprint c.args.upload) c.loop-k.k)
  counted =
      let a = c.args in
      let l = c.loop-k in
      c.copy_count-count.ensures.1
      ∙ list_length c.copy_at-planned.result 0 0 l.at.slice l.at.level
      ∙ ap length (list_at a.newest.now a.stamps.now a.shape a.since (footprint a.upload) l.k l.at.slice l.at.level
      c.copy_at-planned.result l.invariant.1 c.copy_at-planned.ensures)

pub shape_grids-all-requires : goal.shape_grids-all-requires
shape_grids-all-requires c = omega (arith, grids_most c.args.shape c.requires.0)

pub loop-k-init : goal.loop-k-init
loop-k-init c =
    let a = c.args in (
      search rules,
      first_place a.shape.levels (shape_bounds a.shape c.requires.0).levels_pos,
      omega (arith, ap length (lent_all a.newest.now a.stamps.now a.shape a.since (footprint a.upload) c.shape_grids-all.result c.shape_grids-all.ensures)),
    )

pub next_subresource-at-requires : goal.next_subresource-at-requires
next_subresource-at-requires c = (most (goal.at.next_subresource-at-requires c).In-loop-k, c.loop-k.invariant.1.inside)

pub loop-k-preserved : goal.loop-k-preserved
loop-k-preserved c =
    let l = c.loop-k in
    let n = c.next_subresource-at in
    let all = c.shape_grids-all.result in
    let t = (goal.at.loop-k-preserved c).In-loop-k in (
      omega (arith, l.invariant.0, c.copy_count-count.ensures.0),
      next_place c.args.shape.levels l.k l.at.slice l.at.level l.invariant.1 n.result.slice n.result.level n.ensures.0 n.ensures.1 n.ensures.2,
      ap (λ (i : ℕ). l.count + i + length (rest (copies t) all (l.k + 1))) (counted (goal.at.loop-k-preserved c).After-copy_count-count)
          ∙ count_more (copies t) all l.k l.count _ c.loop-k-test.true l.invariant.2,
    )

pub returns : goal.returns
returns c =
    let a = c.args in
    count_done (copies_at a.newest.now a.stamps.now a.shape a.since (footprint a.upload)) c.shape_grids-all.result c.loop-k.k c.loop-k.count _ (omega arith) c.loop-k.invariant.2
