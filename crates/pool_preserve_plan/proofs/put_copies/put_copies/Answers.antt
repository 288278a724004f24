-- `put_copies` meets its contract: one subresource after the other. Assumes nothing.
use mathlib.Core.Path.{◌≡◌, ap, ap₂, ◌∙◌}
use mathlib.Core.List.{List}
use Prim.Native.Nat.{ℕ, ◌+◌, ◌*◌, ◌≤◌, ◌<◌}
use native.Mathlib.Omega.{arith}
use lib.ListN.{length}
use Rattle.grid_shapes.proofs.Shapes.{shape_bounds}
use Rattle.pool_rules.specs.Model.{PreserveCopy, grid_count}
use Rattle.pool_rules.specs.RuleConstants.{most_grids}
use Rattle.pool_rules.proofs.HistorySizes.{grids_most}
use Rattle.pool_memory.specs.MemoryConstants.{copy_stride}
use Rattle.pool_preserve_plan.specs.Copies.{footprint, copy_list, copies_at, with_copies}
use Rattle.pool_preserve_plan.proofs.Planned.{first_place, next_place}
use Rattle.pool_preserve_plan.proofs.Passes.{rest, lent_all, count_more, count_done, next_room, put_more, put_done, list_at}
use Rattle.pool_preserve_plan.proofs.put_copies.put_copies.Goals as goal
use Rattle.pool_preserve_plan.proofs.put_copies.put_copies.Goals.{After-copy_at-planned, In-loop-k}

-- a turn of the loop
module _ (c : In-loop-k) where
  abbrev copies : ℕ → List PreserveCopy
  copies = copies_at c.args.newest.now c.args.stamps.now c.args.shape c.args.since (footprint c.args.upload)

  within : c.loop-k.k < grid_count c.args.shape
  within = omega (arith, c.loop-k-test.true, c.shape_grids-all.ensures)

  most : c.loop-k.at.slice ≤ most_grids
  most = omega (arith, c.loop-k.invariant.0.below, within, grids_most c.args.shape c.requires.0)

-- the copies of one subresource
module _ (c : After-copy_at-planned) where
  abbrev planned : ℕ → List PreserveCopy
  planned = copies_at c.args.newest.now c.args.stamps.now c.args.shape c.args.since (footprint c.args.upload)

  copied : copy_list c.copy_at-planned.result c.loop-k.at.slice c.loop-k.at.level ≡ planned c.loop-k.k
  copied =
      let a = c.args in
      let l = c.loop-k in
      list_at a.newest.now a.stamps.now a.shape a.since (footprint a.upload) l.k l.at.slice l.at.level
      c.copy_at-planned.result l.invariant.0 c.copy_at-planned.ensures

  room : copy_stride * (c.loop-k.count + length (copy_list c.copy_at-planned.result c.loop-k.at.slice c.loop-k.at.level))
      ≤ length c.loop-k.buffer
  room =
      let l = c.loop-k in
      let e = next_room planned c.shape_grids-all.result l.k l.count _ (length c.args.buffer.now)
      c.loop-k-test.true l.invariant.1 c.requires.2 in
      omega (arith, e, l.auto.buffer, ap length copied)

pub shape_grids-all-requires : goal.shape_grids-all-requires
shape_grids-all-requires c = omega (arith, grids_most c.args.shape c.requires.0)

pub loop-k-init : goal.loop-k-init
loop-k-init c =
    let a = c.args in
    let e = lent_all a.newest.now a.stamps.now a.shape a.since (footprint a.upload) c.shape_grids-all.result c.shape_grids-all.ensures in (
      first_place a.shape.levels (shape_bounds a.shape c.requires.0).levels_pos,
      omega (arith, ap length e),
      ap (λ cs. with_copies 0 cs a.buffer.now) e,
    )

pub put_copy-count-requires : goal.put_copy-count-requires
put_copy-count-requires c = room (goal.at.put_copy-count-requires c).After-copy_at-planned

pub next_subresource-at-requires : goal.next_subresource-at-requires
next_subresource-at-requires c = (most (goal.at.next_subresource-at-requires c).In-loop-k, c.loop-k.invariant.0.inside)

pub loop-k-preserved : goal.loop-k-preserved
loop-k-preserved c =
    let p = c.put_copy-count in
    let l = c.loop-k in
    let n = c.next_subresource-at in
    let all = c.shape_grids-all.result in
    let h = c.loop-k-test.true in
    let copies = copies (goal.at.loop-k-preserved c).In-loop-k in
    let more = rest copies all (l.k + 1) in
    let e = copied (goal.at.loop-k-preserved c).After-copy_at-planned in
    let r : p.result ≡ l.count + length (copies l.k) = p.ensures.0 ∙ ap (λ cs. l.count + length cs) e in
    let w = p.ensures.1 ∙ ap (λ cs. with_copies l.count cs l.buffer) e in (
      next_place c.args.shape.levels l.k l.at.slice l.at.level l.invariant.0 n.result.slice n.result.level n.ensures.0 n.ensures.1 n.ensures.2,
      ap (λ i. i + length more) r ∙ count_more copies all l.k l.count _ h l.invariant.1,
      ap₂ (λ i b. with_copies i more b) r w ∙ put_more copies all l.k l.count l.buffer _ h l.invariant.2,
    )

pub returns : goal.returns
returns c =
    let a = c.args in
    let all = c.shape_grids-all.result in
    let copies = copies_at a.newest.now a.stamps.now a.shape a.since (footprint a.upload) in (
      count_done copies all c.loop-k.k c.loop-k.count _ (omega arith) c.loop-k.invariant.1,
      put_done copies all c.loop-k.k c.loop-k.count c.loop-k.buffer _ (omega arith) c.loop-k.invariant.2,
    )
