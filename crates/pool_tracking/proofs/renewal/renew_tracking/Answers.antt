-- `renew_tracking` meets its contract: what it leaves is what the rule leaves for a texture tracked with another shape. Assumes nothing.
use mathlib.Core.Path.{refl}
use native.Mathlib.Omega.{arith}
use Rattle.pool_tracking.proofs.Trackings.{grids_all}
use Rattle.pool_tracking.proofs.Renewed.{readable, renewable}
use Rattle.pool_tracking.proofs.LeftRenewed.{left_renewed}
use Rattle.pool_tracking.proofs.renewal.renew_tracking.Goals as goal

pub holding_at-old-requires : goal.holding_at-old-requires
holding_at-old-requires c =
    readable _ c.args.new c.requires.0 c.requires.1 c.requires.2

pub overflow_add-epoch : goal.overflow_add-epoch
overflow_add-epoch c =
    let k = renewable _ c.args.new c.requires.0 c.requires.1 c.requires.2 _ c.holding_at-old.ensures in
    omega (arith, k.counter)

pub fresh_grids-fresh-requires : goal.fresh_grids-fresh-requires
fresh_grids-fresh-requires c =
    let k = renewable _ c.args.new c.requires.0 c.requires.1 c.requires.2 _ c.holding_at-old.ensures in
    k.few

pub give_up-left-requires : goal.give_up-left-requires
give_up-left-requires c =
    let k = renewable _ c.args.new c.requires.0 c.requires.1 c.requires.2 _ c.holding_at-old.ensures in
    (k.ring, k.head, k.doomed, k.within, k.spares, k.parked, k.dooming, k.since)

pub renew_record-requires : goal.renew_record-requires
renew_record-requires c =
    let k = renewable _ c.args.new c.requires.0 c.requires.1 c.requires.2 _ c.holding_at-old.ensures in
    (k.textures, c.requires.1.0, k.shaped, k.moves _ c.fresh_grids-fresh.ensures)

pub overflow_add-grids_end : goal.overflow_add-grids_end
overflow_add-grids_end c =
    let k = renewable _ c.args.new c.requires.0 c.requires.1 c.requires.2 _ c.holding_at-old.ensures in
    omega (arith, k.grids, k.grids_used_lem, k.newest_most)

pub overflow_add-stamps_end : goal.overflow_add-stamps_end
overflow_add-stamps_end c =
    let k = renewable _ c.args.new c.requires.0 c.requires.1 c.requires.2 _ c.holding_at-old.ensures in
    omega (arith, k.stamps, k.stamps_used_lem, k.stamps_most)

pub overflow_sub-pool : goal.overflow_sub-pool
overflow_sub-pool c =
    let k = renewable _ c.args.new c.requires.0 c.requires.1 c.requires.2 _ c.holding_at-old.ensures in
    k.grids

pub renew_newest-requires : goal.renew_newest-requires
renew_newest-requires c =
    let k = renewable _ c.args.new c.requires.0 c.requires.1 c.requires.2 _ c.holding_at-old.ensures in
    let n = c.fresh_grids-fresh.ensures in (
      omega (arith, k.grids, k.grids_used_lem),
      omega (arith, k.grids, k.grids_room, n),
      k.shaped,
      omega (arith, n, grids_all c.args.new.shape c.args.new.records),
    )

pub overflow_sub-pool-2 : goal.overflow_sub-pool-2
overflow_sub-pool-2 c =
    let k = renewable _ c.args.new c.requires.0 c.requires.1 c.requires.2 _ c.holding_at-old.ensures in
    k.stamps

pub renew_block-requires : goal.renew_block-requires
renew_block-requires c =
    let k = renewable _ c.args.new c.requires.0 c.requires.1 c.requires.2 _ c.holding_at-old.ensures in
    (omega (arith, k.stamps, k.stamps_used_lem), omega (arith, k.stamps, k.stamps_room))

pub overflow_sub-result : goal.overflow_sub-result
overflow_sub-result c =
    let k = renewable _ c.args.new c.requires.0 c.requires.1 c.requires.2 _ c.holding_at-old.ensures in
    omega (arith, k.grids)

pub overflow_add-result : goal.overflow_add-result
overflow_add-result c =
    let k = renewable _ c.args.new c.requires.0 c.requires.1 c.requires.2 _ c.holding_at-old.ensures in
    omega (arith, k.grids_room, k.newest_most, k.grids, k.grids_used_lem, c.fresh_grids-fresh.ensures)

pub overflow_sub-result-2 : goal.overflow_sub-result-2
overflow_sub-result-2 c =
    let k = renewable _ c.args.new c.requires.0 c.requires.1 c.requires.2 _ c.holding_at-old.ensures in
    omega (arith, k.stamps)

pub overflow_add-result-2 : goal.overflow_add-result-2
overflow_add-result-2 c =
    let k = renewable _ c.args.new c.requires.0 c.requires.1 c.requires.2 _ c.holding_at-old.ensures in
    omega (arith, k.stamps_room, k.stamps_most, k.stamps, k.stamps_used_lem)

pub returns : goal.returns
returns c =
    let g = c.give_up-left.ensures in
    left_renewed _ c.args.new c.requires.0 c.requires.1 c.requires.2 _ c.holding_at-old.ensures _ _ _ _ _ _ _ _ refl c.fresh_grids-fresh.ensures g.0 g.1 g.2 c.renew_record.ensures c.renew_newest.ensures c.renew_block.ensures
