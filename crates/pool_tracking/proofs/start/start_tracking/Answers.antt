-- `start_tracking` meets its contract: the record put in, then the grids and their stamps. Assumes nothing.
use native.Mathlib.Omega.{arith}
use Rattle.pool_rules.proofs.HistorySizes.{grids_most}
use Rattle.pool_tracking.proofs.Started.{started_as}
use Rattle.pool_tracking.proofs.start.start_tracking.Goals as goal

pub fresh_grids-fresh-requires : goal.fresh_grids-fresh-requires
fresh_grids-fresh-requires c = omega (arith, grids_most _ c.requires.shaped)

pub returns : goal.returns
returns c =
    started_as _ _ _ _ c.args.new _ _ _ _ _ c.first_at-first.ensures c.fresh_grids-fresh.ensures c.start_record.ensures c.renew_newest.ensures c.renew_block.ensures
