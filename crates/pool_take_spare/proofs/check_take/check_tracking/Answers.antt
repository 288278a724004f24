-- `check_tracking` meets its contract. Assumes nothing.
use native.Mathlib.Omega.{arith}
use Rattle.pool_tracking.proofs.Trackings.{stamps_few}
use Rattle.pool_take_spare.proofs.Said.{said_six, said_twelve, said_nothing}
use Rattle.pool_take_spare.proofs.check_take.check_tracking.Goals as goal

pub overflow_add-pool : goal.overflow_add-pool
overflow_add-pool c =
    omega (arith, c.fresh_stamps-stamps.ensures, stamps_few _ c.requires.0 c.args.records, c.requires.3)

pub returns-then-records-lent : goal.returns-then-records-lent
returns-then-records-lent c =
    let e = c.fresh_stamps-stamps.ensures in
    (said_six _ _ _ _ _ c.args.records _ e c.if-records-lent.true, tt)

pub returns-then-pool-ge-LIMIT : goal.returns-then-pool-ge-LIMIT
returns-then-pool-ge-LIMIT c =
    let e = c.fresh_stamps-stamps.ensures in
    (said_twelve _ _ _ _ _ c.args.records _ e c.if-records-lent.false c.if-pool-ge-LIMIT.true, tt)

pub returns : goal.returns
returns c =
    let e = c.fresh_stamps-stamps.ensures in
    (said_nothing _ _ _ _ _ c.args.records _ e c.if-records-lent.false c.if-pool-ge-LIMIT.false, e)
