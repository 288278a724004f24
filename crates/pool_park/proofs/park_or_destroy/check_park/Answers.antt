-- `check_park` meets its contract, test by test. Assumes nothing.
use native.Mathlib.Omega.{arith}
use Rattle.pool_park.proofs.Parked.{refused_late, refused_empty, hand_there}
use Rattle.pool_park.proofs.park_or_destroy.check_park.Goals as goal

pub returns-then-failed-current : goal.returns-then-failed-current
returns-then-failed-current c =
    let a = c.args in
    refused_late a.pool a.failed a.current c.if-failed-current.true

pub returns-then-pool-eq0 : goal.returns-then-pool-eq0
returns-then-pool-eq0 c =
    let a = c.args in
    refused_empty a.pool a.failed a.current c.if-failed-current.false (omega (arith, c.if-pool-eq0.true))

pub returns : goal.returns
returns c =
    let a = c.args in
    hand_there a.pool a.failed a.current c.if-failed-current.false (omega (arith, c.if-pool-eq0.false))
