-- `next_batch` meets its contract. Assumes nothing.
use native.Mathlib.Omega.{arith}
use Rattle.pool_take_doomed.proofs.Batches.{paced_most}
use Rattle.pool_take_doomed.proofs.next_batch.next_batch.Goals as goal

pub covering-requires : goal.covering-requires
covering-requires c =
    let a = c.args in
    let p = c.requires in
    (p.0, p.1, p.2, omega (arith, c.paced-least.ensures, paced_most a.arrivals a.n), p.5)
