-- `open_work` meets its contract: a pool that was opened is one. Assumes nothing.
use Rattle.bench_calls.proofs.Opened.{opened_forms}
use Rattle.bench_calls.proofs.opening.open_work.Goals as goal

pub returns : goal.returns
returns c =
    let o = c.«open» in
    opened_forms _ _ _ _ _ _ _ o.result o.ensures.outcome o.ensures.pool o.ensures.book
