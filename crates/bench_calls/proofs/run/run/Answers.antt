-- `run` meets its contract: a pool that was opened is one. Assumes nothing.
use Rattle.std.proofs.Common.{ap}
use Rattle.grid_shapes.specs.Outcomes.{outcome_number}
use Rattle.bench_calls.proofs.run.run.Goals as goal

pub loop-k-init : goal.loop-k-init
loop-k-init g c = c.open_work-opened.ensures (ap outcome_number c.in-Ok.is)
