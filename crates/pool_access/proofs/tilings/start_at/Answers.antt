use mathlib.Core.Path.{ap}
use Rattle.pool_records.specs.declared.tiling.GridTiling.{GridTiling}
use Rattle.pool_access.proofs.tilings.start_at.Goals as goal

-- src/tilings.rt:37:1
pub returns : goal.returns
returns c = ap (λ (t : GridTiling). t.start) c.read_tiling-t.ensures
