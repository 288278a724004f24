-- `put_tilings` meets its contract: grid by grid, each by its level's tiling in a slice. Assumes nothing.
use mathlib.Core.Path.{◌≡◌}
use lib.Seq.{sets}
use Rattle.pool_records.specs.Tilings.{fresh_from}
use Rattle.pool_tracking.proofs.tilings.put_tilings.Given as goal

abbrev pub invariant-loop-k : goal.invariant-loop-k
invariant-loop-k l = l.newest ≡ sets l.initial.newest l.at (fresh_from l.shape 0 l.k)
