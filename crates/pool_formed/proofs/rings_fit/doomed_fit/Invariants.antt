-- `doomed_fit` meets its contract: the sum so far is at most 2^44 a version. Assumes nothing.
use mathlib.Core.Path.{◌≡◌}
use Prim.Native.Nat.{◌+◌, ◌*◌, ◌≤◌}
use Rattle.base_blocks.specs.Lists.{all, listed}
use Rattle.base_blocks.proofs.Listed.{left}
use Rattle.pool_rules.specs.Model.{doomed_bytes}
use Rattle.pool_memory.specs.IsPool.{is_doomed}
use Rattle.pool_formed.specs.Parts.{doomed_at}
use Rattle.grid_shapes.specs.ShapeConstants.{most_shape_bytes}
use Rattle.pool_formed.proofs.rings_fit.doomed_fit.Given as goal

abbrev pub invariant-loop-i : goal.invariant-loop-i
invariant-loop-i l =
    (l.sum ≤ most_shape_bytes * l.i) × (all is_doomed (left (doomed_at l.cap l.first l.doomed) l.n l.i) ≡ all is_doomed (listed (doomed_at l.cap l.first l.doomed) 0 l.n))
    × (l.sum + doomed_bytes (left (doomed_at l.cap l.first l.doomed) l.n l.i) ≡ doomed_bytes (listed (doomed_at l.cap l.first l.doomed) 0 l.n))
