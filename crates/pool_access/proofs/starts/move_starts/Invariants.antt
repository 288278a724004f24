-- `move_starts` meets its contract: the records from k on, moved, are what is left to do. Assumes nothing.
use mathlib.Core.Path.{◌≡◌}
use Prim.Native.Nat.{◌*◌, ◌≤◌}
use lib.ListN.{length}
use Rattle.pool_records.specs.RecordConstants.{texture_stride}
use Rattle.pool_records.specs.Starts.{starts_moved, StartsMove}
use Rattle.pool_access.proofs.starts.move_starts.Given as goal

abbrev pub invariant-loop-k : goal.invariant-loop-k
invariant-loop-k l =
    (texture_stride * l.n ≤ length l.textures) × StartsMove l.grids l.stamps l.k l.n l.textures
    × (starts_moved l.grids l.stamps l.k l.n l.textures ≡ starts_moved l.grids l.stamps l.i l.n l.initial.textures)
