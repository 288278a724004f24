-- `take_at` meets its contract. Assumes nothing.
use Prim.Native.Nat.{◌+◌, ◌*◌, ◌≤◌}
use mathlib.Core.Path.{◌≡◌}
use Rattle.base_blocks.proofs.Listed.{left}
use Rattle.pool_relief_line.specs.Line.{taken_at}
use Rattle.pool_relief_line.specs.Parked.{parked_at}
use Rattle.pool_relief_line.proofs.gives.take_at.Given as goal

abbrev pub invariant-loop-j : goal.invariant-loop-j
invariant-loop-j l =
    (l.count + l.from ≤ l.j) × (l.sum ≡ l.freed + l.bytes * l.count)
    × (l.count + taken_at l.sum l.excess l.bytes l.line (left (parked_at l.spares) (l.from + l.n) l.j) ≡ taken_at l.freed l.excess l.bytes l.line (left (parked_at l.spares) (l.from + l.n) l.from))
