-- `count_before` meets its contract. Assumes nothing.
use mathlib.Core.Path.{◌≡◌}
use Prim.Native.Nat.{◌+◌, ◌≤◌}
use Rattle.base_blocks.proofs.Listed.{left}
use Rattle.pool_relief_line.specs.Line.{count_before}
use Rattle.pool_relief_line.specs.Parked.{parked_at}
use Rattle.pool_relief_line.proofs.gives.count_before.Given as goal

abbrev pub invariant-loop-j : goal.invariant-loop-j
invariant-loop-j l =
    (l.k + l.from ≤ l.j) × (l.k + count_before l.line (left (parked_at l.spares) (l.from + l.n) l.j) ≡ count_before l.line (left (parked_at l.spares) (l.from + l.n) l.from))
