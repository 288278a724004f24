-- `put_copies` meets its contract: one subresource after the other. Assumes nothing.
use mathlib.Core.Path.{◌≡◌}
use Prim.Native.Nat.{◌+◌}
use lib.ListN.{length}
use Rattle.pool_preserve_plan.specs.Copies.{footprint, copies_at, lent_copies, with_copies}
use Rattle.pool_preserve_plan.proofs.Planned.{IsPlace}
use Rattle.pool_preserve_plan.proofs.Passes.{rest}
use Rattle.pool_preserve_plan.proofs.put_copies.put_copies.Given as goal

abbrev pub invariant-loop-k : goal.invariant-loop-k
invariant-loop-k l =
    IsPlace l.levels l.k l.at.slice l.at.level
    × (l.count + length (rest (copies_at l.newest l.stamps l.shape l.since (footprint l.upload)) l.all l.k) ≡ length (lent_copies l.newest l.stamps l.shape l.since (footprint l.upload)))
    × (with_copies l.count (rest (copies_at l.newest l.stamps l.shape l.since (footprint l.upload)) l.all l.k) l.buffer
    ≡ with_copies 0 (lent_copies l.newest l.stamps l.shape l.since (footprint l.upload)) l.initial.buffer)
