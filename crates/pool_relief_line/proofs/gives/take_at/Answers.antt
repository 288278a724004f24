-- `take_at` meets its contract. Assumes nothing.
use Prim.Native.Nat.{◌+◌}
use mathlib.Core.Path.{ap}
use native.Mathlib.Nat.{mul-add}
use native.Mathlib.Omega.{arith}
use Rattle.base_blocks.proofs.Listed.{left}
use Rattle.pool_relief_line.specs.Line.{taken_at}
use Rattle.pool_relief_line.specs.Parked.{parked_at}
use Rattle.pool_relief_line.proofs.Parked.{parkings_left, taken_none, taken_done, take_hit, take_miss}
use Rattle.pool_relief_line.proofs.gives.take_at.Goals as goal
use Rattle.pool_relief_line.proofs.gives.take_at.Goals.{then-parked-line, else-parked-line}

pub loop-j-preserved : goal.loop-j-preserved
loop-j-preserved c =
    let a = c.args in
    let e = c.loop-j.invariant.2 in
    elim c.if-parked-line.branch [
      | then-parked-line w ↦ rw (w.count-is, w.sum-is) (
        omega arith,
        omega (arith, c.loop-j.invariant.1, mul-add a.bytes c.loop-j.count 1),
        take_hit a.spares.now a.excess a.bytes a.line (a.from + a.n) c.loop-j.j c.loop-j.count c.loop-j.sum _ (omega arith) c.if-excess-sum.false e w.if-parked-line.true,
      )
      | else-parked-line w ↦ rw (w.count-is, w.sum-is) (
        omega arith,
        c.loop-j.invariant.1,
        take_miss a.spares.now a.excess a.bytes a.line (a.from + a.n) c.loop-j.j c.loop-j.count c.loop-j.sum _ (omega arith) c.if-excess-sum.false e w.if-parked-line.false,
      )
    ]

pub returns-after-loop-j : goal.returns-after-loop-j
returns-after-loop-j c =
    let a = c.args in (
      omega (
        arith,
        c.loop-j.invariant.2,
        taken_done c.loop-j.sum a.excess a.bytes a.line (parked_at a.spares.now) (a.from + a.n) c.loop-j.j (omega arith),
        ap (taken_at a.freed a.excess a.bytes a.line) (parkings_left a.spares.now a.from a.n),
      ),
      c.loop-j.invariant.1,
    )

pub returns-then-excess-sum : goal.returns-then-excess-sum
returns-then-excess-sum c =
    let a = c.args in (
      omega (
        arith,
        c.loop-j.invariant.2,
        taken_none c.loop-j.sum a.excess a.bytes a.line (left (parked_at a.spares.now) (a.from + a.n) c.loop-j.j) c.if-excess-sum.true,
        ap (taken_at a.freed a.excess a.bytes a.line) (parkings_left a.spares.now a.from a.n),
      ),
      c.loop-j.invariant.1,
    )
