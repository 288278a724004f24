-- `count_before` meets its contract. Assumes nothing.
use mathlib.Core.Path.{ap}
use Prim.Native.Nat.{◌+◌}
use native.Mathlib.Omega.{arith}
use borrow.Author.Rules.{rules}
use Rattle.pool_relief_line.specs.Line.{count_before}
use Rattle.pool_relief_line.specs.Parked.{parked_at}
use Rattle.pool_relief_line.proofs.Parked.{parkings_left, count_done, count_hit, count_miss}
use Rattle.pool_relief_line.proofs.gives.count_before.Goals as goal
use Rattle.pool_relief_line.proofs.gives.count_before.Goals.{then-parked-line, else-parked-line}

pub loop-j-preserved : goal.loop-j-preserved
loop-j-preserved c =
    let a = c.args in
    let e = c.loop-j.invariant.1 in
    elim c.if-parked-line.branch [
      | then-parked-line w ↦ rw w.k-is (omega arith, count_hit a.spares.now a.line (a.from + a.n) c.loop-j.j c.loop-j.k _ (omega arith) e w.if-parked-line.true)
      | else-parked-line w ↦ rw w.k-is (omega arith, count_miss a.spares.now a.line (a.from + a.n) c.loop-j.j c.loop-j.k _ (omega arith) e w.if-parked-line.false)
    ]

pub returns : goal.returns
returns c =
    let a = c.args in (
      search rules,
      omega (
        arith,
        c.loop-j.invariant.1,
        count_done a.line (parked_at a.spares.now) (a.from + a.n) c.loop-j.j (omega arith),
        ap (count_before a.line) (parkings_left a.spares.now a.from a.n),
      ),
    )
