-- `texture_gives` meets its contract. Assumes nothing.
use mathlib.Core.Path.{ap, ◌∙◌}
use Prim.Native.Nat.{◌+◌, ◌*◌}
use native.Mathlib.Omega.{arith}
use Rattle.pool_relief_line.specs.Parked.{parkings}
use Rattle.pool_relief_line.proofs.Parked.{length_parkings, gives_sum, gives_most}
use Rattle.pool_relief_line.proofs.gives.texture_gives.Goals as goal

pub overflow_add-result : goal.overflow_add-result
overflow_add-result c =
    let a = c.args in
    let ps = parkings a.spares.now a.from a.n in
    omega (
      arith,
      c.count_before-before.ensures.1,
      c.take_at-at.ensures.0,
      gives_sum a.freed a.excess a.bytes a.line ps,
      gives_most a.freed a.excess a.bytes a.line ps,
      length_parkings a.spares.now a.from a.n,
      c.ranges.n,
    )

pub returns : goal.returns
returns c =
    let a = c.args in
    let ps = parkings a.spares.now a.from a.n in
    let before = c.count_before-before.ensures.1 in
    let at = c.take_at-at.ensures in
    let sum = gives_sum a.freed a.excess a.bytes a.line ps in (
      omega (arith, before, at.0, sum),
      omega (arith, before, at.0, sum, gives_most a.freed a.excess a.bytes a.line ps, length_parkings a.spares.now a.from a.n),
      at.1 ∙ ap (λ k. a.freed + a.bytes * k) at.0,
    )
