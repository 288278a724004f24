-- `aged_count` meets its contract: it counts on while the next is aged. Assumes nothing.
use mathlib.Core.Path.{sym, ◌∙◌}
use Prim.Native.Nat.{◌+◌, ◌-◌, ◌≤◌, ◌<◌}
use native.Mathlib.Omega.{arith}
use Rattle.pool_trim.specs.LookAt.{spare_in}
use Rattle.pool_trim.proofs.Ages.{aged_more, aged_stop, aged_end, parked_at_lem}
use Rattle.pool_rules.specs.RuleConstants.{spare_max_idle_submits}
use Rattle.pool_trim.proofs.look_at.aged_count.Goals as goal

pub returns-then-spares-first : goal.returns-then-spares-first
returns-then-spares-first c =
    let a = c.args in
    let j = a.first + c.loop-k.k in
    let stop : a.current - spare_max_idle_submits ≤ (spare_in a.spares.now j).parked = omega (arith, c.saturating_sub-bound.ensures, parked_at_lem a.spares.now j, c.if-spares-first.true) in
    let e = aged_stop a.current (spare_in a.spares.now) a.first a.n c.loop-k.k (omega arith) stop in
    (omega arith, omega (arith, e, c.loop-k.invariant))

pub loop-k-preserved : goal.loop-k-preserved
loop-k-preserved c =
    let a = c.args in
    let j = a.first + c.loop-k.k in
    let on : (spare_in a.spares.now j).parked < a.current - spare_max_idle_submits = omega (arith, c.saturating_sub-bound.ensures, parked_at_lem a.spares.now j, c.if-spares-first.false) in
    let e = aged_more a.current (spare_in a.spares.now) a.first a.n c.loop-k.k (omega arith) on in
    sym e ∙ c.loop-k.invariant

pub returns : goal.returns
returns c =
    let a = c.args in
    let e = aged_end a.current (spare_in a.spares.now) a.first a.n c.loop-k.k (omega arith) in
    (omega arith, omega (arith, e, c.loop-k.invariant))
