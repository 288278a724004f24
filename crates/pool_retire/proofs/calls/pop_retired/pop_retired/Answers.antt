-- `pop_retired` meets its contract, case by case. Assumes nothing.
use mathlib.Core.Path.{ap, ◌∙◌}
use mathlib.Core.Option.{some}
use native.Mathlib.Omega.{arith}
use Rattle.pool_memory.specs.Lent.{lent}
use Rattle.pool_memory.specs.Calls.{answer}
use Rattle.pool_memory.proofs.FromPool.{pool_fits}
use Rattle.pool_retire.proofs.PopCases.{ring_room, pop_late, pop_full, pop_none, unsettled_front, settled_front}
use Rattle.pool_retire.proofs.calls.pop_retired.pop_retired.Goals as goal

pub returns-then-settled-gt-LIMIT : goal.returns-then-settled-gt-LIMIT
returns-then-settled-gt-LIMIT c =
    pop_late _ c.requires c.args.settled c.if-settled-gt-LIMIT.true

pub returns-then-pool-ne0 : goal.returns-then-pool-ne0
returns-then-pool-ne0 c =
    pop_full _ c.requires c.args.settled c.if-settled-gt-LIMIT.false (omega (arith, c.if-pool-ne0.true))

pub returns-then-pool-eq0 : goal.returns-then-pool-eq0
returns-then-pool-eq0 c =
    pop_none _ c.requires c.args.settled c.if-settled-gt-LIMIT.false (omega (arith, c.if-pool-ne0.false)) (omega (arith, c.if-pool-eq0.true))

pub retiring_at-front-requires : goal.retiring_at-front-requires
retiring_at-front-requires c =
    ring_room _ (pool_fits _ c.requires)

pub returns-then-front-settled : goal.returns-then-front-settled
returns-then-front-settled c =
    unsettled_front _ c.requires c.args.settled c.if-settled-gt-LIMIT.false (omega (arith, c.if-pool-ne0.false)) (omega (arith, c.if-pool-eq0.false))
    c.retiring_at-front.result c.retiring_at-front.ensures (omega (arith, c.if-front-settled.true))

pub returns : goal.returns
returns c =
    ap
    (λ p. (answer (some (record { id = c.retiring_at-front.result.id; view = c.retiring_at-front.result.view })), lent p c.args.book c.args.textures.now c.args.retiring.now c.args.doomed.now c.args.spares.now c.args.newest.now c.args.stamps.now))
    c.front_popped.ensures
    ∙ settled_front _ c.requires c.args.settled c.if-settled-gt-LIMIT.false (omega (arith, c.if-pool-ne0.false)) (omega (arith, c.if-pool-eq0.false))
    c.retiring_at-front.result c.retiring_at-front.ensures (omega (arith, c.if-front-settled.false))
