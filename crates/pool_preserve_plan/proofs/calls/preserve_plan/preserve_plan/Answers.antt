-- `preserve_plan` meets its contract: the number, the copies and their count are the rule's. Assumes nothing.
use mathlib.Core.Path.{refl, sym, ap}
use mathlib.Core.List.{[]}
use Rattle.std.proofs.lemmas.Result.{err_from_is_err_and}
use Rattle.grid_shapes.specs.Outcomes.{refused, number_of}
use Rattle.grid_shapes.proofs.Outcomes.{accepted_apart}
use Rattle.pool_memory.proofs.FromPool.{pool_fits}
use Rattle.pool_memory.proofs.Stays.{textures_fit_lem, ids_ascend}
use Rattle.pool_preserve_plan.proofs.Finding.{found_fits}
use Rattle.pool_preserve_plan.proofs.Planning.{fits_room, says_refused, says_accepted}
use Rattle.pool_preserve_plan.proofs.calls.preserve_plan.preserve_plan.Goals as goal

pub find_history-found-requires : goal.find_history-found-requires
find_history-found-requires c =
    let f = pool_fits _ c.requires in
    (textures_fit_lem _ f, ids_ascend _ f)

pub check_plan-requires : goal.check_plan-requires
check_plan-requires c =
    let a = c.args in
    rw (c.since_of-since.ensures, c.find_history-found.ensures) (found_fits _ (pool_fits _ c.requires) a.id a.shape a.held)

pub returns-in_err-check_plan : goal.returns-in_err-check_plan
returns-in_err-check_plan c =
    let a = c.args in
    let r = c.in_err-check_plan.field-0.0 in
    let p = err_from_is_err_and c.from_residual.result c.from_residual.ensures.1 in
    rw (p.1, p.2)
    (says_refused _ c.requires a.id a.shape a.held _ a.buffer.now c.find_history-found.result c.since_of-since.result
    c.find_history-found.ensures c.since_of-since.ensures (number_of r) c.in_err-check_plan.ensures (λ z. accepted_apart {fields = []} r (ap refused (sym z))))

pub put_copies-count-requires : goal.put_copies-count-requires
put_copies-count-requires c =
    let a = c.args in
    let r = fits_room _ c.requires a.id a.shape a.held _ a.buffer.now c.find_history-found.result c.since_of-since.result
    c.find_history-found.ensures c.since_of-since.ensures 0 c.in_ok-check_plan.ensures refl in
    (r.0, rw (c.since_of-since.ensures, c.find_history-found.ensures) (found_fits _ (pool_fits _ c.requires) a.id a.shape a.held), r.1)

pub returns : goal.returns
returns c =
    let a = c.args in
    let p = c.put_copies-count in
    says_accepted _ c.requires a.id a.shape a.held _ a.buffer.now c.find_history-found.result c.since_of-since.result
    c.find_history-found.ensures c.since_of-since.ensures 0 p.result p.new.buffer c.in_ok-check_plan.ensures refl p.ensures.0 p.ensures.1
