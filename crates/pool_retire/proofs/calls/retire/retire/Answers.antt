-- `retire` meets its contract: refused, or queued after the others. Assumes nothing.
use mathlib.Core.Path.{sym, ap}
use mathlib.Core.List.{[]}
use native.Mathlib.Omega.{arith}
use Rattle.grid_shapes.specs.Outcomes.{refused, number_of}
use Rattle.grid_shapes.proofs.Outcomes.{accepted_apart}
use Rattle.pool_memory.proofs.FromPool.{pool_fits}
use Rattle.pool_memory.proofs.Stays.{ids_ascend, textures_fit_lem}
use Rattle.pool_retire.proofs.Tracked.{history_here}
use Rattle.pool_retire.proofs.RetireCases.{refusal_fits, queued_fits, count_fits, push_fits, retire_refused, retire_accepted}
use Rattle.pool_retire.proofs.calls.retire.retire.Goals as goal

pub check_retire-requires : goal.check_retire-requires
check_retire-requires c =
    refusal_fits _ (pool_fits _ c.requires)

pub returns-in-Err : goal.returns-in-Err
returns-in-Err c =
    let a = c.args in
    let r = c.in-Err.refusal in
    rw c.same_counts.ensures (retire_refused _ c.requires a.id a.view a.seq (number_of r) c.in-Err.ensures (λ z. accepted_apart {fields = []} r (ap refused (sym z))))

pub find_texture-i-requires : goal.find_texture-i-requires
find_texture-i-requires c =
    let f = pool_fits _ c.requires in
    (textures_fit_lem _ f, ids_ascend _ f)

pub retired_version-version-requires : goal.retired_version-version-requires
retired_version-version-requires c =
    textures_fit_lem _ (pool_fits _ c.requires)

pub note_birth-requires : goal.note_birth-requires
note_birth-requires c =
    let a = c.args in
    let f = pool_fits _ c.requires in
    let s = c.find_texture-i in
    (textures_fit_lem _ f, history_here _ f a.id s.result s.ensures)

pub ring_count-requires : goal.ring_count-requires
ring_count-requires c =
    count_fits _ (pool_fits _ c.requires)

pub push_retiring-requires : goal.push_retiring-requires
push_retiring-requires c =
    let a = c.args in
    let p = push_fits _ c.requires a.id a.view a.seq c.in_default.ensures in
    (p.0, p.1, omega (arith, p.2, c.ring_count.ensures))

pub one_queued-requires : goal.one_queued-requires
one_queued-requires c =
    queued_fits _ (pool_fits _ c.requires)

pub returns : goal.returns
returns c =
    let a = c.args in
    let s = c.find_texture-i in
    let v = c.retired_version-version in
    let n = c.ring_count in
    retire_accepted _ c.requires a.id a.view a.seq c.in_default.ensures
    s.result s.ensures v.result n.result c.one_queued.result
    _ _ v.ensures c.note_birth.ensures n.ensures
    c.push_retiring.ensures c.one_queued.ensures
