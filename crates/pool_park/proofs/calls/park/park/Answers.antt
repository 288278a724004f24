-- `park` meets its contract: refused, destroyed or kept. Assumes nothing.
use mathlib.Core.Path.{sym, ap}
use mathlib.Core.List.{[]}
use Rattle.grid_shapes.specs.Outcomes.{refused, number_of}
use Rattle.grid_shapes.proofs.Outcomes.{accepted_apart}
use Rattle.pool_memory.proofs.FromPool.{pool_fits}
use Rattle.pool_memory.proofs.Stays.{ids_ascend, textures_fit_lem}
use Rattle.pool_park.proofs.ParkCases.{park_refused, front_fits, decision_fits, push_fits, doomed_counts_fit, keep_fits, kept_counts_fit, park_destroyed, park_kept}
use Rattle.pool_park.proofs.calls.park.park.Goals as goal

pub returns-in-Err : goal.returns-in-Err
returns-in-Err c =
    let a = c.args in
    let r = c.in-Err.refusal in
    park_refused _ c.requires a.failed a.current (number_of r) c.in-Err.ensures (λ z. accepted_apart {fields = []} r (ap refused (sym z)))

pub retiring_at-v-requires : goal.retiring_at-v-requires
retiring_at-v-requires c =
    let a = c.args in
    front_fits _ c.requires a.failed a.current c.in_default.ensures

pub ring_drop-head-requires : goal.ring_drop-head-requires
ring_drop-head-requires c =
    let a = c.args in
    let f = front_fits _ c.requires a.failed a.current c.in_default.ensures in
    (f.1, f.2)

pub find_texture-i-requires : goal.find_texture-i-requires
find_texture-i-requires c =
    let f = pool_fits _ c.requires in
    (textures_fit_lem _ f, ids_ascend _ f)

pub park_or_destroy-decided-requires : goal.park_or_destroy-decided-requires
park_or_destroy-decided-requires c =
    let a = c.args in
    decision_fits _ c.requires a.failed a.current c.in_default.ensures
    c.retiring_at-v.result c.retiring_at-v.ensures c.find_texture-i.result c.find_texture-i.ensures

pub push_doomed-requires : goal.push_doomed-requires
push_doomed-requires c =
    let a = c.args in
    push_fits _ c.requires a.failed a.current c.in_default.ensures
    c.retiring_at-v.result c.retiring_at-v.ensures c.find_texture-i.result c.find_texture-i.ensures
    c.park_or_destroy-decided.result c.park_or_destroy-decided.ensures c.in-Destroyed.bytes c.in-Destroyed.is

pub hand_doomed-requires : goal.hand_doomed-requires
hand_doomed-requires c =
    let a = c.args in
    doomed_counts_fit _ c.requires a.failed a.current c.in_default.ensures
    c.retiring_at-v.result c.retiring_at-v.ensures c.find_texture-i.result c.find_texture-i.ensures
    c.park_or_destroy-decided.result c.park_or_destroy-decided.ensures c.in-Destroyed.bytes c.in-Destroyed.is

pub keep_version-requires : goal.keep_version-requires
keep_version-requires c =
    let a = c.args in
    let p = c.spare_parked-spare in
    keep_fits _ c.requires a.failed a.current c.in_default.ensures
    c.retiring_at-v.result c.retiring_at-v.ensures c.find_texture-i.result c.find_texture-i.ensures
    c.park_or_destroy-decided.result c.park_or_destroy-decided.ensures c.in-Kept.bytes c.in-Kept.is
    p.result p.ensures

pub hand_kept-requires : goal.hand_kept-requires
hand_kept-requires c =
    let a = c.args in
    kept_counts_fit _ c.requires a.failed a.current c.in_default.ensures
    c.retiring_at-v.result c.retiring_at-v.ensures c.find_texture-i.result c.find_texture-i.ensures
    c.park_or_destroy-decided.result c.park_or_destroy-decided.ensures c.in-Kept.bytes c.in-Kept.is

pub returns-in-Destroyed : goal.returns-in-Destroyed
returns-in-Destroyed c =
    let a = c.args in
    park_destroyed _ c.requires a.failed a.current c.in_default.ensures
    c.retiring_at-v.result c.retiring_at-v.ensures c.find_texture-i.result c.find_texture-i.ensures
    c.park_or_destroy-decided.result c.park_or_destroy-decided.ensures c.in-Destroyed.bytes c.in-Destroyed.is
    c.ring_drop-head.result c.hand_doomed.result _ c.ring_drop-head.ensures.1 c.push_doomed.ensures
    c.hand_doomed.ensures

pub returns-in-Kept : goal.returns-in-Kept
returns-in-Kept c =
    let a = c.args in
    let p = c.spare_parked-spare in
    let k = c.keep_version in
    park_kept _ c.requires a.failed a.current c.in_default.ensures
    c.retiring_at-v.result c.retiring_at-v.ensures c.find_texture-i.result c.find_texture-i.ensures
    c.park_or_destroy-decided.result c.park_or_destroy-decided.ensures c.in-Kept.bytes c.in-Kept.is
    c.ring_drop-head.result p.result c.hand_kept.result _ _ c.ring_drop-head.ensures.1 p.ensures k.ensures.0 k.ensures.1
    c.hand_kept.ensures
