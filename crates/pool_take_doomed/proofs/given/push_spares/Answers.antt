-- `push_spares` meets its contract: one spare after the other goes to the ring's end. Assumes nothing.
use mathlib.Core.Path.{ap, ◌∙◌}
use mathlib.Core.List.{[], ◌∷◌}
use Prim.Native.Nat.{◌+◌, ◌*◌}
use lib.ListN.{get_or}
use lib.Seq.{sets}
use Rattle.base_tables.specs.Rings.{place_of}
use Rattle.pool_take_doomed.proofs.Pushed.{given_none, given_more}
use Rattle.pool_records.specs.RecordConstants.{doomed_stride, spare_stride}
use Rattle.pool_take_doomed.proofs.given.push_spares.Goals as goal

pub loop-j-init : goal.loop-j-init
loop-j-init c =
    let a = c.args in
    given_none a.cap a.first a.n a.spares.now a.bytes a.from a.doomed.now

pub loop-j-preserved : goal.loop-j-preserved
loop-j-preserved c =
    let a = c.args in
    c.ring_push.ensures
    ∙ ap (λ d. sets d (doomed_stride * place_of a.cap a.first (a.n + c.loop-j.j)) (get_or a.spares.now (spare_stride * (a.from + c.loop-j.j)) 0 ∷ a.bytes ∷ [])) c.loop-j.invariant
    ∙ given_more a.cap a.first a.n a.spares.now a.bytes a.from a.doomed.now c.loop-j.j
