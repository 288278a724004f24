-- `bytes_of` meets its contract: one version's bytes after the other. Assumes nothing.
use mathlib.Core.Path.{ap, ap₂, ◌∙◌}
use Prim.Native.Nat.{◌+◌, ◌*◌}
use native.Mathlib.Omega.{arith}
use lib.ListN.{get_or}
use Rattle.pool_take_doomed.proofs.Batches.{bytes_none, bytes_more, bytes_part}
use Rattle.pool_records.specs.RecordConstants.{doomed_bytes_at, doomed_stride}
use Rattle.pool_take_doomed.proofs.next_batch.bytes_of.Goals as goal

pub loop-i-init : goal.loop-i-init
loop-i-init c = let a = c.args in bytes_none a.cap a.first a.doomed.now

pub overflow_add-sum-in-loop-i : goal.overflow_add-sum-in-loop-i
overflow_add-sum-in-loop-i c =
    let a = c.args in
    let i = c.loop-i.i in
    let e = ap (λ p. get_or a.doomed.now (doomed_stride * p + doomed_bytes_at) 0) c.place-p.ensures.1 in
    let more = bytes_more a.cap a.first a.doomed.now i in
    let part = bytes_part a.cap a.first a.doomed.now (i + 1) a.k (omega arith) in
    omega (arith, e, more, part, c.loop-i.invariant, c.requires)

pub loop-i-preserved : goal.loop-i-preserved
loop-i-preserved c =
    let a = c.args in
    ap₂ (λ x p. x + get_or a.doomed.now (doomed_stride * p + doomed_bytes_at) 0) c.loop-i.invariant c.place-p.ensures.1
    ∙ bytes_more a.cap a.first a.doomed.now c.loop-i.i
