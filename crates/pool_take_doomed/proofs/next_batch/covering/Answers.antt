-- `covering` meets its contract: versions are added until the excess is covered or none is left. Assumes nothing.
use mathlib.Core.Path.{◌≡◌, sym, ap, ap₂, ◌∙◌}
use Prim.Native.Nat.{◌+◌, ◌*◌}
use native.Mathlib.Omega.{arith}
use lib.ListN.{get_or}
use Rattle.pool_rules.specs.Model.{doomed_bytes}
use Rattle.pool_take_doomed.specs.NextBatch.{doomed_entries}
use Rattle.pool_take_doomed.proofs.Batches.{bytes_more, bytes_part, batch_from, batch_start, batch_more, batch_stop, batch_done}
use Rattle.pool_records.specs.RecordConstants.{doomed_bytes_at, doomed_stride}
use Rattle.pool_take_doomed.proofs.next_batch.covering.Goals as goal

pub bytes_of-bytes-requires : goal.bytes_of-bytes-requires
bytes_of-bytes-requires c =
    let a = c.args in
    let p = c.requires in
    (p.0, p.1, omega (arith, p), omega (arith, p, bytes_part a.cap a.first a.doomed.now a.least a.n p.3))

pub loop-count-init : goal.loop-count-init
loop-count-init c =
    let a = c.args in (
      c.bytes_of-bytes.ensures,
      ap (λ b. batch_from a.cap a.first a.doomed.now a.n a.excess b a.least) c.bytes_of-bytes.ensures
          ∙ batch_start a.cap a.first a.doomed.now a.n a.excess a.least c.requires.3,
    )

pub returns-then-excess-bytes : goal.returns-then-excess-bytes
returns-then-excess-bytes c =
    let a = c.args in
    let whole = batch_stop a.cap a.first a.doomed.now a.n a.excess c.loop-count.bytes c.loop-count.count c.if-excess-bytes.true in
    (sym whole ∙ c.loop-count.invariant.1, omega arith, c.loop-count.invariant.0)

pub overflow_add-bytes-in-loop-count : goal.overflow_add-bytes-in-loop-count
overflow_add-bytes-in-loop-count c =
    let a = c.args in
    let k = c.loop-count.count in
    let e = ap (λ p. get_or a.doomed.now (doomed_stride * p + doomed_bytes_at) 0) c.place-p.ensures.1 in
    let more = bytes_more a.cap a.first a.doomed.now k in
    let part = bytes_part a.cap a.first a.doomed.now (k + 1) a.n (omega arith) in
    omega (arith, e, more, part, c.loop-count.invariant.0, c.requires)

pub loop-count-preserved : goal.loop-count-preserved
loop-count-preserved c =
    let a = c.args in
    let k = c.loop-count.count in
    let e = ap (λ p. get_or a.doomed.now (doomed_stride * p + doomed_bytes_at) 0) c.place-p.ensures.1 in (
      ap₂ (λ x y. x + y) c.loop-count.invariant.0 e ∙ bytes_more a.cap a.first a.doomed.now k,
      ap (λ x. batch_from a.cap a.first a.doomed.now a.n a.excess (c.loop-count.bytes + x) (k + 1)) e
          ∙ batch_more a.cap a.first a.doomed.now a.n a.excess c.loop-count.bytes k (omega arith) (omega (arith, c.if-excess-bytes.false))
          ∙ c.loop-count.invariant.1,
    )

pub returns : goal.returns
returns c =
    let a = c.args in
    let e : c.loop-count.count ≡ a.n = omega (arith, c.requires.3) in
    let whole = batch_done a.cap a.first a.doomed.now a.n a.excess c.loop-count.bytes c.loop-count.count (omega arith) in
    (sym e ∙ sym whole ∙ c.loop-count.invariant.1, omega arith, c.loop-count.invariant.0 ∙ ap (λ n. doomed_bytes (doomed_entries a.cap a.first a.doomed.now n)) e)
