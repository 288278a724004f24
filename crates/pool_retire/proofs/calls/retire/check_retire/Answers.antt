-- `check_retire` meets its contract, test by test. Assumes nothing.
use native.Mathlib.Omega.{arith}
use Rattle.pool_retire.proofs.RetireRefusals.{refused_late, refused_full, nothing_queued, refused_behind, in_order}
use Rattle.pool_retire.proofs.calls.retire.check_retire.Goals as goal

pub returns-then-seq-gt-LIMIT : goal.returns-then-seq-gt-LIMIT
returns-then-seq-gt-LIMIT c =
    let a = c.args in
    refused_late a.pool a.retiring.now a.places a.seq c.if-seq-gt-LIMIT.true

pub returns-then-places-n : goal.returns-then-places-n
returns-then-places-n c =
    let a = c.args in
    let n = c.ring_count-n in
    refused_full a.pool a.retiring.now a.places a.seq c.if-seq-gt-LIMIT.false n.result n.ensures
    (omega (arith, c.if-places-n.true))

pub returns-then-queued-eq0 : goal.returns-then-queued-eq0
returns-then-queued-eq0 c =
    let a = c.args in
    let n = c.ring_count-n in
    nothing_queued a.pool a.retiring.now a.places a.seq c.if-seq-gt-LIMIT.false n.result n.ensures
    (omega (arith, c.if-places-n.false)) (omega (arith, n.ensures, c.if-queued-eq0.true))

pub returns-then-seq-last : goal.returns-then-seq-last
returns-then-seq-last c =
    let a = c.args in
    let n = c.ring_count-n in
    let x = c.retiring_at-last in
    refused_behind a.pool a.retiring.now a.places a.seq c.if-seq-gt-LIMIT.false
    n.result n.ensures (omega (arith, c.if-places-n.false))
    (omega (arith, n.ensures, c.if-queued-eq0.false)) x.result x.ensures (omega (arith, c.if-seq-last.true))

pub returns : goal.returns
returns c =
    let a = c.args in
    let n = c.ring_count-n in
    let x = c.retiring_at-last in
    in_order a.pool a.retiring.now a.places a.seq c.if-seq-gt-LIMIT.false
    n.result n.ensures (omega (arith, c.if-places-n.false))
    (omega (arith, n.ensures, c.if-queued-eq0.false)) x.result x.ensures (omega (arith, c.if-seq-last.false))
