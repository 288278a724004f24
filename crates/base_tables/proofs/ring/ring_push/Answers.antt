-- `ring_push` meets its contract: a record put at its place. Assumes nothing.
use mathlib.Core.Path.{ap, ◌∙◌}
use native.Mathlib.Omega.{arith}
use Prim.Native.Nat.{◌*◌}
use lib.Seq.{sets}
use Rattle.base_blocks.proofs.Numbers.{row_fits}
use Rattle.base_tables.proofs.ring.ring_push.Goals as goal

pub put_record-requires : goal.put_record-requires
put_record-requires c =
    let a = c.args in
    omega (arith, row_fits a.w c.place-p.result a.cap c.place-p.ensures.0)

pub returns : goal.returns
returns c =
    let a = c.args in
    c.put_record.ensures ∙ ap (λ p. sets a.s.now (a.w * p) a.r.now) c.place-p.ensures.1
