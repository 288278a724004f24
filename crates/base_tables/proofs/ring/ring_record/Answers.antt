-- `ring_record` meets its contract: the record at its place. Assumes nothing.
use mathlib.Core.Path.{ap, ◌∙◌}
use native.Mathlib.Omega.{arith}
use Prim.Native.Nat.{◌*◌}
use lib.ListN.{take, drop}
use Rattle.base_blocks.proofs.Numbers.{row_fits}
use Rattle.base_tables.proofs.ring.ring_record.Goals as goal

pub record_at-requires : goal.record_at-requires
record_at-requires c =
    let a = c.args in
    omega (arith, row_fits a.w c.place-p.result a.cap c.place-p.ensures.0)

pub returns : goal.returns
returns c =
    let a = c.args in
    (c.record_at.ensures.0, c.record_at.ensures.1 ∙ ap (λ p. take a.w (drop (a.w * p) a.s.now)) c.place-p.ensures.1)
