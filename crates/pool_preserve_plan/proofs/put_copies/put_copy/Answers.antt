-- `put_copy` meets its contract. Assumes nothing.
use mathlib.Core.Path.{sym, ap, ◌∙◌}
use native.Mathlib.Omega.{arith}
use Prim.Native.Nat.{◌*◌}
use lib.ListN.{length}
use lib.Seq.{sets}
use Rattle.pool_rules.specs.Model.{PreserveCopy}
use Rattle.pool_preserve_plan.specs.Copies.{with_copies}
use Rattle.pool_preserve_plan.proofs.Passes.{list_none, list_one, copy_long, with_none, with_one_lem}
use Rattle.pool_memory.specs.MemoryConstants.{copy_stride}
use Rattle.pool_preserve_plan.proofs.put_copies.put_copy.Goals as goal

pub returns-in_default : goal.returns-in_default
returns-in_default c =
    let a = c.args in
    let e = list_none a.planned a.slice a.level c.in_default.is in
    (omega (arith, ap length e), sym (ap (λ cs. with_copies a.at cs a.buffer.now) e ∙ with_none a.at a.buffer.now))

pub put_record-requires : goal.put_record-requires
put_record-requires c =
    let a = c.args in
    let e = list_one a.planned c.in-Some.region a.slice a.level c.in-Some.is in
    omega (arith, c.requires, ap length e, ap length c.copy_numbers-numbers.ensures, copy_long (record { slice = a.slice; level = a.level; region = c.in-Some.region }))

pub returns : goal.returns
returns c =
    let a = c.args in
    let copy : PreserveCopy = record { slice = a.slice; level = a.level; region = c.in-Some.region } in
    let e = list_one a.planned c.in-Some.region a.slice a.level c.in-Some.is in (
      omega (arith, ap length e),
      c.put_record.ensures
          ∙ ap (sets a.buffer.now (copy_stride * a.at)) c.copy_numbers-numbers.ensures
          ∙ sym (ap (λ cs. with_copies a.at cs a.buffer.now) e ∙ with_one_lem a.at copy a.buffer.now),
    )
