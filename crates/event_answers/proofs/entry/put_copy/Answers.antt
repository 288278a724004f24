-- `put_copy` meets its contract. Assumes nothing.
use native.Mathlib.Omega.{arith}
use mathlib.Core.List.{[], ◌∷◌}
use Rattle.base_digits.proofs.Puts.{text_put, number_put, number_most}
use Rattle.event_answers.proofs.Answering.{whole_copy, part_copy}
use Rattle.event_answers.proofs.entry.put_copy.Goals as goal

pub put_field-second-requires : goal.put_field-second-requires
put_field-second-requires c = omega (arith, number_most _ _ _ c.put_number-start.ensures.0)

pub put_field-region-requires : goal.put_field-region-requires
put_field-region-requires c = omega (arith, number_most _ _ _ c.put_number-start.ensures.0, c.put_field-second.ensures.0)

pub put_text-requires : goal.put_text-requires
put_text-requires c = omega (arith, number_most _ _ _ c.put_number-start.ensures.0, c.put_field-second.ensures.0, c.put_field-region.ensures.0)

pub returns-then-copy-eq1 : goal.returns-then-copy-eq1
returns-then-copy-eq1 c =
    let a = c.args in
    let t = c.put_text.ensures in (
      omega (arith, number_most _ _ _ c.put_number-start.ensures.0, c.put_field-second.ensures.0, c.put_field-region.ensures.0, t.0),
      whole_copy a.copy.now _ (number_put _ _ _ c.put_number-start.ensures) c.put_field-second.ensures.1 c.put_field-region.ensures.1 c.if-copy-eq1.true
          (text_put _ _ (44 ∷ 45 ∷ 44 ∷ 45 ∷ 44 ∷ 45 ∷ 44 ∷ 45 ∷ 10 ∷ []) t),
    )

pub put_box-requires : goal.put_box-requires
put_box-requires c = omega (arith, number_most _ _ _ c.put_number-start.ensures.0, c.put_field-second.ensures.0, c.put_field-region.ensures.0)

pub returns : goal.returns
returns c =
    let a = c.args in
    let t = c.put_box.ensures in (
      omega (arith, number_most _ _ _ c.put_number-start.ensures.0, c.put_field-second.ensures.0, c.put_field-region.ensures.0, t.0),
      part_copy a.copy.now _ (number_put _ _ _ c.put_number-start.ensures) c.put_field-second.ensures.1 c.put_field-region.ensures.1 c.if-copy-eq1.false t.1,
    )
