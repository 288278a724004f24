-- `put_words` meets its contract. Assumes nothing.
use native.Mathlib.Omega.{arith}
use Rattle.base_digits.proofs.Puts.{put_then, text_put, number_put, number_most}
use Rattle.event_answers.proofs.row.put_words.Goals as goal

pub put_text-requires : goal.put_text-requires
put_text-requires c = omega (arith, number_most _ _ _ c.put_number-start.ensures.0)

pub returns : goal.returns
returns c =
    let a = c.args in
    put_then (number_put _ _ _ c.put_number-start.ensures) (text_put _ _ a.words.now c.put_text.ensures)
