-- `put_spare` meets its contract. Assumes nothing.
use mathlib.Core.Path.{sym, ap}
use mathlib.Core.List.{[], ◌∷◌}
use Rattle.base_digits.specs.Digits.{digits_of}
use Rattle.pool_rules.specs.declared.held.Held.{Held}
use Rattle.event_answers.specs.Printed.{accepted_row, held_field}
use Rattle.base_digits.proofs.Puts.{put_as, text_put}
use Rattle.event_answers.proofs.Answering.{show_unknown}
use Rattle.event_answers.proofs.output.put_spare.Goals as goal

pub returns-in-Known : goal.returns-in-Known
unfolding held_field
returns-in-Known c =
    let a = c.args in
    put_as (ap (λ (h : Held). accepted_row a.number (digits_of a.view ∷ held_field h ∷ [])) (sym c.in-Known.is)) c.put_pair.ensures

pub returns : goal.returns
unfolding held_field
returns c =
    let a = c.args in
    put_as (ap (λ (h : Held). accepted_row a.number (digits_of a.view ∷ held_field h ∷ [])) (sym c.in_default.is))
    (show_unknown _ _ c.put_accepted-start.ensures.1 c.put_field-second.ensures.1 (text_put _ _ (44 ∷ 45 ∷ 10 ∷ []) c.put_text.ensures))
