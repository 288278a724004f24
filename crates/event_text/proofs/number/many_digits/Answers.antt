-- `many_digits` meets its contract. Assumes nothing.
use mathlib.Core.Path.{◌∙◌}
use Rattle.event_text.specs.Numbers.{StartsDigits}
use Rattle.event_text.proofs.number.many_digits.Goals as goal

pub rest_digits-requires : goal.rest_digits-requires
unfolding StartsDigits
rest_digits-requires c =
    let s = c.sixteen_digits-start.ensures in
    (s.0, s.1, s.2, s.3)

pub returns : goal.returns
unfolding StartsDigits
returns c = c.rest_digits.ensures ∙ c.sixteen_digits-start.ensures.4
