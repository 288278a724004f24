-- `number_of` meets its contract: a field that ends with s is all of s. Assumes nothing.
use mathlib.Core.Path.{sym, ap, ◌∙◌}
use borrow.Author.Tests.{eq-eqb, ne_eqb}
use Rattle.event_text.proofs.Numbers.{whole_of, number_whole}
use Rattle.event_text.proofs.number.number_of.Goals as goal

pub returns-in_err-read : goal.returns-in_err-read
unfolding whole_of
returns-in_err-read c = c.from_residual.ensures ∙ ap (whole_of _) (sym c.in_err-read.was ∙ c.number_at.ensures) ∙ number_whole _

pub returns-then-read-s : goal.returns-then-read-s
unfolding whole_of
returns-then-read-s c =
    let f = ap (whole_of _) (sym c.in_ok-read.was ∙ c.number_at.ensures) ∙ number_whole _ in
    rw (eq-eqb _ _ c.if-read-s.true) at f

pub returns : goal.returns
unfolding whole_of
returns c =
    let f = ap (whole_of _) (sym c.in_ok-read.was ∙ c.number_at.ensures) ∙ number_whole _ in
    rw (ne_eqb _ _ c.if-read-s.false) at f
