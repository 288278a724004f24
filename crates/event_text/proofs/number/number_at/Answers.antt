-- `number_at` meets its contract: the digits that the field starts with are all of it, or it is no number. Assumes nothing.
use mathlib.Core.Path.{sym, ◌∙◌}
use Rattle.event_text.proofs.Leading.{field_none, field_ends, field_other, at_end, inside_same}
use Rattle.event_text.proofs.number.number_at.Goals as goal

pub returns-in_err-read : goal.returns-in_err-read
returns-in_err-read c = c.from_residual.ensures ∙ sym (field_none _ _ (sym c.digits_at.ensures ∙ c.in_err-read.was))

pub returns-then-line-read : goal.returns-then-line-read
returns-then-line-read c = field_ends _ _ _ _ (sym c.digits_at.ensures ∙ c.in_ok-read.was) (at_end c.args.line.now _ c.if-line-read.true)

pub returns-then-line-read-eq44 : goal.returns-then-line-read-eq44
returns-then-line-read-eq44 c = field_ends _ _ _ _ (sym c.digits_at.ensures ∙ c.in_ok-read.was) (inside_same c.args.line.now _ c.if-line-read.false ∙ c.if-line-read-eq44.true)

pub returns : goal.returns
returns c = field_other _ _ _ _ (sym c.digits_at.ensures ∙ c.in_ok-read.was) (λ e. c.if-line-read-eq44.false (sym (inside_same c.args.line.now _ c.if-line-read.false) ∙ e))
