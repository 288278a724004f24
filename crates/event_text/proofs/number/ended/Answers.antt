-- `ended` meets its contract. Assumes nothing.
use mathlib.Core.Path.{sym}
use native.Mathlib.Omega.{arith}
use Rattle.event_text.proofs.Numbers.{read_done, read_nothing}
use Rattle.event_text.proofs.number.ended.Goals as goal

pub returns-then-at-end : goal.returns-then-at-end
returns-then-at-end c = sym (read_done _ _ _ c.if-at-end.true (omega arith) c.requires.2)

pub returns : goal.returns
returns c = sym (read_nothing _ _ _ c.if-at-end.false)
