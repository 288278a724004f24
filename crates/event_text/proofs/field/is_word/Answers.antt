-- `is_word` meets its contract: from i on the two are the same where they are the same as a whole. Assumes nothing.
use borrow.Author.Rules.{rules}
use mathlib.Core.Path.{sym, ◌∙◌}
use Rattle.event_text.proofs.Fields.{same_length, same_more, same_stop, same_done, same_all}
use Rattle.event_text.proofs.field.is_word.Goals as goal

pub returns-then-field-word : goal.returns-then-field-word
returns-then-field-word c = sym (same_length _ _ c.if-field-word.true)

pub loop-i-init : goal.loop-i-init
loop-i-init c = (search rules, search rules, same_all _ _)

pub returns-then-field-i : goal.returns-then-field-i
returns-then-field-i c =
    sym (same_stop _ _ _ c.loop-i.invariant.1 c.loop-i-test.true c.if-field-i.true) ∙ c.loop-i.invariant.2

pub loop-i-preserved : goal.loop-i-preserved
loop-i-preserved c =
    (search rules, search rules, sym (same_more _ _ _ c.loop-i.invariant.1 c.loop-i-test.true c.if-field-i.false) ∙ c.loop-i.invariant.2)

pub returns : goal.returns
returns c =
    sym (same_done _ _ _ c.loop-i.invariant.1 c.loop-i-test.false) ∙ c.loop-i.invariant.2
