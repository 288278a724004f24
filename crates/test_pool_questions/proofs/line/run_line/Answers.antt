-- Once opened, the stores form a pool after each of the three sorts of lines. Assumes nothing.
use borrow.Author.Rules.{rules}
use Rattle.test_pool_questions.proofs.Holds.{begun_holds, event_holds}
use Rattle.test_pool_questions.proofs.line.run_line.Goals as goal

pub returns-then-is_word-clause-holds : goal.returns-then-is_word-clause-holds
returns-then-is_word-clause-holds c = (begun_holds _ _ _ _ _ _ _ c.fresh.ensures, search rules)

pub returns-clause-holds : goal.returns-clause-holds
returns-clause-holds c = (event_holds _ _ _ _ _ _ c.answer_event-answered.ensures.answered.1 c.requires, search rules)
