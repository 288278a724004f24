-- The entries stand in the buffer, and the output has room for them. Assumes nothing.
use native.Mathlib.Omega.{arith}
use Rattle.event_answers.specs.Answers.{entries, InBuffers}
use Rattle.test_pool_steps.proofs.reply.put_copies.Goals as goal

pub put_answer-requires : goal.put_answer-requires
unfolding entries InBuffers
put_answer-requires c = (omega arith, omega arith)
