-- The answers that are put here have no entries. Assumes nothing.
use native.Mathlib.Omega.{arith}
use Rattle.test_pool_steps.proofs.Entries.{no_entries}
use Rattle.test_pool_steps.proofs.reply.put_event.Goals as goal

pub put_answer-requires : goal.put_answer-requires
put_answer-requires c =
    let a = c.args in
    let none = no_entries a.answer c.in_default.not-Views c.in_default.not-Copies a.copies.now a.views.now in
    (omega (arith, none.0, c.requires), none.1)
