-- `relieve` meets its contract: each turn one more texture has given what was picked of it. The book is no part of the loop, so the invariant is said
-- of any. Assumes nothing.
use Rattle.pool_memory.specs.declared.book.PacingBook.{PacingBook}
use Rattle.pool_memory.specs.Lent.{lent}
use Rattle.pool_memory.proofs.Fits.{Fits}
use Rattle.pool_note_allocated.proofs.Progress.{Progress}
use Rattle.pool_note_allocated.proofs.relieve.relieve.Given as goal

abbrev pub invariant-loop-i : goal.invariant-loop-i
invariant-loop-i l =
    (book : PacingBook) → Fits (lent l.pool book l.initial.textures l.retiring l.initial.doomed l.initial.spares l.newest l.stamps)
    → Progress (lent l.pool book l.initial.textures l.retiring l.initial.doomed l.initial.spares l.newest l.stamps) l.excess l.line l.i l.from l.kept l.bytes l.sum l.textures l.doomed l.spares
