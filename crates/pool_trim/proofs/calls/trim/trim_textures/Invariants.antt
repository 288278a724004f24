-- `trim_textures` meets its contract: the pass goes on texture by texture, and ends with the call's memory. Assumes nothing.
use mathlib.Core.Path.{◌≡◌}
use mathlib.Core.Bool.{true}
use Rattle.pool_memory.specs.declared.book.PacingBook.{PacingBook}
use Rattle.pool_memory.specs.Lent.{lent}
use Rattle.pool_memory.specs.IsPool.{is_pool}
use Rattle.pool_trim.proofs.Sofar.{Sofar}
use Rattle.pool_trim.proofs.calls.trim.trim_textures.Given as goal

abbrev pub invariant-loop-i : goal.invariant-loop-i
invariant-loop-i l =
    (book : PacingBook) → is_pool (lent l.pool book l.initial.textures l.retiring l.initial.doomed l.initial.spares l.initial.newest l.initial.stamps) ≡ true
    → Sofar (lent l.pool book l.initial.textures l.retiring l.initial.doomed l.initial.spares l.initial.newest l.initial.stamps) l.current l.i l.pass l.textures l.doomed l.spares l.newest l.stamps
