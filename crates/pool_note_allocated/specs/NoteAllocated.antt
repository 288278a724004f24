-- Helper: The pool after a relief of `excess` bytes, as the lent slices have it.
use Rattle.std.specs.Prelude.{ℕ, ◌+◌, ◌-◌, ◌≡◌, eqb, take}
use mathlib.Core.List.{List, flat_map}
use Rattle.grid_shapes.specs.Shapes.{bytes_of}
use Rattle.pool_rules.specs.Model.{Doomed, VersionState, PoolModel, doomed_bytes}
use Rattle.pool_rules.specs.Updates.{as_doomed}
use Rattle.pool_rules.specs.NoteAllocated.{pressed_after, count_of, picked_in, relieved}
use Rattle.pool_memory.specs.declared.pool.Pool.{Pool as Counts}
use Rattle.pool_memory.specs.declared.book.PacingBook.{PacingBook}
use Rattle.pool_memory.specs.Lent.{Lent}
use Rattle.pool_memory.specs.Reading.{model_of}
use Rattle.pool_memory.specs.Writing.{textures_after, doomed_after, spares_after, pool_after, mark_of}

abbrev pub relieved_pool : ℕ → Lent → PoolModel ℕ
relieved_pool excess l = relieved (picked_in excess (model_of l)) (model_of l)

-- what it sends to the destroy queue
abbrev pub spares_given : ℕ → Lent → List (Doomed ℕ)
spares_given excess l =
    flat_map (λ (t : VersionState ℕ). as_doomed (bytes_of t.shape) (take (count_of t.id (picked_in excess (model_of l))) t.spares)) (model_of l).textures

-- what relief leaves: `kept` spares, the slices as they are then, and the bytes of the spares given up
pub record Relieves (l : Lent) (excess kept bytes : ℕ) (textures doomed spares : List ℕ) : Type 0 where
  pub count : kept ≡ (pool_after (relieved_pool excess l) l).kept
  pub sum : bytes ≡ doomed_bytes (spares_given excess l)
  pub records : textures ≡ textures_after (relieved_pool excess l) l
  pub ring : doomed ≡ doomed_after (relieved_pool excess l) l
  pub runs : spares ≡ spares_after (relieved_pool excess l) l

-- the counts when `kept` spares are left, and `bytes` bytes went to the destroy queue
abbrev pub counts_relieved : Counts → ℕ → ℕ → Counts
counts_relieved c kept bytes = record c { kept = kept; doomed = c.doomed + (c.kept - kept); since = c.since + (c.kept - kept); parked = c.parked - bytes; dooming = c.dooming + bytes }

-- the book with the mark and the excess of `allocated` bytes
abbrev pub noted_book : Counts → PacingBook → ℕ → PacingBook
noted_book c b allocated =
    record b { pressed = mark_of (pressed_after (record { cap = c.cap; line = c.line }) allocated (eqb b.pressed 1)); excess = allocated - c.line }
