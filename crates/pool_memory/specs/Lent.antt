-- Rule: What a caller lends a call: the counts, the pacing book and six slices.
--
--   textures   a record of 22 numbers for each tracked texture, packed in ascending id
--   retiring   a ring of records of 7: the popped version if there is one, then the queue, the oldest first
--   doomed     a ring of records of 2: the destroy queue, the oldest first
--   spares     records of 3, packed texture by texture in ascending id, the oldest first
--   newest     two numbers for each grid in use, the newest of its stamps and its tiling: texture by texture, slice by slice, level by level
--   stamps     each grid's stamps, row by row, packed as `newest` is
--
-- Stamps are lent by pages of 1,024; `newest` is as long as can be used: for 90 grids of each texture place, or one of each stamp, whichever is less.
-- What stands past the counts and outside the rings is free: it is never read.
use Rattle.std.specs.Prelude.{ℕ, ◌/◌, List, length}
use Rattle.pool_memory.specs.declared.pool.Pool.{Pool}
use Rattle.pool_memory.specs.declared.book.PacingBook.{PacingBook}
use Rattle.pool_records.specs.RecordConstants.{retiring_stride}

pub record Lent : Type 0 where
  pub pool : Pool
  pub book : PacingBook
  pub textures : List ℕ
  pub retiring : List ℕ
  pub doomed : List ℕ
  pub spares : List ℕ
  pub newest : List ℕ
  pub stamps : List ℕ

abbrev pub lent : Pool → PacingBook → List ℕ → List ℕ → List ℕ → List ℕ → List ℕ → List ℕ → Lent
lent pool book textures retiring doomed spares newest stamps = record {
  pool = pool;
  book = book;
  textures = textures;
  retiring = retiring;
  doomed = doomed;
  spares = spares;
  newest = newest;
  stamps = stamps;
}

-- ---- what is lent, as a contract names it

-- a lent slice's numbers
abbrev pub Slice : Type 0
Slice = List ℕ

-- in a `requires`
abbrev pub lent_by : Pool → PacingBook → Slice → Slice → Slice → Slice → Slice → Slice → Lent
lent_by pool book textures retiring doomed spares newest stamps =
    lent pool book textures retiring doomed spares newest stamps

-- in an `ensures`: what the slices held when the call was made, with the counts and the book that it was given
abbrev pub at_entry : Pool → PacingBook → Slice → Slice → Slice → Slice → Slice → Slice → Lent
at_entry pool book textures retiring doomed spares newest stamps =
    lent_by pool book textures retiring doomed spares newest stamps

-- what they hold when it returns, with the counts and the book that it answers
abbrev pub at_exit : Pool → PacingBook → Slice → Slice → Slice → Slice → Slice → Slice → Lent
at_exit pool book textures retiring doomed spares newest stamps =
    lent_by pool book textures retiring doomed spares newest stamps

-- how many versions the lent slices have places for
unfoldable pub version_places : Lent → ℕ
version_places l = length l.retiring / retiring_stride
