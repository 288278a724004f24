-- Helper: The parts that the test goes by. They read the lent slices directly, where `is_pool` reads the pool that they stand for.
-- That both say the same is a law; a reader of `is_pool` needs none of this.
use Rattle.std.specs.Prelude.{ℕ, ◌+◌, Bool, List, [], ◌∷◌, leb, ltb, eqb}
use Rattle.base_blocks.specs.Lists.{all, listed, tests}
use Rattle.base_tables.specs.Rings.{along}
use Rattle.pool_rules.specs.Model.{Retiring, Doomed, limit, doomed_bytes}
use Rattle.pool_records.specs.Retiring.{read_retiring}
use Rattle.pool_records.specs.Doomed.{read_doomed}
use Rattle.pool_records.specs.Views.{retiring_of, doomed_of}
use Rattle.pool_memory.specs.declared.pool.Pool.{Pool}
use Rattle.pool_memory.specs.declared.book.PacingBook.{PacingBook}
use Rattle.pool_memory.specs.IsPool.{is_retiring, is_doomed, is_arrival}
use Rattle.pool_records.specs.RecordConstants.{doomed_stride, retiring_stride}
use Rattle.pool_rules.specs.RuleConstants.{destroy_spread_drains}

-- ---- counts

-- the counts fit the places
unfoldable pub places_hold : Pool → ℕ → ℕ → ℕ → ℕ → Bool
places_hold pool places versions grids stamps = tests (
    leb pool.tracked places
    ∷ ltb pool.head versions
    ∷ ltb pool.first versions
    ∷ leb pool.popped 1
    ∷ leb (pool.queued + pool.popped + pool.kept + pool.doomed) versions
    ∷ leb pool.grids grids
    ∷ leb pool.stamps stamps ∷ [])

-- ---- rings

unfoldable pub retiring_at : ℕ → ℕ → List ℕ → ℕ → Retiring ℕ
retiring_at cap head retiring k = retiring_of (along retiring_stride read_retiring cap head retiring k)

-- the popped version, if there is one, and the queue
unfoldable pub retiring_fit : ℕ → ℕ → ℕ → List ℕ → Bool
retiring_fit cap head n retiring = all is_retiring (listed (retiring_at cap head retiring) 0 n)

unfoldable pub doomed_at : ℕ → ℕ → List ℕ → ℕ → Doomed ℕ
doomed_at cap first doomed k = doomed_of (along doomed_stride read_doomed cap first doomed k)

-- the destroy queue and its bytes
unfoldable pub doomed_fit : ℕ → ℕ → ℕ → ℕ → List ℕ → Bool
doomed_fit cap first n bytes doomed =
    let ds = listed (doomed_at cap first doomed) 0 n in
    tests (all is_doomed ds ∷ eqb bytes (doomed_bytes ds) ∷ [])

unfoldable pub rings_fit : Pool → ℕ → List ℕ → List ℕ → Bool
rings_fit pool versions retiring doomed = tests (
    retiring_fit versions pool.head (pool.popped + pool.queued) retiring
    ∷ doomed_fit versions pool.first pool.doomed pool.dooming doomed ∷ [])

-- ---- numbers

unfoldable pub numbers_fit : Pool → PacingBook → Bool
numbers_fit pool book = tests (
    leb pool.trackings limit
    ∷ leb pool.parked pool.cap
    ∷ ltb book.slot destroy_spread_drains
    ∷ leb book.pressed 1
    ∷ leb pool.since pool.doomed
    ∷ all is_arrival book.arrivals ∷ [])
