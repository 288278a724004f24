-- Helper: What a drain hands out, and the counts, the pacing book and the textures' records after it.
use Rattle.std.specs.Prelude.{ℕ, List, ◌++◌, map, replicate}
use Rattle.base_blocks.specs.Lists.{over}
use Rattle.base_tables.specs.Records.{flat}
use Rattle.base_tables.specs.Rings.{place_of}
use Rattle.pool_records.specs.declared.texture.TextureRecord.{TextureRecord}
use Rattle.pool_records.specs.Texture.{write_texture, textures_in}
use Rattle.pool_memory.specs.declared.pool.Pool.{Pool}
use Rattle.pool_memory.specs.declared.book.PacingBook.{PacingBook}
use Rattle.pool_take_doomed.specs.Views.{column}
use Rattle.pool_records.specs.RecordConstants.{doomed_stride, retiring_stride, spare_stride}
use Rattle.pool_rules.specs.RuleConstants.{destroy_spread_drains}

-- the views of the queue, then of the destroy queue, then of the spares
unfoldable pub drained_views : Pool → ℕ → List ℕ → List ℕ → List ℕ → List ℕ
drained_views c places retiring doomed spares =
    column retiring_stride 1 places c.head retiring c.popped c.queued
    ++ (column doomed_stride 0 places c.first doomed 0 c.doomed ++ column spare_stride 0 places 0 spares 0 c.kept)

-- nothing is left but the hand
unfoldable pub drained_counts : Pool → ℕ → Pool
drained_counts c places = record c { kept = 0; queued = 0; first = place_of places c.first c.doomed; doomed = 0; since = 0; parked = 0; dooming = 0 }

-- the arrivals are cleared; slot, mark and excess stay
unfoldable pub drained_book : PacingBook → PacingBook
drained_book b = record b { arrivals = replicate destroy_spread_drains 0 }

-- a texture's record that says it has no spares
abbrev pub spareless : TextureRecord → TextureRecord
spareless t = record t { spares = 0 }

-- the first n records without their spares
unfoldable pub cleared : ℕ → List ℕ → List ℕ
cleared n s = over (flat write_texture (map spareless (textures_in n s))) s
