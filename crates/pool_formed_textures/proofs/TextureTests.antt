-- The textures' conditions together. Assumes nothing.
use mathlib.Core.Path.{◌≡◌, sym, ◌∙◌}
use mathlib.Core.Bool.{true, false}
use mathlib.Core.List.{List}
use Prim.Native.Nat.{ℕ}
use borrow.Author.Tests.{eq-eqb, ne_eqb, eqb-true}
use lib.Dec.{eqb}
use Rattle.base_blocks.specs.Lists.{all, total, ascending, listed, tests, after}
use Rattle.pool_records.specs.declared.texture.TextureRecord.{TextureRecord}
use Rattle.pool_records.specs.Find.{id_of}
use Rattle.pool_memory.specs.declared.pool.Pool.{Pool}
use Rattle.pool_memory.specs.IsPool.{is_spare}
use Rattle.pool_formed_textures.specs.Textures.{is_record, model_spare_at, histories_fit, textures_fit}
use Rattle.pool_records.specs.Texture.{record_spares, record_bytes, textures_in}

pub claimed_spares : (ts : List TextureRecord) (kept : ℕ) → eqb kept (total record_spares ts) ≡ true → total record_spares ts ≡ kept
claimed_spares ts kept e = sym (eqb-true kept (total record_spares ts) e)

pub parked_other : (parked sum n : ℕ) → sum ≡ n → (parked ≡ sum → ⊥) → eqb parked n ≡ false
parked_other parked sum n e h = ne_eqb parked n (λ q. h (q ∙ sym e))

pub textures_last : (pool : Pool) (slice spares newest stamps : List ℕ) → ascending id_of (textures_in pool.tracked slice) ≡ true
    → all is_record (textures_in pool.tracked slice) ≡ true → eqb pool.kept (total record_spares (textures_in pool.tracked slice)) ≡ true
    → all is_spare (listed (model_spare_at spares) 0 pool.kept) ≡ true → pool.parked ≡ total record_bytes (textures_in pool.tracked slice)
    → histories_fit newest stamps pool.grids pool.stamps 0 0 (textures_in pool.tracked slice) ≡ textures_fit pool slice spares newest stamps
unfolding textures_fit tests after
textures_last pool slice spares newest stamps i r c s p = sym (rw (i, r, c, s, eq-eqb pool.parked (total record_bytes (textures_in pool.tracked slice)) p))
