-- Helper: A texture that is renamed, as the lent slices have it: its record, and its newest spare taken if it has one.
use Rattle.std.specs.Prelude.{ℕ, ◌+◌, ◌*◌, ◌-◌, ◌≤◌, ◌<◌, cond, List, eqb, length}
use Rattle.std.proofs.Math.Option.{Option, none, some}
use Rattle.std.proofs.lemmas.List.Edits.{sets}
use Rattle.base_blocks.specs.Blocks.{moved}
use Rattle.base_tables.specs.Records.{record_at}
use Rattle.pool_rules.specs.RuleConstants.{most_places}
use Rattle.pool_records.specs.declared.texture.TextureRecord.{TextureRecord}
use Rattle.pool_records.specs.declared.spare.SpareRecord.{SpareRecord}
use Rattle.pool_records.specs.RecordConstants.{spare_stride, texture_stride}
use Rattle.pool_records.specs.Recorded.{RecordedFits}
use Rattle.pool_records.specs.Spare.{read_spare}
use Rattle.pool_records.specs.Texture.{write_texture, texture_in, spares_to}
use Rattle.pool_memory.specs.declared.pool.Pool.{Pool}
use Rattle.pool_memory.specs.declared.answer.TakenVersion.{TakenVersion}
use Rattle.pool_memory.specs.Calls.{Told, answer}

-- its record after the rename: `left` spares are left
abbrev pub renamed_record : ℕ → ℕ → TextureRecord → TextureRecord
renamed_record seq left t = record t { rename = seq; spares = left }

-- what is asked: texture i and its spares are there, and their bytes are part of the parked ones
pub record NewestFits (pool : Pool) (textures spares : List ℕ) (i : ℕ) : Type 0 where
  pub place : texture_stride * i + texture_stride ≤ length textures
  pub history : RecordedFits (texture_in textures i).history
  pub within : spares_to textures i + (texture_in textures i).spares ≤ pool.kept
  pub most : pool.kept ≤ most_places
  pub room : spare_stride * pool.kept ≤ length spares
  pub one : 0 < (texture_in textures i).spares → (texture_in textures i).bytes ≤ pool.parked

-- the counts with a spare of those bytes less
abbrev pub one_taken : Pool → ℕ → Pool
one_taken c bytes = record c { kept = c.kept - 1; parked = c.parked - bytes }

-- the textures' slice with the record renamed, one spare less if it had one
abbrev pub renamed_at : List ℕ → ℕ → ℕ → List ℕ
renamed_at textures i seq = sets textures (texture_stride * i) (write_texture (renamed_record seq ((texture_in textures i).spares - 1) (texture_in textures i)))

-- where its newest spare stands
abbrev pub newest_at : List ℕ → ℕ → ℕ
newest_at textures i = spares_to textures i + ((texture_in textures i).spares - 1)

abbrev pub spare_at : List ℕ → ℕ → SpareRecord
spare_at spares k = record_at spare_stride read_spare spares k

-- ---- what is answered, and the counts, the textures and the spares after it

abbrev pub none_taken : Pool → List ℕ → List ℕ → ℕ → ℕ → Told (Option TakenVersion) × (Pool × (List ℕ × List ℕ))
none_taken pool textures spares i seq = (answer none, (pool, (renamed_at textures i seq, spares)))

abbrev pub spare_taken : Pool → List ℕ → List ℕ → ℕ → ℕ → Told (Option TakenVersion) × (Pool × (List ℕ × List ℕ))
spare_taken pool textures spares i seq =
    let k = newest_at textures i in (
      answer (some (record { view = (spare_at spares k).view; held = (spare_at spares k).held })),
      (
        one_taken pool (texture_in textures i).bytes,
        (renamed_at textures i seq, moved spares (spare_stride * k) (spare_stride * k + spare_stride * 1) (spare_stride * (pool.kept - (k + 1)))),
      ),
    )

unfoldable pub newest_taken : Pool → List ℕ → List ℕ → ℕ → ℕ → Told (Option TakenVersion) × (Pool × (List ℕ × List ℕ))
newest_taken pool textures spares i seq = cond (eqb (texture_in textures i).spares 0) (none_taken pool textures spares i seq) (spare_taken pool textures spares i seq)
