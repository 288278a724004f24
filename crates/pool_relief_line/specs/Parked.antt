-- Helper: The parking numbers of spares as they stand in their slice, and what they sum up to.
use Rattle.std.specs.Prelude.{ℕ, ◌+◌, ◌*◌, ◌≤◌, ◌<◌, ◌≡◌, List, [], ◌∷◌, length}
use Rattle.base_blocks.specs.Lists.{listed, total}
use Rattle.base_tables.specs.Records.{record_at}
use Rattle.grid_shapes.specs.Shapes.{bytes_of}
use Rattle.pool_records.specs.declared.texture.TextureRecord.{TextureRecord}
use Rattle.pool_records.specs.Texture.{texture_in, textures_in, record_spares, record_bytes}
use Rattle.pool_records.specs.Spare.{read_spare}
use Rattle.pool_relief_line.specs.Line.{count_before}
use Rattle.pool_records.specs.RecordConstants.{spare_stride, texture_stride}
use Rattle.grid_shapes.specs.ShapeConstants.{most_shape_bytes}
use Rattle.pool_rules.specs.RuleConstants.{most_places}

unfoldable pub parked_at : List ℕ → ℕ → ℕ
parked_at spares k = (record_at spare_stride read_spare spares k).parked

-- of the n spares from place `from` on
unfoldable pub parkings : List ℕ → ℕ → ℕ → List ℕ
parkings spares from n = listed (parked_at spares) from n

-- bytes of the spares parked before a line, of textures whose spares begin at place `from`
unfoldable pub bytes_from : List ℕ → ℕ → ℕ → List TextureRecord → ℕ
bytes_from spares line from [] = 0
bytes_from spares line from (t ∷ ts) =
    bytes_of t.shape * count_before line (parkings spares from t.spares) + bytes_from spares line (from + t.spares) ts

-- the record has the bytes of one version of its shape, as the records of a pool do
abbrev pub HasBytes : TextureRecord → Type 0
HasBytes t = t.bytes ≡ bytes_of t.shape

-- the most bytes that all versions together can have: 2^56
abbrev pub most_version_bytes : ℕ
most_version_bytes = most_shape_bytes * most_places

-- n textures and their spares, as far as they are counted: they are there, and as few as there may be places for
pub record Countable (textures : List ℕ) (n : ℕ) (spares : List ℕ) : Type 0 where
  pub fits : texture_stride * n ≤ length textures
  pub runs : spare_stride * total record_spares (textures_in n textures) ≤ length spares
  pub recorded : (i : ℕ) → i < n → HasBytes (texture_in textures i)
  pub few : total record_spares (textures_in n textures) ≤ most_places
  pub bytes : total record_bytes (textures_in n textures) ≤ most_version_bytes
