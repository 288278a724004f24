-- Rule: A texture's record: twenty-two numbers, of which the second to the thirteenth are the shape and the last three are the bytes of one version
-- of it and where its history's grids begin: the first of them in `newest`, and the first of their stamps.
use Rattle.std.specs.Prelude.{ℕ, ◌*◌, List, [], ◌∷◌, ◌++◌, get_or}
use Rattle.base_blocks.specs.Lists.{total}
use Rattle.base_tables.specs.Records.{record_at, table}
use Rattle.grid_shapes.specs.declared.shape.VersionShape.{VersionShape}
use Rattle.grid_shapes.specs.Shapes.{bytes_of}
use Rattle.pool_records.specs.declared.texture.TextureRecord.{TextureRecord}
use Rattle.pool_records.specs.RecordConstants.{texture_stride}
use Rattle.pool_records.specs.Recorded.{Recorded, recorded_of, recorded_number}
use Rattle.pool_rules.specs.Model.{grid_count}
use Rattle.pool_rules.specs.RuleConstants.{grid_stride}
use Rattle.pool_rules.specs.HistorySizes.{history_size}
use Rattle.std.specs.Prelude.{Some, None}

abbrev pub shape_in : List ℕ → VersionShape
shape_in s = record {
  format = get_or s 1 0;
  width = get_or s 2 0;
  height = get_or s 3 0;
  depth = get_or s 4 0;
  levels = get_or s 5 0;
  kind = get_or s 6 0;
  storage = get_or s 7 0;
  usage = get_or s 8 0;
  red = get_or s 9 0;
  green = get_or s 10 0;
  blue = get_or s 11 0;
  alpha = get_or s 12 0;
}

abbrev pub shape_numbers : VersionShape → List ℕ
shape_numbers s =
    s.format ∷ s.width ∷ s.height ∷ s.depth ∷ s.levels ∷ s.kind ∷ s.storage ∷ s.usage ∷ s.red ∷ s.green ∷ s.blue ∷ s.alpha ∷ []

unfoldable pub read_texture : List ℕ → TextureRecord
read_texture s = record {
  id = get_or s 0 0;
  shape = shape_in s;
  epoch = get_or s 13 0;
  history = recorded_of (get_or s 14 0);
  birth = get_or s 15 0;
  rename = get_or s 16 0;
  due = get_or s 17 0;
  spares = get_or s 18 0;
  bytes = get_or s 19 0;
  grid = get_or s 20 0;
  stamp = get_or s 21 0;
}

unfoldable pub write_texture : TextureRecord → List ℕ
write_texture x =
    x.id ∷ (shape_numbers x.shape ++ (x.epoch ∷ recorded_number x.history ∷ x.birth ∷ x.rename ∷ x.due ∷ x.spares ∷ x.bytes ∷ x.grid ∷ x.stamp ∷ []))

-- record i of the textures' slice, and the first n
abbrev pub texture_in : List ℕ → ℕ → TextureRecord
texture_in s i = record_at texture_stride read_texture s i

abbrev pub textures_in : ℕ → List ℕ → List TextureRecord
textures_in n s = table texture_stride read_texture n s

abbrev pub recorded_grids : Recorded → VersionShape → ℕ
recorded_grids None s = 0
recorded_grids (Some n) s = grid_stride * grid_count s

-- how many numbers of `newest` a texture's record claims, two for each of its grids
abbrev pub record_grids : TextureRecord → ℕ
record_grids t = recorded_grids t.history t.shape

-- and how many stamps
abbrev pub recorded_stamps : Recorded → VersionShape → ℕ
recorded_stamps None s = 0
recorded_stamps (Some n) s = history_size s

abbrev pub record_stamps : TextureRecord → ℕ
record_stamps t = recorded_stamps t.history t.shape

-- how many spares it says that the texture has, and the bytes of all of them
abbrev pub record_spares : TextureRecord → ℕ
record_spares t = t.spares

unfoldable pub record_bytes : TextureRecord → ℕ
record_bytes t = bytes_of t.shape * t.spares

-- where the spares of texture i begin
abbrev pub spares_to : List ℕ → ℕ → ℕ
spares_to textures i = total record_spares (textures_in i textures)
