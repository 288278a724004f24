-- Helper: The place of an id among textures in ascending id, and whether a texture with it stands there.
use Rattle.std.specs.Prelude.{ℕ, suc, Bool, cond, ◌&&◌, List, [], ◌∷◌, ltb, eqb}
use Rattle.pool_records.specs.declared.texture.TextureRecord.{TextureRecord}
use Rattle.pool_records.specs.Texture.{texture_in}

abbrev pub id_of : TextureRecord → ℕ
id_of t = t.id

-- how many stand before the first whose id is not below this one
unfoldable pub below : ℕ → List TextureRecord → ℕ
below id [] = 0
below id (t ∷ ts) = cond (ltb t.id id) (suc (below id ts)) 0

-- record i, where a search among n ended, is there and has the id
abbrev pub has_id : List ℕ → ℕ → ℕ → ℕ → Bool
has_id textures n i id = ltb i n && eqb (id_of (texture_in textures i)) id
