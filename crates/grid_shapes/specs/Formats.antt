-- Rule: Stand-in for the pixel formats and their block layouts (01, "Levels, tiles, shapes").
use Rattle.std.specs.Prelude.{ℕ, List, [], ◌∷◌, get_or}

abbrev pub block_edges : List ℕ
block_edges = 1 ∷ 1 ∷ 1 ∷ 1 ∷ 1 ∷ 4 ∷ 4 ∷ 1 ∷ 1 ∷ []

abbrev pub bytes_per_block : List ℕ
bytes_per_block = 1 ∷ 2 ∷ 4 ∷ 8 ∷ 16 ∷ 8 ∷ 16 ∷ 4 ∷ 8 ∷ []

-- texels along a block's side: formats 5 and 6 have blocks of 4 by 4 texels, the others of 1 by 1
unfoldable pub block_edge : ℕ → ℕ
block_edge format = get_or block_edges format 1

-- bytes of a block, of the formats 0 to 8; 7 is Depth32Float, 8 Depth32FloatStencil8
unfoldable pub block_bytes : ℕ → ℕ
block_bytes format = get_or bytes_per_block format 0
