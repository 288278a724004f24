-- Rule: Tile edges by table (02, W-204): a table for each block edge, indexed by extent over 32 rounded up, with 513 entries from 0 to 512.
use Rattle.std.specs.Prelude.{ℕ, ◌+◌, ◌*◌, ◌%◌, ◌≤◌, ◌<◌, max, Bool, ◌||◌, List, [], ◌∷◌, ◌≡◌, eqb, length, get_or}
use Rattle.base_blocks.specs.Lists.{ceil_div, listed, all, tests}
use Rattle.grid_axes.specs.declared.axis.Axis.{Axis}
use Rattle.grid_axes.specs.Axes.{tile_edge}
use Rattle.grid_axes.specs.AxisConstants.{edge_entries, max_tiles_per_axis, min_tile_texels}

-- the block edges that have a table
abbrev pub has_table : ℕ → Bool
has_table block = eqb block 1 || eqb block 4

-- what entry k is to be: the larger of 16 and k, raised to a multiple of the block edge
unfoldable pub edge_at : ℕ → ℕ → ℕ
edge_at block k = ceil_div (max min_tile_texels k) block * block

-- what stands at entry k of a table
unfoldable pub entry_of : List ℕ → ℕ → ℕ
entry_of table k = get_or table k 0

-- the rule over a whole table: so many entries, and each of them is so
unfoldable pub is_edge_table : ℕ → List ℕ → Bool
is_edge_table block table =
    tests (eqb (length table) edge_entries ∷ all (λ (k : ℕ). eqb (entry_of table k) (edge_at block k)) (listed (λ (k : ℕ). k) 0 edge_entries) ∷ [])

-- where a table has the edge of an axis of that many texels: at extent over 32 rounded up
unfoldable pub edge_index : ℕ → ℕ
edge_index extent = ceil_div extent max_tiles_per_axis

-- the axis with that edge
unfoldable pub axis_in : List ℕ → ℕ → Axis
axis_in table extent = record { extent = extent; edge = entry_of table (edge_index extent) }

-- what the rule over a whole table gives at each extent and at each entry: the edge is 01's; it is a whole number of blocks, at least the larger of 16 and
-- the entry's number, and less than a block above it
pub record TableClaims (block : ℕ) (table : List ℕ) : Type 0 where
  pub edge : (extent : ℕ) → extent ≤ 16384 → entry_of table (edge_index extent) ≡ tile_edge extent block
  pub multiple : (k : ℕ) → k < edge_entries → entry_of table k % block ≡ 0
  pub least : (k : ℕ) → k < edge_entries → max min_tile_texels k ≤ entry_of table k
  pub bound : (k : ℕ) → k < edge_entries → entry_of table k < max min_tile_texels k + block
