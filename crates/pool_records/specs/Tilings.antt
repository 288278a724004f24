-- Rule: What stands in `newest` beside a grid's newest stamp: where its stamps begin among those of its history, and its tiles' edges, which are the
-- shape's. A write finds them there and need not add up the levels before its own. The three are packed into one number.
use Rattle.std.specs.Prelude.{ℕ, zero, suc, ◌+◌, ◌*◌, ◌/◌, ◌%◌, ◌<◌, ◌≡◌, List, [], ◌∷◌, get_or}
use Rattle.grid_shapes.specs.declared.shape.VersionShape.{VersionShape}
use Rattle.grid_stamps.specs.Grids.{tiling_of}
use Rattle.pool_rules.specs.Model.{grid_count}
use Rattle.pool_rules.specs.HistorySizes.{grid_start}
use Rattle.pool_rules.specs.RuleConstants.{grid_stride}
use Rattle.pool_records.specs.declared.tiling.GridTiling.{GridTiling}
use Rattle.pool_records.specs.RecordConstants.{start_span, edge_span, down_unit}

-- three numbers in one: the start below 2^17, the edge across from there up to 2^32, the edge down above
unfoldable pub packed_tiling : GridTiling → ℕ
packed_tiling t = t.start + start_span * t.across + down_unit * t.down

unfoldable pub read_tiling : ℕ → GridTiling
read_tiling n = record { start = n % start_span; across = n / start_span % edge_span; down = n / down_unit }

-- such numbers have room there
pub record TilingFits (t : GridTiling) : Type 0 where
  pub start : t.start < start_span
  pub across : t.across < edge_span
  pub down : t.down < edge_span

-- that of a history's k-th grid
unfoldable pub grid_tiling : VersionShape → ℕ → GridTiling
grid_tiling s k = record {
  start = grid_start s k;
  across = (tiling_of s (k % s.levels)).across.edge;
  down = (tiling_of s (k % s.levels)).down.edge;
}

unfoldable pub tiling_number : VersionShape → ℕ → ℕ
tiling_number s k = packed_tiling (grid_tiling s k)

-- what stands for n grids of a new history from the k-th on: no stamp yet, and the tiling
unfoldable pub fresh_from : VersionShape → ℕ → ℕ → List ℕ
fresh_from s k zero = []
fresh_from s k (suc n) = 0 ∷ (tiling_number s k ∷ fresh_from s (suc k) n)

-- what stands for the grid at place p of `newest`
abbrev pub tiling_in : List ℕ → ℕ → GridTiling
tiling_in newest p = read_tiling (get_or newest (p + 1) 0)

-- it has the edges of a level
pub record EdgesAt (newest : List ℕ) (p : ℕ) (s : VersionShape) (level : ℕ) : Type 0 where
  pub across : (tiling_in newest p).across ≡ (tiling_of s level).across.edge
  pub down : (tiling_in newest p).down ≡ (tiling_of s level).down.edge

-- beside the newest stamp of each grid of a history of the shape, whose numbers begin at `grid`, stands its tiling
abbrev pub TilingsAt : List ℕ → ℕ → VersionShape → Type 0
TilingsAt newest grid s = (k : ℕ) → k < grid_count s → get_or newest (grid + grid_stride * k + 1) 0 ≡ tiling_number s k
