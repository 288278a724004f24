-- Helper: The textures as the test goes over them: a condition a pass over the lent slices, where `is_pool` reads the states that they stand for.
-- That both say the same is a law; a reader of `is_pool` needs none of this.
use Rattle.std.specs.Prelude.{ℕ, ◌+◌, ◌*◌, ◌%◌, ◌≡◌, Bool, true, ◌&&◌, List, [], ◌∷◌, leb, eqb, length, drop, get_or}
use Rattle.base_blocks.specs.Lists.{all, listed, total, ascending, tests}
use Rattle.base_tables.specs.Records.{record_at}
use Rattle.grid_shapes.specs.declared.shape.VersionShape.{VersionShape}
use Rattle.grid_shapes.specs.Shapes.{is_shape}
use Rattle.grid_stamps.specs.declared.grid.Tiling.{Tiling}
use Rattle.grid_axes.specs.EdgeTables.{is_edge_table}
use Rattle.grid_stamps.specs.Grids.{StampGrid, grid_in, tiling_of}
use Rattle.pool_rules.specs.Model.{Spare, limit, grid_count}
use Rattle.pool_rules.specs.HistorySizes.{grid_places, grid_start, history_size}
use Rattle.pool_rules.specs.RuleConstants.{grid_stride}
use Rattle.pool_records.specs.Recorded.{Recorded}
use Rattle.std.specs.Prelude.{Some, None}
use Rattle.pool_records.specs.declared.texture.TextureRecord.{TextureRecord}
use Rattle.pool_records.specs.declared.tiling.GridTiling.{GridTiling}
use Rattle.pool_records.specs.Spare.{read_spare}
use Rattle.pool_records.specs.Views.{spare_of}
use Rattle.pool_records.specs.Find.{id_of}
use Rattle.pool_records.specs.Tilings.{tiling_number}
use Rattle.pool_memory.specs.declared.pool.Pool.{Pool}
use Rattle.pool_memory.specs.IsPool.{bytes_hold, is_grid, is_spare}
use Rattle.pool_records.specs.RecordConstants.{spare_stride}
use Rattle.pool_records.specs.Texture.{record_grids, record_stamps, record_spares, record_bytes, textures_in}

-- ---- textures

abbrev pub writes_fit : Recorded → Bool
writes_fit (Some n) = leb n limit
writes_fit None = true

-- what a texture's record says by itself: the shape passes 2; counts and submissions are at most 2^48; the bytes are those of the shape
unfoldable pub is_record : TextureRecord → Bool
is_record t = tests (
    is_shape t.shape ∷ leb t.epoch limit ∷ leb t.birth limit ∷ leb t.rename limit ∷ leb t.due limit ∷ writes_fit t.history
    ∷ bytes_hold t ∷ [])

unfoldable pub model_spare_at : List ℕ → ℕ → Spare ℕ
model_spare_at spares k = spare_of (record_at spare_stride read_spare spares k)

-- ---- histories

-- the tables of tile edges, for blocks of 1 texel and of 4
abbrev pub BothTables : List ℕ → List ℕ → Type 0
BothTables one four = (is_edge_table 1 one ≡ true) × (is_edge_table 4 four ≡ true)

-- the k-th grid of a history whose numbers of `newest` and whose stamps are just these
unfoldable pub own_grid : VersionShape → List ℕ → List ℕ → ℕ → StampGrid
own_grid s newest stamps k = grid_in (tiling_of s (k % s.levels)) (get_or newest (grid_stride * k) 0) (drop (grid_start s k) stamps)

-- its tiling stands beside its newest stamp
unfoldable pub own_tiling : VersionShape → List ℕ → ℕ → Bool
own_tiling s newest k = eqb (get_or newest (grid_stride * k + 1) 0) (tiling_number s k)

-- what stands for a grid of this tiling, whose stamps begin at `start`
abbrev pub axes_tiling : ℕ → Tiling → GridTiling
axes_tiling start g = record { start = start; across = g.across.edge; down = g.down.edge }

-- they are as many as the shape has, every grid passes, and so does what stands beside its newest stamp
unfoldable pub grids_fit : VersionShape → ℕ → List ℕ → List ℕ → Bool
grids_fit s writes newest stamps = tests (
    eqb (length newest) (grid_stride * grid_count s)
    ∷ eqb (length stamps) (history_size s)
    ∷ all (is_grid writes) (listed (own_grid s newest stamps) 0 (grid_count s))
    ∷ all (own_tiling s newest) (grid_places s) ∷ [])

-- without a history there are none
abbrev pub history_fits : VersionShape → Recorded → List ℕ → List ℕ → Bool
history_fits s (Some n) newest stamps = grids_fit s n newest stamps
history_fits s None newest stamps = eqb (length newest) 0 && eqb (length stamps) 0

-- the k-th grid of a history whose numbers of `newest` begin at `grid` and whose stamps at `stamp`
unfoldable pub grid_from : List ℕ → List ℕ → VersionShape → ℕ → ℕ → ℕ → StampGrid
grid_from newest stamps s grid stamp k = grid_in (tiling_of s (k % s.levels)) (get_or newest (grid + grid_stride * k) 0) (drop (stamp + grid_start s k) stamps)

unfoldable pub tiling_from : List ℕ → VersionShape → ℕ → ℕ → Bool
tiling_from newest s grid k = eqb (get_or newest (grid + grid_stride * k + 1) 0) (tiling_number s k)

abbrev pub grids_hold : List ℕ → List ℕ → VersionShape → ℕ → ℕ → Recorded → Bool
grids_hold newest stamps s grid stamp (Some n) =
    all (is_grid n) (listed (grid_from newest stamps s grid stamp) 0 (grid_count s)) && all (tiling_from newest s grid) (grid_places s)
grids_hold newest stamps s grid stamp None = true

-- the grids of a record's history pass with their tilings, where it says that they begin
unfoldable pub history_holds : List ℕ → List ℕ → TextureRecord → Bool
history_holds newest stamps t = grids_hold newest stamps t.shape t.grid t.stamp t.history

-- a run begins where it says, and ends among those in use
unfoldable pub run_fits : ℕ → ℕ → ℕ → ℕ → Bool
run_fits start at end used = tests (eqb start at ∷ leb at end ∷ leb end used ∷ [])

-- each texture's history begins where the one before it ends, and the last ends with what is in use
unfoldable pub histories_fit : List ℕ → List ℕ → ℕ → ℕ → ℕ → ℕ → List TextureRecord → Bool
histories_fit newest stamps grids used grid stamp [] = eqb grid grids && eqb stamp used
histories_fit newest stamps grids used grid stamp (t ∷ ts) = tests (
    eqb t.grid grid
    ∷ eqb t.stamp stamp
    ∷ history_holds newest stamps t
    ∷ histories_fit newest stamps grids used (grid + record_grids t) (stamp + record_stamps t) ts ∷ [])

-- the textures, their spares and their histories
unfoldable pub textures_fit : Pool → List ℕ → List ℕ → List ℕ → List ℕ → Bool
textures_fit pool slice spares newest stamps =
    let ts = textures_in pool.tracked slice in
    tests (
    ascending id_of ts
    ∷ all is_record ts
    ∷ eqb pool.kept (total record_spares ts)
    ∷ all is_spare (listed (model_spare_at spares) 0 pool.kept)
    ∷ eqb pool.parked (total record_bytes ts)
    ∷ histories_fit newest stamps pool.grids pool.stamps 0 0 ts ∷ [])
