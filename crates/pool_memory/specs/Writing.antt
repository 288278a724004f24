-- Rule: What a call leaves in the lent memory: the pool after it, written over what stood there. Numbers that are free stay as they were.
use Rattle.std.specs.Prelude.{ℕ, suc, ◌+◌, ◌-◌, Bool, true, false, length}
use Rattle.std.proofs.Math.Option.{Option, none, some}
use mathlib.Core.List.{List, [], ◌∷◌, ◌++◌, map, flat_map}
use Rattle.base_blocks.specs.Lists.{over, total}
use Rattle.base_tables.specs.Records.{flat}
use Rattle.base_tables.specs.Rings.{place_of, laid}
use Rattle.grid_shapes.specs.declared.shape.VersionShape.{VersionShape}
use Rattle.grid_shapes.specs.Shapes.{bytes_of}
use Rattle.grid_stamps.specs.Grids.{StampGrid}
use Rattle.pool_rules.specs.Model.{WriteHistory, Spare, Retiring, Doomed, VersionState, PoolModel, hand_count}
use Rattle.pool_rules.specs.HistorySizes.{newest_used, stamps_used}
use Rattle.pool_records.specs.Recorded.{Recorded}
use Rattle.std.specs.Prelude.{Some, None}
use Rattle.pool_records.specs.declared.texture.TextureRecord.{TextureRecord}
use Rattle.pool_records.specs.declared.spare.SpareRecord.{SpareRecord}
use Rattle.pool_records.specs.declared.retiring.RetiringRecord.{RetiringRecord}
use Rattle.pool_records.specs.declared.doomed.DoomedRecord.{DoomedRecord}
use Rattle.pool_records.specs.Texture.{write_texture}
use Rattle.pool_records.specs.Spare.{write_spare}
use Rattle.pool_records.specs.Retiring.{write_retiring}
use Rattle.pool_records.specs.Doomed.{write_doomed}
use Rattle.pool_records.specs.Tilings.{tiling_number}
use Rattle.pool_memory.specs.declared.pool.Pool.{Pool as Counts}
use Rattle.pool_memory.specs.declared.book.PacingBook.{PacingBook}
use Rattle.pool_memory.specs.Lent.{Lent, lent, version_places}
use Rattle.pool_records.specs.RecordConstants.{doomed_stride, retiring_stride}

-- ---- records

abbrev pub recorded_history : Option WriteHistory → Recorded
recorded_history none = None
recorded_history (some h) = Some h.writes

-- the record of a texture whose grids begin at `grid` and whose stamps at `stamp`
abbrev pub texture_record : ℕ → ℕ → VersionState ℕ → TextureRecord
texture_record grid stamp t = record {
  id = t.id;
  shape = t.shape;
  epoch = t.epoch;
  history = recorded_history t.history;
  birth = t.birth;
  rename = t.rename;
  due = t.due;
  spares = length t.spares;
  bytes = bytes_of t.shape;
  grid = grid;
  stamp = stamp;
}

-- the records in ascending id: each texture's grids and stamps begin where those of the textures before it end
unfoldable pub texture_records : ℕ → ℕ → List (VersionState ℕ) → List TextureRecord
texture_records grid stamp [] = []
texture_records grid stamp (t ∷ ts) = texture_record grid stamp t ∷ texture_records (grid + newest_used t) (stamp + stamps_used t) ts

abbrev pub spare_record : Spare ℕ → SpareRecord
spare_record s = record { view = s.view; held = s.held; parked = s.parked }

abbrev pub retiring_record : Retiring ℕ → RetiringRecord
retiring_record v = record { id = v.id; view = v.view; seq = v.seq; epoch = v.epoch; birth = v.birth; held = v.held; bytes = v.bytes }

abbrev pub doomed_record : Doomed ℕ → DoomedRecord
doomed_record d = record { view = d.view; bytes = d.bytes }

-- ---- packed slices

unfoldable pub textures_after : PoolModel ℕ → Lent → List ℕ
textures_after p l = over (flat write_texture (texture_records 0 0 p.textures)) l.textures

-- every texture's spares, in ascending id
abbrev pub every_spare : List (VersionState ℕ) → List (Spare ℕ)
every_spare ts = flat_map (λ (t : VersionState ℕ). t.spares) ts

unfoldable pub spares_after : PoolModel ℕ → Lent → List ℕ
spares_after p l = over (flat write_spare (map spare_record (every_spare p.textures))) l.spares

abbrev pub grids_of : Option WriteHistory → List StampGrid
grids_of none = []
grids_of (some h) = h.grids

-- what stands for a history's grids from the k-th on: for each the newest of its stamps, then its tiling
unfoldable pub newest_from : VersionShape → ℕ → List StampGrid → List ℕ
newest_from s k [] = []
newest_from s k (g ∷ gs) = g.newest ∷ (tiling_number s k ∷ newest_from s (suc k) gs)

abbrev pub newest_of : VersionState ℕ → List ℕ
newest_of t = newest_from t.shape 0 (grids_of t.history)

unfoldable pub newest_after : PoolModel ℕ → Lent → List ℕ
newest_after p l = over (flat_map newest_of p.textures) l.newest

-- a texture's stamps, grid by grid
abbrev pub stamps_of : VersionState ℕ → List ℕ
stamps_of t = flat_map (λ (g : StampGrid). g.stamps) (grids_of t.history)

unfoldable pub stamps_after : PoolModel ℕ → Lent → List ℕ
stamps_after p l = over (flat_map stamps_of p.textures) l.stamps

-- ---- rings: a head moves on by as many as left at the front, by parking and by a take of doomed versions

unfoldable pub head_after : PoolModel ℕ → Lent → ℕ
head_after p l = place_of (version_places l) l.pool.head (l.pool.popped - hand_count p.hand)

abbrev pub hand_list : Option (Retiring ℕ) → List (Retiring ℕ)
hand_list none = []
hand_list (some v) = v ∷ []

unfoldable pub retiring_after : PoolModel ℕ → Lent → List ℕ
retiring_after p l = laid retiring_stride write_retiring (version_places l) (head_after p l) 0 (map retiring_record (hand_list p.hand ++ p.retiring)) l.retiring

unfoldable pub first_after : PoolModel ℕ → Lent → ℕ
first_after p l = place_of (version_places l) l.pool.first (l.pool.doomed - length p.doomed)

unfoldable pub doomed_after : PoolModel ℕ → Lent → List ℕ
doomed_after p l = laid doomed_stride write_doomed (version_places l) (first_after p l) 0 (map doomed_record p.doomed) l.doomed

-- ---- all of it

unfoldable pub pool_after : PoolModel ℕ → Lent → Counts
pool_after p l = record {
  tracked = length p.textures;
  kept = total (λ (t : VersionState ℕ). length t.spares) p.textures;
  grids = total newest_used p.textures;
  stamps = total stamps_used p.textures;
  head = head_after p l;
  popped = hand_count p.hand;
  queued = length p.retiring;
  first = first_after p l;
  doomed = length p.doomed;
  since = p.since;
  trackings = p.trackings;
  parked = p.parked;
  dooming = p.dooming;
  cap = p.budget.cap;
  line = p.budget.line;
}

-- the pressure mark as a number
abbrev pub mark_of : Bool → ℕ
mark_of true = 1
mark_of false = 0

unfoldable pub pacing_after : PoolModel ℕ → PacingBook
pacing_after p = record { arrivals = p.pacing.arrivals; slot = p.pacing.slot; pressed = mark_of p.pacing.pressed; excess = p.pacing.excess }

unfoldable pub lent_after : PoolModel ℕ → Lent → Lent
lent_after p l =
    lent (pool_after p l) (pacing_after p) (textures_after p l) (retiring_after p l) (doomed_after p l) (spares_after p l) (newest_after p l) (stamps_after p l)
