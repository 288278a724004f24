-- Rule: Whether lent memory forms a pool (01, "Outcomes"): what the packing needs, then 01's conditions in 01's order.
use Rattle.std.specs.Prelude.{ℕ, ◌+◌, ◌*◌, min, Bool, true, ◌&&◌, [], ◌∷◌, leb, ltb, eqb, length, get_or}
use Rattle.std.proofs.Math.Option.{Option, none, some}
use Rattle.base_blocks.specs.Lists.{all, total, ascending, tests}
use Rattle.grid_shapes.specs.declared.shape.VersionShape.{VersionShape}
use Rattle.grid_shapes.specs.Shapes.{is_shape, bytes_of}
use Rattle.grid_stamps.specs.Grids.{StampGrid}
use Rattle.base_blocks.specs.Blocks.{largest}
use Rattle.base_unequal.specs.Unequal.{starts_fit}
use Rattle.pool_rules.specs.declared.held.Held.{Held}
use Rattle.pool_rules.specs.declared.held.Held.TheVariants.{Known, Unknown}
use Rattle.pool_rules.specs.Model.{WriteHistory, Spare, Retiring, Doomed, VersionState, PoolModel, limit, spare_bytes, doomed_bytes}
use Rattle.pool_rules.specs.HistorySizes.{grid_places}
use Rattle.pool_rules.specs.Open.{are_places}
use Rattle.pool_records.specs.Recorded.{Recorded}
use Rattle.std.specs.Prelude.{Some, None}
use Rattle.pool_records.specs.declared.texture.TextureRecord.{TextureRecord}
use Rattle.pool_records.specs.Tilings.{tiling_number}
use Rattle.pool_memory.specs.Lent.{Lent, version_places}
use Rattle.pool_memory.specs.Reading.{tracked_records, model_of}
use Rattle.grid_shapes.specs.ShapeConstants.{most_shape_bytes}
use Rattle.grid_stamps.specs.StampConstants.{page_stamps}
use Rattle.pool_records.specs.RecordConstants.{doomed_stride, retiring_stride, spare_stride, texture_stride}
use Rattle.pool_rules.specs.RuleConstants.{destroy_spread_drains, grid_stride, most_grids, most_places}
use Rattle.pool_records.specs.Texture.{record_grids, record_stamps}

-- the slices' lengths are those of whole places, as many as may be lent, and fit together
unfoldable pub sizes_fit : Lent → Bool
sizes_fit l = tests (
    are_places (model_of l).places
    ∷ eqb (length l.textures) (texture_stride * (model_of l).places.textures)
    ∷ eqb (length l.retiring) (retiring_stride * version_places l)
    ∷ eqb (length l.doomed) (doomed_stride * version_places l)
    ∷ eqb (length l.spares) (spare_stride * version_places l)
    ∷ eqb (length l.stamps) (page_stamps * (model_of l).places.pages)
    ∷ eqb (length l.newest) (grid_stride * min (most_grids * (model_of l).places.textures) (length l.stamps)) ∷ [])

-- the counts fit their places: no more textures, versions, numbers of `newest` and stamps than places, one version at most in the hand, and both rings begin inside theirs
unfoldable pub counts_fit : Lent → Bool
counts_fit l = tests (
    leb l.pool.tracked (model_of l).places.textures
    ∷ ltb l.pool.head (version_places l)
    ∷ ltb l.pool.first (version_places l)
    ∷ leb l.pool.popped 1
    ∷ leb (l.pool.queued + l.pool.popped + l.pool.kept + l.pool.doomed) (version_places l)
    ∷ leb l.pool.grids (length l.newest)
    ∷ leb l.pool.stamps (length l.stamps) ∷ [])

-- the records claim just the spares, numbers of `newest` and stamps that are counted
unfoldable pub runs_fit : Lent → Bool
runs_fit l = tests (
    eqb (total (λ (t : TextureRecord). t.spares) (tracked_records l)) l.pool.kept
    ∷ eqb (total record_grids (tracked_records l)) l.pool.grids
    ∷ eqb (total record_stamps (tracked_records l)) l.pool.stamps ∷ [])

-- every record holds where its grids and its stamps begin: where those of the textures before it end, so grids neither overlap nor leave a gap
unfoldable pub starts_hold : Lent → Bool
starts_hold l =
    starts_fit record_grids (λ (t : TextureRecord). t.grid) 0 (tracked_records l)
    && starts_fit record_stamps (λ (t : TextureRecord). t.stamp) 0 (tracked_records l)

-- beside the newest stamp of each grid stands its tiling
unfoldable pub tiling_holds : Lent → VersionShape → ℕ → ℕ → Bool
tiling_holds l s grid k = eqb (get_or l.newest (grid + grid_stride * k + 1) 0) (tiling_number s k)

abbrev pub tilings_read : Lent → VersionShape → ℕ → Recorded → Bool
tilings_read l s grid None = true
tilings_read l s grid (Some n) = all (tiling_holds l s grid) (grid_places s)

unfoldable pub tilings_hold : Lent → TextureRecord → Bool
tilings_hold l t = tilings_read l t.shape t.grid t.history

unfoldable pub tilings_fit : Lent → Bool
tilings_fit l = all (tilings_hold l) (tracked_records l)

-- every record's bytes are those of one version of its shape
unfoldable pub bytes_hold : TextureRecord → Bool
bytes_hold t = eqb t.bytes (bytes_of t.shape)

unfoldable pub bytes_fit : Lent → Bool
bytes_fit l = all bytes_hold (tracked_records l)

-- the pressure mark is 0 or 1
unfoldable pub mark_fits : Lent → Bool
mark_fits l = leb l.book.pressed 1

-- ---- 01's conditions

abbrev pub state_id : VersionState ℕ → ℕ
state_id t = t.id

-- no stamp passes its texture's write count; `newest` is the largest stamp
unfoldable pub is_grid : ℕ → StampGrid → Bool
is_grid writes g = eqb (largest g.stamps) g.newest && leb g.newest writes

unfoldable pub is_history : Option WriteHistory → Bool
is_history none = true
is_history (some h) = leb h.writes limit && all (is_grid h.writes) h.grids

abbrev pub is_held_count : Held → Bool
is_held_count (Known n) = leb n limit
is_held_count Unknown = true

unfoldable pub is_spare : Spare ℕ → Bool
is_spare s = is_held_count s.held && leb s.parked limit

-- the shape passes 2; counts and submissions are at most 2^48
unfoldable pub is_state : VersionState ℕ → Bool
is_state t = tests (
    is_shape t.shape
    ∷ leb t.epoch limit
    ∷ leb t.birth limit
    ∷ leb t.rename limit
    ∷ leb t.due limit
    ∷ is_history t.history
    ∷ all is_spare t.spares ∷ [])

-- no version's bytes pass 2^44
unfoldable pub is_retiring : Retiring ℕ → Bool
is_retiring v = tests (
    leb v.seq limit ∷ leb v.epoch limit ∷ leb v.birth limit ∷ leb v.held limit ∷ leb v.bytes most_shape_bytes ∷ [])

abbrev pub is_hand : Option (Retiring ℕ) → Bool
is_hand none = true
is_hand (some v) = is_retiring v

unfoldable pub is_doomed : Doomed ℕ → Bool
is_doomed d = leb d.bytes most_shape_bytes

unfoldable pub is_arrival : ℕ → Bool
is_arrival n = leb n most_places

unfoldable pub is_formed : PoolModel ℕ → Bool
is_formed p = tests (
    ascending state_id p.textures
    ∷ all is_state p.textures
    ∷ all is_retiring p.retiring
    ∷ is_hand p.hand
    ∷ all is_doomed p.doomed
    ∷ leb p.trackings limit
    ∷ eqb p.parked (total spare_bytes p.textures)
    ∷ eqb p.dooming (doomed_bytes p.doomed)
    ∷ leb p.parked p.budget.cap
    ∷ ltb p.pacing.slot destroy_spread_drains
    ∷ eqb (length p.pacing.arrivals) destroy_spread_drains
    ∷ all is_arrival p.pacing.arrivals
    ∷ leb p.since (length p.doomed) ∷ [])

unfoldable pub is_pool : Lent → Bool
is_pool l = tests (sizes_fit l ∷ counts_fit l ∷ runs_fit l ∷ starts_hold l ∷ tilings_fit l ∷ bytes_fit l ∷ mark_fits l ∷ is_formed (model_of l) ∷ [])
