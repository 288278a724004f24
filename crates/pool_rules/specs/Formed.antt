-- Rule: What it takes to form a pool (01, "Outcomes"), one line for each of 01's conditions.
use Rattle.std.specs.Prelude.{ℕ, suc, ◌*◌, ◌≤◌, ◌<◌, ◌≡◌, true, List, [], ◌∷◌, length}
use Rattle.std.proofs.Math.Option.{Option, none, some}
use Rattle.base_blocks.specs.Lists.{total}
use Rattle.base_blocks.specs.All.{All}
use Rattle.base_blocks.specs.Blocks.{largest}
use Rattle.grid_shapes.specs.declared.shape.VersionShape.{VersionShape}
use Rattle.grid_shapes.specs.Shapes.{is_shape, slices_of}
use Rattle.grid_stamps.specs.declared.grid.Tiling.{Tiling}
use Rattle.grid_stamps.specs.Grids.{tiling_of, stamp_count, StampGrid}
use Rattle.pool_rules.specs.declared.held.Held.{Held}
use Rattle.pool_rules.specs.declared.held.Held.TheVariants.{Known, Unknown}
use Rattle.pool_rules.specs.Model.{WriteHistory, Spare, Retiring, Doomed, VersionState, PoolModel, limit, spare_bytes, doomed_bytes, versions_used}
use Rattle.pool_rules.specs.Histories.{grid_at}
use Rattle.pool_rules.specs.HistorySizes.{stamps_used}
use Rattle.grid_stamps.specs.StampConstants.{page_stamps}
use Rattle.grid_shapes.specs.ShapeConstants.{most_shape_bytes}
use Rattle.pool_rules.specs.RuleConstants.{destroy_spread_drains, most_places}

-- of what an option holds, if anything
abbrev pub Given {ℓ} : {A : Type ℓ} → (A → Type 0) → Option A → Type 0
Given P none = Unit {0}
Given P (some a) = P a

abbrev pub HeldFormed : Held → Type 0
HeldFormed (Known n) = n ≤ limit
HeldFormed Unknown = Unit {0}

-- the grid has a stamp for each tile; its `newest` is its largest stamp; no stamp passes the texture's write count
pub record GridFormed (g : Tiling) (writes : ℕ) (grid : StampGrid) : Type 0 where
  pub size : length grid.stamps ≡ stamp_count g
  pub newest : largest grid.stamps ≡ grid.newest
  pub below : grid.newest ≤ writes

-- one grid for each slice and level
pub record HistoryFormed (s : VersionShape) (h : WriteHistory) : Type 0 where
  pub writes : h.writes ≤ limit
  pub size : length h.grids ≡ slices_of s * s.levels
  pub grids : (slice level : ℕ) → slice < slices_of s → level < s.levels → GridFormed (tiling_of s level) h.writes (grid_at s h slice level)

module _ {W : Type 0} where
  pub record SpareFormed (s : Spare W) : Type 0 where
    pub held : HeldFormed s.held
    pub parked : s.parked ≤ limit

  -- no version's bytes pass 2^44
  pub record RetiringFormed (v : Retiring W) : Type 0 where
    pub seq : v.seq ≤ limit
    pub epoch : v.epoch ≤ limit
    pub birth : v.birth ≤ limit
    pub held : v.held ≤ limit
    pub bytes : v.bytes ≤ most_shape_bytes

  pub record DoomedFormed (d : Doomed W) : Type 0 where
    pub bytes : d.bytes ≤ most_shape_bytes

  -- the shape passes 2; counts and submissions are at most 2^48
  pub record StateFormed (t : VersionState W) : Type 0 where
    pub shape : is_shape t.shape ≡ true
    pub epoch : t.epoch ≤ limit
    pub birth : t.birth ≤ limit
    pub rename : t.rename ≤ limit
    pub due : t.due ≤ limit
    pub history : Given (HistoryFormed t.shape) t.history
    pub spares : All SpareFormed t.spares

  -- ids from lo on, ascending, and so distinct
  pub data Ascending : ℕ → List (VersionState W) → Type 0 where
    end : {lo : ℕ} → Ascending lo []
    more : {lo : ℕ} {t : VersionState W} {ts : List (VersionState W)} → lo ≤ t.id → Ascending (suc t.id) ts → Ascending lo (t ∷ ts)

  pub record Formed (p : PoolModel W) : Type 0 where
    pub ids : Ascending 0 p.textures
    pub textures : All StateFormed p.textures
    pub retiring : All RetiringFormed p.retiring
    pub hand : Given RetiringFormed p.hand
    pub doomed : All DoomedFormed p.doomed
    pub trackings : p.trackings ≤ limit
    -- places enough for the textures, the versions (each in one of queue, hand, spares, destroy queue) and the stamps
    pub places : length p.textures ≤ p.places.textures
    pub versions : versions_used p ≤ p.places.versions
    pub stamps : total stamps_used p.textures ≤ page_stamps * p.places.pages
    -- the parked and destroy totals are their sums; parked bytes are within the cap
    pub parked : p.parked ≡ total spare_bytes p.textures
    pub dooming : p.dooming ≡ doomed_bytes p.doomed
    pub cap : p.parked ≤ p.budget.cap
    -- the slot is below 8, arrivals at most 4,096, those since the last drain at most the destroy queue's length
    pub slot : p.pacing.slot < destroy_spread_drains
    pub eight : length p.pacing.arrivals ≡ destroy_spread_drains
    pub arrivals : All (λ (n : ℕ). n ≤ most_places) p.pacing.arrivals
    pub since : p.since ≤ length p.doomed
    pub most : p.places.versions ≤ most_places
