-- Helper: A plan's copies, read from the lent grids.
use Rattle.std.specs.Prelude.{ℕ, ◌+◌, ◌*◌, ◌/◌, ◌%◌, ◌≤◌, cond, length, Option, Some, None}
use mathlib.Core.List.{List, [], ◌∷◌, flat_map}
use Rattle.std.proofs.lemmas.List.Edits.{sets}
use Rattle.base_blocks.specs.Lists.{listed}
use Rattle.base_tables.specs.Records.{flat}
use Rattle.grid_shapes.specs.declared.shape.VersionShape.{VersionShape}
use Rattle.grid_shapes.specs.Shapes.{level_width, level_height}
use Rattle.grid_rects.specs.declared.rect.TexelRect.{TexelRect}
use Rattle.grid_rects.specs.declared.rect.Region.{Region}
use Rattle.grid_rects.specs.declared.rect.Region.TheVariants.{Whole, Part}
use Rattle.grid_rects.specs.Rects.{whole_level}
use Rattle.grid_stamps.specs.Grids.{tiling_of, box_since}
use Rattle.pool_rules.specs.Model.{PreserveCopy, UploadFootprint, grid_count}
use Rattle.pool_rules.specs.Histories.{grid_place}
use Rattle.pool_rules.specs.HistorySizes.{grid_start, history_size}
use Rattle.pool_rules.specs.PreservePlan.{same_rect, covers}
use Rattle.pool_rules.specs.RuleConstants.{grid_stride}
use Rattle.pool_records.specs.Tilings.{TilingsAt}
use Rattle.pool_memory.specs.Reading.{grid_on}
use Rattle.pool_memory.specs.Calls.{copy_numbers}
use Rattle.pool_preserve_plan.specs.declared.since.After.{After}
use Rattle.pool_preserve_plan.specs.declared.since.Upload.{Upload}
use Rattle.pool_memory.specs.MemoryConstants.{copy_stride}

abbrev pub footprint : Upload → UploadFootprint
footprint u = record { slice = u.slice; level = u.level; cover = u.cover }

-- ---- where the grids stand

-- the numbers of a history's grids are there, each grid's tiling beside its newest stamp, and so are their stamps
abbrev pub SinceFits : Option After → VersionShape → List ℕ → List ℕ → Type 0
SinceFits None s newest stamps = Unit
SinceFits (Some a) s newest stamps =
    (a.grid + grid_stride * grid_count s ≤ length newest) × TilingsAt newest a.grid s × (a.stamp + history_size s ≤ length stamps)

-- ---- one subresource

-- none where no tile was stamped since; a box equal to the level is whole
unfoldable pub box_planned : VersionShape → ℕ → Option TexelRect → Option Region
box_planned s level None = None
box_planned s level (Some r) = Some (cond (same_rect r (whole_level (level_width s level) (level_height s level))) Whole (Part r))

-- whole where nothing is known, otherwise the box since the held writes
abbrev pub planned_since : List ℕ → List ℕ → VersionShape → Option After → ℕ → ℕ → Option Region
planned_since newest stamps s None slice level = Some Whole
planned_since newest stamps s (Some a) slice level =
    let k = grid_place s slice level in
    box_planned s level (box_since (tiling_of s level) a.held (grid_on s level newest stamps (a.grid + grid_stride * k) (a.stamp + grid_start s k)))

-- left out where the upload rewrites it entirely
unfoldable pub planned_at : List ℕ → List ℕ → VersionShape → Option After → UploadFootprint → ℕ → ℕ → Option Region
planned_at newest stamps s since u slice level = cond (covers u slice level) None (planned_since newest stamps s since slice level)

abbrev pub copy_numbers_of : ℕ → ℕ → Region → List ℕ
copy_numbers_of slice level region = copy_numbers (record { slice = slice; level = level; region = region })

-- ---- all of them

-- a subresource's copies: one or none
unfoldable pub copy_list : Option Region → ℕ → ℕ → List PreserveCopy
copy_list None slice level = []
copy_list (Some region) slice level = record { slice = slice; level = level; region = region } ∷ []

-- what f has at each of the first n, in order
unfoldable pub in_order : (ℕ → List PreserveCopy) → ℕ → List PreserveCopy
in_order f n = flat_map f (listed (λ (k : ℕ). k) 0 n)

-- those of the k-th subresource: slice by slice, level by level
unfoldable pub copies_at : List ℕ → List ℕ → VersionShape → Option After → UploadFootprint → ℕ → List PreserveCopy
copies_at newest stamps s since u k =
    copy_list (planned_at newest stamps s since u (k / s.levels) (k % s.levels)) (k / s.levels) (k % s.levels)

unfoldable pub lent_copies : List ℕ → List ℕ → VersionShape → Option After → UploadFootprint → List PreserveCopy
lent_copies newest stamps s since u = in_order (copies_at newest stamps s since u) (grid_count s)

-- ---- the buffer

-- copies written after the first `at` of a buffer, seven numbers each
unfoldable pub with_copies : ℕ → List PreserveCopy → List ℕ → List ℕ
with_copies at cs buffer = sets buffer (copy_stride * at) (flat copy_numbers cs)
