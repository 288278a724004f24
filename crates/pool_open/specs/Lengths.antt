-- Helper: What `sizes_fit` asks, of the slices' lengths directly. That both say the same is a law; a reader of `open` needs none of this.
use Rattle.std.specs.Prelude.{ℕ, ◌*◌, ◌/◌, min, Bool, [], ◌∷◌, leb, eqb}
use Rattle.base_blocks.specs.Lists.{tests}
use Rattle.grid_stamps.specs.StampConstants.{page_stamps}
use Rattle.pool_rules.specs.RuleConstants.{grid_stride, most_grids, most_places}
use Rattle.pool_records.specs.RecordConstants.{doomed_stride, retiring_stride, spare_stride, texture_stride}

-- the six lengths fit together
unfoldable pub lengths_fit : ℕ → ℕ → ℕ → ℕ → ℕ → ℕ → Bool
lengths_fit textures retiring doomed spares newest stamps = tests (
    leb 1 (textures / texture_stride)
    ∷ leb (textures / texture_stride) most_places
    ∷ leb 1 (retiring / retiring_stride)
    ∷ leb (retiring / retiring_stride) most_places
    ∷ leb (stamps / page_stamps) most_places
    ∷ eqb textures (texture_stride * (textures / texture_stride))
    ∷ eqb retiring (retiring_stride * (retiring / retiring_stride))
    ∷ eqb doomed (doomed_stride * (retiring / retiring_stride))
    ∷ eqb spares (spare_stride * (retiring / retiring_stride))
    ∷ eqb stamps (page_stamps * (stamps / page_stamps))
    ∷ eqb newest (grid_stride * min (most_grids * (textures / texture_stride)) stamps) ∷ [])
