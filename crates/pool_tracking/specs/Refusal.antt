-- Helper: The number that take_spare is refused by; 0 if it is accepted.
use Rattle.std.specs.Prelude.{ℕ, ◌+◌, ◌*◌, Bool, cond, ◌&&◌, not, leb, ltb, length}
use Rattle.std.proofs.Math.Option.{Option, none, some}
use Rattle.base_blocks.specs.Lists.{total}
use Rattle.grid_shapes.specs.declared.shape.VersionShape.{VersionShape}
use Rattle.grid_shapes.specs.Shapes.{is_shape, same_shape}
use Rattle.pool_rules.specs.Model.{VersionState, PoolModel, find, limit}
use Rattle.pool_rules.specs.RuleConstants.{grid_stride, most_places}
use Rattle.pool_rules.specs.HistorySizes.{history_size, stamps_used}
use Rattle.grid_stamps.specs.StampConstants.{page_stamps}

-- the most stamps that may be lent
abbrev pub most_stamps : ℕ
most_stamps = page_stamps * most_places

-- and the most numbers of `newest`
abbrev pub most_newest : ℕ
most_newest = grid_stride * most_stamps

-- a tracking begun: of the `lent` stamps some are used, and `own` of these are given up for it
unfoldable pub tracking_refusal : (lent own used trackings : ℕ) → VersionShape → Bool → ℕ
tracking_refusal lent own used trackings shape records =
    cond (records && ltb (lent + own) (used + history_size shape)) 6 (cond (leb limit trackings) 12 0)

abbrev pub begun_refusal : PoolModel ℕ → VersionShape → Bool → ℕ → ℕ
begun_refusal p shape records own =
    tracking_refusal (page_stamps * p.places.pages) own (total stamps_used p.textures) p.trackings shape records

abbrev pub found_refusal : PoolModel ℕ → VersionShape → Bool → Option (VersionState ℕ) → ℕ
found_refusal p shape records none = cond (leb p.places.textures (length p.textures)) 5 (begun_refusal p shape records 0)
found_refusal p shape records (some t) = cond (same_shape t.shape shape) 0 (begun_refusal p shape records (stamps_used t))

unfoldable pub take_refusal : PoolModel ℕ → ℕ → VersionShape → Bool → ℕ → ℕ
take_refusal p id shape records seq =
    cond (not (is_shape shape)) 2 (cond (ltb limit seq) 3 (found_refusal p shape records (find id p.textures)))
