-- A grid's tiling read back from its number. Assumes nothing.
use mathlib.Core.Path.{◌≡◌, sym, ap, ◌∙◌}
use mathlib.Core.Bool.{true}
use mathlib.Core.List.{List}
use Prim.Native.Nat.{ℕ, ◌+◌, ◌*◌, ◌/◌, ◌%◌, ◌<◌}
use native.Mathlib.Omega.{arith}
use lib.ListN.{get_or}
use Rattle.grid_shapes.specs.declared.shape.VersionShape.{VersionShape}
use Rattle.grid_shapes.specs.Shapes.{is_shape}
use Rattle.grid_stamps.specs.Grids.{tiling_of}
use Rattle.grid_stamps.proofs.Tilings.{tiling_ok}
use Rattle.pool_rules.specs.Model.{grid_count}
use Rattle.pool_rules.specs.HistorySizes.{grid_start}
use Rattle.pool_rules.specs.RuleConstants.{grid_stride}
use Rattle.pool_rules.proofs.HistorySizes.{grid_end_lem, history_most}
use Rattle.pool_records.specs.declared.tiling.GridTiling.{GridTiling}
use Rattle.pool_records.specs.Tilings.{packed_tiling, read_tiling, TilingFits, grid_tiling, tiling_number, tiling_in, EdgesAt, TilingsAt}
use Rattle.pool_records.specs.RecordConstants.{start_span, edge_span, down_unit}

pub tiling_read : (t : GridTiling) → TilingFits t → read_tiling (packed_tiling t) ≡ t
unfolding read_tiling packed_tiling
tiling_read t f = λ i. record { start = start i; across = across i; down = down i }
  where
    n : ℕ
    n = t.start + start_span * t.across + down_unit * t.down

    start : n % start_span ≡ t.start
    start = omega (arith, f.start)

    across : n / start_span % edge_span ≡ t.across
    across = omega (arith, f.start, f.across)

    down : n / down_unit ≡ t.down
    down = omega (arith, f.start, f.across)

module _ (s : VersionShape) (shaped : is_shape s ≡ true) where
  -- a history's grids begin before 92,160, and no edge passes 16,384
  pub tiling_fits : (k : ℕ) → k < grid_count s → TilingFits (grid_tiling s k)
  unfolding grid_tiling
  tiling_fits k h = record {
    start = omega (arith, grid_end_lem s k h, history_most s shaped);
    across = omega (arith, (tiling_ok s shaped (k % s.levels)).across.narrow);
    down = omega (arith, (tiling_ok s shaped (k % s.levels)).down.narrow);
  }

  pub grid_tiling_lem : (k : ℕ) → k < grid_count s → read_tiling (tiling_number s k) ≡ grid_tiling s k
  unfolding tiling_number
  grid_tiling_lem k h = tiling_read (grid_tiling s k) (tiling_fits k h)

  -- where it stands beside the newest stamp of a history's k-th grid, it tells where the grid begins and its level's edges
  module _ (newest : List ℕ) (p k : ℕ) (h : k < grid_count s) (e : get_or newest (p + 1) 0 ≡ tiling_number s k) where
    held : tiling_in newest p ≡ grid_tiling s k
    held = ap read_tiling e ∙ grid_tiling_lem k h

    pub start_held : (tiling_in newest p).start ≡ grid_start s k
    unfolding grid_tiling
    start_held = ap (λ (t : GridTiling). t.start) held

    pub edges_held : (level : ℕ) → k % s.levels ≡ level → EdgesAt newest p s level
    unfolding grid_tiling
    edges_held level at = record {
      across = ap (λ (t : GridTiling). t.across) held ∙ ap (λ (m : ℕ). (tiling_of s m).across.edge) at;
      down = ap (λ (t : GridTiling). t.down) held ∙ ap (λ (m : ℕ). (tiling_of s m).down.edge) at;
    }

  -- the same of the k-th grid of a history all of whose tilings stand there
  pub edges_there : (newest : List ℕ) (grid k level : ℕ) → k < grid_count s → TilingsAt newest grid s → level ≡ k % s.levels
      → EdgesAt newest (grid + grid_stride * k) s level
  edges_there newest grid k level h beside e = edges_held newest (grid + grid_stride * k) k h (beside k h) level (sym e)
