-- Rule: One axis of a level: its tiles, and what a run of texels along it touches (01, "Levels, tiles, shapes" and "The stamp grid").
-- A level's grid is made of two of these.
use Rattle.std.specs.Prelude.{ℕ, suc, ◌+◌, ◌-◌, ◌*◌, ◌/◌, ◌≤◌, ◌<◌, min, max, Bool, cond, List, [], ◌∷◌, ltb, Option, Some, None}
use Rattle.base_blocks.specs.Lists.{ceil_div, tests}
use Rattle.grid_axes.specs.declared.axis.Axis.{Axis}
use Rattle.grid_axes.specs.declared.axis.Span.{Span}
use Rattle.grid_axes.specs.AxisConstants.{max_tiles_per_axis, min_tile_texels}

-- extent / 32 rounded up, at least 16, raised to a multiple of the block edge
unfoldable pub tile_edge : ℕ → ℕ → ℕ
tile_edge extent block = ceil_div (max min_tile_texels (ceil_div extent max_tiles_per_axis)) block * block

-- the axis of a level with that many texels, in a format of that block edge
unfoldable pub axis_of : ℕ → ℕ → Axis
axis_of extent block = record { extent = extent; edge = tile_edge extent block }

-- how many tiles lie along the axis: columns across, rows down
unfoldable pub tiles_of : Axis → ℕ
tiles_of a = ceil_div a.extent a.edge

-- an axis of a level that a shape can have: at most 32 tiles lie along it
pub record AxisOk (a : Axis) : Type 0 where
  pub extent : a.extent ≤ 16384
  pub wide : 0 < a.edge
  pub narrow : a.edge ≤ 16384
  pub tiles : tiles_of a ≤ max_tiles_per_axis

-- `size` texels from `start` on, cut to the level, end before this texel
unfoldable pub cut_end : Axis → ℕ → ℕ → ℕ
cut_end a start size = min (start + size) a.extent

-- the cut is not empty
unfoldable pub is_cut : Axis → ℕ → ℕ → Bool
is_cut a start size = ltb start (cut_end a start size)

-- the cut touches tile t, whose texels are those from t * edge up to (t + 1) * edge
unfoldable pub touched : Axis → ℕ → ℕ → ℕ → Bool
touched a start size t =
    tests (is_cut a start size ∷ ltb start (suc t * a.edge) ∷ ltb (t * a.edge) (cut_end a start size) ∷ [])

-- the touched tiles by number: from the first texel's to the last texel's; an empty cut touches none
unfoldable pub touched_tiles : Axis → ℕ → ℕ → Option Span
touched_tiles a start size = cond (is_cut a start size) (Some (record { first = start / a.edge; last = (cut_end a start size - 1) / a.edge })) None

-- a span of tiles along an axis
pub record SpanIn (a : Axis) (s : Span) : Type 0 where
  pub order : s.first ≤ s.last
  pub inside : s.last < tiles_of a

-- the span of one tile
unfoldable pub one_tile : ℕ → Span
one_tile t = record { first = t; last = t }

-- the smallest span around a span and a tile
unfoldable pub widened : Span → ℕ → Span
widened s t = record { first = min s.first t; last = max s.last t }

-- the smallest span around a span and some tiles
unfoldable pub span_around : Span → List ℕ → Span
span_around s [] = s
span_around s (t ∷ ts) = span_around (widened s t) ts

-- the texels of whole tiles, cut to the level: where they start, and how many they are
unfoldable pub span_start : Axis → Span → ℕ
span_start a s = s.first * a.edge

unfoldable pub span_size : Axis → Span → ℕ
span_size a s = min (suc s.last * a.edge) a.extent - span_start a s
