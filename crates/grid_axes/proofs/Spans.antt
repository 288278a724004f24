-- Laws of the smallest span around some tiles. Assumes nothing.
use mathlib.Core.List.{List, [], ◌∷◌}
use Prim.Native.Nat.{ℕ, ◌≤◌, ◌<◌}
use native.Mathlib.Omega.{arith}
use Rattle.base_blocks.specs.All.{All, nil, cons}
use Rattle.base_blocks.proofs.All.{all_head, all_tail}
use Rattle.grid_axes.specs.declared.axis.Axis.{Axis}
use Rattle.grid_axes.specs.declared.axis.Span.{Span}
use Rattle.grid_axes.specs.Axes.{tiles_of, SpanIn, one_tile, widened, span_around}

-- a tile of the span
pub record InSpan (s : Span) (t : ℕ) : Type 0 where
  pub from : s.first ≤ t
  pub to : t ≤ s.last

-- a span that holds another
record Wider (s u : Span) : Type 0 where
  from : s.first ≤ u.first
  to : u.last ≤ s.last

around_wider : (s : Span) (ts : List ℕ) → Wider (span_around s ts) s
unfolding span_around widened
around_wider s [] = record { from = omega arith; to = omega arith }
around_wider s (t ∷ ts) = let w = around_wider (widened s t) ts in record { from = omega (arith, w.from); to = omega (arith, w.to) }

-- the span around a span and some tiles holds the span's tiles and each of these
pub around_base : (s : Span) (ts : List ℕ) (t : ℕ) → InSpan s t → InSpan (span_around s ts) t
around_base s ts t h = let w = around_wider s ts in record { from = omega (arith, w.from, h.from); to = omega (arith, w.to, h.to) }

pub around_each : (s : Span) (ts : List ℕ) → All (InSpan (span_around s ts)) ts
unfolding span_around widened
around_each s [] = nil
around_each s (t ∷ ts) =
    let w = around_wider (widened s t) ts in
    cons {x = t} (record { from = omega (arith, w.from); to = omega (arith, w.to) }) (around_each (widened s t) ts)

-- it reaches no further than they do
pub around_in : (a : Axis) (s : Span) (ts : List ℕ) → SpanIn a s → All (λ (t : ℕ). t < tiles_of a) ts → SpanIn a (span_around s ts)
unfolding span_around widened
around_in a s [] h all = h
around_in a s (t ∷ ts) h all =
    around_in a (widened s t) ts (record { order = omega (arith, h.order); inside = omega (arith, h.inside, all_head all) }) (all_tail all)

pub one_in : (a : Axis) (t : ℕ) → t < tiles_of a → SpanIn a (one_tile t)
unfolding one_tile
one_in a t h = record { order = omega arith; inside = h }

pub one_holds : (t : ℕ) → InSpan (one_tile t) t
unfolding one_tile
one_holds t = record { from = omega arith; to = omega arith }
