-- The texels of whole tiles in the level. Assumes nothing.
use mathlib.Core.Path.{◌≡◌, ap}
use Prim.Native.Nat.{ℕ, suc, ◌+◌, ◌*◌}
use native.Mathlib.Numerals.{add-one}
use native.Mathlib.Omega.{arith}
use Rattle.grid_axes.specs.Axes.{span_start, span_size}
use Rattle.grid_axes.proofs.Axes.{SpanFits, span_fits}
use Rattle.grid_axes.proofs.axis.span_size.Goals as goal
use Rattle.grid_axes.proofs.axis.span_size.Goals.{Start}

fits : (c : Start) → SpanFits c.args.a c.args.s
fits c = span_fits c.args.a c.args.s c.requires.0 c.requires.1

pub overflow_sub-result : goal.overflow_sub-result
overflow_sub-result c =
    let f = fits (goal.at.overflow_sub-result c).Start in
    omega (arith, f.low, f.order)

pub returns : goal.returns
unfolding span_size span_start
returns c =
    let e = c.args.a.edge in
    let n : (c.args.s.last + 1) * e ≡ suc c.args.s.last * e = ap (λ (k : ℕ). k * e) (add-one c.args.s.last) in
    omega (arith, n)
