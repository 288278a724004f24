-- `grid_shapes::shape::level_blocks` meets its contract. Each product is the definition's, of no more blocks than texels.
use Prim.Native.Nat.{ℕ, ◌*◌}
use mathlib.Core.Path.{◌≡◌, ap}
use native.Mathlib.Omega.{arith}
use native.Mathlib.Nat.{mul-le-mul}
use Rattle.base_blocks.specs.Lists.{ceil_div}
use Rattle.base_blocks.proofs.Numbers.{ceil_bound}
use Rattle.grid_shapes.proofs.shape.level_blocks.Goals as goal
use Rattle.grid_shapes.proofs.shape.level_blocks.Goals.{After-blocks-3}

-- the first product, in the definition's terms
area : (c : After-blocks-3) →
    c.blocks-2.result * c.blocks-3.result
    ≡ ceil_div c.args.across c.args.edge * ceil_div c.args.down c.args.edge
area c = λ i. c.blocks-2.ensures i * c.blocks-3.ensures i

pub overflow_mul-result : goal.overflow_mul-result
overflow_mul-result c =
    let a = c.args in
    let p = c.requires in
    omega (
      arith,
      area (goal.at.overflow_mul-result c).After-blocks-3,
      mul-le-mul (ceil_bound a.across a.edge 16384 p.3 p.0) (ceil_bound a.down a.edge 16384 p.3 p.1),
    )

pub overflow_mul-result-2 : goal.overflow_mul-result-2
overflow_mul-result-2 c =
    let a = c.args in
    let p = c.requires in
    let whole = ap (λ (n : ℕ). n * a.deep) (area (goal.at.overflow_mul-result-2 c).After-blocks-3) in
    omega (
      arith,
      whole,
      mul-le-mul (mul-le-mul (ceil_bound a.across a.edge 16384 p.3 p.0) (ceil_bound a.down a.edge 16384 p.3 p.1)) p.2,
    )
