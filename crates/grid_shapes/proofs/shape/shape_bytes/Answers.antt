-- `grid_shapes::shape::shape_bytes` meets its contract. The blocks of every level times the bytes of a block and the slices, which a shape keeps at 2^44 or less.
use Prim.Native.Nat.{◌*◌}
use mathlib.Core.Path.{◌≡◌, ◌∙◌}
use native.Mathlib.Omega.{arith}
use native.Mathlib.Nat.{mul-le-mul}
use Rattle.grid_shapes.specs.Shapes.{bytes_of}
use Rattle.grid_shapes.proofs.Formats.{block_bytes_bound}
use Rattle.grid_shapes.proofs.Shapes.{slices_bound}
use Rattle.grid_shapes.proofs.ShapeBytes.{bytes_bound, bytes_by_blocks}
use Rattle.grid_shapes.proofs.shape.shape_bytes.Goals as goal
use Rattle.grid_shapes.proofs.shape.shape_bytes.Goals.{After-shape_blocks, After-shape_blocks-2}

-- the product of either edge is the definition's
plain : (c : After-shape_blocks) →
    c.shape_blocks.result * (c.block_bytes.result * c.slices.result) ≡ bytes_of c.args.s
plain c =
    (λ i. c.shape_blocks.ensures i * (c.block_bytes.ensures i * c.slices.ensures i))
    ∙ bytes_by_blocks c.args.s

other : (c : After-shape_blocks-2) →
    c.shape_blocks-2.result * (c.block_bytes.result * c.slices.result) ≡ bytes_of c.args.s
other c =
    (λ i. c.shape_blocks-2.ensures i * (c.block_bytes.ensures i * c.slices.ensures i))
    ∙ bytes_by_blocks c.args.s

pub overflow_mul-bytes : goal.overflow_mul-bytes
overflow_mul-bytes c =
    let s = c.args.s in
    let both : c.block_bytes.result * c.slices.result ≡ _ = λ i. c.block_bytes.ensures i * c.slices.ensures i in
    omega (arith, both, mul-le-mul (block_bytes_bound s.format) (slices_bound s))

pub overflow_mul-result : goal.overflow_mul-result
overflow_mul-result c = omega (arith, plain (goal.at.overflow_mul-result c).After-shape_blocks, bytes_bound c.args.s c.requires)

pub returns-then-edge-eq1 : goal.returns-then-edge-eq1
returns-then-edge-eq1 c = plain (goal.at.returns-then-edge-eq1 c).After-shape_blocks

pub overflow_mul-result-2 : goal.overflow_mul-result-2
overflow_mul-result-2 c = omega (arith, other (goal.at.overflow_mul-result-2 c).After-shape_blocks-2, bytes_bound c.args.s c.requires)

pub returns : goal.returns
returns c = other (goal.at.returns c).After-shape_blocks-2
