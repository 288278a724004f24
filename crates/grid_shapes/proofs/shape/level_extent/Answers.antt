-- `grid_shapes::shape::level_extent` meets its contract. A level past 63 has shifted out every bit of a base of 64.
use mathlib.Core.Path.{sym}
use native.Mathlib.Omega.{arith}
use Rattle.std.proofs.Math.Nat.{max_comm}
use Rattle.grid_shapes.specs.Shapes.{level_extent}
use Rattle.grid_shapes.proofs.Shapes.{extent_past}
use Rattle.grid_shapes.proofs.shape.level_extent.Goals as goal

pub returns-then-level-gt63 : goal.returns-then-level-gt63
returns-then-level-gt63 c = sym (extent_past c.args.base 64 c.args.level (omega arith) (omega arith) (omega arith))

pub returns : goal.returns
unfolding level_extent
returns c = rw (c.max-2.ensures, c.max.ensures, max_comm c.args.base 1) (max_comm _ 1)
