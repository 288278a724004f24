-- `grid_shapes::format::block_edge` meets its contract. By the formats whose edge is 4.
use mathlib.Core.Path.{sym, ap, ◌∙◌}
use mathlib.Core.Bool.{Bool, cond}
use Prim.Native.Nat.{ℕ}
use Rattle.grid_shapes.proofs.Formats.{edge_of}
use Rattle.grid_shapes.proofs.format.block_edge.Goals as goal

pub returns-then-format : goal.returns-then-format
returns-then-format c = sym (edge_of c.args.format ∙ ap (λ (b : Bool). cond {A = ℕ} b 4 1) c.if-format.true)

pub returns-else-format : goal.returns-else-format
returns-else-format c = sym (edge_of c.args.format ∙ ap (λ (b : Bool). cond {A = ℕ} b 4 1) c.if-format.false)
