-- `grid_shapes::shape::blocks` meets its contract. By the edge.
use mathlib.Core.Path.{refl, sym, ap, ◌∙◌}
use Rattle.base_blocks.specs.Lists.{ceil_div}
use Rattle.base_blocks.proofs.Numbers.{ceil_one}
use Rattle.grid_shapes.proofs.shape.blocks.Goals as goal

pub returns-then-edge-eq1 : goal.returns-then-edge-eq1
returns-then-edge-eq1 c = sym (ap (ceil_div c.args.extent) c.if-edge-eq1.true ∙ ceil_one c.args.extent)

pub returns-then-edge-eq4 : goal.returns-then-edge-eq4
unfolding ceil_div
returns-then-edge-eq4 c = sym (ap (ceil_div c.args.extent) c.if-edge-eq4.true)

pub returns : goal.returns
unfolding ceil_div
returns c = refl
