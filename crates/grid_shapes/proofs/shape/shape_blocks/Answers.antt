-- `grid_shapes::shape::shape_blocks` meets its contract. The blocks so far and those of the levels that are left make the whole, and the extents are the last level's.
use Prim.Native.Nat.{ℕ, ◌+◌, ◌-◌, ◌*◌, ◌/◌, ◌≤◌, ◌<◌, max}
use mathlib.Core.Path.{◌≡◌, ap, ◌∙◌}
use native.Mathlib.Omega.{arith}
use lib.Dec.{lit≤}
use Rattle.std.proofs.Math.Nat.{max_comm}
use Rattle.base_blocks.specs.Lists.{ceil_div, total}
use Rattle.base_blocks.proofs.Listed.{left_all, total_more, total_done}
use Rattle.grid_shapes.specs.declared.shape.VersionShape.{VersionShape}
use Rattle.grid_shapes.specs.Formats.{block_edge}
use Rattle.grid_shapes.specs.Shapes.{level_extent, level_depth, level_width, level_height, level_blocks}
use Rattle.grid_shapes.proofs.Formats.{block_edge_pos, block_edge_bound}
use Rattle.grid_shapes.proofs.Shapes.{ShapeBounds, shape_bounds, extent_bound, extent_halved, depth_bound, depth_halved}
use Rattle.grid_shapes.proofs.ShapeBytes.{sum_of_blocks}
use Rattle.grid_shapes.proofs.shape.shape_blocks.Invariants.{still, all_levels, At}
use Rattle.grid_shapes.proofs.shape.shape_blocks.Goals as goal
use Rattle.grid_shapes.proofs.shape.shape_blocks.Goals.{After-max-deep, After-level_blocks-sum-in-loop}

-- a level's blocks, from its extents
level_blocks_lem : (s : VersionShape) (level edge across down deep : ℕ) → edge ≡ block_edge s.format → At s level across down deep →
    ceil_div across edge * ceil_div down edge * deep ≡ level_blocks s level
unfolding level_blocks level_width level_height
level_blocks_lem s level edge across down deep e a = λ i. ceil_div (a.0 i) (e i) * ceil_div (a.1 i) (e i) * a.2 i

-- the next level's extents
next : (s : VersionShape) (level across down deep : ℕ) → 1 ≤ level → At s (level - 1) across down deep → (w h d : ℕ) →
    w ≡ max (across / 2) 1 → h ≡ max (down / 2) 1 → d ≡ max (deep / 2) 1 → At s level w h d
next s level across down deep pos a w h d p q r =
    let last : level - 1 + 1 ≡ level = omega arith in (
      p ∙ max_comm (across / 2) 1 ∙ ap (λ (n : ℕ). max 1 (n / 2)) a.0 ∙ extent_halved s.width (level - 1) ∙ ap (level_extent s.width) last,
      q ∙ max_comm (down / 2) 1 ∙ ap (λ (n : ℕ). max 1 (n / 2)) a.1 ∙ extent_halved s.height (level - 1) ∙ ap (level_extent s.height) last,
      r ∙ max_comm (deep / 2) 1 ∙ ap (λ (n : ℕ). max 1 (n / 2)) a.2 ∙ depth_halved s (level - 1) ∙ ap (level_depth s) last,
    )

-- no extent is more than the largest of a level 0
bounded : (s : VersionShape) (level edge across down deep : ℕ) → ShapeBounds s → edge ≡ block_edge s.format → At s level across down deep →
    (across ≤ 16384) × (down ≤ 16384) × (deep ≤ 2048) × (0 < edge) × (edge ≤ 16)
bounded s level edge across down deep z e a = (
  omega (arith, a.0, extent_bound s.width 16384 level z.width (lit≤ tt)),
  omega (arith, a.1, extent_bound s.height 16384 level z.height (lit≤ tt)),
  omega (arith, a.2, depth_bound s z level),
  omega (arith, e, block_edge_pos s.format),
  omega (arith, e, block_edge_bound s.format),
)

-- the extents that a turn of the loop makes
turned : (c : After-max-deep) → At c.args.s c.loop.counter c.max-across.result c.max-down.result c.max-deep.result
turned c =
    let l = c.loop in
    next c.args.s l.counter l.across l.down l.deep l.invariant.0 l.invariant.2 _ _ _ c.max-across.ensures c.max-down.ensures c.max-deep.ensures

-- and its sum
added : (c : After-level_blocks-sum-in-loop) → c.loop.sum + c.level_blocks-sum-in-loop.result + still c.args.s (c.loop.counter + 1) ≡ all_levels c.args.s
added c =
    let s = c.args.s in
    let l = c.loop in
    let more = total_more (λ (k : ℕ). k) s.levels (level_blocks s) l.counter c.loop-test.true in
    let new = c.level_blocks-sum-in-loop.ensures ∙ level_blocks_lem s l.counter c.args.edge _ _ _ c.requires.1 (turned c.before) in
    omega (arith, more, new, l.invariant.1)

pub level_blocks-sum-requires : goal.level_blocks-sum-requires
level_blocks-sum-requires c =
    bounded c.args.s 0 c.args.edge _ _ _ (shape_bounds c.args.s c.requires.0) c.requires.1
    (c.level_extent-across.ensures, c.level_extent-down.ensures, c.level_depth-deep.ensures)

pub loop-init : goal.loop-init
loop-init c =
    let s = c.args.s in
    let z = shape_bounds s c.requires.0 in
    let at : At s 0 _ _ _ = (c.level_extent-across.ensures, c.level_extent-down.ensures, c.level_depth-deep.ensures) in (
      omega arith,
      omega (
        arith,
        ap (total (level_blocks s)) (left_all (λ (k : ℕ). k) s.levels),
        total_more (λ (k : ℕ). k) s.levels (level_blocks s) 0 (omega (arith, z.levels_pos)),
        c.level_blocks-sum.ensures ∙ level_blocks_lem s 0 c.args.edge _ _ _ c.requires.1 at,
      ),
      at,
    )

pub level_blocks-sum-requires-in-loop : goal.level_blocks-sum-requires-in-loop
level_blocks-sum-requires-in-loop c =
    bounded c.args.s c.loop.counter c.args.edge _ _ _ (shape_bounds c.args.s c.requires.0) c.requires.1 (turned c)

pub overflow_add-sum : goal.overflow_add-sum
overflow_add-sum c = omega (arith, added c, sum_of_blocks c.args.s (shape_bounds c.args.s c.requires.0))

pub loop-preserved : goal.loop-preserved
loop-preserved c =
    let back : c.loop.counter + 1 - 1 ≡ c.loop.counter = omega arith in
    (omega arith, added c, rw back (turned c.before))

pub returns : goal.returns
returns c =
    let s = c.args.s in
    omega (arith, total_done (λ (k : ℕ). k) s.levels (level_blocks s) c.loop.counter c.loop-test.false, c.loop.invariant.1)
