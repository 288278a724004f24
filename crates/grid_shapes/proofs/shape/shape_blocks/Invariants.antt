-- `grid_shapes::shape::shape_blocks` meets its contract. The blocks so far and those of the levels that are left make the whole, and the extents are the last level's.
use Prim.Native.Nat.{ℕ, ◌+◌, ◌-◌, ◌≤◌}
use mathlib.Core.Path.{◌≡◌}
use Rattle.base_blocks.specs.Lists.{total, listed}
use Rattle.base_blocks.proofs.Listed.{left}
use Rattle.grid_shapes.specs.declared.shape.VersionShape.{VersionShape}
use Rattle.grid_shapes.specs.Shapes.{level_extent, level_depth, level_blocks}
use Rattle.grid_shapes.proofs.shape.shape_blocks.Given as goal

-- the blocks of the levels that are left
abbrev pub still : VersionShape → ℕ → ℕ
still s level = total (level_blocks s) (left (λ (k : ℕ). k) s.levels level)

-- and of all of them
abbrev pub all_levels : VersionShape → ℕ
all_levels s = total (level_blocks s) (listed (λ (k : ℕ). k) 0 s.levels)

-- the extents of a level
abbrev pub At : VersionShape → ℕ → ℕ → ℕ → ℕ → Type 0
At s level across down deep = (across ≡ level_extent s.width level) × (down ≡ level_extent s.height level) × (deep ≡ level_depth s level)

-- the counter is the next level
abbrev pub invariant-loop : goal.invariant-loop
invariant-loop l =
    let s = l.fn.s in
    (1 ≤ l.counter) × (l.sum + still s l.counter ≡ all_levels s) × At s (l.counter - 1) l.across l.down l.deep
