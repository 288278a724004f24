-- `move_starts` meets its contract: the records from k on, moved, are what is left to do. Assumes nothing.
use mathlib.Core.Path.{refl, sym, ◌∙◌}
use native.Mathlib.Omega.{arith}
use Rattle.pool_records.proofs.Starts.{moved_done}
use Rattle.pool_access.proofs.Moves.{grid_least, grid_sum, stamp_inside, stamp_least, stamp_sum, next_long, next_can, next_left}
use Rattle.pool_access.proofs.starts.move_starts.Goals as goal

pub loop-k-init : goal.loop-k-init
loop-k-init c = (c.requires.0, c.requires.2, refl)

pub overflow_sub-textures : goal.overflow_sub-textures
overflow_sub-textures c =
    let a = c.args in
    grid_least a.grids a.stamps a.n c.loop-k.k c.loop-k.textures c.loop-k.invariant.0 c.loop-k-test.true c.loop-k.invariant.1

pub overflow_add-textures : goal.overflow_add-textures
overflow_add-textures c =
    let a = c.args in
    grid_sum a.grids a.stamps a.n c.loop-k.k c.loop-k.textures c.loop-k.invariant.0 c.loop-k-test.true c.loop-k.invariant.1 _ (omega arith)

pub bounds-textures-s : goal.bounds-textures-s
bounds-textures-s c =
    let a = c.args in
    stamp_inside a.grids a.stamps a.n c.loop-k.k c.loop-k.textures c.loop-k.invariant.0 c.loop-k-test.true c.loop-k.invariant.1 _

pub overflow_sub-textures-in-loop-k : goal.overflow_sub-textures-in-loop-k
overflow_sub-textures-in-loop-k c =
    let a = c.args in
    stamp_least a.grids a.stamps a.n c.loop-k.k c.loop-k.textures c.loop-k.invariant.0 c.loop-k-test.true c.loop-k.invariant.1 _

pub overflow_add-textures-in-loop-k : goal.overflow_add-textures-in-loop-k
overflow_add-textures-in-loop-k c =
    let a = c.args in
    stamp_sum a.grids a.stamps a.n c.loop-k.k c.loop-k.textures c.loop-k.invariant.0 c.loop-k-test.true c.loop-k.invariant.1 _ _ (omega arith)

pub bounds-textures-s-in-loop-k : goal.bounds-textures-s-in-loop-k
bounds-textures-s-in-loop-k c =
    let a = c.args in
    stamp_inside a.grids a.stamps a.n c.loop-k.k c.loop-k.textures c.loop-k.invariant.0 c.loop-k-test.true c.loop-k.invariant.1 _

pub loop-k-preserved : goal.loop-k-preserved
loop-k-preserved c =
    let a = c.args in (
      omega (arith, c.loop-k.invariant.0, next_long a.grids a.stamps a.n c.loop-k.k c.loop-k.textures c.loop-k.invariant.0 c.loop-k-test.true c.loop-k.invariant.1),
      next_can a.grids a.stamps a.n c.loop-k.k c.loop-k.textures c.loop-k.invariant.0 c.loop-k-test.true c.loop-k.invariant.1,
      next_left a.grids a.stamps a.n c.loop-k.k c.loop-k.textures c.loop-k.invariant.0 c.loop-k-test.true c.loop-k.invariant.1 ∙ c.loop-k.invariant.2,
    )

pub returns : goal.returns
returns c =
    let a = c.args in
    sym (moved_done a.grids a.stamps a.n c.loop-k.k c.loop-k.textures c.loop-k.invariant.0 (omega arith)) ∙ c.loop-k.invariant.2
