-- The touched tiles by number. Assumes nothing.
use mathlib.Core.Path.{◌≡◌}
use Prim.Native.Nat.{◌+◌, ◌-◌, min}
use native.Mathlib.Omega.{arith}
use borrow.Author.Tests.{lt-ltb, le-ltb}
use Rattle.grid_axes.specs.Axes.{touched_tiles, is_cut, cut_end}
use Rattle.grid_axes.proofs.axis.touched_tiles.Goals as goal

pub returns-then-a-start : goal.returns-then-a-start
unfolding touched_tiles is_cut cut_end
returns-then-a-start c =
    let a = c.args in
    rw (le-ltb a.start (min (a.start + a.size) a.a.extent) (omega arith))

pub returns-then-size-eq0 : goal.returns-then-size-eq0
unfolding touched_tiles is_cut cut_end
returns-then-size-eq0 c =
    let a = c.args in
    rw (le-ltb a.start (min (a.start + a.size) a.a.extent) (omega arith))

pub returns : goal.returns
unfolding touched_tiles is_cut cut_end
returns c =
    let a = c.args in
    let last : min (a.start + a.size) a.a.extent - 1 ≡ a.start + c.min.result - 1 = omega arith in
    rw (lt-ltb a.start (min (a.start + a.size) a.a.extent) (omega arith), last, c.tile_of.ensures, c.tile_of-2.ensures)
