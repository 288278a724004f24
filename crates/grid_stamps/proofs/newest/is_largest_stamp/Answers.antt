-- None passes the newest stamp and one equals it, so it is the largest. Assumes nothing.
use mathlib.Core.Path.{sym, ◌∙◌}
use native.Mathlib.Omega.{arith}
use lib.ListN.{take}
use lib.Seq.{length-take-le}
use borrow.Author.Tests.{not-true, not-false}
use Rattle.base_blocks.proofs.Scans.{largest_test}
use Rattle.grid_stamps.specs.Grids.{stamp_count, largest_stamp}
use Rattle.grid_stamps.proofs.newest.is_largest_stamp.Goals as goal

pub returns-then-not-within : goal.returns-then-not-within
unfolding largest_stamp
returns-then-not-within c =
    let n = c.stamp_count-count.ensures in
    let w = rw n at c.within.ensures in
    let l = length-take-le (stamp_count c.args.tiling) c.args.page.now c.requires.1 in
    sym (largest_test c.args.newest (take (stamp_count c.args.tiling) c.args.page.now) (omega (arith, l, c.requires.2)) ∙ rw (sym w ∙ not-true _ c.if-not-within.true-raw))

pub returns : goal.returns
unfolding largest_stamp
returns c =
    let n = c.stamp_count-count.ensures in
    let w = rw n at c.within.ensures in
    let m = rw n at c.contains.ensures in
    let l = length-take-le (stamp_count c.args.tiling) c.args.page.now c.requires.1 in
    m ∙ sym (largest_test c.args.newest (take (stamp_count c.args.tiling) c.args.page.now) (omega (arith, l, c.requires.2)) ∙ rw (sym w ∙ not-false _ c.if-not-within.false-raw))
