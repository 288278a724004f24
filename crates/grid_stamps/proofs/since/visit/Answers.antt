-- One tile more. Assumes nothing.
use native.Mathlib.Omega.{arith}
use borrow.Author.Tests.{lt-ltb, le-ltb}
use Rattle.grid_stamps.specs.Scans.{visited, joined}
use Rattle.grid_stamps.proofs.since.visit.Goals as goal

pub returns-then-stamp-held : goal.returns-then-stamp-held
unfolding visited
returns-then-stamp-held c = let a = c.args in rw (le-ltb a.held a.stamp (omega arith))

pub returns-in-Some : goal.returns-in-Some
unfolding visited joined
returns-in-Some c =
    let a = c.args in
    rw (lt-ltb a.held a.stamp c.if-stamp-held.false, c.in-Some.is, c.widened.ensures, c.widened-in-Some.ensures)

pub returns-in-None : goal.returns-in-None
unfolding visited joined
returns-in-None c =
    let a = c.args in
    rw (lt-ltb a.held a.stamp c.if-stamp-held.false, c.in-None.is, c.one_tile.ensures, c.one_tile-in-None.ensures)
