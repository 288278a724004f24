-- `place` meets its contract: before the wrap and past it. Assumes nothing.
use borrow.Author.Rules.{rules}
use Rattle.base_tables.proofs.Rings.{place_near, place_far}
use Rattle.base_tables.proofs.ring.place.Goals as goal

pub returns-then-i-near : goal.returns-then-i-near
returns-then-i-near c = (search rules, place_near _ _ _ c.if-i-near.true)

pub returns : goal.returns
returns c = (search rules, place_far _ _ _ c.if-i-near.false)
