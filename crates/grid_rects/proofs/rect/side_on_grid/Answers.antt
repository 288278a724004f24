-- `grid_rects::rect::side_on_grid` meets its contract. Each return is one case of a side.
use mathlib.Core.Path.{◌≡◌, sym, ◌∙◌}
use mathlib.Core.Bool.{true}
use borrow.Author.Tests.{not-true, not-false}
use Rattle.grid_rects.specs.Rects.{is_multiple_of}
use Rattle.grid_rects.proofs.Rects.{multiple_answer, side_off_start, side_of_blocks, side_past, side_rest}
use Rattle.grid_rects.proofs.rect.side_on_grid.Goals as goal
use Rattle.grid_rects.proofs.rect.side_on_grid.Goals.{After-is_multiple_of-2}

-- the start is on the grid where the first test was passed
start : (c : After-is_multiple_of-2) → is_multiple_of c.args.start c.args.block ≡ true
start c = sym (multiple_answer _ _ _ c.is_multiple_of.ensures) ∙ not-false _ c.if-not-is_multiple_of.false-raw

pub returns-then-not-is_multiple_of : goal.returns-then-not-is_multiple_of
returns-then-not-is_multiple_of c = sym (side_off_start _ _ _ _ (sym (multiple_answer _ _ _ c.is_multiple_of.ensures) ∙ not-true _ c.if-not-is_multiple_of.true-raw))

pub returns-then-is_multiple_of : goal.returns-then-is_multiple_of
returns-then-is_multiple_of c = sym (side_of_blocks _ _ _ _ (start (goal.at.returns-then-is_multiple_of c).After-is_multiple_of-2) (sym (multiple_answer _ _ _ c.is_multiple_of-2.ensures) ∙ c.if-is_multiple_of.true))

pub returns-then-extent-start : goal.returns-then-extent-start
returns-then-extent-start c = sym (side_past _ _ _ _ (sym (multiple_answer _ _ _ c.is_multiple_of-2.ensures) ∙ c.if-is_multiple_of.false) c.if-extent-start.true)

pub returns : goal.returns
returns c = sym (side_rest _ _ _ _ (start (goal.at.returns c).After-is_multiple_of-2) (sym (multiple_answer _ _ _ c.is_multiple_of-2.ensures) ∙ c.if-is_multiple_of.false) c.if-extent-start.false)
