-- `grid_shapes::recording::records_every_write` meets its contract. By the shape; the tests are the definition's, in its order.
use mathlib.Core.Path.{sym, ◌∙◌}
use borrow.Author.Tests.{not-true, not-false}
use Rattle.base_blocks.specs.Lists.{after, tests}
use Rattle.grid_shapes.specs.Outcomes.{of_records}
use Rattle.grid_shapes.specs.Shapes.{records_every_write}
use Rattle.grid_shapes.proofs.Answers.{records_refused, records_accepted}
use Rattle.grid_shapes.proofs.recording.records_every_write.Goals as goal

pub returns-then-not-is_shape : goal.returns-then-not-is_shape
unfolding of_records
returns-then-not-is_shape c =
    let a = c.args in
    sym (records_refused a.s a.usage (sym c.is_shape.ensures ∙ not-true _ c.if-not-is_shape.true-raw))

pub returns : goal.returns
unfolding of_records records_every_write tests after
returns c =
    let a = c.args in
    sym (records_accepted a.s a.usage (sym c.is_shape.ensures ∙ not-false _ c.if-not-is_shape.false-raw))
