-- `is_record` meets its contract: a shape that does not pass decides alone. Assumes nothing.
use mathlib.Core.Path.{sym, ◌∙◌}
use borrow.Author.Tests.{not-true, not-false}
use Rattle.pool_formed_textures.proofs.RecordTests.{record_unshaped, record_test}
use Rattle.pool_formed_textures.proofs.records_fit.is_record.Goals as goal

pub returns-then-not-is_shape : goal.returns-then-not-is_shape
returns-then-not-is_shape c =
    record_unshaped _ _ c.read-t.ensures (sym c.is_shape.ensures ∙ not-true _ c.if-not-is_shape.true-raw)

pub shape_bytes-requires : goal.shape_bytes-requires
shape_bytes-requires c =
    sym c.is_shape.ensures ∙ not-false _ c.if-not-is_shape.false-raw

pub returns : goal.returns
returns c =
    record_test _ _ c.read-t.ensures _ _ (sym c.is_shape.ensures ∙ not-false _ c.if-not-is_shape.false-raw) c.writes_fit.ensures c.shape_bytes.ensures
