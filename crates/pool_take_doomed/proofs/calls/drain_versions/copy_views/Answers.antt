-- `copy_views` meets its contract: three columns, one after the other. Assumes nothing.
use Rattle.pool_take_doomed.proofs.Columns.{views_copied}
use Rattle.pool_take_doomed.proofs.calls.drain_versions.copy_views.Goals as goal

pub returns : goal.returns
returns c =
    let a = c.args in
    views_copied a.pool a.places a.retiring.now a.doomed.now a.spares.now a.buffer.now c.requires.6 _ _ _ c.copy_column.ensures c.copy_column-2.ensures c.copy_column-3.ensures
