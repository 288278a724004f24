-- `is_idle` meets its contract. Assumes nothing.
use Rattle.pool_trim.proofs.Ages.{idle_test}
use Rattle.pool_trim.proofs.look_at.is_idle.Goals as goal

pub returns : goal.returns
returns c =
    let a = c.args in
    idle_test a.textures.now a.i a.current c.saturating_sub-oldest.result c.saturating_sub-oldest.ensures a.left
