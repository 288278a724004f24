-- `tiling_at` meets its contract: the edges that stand there are the level's. Assumes nothing.
use mathlib.Core.Path.{ap, ◌∙◌}
use Rattle.pool_records.specs.declared.tiling.GridTiling.{GridTiling}
use Rattle.pool_access.proofs.Axes.{tiling_known}
use Rattle.pool_access.proofs.tilings.tiling_at.Goals as goal

pub returns : goal.returns
returns c =
    let a = c.args in
    let r = c.read_tiling-t in
    let e = c.requires.1 in
    tiling_known a.shape a.level _ _ r.result c.level_extent.ensures c.level_extent-2.ensures
    (ap (λ (t : GridTiling). t.across) r.ensures ∙ e.across) (ap (λ (t : GridTiling). t.down) r.ensures ∙ e.down)
