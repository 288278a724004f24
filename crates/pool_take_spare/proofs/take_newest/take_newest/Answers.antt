-- `take_newest` meets its contract: the record renamed, and the newest spare taken out where there is one. Assumes nothing.
use mathlib.Core.Path.{refl}
use Rattle.pool_take_spare.proofs.TakenNewest.{none_left, spare_left}
use Rattle.pool_take_spare.proofs.take_newest.take_newest.Goals as goal

pub returns-then-t-eq0 : goal.returns-then-t-eq0
returns-then-t-eq0 c =
    none_left _ _ _ _ _ _ _ _ c.texture_at-t.ensures c.if-t-eq0.true c.renamed.ensures c.put_texture.ensures

pub returns : goal.returns
returns c =
    spare_left _ _ _ _ _ _ _ _ c.texture_at-t.ensures _ _ _ _ c.if-t-eq0.false c.spares_before.ensures refl c.spare_at-spare.ensures c.renamed-2.ensures c.put_texture-2.ensures c.remove_records.ensures
