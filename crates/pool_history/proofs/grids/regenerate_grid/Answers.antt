-- `regenerate_grid` meets its contract: level 0 stays, any other is stamped whole. Assumes nothing.
use mathlib.Core.Path.{sym, ap, ◌∙◌}
use Prim.Native.Nat.{ℕ, ◌+◌}
use lib.ListN.{set}
use lib.Seq.{sets}
use Rattle.grid_stamps.specs.Grids.{StampGrid}
use Rattle.pool_history.proofs.StampedParts.{newest_stands, stamps_stand}
use Rattle.pool_history.proofs.Regenerated.{remade_first, remade_later}
use Rattle.pool_memory.specs.Reading.{grid_on}
use Rattle.pool_history.proofs.grids.regenerate_grid.Goals as goal

pub returns-then-level-eq0 : goal.returns-then-level-eq0
returns-then-level-eq0 c =
    let a = c.args in
    let g = grid_on a.shape a.level a.newest.now a.stamps.now a.p a.at in
    let e = sym (remade_first a.shape a.n a.level g c.if-level-eq0.true) in (
      ap (λ (i : ℕ). a.at + i) c.stamps_at.ensures,
      newest_stands a.shape c.requires.0 a.level a.newest.now a.stamps.now a.p a.at c.requires.3 ∙ ap (λ (x : StampGrid). set a.newest.now a.p x.newest) e,
      stamps_stand a.shape c.requires.0 a.level a.newest.now a.stamps.now a.p a.at c.requires.3 ∙ ap (λ (x : StampGrid). sets a.stamps.now a.at x.stamps) e,
    )

pub returns : goal.returns
returns c =
    let a = c.args in
    let g = grid_on a.shape a.level a.newest.now a.stamps.now a.p a.at in
    let e = remade_later a.shape a.n a.level c.level_extent-width.result c.level_extent-height.result c.level_rect.result g
    c.if-level-eq0.false c.level_extent-width.ensures c.level_extent-height.ensures c.level_rect.ensures in (
      c.stamp_grid.ensures.0,
      c.stamp_grid.ensures.1 ∙ ap (λ (x : StampGrid). set a.newest.now a.p x.newest) e,
      c.stamp_grid.ensures.2 ∙ ap (λ (x : StampGrid). sets a.stamps.now a.at x.stamps) e,
    )
