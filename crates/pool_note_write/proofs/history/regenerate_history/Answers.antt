-- `regenerate_history` meets its contract. Assumes nothing.
use mathlib.Core.Path.{ap, ◌∙◌}
use Rattle.pool_rules.specs.Model.{grid_count}
use Rattle.pool_records.specs.declared.texture.TextureRecord.{TextureRecord}
use Rattle.pool_history.specs.Remade.{newest_written, stamps_written, remade_grids}
use Rattle.pool_note_write.specs.History.{remade_at}
use Rattle.pool_note_write.proofs.history.regenerate_history.Goals as goal

pub returns : goal.returns
unfolding remade_at
returns c =
    let a = c.args in
    let read = c.texture_at-t.ensures in (
      c.regenerate_grids.ensures.0
          ∙ ap (λ (t : TextureRecord). newest_written a.newest.now t.grid (remade_grids t.shape a.n a.newest.now a.stamps.now t.grid t.stamp (grid_count t.shape))) read,
      c.regenerate_grids.ensures.1
          ∙ ap (λ (t : TextureRecord). stamps_written a.stamps.now t.stamp (remade_grids t.shape a.n a.newest.now a.stamps.now t.grid t.stamp (grid_count t.shape))) read,
    )
