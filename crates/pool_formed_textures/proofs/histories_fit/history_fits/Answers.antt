-- `history_fits` meets its contract. Assumes nothing.
use mathlib.Core.Path.{ap, ◌∙◌}
use Rattle.grid_shapes.specs.Shapes.{is_shape}
use Rattle.grid_stamps.proofs.Tilings.{texels_table, blocks_table}
use Rattle.pool_records.specs.declared.texture.TextureRecord.{TextureRecord}
use Rattle.pool_formed_textures.proofs.HistoryTests.{history_writes, history_none}
use Rattle.pool_formed_textures.proofs.histories_fit.history_fits.Goals as goal

pub grids_fit-requires : goal.grids_fit-requires
grids_fit-requires c =
    let e = c.read-t.ensures in
    (ap (λ (t : TextureRecord). is_shape t.shape) e ∙ c.requires.1, texels_table _ _ c.block_edge.ensures _ c.if-block_edge-eq1.true c.requires.2.0)

pub returns-then-block_edge-eq1 : goal.returns-then-block_edge-eq1
returns-then-block_edge-eq1 c = c.grids_fit.ensures ∙ history_writes _ _ _ _ c.read-t.ensures _ c.in-Some.is

pub grids_fit-requires-in-Some : goal.grids_fit-requires-in-Some
grids_fit-requires-in-Some c =
    let e = c.read-t.ensures in
    (ap (λ (t : TextureRecord). is_shape t.shape) e ∙ c.requires.1, blocks_table _ _ c.block_edge.ensures _ c.if-block_edge-eq1.false c.requires.2.1)

pub returns-else-block_edge-eq1 : goal.returns-else-block_edge-eq1
returns-else-block_edge-eq1 c = c.grids_fit-in-Some.ensures ∙ history_writes _ _ _ _ c.read-t.ensures _ c.in-Some.is

pub returns-in-None : goal.returns-in-None
returns-in-None c = history_none _ _ _ _ c.read-t.ensures c.in-None.is
