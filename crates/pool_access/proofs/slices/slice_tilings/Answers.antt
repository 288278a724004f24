-- `slice_tilings` meets its contract: the table is that of the format's block edge, by its rule tested as a whole. Assumes nothing.
use mathlib.Core.Path.{refl}
use Rattle.base_blocks.specs.Lists.{ceil_div, listed, all, tests, after}
use Rattle.grid_axes.specs.EdgeTables.{is_edge_table, entry_of, edge_at}
use Rattle.grid_stamps.proofs.Tilings.{texels_table, blocks_table}
use Rattle.pool_access.proofs.slices.slice_tilings.Goals as goal

pub tilings_in-requires : goal.tilings_in-requires
tilings_in-requires c = (
  c.requires,
  texels_table _ _ c.block_edge.ensures _ c.if-block_edge-eq1.true
      (unfold is_edge_table entry_of edge_at ceil_div all listed tests after in refl),
)

pub returns-then-block_edge-eq1 : goal.returns-then-block_edge-eq1
returns-then-block_edge-eq1 c = c.tilings_in.ensures

pub tilings_in-requires-2 : goal.tilings_in-requires-2
tilings_in-requires-2 c = (
  c.requires,
  blocks_table _ _ c.block_edge.ensures _ c.if-block_edge-eq1.false
      (unfold is_edge_table entry_of edge_at ceil_div all listed tests after in refl),
)

pub returns : goal.returns
returns c = c.tilings_in-2.ensures
