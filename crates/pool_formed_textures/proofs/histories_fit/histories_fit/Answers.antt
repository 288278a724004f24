-- The two tables are those of the rule: tested as a whole, by computation (`refl`). Assumes nothing.
use mathlib.Core.Path.{refl}
use Rattle.base_blocks.specs.Lists.{ceil_div, listed, all, tests, after}
use Rattle.grid_axes.specs.EdgeTables.{is_edge_table, entry_of, edge_at}
use Rattle.pool_formed_textures.proofs.histories_fit.histories_fit.Goals as goal

pub histories_in-requires : goal.histories_in-requires
unfolding is_edge_table entry_of edge_at ceil_div all listed tests after
histories_in-requires c =
    let p = c.requires in
    (p.0, p.1, p.2, p.3, (refl, refl))
