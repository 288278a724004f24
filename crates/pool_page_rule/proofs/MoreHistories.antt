-- Cubes of small levels fill a page to its last stamps: by computation.
use mathlib.Core.Path.{refl}
use Rattle.base_blocks.specs.Lists.{listed, total, tests, ceil_div}
use Rattle.grid_shapes.specs.Formats.{block_edge}
use Rattle.grid_shapes.specs.Shapes.{is_shape, same_shape, slices_of, level_extent, level_width, level_height}
use Rattle.grid_axes.specs.Axes.{tile_edge, axis_of, tiles_of}
use Rattle.grid_stamps.specs.Grids.{tiling_of, columns_of, rows_of, stamp_count}
use Rattle.pool_rules.specs.Model.{guard, find, grid_count}
use Rattle.pool_rules.specs.HistorySizes.{grid_size, history_size}
use Rattle.pool_rules.specs.Updates.{change, insert}
use Rattle.pool_rules.specs.TakeSpare.{take_spare}
use Rattle.pool_books.specs.Demand3.{perform}
use Rattle.pool_books.specs.Sample.{flat_shape, replies_of}
use Rattle.pool_page_rule.specs.PageRule.{take_spare_by, call_by, replies_by}
use Rattle.pool_page_rule.specs.MoreHistories.{MoreHistories}

pub more_histories : MoreHistories
unfolding listed total tests ceil_div block_edge is_shape same_shape slices_of level_extent level_width level_height tile_edge axis_of tiles_of tiling_of columns_of rows_of stamp_count guard find grid_count grid_size history_size change insert take_spare perform flat_shape replies_of take_spare_by call_by replies_by
more_histories = record { grids = refl; stamps = refl; before = refl; eight = refl; eleven = refl; last = refl }
