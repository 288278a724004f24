-- `grid_shapes::format::block_bytes` meets its contract. Within the formats by the five bits of each, past them by the 0 that stands for the rest.
use mathlib.Core.Path.{sym}
use lib.ListN.{get_or-eq_default}
use Rattle.grid_shapes.specs.Formats.{bytes_per_block, block_bytes}
use Rattle.grid_shapes.proofs.Formats.{bytes_of}
use Rattle.grid_shapes.proofs.format.block_bytes.Goals as goal

pub returns-then-format-lt9 : goal.returns-then-format-lt9
returns-then-format-lt9 c = sym (bytes_of c.args.format c.if-format-lt9.true)

pub returns-else-format-lt9 : goal.returns-else-format-lt9
unfolding block_bytes
returns-else-format-lt9 c = sym (get_or-eq_default bytes_per_block 0 {n = c.args.format} c.if-format-lt9.false)
