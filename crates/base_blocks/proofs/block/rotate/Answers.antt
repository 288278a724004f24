-- `rotate` meets its contract: three blocks turned are two blocks that change places. Assumes nothing.
use Rattle.std.proofs.Common.{◌+◌, ap, ◌∙◌}
use Rattle.base_blocks.specs.Blocks.{turned}
use Rattle.base_blocks.proofs.Blocks.{turned_rotated}
use Rattle.base_blocks.proofs.block.rotate.Goals as goal

pub returns : goal.returns
returns c =
    let a = c.args in
    c.reverse-3.ensures
    ∙ ap (turned a.at (a.n + a.k)) (c.reverse-2.ensures ∙ ap (turned (a.at + a.n) a.k) c.reverse.ensures)
    ∙ turned_rotated a.at a.n a.k a.s.now c.requires
