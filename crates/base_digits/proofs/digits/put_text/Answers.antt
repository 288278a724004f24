-- `put_text` meets its contract: the part with the text in its place. Assumes nothing.
use Rattle.std.proofs.Common.{refl, arith}
use Rattle.base_blocks.proofs.Blocks.{put_mid_sets}
use Rattle.base_digits.proofs.digits.put_text.Goals as goal

pub returns : goal.returns
returns c =
    let a = c.args in
    (refl, put_mid_sets a.out.now a.at a.text.now c.requires _ _ (omega arith) c.copy_from_slice.ensures.after)
