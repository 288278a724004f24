-- `put_column` meets its contract. Assumes nothing.
use mathlib.Core.Path.{refl, ap, sym}
use Prim.Native.Nat.{ℕ, ◌+◌}
use Rattle.base_digits.specs.Aligned.{right}
use Rattle.base_digits.specs.Digits.{digits_of}
use Rattle.base_digits.proofs.Aligned.{right_length}
use Rattle.base_digits.proofs.Puts.{put_after}
use Rattle.pool_sheet.specs.Records.{column}
use Rattle.pool_sheet.proofs.lines.put_column.Goals as goal

pub returns : goal.returns
unfolding column
returns c =
    let a = c.args in (
      refl,
      put_after {xs = right a.width (digits_of a.n)} 32 (record { ends = ap (λ (k : ℕ). a.at + k) (sym (right_length a.width (digits_of a.n) c.requires.0)); makes = c.put_right.ensures }),
    )
