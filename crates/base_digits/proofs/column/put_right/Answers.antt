-- `put_right` meets its contract: blanks, then the digits. Assumes nothing.
use mathlib.Core.Path.{ap}
use Prim.Native.Nat.{ℕ, ◌-◌}
use Rattle.base_digits.specs.Digits.{digits_of}
use Rattle.base_digits.proofs.Aligned.{right_put}
use Rattle.base_digits.proofs.column.put_right.Goals as goal

pub returns : goal.returns
returns c =
    let a = c.args in
    right_put a.out.now a.at a.width _ (digits_of a.n) _ _ (ap (λ (k : ℕ). a.width - k) c.digit_count.ensures) c.put_blanks.ensures c.put_number.ensures.1
