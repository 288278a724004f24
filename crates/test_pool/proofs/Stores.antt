-- Memory of zeros has its length without being counted out. Assumes nothing.
use mathlib.Core.Path.{◌≡◌, sym, subst}
use Prim.Native.Nat.{ℕ, ◌≤◌}
use lib.ListN.{length, replicate, length-replicate}

pub zeros_count : (n : ℕ) → n ≡ length {A = ℕ} (replicate n 0)
zeros_count n = sym (length-replicate n 0)

-- memory of n zeros has room for what n has room for
pub zeros_room : (k n : ℕ) → k ≤ n → k ≤ length {A = ℕ} (replicate n 0)
zeros_room k n h = subst (λ (m : ℕ). k ≤ m) (zeros_count n) h
