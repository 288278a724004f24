-- A law of the stores that are lent. Assumes nothing.
use mathlib.Core.Path.{subst}
use Prim.Native.Nat.{ℕ, ◌≤◌}
use lib.ListN.{length, replicate}
use Rattle.event_stream.proofs.Lengths.{zeros_count}

-- memory of n zeros has room for what n has room for
pub zeros_room : (k n : ℕ) → k ≤ n → k ≤ length {A = ℕ} (replicate n 0)
zeros_room k n h = subst (λ (m : ℕ). k ≤ m) (zeros_count n) h
