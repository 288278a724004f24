-- Laws of memory that is all zeros, which has its length without being counted out. Assumes nothing.
use mathlib.Core.Path.{◌≡◌, sym}
use Prim.Native.Nat.{ℕ}
use lib.ListN.{length, replicate, length-replicate}

pub zeros_count : (n : ℕ) → n ≡ length {A = ℕ} (replicate n 0)
zeros_count n = sym (length-replicate n 0)
