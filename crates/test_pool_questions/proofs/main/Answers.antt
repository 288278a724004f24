-- `main`: the input's memory has its length, which a law says, since to count it out takes long; what was read lies within it. Assumes nothing.
use mathlib.Core.Path.{◌≡◌, sym}
use Prim.Native.Nat.{ℕ}
use lib.ListN.{length, replicate, length-replicate}
use Rattle.test_pool_questions.proofs.main.Goals as goal

zeros_count : (n : ℕ) → n ≡ length {A = ℕ} (replicate n 0)
zeros_count n = sym (length-replicate n 0)

pub slice_bounds-read_full-end : goal.slice_bounds-read_full-end
slice_bounds-read_full-end c = zeros_count 524288

pub slice_bounds-run_lines-end : goal.slice_bounds-run_lines-end
slice_bounds-run_lines-end c = c.read_full-to.ensures.0
