-- A format's block edge and bytes: their bounds, and the forms that the code computes them by, each by one test of the table.
use Prim.Native.Nat.{ℕ, ◌*◌, ◌/◌, ◌%◌, ◌^◌, ◌≤◌, ◌<◌}
use mathlib.Core.Path.{◌≡◌, refl, sym, ◌∙◌}
use mathlib.Core.Bool.{◌||◌, cond}
use native.Mathlib.Omega.{arith}
use native.Mathlib.Decide.{dec_lt}
use native.Mathlib.Nat.{mul-le-mul}
use lib.Dec.{leb, eqb}
use lib.ListN.{get_or-eq_default}
use borrow.Author.Tests.{leb-true, eqb-true, ne_eqb}
use Rattle.base_blocks.specs.Lists.{all, listed}
use Rattle.grid_shapes.specs.Formats.{block_edges, bytes_per_block, block_edge, block_bytes}
use Rattle.base_blocks.proofs.Lists.{entry}
use Rattle.base_blocks.proofs.Listed.{tested_below}

pub block_edge_pos : (f : ℕ) → 0 < block_edge f
unfolding block_edge all
block_edge_pos f = leb-true 1 (block_edge f) (entry (leb 1) block_edges f 1 refl refl)

pub block_edge_bound : (f : ℕ) → block_edge f ≤ 4
unfolding block_edge all
block_edge_bound f = leb-true (block_edge f) 4 (entry (λ (n : ℕ). leb n 4) block_edges f 1 refl refl)

pub block_bytes_bound : (f : ℕ) → block_bytes f ≤ 16
unfolding block_bytes all
block_bytes_bound f = leb-true (block_bytes f) 16 (entry (λ (n : ℕ). leb n 16) bytes_per_block f 0 refl refl)

-- texels of a block
pub block_texels_pos : (f : ℕ) → 0 < block_edge f * block_edge f
block_texels_pos f = mul-le-mul {n₁ = 1} {m₁ = 1} (block_edge_pos f) (block_edge_pos f)

pub block_texels_bound : (f : ℕ) → block_edge f * block_edge f ≤ 16
block_texels_bound f = mul-le-mul (block_edge_bound f) (block_edge_bound f)

-- two formats have edge 4
pub edge_of : (f : ℕ) → block_edge f ≡ cond (eqb f 5 || eqb f 6) 4 1
unfolding block_edge all listed
edge_of f = go (dec_lt f 9)
  where
    go : Dec (f < 9) → block_edge f ≡ cond (eqb f 5 || eqb f 6) 4 1
    go (yes h) = eqb-true _ _ (tested_below (λ (k : ℕ). eqb (block_edge k) (cond (eqb k 5 || eqb k 6) 4 1)) 9 f refl h)
    go (no h) =
        get_or-eq_default block_edges 1 {n = f} (omega arith)
        ∙ sym (rw (ne_eqb f 5 (λ e. omega arith), ne_eqb f 6 (λ e. omega arith)) refl)

-- the bytes of the nine formats, five bits each
pub bytes_of : (f : ℕ) → f < 9 → block_bytes f ≡ 8950997323841 / 2 ^ (5 * f) % 32
unfolding block_bytes all listed
bytes_of f h = eqb-true _ _ (tested_below (λ (k : ℕ). eqb (block_bytes k) (8950997323841 / 2 ^ (5 * k) % 32)) 9 f refl h)
