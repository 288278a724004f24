-- A table of tile edges whose rule was tested as a whole gives the rule at each entry, for any block edge and any table. Assumes nothing.
use mathlib.Core.Path.{◌≡◌, refl, ap, ◌∙◌}
use mathlib.Core.Bool.{Bool, true, false}
use mathlib.Core.List.{List}
use mathlib.Core.Logic.{◌⊎◌, inl, inr, ⊎_elim}
use Prim.Native.Nat.{ℕ, ◌≤◌, ◌<◌, max}
use native.Mathlib.Nat.{mul-mod_left}
use native.Mathlib.Omega.{arith}
use lib.Dec.{eqb}
use lib.ListN.{length}
use borrow.Author.Tests.{eqb-true}
use Rattle.base_blocks.specs.Lists.{ceil_div}
use Rattle.base_blocks.proofs.Numbers.{ceil_covers, ceil_least}
use Rattle.base_blocks.proofs.Lists.{passed}
use Rattle.base_blocks.proofs.Listed.{tested_below}
use Rattle.grid_axes.specs.Axes.{tile_edge, axis_of}
use Rattle.grid_axes.specs.AxisConstants.{edge_entries, max_tiles_per_axis, min_tile_texels}
use Rattle.grid_axes.specs.EdgeTables.{has_table, edge_at, entry_of, is_edge_table, edge_index, axis_in, TableClaims}

-- every axis that a level can have has an entry
pub index_below : (extent : ℕ) → extent ≤ 16384 → edge_index extent < edge_entries
unfolding edge_index
index_below extent h = omega (arith, h, ceil_least extent max_tiles_per_axis (omega arith))

module _ (block : ℕ) (table : List ℕ) (tested : is_edge_table block table ≡ true) where
  pub table_length : length table ≡ edge_entries
  unfolding is_edge_table
  table_length = eqb-true _ _ (passed _ tested 0)

  -- the one law of tables: each entry is the rule's
  pub table_entry : (k : ℕ) → k < edge_entries → entry_of table k ≡ edge_at block k
  unfolding is_edge_table
  table_entry k h = eqb-true _ _ (tested_below (λ (j : ℕ). eqb (entry_of table j) (edge_at block j)) edge_entries k (passed _ tested 1) h)

  -- so is the edge of every axis that a level can have
  pub table_edge : (extent : ℕ) → extent ≤ 16384 → entry_of table (edge_index extent) ≡ tile_edge extent block
  unfolding tile_edge edge_at edge_index
  table_edge extent h = table_entry (edge_index extent) (index_below extent h)

  pub table_axis : (extent : ℕ) → extent ≤ 16384 → axis_in table extent ≡ axis_of extent block
  unfolding axis_in axis_of
  table_axis extent h = ap (λ (e : ℕ). record { extent = extent; edge = e }) (table_edge extent h)

  -- what 02 says of a table
  pub table_claims : 0 < block → TableClaims block table
  unfolding edge_at
  table_claims pos = record {
    edge = table_edge;
    multiple = λ k h. rw (table_entry k h) (mul-mod_left (ceil_div (max min_tile_texels k) block) block);
    least = λ k h. rw (table_entry k h) (ceil_covers (max min_tile_texels k) block pos);
    bound = λ k h. rw (table_entry k h) (ceil_least (max min_tile_texels k) block pos);
  }

-- a number that was read from a table is the rule's; that it was read comes first, since it says from which table
pub entry_read : (block : ℕ) (table : List ℕ) (x k : ℕ) → x ≡ entry_of table k → is_edge_table block table ≡ true → k < edge_entries → x ≡ edge_at block k
entry_read block table x k e tested h = e ∙ table_entry block table tested k h

-- a block edge that has a table is one of these
pub block_cases : (block : ℕ) → has_table block ≡ true → (block ≡ 1) ⊎ (block ≡ 4)
block_cases block h = go (eqb block 1) refl
  where
    go : (b : Bool) → eqb block 1 ≡ b → (block ≡ 1) ⊎ (block ≡ 4)
    go true e = inl (eqb-true block 1 e)
    go false e = inr (eqb-true block 4 (rw e at h))

pub block_pos : (block : ℕ) → has_table block ≡ true → 0 < block
block_pos block h = ⊎_elim (λ e. omega (arith, e)) (λ e. omega (arith, e)) (block_cases block h)

pub block_most : (block : ℕ) → has_table block ≡ true → block ≤ 16
block_most block h = ⊎_elim (λ e. omega (arith, e)) (λ e. omega (arith, e)) (block_cases block h)
