-- Where a trim's pass over the textures stands after i of them, and before the first. Assumes nothing.
use mathlib.Core.Path.{◌≡◌, refl, sym, ap, ◌∙◌}
use mathlib.Core.List.{List, map, flat_map}
use Prim.Native.Nat.{ℕ, ◌+◌, ◌*◌, ◌/◌, ◌≤◌}
use native.Mathlib.Omega.{arith}
use lib.ListN.{length}
use Rattle.base_blocks.specs.Lists.{total}
use Rattle.base_tables.specs.Rings.{laid}
use Rattle.pool_rules.specs.Model.{doomed_bytes}
use Rattle.pool_rules.specs.HistorySizes.{newest_used, stamps_used}
use Rattle.pool_records.specs.Texture.{read_texture, spares_to}
use Rattle.pool_records.specs.Doomed.{write_doomed}
use Rattle.pool_memory.specs.Lent.{Lent}
use Rattle.pool_memory.specs.Writing.{doomed_record, every_spare, newest_of, stamps_of, textures_after, spares_after, newest_after, stamps_after}
use Rattle.pool_memory.proofs.Runs.{first_grid, first_stamp}
use Rattle.pool_memory.proofs.Passes.{textures_start, spares_start, newest_start, stamps_start}
use Rattle.pool_access.proofs.Totals.{total_none}
use Rattle.pool_trim.specs.declared.pass.Pass.{Pass}
use Rattle.pool_trim.specs.Pass.{no_pass, trimmed}
use Rattle.pool_trim.proofs.Steps.{given_to, kept_to}
use Rattle.grid_shapes.specs.ShapeConstants.{most_shape_bytes}
use Rattle.pool_records.specs.RecordConstants.{doomed_stride, retiring_stride, texture_stride}

-- the pass w after i textures, with the slices as they stand then
pub record Sofar (l : Lent) (now i : ℕ) (w : Pass) (T D S N P : List ℕ) : Type 0 where
  pub at : i ≤ l.pool.tracked
  -- what was read
  pub first : w.first ≡ spares_to l.textures i
  -- what is left of it, and what was given up
  pub tracked : w.tracked ≡ length (kept_to l now i)
  pub kept : w.kept ≡ length (every_spare (kept_to l now i))
  pub grids : w.grids ≡ total newest_used (kept_to l now i)
  pub stamps_used_lem : w.stamps ≡ total stamps_used (kept_to l now i)
  pub count : w.count ≡ length (given_to l now i)
  pub freed : w.freed ≡ doomed_bytes (given_to l now i)
  -- no more is written than was read
  pub fewer : w.tracked ≤ i
  pub low : w.grids ≤ first_grid l i
  pub stamps_low : w.stamps ≤ first_stamp l i
  pub all : w.count + w.kept ≡ w.first
  pub light : w.freed ≤ most_shape_bytes * w.count
  -- the slices
  pub textures : T ≡ textures_after (trimmed l now i) l
  pub doomed : D ≡ laid doomed_stride write_doomed (length l.retiring / retiring_stride) l.pool.first l.pool.doomed (map doomed_record (given_to l now i)) l.doomed
  pub spares : S ≡ spares_after (trimmed l now i) l
  pub newest : N ≡ newest_after (trimmed l now i) l
  pub stamps : P ≡ stamps_after (trimmed l now i) l
  pub newest_long : length (flat_map newest_of (kept_to l now i)) ≡ w.grids
  pub stamps_long : length (flat_map stamps_of (kept_to l now i)) ≡ w.stamps
  pub t_long : length T ≡ length l.textures
  pub d_long : length D ≡ length l.doomed
  pub s_long : length S ≡ length l.spares
  pub n_long : length N ≡ length l.newest
  pub p_long : length P ≡ length l.stamps

-- nothing is read yet
pub sofar_start : (l : Lent) (now : ℕ) (w : Pass) → w ≡ no_pass → Sofar l now 0 w l.textures l.doomed l.spares l.newest l.stamps
unfolding no_pass trimmed flat_map total laid
sofar_start l now w e = record {
  at = omega arith;
  first = ap (λ (x : Pass). x.first) e ∙ sym (total_none texture_stride read_texture (λ t. t.spares) l.textures);
  tracked = ap (λ (x : Pass). x.tracked) e;
  kept = ap (λ (x : Pass). x.kept) e;
  grids = ap (λ (x : Pass). x.grids) e;
  stamps_used_lem = ap (λ (x : Pass). x.stamps) e;
  count = ap (λ (x : Pass). x.count) e;
  freed = ap (λ (x : Pass). x.freed) e;
  fewer = omega (arith, ap (λ (x : Pass). x.tracked) e);
  low = omega (arith, ap (λ (x : Pass). x.grids) e);
  stamps_low = omega (arith, ap (λ (x : Pass). x.stamps) e);
  all = omega (arith, ap (λ (x : Pass). x.count) e, ap (λ (x : Pass). x.kept) e, ap (λ (x : Pass). x.first) e);
  light = omega (arith, ap (λ (x : Pass). x.freed) e);
  textures = sym (textures_start l (trimmed l now 0) refl);
  doomed = refl;
  spares = sym (spares_start l (trimmed l now 0) refl);
  newest = sym (newest_start l (trimmed l now 0) refl);
  stamps = sym (stamps_start l (trimmed l now 0) refl);
  newest_long = sym (ap (λ (x : Pass). x.grids) e);
  stamps_long = sym (ap (λ (x : Pass). x.stamps) e);
  t_long = refl;
  d_long = refl;
  s_long = refl;
  n_long = refl;
  p_long = refl;
}
