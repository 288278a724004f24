-- Laws of the numbers of a texture's record, each read by itself, and of where its grids and stamps end. Assumes nothing.
use mathlib.Core.Path.{◌≡◌, sym, ap}
use mathlib.Core.Bool.{cond}
use mathlib.Core.List.{List}
use Prim.Native.Nat.{ℕ, ◌+◌, ◌*◌, ◌≤◌}
use borrow.Author.Tests.{le-ltb}
use lib.Dec.{ltb}
use lib.ListN.{get_or}
use lib.Seq.{get_or-drop}
use Rattle.base_tables.specs.Records.{record_at}
use Rattle.pool_records.specs.Texture.{read_texture, texture_in}
use Rattle.pool_records.specs.Starts.{grid_end, stamp_end}
use Rattle.pool_records.specs.RecordConstants.{texture_stride, texture_grid_at, texture_stamp_at, texture_spares_at}
use Rattle.pool_records.proofs.Starts.{grid_number, stamp_number}

pub spares_number : (s : List ℕ) (i : ℕ) → get_or s (texture_stride * i + texture_spares_at) 0 ≡ (texture_in s i).spares
unfolding record_at read_texture
spares_number s i = sym (get_or-drop (texture_stride * i) s texture_spares_at 0)

-- where its grids and its stamps end: where the next record's begin, or where all end
module _ (s : List ℕ) (n used i : ℕ) where
  pub next_grid : cond (ltb (i + 1) n) (get_or s (texture_stride * (i + 1) + texture_grid_at) 0) used ≡ grid_end s n used i
  unfolding grid_end
  next_grid = ap (λ (k : ℕ). cond (ltb (i + 1) n) k used) (grid_number s (i + 1))

  -- the last record of them all ends where all end
  pub last_grid : n ≤ i + 1 → used ≡ grid_end s n used i
  unfolding grid_end
  last_grid h = let e = le-ltb (i + 1) n h in rw e

  pub next_stamp : cond (ltb (i + 1) n) (get_or s (texture_stride * (i + 1) + texture_stamp_at) 0) used ≡ stamp_end s n used i
  unfolding stamp_end
  next_stamp = ap (λ (k : ℕ). cond (ltb (i + 1) n) k used) (stamp_number s (i + 1))

  pub last_stamp : n ≤ i + 1 → used ≡ stamp_end s n used i
  unfolding stamp_end
  last_stamp h = let e = le-ltb (i + 1) n h in rw e
