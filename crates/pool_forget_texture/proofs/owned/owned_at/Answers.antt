-- `owned_at` meets its contract: each number is what its part answers. Assumes nothing.
use mathlib.Core.Path.{ap, ap₂}
use Prim.Native.Nat.{ℕ, ◌-◌}
use Rattle.pool_memory.proofs.Runs.{first_grid_in, first_stamp_in}
use Rattle.pool_forget_texture.specs.Owned.{owned_at}
use Rattle.pool_forget_texture.proofs.owned.owned_at.Goals as goal

pub returns : goal.returns
unfolding owned_at
returns c =
    let t = c.texture_at-t.ensures in
    λ j. record {
      first = c.first_spare-first.ensures j;
      spares = (t j).spares;
      grid = (t j).grid;
      grids = ap₂ (λ (m n : ℕ). m - n) c.grid_end.ensures (ap first_grid_in t) j;
      stamp = (t j).stamp;
      stamps = ap₂ (λ (m n : ℕ). m - n) c.stamp_end.ensures (ap first_stamp_in t) j;
      bytes = (t j).bytes;
    }
