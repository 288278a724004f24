-- The sizes are the lengths' alone, and decide what `open` says. Assumes nothing.
use Prim.Native.Nat.{ℕ, ◌*◌, ◌/◌, ◌<◌, min}
use mathlib.Core.Path.{◌≡◌, refl, sym, ap}
use mathlib.Core.Bool.{Bool, true, false, ◌&&◌, cond}
use native.Mathlib.Omega.{arith}
use borrow.Author.Tests.{leb-true}
use lib.Dec.{leb, eqb}
use lib.ListN.{length}
use Rattle.base_blocks.specs.Lists.{tests, after}
use Rattle.base_blocks.proofs.Lists.{passed, not_passed}
use Rattle.grid_stamps.specs.StampConstants.{page_stamps}
use Rattle.pool_records.specs.RecordConstants.{doomed_stride, retiring_stride, spare_stride, texture_stride}
use Rattle.pool_rules.specs.RuleConstants.{grid_stride, most_grids, most_places}
use Rattle.pool_rules.specs.Open.{are_places}
use Rattle.pool_memory.specs.Lent.{Lent, version_places}
use Rattle.pool_memory.specs.Reading.{model_of}
use Rattle.pool_memory.specs.IsPool.{sizes_fit}
use Rattle.pool_memory.specs.Calls.{open_number}
use Rattle.pool_open.specs.Lengths.{lengths_fit}

pub sizes_lengths : (l : Lent) → sizes_fit l
    ≡ lengths_fit (length l.textures) (length l.retiring) (length l.doomed) (length l.spares) (length l.newest) (length l.stamps)
unfolding sizes_fit lengths_fit are_places model_of version_places tests after
sizes_lengths l = refl

pub too_many_textures : (textures retiring doomed spares newest stamps : ℕ) → most_places < textures / texture_stride
    → lengths_fit textures retiring doomed spares newest stamps ≡ false
unfolding lengths_fit
too_many_textures textures retiring doomed spares newest stamps h =
    not_passed _ (λ p. let q = leb-true (textures / texture_stride) most_places (passed _ p 1) in let y : ⊥ = omega (arith, h, q) in y)

-- the length of `newest`, worked out beside the others
pub lengths_test : (textures retiring doomed spares newest stamps numbers : ℕ) → numbers ≡ grid_stride * min (most_grids * (textures / texture_stride)) stamps
    → leb 1 (textures / texture_stride) && leb (textures / texture_stride) most_places && leb 1 (retiring / retiring_stride) && leb (retiring / retiring_stride) most_places
    && leb (stamps / page_stamps) most_places && eqb textures (texture_stride * (textures / texture_stride)) && eqb retiring (retiring_stride * (retiring / retiring_stride))
    && eqb doomed (doomed_stride * (retiring / retiring_stride)) && eqb spares (spare_stride * (retiring / retiring_stride)) && eqb stamps (page_stamps * (stamps / page_stamps))
    && eqb newest numbers
    ≡ lengths_fit textures retiring doomed spares newest stamps
unfolding lengths_fit tests after
lengths_test textures retiring doomed spares newest stamps numbers e = rw e

pub opened : (l : Lent) → sizes_fit l ≡ true → 0 ≡ open_number l
unfolding open_number
opened l e = sym (ap (λ (b : Bool). cond b 0 1) e)

pub not_opened : (l : Lent) → sizes_fit l ≡ false → 1 ≡ open_number l
unfolding open_number
not_opened l e = sym (ap (λ (b : Bool). cond b 0 1) e)
