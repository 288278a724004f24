-- Helper: Whether a trim leaves every texture as it is.
use Rattle.std.specs.Prelude.{ℕ, Bool, ◌&&◌, not, List, eqb}
use Rattle.base_blocks.specs.Lists.{listed, all}
use Rattle.pool_rules.specs.Trim.{aged, aged_count}
use Rattle.pool_trim.specs.LookAt.{spare_in}
use Rattle.pool_records.specs.Texture.{texture_in, spares_to}

-- texture i: it is not due for a look, and it gives up no spare
unfoldable pub young_at : ℕ → List ℕ → List ℕ → ℕ → Bool
young_at now textures spares i =
    not (aged now (texture_in textures i).due)
    && eqb (aged_count now (listed (spare_in spares) (spares_to textures i) (texture_in textures i).spares)) 0

-- each of the first n
unfoldable pub all_young : ℕ → List ℕ → List ℕ → ℕ → Bool
all_young now textures spares n = all (young_at now textures spares) (listed (λ i. i) 0 n)
