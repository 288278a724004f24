-- Rule: The plain book (01, "Two books"): "for each id, a shape and, per texel of each slice and level, the number of its last reported write,
-- 0 at first". It knows nothing of versions.
use Rattle.std.specs.Prelude.{ℕ, cond}
use Rattle.grid_shapes.specs.declared.shape.VersionShape.{VersionShape}
use Rattle.grid_rects.specs.declared.rect.TexelRect.{TexelRect}
use Rattle.pool_books.specs.Texels.{Texel, in_write, in_regeneration}

-- the number of each texel's last reported write
abbrev pub Plain : Type 0
Plain = Texel → ℕ

-- "0 at first"
abbrev pub plain_new : Plain
plain_new t = 0

-- "A reported write inside the shape, or a regeneration, puts the next number in the texels it covers"
abbrev pub plain_write : VersionShape → ℕ → ℕ → ℕ → TexelRect → Plain → Plain
plain_write s next slice level r plain t = cond (in_write s slice level r t) next (plain t)

abbrev pub plain_regeneration : ℕ → Plain → Plain
plain_regeneration next plain t = cond (in_regeneration t) next (plain t)
