-- Rule: The most bytes that a version may have, with the reason.
use Rattle.std.specs.Prelude.{ℕ}

-- 2^44, more than the bytes of any version: 6 slices, 15 levels, 16,384 texels a side, 16 bytes a block, with room. No sum of
-- 4,096 such numbers wraps.
abbrev pub most_shape_bytes : ℕ
most_shape_bytes = 17592186044416
