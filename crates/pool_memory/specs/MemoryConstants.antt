-- Rule: The numbers of a copy in a plan's buffer.
use Rattle.std.specs.Prelude.{ℕ}

-- The numbers of a copy in a plan's buffer.
abbrev pub copy_stride : ℕ
copy_stride = 7
