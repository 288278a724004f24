-- Rule: The stamps of a page, with the reason.
use Rattle.std.specs.Prelude.{ℕ}

-- The stamps of a page, in which they are lent: as many as the largest grid has, the most tiles along an axis, squared.
abbrev pub page_stamps : ℕ
page_stamps = 1024
