-- Rule: The bytes of characters that have no other text: a blank, and what ends a line.
use Rattle.std.specs.Prelude.{ℕ}

abbrev pub blank : ℕ
blank = 32

abbrev pub line_feed : ℕ
line_feed = 10
