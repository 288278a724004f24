-- Rule: The writes that a spare holds as one number: 0 is unknown, c + 1 is known to be c.
use Rattle.std.specs.Prelude.{ℕ, zero, suc, ◌<◌, ◌^◌}
use Rattle.pool_rules.specs.declared.held.Held.{Held}
use Rattle.pool_rules.specs.declared.held.Held.TheVariants.{Known, Unknown}

abbrev pub held_of : ℕ → Held
held_of zero = Unknown
held_of (suc c) = Known c

abbrev pub held_number : Held → ℕ
held_number (Known c) = suc c
held_number Unknown = zero

-- the number fits a word: a known count is below 2^64 - 1
abbrev pub HeldFits : Held → Type 0
HeldFits h = held_number h < 2 ^ 64
