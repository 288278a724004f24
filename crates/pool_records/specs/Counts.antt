-- Helper: Laws of the numbers that stand for an enum: each number is one value, and each value one number. Assumes nothing.
use mathlib.Core.Path.{◌≡◌, refl}
use Prim.Native.Nat.{ℕ, zero, suc}
use Rattle.pool_rules.specs.declared.held.Held.{Held}
use Rattle.pool_rules.specs.declared.held.Held.TheVariants.{Known, Unknown}
use Rattle.std.specs.Prelude.{Some, None}
use Rattle.pool_records.specs.Held.{held_of, held_number}
use Rattle.pool_records.specs.Recorded.{Recorded, recorded_of, recorded_number}

pub number_held : (n : ℕ) → held_number (held_of n) ≡ n
number_held zero = refl
number_held (suc n) = refl

pub held_number_lem : (h : Held) → held_of (held_number h) ≡ h
held_number_lem (Known c) = refl
held_number_lem Unknown = refl

pub number_recorded : (n : ℕ) → recorded_number (recorded_of n) ≡ n
number_recorded zero = refl
number_recorded (suc n) = refl

pub recorded_number_lem : (h : Recorded) → recorded_of (recorded_number h) ≡ h
recorded_number_lem (Some w) = refl
recorded_number_lem None = refl
