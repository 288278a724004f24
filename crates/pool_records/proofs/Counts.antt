-- What a number that is not 0 stands for: the value one below it. Assumes nothing.
use mathlib.Core.Path.{◌≡◌, refl, ap}
use Prim.Native.Nat.{ℕ, zero, suc, ◌-◌}
use native.Mathlib.Omega.{arith}
use Rattle.std.specs.Prelude.{Some}
use Rattle.pool_rules.specs.declared.held.Held.TheVariants.{Known}
use Rattle.pool_records.specs.Held.{held_of}
use Rattle.pool_records.specs.Recorded.{recorded_of}

one_less : (n : ℕ) → suc n - 1 ≡ n
one_less n = omega arith

pub held_known : (n : ℕ) → (n ≡ 0 → ⊥) → Known (n - 1) ≡ held_of n
held_known zero h = absurd (h refl)
held_known (suc n) h = ap Known (one_less n)

pub recorded_writes : (n : ℕ) → (n ≡ 0 → ⊥) → Some (n - 1) ≡ recorded_of n
recorded_writes zero h = absurd (h refl)
recorded_writes (suc n) h = ap Some (one_less n)
