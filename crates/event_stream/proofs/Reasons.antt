-- Laws of the reason why a run stops. Assumes nothing.
use mathlib.Core.Path.{◌≡◌, refl}
use mathlib.Core.Bool.{Bool, true, false, cond, ◌||◌}
use Prim.Native.Nat.{ℕ, zero, suc, ◌+◌, ◌^◌, ◌≤◌, ◌<◌}
use native.Mathlib.Omega.{arith}
use borrow.Author.Tests.{lt-leb, leb-false, ne_eqb}
use lib.Dec.{leb}
use Rattle.std.specs.Prelude.{Option, Some, None}
use Rattle.event_stream.specs.declared.calls.reason.StopReason.{StopReason}
use Rattle.event_stream.specs.declared.calls.reason.StopReason.TheVariants.{Ended, Unwritten, TooLong}
use Rattle.event_stream.specs.Streams.{why_going, why_ended, why_too_long, reason_number, why_number, is_full, reason_of}

-- what each reason says of the turn
pub record Reason (came : ℕ) (full : Bool) (why : ℕ) : Type 0 where
  pub known : why ≤ why_too_long
  pub going : why ≡ why_going → (0 < came) × (full ≡ false)
  pub ended : why ≡ why_ended → came ≡ 0
  pub long : why ≡ why_too_long → (0 < came) × (full ≡ true)

differ : {m n : ℕ} {A : Type 0} → m ≡ n → (m ≡ n → ⊥) → A
differ e f = absurd (f e)

by_reason : (came : ℕ) (full : Bool) → 0 < came → Reason came full (cond full why_too_long why_going)
by_reason came true h = record {
  known = omega arith;
  going = λ z. differ z (λ e. omega arith);
  ended = λ z. differ z (λ e. omega arith);
  long = λ z. (h, refl);
}
by_reason came false h = record {
  known = omega arith;
  going = λ z. (h, refl);
  ended = λ z. differ z (λ e. omega arith);
  long = λ z. differ z (λ e. omega arith);
}

reason_of_lem : (came : ℕ) (written full : Bool) → Reason came full (reason_of came written full)
unfolding reason_of
reason_of_lem came false full = record {
  known = omega arith;
  going = λ z. differ z (λ e. omega arith);
  ended = λ z. differ z (λ e. omega arith);
  long = λ z. differ z (λ e. omega arith);
}
reason_of_lem zero true full = record {
  known = omega arith;
  going = λ z. differ z (λ e. omega arith);
  ended = λ z. refl;
  long = λ z. differ z (λ e. omega arith);
}
reason_of_lem (suc k) true full = rw (ne_eqb (suc k) 0 (λ e. omega arith)) (by_reason (suc k) full (omega arith))

pub reason_says : (came : ℕ) (written full : Bool) (why : ℕ) → why ≡ reason_of came written full → Reason came full why
reason_says came written full why e = rw e (reason_of_lem came written full)

-- it goes on where there is no reason to stop
pub no_reason : (o : Option StopReason) → ((why : StopReason) → o ≡ Some why → ⊥) → why_number o ≡ why_going
no_reason None n = refl
no_reason (Some why) n = absurd (n why refl)

pub some_reason : (why : StopReason) → reason_number why ≡ why_going → ⊥
some_reason Ended e = let y : ⊥ = omega arith in y
some_reason Unwritten e = let y : ⊥ = omega arith in y
some_reason TooLong e = let y : ⊥ = omega arith in y

-- where it is not full, there are numbers for another turn
pub not_full : (read size written room : ℕ) → is_full read size written room ≡ false → (read + size < 2 ^ 64) × (written + room < 2 ^ 64)
unfolding is_full
not_full read size written room e = go (leb (2 ^ 64) (read + size)) (leb (2 ^ 64) (written + room)) refl refl e
  where
    go : (a b : Bool) → leb (2 ^ 64) (read + size) ≡ a → leb (2 ^ 64) (written + room) ≡ b → a || b ≡ false → (read + size < 2 ^ 64) × (written + room < 2 ^ 64)
    go false false p q z = (leb-false (2 ^ 64) (read + size) p, leb-false (2 ^ 64) (written + room) q)
    go false true p q z = absurd (let y : true ≡ false = z in let x : ◌≡◌ {A = ℕ} 0 1 = cc in let w : ⊥ = omega arith in w)
    go true b p q z = absurd (let y : true ≡ false = z in let x : ◌≡◌ {A = ℕ} 0 1 = cc in let w : ⊥ = omega arith in w)

-- before the first turn there are
pub full_first : (size room : ℕ) → size < 2 ^ 64 → room < 2 ^ 64 → is_full 0 size 0 room ≡ false
unfolding is_full
full_first size room a b = rw (lt-leb (2 ^ 64) (0 + size) (omega arith), lt-leb (2 ^ 64) (0 + room) (omega arith))
