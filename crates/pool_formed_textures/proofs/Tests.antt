-- Laws of tests. Assumes nothing.
use mathlib.Core.Path.{◌≡◌, refl, sym, ◌∙◌}
use mathlib.Core.Bool.{Bool, true, false}
use mathlib.Core.List.{List}
use Prim.Native.Nat.{ℕ}
use native.Mathlib.Omega.{arith}
use lib.ListN.{get_or}
use Rattle.base_blocks.specs.All.{All}
use Rattle.base_blocks.specs.Lists.{tests}
use Rattle.base_blocks.proofs.All.{all_at}
use Rattle.base_blocks.proofs.Lists.{pass, passed, not_passed}

-- tests that pass alike are the same
pub same_test : (a b : Bool) → (a ≡ true → b ≡ true) → (b ≡ true → a ≡ true) → a ≡ b
same_test true b f g = sym (f refl)
same_test false true f g = g refl
same_test false false f g = refl

-- a list does not pass where one of its tests fails
pub fails : (bs : List Bool) (k : ℕ) → get_or bs k true ≡ false → tests bs ≡ false
fails bs k e = not_passed (tests bs) (λ p. let q = passed bs p k in let z : ◌≡◌ {A = ℕ} 0 1 = cc in let y : ⊥ = omega arith in y)

-- and passes where all of them do
pub pass_all : (bs : List Bool) → All (λ (b : Bool). b ≡ true) bs → tests bs ≡ true
pass_all bs ps = pass bs (λ k h. all_at bs k true h ps)

-- a test fails where it would make one pass that fails
pub fails_by : (a b : Bool) → b ≡ false → (a ≡ true → b ≡ true) → a ≡ false
fails_by true b e f = sym (f refl) ∙ e
fails_by false b e f = refl
