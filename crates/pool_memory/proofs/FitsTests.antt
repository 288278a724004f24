-- Tests of every element as properties of every element. Assumes nothing.
use mathlib.Core.Path.{◌≡◌, refl, ap₂}
use mathlib.Core.Bool.{Bool, true, ◌&&◌}
use mathlib.Core.List.{List, [], ◌∷◌}
use Prim.Native.Nat.{ℕ, suc, ◌≤◌}
use native.Mathlib.Omega.{arith}
use lib.Dec.{ltb}
use borrow.Author.Tests.{ltb-true, lt-ltb}
use Rattle.base_blocks.specs.Lists.{all, ascending, tests}
use Rattle.base_blocks.specs.All.{All, nil, cons}
use Rattle.base_blocks.proofs.Lists.{and_both, pass}
use Rattle.base_blocks.proofs.All.{all_at}
use Rattle.pool_rules.specs.Model.{VersionState}
use Rattle.pool_rules.specs.Formed.{Ascending, end, more}
use Rattle.pool_memory.specs.IsPool.{state_id}

module _ {ℓ} {A : Type ℓ} (p : A → Bool) {P : A → Type 0} where
  pub all_holds : ((x : A) → p x ≡ true → P x) → (xs : List A) → all p xs ≡ true → All P xs
  unfolding all
  all_holds f [] e = nil
  all_holds f (x ∷ xs) e = let q = and_both (p x) (all p xs) e in cons (f x q.0) (all_holds f xs q.1)

  pub all_passes : ((x : A) → P x → p x ≡ true) → {xs : List A} → All P xs → all p xs ≡ true
  unfolding all
  all_passes f nil = refl
  all_passes f (cons {x = x} q qs) = ap₂ (λ (a b : Bool). a && b) (f x q) (all_passes f qs)

-- ids in ascending order, from lo on
ascending_from : (lo : ℕ) (t : VersionState ℕ) (ts : List (VersionState ℕ)) → lo ≤ t.id → ascending state_id (t ∷ ts) ≡ true → Ascending lo (t ∷ ts)
unfolding ascending
ascending_from lo t [] h e = more h end
ascending_from lo t (u ∷ us) h e =
    let q = and_both (ltb t.id u.id) (ascending state_id (u ∷ us)) e in
    more h (ascending_from (suc t.id) u us (ltb-true t.id u.id q.0) q.1)

pub ascending_holds : (ts : List (VersionState ℕ)) → ascending state_id ts ≡ true → Ascending 0 ts
ascending_holds [] e = end
ascending_holds (t ∷ ts) e = ascending_from 0 t ts (omega arith) e

pub ascending_passes : {lo : ℕ} {ts : List (VersionState ℕ)} → Ascending lo ts → ascending state_id ts ≡ true
unfolding ascending
ascending_passes end = refl
ascending_passes (more h end) = refl
ascending_passes (more {t = t} h (more {t = u} k r)) = ap₂ (λ (a b : Bool). a && b) (lt-ltb t.id u.id k) (ascending_passes (more {t = u} k r))

-- a list of tests passes where all of them do
pub every : {bs : List Bool} → All (λ (b : Bool). b ≡ true) bs → tests bs ≡ true
every {bs = bs} a = pass bs (λ k h. all_at bs k true h a)
