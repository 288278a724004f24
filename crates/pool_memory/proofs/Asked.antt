-- A call on a pool says and leaves what the model's rule does. Assumes nothing.
use mathlib.Core.Path.{◌≡◌, refl, ap, ◌∙◌}
use mathlib.Core.Bool.{Bool, true, false, cond}
use Prim.Native.Nat.{ℕ}
use Rattle.pool_rules.specs.Model.{PoolModel, Out, refused, accepted, guard}
use Rattle.pool_memory.specs.Lent.{Lent}
use Rattle.pool_memory.specs.Reading.{model_of}
use Rattle.pool_memory.specs.Writing.{lent_after}
use Rattle.pool_memory.specs.IsPool.{is_pool}
use Rattle.pool_memory.specs.Calls.{refused_with, answer, written_back, asked}

-- a refusal that does not apply, and one that does
pub guard_passed : {A : Type 0} (b : Bool) (n : ℕ) (out : Out ℕ A) → b ≡ false → guard b n out ≡ out
unfolding guard
guard_passed b n out e = rw e refl

pub guard_refused : {A : Type 0} (b : Bool) (n : ℕ) (out : Out ℕ A) → b ≡ true → guard b n out ≡ refused n
unfolding guard
guard_refused b n out e = rw e refl

module _ {A B : Type 0} (f : A → B) (l : Lent) (rule : PoolModel ℕ → Out ℕ A) where
  module _ (e : is_pool l ≡ true) where
    asked_pool : asked f l rule ≡ written_back f l (rule (model_of l))
    unfolding asked
    asked_pool = ap (λ (b : Bool). cond b (written_back f l (rule (model_of l))) (refused_with 1, l)) e

    pub asked_refused : (n : ℕ) → rule (model_of l) ≡ refused n → asked f l rule ≡ (refused_with n, l)
    asked_refused n q = asked_pool ∙ ap (written_back f l) q

    pub asked_accepted : (a : A) (p : PoolModel ℕ) → rule (model_of l) ≡ accepted a p → asked f l rule ≡ (answer (f a), lent_after p l)
    asked_accepted a p q = asked_pool ∙ ap (written_back f l) q

  -- stores that form no pool are refused with 1
  pub asked_no_pool : is_pool l ≡ false → asked f l rule ≡ (refused_with 1, l)
  unfolding asked
  asked_no_pool e = ap (λ (b : Bool). cond b (written_back f l (rule (model_of l))) (refused_with 1, l)) e
