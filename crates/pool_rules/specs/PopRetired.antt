-- Rule: pop_retired: put the queue's front in the hand if its submission is at most `settled`.
use Rattle.std.specs.Prelude.{ℕ, Bool, true, false, cond, List, [], ◌∷◌, leb, ltb}
use Rattle.std.proofs.Math.Option.{Option, none, some}
use Rattle.pool_rules.specs.Model.{Retiring, PoolModel, Out, accepted, guard, limit}
use Rattle.pool_rules.specs.Updates.{with_retiring}

module _ {W : Type 0} where
  -- "nothing settled" is an accepted answer
  abbrev pub pop_front : PoolModel W → ℕ → List (Retiring W) → Out W (Option (Retiring W))
  pop_front p settled [] = accepted none p
  pop_front p settled (v ∷ vs) = cond (leb v.seq settled) (accepted (some v) (with_retiring vs (some v) p)) (accepted none p)

  abbrev pub is_held : Option (Retiring W) → Bool
  is_held none = false
  is_held (some v) = true

  unfoldable pub pop_retired : PoolModel W → ℕ → Out W (Option (Retiring W))
  pop_retired p settled = guard (ltb limit settled) 3 (guard (is_held p.hand) 9 (pop_front p settled p.retiring))
