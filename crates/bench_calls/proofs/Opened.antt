-- A pool that was opened is one. Assumes nothing.
use Rattle.std.proofs.Common.{◌≡◌, ℕ, Bool, true, false, cond, List, sym, refl, ◌∙◌, arith}
use Rattle.grid_shapes.specs.Outcomes.{outcome_number}
use Rattle.pool_memory.specs.Lent.{lent}
use Rattle.pool_memory.specs.IsPool.{is_pool}
use Rattle.pool_memory.specs.Calls.{opened_pool, opened_book, open_number}
use Rattle.pool_open.specs.declared.calls.open.OpenAnswer.{OpenAnswer}
use Rattle.pool_books.specs.LentLists.{OpenedIsPool}
use Rattle.pool_books.proofs.LentLists.{opened_is_pool}

accepted : (b : Bool) → ◌≡◌ {A = ℕ} (cond b 0 1) 0 → b ≡ true
accepted true e = refl
accepted false e = absurd (omega (arith, e))

module _ (working : ℕ) (textures retiring doomed spares newest stamps : List ℕ) where
  pub opened_forms : (a : OpenAnswer)
      → outcome_number a.outcome ≡ open_number (lent (opened_pool working) opened_book textures retiring doomed spares newest stamps)
      → a.pool ≡ opened_pool working → a.book ≡ opened_book
      → outcome_number a.outcome ≡ 0 → is_pool (lent a.pool a.book textures retiring doomed spares newest stamps) ≡ true
  unfolding open_number OpenedIsPool
  opened_forms a o p b z = rw (p, b) (opened_is_pool working textures retiring doomed spares newest stamps (accepted _ (sym o ∙ z)))
