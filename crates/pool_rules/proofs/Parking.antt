-- What a retired version holds, and when it is parked. The rules of spares rest on these laws.
use Prim.Native.Nat.{ℕ, ◌+◌, ◌≤◌, ◌<◌}
use mathlib.Core.Path.{◌≡◌, refl, ap}
use mathlib.Core.Bool.{Bool, true, false, cond, ◌||◌, not, ◌&&◌}
use mathlib.Core.Option.{Option, none, some}
use mathlib.Core.List.{List, [], ◌∷◌, ◌++◌}
use native.Mathlib.Omega.{arith}
use lib.Dec.{eqb, ltb}
use borrow.Author.Tests.{eqb-true, ne_eqb, le-leb, lt-leb}
use Rattle.base_blocks.proofs.Lists.{either}
use Rattle.grid_shapes.specs.Shapes.{bytes_of}
use Rattle.pool_rules.specs.declared.held.Held.TheVariants.{Known, Unknown}
use Rattle.pool_rules.specs.Model.{WriteHistory, Retiring, Doomed, VersionState, PoolModel, writes_of}
use Rattle.pool_rules.specs.Updates.{with_spares, with_textures, with_parked, change, doom}
use Rattle.pool_rules.specs.Retire.{retired}
use Rattle.pool_rules.specs.Park.{as_spare, park_tracked, park_found}

module _ {W : Type 0} where
  -- a version retires with the writes counted so far, under the tracking and the birth of its texture
  pub retired_held : (id : ℕ) (view : W) (seq : ℕ) (t : VersionState W) (h : WriteHistory) → t.history ≡ some h → (retired id view seq (some t)).held ≡ h.writes
  retired_held id view seq t h e = ap writes_of e

  pub retired_birth : (id : ℕ) (view : W) (seq : ℕ) (t : VersionState W) → (retired id view seq (some t)).birth ≡ t.birth
  retired_birth id view seq t = refl

  -- the writes that a parked version holds are unknown just where failed is not 0 and the version's birth is at most failed
  pub parked_unknown : (failed now : ℕ) (v : Retiring W) → 0 < failed → v.birth ≤ failed → (as_spare failed now v).held ≡ Unknown
  parked_unknown failed now v h k = rw (ne_eqb failed 0 (λ e. omega arith), le-leb v.birth failed k)

  pub parked_known : (failed now : ℕ) (v : Retiring W) → failed < v.birth → (as_spare failed now v).held ≡ Known v.held
  parked_known failed now v h = rw (lt-leb v.birth failed h) (go (not (eqb failed 0)))
    where
      go : (b : Bool) → cond (b && false) Unknown (Known v.held) ≡ Known v.held
      go true = refl
      go false = refl

  pub parked_settled : (now : ℕ) (v : Retiring W) → (as_spare 0 now v).held ≡ Known v.held
  parked_settled now v = refl

  -- what holds wherever the version is queued for destruction, and where it is parked under its own tracking, holds after parking: a
  -- version of an older tracking is never parked
  pub park_cases : (P : PoolModel W → Type 0) (p : PoolModel W) (failed now : ℕ) (v : Retiring W) (o : Option (VersionState W))
      → ((ds : List (Doomed W)) → P (doom ds p))
      → ((t : VersionState W) → o ≡ some t → t.epoch ≡ v.epoch → (bytes : ℕ)
      → P (with_parked bytes (with_textures (change v.id (λ (u : VersionState W). with_spares (u.spares ++ (as_spare failed now v ∷ [])) u) p.textures) p)))
      → P (park_found p failed now v o)
  park_cases P p failed now v none lost kept = lost _
  park_cases P p failed now v (some t) lost kept =
      either P (eqb t.epoch v.epoch) (park_tracked p failed now v t) _
      (λ e. either P (p.pacing.pressed || ltb p.budget.cap (p.parked + bytes_of t.shape)) _ _ (λ q. lost _) (λ q. kept t refl (eqb-true _ _ e) _))
      (λ e. lost _)
