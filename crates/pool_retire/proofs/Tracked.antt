-- The texture where the search for an id ended, in a pool: its record, and what the model finds and changes. Assumes nothing.
use mathlib.Core.Path.{◌≡◌, refl, sym, ap, ap₂, ◌∙◌}
use mathlib.Core.Bool.{Bool, true, false, cond, not}
use mathlib.Core.Option.{none, some}
use mathlib.Core.List.{List, [], ◌∷◌, map}
use Prim.Native.Nat.{ℕ, ◌+◌, ◌*◌, ◌≤◌, ◌<◌}
use native.Mathlib.Omega.{arith}
use borrow.Author.Tests.{not-true, not-false}
use lib.Dec.{eqb}
use lib.ListN.{length, get_or, set}
use Rattle.base_blocks.specs.Lists.{ascending}
use Rattle.pool_rules.specs.Model.{VersionState, find}
use Rattle.pool_rules.specs.Updates.{change}
use Rattle.pool_records.specs.Recorded.{RecordedFits}
use Rattle.pool_records.specs.Texture.{read_texture}
use Rattle.pool_records.specs.Find.{id_of, below, has_id}
use Rattle.pool_access.proofs.Ids.{found as found', not_found as not_found'}
use Rattle.pool_memory.specs.Lent.{Lent}
use Rattle.pool_memory.specs.Reading.{tracked_records, model_of}
use Rattle.pool_memory.proofs.Fits.{Fits}
use Rattle.pool_memory.proofs.Runs.{state_of}
use Rattle.pool_memory.proofs.Places.{place, IsTracked, found, changed, not_found, not_changed}
use Rattle.pool_memory.proofs.Stays.{ids_ascend}
use Rattle.pool_memory.proofs.Tracked.{texture_at, record_read, history_fits_lem}
use Rattle.pool_records.specs.RecordConstants.{texture_stride}

-- what every state keeps through a change
pub map_change : {A : Type 0} (g : VersionState ℕ → A) (id : ℕ) (f : VersionState ℕ → VersionState ℕ) → ((t : VersionState ℕ) → g (f t) ≡ g t)
    → (ts : List (VersionState ℕ)) → map g (change id f ts) ≡ map g ts
unfolding change
map_change g id f e [] = refl
map_change {A = A} g id f e (t ∷ ts) = ap₂ (λ (x : A) (xs : List A). x ∷ xs) (go (eqb t.id id)) (map_change g id f e ts)
  where
    go : (b : Bool) → g (cond b (f t) t) ≡ g t
    go false = refl
    go true = e t

-- ---- the code's test of the id where a search among n ended

module _ (s : List ℕ) (n i id : ℕ) (r : Bool) (e : r ≡ has_id s n i id) where
  pub says_nowhere : not r ≡ true → has_id s n i id ≡ false
  says_nowhere t = sym e ∙ not-true r t

  pub says_here : not r ≡ false → has_id s n i id ≡ true
  says_here t = sym e ∙ not-false r t

  pub record_fits : not r ≡ false → texture_stride * n ≤ length s → texture_stride * i + texture_stride ≤ length s
  record_fits t h = omega (arith, h, (found' s n i id (says_here t)).0)

-- ---- i is where the search ended

module _ (l : Lent) (f : Fits l) (id i : ℕ) (at : i ≡ below id (tracked_records l)) where
  abbrev up : ascending id_of (tracked_records l) ≡ true
  up = ids_ascend l f

  abbrev pub here : Bool
  here = has_id l.textures l.pool.tracked i id

  pub inside : here ≡ true → i < l.pool.tracked
  inside q = (found' l.textures l.pool.tracked i id q).0

  is_here : here ≡ true → IsTracked l id up
  is_here q = (
    omega (arith, at, inside q),
    ap (λ (k : ℕ). (get_or (tracked_records l) k (read_texture [])).id) (sym at)
        ∙ ap id_of (record_read l i (inside q)) ∙ (found' l.textures l.pool.tracked i id q).1,
  )

  not_here : here ≡ false → IsTracked l id up → ⊥
  not_here q (h, e) =
      not_found' l.textures l.pool.tracked i id up at q (place l id up) h (ap id_of (sym (record_read l (place l id up) h)) ∙ e)

  pub found_here : here ≡ true → find id (model_of l).textures ≡ some (state_of l i)
  found_here q = found l id up (is_here q) ∙ ap (λ (k : ℕ). some (state_of l k)) (sym at)

  pub found_nowhere : here ≡ false → find id (model_of l).textures ≡ none
  found_nowhere q = not_found l id up (not_here q)

  pub changed_here : here ≡ true → (g : VersionState ℕ → VersionState ℕ)
      → change id g (model_of l).textures ≡ set (model_of l).textures i (g (state_of l i))
  changed_here q g = changed l id up (is_here q) g ∙ ap (λ (k : ℕ). set (model_of l).textures k (g (state_of l k))) (sym at)

  pub changed_nowhere : here ≡ false → (g : VersionState ℕ → VersionState ℕ) → change id g (model_of l).textures ≡ (model_of l).textures
  changed_nowhere q g = not_changed l id up (not_here q) g

  -- what the code may read and write there
  pub history_here : here ≡ true → RecordedFits (texture_at l i).history
  history_here q = history_fits_lem l i (inside q) f
