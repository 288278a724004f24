-- What take_spare looks up, as the code has it and as the cases of the rule go by it. Assumes nothing.
use mathlib.Core.Path.{◌≡◌, refl, sym, ap, ◌∙◌}
use mathlib.Core.Bool.{Bool, true, false}
use Prim.Native.Nat.{ℕ}
use lib.ListN.{length}
use Rattle.std.specs.Prelude.{Ok}
use Rattle.grid_shapes.specs.declared.shape.VersionShape.{VersionShape}
use Rattle.pool_memory.specs.Lent.{Lent}
use Rattle.pool_memory.specs.IsPool.{is_pool}
use Rattle.pool_access.proofs.Ids.{found}
use Rattle.grid_shapes.specs.Shapes.{same_shape}
use Rattle.pool_records.specs.Find.{has_id}
use Rattle.pool_tracking.specs.Cases.{Accepted, Begins, TrackedAt, record_of}
use Rattle.pool_tracking.specs.declared.begun.NewTracking.{NewTracking}
use Rattle.pool_take_spare.specs.declared.look_up.Before.TheVariants.{Untracked, SameShape, OtherShape}
use Rattle.pool_take_spare.specs.declared.look_up.Look.{Look}
use Rattle.pool_take_spare.specs.TakeRefusal.{refusal_at}
use Rattle.pool_take_spare.specs.LookUp.{before_of, Looked}
use Rattle.pool_take_spare.proofs.Said.{refusal_read, none_at}

-- ---- how it is tracked, by the two tests

is_same : (a b : Bool) → before_of a b ≡ SameShape → (a ≡ true) × (b ≡ true)
is_same true true e = (refl, refl)
is_same true false e = cc
is_same false b e = cc

is_untracked : (a b : Bool) → before_of a b ≡ Untracked → a ≡ false
is_untracked true true e = cc
is_untracked true false e = cc
is_untracked false b e = refl

is_other : (a b : Bool) → before_of a b ≡ OtherShape → (a ≡ true) × (b ≡ false)
is_other true true e = cc
is_other true false e = (refl, refl)
is_other false b e = cc

-- ---- on a pool

module _ (l : Lent) (id : ℕ) (shape : VersionShape) (records : Bool) (seq : ℕ) (r : Look) (pool : is_pool l ≡ true)
    (look : Looked l.pool l.textures (length l.stamps) id shape records seq (Ok r)) where
  pub look_accepted : Accepted l r.place id shape records seq
  look_accepted = (
    pool,
    (
      look.found.place,
      sym (look.outcome ∙ ap (λ (i : ℕ). refusal_at l.pool l.textures (length l.stamps) i id shape records seq) (sym look.found.place)
          ∙ refusal_read l r.place id shape records seq pool look.found.place),
    ),
  )

  abbrev tracked : Bool
  tracked = has_id l.textures l.pool.tracked r.place id

  abbrev same : Bool
  same = same_shape (record_of l r.place).shape shape

  pub look_same : r.before ≡ SameShape → TrackedAt l r.place id × (same ≡ true)
  look_same e =
      let q = is_same tracked same (sym look.found.before ∙ e) in
      (found l.textures l.pool.tracked r.place id q.0, q.1)

  pub look_untracked : r.before ≡ Untracked → TrackedAt l r.place id → ⊥
  look_untracked e = none_at l r.place id shape records seq pool look.found.place (is_untracked tracked same (sym look.found.before ∙ e))

  -- a tracking begins
  abbrev pub new : NewTracking
  new = record { place = r.place; id = id; shape = shape; records = records; seq = seq; stamps = r.stamps }

  pub look_new : r.before ≡ Untracked → Begins l new
  look_new e = (look_accepted, look.found.fresh (λ z. let f : Untracked ≡ SameShape = sym e ∙ z in cc))

  pub look_other : r.before ≡ OtherShape → Begins l new × TrackedAt l new.place new.id × (same ≡ false)
  look_other e =
      let q = is_other tracked same (sym look.found.before ∙ e) in
      ((look_accepted, look.found.fresh (λ z. let f : OtherShape ≡ SameShape = sym e ∙ z in cc)), found l.textures l.pool.tracked r.place id q.0, q.1)
