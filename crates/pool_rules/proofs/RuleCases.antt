-- The cases of the rules that specs/RuleCases says hold. Assumes nothing.
use Prim.Native.Nat.{ℕ, suc, ◌+◌, ◌*◌}
use mathlib.Core.Path.{◌≡◌, refl, sym, ap, ◌∙◌}
use mathlib.Core.Bool.{Bool, true, false, ◌&&◌, not, true≢false}
use mathlib.Core.Option.{Option, none, some}
use mathlib.Core.List.{[], ◌∷◌, ◌++◌}
use native.Mathlib.Omega.{arith}
use lib.Dec.{leb, ltb}
use lib.ListN.{length}
use borrow.Author.Tests.{le-leb, lt-ltb, le-ltb, lt-leb, leb-true, ltb-true, not-false}
use Rattle.base_blocks.specs.Lists.{total}
use Rattle.base_blocks.proofs.Lists.{and_both}
use Rattle.grid_shapes.specs.declared.shape.VersionShape.{VersionShape}
use Rattle.grid_shapes.specs.Shapes.{is_shape, same_shape, slices_of}
use Rattle.grid_shapes.proofs.Shapes.{same_shape_lem, same_self}
use Rattle.grid_stamps.specs.StampConstants.{page_stamps}
use Rattle.pool_rules.specs.declared.held.Held.{Held}
use Rattle.pool_rules.specs.Model.{WriteHistory, VersionState, PoolModel, Out, refused, accepted, UploadFootprint, guard, find, limit}
use Rattle.pool_rules.specs.HistorySizes.{history_size, stamps_used}
use Rattle.pool_rules.specs.Histories.{in_shape, spent}
use Rattle.pool_rules.specs.TakeSpare.{take_spare}
use Rattle.pool_rules.specs.PreservePlan.{copies, plan_found, plan_with, preserve_plan}
use Rattle.pool_rules.specs.Retire.{retire, retired}
use Rattle.pool_rules.specs.DrainVersions.{drain_versions}
use Rattle.pool_rules.specs.RuleCases.{TakeFullBeforeSpent, SkipsSpent, PlanSpentInShape, RetireUntracked, DrainKeeps}

other_shape : (a b : VersionShape) → (a ≡ b → ⊥) → same_shape a b ≡ false
other_shape a b h = go (same_shape a b) refl
  where
    go : (c : Bool) → same_shape a b ≡ c → same_shape a b ≡ false
    go true e = absurd (h (same_shape_lem a b e))
    go false e = e

not_both : (a b : Bool) → b ≡ false → a && b ≡ false
not_both true b e = e
not_both false b e = refl

module _ {W : Type 0} where
  -- ---- what an answer tells

  -- the number of a refusal
  abbrev number_of : {A : Type 0} → Out W A → ℕ
  number_of (refused n) = n
  number_of (accepted a p) = 0

  -- the pool after a call, if it was accepted
  abbrev pool_after : {A : Type 0} → PoolModel W → Out W A → PoolModel W
  pool_after p (refused n) = p
  pool_after p (accepted a q) = q

  -- an answer that is not the guard's own is that of what it guards
  past : {A : Type 0} (b : Bool) (n : ℕ) (o out : Out W A) → (number_of out ≡ n → ⊥) → guard b n o ≡ out → (b ≡ false) × (o ≡ out)
  unfolding guard
  past true n o out h e = absurd (h (sym (ap number_of e)))
  past false n o out h e = (refl, e)

  -- what is refused with the guard's number, and otherwise accepted, is the guard's doing
  refused_by : {A : Type 0} (b : Bool) (n : ℕ) (a : A) (p : PoolModel W) → guard b (suc n) (accepted a p) ≡ refused (suc n) → b ≡ true
  unfolding guard
  refused_by true n a p e = refl
  refused_by false n a p e = absurd (let z = ap number_of e in let y : ⊥ = omega (arith, z) in y)

  -- ---- take_spare

  pub take_full_before_spent : TakeFullBeforeSpent W
  unfolding take_spare guard
  take_full_before_spent p id shape seq good le =
      let lent = page_stamps * p.places.pages in
      let kept = total stamps_used p.textures + history_size shape in
      record {
        new_full = λ e free full.
            rw (good, le-ltb limit seq le, e, lt-leb p.places.textures (length p.textures) free, lt-ltb (lent + 0) kept (omega (arith, full)));
        new_spent = λ records e free fits spent.
            rw (
              good,
              le-ltb limit seq le,
              e,
              lt-leb p.places.textures (length p.textures) free,
              not_both records (ltb (lent + 0) kept) (le-ltb (lent + 0) kept (omega (arith, fits))),
              le-leb limit p.trackings spent,
            );
        renewed_full = λ t e other full.
            rw (good, le-ltb limit seq le, e, other_shape t.shape shape other, lt-ltb (lent + stamps_used t) kept full);
        renewed_spent = λ records t e other fits spent.
            rw (
              good,
              le-ltb limit seq le,
              e,
              other_shape t.shape shape other,
              not_both records (ltb (lent + stamps_used t) kept) (le-ltb (lent + stamps_used t) kept fits),
              le-leb limit p.trackings spent,
            );
      }

  -- ---- preserve_plan

  module _ (p : PoolModel W) (id : ℕ) (shape : VersionShape) (held : Held) (u : UploadFootprint) (room : ℕ) where
    -- a plan that says 12 names a subresource of the shape with full cover, and its history is spent
    planned : (h : Option WriteHistory) → plan_with p shape h held u room ≡ refused 12 → u.cover && in_shape shape u.slice u.level && spent h ≡ true
    planned h e = refused_by (u.cover && in_shape shape u.slice u.level && spent h) 11 (copies shape h held u) p (past _ 11 _ _ (λ z. omega (arith, z)) e).1

    counted : (t : VersionState W) → find id p.textures ≡ some t → t.shape ≡ shape → (h : Option WriteHistory) → t.history ≡ h
        → u.cover && in_shape shape u.slice u.level && spent h ≡ true → SkipsSpent p id shape u
    counted t e same none k g = absurd (true≢false (sym (and_both (u.cover && in_shape shape u.slice u.level) false g).1))
    counted t e same (some h) k g =
        let a = and_both (u.cover && in_shape shape u.slice u.level) (leb limit h.writes) g in
        let b = and_both u.cover (in_shape shape u.slice u.level) a.0 in
        let c = and_both (ltb u.slice (slices_of shape)) (ltb u.level shape.levels) b.1 in
        record {
          state = t;
          history = h;
          tracked = e;
          same = same;
          recorded = k;
          counted = leb-true limit h.writes a.1;
          covered = b.0;
          slice = ltb-true u.slice (slices_of shape) c.0;
          level = ltb-true u.level shape.levels c.1;
        }

    found : (o : Option (VersionState W)) → find id p.textures ≡ o → plan_found p shape held u room o ≡ refused 12 → SkipsSpent p id shape u
    found none e g = absurd (true≢false (sym (and_both (u.cover && in_shape shape u.slice u.level) false (planned none g)).1))
    found (some t) e g =
        let a = past _ 4 _ _ (λ z. omega (arith, z)) g in
        counted t e (same_shape_lem t.shape shape (not-false _ a.0)) t.history refl (planned t.history a.1)

  pub plan_spent_in_shape : PlanSpentInShape W
  unfolding preserve_plan guard
  plan_spent_in_shape p id shape held u room = record {
    there = λ good s fits.
        rw (
          good,
          s.tracked,
          s.same,
          same_self shape,
          s.recorded,
          le-ltb room (length (copies shape (some s.history) held u)) fits,
          s.covered,
          lt-ltb u.slice (slices_of shape) s.slice,
          lt-ltb u.level shape.levels s.level,
          le-leb limit s.history.writes s.counted,
        );
    short = λ good s over.
        rw (good, s.tracked, s.same, same_self shape, s.recorded, lt-ltb room (length (copies shape (some s.history) held u)) over);
    only = λ e. found p id shape held u room (find id p.textures) refl (past (not (is_shape shape)) 2 _ _ (λ z. omega (arith, z)) e).1;
  }

  -- ---- retire

  pub retire_untracked : RetireUntracked W
  unfolding retire
  retire_untracked p q id view seq e done =
      let a = (past _ 3 _ _ (λ z. omega (arith, z)) done).1 in
      let b = (past _ 7 _ _ (λ z. omega (arith, z)) a).1 in
      let c = (past _ 8 _ _ (λ z. omega (arith, z)) b).1 in
      sym (ap (λ (x : PoolModel W). x.retiring) (ap (pool_after p) c)) ∙ ap (λ (o : Option (VersionState W)). p.retiring ++ (retired id view seq o ∷ [])) e

  -- ---- drain_versions

  pub drain_keeps : DrainKeeps W
  unfolding drain_versions
  drain_keeps p q views room done =
      let w = (past _ 11 _ _ (λ e. omega (arith, e)) done).1 in
      let e = ap (pool_after p) w in
      record {
        hand = sym (ap (λ (x : PoolModel W). x.hand) e);
        slot = sym (ap (λ (x : PoolModel W). x.pacing.slot) e);
        pressed = sym (ap (λ (x : PoolModel W). x.pacing.pressed) e);
        excess = sym (ap (λ (x : PoolModel W). x.pacing.excess) e);
        trackings = sym (ap (λ (x : PoolModel W). x.trackings) e);
        arrivals = sym (ap (λ (x : PoolModel W). x.pacing.arrivals) e);
        since = sym (ap (λ (x : PoolModel W). x.since) e);
        retiring = sym (ap (λ (x : PoolModel W). x.retiring) e);
        doomed = sym (ap (λ (x : PoolModel W). x.doomed) e);
        textures = sym (ap (λ (x : PoolModel W). x.textures) e);
      }
