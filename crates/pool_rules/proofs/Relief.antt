-- The calls that queue spares for destruction leave a formed pool: note_allocated, trim, forget_texture. Assumes nothing.
use Prim.Native.Nat.{ℕ, ◌+◌, ◌-◌, ◌≤◌, ◌<◌}
use mathlib.Core.Path.{◌≡◌, refl}
use mathlib.Core.Bool.{Bool, true, false, cond, not}
use mathlib.Core.List.{List, [], ◌∷◌, map, flat_map}
use native.Mathlib.Omega.{arith}
use native.Mathlib.Nat.{mul-zero}
use lib.ListN.{length, length-append, length-map}
use lib.Dec.{eqb}
use borrow.Author.Tests.{ltb-false, not-false}
use Rattle.base_blocks.specs.Lists.{keep, total}
use Rattle.base_blocks.specs.All.{All, nil}
use Rattle.base_blocks.proofs.Lists.{either, and_both, length_keep, total_append}
use Rattle.base_blocks.proofs.All.{all_keep, all_map, all_flat_map}
use Rattle.grid_shapes.specs.Shapes.{bytes_of}
use Rattle.pool_rules.specs.Model.{Spare, Doomed, VersionState, PacingModel, PoolModel, limit, spare_bytes, doomed_bytes}
use Rattle.pool_rules.specs.HistorySizes.{stamps_used}
use Rattle.pool_rules.specs.Updates.{with_due, with_textures, with_pacing, as_doomed, doom_spares}
use Rattle.pool_rules.specs.NoteAllocated.{note_allocated, count_of, picked_in, relieved}
use Rattle.pool_rules.specs.Trim.{trim, aged, aged_count, thinned, is_empty, idle, looked_at}
use Rattle.pool_rules.specs.ForgetTexture.{forget_texture}
use Rattle.pool_rules.specs.Formed.{DoomedFormed, StateFormed, Formed}
use Rattle.pool_rules.specs.Closed.{OutFormed, formed}
use Rattle.pool_rules.proofs.Lists.{total_keep, total_kept, total_map}
use Rattle.pool_rules.proofs.States.{ascending_map, ascending_keep}
use Rattle.pool_rules.proofs.Moves.{guarded, spare_count, as_doomed_bytes, as_doomed_length, as_doomed_formed, spares_doomed, given, given_bytes, given_count, given_formed, lessened_formed, oldest_doomed}
use Rattle.pool_rules.specs.RuleConstants.{destroy_spread_drains, most_places}

module _ {W : Type 0} where
  -- ---- note_allocated

  pub repaced : (p : PoolModel W) → Formed p → (b : PacingModel) → b.slot < destroy_spread_drains → length b.arrivals ≡ destroy_spread_drains → All (λ (n : ℕ). n ≤ most_places) b.arrivals
      → Formed (with_pacing b p)
  repaced p f b slot eight arrivals = record {
    ids = f.ids;
    textures = f.textures;
    retiring = f.retiring;
    hand = f.hand;
    doomed = f.doomed;
    trackings = f.trackings;
    places = f.places;
    versions = f.versions;
    stamps = f.stamps;
    parked = f.parked;
    dooming = f.dooming;
    cap = f.cap;
    slot = slot;
    eight = eight;
    arrivals = arrivals;
    since = f.since;
    most = f.most;
  }

  pub note_allocated_formed : (p : PoolModel W) → Formed p → (allocated : ℕ) → OutFormed (note_allocated p allocated)
  unfolding note_allocated
  note_allocated_formed p f allocated =
      let chosen = picked_in (allocated - p.budget.line) p in
      formed (repaced (relieved chosen p) (oldest_doomed (λ t. count_of t.id chosen) p f) _ f.slot f.eight f.arrivals)

  -- ---- trim

  module _ (now : ℕ) where
    -- a look changes the due number alone
    looked_same : {B : Type 0} (f : VersionState W → B) → ((t : VersionState W) (d : ℕ) → f (with_due d t) ≡ f t) → (t : VersionState W)
        → f (looked_at now t) ≡ f t
    looked_same f e t =
        either (λ (u : VersionState W). f u ≡ f t) (aged now t.due) _ _ (λ q. e t _) (λ q. refl)

    due_formed : (t : VersionState W) → StateFormed t → (d : ℕ) → d ≤ limit → StateFormed (with_due d t)
    due_formed t f d le = record {
      shape = f.shape;
      epoch = f.epoch;
      birth = f.birth;
      rename = f.rename;
      due = le;
      history = f.history;
      spares = f.spares;
    }

    looked_formed : now ≤ limit → (t : VersionState W) → StateFormed t → StateFormed (looked_at now t)
    looked_formed le t f =
        either StateFormed (aged now t.due) _ _
        (λ q. due_formed t f _ (either (λ (d : ℕ). d ≤ limit) (aged now t.rename) _ _ (λ e. omega arith) (λ e. f.rename))) (λ q. f)

    none_counted : (ss : List (Spare W)) → is_empty ss ≡ true → length ss ≡ 0
    none_counted [] e = refl
    none_counted (s ∷ ss) e = absurd (let z : ◌≡◌ {A = ℕ} 0 1 = cc in let y : ⊥ = omega arith in y)

    -- what is dropped has no spares
    idle_count : (t : VersionState W) → not (idle now t) ≡ false → spare_count t ≡ 0
    idle_count t e =
        let both = and_both (aged now t.due) _ (not-false (idle now t) e) in
        none_counted t.spares (and_both (aged now t.rename) _ both.1).1

    idle_bytes : (t : VersionState W) → not (idle now t) ≡ false → spare_bytes t ≡ 0
    idle_bytes t e = rw (idle_count t e) (mul-zero (bytes_of t.shape))

    module _ (p : PoolModel W) (f : Formed p) (le : now ≤ limit) where
      abbrev old : VersionState W → ℕ
      old t = aged_count now t.spares

      abbrev thin : List (VersionState W)
      thin = map (thinned now) p.textures

      abbrev stays : VersionState W → Bool
      stays t = not (idle now t)

      trimmed : Formed (doom_spares (flat_map (given old) p.textures) (with_textures (map (looked_at now) (keep stays thin)) p))
      trimmed =
          spares_doomed p f (map (looked_at now) (keep stays thin)) (flat_map (given old) p.textures)
          (ascending_map (looked_at now) (looked_same (λ t. t.id) (λ t d. refl)) (ascending_keep stays (ascending_map (thinned now) (λ t. refl) f.ids)))
          (all_map (looked_at now) (looked_formed le) (all_keep stays (all_map (thinned now) (lessened_formed old) f.textures)))
          (omega (arith, length-map (keep stays thin) (looked_at now), length_keep stays thin, length-map p.textures (thinned now)))
          (omega (
            arith,
            total_map stamps_used (looked_at now) (looked_same stamps_used (λ t d. refl)) (keep stays thin),
            total_kept stamps_used stays thin,
            total_map stamps_used (thinned now) (λ t. refl) p.textures,
          ))
          (given_formed old p.textures f.textures)
          (omega (
            arith,
            total_map spare_bytes (looked_at now) (looked_same spare_bytes (λ t d. refl)) (keep stays thin),
            total_keep spare_bytes stays idle_bytes thin,
            given_bytes old p.textures,
          ))
          (omega (
            arith,
            total_map spare_count (looked_at now) (looked_same spare_count (λ t d. refl)) (keep stays thin),
            total_keep spare_count stays idle_count thin,
            given_count old p.textures,
          ))

  pub trim_formed : (p : PoolModel W) → Formed p → (now : ℕ) → OutFormed (trim p now)
  unfolding trim
  trim_formed p f now = guarded _ _ (λ e. formed (trimmed now p f (ltb-false _ _ e)))

  -- ---- forget_texture

  module _ (id : ℕ) where
    abbrev stays_tracked : VersionState W → Bool
    stays_tracked t = not (eqb t.id id)

    abbrev forgotten : VersionState W → List (Doomed W)
    forgotten t = cond (eqb t.id id) (as_doomed (bytes_of t.shape) t.spares) []

    forgotten_bytes : (ts : List (VersionState W)) → total spare_bytes (keep stays_tracked ts) + doomed_bytes (flat_map forgotten ts) ≡ total spare_bytes ts
    unfolding total keep flat_map
    forgotten_bytes [] = refl
    forgotten_bytes (t ∷ ts) = go (eqb t.id id) refl (forgotten_bytes ts)
      where
        go : (b : Bool) → eqb t.id id ≡ b → total spare_bytes (keep stays_tracked ts) + doomed_bytes (flat_map forgotten ts) ≡ total spare_bytes ts
            → total spare_bytes (keep stays_tracked (t ∷ ts)) + doomed_bytes (flat_map forgotten (t ∷ ts)) ≡ total spare_bytes (t ∷ ts)
        go true e ih =
            rw e (omega (
              arith,
              ih,
              as_doomed_bytes (bytes_of t.shape) t.spares,
              total_append (λ (d : Doomed W). d.bytes) (as_doomed (bytes_of t.shape) t.spares) (flat_map forgotten ts),
            ))
        go false e ih = rw e (omega (arith, ih))

    forgotten_count : (ts : List (VersionState W)) → total spare_count (keep stays_tracked ts) + length (flat_map forgotten ts) ≡ total spare_count ts
    unfolding total keep flat_map
    forgotten_count [] = refl
    forgotten_count (t ∷ ts) = go (eqb t.id id) refl (forgotten_count ts)
      where
        go : (b : Bool) → eqb t.id id ≡ b → total spare_count (keep stays_tracked ts) + length (flat_map forgotten ts) ≡ total spare_count ts
            → total spare_count (keep stays_tracked (t ∷ ts)) + length (flat_map forgotten (t ∷ ts)) ≡ total spare_count (t ∷ ts)
        go true e ih =
            rw e (omega (
              arith,
              ih,
              as_doomed_length (bytes_of t.shape) t.spares,
              length-append (as_doomed (bytes_of t.shape) t.spares) (flat_map forgotten ts),
            ))
        go false e ih = rw e (omega (arith, ih))

  pub forget_texture_formed : (p : PoolModel W) → Formed p → (id : ℕ) → OutFormed (forget_texture p id)
  unfolding forget_texture
  forget_texture_formed p f id =
      formed (spares_doomed p f (keep (stays_tracked id) p.textures) (flat_map (forgotten id) p.textures) (ascending_keep (stays_tracked id) f.ids)
      (all_keep (stays_tracked id) f.textures) (length_keep (stays_tracked id) p.textures) (total_kept stamps_used (stays_tracked id) p.textures)
      (all_flat_map (forgotten id)
      (λ t s. either (All DoomedFormed) (eqb t.id id) (as_doomed (bytes_of t.shape) t.spares) [] (λ e. as_doomed_formed t s t.spares) (λ e. nil)) f.textures)
      (forgotten_bytes id p.textures) (forgotten_count id p.textures))
