-- Spares that go to the destroy queue leave a formed pool, whichever they are. Assumes nothing.
use Prim.Native.Nat.{ℕ, ◌+◌, ◌*◌, ◌≤◌}
use mathlib.Core.Path.{◌≡◌, refl, sym}
use mathlib.Core.Bool.{Bool, true, false}
use mathlib.Core.List.{List, [], ◌∷◌, map, flat_map}
use native.Mathlib.Omega.{arith}
use native.Mathlib.Nat.{mul-zero, mul-suc, mul-add}
use lib.ListN.{length, take, drop, length-append, length-map}
use Rattle.base_blocks.specs.Lists.{total}
use Rattle.base_blocks.specs.All.{All, nil, cons}
use Rattle.base_blocks.proofs.Lists.{total_append}
use Rattle.base_blocks.proofs.All.{all_both, all_drop, all_map, all_flat_map}
use Rattle.grid_shapes.specs.Shapes.{bytes_of}
use Rattle.grid_shapes.proofs.ShapeBytes.{bytes_bound}
use Rattle.pool_rules.specs.Model.{Spare, Doomed, VersionState, PoolModel, Out, guard, spare_bytes, doomed_bytes}
use Rattle.pool_rules.specs.HistorySizes.{stamps_used}
use Rattle.pool_rules.specs.Updates.{with_spares, with_textures, as_doomed, doom_spares}
use Rattle.pool_rules.specs.Formed.{DoomedFormed, StateFormed, Ascending, Formed}
use Rattle.pool_rules.specs.Closed.{OutFormed, refusal_formed}
use Rattle.pool_rules.proofs.Lists.{total_map, length_cut}
use Rattle.pool_rules.proofs.States.{ascending_map}

module _ {W : Type 0} where
  -- what is refused changes nothing, so only the other case is to be shown
  pub guarded : {A : Type 0} (b : Bool) (n : ℕ) {o : Out W A} → (b ≡ false → OutFormed o) → OutFormed (guard b n o)
  unfolding guard
  guarded true n k = refusal_formed
  guarded false n k = k refl

  abbrev pub spare_count : VersionState W → ℕ
  spare_count t = length t.spares

  -- ---- spares as entries of the destroy queue

  pub as_doomed_bytes : (bytes : ℕ) (ss : List (Spare W)) → doomed_bytes (as_doomed bytes ss) ≡ bytes * length ss
  unfolding total
  as_doomed_bytes bytes [] = sym (mul-zero bytes)
  as_doomed_bytes bytes (s ∷ ss) = omega (arith, as_doomed_bytes bytes ss, mul-suc bytes (length ss))

  pub as_doomed_length : (bytes : ℕ) (ss : List (Spare W)) → length (as_doomed bytes ss) ≡ length ss
  as_doomed_length bytes ss = length-map ss _

  pub as_doomed_formed : (t : VersionState W) → StateFormed t → (ss : List (Spare W)) → All DoomedFormed (as_doomed (bytes_of t.shape) ss)
  as_doomed_formed t f [] = nil
  as_doomed_formed t f (s ∷ ss) = cons (record { bytes = bytes_bound t.shape f.shape }) (as_doomed_formed t f ss)

  -- ---- a pool whose states gave some of their spares, which may have gone themselves

  pub spares_doomed : (p : PoolModel W) → Formed p → (ts : List (VersionState W)) (ds : List (Doomed W)) → Ascending 0 ts → All StateFormed ts
      → length ts ≤ length p.textures → total stamps_used ts ≤ total stamps_used p.textures → All DoomedFormed ds
      → total spare_bytes ts + doomed_bytes ds ≡ total spare_bytes p.textures → total spare_count ts + length ds ≡ total spare_count p.textures
      → Formed (doom_spares ds (with_textures ts p))
  spares_doomed p f ts ds up states fewer stamps given bytes count = record {
    ids = up;
    textures = states;
    retiring = f.retiring;
    hand = f.hand;
    doomed = all_both f.doomed given;
    trackings = f.trackings;
    places = omega (arith, f.places);
    versions = omega (arith, f.versions, length-append p.doomed ds);
    stamps = omega (arith, f.stamps);
    parked = omega (arith, f.parked);
    dooming = omega (arith, f.dooming, total_append (λ (d : Doomed W). d.bytes) p.doomed ds);
    cap = omega (arith, f.cap);
    slot = f.slot;
    eight = f.eight;
    arrivals = f.arrivals;
    since = omega (arith, f.since, length-append p.doomed ds);
    most = f.most;
  }

  -- ---- each state gives its k oldest spares

  module _ (k : VersionState W → ℕ) where
    abbrev pub lessened : VersionState W → VersionState W
    lessened t = with_spares (drop (k t) t.spares) t

    abbrev pub given : VersionState W → List (Doomed W)
    given t = as_doomed (bytes_of t.shape) (take (k t) t.spares)

    state_bytes : (t : VersionState W) → spare_bytes (lessened t) + doomed_bytes (given t) ≡ spare_bytes t
    state_bytes t =
        rw (as_doomed_bytes (bytes_of t.shape) (take (k t) t.spares), ← mul-add (bytes_of t.shape) (length (drop (k t) t.spares)) (length (take (k t) t.spares)), length_cut (k t) t.spares)

    pub given_bytes : (ts : List (VersionState W)) → total spare_bytes (map lessened ts) + doomed_bytes (flat_map given ts) ≡ total spare_bytes ts
    unfolding total flat_map
    given_bytes [] = refl
    given_bytes (t ∷ ts) = omega (arith, given_bytes ts, state_bytes t, total_append (λ (d : Doomed W). d.bytes) (given t) (flat_map given ts))

    pub given_count : (ts : List (VersionState W)) → total spare_count (map lessened ts) + length (flat_map given ts) ≡ total spare_count ts
    unfolding total flat_map
    given_count [] = refl
    given_count (t ∷ ts) =
        omega (
          arith,
          given_count ts,
          length_cut (k t) t.spares,
          as_doomed_length (bytes_of t.shape) (take (k t) t.spares),
          length-append (given t) (flat_map given ts),
        )

    pub lessened_formed : (t : VersionState W) → StateFormed t → StateFormed (lessened t)
    lessened_formed t f = record {
      shape = f.shape;
      epoch = f.epoch;
      birth = f.birth;
      rename = f.rename;
      due = f.due;
      history = f.history;
      spares = all_drop (k t) f.spares;
    }

    pub given_formed : (ts : List (VersionState W)) → All StateFormed ts → All DoomedFormed (flat_map given ts)
    given_formed ts fs = all_flat_map given (λ t f. as_doomed_formed t f (take (k t) t.spares)) fs

    pub oldest_doomed : (p : PoolModel W) → Formed p → Formed (doom_spares (flat_map given p.textures) (with_textures (map lessened p.textures) p))
    oldest_doomed p f =
        spares_doomed p f (map lessened p.textures) (flat_map given p.textures) (ascending_map lessened (λ t. refl) f.ids)
        (all_map lessened lessened_formed f.textures) (omega (arith, length-map p.textures lessened))
        (omega (arith, total_map stamps_used lessened (λ t. refl) p.textures)) (given_formed p.textures f.textures) (given_bytes p.textures)
        (given_count p.textures)
