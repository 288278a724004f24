-- The two rings read back after they were written. Assumes nothing.
use mathlib.Core.Path.{◌≡◌, refl, sym, ap, ◌∙◌}
use mathlib.Core.Option.{Option, none, some}
use mathlib.Core.List.{List, ◌∷◌, ◌++◌, map, map-map, map-id}
use Prim.Native.Nat.{ℕ, ◌+◌, ◌*◌, ◌≤◌, ◌<◌}
use native.Mathlib.Omega.{arith}
use lib.ListN.{length, length-map, drop, get_or}
use Rattle.base_blocks.specs.Lists.{listed}
use Rattle.base_blocks.proofs.Listed.{map_listed}
use Rattle.base_tables.specs.Rings.{along, ring, laid}
use Rattle.base_tables.proofs.Rings.{ring_laid}
use Rattle.pool_rules.specs.Model.{Retiring, Doomed, hand_count}
use Rattle.pool_records.specs.Retiring.{read_retiring, write_retiring}
use Rattle.pool_records.specs.Doomed.{read_doomed, write_doomed}
use Rattle.pool_records.specs.Views.{retiring_of, doomed_of}
use Rattle.pool_records.specs.Codecs.{retiring_codec, doomed_codec}
use Rattle.pool_memory.specs.Lent.{Lent, version_places}
use Rattle.pool_memory.specs.Reading.{retiring_read, hand_read, doomed_read}
use Rattle.pool_memory.specs.Writing.{retiring_record, doomed_record, hand_list}
use Rattle.pool_records.specs.RecordConstants.{doomed_stride, retiring_stride}

-- ---- the retiring ring: the hand, and then the queue

module _ (m : Lent) (s : List ℕ) (room : retiring_stride * version_places m ≤ length s) (head : m.pool.head < version_places m) where
  retiring_listed : (vs : List (Retiring ℕ)) → length vs ≤ version_places m
      → m.retiring ≡ laid retiring_stride write_retiring (version_places m) m.pool.head 0 (map retiring_record vs) s → listed (retiring_read m) 0 (length vs) ≡ vs
  unfolding retiring_read ring
  retiring_listed vs h e =
      sym (map_listed retiring_of (along retiring_stride read_retiring (version_places m) m.pool.head m.retiring) 0 (length vs))
      ∙ ap (λ (r : List ℕ). map retiring_of (listed (along retiring_stride read_retiring (version_places m) m.pool.head r) 0 (length vs))) e
      ∙ ap (map retiring_of)
      (ring_laid retiring_codec (version_places m) m.pool.head head (map retiring_record vs) (length vs) s room h (length-map vs retiring_record))
      ∙ map-map retiring_of retiring_record vs
      ∙ map-id vs

  pub hand_back : (o : Option (Retiring ℕ)) (vs : List (Retiring ℕ)) → length vs + hand_count o ≤ version_places m
      → m.retiring ≡ laid retiring_stride write_retiring (version_places m) m.pool.head 0 (map retiring_record (hand_list o ++ vs)) s → hand_read m (hand_count o) ≡ o
  unfolding listed
  hand_back none vs h e = refl
  hand_back (some v) vs h e = ap (λ (l : List (Retiring ℕ)). some (get_or l 0 v)) (retiring_listed (v ∷ vs) (omega arith) e)

  pub queue_back : (o : Option (Retiring ℕ)) (vs : List (Retiring ℕ)) → length vs + hand_count o ≤ version_places m
      → m.retiring ≡ laid retiring_stride write_retiring (version_places m) m.pool.head 0 (map retiring_record (hand_list o ++ vs)) s
      → listed (retiring_read m) (hand_count o) (length vs) ≡ vs
  unfolding listed
  queue_back none vs h e = retiring_listed vs (omega arith) e
  queue_back (some v) vs h e = ap (drop 1) (retiring_listed (v ∷ vs) (omega arith) e)

-- ---- the destroy ring

pub doomed_back : (m : Lent) (s : List ℕ) → doomed_stride * version_places m ≤ length s → m.pool.first < version_places m
    → (ds : List (Doomed ℕ)) → length ds ≤ version_places m
    → m.doomed ≡ laid doomed_stride write_doomed (version_places m) m.pool.first 0 (map doomed_record ds) s → listed (doomed_read m) 0 (length ds) ≡ ds
unfolding doomed_read ring
doomed_back m s room first ds h e =
    sym (map_listed doomed_of (along doomed_stride read_doomed (version_places m) m.pool.first m.doomed) 0 (length ds))
    ∙ ap (λ (r : List ℕ). map doomed_of (listed (along doomed_stride read_doomed (version_places m) m.pool.first r) 0 (length ds))) e
    ∙ ap (map doomed_of)
    (ring_laid doomed_codec (version_places m) m.pool.first first (map doomed_record ds) (length ds) s room h (length-map ds doomed_record))
    ∙ map-map doomed_of doomed_record ds
    ∙ map-id ds
