-- The spares after one texture is changed, put in or taken out. Assumes nothing.
use mathlib.Core.Path.{◌≡◌, refl, sym, ap, ap₂, ◌∙◌}
use mathlib.Core.Option.{some}
use mathlib.Core.List.{List, [], ◌∷◌, ◌++◌, map, flat_map}
use Prim.Native.Nat.{ℕ, suc, ◌+◌, ◌*◌, ◌-◌, ◌≤◌, ◌<◌}
use native.Mathlib.Nat.{zero-add}
use native.Mathlib.Omega.{arith}
use lib.ListN.{length, take, drop, get_or, set, take-append-drop}
use lib.Seq.{sets}
use Rattle.base_blocks.specs.Lists.{listed, over, total, removed, inserted}
use Rattle.base_blocks.specs.Blocks.{moved}
use Rattle.base_blocks.proofs.Lists.{removed_none}
use Rattle.base_blocks.proofs.Listed.{length_listed, drop_listed, take_listed}
use Rattle.base_tables.specs.Records.{table, flat}
use Rattle.base_tables.proofs.Records.{removed_records, inserted_records}
use Rattle.pool_rules.specs.Model.{Spare, VersionState, PoolModel}
use Rattle.pool_rules.specs.TakeSpare.{newest, others}
use Rattle.pool_records.specs.declared.spare.SpareRecord.{SpareRecord}
use Rattle.pool_records.specs.Texture.{read_texture}
use Rattle.pool_records.specs.Spare.{read_spare, write_spare}
use Rattle.pool_records.specs.Codecs.{spare_codec}
use Rattle.pool_memory.specs.Lent.{Lent}
use Rattle.pool_memory.specs.Reading.{tracked_records, spare_read, state_read, model_of}
use Rattle.pool_memory.specs.Writing.{spare_record, every_spare, spares_after}
use Rattle.pool_memory.proofs.Parts.{total_within, map_removed, map_inserted, up_to, flat_set, flat_removed, flat_inserted, run_longer, run_dropped, run_taken}
use Rattle.pool_memory.proofs.Runs.{spares_of, spare_count, first_spare, state_of, tracked_records_lem, tracked_model, model_at, spares_model, kept_states, take_states}
use Rattle.pool_memory.proofs.Same.{spare_records}
use Rattle.pool_records.specs.RecordConstants.{spare_stride}

-- ---- every spare, after one texture is changed

module _ (l : Lent) where
  abbrev pub spares_before : List (Spare ℕ)
  spares_before = every_spare (model_of l).textures

  -- how many spares texture i has
  abbrev pub spares_at : ℕ → ℕ
  spares_at i = (get_or (tracked_records l) i (read_texture [])).spares

  pub length_spares : length spares_before ≡ total spares_of (tracked_records l)
  length_spares = ap length (spares_model l) ∙ length_listed (spare_read l) 0 (total spares_of (tracked_records l))

  spares_upto : (i : ℕ) → up_to (λ (t : VersionState ℕ). t.spares) i (model_of l).textures ≡ first_spare l i
  unfolding model_of first_spare
  spares_upto i = ap (total spare_count) (take_states l i 0 (tracked_records l)) ∙ kept_states l 0 (take i (tracked_records l))

  pub count_state : (i : ℕ) → length (state_of l i).spares ≡ spares_at i
  unfolding state_of state_read
  count_state i = length_listed (spare_read l) (first_spare l i) (spares_at i)

  module _ (i : ℕ) (h : i < l.pool.tracked) where
    -- the spares of texture i lie within all of them
    pub spares_in : first_spare l i + spares_at i ≤ total spares_of (tracked_records l)
    unfolding first_spare
    spares_in = total_within spares_of (tracked_records l) i (read_texture []) (omega (arith, tracked_records_lem l))

    -- and are that run of them
    pub spares_run : (state_of l i).spares ≡ take (spares_at i) (drop (first_spare l i) spares_before)
    unfolding state_of state_read
    spares_run =
        let n = total spares_of (tracked_records l) in
        sym (ap (λ (xs : List (Spare ℕ)). take (spares_at i) (drop (first_spare l i) xs)) (spares_model l)
        ∙ ap (take (spares_at i))
        (drop_listed (spare_read l) (first_spare l i) 0 n (omega (arith, spares_in))
        ∙ ap (λ (m : ℕ). listed (spare_read l) m (n - first_spare l i)) (zero-add (first_spare l i)))
        ∙ take_listed (spare_read l) (spares_at i) (first_spare l i) (n - first_spare l i) (omega (arith, spares_in)))

    -- all but the oldest k of them
    pub spares_rest : (k : ℕ) → k ≤ spares_at i → drop k (state_of l i).spares ≡ take (spares_at i - k) (drop (first_spare l i + k) spares_before)
    unfolding state_of state_read
    spares_rest k q =
        let n = total spares_of (tracked_records l) in
        let at = first_spare l i + k in
        drop_listed (spare_read l) k (first_spare l i) (spares_at i) q
        ∙ sym (ap (λ (xs : List (Spare ℕ)). take (spares_at i - k) (drop at xs)) (spares_model l)
        ∙ ap (take (spares_at i - k))
        (drop_listed (spare_read l) at 0 n (omega (arith, spares_in)) ∙ ap (λ (m : ℕ). listed (spare_read l) m (n - at)) (zero-add at))
        ∙ take_listed (spare_read l) (spares_at i - k) at (n - at) (omega (arith, spares_in)))

    pub every_set : (t : VersionState ℕ)
        → every_spare (set (model_of l).textures i t)
        ≡ take (first_spare l i) spares_before ++ (t.spares ++ drop (first_spare l i + spares_at i) spares_before)
    every_set t =
        flat_set (λ (t : VersionState ℕ). t.spares) i (model_of l).textures t (state_of l 0) (omega (arith, tracked_model l))
        ∙ ap₂ (λ (m n : ℕ). take m spares_before ++ (t.spares ++ drop (m + n) spares_before)) (spares_upto i)
        (ap spare_count (model_at l i (state_of l 0) h) ∙ count_state i)

    -- one more, the newest
    pub every_appended : (t : VersionState ℕ) (x : Spare ℕ) → t.spares ≡ (state_of l i).spares ++ (x ∷ [])
        → every_spare (set (model_of l).textures i t) ≡ inserted (first_spare l i + spares_at i) (x ∷ []) spares_before
    every_appended t x e =
        every_set t
        ∙ ap (λ (xs : List (Spare ℕ)). take (first_spare l i) spares_before ++ (xs ++ drop (first_spare l i + spares_at i) spares_before))
        (e ∙ ap (λ (xs : List (Spare ℕ)). xs ++ (x ∷ [])) spares_run)
        ∙ run_longer spares_before (first_spare l i) (spares_at i) (omega (arith, spares_in, length_spares)) (x ∷ [])

    -- the oldest k out
    pub every_dropped : (t : VersionState ℕ) (k : ℕ) → k ≤ spares_at i → t.spares ≡ drop k (state_of l i).spares
        → every_spare (set (model_of l).textures i t) ≡ removed (first_spare l i) k spares_before
    every_dropped t k q e =
        every_set t
        ∙ ap (λ (xs : List (Spare ℕ)). take (first_spare l i) spares_before ++ (xs ++ drop (first_spare l i + spares_at i) spares_before))
        (e ∙ ap (drop k) spares_run)
        ∙ run_dropped spares_before (first_spare l i) (spares_at i) (omega (arith, spares_in, length_spares)) k q

    -- all but the oldest k out
    pub every_taken : (t : VersionState ℕ) (k : ℕ) → k ≤ spares_at i → t.spares ≡ take k (state_of l i).spares
        → every_spare (set (model_of l).textures i t) ≡ removed (first_spare l i + k) (spares_at i - k) spares_before
    every_taken t k q e =
        every_set t
        ∙ ap (λ (xs : List (Spare ℕ)). take (first_spare l i) spares_before ++ (xs ++ drop (first_spare l i + spares_at i) spares_before))
        (e ∙ ap (take k) spares_run)
        ∙ run_taken spares_before (first_spare l i) (spares_at i) (omega (arith, spares_in, length_spares)) k q

    -- all of them out
    pub every_emptied : (t : VersionState ℕ) → t.spares ≡ []
        → every_spare (set (model_of l).textures i t) ≡ removed (first_spare l i) (spares_at i) spares_before
    unfolding removed
    every_emptied t e =
        every_set t
        ∙ ap (λ (xs : List (Spare ℕ)). take (first_spare l i) spares_before ++ (xs ++ drop (first_spare l i + spares_at i) spares_before)) e

    -- none in or out
    pub every_kept : (t : VersionState ℕ) → t.spares ≡ (state_of l i).spares → every_spare (set (model_of l).textures i t) ≡ spares_before
    every_kept t e = every_dropped t 0 (omega arith) e ∙ removed_none (first_spare l i) spares_before (omega (arith, spares_in, length_spares))

    -- the texture out, with its spares
    pub every_removed : every_spare (removed i 1 (model_of l).textures) ≡ removed (first_spare l i) (spares_at i) spares_before
    every_removed =
        flat_removed (λ (t : VersionState ℕ). t.spares) i (model_of l).textures (state_of l 0) (omega (arith, tracked_model l))
        ∙ ap₂ (λ (m n : ℕ). removed m n spares_before) (spares_upto i) (ap spare_count (model_at l i (state_of l 0) h) ∙ count_state i)

  -- a texture with no spares put in
  pub every_inserted : (i : ℕ) (t : VersionState ℕ) → t.spares ≡ [] → every_spare (inserted i (t ∷ []) (model_of l).textures) ≡ spares_before
  unfolding inserted flat_map
  every_inserted i t e =
      flat_inserted (λ (t : VersionState ℕ). t.spares) i (t ∷ []) (model_of l).textures
      ∙ ap (λ (xs : List (Spare ℕ)). inserted (up_to (λ (t : VersionState ℕ). t.spares) i (model_of l).textures) (xs ++ []) spares_before) e
      ∙ take-append-drop (up_to (λ (t : VersionState ℕ). t.spares) i (model_of l).textures) spares_before

-- ---- the spares' records

module _ (l : Lent) (p : PoolModel ℕ) (kept : total spares_of (tracked_records l) ≡ l.pool.kept) (fits : spare_stride * l.pool.kept ≤ length l.spares) where
  -- the records of all the spares
  pub table_spares : map spare_record (spares_before l) ≡ table spare_stride read_spare l.pool.kept l.spares
  table_spares =
      ap (map spare_record) (spares_model l) ∙ spare_records l (total spares_of (tracked_records l))
      ∙ ap (λ (n : ℕ). table spare_stride read_spare n l.spares) kept

  pub spares_inserted : (k : ℕ) (x : Spare ℕ) → spare_stride * l.pool.kept + spare_stride ≤ length l.spares → k ≤ l.pool.kept
      → every_spare p.textures ≡ inserted k (x ∷ []) (spares_before l)
      → sets (moved l.spares (spare_stride * k + spare_stride) (spare_stride * k) (spare_stride * (l.pool.kept - k))) (spare_stride * k) (write_spare (spare_record x)) ≡ spares_after p l
  unfolding spares_after
  spares_inserted k x room h e =
      inserted_records spare_codec l.pool.kept l.spares fits k (spare_record x) room h
      ∙ sym (ap (λ (xs : List SpareRecord). over (flat write_spare xs) l.spares)
      (ap (map spare_record) e ∙ map_inserted spare_record k (x ∷ []) (spares_before l) ∙ ap (inserted k (spare_record x ∷ [])) table_spares))

  pub spares_removed : (k n : ℕ) → k + n ≤ l.pool.kept → every_spare p.textures ≡ removed k n (spares_before l)
      → moved l.spares (spare_stride * k) (spare_stride * k + spare_stride * n) (spare_stride * (l.pool.kept - (k + n))) ≡ spares_after p l
  unfolding spares_after
  spares_removed k n h e =
      removed_records spare_codec l.pool.kept l.spares fits k n h
      ∙ sym (ap (λ (xs : List SpareRecord). over (flat write_spare xs) l.spares)
      (ap (map spare_record) e ∙ map_removed spare_record k n (spares_before l) ∙ ap (removed k n) table_spares))

-- ---- the newest spare, and the others

newest_last : (s : Spare ℕ) (ss : List (Spare ℕ)) (d : Spare ℕ) → newest (s ∷ ss) ≡ some (get_or (s ∷ ss) (length ss) d)
newest_last s [] d = refl
newest_last s (u ∷ us) d = newest_last u us d

pub newest_at_lem : (ss : List (Spare ℕ)) (d : Spare ℕ) → 0 < length ss → newest ss ≡ some (get_or ss (length ss - 1) d)
newest_at_lem [] d h = absurd (let y : ⊥ = omega arith in y)
newest_at_lem (s ∷ ss) d h = newest_last s ss d ∙ ap (λ (k : ℕ). some (get_or (s ∷ ss) k d)) (let e : length ss ≡ suc (length ss) - 1 = omega arith in e)

others_front : (s : Spare ℕ) (ss : List (Spare ℕ)) → others (s ∷ ss) ≡ take (length ss) (s ∷ ss)
others_front s [] = refl
others_front s (u ∷ us) = ap (λ (xs : List (Spare ℕ)). s ∷ xs) (others_front u us)

pub others_taken : (ss : List (Spare ℕ)) → others ss ≡ take (length ss - 1) ss
others_taken [] = refl
others_taken (s ∷ ss) = others_front s ss ∙ ap (λ (k : ℕ). take k (s ∷ ss)) (let e : length ss ≡ suc (length ss) - 1 = omega arith in e)
