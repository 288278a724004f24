-- The slices while the textures give up their oldest spares, one texture after the other in ascending id: what stands in them when the first i have
-- given theirs. Assumes nothing.
use mathlib.Core.Path.{◌≡◌, refl, sym, ap, ap₂, ◌∙◌}
use mathlib.Core.List.{List, [], ◌∷◌, ◌++◌, map, flat_map, map-append, append-nil}
use Prim.Native.Nat.{ℕ, suc, ◌+◌, ◌-◌, ◌*◌, ◌≤◌, ◌<◌}
use native.Mathlib.Nat.{zero-add}
use native.Mathlib.Omega.{arith}
use lib.ListN.{length, take, drop, set, length-map, length-drop}
use lib.Seq.{take-suc, take_all, length-take-le}
use Rattle.base_blocks.specs.Lists.{listed, over, total}
use Rattle.base_blocks.specs.Blocks.{moved}
use Rattle.base_blocks.proofs.Lists.{total_append}
use Rattle.base_blocks.proofs.Listed.{drop_listed, take_listed, map_listed, listed_same}
use Rattle.base_tables.specs.Records.{record_at, flat}
use Rattle.base_tables.specs.Rings.{laid}
use Rattle.grid_shapes.specs.Shapes.{bytes_of}
use Rattle.pool_rules.specs.Model.{Spare, Doomed, VersionState, doomed_bytes}
use Rattle.pool_rules.specs.HistorySizes.{newest_used, stamps_used}
use Rattle.pool_rules.specs.Updates.{as_doomed}
use Rattle.pool_rules.proofs.Lists.{total_map, total_mapped}
use Rattle.pool_rules.proofs.Moves.{lessened, given, given_count, as_doomed_bytes}
use Rattle.pool_records.specs.declared.texture.TextureRecord.{TextureRecord}
use Rattle.pool_records.specs.declared.spare.SpareRecord.{SpareRecord}
use Rattle.pool_records.specs.declared.doomed.DoomedRecord.{DoomedRecord}
use Rattle.pool_records.specs.Texture.{read_texture, write_texture, texture_in, record_grids, record_stamps}
use Rattle.pool_records.specs.Spare.{read_spare, write_spare}
use Rattle.pool_records.specs.Doomed.{write_doomed}
use Rattle.pool_records.specs.Codecs.{texture_codec, spare_codec}
use Rattle.pool_memory.specs.Lent.{Lent, version_places}
use Rattle.pool_memory.specs.Reading.{tracked_records, spare_read, state_read, model_of}
use Rattle.pool_memory.specs.Writing.{texture_record, texture_records, spare_record, doomed_record, every_spare}
use Rattle.pool_memory.proofs.Parts.{total_next, flat_append}
use Rattle.pool_memory.proofs.Runs.{spares_of, spare_count, first_spare, first_grid, first_stamp, state_of, take_states, kept_states, used_states, grids_state, stamps_used_state, tracked_model, tracked_records_lem, model_at}
use Rattle.pool_memory.proofs.Rings.{laid_append}
use Rattle.pool_memory.proofs.Counts.{count_spares}
use Rattle.pool_memory.proofs.Fits.{Fits}
use Rattle.pool_memory.proofs.Passes.{records_more}
use Rattle.pool_memory.proofs.ReadStates.{length_recorded}
use Rattle.pool_memory.proofs.Starts.{placed_record}
use Rattle.pool_memory.proofs.Tracked.{record_read, record_at_lem, shape_at, count_at}
use Rattle.pool_take_doomed.specs.Given.{given_records}
use Rattle.pool_take_doomed.proofs.Pushed.{given_spares}
use Rattle.pool_note_allocated.proofs.Written.{record_over, moved_run, with_count, count_set}
use Rattle.pool_records.specs.RecordConstants.{doomed_stride, spare_stride, texture_spares_at, texture_stride}

module _ (l : Lent) where
  -- the record of texture i
  abbrev record_of : ℕ → TextureRecord
  record_of i = texture_in l.textures i

  pub state_record : (i : ℕ) → i < l.pool.tracked → state_of l i ≡ state_read l (first_spare l i) (record_of i)
  unfolding state_of
  state_record i h =
      ap (state_read l (first_spare l i)) (record_read l i h)

  pub state_spares : (i : ℕ) → i < l.pool.tracked → (state_of l i).spares ≡ listed (spare_read l) (first_spare l i) (record_of i).spares
  unfolding state_read
  state_spares i h = ap (λ (t : VersionState ℕ). t.spares) (state_record i h)

  pub first_next : (i : ℕ) → i < l.pool.tracked → first_spare l (suc i) ≡ first_spare l i + (record_of i).spares
  unfolding first_spare
  first_next i h =
      total_next spares_of (tracked_records l) i (read_texture []) (omega (arith, tracked_records_lem l))
      ∙ ap (λ (t : TextureRecord). total spares_of (take i (tracked_records l)) + t.spares) (record_read l i h)

  -- how many spares the first i have
  pub first_count : (i : ℕ) → total spare_count (take i (model_of l).textures) ≡ first_spare l i
  unfolding model_of first_spare
  first_count i = ap (total spare_count) (take_states l i 0 (tracked_records l)) ∙ kept_states l 0 (take i (tracked_records l))

  -- texture i after the first i
  pub take_next : (i : ℕ) → i < l.pool.tracked → take (suc i) (model_of l).textures ≡ take i (model_of l).textures ++ (state_of l i ∷ [])
  take_next i h =
      take-suc (model_of l).textures i (state_of l i) (omega (arith, tracked_model l))
      ∙ ap (λ (t : VersionState ℕ). take i (model_of l).textures ++ (t ∷ [])) (model_at l i (state_of l i) h)

  -- each state gives its k oldest spares
  module _ (k : VersionState ℕ → ℕ) where
    abbrev first : ℕ → List (VersionState ℕ)
    first i = take i (model_of l).textures

    unfoldable pub textures_to : ℕ → List ℕ
    textures_to i = over (flat write_texture (texture_records 0 0 (map (lessened k) (first i)))) l.textures

    unfoldable pub spares_to : ℕ → List ℕ
    spares_to i = over (flat write_spare (map spare_record (every_spare (map (lessened k) (first i))))) l.spares

    unfoldable pub doomed_to : ℕ → List ℕ
    doomed_to i =
        laid doomed_stride write_doomed (version_places l) l.pool.first l.pool.doomed (map doomed_record (flat_map (given k) (first i))) l.doomed

    unfoldable pub kept_to : ℕ → ℕ
    kept_to i = total spare_count (map (lessened k) (first i))

    unfoldable pub bytes_to : ℕ → ℕ
    bytes_to i = doomed_bytes (flat_map (given k) (first i))

    -- what texture i gives and keeps
    abbrev gave : ℕ → ℕ
    gave i = k (state_of l i)

    thin_next : (i : ℕ) → i < l.pool.tracked → map (lessened k) (first (suc i)) ≡ map (lessened k) (first i) ++ (lessened k (state_of l i) ∷ [])
    thin_next i h = ap (map (lessened k)) (take_next i h) ∙ map-append (lessened k) (first i) (state_of l i ∷ [])

    length_first : (i : ℕ) → i ≤ l.pool.tracked → length (first i) ≡ i
    length_first i h = length-take-le i (model_of l).textures (omega (arith, tracked_model l))

    -- ---- the textures' records

    -- those before texture i have the grids and stamps that they had
    used_before : (used : VersionState ℕ → ℕ) → ((t : VersionState ℕ) → used (lessened k t) ≡ used t) → (size : TextureRecord → ℕ)
        → ((at : ℕ) (t : TextureRecord) → used (state_read l at t) ≡ size t) → (i : ℕ)
        → 0 + total used (map (lessened k) (first i)) ≡ total size (take i (tracked_records l))
    unfolding model_of
    used_before used same size reads i =
        zero-add (total used (map (lessened k) (first i)))
        ∙ total_map used (lessened k) same (first i)
        ∙ ap (total used) (take_states l i 0 (tracked_records l))
        ∙ used_states l used size reads 0 (take i (tracked_records l))

    grids_before : (i : ℕ) → 0 + total newest_used (map (lessened k) (first i)) ≡ first_grid l i
    unfolding first_grid
    grids_before i = used_before newest_used (λ t. refl) record_grids (grids_state l) i

    stamps_before : (i : ℕ) → 0 + total stamps_used (map (lessened k) (first i)) ≡ first_stamp l i
    unfolding first_stamp
    stamps_before i = used_before stamps_used (λ t. refl) record_stamps (stamps_used_state l) i

    pub textures_next : (i : ℕ) → i < l.pool.tracked → Fits l
        → set (textures_to i) (texture_stride * i + texture_spares_at) ((record_of i).spares - gave i) ≡ textures_to (suc i)
    unfolding textures_to
    textures_next i h f =
        let xs = texture_records 0 0 (map (lessened k) (first i)) in
        count_set xs l.textures i ((record_of i).spares - gave i)
        (length_recorded 0 0 (map (lessened k) (first i)) ∙ length-map (first i) (lessened k) ∙ length_first i (omega arith)) (omega (arith, f.textures, f.tracked))
        ∙ ap (λ (rs : List TextureRecord). over (flat write_texture rs) l.textures)
        (sym (ap (texture_records 0 0) (thin_next i h) ∙ records_more 0 0 (map (lessened k) (first i)) (lessened k (state_of l i))
        ∙ ap₂ (λ (g n : ℕ). xs ++ (texture_record g n (lessened k (state_of l i)) ∷ [])) (grids_before i) (stamps_before i)
        ∙ ap (λ (t : TextureRecord). xs ++ (t ∷ [])) thinner))
      where
        thinner : placed_record l i (lessened k (state_of l i)) ≡ with_count ((record_of i).spares - gave i) (record_of i)
        thinner =
            ap (λ (n : ℕ). with_count n (placed_record l i (state_of l i))) (length-drop (gave i) (state_of l i).spares ∙ ap (λ (n : ℕ). n - gave i) (count_at l i h))
            ∙ ap (with_count ((record_of i).spares - gave i)) (record_at_lem l i h f)

    -- the record of texture i, while those before it are written
    pub record_next : (i : ℕ) → i ≤ l.pool.tracked → texture_in (textures_to i) i ≡ record_of i
    unfolding textures_to
    record_next i h =
        let xs = texture_records 0 0 (map (lessened k) (first i)) in
        record_over texture_codec xs l.textures i
        (omega (arith, length_recorded 0 0 (map (lessened k) (first i)), length-map (first i) (lessened k), length_first i h))

    -- ---- the spares

    kept_length : (i : ℕ) → length (map spare_record (every_spare (map (lessened k) (first i)))) ≡ kept_to i
    unfolding kept_to
    kept_length i = length-map (every_spare (map (lessened k) (first i))) spare_record ∙ sym (count_spares (map (lessened k) (first i)))

    pub kept_most : (i : ℕ) → kept_to i ≤ first_spare l i
    unfolding kept_to
    kept_most i =
        omega (
          arith,
          total_mapped spare_count (lessened k) (λ t. omega (arith, length-drop (k t) t.spares)) (first i),
          first_count i,
        )

    pub kept_next : (i : ℕ) → i < l.pool.tracked → kept_to (suc i) ≡ kept_to i + ((record_of i).spares - gave i)
    unfolding kept_to total
    kept_next i h =
        ap (total spare_count) (thin_next i h) ∙ total_append spare_count (map (lessened k) (first i)) (lessened k (state_of l i) ∷ [])
        ∙ (let e : total spare_count (map (lessened k) (first i)) + (length (drop (gave i) (state_of l i).spares) + 0)
        ≡ total spare_count (map (lessened k) (first i)) + ((record_of i).spares - gave i) =
        omega (arith, length-drop (gave i) (state_of l i).spares, count_at l i h) in e)

    -- the spares that texture i keeps are those after the ones that it gave
    kept_run : (i : ℕ) → i < l.pool.tracked → gave i ≤ (record_of i).spares
        → map spare_record (drop (gave i) (state_of l i).spares)
        ≡ listed (record_at spare_stride read_spare l.spares) (first_spare l i + gave i) ((record_of i).spares - gave i)
    unfolding spare_read
    kept_run i h le =
        ap (map spare_record) (ap (drop (gave i)) (state_spares i h) ∙ drop_listed (spare_read l) (gave i) (first_spare l i) (record_of i).spares le)
        ∙ map_listed spare_record (spare_read l) (first_spare l i + gave i) ((record_of i).spares - gave i)

    every_next : (i : ℕ) → i < l.pool.tracked
        → map spare_record (every_spare (map (lessened k) (first (suc i))))
        ≡ map spare_record (every_spare (map (lessened k) (first i))) ++ map spare_record (drop (gave i) (state_of l i).spares)
    unfolding flat_map
    every_next i h =
        ap (λ (ts : List (VersionState ℕ)). map spare_record (every_spare ts)) (thin_next i h)
        ∙ ap (map spare_record)
        (flat_append (λ (t : VersionState ℕ). t.spares) (map (lessened k) (first i)) (lessened k (state_of l i) ∷ [])
        ∙ ap (λ (ss : List (Spare ℕ)). every_spare (map (lessened k) (first i)) ++ ss) (append-nil (drop (gave i) (state_of l i).spares)))
        ∙ map-append spare_record (every_spare (map (lessened k) (first i))) (drop (gave i) (state_of l i).spares)

    pub spares_next : (i : ℕ) → i < l.pool.tracked → gave i ≤ (record_of i).spares → spare_stride * (first_spare l i + (record_of i).spares) ≤ length l.spares
        → moved (spares_to i) (spare_stride * kept_to i) (spare_stride * (first_spare l i + gave i)) (spare_stride * ((record_of i).spares - gave i)) ≡ spares_to (suc i)
    unfolding spares_to
    spares_next i h le fits =
        let c = (record_of i).spares in
        let from = first_spare l i in
        let g = gave i in
        let xs = map spare_record (every_spare (map (lessened k) (first i))) in
        moved_run spare_codec xs l.spares (kept_to i) (from + g) (c - g) (kept_length i) (omega (arith, kept_most i)) (omega arith)
        ∙ ap (λ (rs : List SpareRecord). over (flat write_spare rs) l.spares) (sym (every_next i h ∙ ap (λ (rs : List SpareRecord). xs ++ rs) (kept_run i h le)))

    -- a parking number that is still to be read is what it was
    pub spare_next : (i j : ℕ) → first_spare l i ≤ j → record_at spare_stride read_spare (spares_to i) j ≡ record_at spare_stride read_spare l.spares j
    unfolding spares_to
    spare_next i j h =
        record_over spare_codec (map spare_record (every_spare (map (lessened k) (first i)))) l.spares j (omega (arith, kept_length i, kept_most i))

    -- ---- the destroy ring

    given_length : (i : ℕ) → length (map doomed_record (flat_map (given k) (first i))) ≡ first_spare l i - kept_to i
    unfolding kept_to
    given_length i = omega (arith, length-map (flat_map (given k) (first i)) doomed_record, given_count k (first i), first_count i)

    flat_next : (i : ℕ) → i < l.pool.tracked → flat_map (given k) (first (suc i)) ≡ flat_map (given k) (first i) ++ given k (state_of l i)
    unfolding flat_map
    flat_next i h =
        ap (flat_map (given k)) (take_next i h) ∙ flat_append (given k) (first i) (state_of l i ∷ [])
        ∙ ap (λ (ds : List (Doomed ℕ)). flat_map (given k) (first i) ++ ds) (append-nil (given k (state_of l i)))

    given_same : (i bytes n : ℕ) → given_records (spares_to i) bytes (first_spare l i) n ≡ given_records l.spares bytes (first_spare l i) n
    unfolding given_records
    given_same i bytes n =
        listed_same (λ j. record { view = (record_at spare_stride read_spare (spares_to i) j).view; bytes = bytes })
        (λ j. record { view = (record_at spare_stride read_spare l.spares j).view; bytes = bytes }) n (first_spare l i) (first_spare l i)
        (λ j q. ap (λ (x : SpareRecord). record { view = x.view; bytes = bytes }) (spare_next i (first_spare l i + j) (omega arith)))

    given_taken : (i : ℕ) → i < l.pool.tracked → gave i ≤ (record_of i).spares
        → given_records (spares_to i) (bytes_of (record_of i).shape) (first_spare l i) (gave i) ≡ map doomed_record (given k (state_of l i))
    given_taken i h le =
        given_same i (bytes_of (record_of i).shape) (gave i) ∙ given_spares l (bytes_of (record_of i).shape) (first_spare l i) (gave i)
        ∙ ap₂ (λ (b : ℕ) (ss : List (Spare ℕ)). map doomed_record (as_doomed b ss)) (ap bytes_of (sym (shape_at l i h)))
        (sym (ap (take (gave i)) (state_spares i h)
        ∙ take_listed (spare_read l) (gave i) (first_spare l i) (record_of i).spares le))

    pub doomed_next : (i : ℕ) → i < l.pool.tracked → gave i ≤ (record_of i).spares
        → laid doomed_stride write_doomed (version_places l) l.pool.first (l.pool.doomed + (first_spare l i - kept_to i))
        (given_records (spares_to i) (bytes_of (record_of i).shape) (first_spare l i) (gave i)) (doomed_to i)
        ≡ doomed_to (suc i)
    unfolding doomed_to
    doomed_next i h le =
        let cap = version_places l in
        let f = l.pool.first in
        let d = l.pool.doomed in
        let xs = map doomed_record (flat_map (given k) (first i)) in
        let ys = map doomed_record (given k (state_of l i)) in
        ap₂ (λ (n : ℕ) (rs : List DoomedRecord). laid doomed_stride write_doomed cap f (d + n) rs (laid doomed_stride write_doomed cap f d xs l.doomed)) (sym (given_length i)) (given_taken i h le)
        ∙ sym (laid_append doomed_stride write_doomed cap f xs ys d l.doomed)
        ∙ ap (λ (rs : List DoomedRecord). laid doomed_stride write_doomed cap f d rs l.doomed)
        (sym (ap (map doomed_record) (flat_next i h) ∙ map-append doomed_record (flat_map (given k) (first i)) (given k (state_of l i))))

    pub bytes_next : (i : ℕ) → i < l.pool.tracked → gave i ≤ (record_of i).spares → bytes_to (suc i) ≡ bytes_to i + bytes_of (record_of i).shape * gave i
    unfolding bytes_to
    bytes_next i h le =
        ap doomed_bytes (flat_next i h) ∙ total_append (λ (d : Doomed ℕ). d.bytes) (flat_map (given k) (first i)) (given k (state_of l i))
        ∙ ap (λ (n : ℕ). doomed_bytes (flat_map (given k) (first i)) + n)
        (as_doomed_bytes (bytes_of (state_of l i).shape) (take (gave i) (state_of l i).spares)
        ∙ ap₂ (λ (a b : ℕ). a * b) (ap bytes_of (shape_at l i h)) (length-take-le (gave i) (state_of l i).spares (omega (arith, count_at l i h))))

    -- ---- none has given, and all have

    pub none_given : (textures_to 0 ≡ l.textures) × ((spares_to 0 ≡ l.spares) × (doomed_to 0 ≡ l.doomed))
    unfolding textures_to spares_to doomed_to flat flat_map over laid texture_records
    none_given = (refl, (refl, refl))

    pub none_counted : (kept_to 0 ≡ 0) × (bytes_to 0 ≡ 0)
    unfolding kept_to bytes_to flat_map total
    none_counted = (refl, refl)

    pub all_given : (i : ℕ) → l.pool.tracked ≤ i → first i ≡ (model_of l).textures
    all_given i h = take_all i (model_of l).textures (omega (arith, tracked_model l))
