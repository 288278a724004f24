-- What relief picks of a pool in lent memory, texture by texture: the numbers that the code works with are the model's. Assumes nothing.
use mathlib.Core.Path.{◌≡◌, refl, sym, ap, ap₂, ◌∙◌}
use mathlib.Core.Bool.{true}
use mathlib.Core.List.{List, [], ◌∷◌, ◌++◌, map, flat_map, append-nil}
use mathlib.Core.Logic.{inl, inr, ⊎_elim}
use Prim.Native.Nat.{ℕ, zero, suc, ◌+◌, ◌*◌, ◌≤◌, ◌<◌}
use native.Mathlib.Nat.{add-zero, mul-zero, mul-suc, mul-le-mul_left, mul-le-mul_right}
use native.Mathlib.Omega.{arith}
use lib.ListN.{length, take, drop}
use lib.Seq.{split_at}
use Rattle.base_blocks.specs.Lists.{listed, keep, total}
use Rattle.base_blocks.specs.All.{All, nil, cons}
use Rattle.base_blocks.proofs.All.{all_keep}
use Rattle.base_blocks.proofs.Lists.{keep_append, total_append}
use Rattle.base_blocks.proofs.Listed.{map_listed}
use Rattle.base_tables.proofs.Records.{get_or_table}
use Rattle.grid_shapes.specs.Shapes.{is_shape, bytes_of}
use Rattle.grid_shapes.proofs.ShapeBytes.{bytes_bound}
use Rattle.pool_rules.specs.Model.{VersionState}
use Rattle.pool_rules.specs.HistorySizes.{newest_used, stamps_used}
use Rattle.pool_rules.specs.Formed.{StateFormed}
use Rattle.pool_rules.specs.NoteAllocated.{Aged, picked, by_age, count_of, aged_of, picked_in}
use Rattle.pool_records.specs.declared.texture.TextureRecord.{TextureRecord}
use Rattle.pool_records.specs.Texture.{read_texture, texture_in, record_spares, record_bytes}
use Rattle.pool_memory.specs.Lent.{Lent}
use Rattle.pool_memory.specs.Reading.{tracked_records, spare_read, state_read, states_read, model_of}
use Rattle.pool_memory.specs.Writing.{texture_records}
use Rattle.pool_memory.proofs.Fits.{Fits}
use Rattle.pool_memory.proofs.Parts.{total_next, total_within}
use Rattle.pool_memory.proofs.Runs.{first_spare, state_of, tracked_records_lem, tracked_model, records_model, model_at}
use Rattle.pool_memory.proofs.Same.{doomed_model}
use Rattle.pool_memory.proofs.Stays.{textures_fit_lem, spares_fit, doomed_bound}
use Rattle.pool_memory.proofs.Tracked.{bytes_at, shape_at}
use Rattle.pool_relief_line.specs.Line.{bytes_of_aged, is_before, is_at, bytes_before, IsLine, freed_with, parked_of, count_before, taken_at, gives}
use Rattle.pool_relief_line.specs.Parked.{parked_at, parkings, bytes_from, most_version_bytes, Countable}
use Rattle.pool_relief_line.proofs.Picked.{all_picked, freed_append}
use Rattle.pool_relief_line.proofs.ByLine.{aged_all, aged_append, before_run, at_run, gives_among, aged_bytes}
use Rattle.pool_relief_line.proofs.Parked.{length_parkings, gives_most, gives_sum, before_most}
use Rattle.pool_note_allocated.proofs.Thinned.{state_spares, take_next}
use Rattle.grid_shapes.specs.ShapeConstants.{most_shape_bytes}
use Rattle.pool_records.specs.RecordConstants.{texture_stride}

-- ---- bytes of one texture's spares

same_bytes : (b : ℕ) {xs : List Aged} → All (λ (a : Aged). a.bytes ≡ b) xs → total bytes_of_aged xs ≡ b * length xs
unfolding total
same_bytes b nil = sym (mul-zero b)
same_bytes b (cons {x = x} {xs = xs} p ps) = omega (arith, p, same_bytes b ps, mul-suc b (length xs))

state_before : (t : VersionState ℕ) (line : ℕ)
    → total bytes_of_aged (keep (is_before line) (aged_of t)) ≡ bytes_of t.shape * count_before line (map parked_of t.spares)
state_before t line =
    same_bytes (bytes_of t.shape) (all_keep (is_before line) (aged_bytes t)) ∙ ap (λ (n : ℕ). bytes_of t.shape * n) (before_run t line)

state_at_line : (t : VersionState ℕ) (line freed excess : ℕ)
    → freed_with freed excess (keep (is_at line) (aged_of t)) ≡ freed + bytes_of t.shape * taken_at freed excess (bytes_of t.shape) line (map parked_of t.spares)
unfolding freed_with
state_at_line t line freed excess =
    ap (λ (n : ℕ). freed + n)
    (same_bytes (bytes_of t.shape) (all_picked freed excess (all_keep (is_at line) (aged_bytes t)))
    ∙ ap (λ (n : ℕ). bytes_of t.shape * n) (at_run t line freed excess))

module _ (l : Lent) where
  abbrev record_of : ℕ → TextureRecord
  record_of i = texture_in l.textures i

  -- how many were picked of a texture
  abbrev pub share : ℕ → VersionState ℕ → ℕ
  share excess t = count_of t.id (picked_in excess (model_of l))

  -- what is freed when the first i textures have given
  unfoldable pub freed_to : ℕ → ℕ → ℕ → ℕ
  freed_to excess line i =
      freed_with (l.pool.dooming + bytes_from l.spares line 0 (tracked_records l)) excess (keep (is_at line) (aged_all (take i (model_of l).textures)))

  -- ---- the parking numbers

  run_parkings : (first n : ℕ) → map parked_of (listed (spare_read l) first n) ≡ parkings l.spares first n
  unfolding spare_read parkings parked_at
  run_parkings first n = map_listed parked_of (spare_read l) first n

  pub state_parkings : (i : ℕ) → i < l.pool.tracked
      → map parked_of (state_of l i).spares ≡ parkings l.spares (first_spare l i) (texture_in l.textures i).spares
  state_parkings i h =
      ap (map parked_of) (state_spares l i h) ∙ run_parkings (first_spare l i) (texture_in l.textures i).spares

  run_bytes : (line first : ℕ) (t : TextureRecord)
      → bytes_of (state_read l first t).shape * count_before line (map parked_of (state_read l first t).spares)
      ≡ bytes_of t.shape * count_before line (parkings l.spares first t.spares)
  unfolding state_read
  run_bytes line first t = ap (λ (ps : List ℕ). bytes_of t.shape * count_before line ps) (run_parkings first t.spares)

  bytes_states : (line first : ℕ) (ts : List TextureRecord) → bytes_from l.spares line first ts ≡ bytes_before line (aged_all (states_read l first ts))
  unfolding bytes_from bytes_before states_read flat_map keep total
  bytes_states line first [] = refl
  bytes_states line first (t ∷ ts) =
      let s = state_read l first t in
      let us = states_read l (first + t.spares) ts in
      sym (ap (total bytes_of_aged) (keep_append (is_before line) (aged_of s) (aged_all us))
      ∙ total_append bytes_of_aged (keep (is_before line) (aged_of s)) (keep (is_before line) (aged_all us))
      ∙ ap₂ (λ (a b : ℕ). a + b) (state_before s line ∙ run_bytes line first t) (sym (bytes_states line (first + t.spares) ts)))

  pub bytes_model : (line : ℕ) → bytes_from l.spares line 0 (tracked_records l) ≡ bytes_before line (aged_all (model_of l).textures)
  unfolding model_of
  bytes_model line = bytes_states line 0 (tracked_records l)

  -- ---- bounds

  shapes_recorded : (grid stamp : ℕ) {ts : List (VersionState ℕ)} → All StateFormed ts
      → All (λ (t : TextureRecord). is_shape t.shape ≡ true) (texture_records grid stamp ts)
  unfolding texture_records
  shapes_recorded grid stamp nil = nil
  shapes_recorded grid stamp (cons {x = t} q qs) = cons q.shape (shapes_recorded (grid + newest_used t) (stamp + stamps_used t) qs)

  module _ (f : Fits l) where
    records_shaped : All (λ (t : TextureRecord). is_shape t.shape ≡ true) (tracked_records l)
    records_shaped = rw (records_model l f.bytes f.starts) at (shapes_recorded 0 0 f.formed.textures)

    bytes_most : {ts : List TextureRecord} → All (λ (t : TextureRecord). is_shape t.shape ≡ true) ts → total record_bytes ts ≤ most_shape_bytes * total record_spares ts
    unfolding total record_bytes
    bytes_most nil = omega arith
    bytes_most (cons {x = t} p ps) =
        omega (arith, bytes_most ps, mul-le-mul_right {m = bytes_of t.shape} {n = most_shape_bytes} t.spares (bytes_bound t.shape p))

    pub countable : Countable l.textures l.pool.tracked l.spares
    countable = record {
      fits = textures_fit_lem l f;
      runs = spares_fit l f;
      recorded = λ i h. bytes_at l i h f;
      few = omega (arith, f.kept, f.versions, f.most);
      bytes = omega (arith, bytes_most records_shaped, f.kept, f.versions, f.most);
    }

    -- the destroy queue's bytes
    pub dooming_most : l.pool.dooming ≤ most_version_bytes
    unfolding model_of
    dooming_most = omega (arith, f.formed.dooming, doomed_bound f.formed.doomed, doomed_model l, f.versions, f.most)

    -- ---- what each texture gives

    module _ (excess line : ℕ) (L : IsLine l.pool.dooming excess (λ n. bytes_from l.spares n 0 (tracked_records l)) line) where
      model_line : IsLine l.pool.dooming excess (λ n. bytes_before n (aged_all (model_of l).textures)) line
      model_line = record { short = omega (arith, L.short, bytes_model line); last = ⊎_elim (λ q. inl (omega (arith, q, bytes_model (suc line)))) inr L.last }

      parts : (i : ℕ) → i < l.pool.tracked
          → take i (model_of l).textures ++ (state_of l i ∷ drop (suc i) (model_of l).textures) ≡ (model_of l).textures
      parts i h =
          sym (split_at (model_of l).textures i (state_of l i) (omega (arith, tracked_model l))
          ∙ ap (λ (t : VersionState ℕ). take i (model_of l).textures ++ (t ∷ drop (suc i) (model_of l).textures)) (model_at l i (state_of l i) h))

      dooming_model : (model_of l).dooming ≡ l.pool.dooming
      unfolding model_of
      dooming_model = refl

      pub share_gives : (i : ℕ) → i < l.pool.tracked
          → gives (freed_to excess line i) excess (bytes_of (record_of i).shape) line (parkings l.spares (first_spare l i) (record_of i).spares) ≡ share excess (state_of l i)
      unfolding freed_to
      share_gives i h =
          let ts = (model_of l).textures in
          let t = state_of l i in
          let at = keep (is_at line) (aged_all (take i ts)) in
          let d = l.pool.dooming in
          sym (ap (λ (n : ℕ). count_of t.id (picked n excess (by_age (aged_all ts)))) dooming_model
          ∙ gives_among (take i ts) t (drop (suc i) ts) ts (parts i h) f.formed.ids f.formed.textures d excess line model_line
          ∙ ap (λ (n : ℕ). gives (freed_with (d + n) excess at) excess (bytes_of t.shape) line (map parked_of t.spares)) (sym (bytes_model line))
          ∙ ap₂ (λ (b : ℕ) (ps : List ℕ). gives (freed_to excess line i) excess b line ps) (ap bytes_of (shape_at l i h)) (state_parkings i h))

      pub share_most : (i : ℕ) → i < l.pool.tracked → share excess (state_of l i) ≤ (record_of i).spares
      share_most i h =
          let ps = parkings l.spares (first_spare l i) (record_of i).spares in
          omega (
            arith,
            share_gives i h,
            gives_most (freed_to excess line i) excess (bytes_of (record_of i).shape) line ps,
            length_parkings l.spares (first_spare l i) (record_of i).spares,
          )

      pub freed_next : (i : ℕ) → i < l.pool.tracked
          → freed_to excess line i + bytes_of (record_of i).shape * taken_at (freed_to excess line i) excess (bytes_of (record_of i).shape) line (parkings l.spares (first_spare l i) (record_of i).spares)
          ≡ freed_to excess line (suc i)
      unfolding freed_to flat_map
      freed_next i h =
          let ts = (model_of l).textures in
          let t = state_of l i in
          let start = l.pool.dooming + bytes_from l.spares line 0 (tracked_records l) in
          let at = keep (is_at line) (aged_all (take i ts)) in
          sym (ap (λ (us : List (VersionState ℕ)). freed_with start excess (keep (is_at line) (aged_all us))) (take_next l i h)
          ∙ ap (λ (xs : List Aged). freed_with start excess (keep (is_at line) xs))
          (aged_append (take i ts) (t ∷ []) ∙ ap (λ (xs : List Aged). aged_all (take i ts) ++ xs) (append-nil (aged_of t)))
          ∙ ap (freed_with start excess) (keep_append (is_at line) (aged_all (take i ts)) (aged_of t))
          ∙ freed_append start excess at (keep (is_at line) (aged_of t))
          ∙ state_at_line t line (freed_to excess line i) excess
          ∙ ap₂ (λ (b : ℕ) (ps : List ℕ). freed_to excess line i + b * taken_at (freed_to excess line i) excess b line ps) (ap bytes_of (shape_at l i h)) (state_parkings i h))

      pub freed_start : freed_to excess line 0 ≡ l.pool.dooming + bytes_from l.spares line 0 (tracked_records l)
      unfolding freed_to freed_with keep flat_map picked total
      freed_start = add-zero (l.pool.dooming + bytes_from l.spares line 0 (tracked_records l))

      -- bounds of what is freed and given, for the code's sums
      freed_most : (i : ℕ) → i ≤ l.pool.tracked
          → freed_to excess line i ≤ l.pool.dooming + bytes_from l.spares line 0 (tracked_records l) + total record_bytes (take i (tracked_records l))
      unfolding total record_bytes
      freed_most zero h = omega (arith, freed_start)
      freed_most (suc i) h =
          let ps = parkings l.spares (first_spare l i) (record_of i).spares in
          let b = bytes_of (record_of i).shape in
          let n = taken_at (freed_to excess line i) excess b line ps in
          let le : n ≤ (record_of i).spares =
          omega (arith, gives_sum (freed_to excess line i) excess b line ps, gives_most (freed_to excess line i) excess b line ps, length_parkings l.spares (first_spare l i) (record_of i).spares) in
          omega (
            arith,
            freed_most i (omega arith),
            freed_next i h,
            mul-le-mul_left {m = n} {n = (record_of i).spares} b le,
            total_next record_bytes (tracked_records l) i (read_texture []) (omega (arith, tracked_records_lem l)),
            ap record_bytes (get_or_table texture_stride read_texture l.pool.tracked i l.textures (read_texture []) h),
          )

      pub freed_fits : (i : ℕ) → i < l.pool.tracked → freed_to excess line i + bytes_of (record_of i).shape * (record_of i).spares ≤ 216172782113783808
      unfolding record_bytes
      freed_fits i h =
          omega (
            arith,
            freed_most i (omega arith),
            total_within record_bytes (tracked_records l) i (read_texture []) (omega (arith, tracked_records_lem l)),
            ap record_bytes (get_or_table texture_stride read_texture l.pool.tracked i l.textures (read_texture []) h),
            countable.bytes,
            dooming_most,
            before_most l.spares line 0 (tracked_records l),
          )
