-- The model's textures are what the slices say: run by run, their records, spares, grids and stamps stand one behind the other. Assumes nothing.
use mathlib.Core.Path.{◌≡◌, refl, sym, ap, ap₂, ◌∙◌}
use mathlib.Core.Bool.{true, cond}
use mathlib.Core.List.{List, [], ◌∷◌, ◌++◌, flat_map, append-nil}
use Prim.Native.Nat.{ℕ, zero, suc, ◌+◌, ◌*◌, ◌≤◌, ◌<◌}
use native.Mathlib.Nat.{add-zero, zero-add, add_assoc}
use native.Mathlib.Omega.{arith}
use lib.Dec.{eqb}
use lib.ListN.{length, take, drop, get_or}
use lib.Seq.{take-add, drop-drop}
use borrow.Author.Tests.{eqb-true}
use Rattle.base_blocks.specs.Lists.{listed, all, total}
use Rattle.base_blocks.proofs.Lists.{all_get, and_both}
use Rattle.base_blocks.proofs.Listed.{length_listed, get_or_listed, listed_split}
use Rattle.base_tables.proofs.Records.{length_table}
use Rattle.grid_shapes.specs.declared.shape.VersionShape.{VersionShape}
use Rattle.grid_shapes.specs.Shapes.{bytes_of}
use Rattle.grid_stamps.specs.Grids.{StampGrid, grid_in}
use Rattle.base_unequal.specs.Unequal.{start_of, starts_fit}
use Rattle.base_unequal.proofs.Readings.{start_held}
use Rattle.pool_rules.specs.Model.{Spare, VersionState, grid_count, has_history}
use Rattle.pool_rules.specs.HistorySizes.{grid_places, grid_size, grid_start, history_size, newest_used, stamps_used}
use Rattle.pool_rules.specs.RuleConstants.{grid_stride}
use Rattle.pool_rules.proofs.HistorySizes.{grid_first, grid_next, grid_last}
use Rattle.pool_records.specs.Recorded.{Recorded}
use Rattle.std.specs.Prelude.{Some, None}
use Rattle.pool_records.specs.declared.texture.TextureRecord.{TextureRecord}
use Rattle.pool_records.specs.Texture.{read_texture, recorded_grids, record_grids, recorded_stamps, record_stamps}
use Rattle.pool_records.specs.Tilings.{tiling_number, TilingsAt}
use Rattle.pool_memory.specs.Lent.{Lent}
use Rattle.pool_memory.specs.Reading.{tracked_records, grid_read, history_read, spare_read, state_read, states_read, model_of}
use Rattle.pool_memory.specs.IsPool.{bytes_hold, bytes_fit, starts_hold, state_id, tiling_holds, tilings_read, tilings_hold, tilings_fit}
use Rattle.pool_memory.specs.Writing.{recorded_history, texture_record, texture_records, every_spare, grids_of, newest_from, newest_of, stamps_of}
use Rattle.pool_memory.proofs.NewestNumbers.{newest_listed}
use Rattle.pool_memory.proofs.Parts.{flat_append}
use Rattle.pool_records.specs.RecordConstants.{texture_stride}

abbrev pub spares_of : TextureRecord → ℕ
spares_of t = t.spares

abbrev pub spare_count : VersionState ℕ → ℕ
spare_count t = length t.spares

-- a number of `newest`
abbrev pub newest_at : Lent → ℕ → ℕ
newest_at l k = get_or l.newest k 0

pub bytes_held : (t : TextureRecord) → bytes_hold t ≡ true → t.bytes ≡ bytes_of t.shape
unfolding bytes_hold
bytes_held t e = eqb-true _ _ e

-- the record's first grid and first stamp
abbrev pub first_grid_in : TextureRecord → ℕ
first_grid_in t = t.grid

abbrev pub first_stamp_in : TextureRecord → ℕ
first_stamp_in t = t.stamp

module _ (l : Lent) where
  -- ---- one texture

  recorded_read : (s : VersionShape) (grid stamp : ℕ) (h : Recorded) → recorded_history (history_read l s grid stamp h) ≡ h
  recorded_read s grid stamp None = refl
  recorded_read s grid stamp (Some n) = refl

  -- a texture that was read is written as its record, where the record's bytes are those of its shape
  pub record_state : (first : ℕ) (t : TextureRecord) → t.bytes ≡ bytes_of t.shape → texture_record t.grid t.stamp (state_read l first t) ≡ t
  unfolding state_read
  record_state first t e = λ j. record {
    id = t.id;
    shape = t.shape;
    epoch = t.epoch;
    history = recorded_read t.shape t.grid t.stamp t.history j;
    birth = t.birth;
    rename = t.rename;
    due = t.due;
    spares = length_listed (spare_read l) first t.spares j;
    bytes = sym e j;
    grid = t.grid;
    stamp = t.stamp;
  }

  -- it uses what its record claims
  used_read : (s : VersionShape) (grid stamp n : ℕ) (h : Recorded) (m : Recorded → ℕ) → m None ≡ 0 → ((k : ℕ) → m (Some k) ≡ n)
      → cond (has_history (history_read l s grid stamp h)) n 0 ≡ m h
  used_read s grid stamp n None m e f = sym e
  used_read s grid stamp n (Some k) m e f = sym (f k)

  pub grids_state : (first : ℕ) (t : TextureRecord) → newest_used (state_read l first t) ≡ record_grids t
  unfolding state_read
  grids_state first t =
      used_read t.shape t.grid t.stamp (grid_stride * grid_count t.shape) t.history (λ (h : Recorded). recorded_grids h t.shape) refl (λ k. refl)

  pub stamps_used_state : (first : ℕ) (t : TextureRecord) → stamps_used (state_read l first t) ≡ record_stamps t
  unfolding state_read
  stamps_used_state first t =
      used_read t.shape t.grid t.stamp (history_size t.shape) t.history (λ (h : Recorded). recorded_stamps h t.shape) refl (λ k. refl)

  -- beside each grid's newest stamp its tiling
  pub tiling_there : (s : VersionShape) (grid : ℕ) → all (tiling_holds l s grid) (grid_places s) ≡ true → TilingsAt l.newest grid s
  unfolding tiling_holds
  tiling_there s grid e k q =
      eqb-true _ _
      (sym (ap (tiling_holds l s grid) (get_or_listed (λ (j : ℕ). j) 0 (grid_count s) k 0 q ∙ zero-add k))
      ∙ all_get (tiling_holds l s grid) (grid_places s) k 0 e (omega (arith, length_listed (λ (j : ℕ). j) 0 (grid_count s))))

  -- the numbers of its grids, where their tilings stand beside their newest stamps
  newest_read : (s : VersionShape) (grid stamp : ℕ) (h : Recorded) → tilings_read l s grid h ≡ true
      → newest_from s 0 (grids_of (history_read l s grid stamp h)) ≡ listed (newest_at l) grid (recorded_grids h s)
  unfolding listed newest_from grid_read grid_in tiling_holds
  newest_read s grid stamp None e = refl
  newest_read s grid stamp (Some n) e =
      newest_listed s (grid_read l s grid stamp) (newest_at l) 0 grid (grid_count s) (λ k q.
      (ap (λ (j : ℕ). get_or l.newest (grid + grid_stride * j) 0) (zero-add k), ap (tiling_number s) (zero-add k) ∙ sym (tiling_there s grid e k q)))

  pub newest_state : (first : ℕ) (t : TextureRecord) → tilings_hold l t ≡ true → newest_of (state_read l first t) ≡ listed (newest_at l) t.grid (record_grids t)
  unfolding state_read tilings_hold
  newest_state first t e = newest_read t.shape t.grid t.stamp t.history e

  -- its stamps: those of its first k grids are as many as stand before the next
  stamps_front : (s : VersionShape) (grid stamp k : ℕ) → k ≤ grid_count s
      → flat_map (λ (g : StampGrid). g.stamps) (listed (grid_read l s grid stamp) 0 k) ≡ take (grid_start s k) (drop stamp l.stamps)
  unfolding flat_map listed grid_read grid_in grid_size
  stamps_front s grid stamp zero h = sym (ap (λ (n : ℕ). take n (drop stamp l.stamps)) (grid_first s))
  stamps_front s grid stamp (suc k) h =
      let f : StampGrid → List ℕ = λ g. g.stamps in
      let st = drop stamp l.stamps in
      ap (λ (n : ℕ). flat_map f (listed (grid_read l s grid stamp) 0 n)) (let e : suc k ≡ k + 1 = omega arith in e)
      ∙ ap (flat_map f) (listed_split (grid_read l s grid stamp) 0 k 1)
      ∙ flat_append f (listed (grid_read l s grid stamp) 0 k) (listed (grid_read l s grid stamp) (0 + k) 1)
      ∙ ap₂ (λ (a b : List ℕ). a ++ b) (stamps_front s grid stamp k (omega arith))
      (append-nil (f (grid_read l s grid stamp (0 + k)))
      ∙ ap (λ (n : ℕ). f (grid_read l s grid stamp n)) (zero-add k)
      ∙ ap (take (grid_size s k)) (sym (drop-drop (grid_start s k) stamp l.stamps)))
      ∙ sym (take-add (grid_start s k) (grid_size s k) st)
      ∙ ap (λ (n : ℕ). take n st) (sym (grid_next s k (omega arith)))

  stamps_read : (s : VersionShape) (grid stamp : ℕ) (h : Recorded)
      → flat_map (λ (g : StampGrid). g.stamps) (grids_of (history_read l s grid stamp h)) ≡ take (recorded_stamps h s) (drop stamp l.stamps)
  unfolding flat_map
  stamps_read s grid stamp None = refl
  stamps_read s grid stamp (Some n) =
      stamps_front s grid stamp (grid_count s) (omega arith) ∙ ap (λ (k : ℕ). take k (drop stamp l.stamps)) (grid_last s)

  pub stamps_state : (first : ℕ) (t : TextureRecord) → stamps_of (state_read l first t) ≡ take (record_stamps t) (drop t.stamp l.stamps)
  unfolding state_read
  stamps_state first t = stamps_read t.shape t.grid t.stamp t.history

  -- ---- textures in a row

  pub length_states : (first : ℕ) (ts : List TextureRecord) → length (states_read l first ts) ≡ length ts
  unfolding states_read
  length_states first [] = refl
  length_states first (t ∷ ts) = ap suc (length_states (first + t.spares) ts)

  -- their records, where these hold the bytes of their shapes and where their grids and stamps begin
  pub records_states : (first grid stamp : ℕ) (ts : List TextureRecord) → all bytes_hold ts ≡ true
      → starts_fit record_grids first_grid_in grid ts ≡ true → starts_fit record_stamps first_stamp_in stamp ts ≡ true
      → texture_records grid stamp (states_read l first ts) ≡ ts
  unfolding states_read all texture_records starts_fit
  records_states first grid stamp [] e a b = refl
  records_states first grid stamp (t ∷ ts) e a b =
      let q = and_both (bytes_hold t) (all bytes_hold ts) e in
      let u = and_both (eqb t.grid grid) (starts_fit record_grids first_grid_in (grid + record_grids t) ts) a in
      let v = and_both (eqb t.stamp stamp) (starts_fit record_stamps first_stamp_in (stamp + record_stamps t) ts) b in
      ap₂ (λ (x : TextureRecord) (xs : List TextureRecord). x ∷ xs)
      (ap₂ (λ (g n : ℕ). texture_record g n (state_read l first t)) (sym (eqb-true _ _ u.0)) (sym (eqb-true _ _ v.0))
      ∙ record_state first t (bytes_held t q.0))
      (ap₂ (λ (g n : ℕ). texture_records (grid + g) (stamp + n) (states_read l (first + t.spares) ts)) (grids_state first t) (stamps_used_state first t)
      ∙ records_states (first + t.spares) (grid + record_grids t) (stamp + record_stamps t) ts q.1 u.1 v.1)

  -- their spares
  pub spares_states : (first : ℕ) (ts : List TextureRecord) → every_spare (states_read l first ts) ≡ listed (spare_read l) first (total spares_of ts)
  unfolding states_read state_read flat_map total listed
  spares_states first [] = refl
  spares_states first (t ∷ ts) =
      ap (λ (xs : List (Spare ℕ)). listed (spare_read l) first t.spares ++ xs) (spares_states (first + t.spares) ts)
      ∙ sym (listed_split (spare_read l) first t.spares (total spares_of ts))

  pub kept_states : (first : ℕ) (ts : List TextureRecord) → total spare_count (states_read l first ts) ≡ total spares_of ts
  unfolding states_read state_read total
  kept_states first [] = refl
  kept_states first (t ∷ ts) =
      ap₂ (λ (a b : ℕ). a + b) (length_listed (spare_read l) first t.spares) (kept_states (first + t.spares) ts)

  -- what they use: a number of each state that is a number of its record
  pub used_states : (used : VersionState ℕ → ℕ) (size : TextureRecord → ℕ) → ((first : ℕ) (t : TextureRecord) → used (state_read l first t) ≡ size t)
      → (first : ℕ) (ts : List TextureRecord) → total used (states_read l first ts) ≡ total size ts
  unfolding states_read total
  used_states used size e first [] = refl
  used_states used size e first (t ∷ ts) = ap₂ (λ (a b : ℕ). a + b) (e first t) (used_states used size e (first + t.spares) ts)

  -- ---- the first of them, the later ones, and one among them

  pub take_states : (i first : ℕ) (ts : List TextureRecord) → take i (states_read l first ts) ≡ states_read l first (take i ts)
  unfolding states_read
  take_states zero first ts = refl
  take_states (suc i) first [] = refl
  take_states (suc i) first (t ∷ ts) = ap (λ (xs : List (VersionState ℕ)). state_read l first t ∷ xs) (take_states i (first + t.spares) ts)

  pub drop_states : (i first : ℕ) (ts : List TextureRecord)
      → drop i (states_read l first ts) ≡ states_read l (first + total spares_of (take i ts)) (drop i ts)
  unfolding states_read total
  drop_states zero first ts = ap (λ (a : ℕ). states_read l a ts) (sym (add-zero first))
  drop_states (suc i) first [] = refl
  drop_states (suc i) first (t ∷ ts) =
      drop_states i (first + t.spares) ts
      ∙ ap (λ (a : ℕ). states_read l a (drop i ts)) (add_assoc first t.spares (total spares_of (take i ts)))

  pub state_at : (i first : ℕ) (ts : List TextureRecord) (d : VersionState ℕ) (e : TextureRecord) → i < length ts
      → get_or (states_read l first ts) i d ≡ state_read l (first + total spares_of (take i ts)) (get_or ts i e)
  unfolding states_read total
  state_at i first [] d e h = absurd (let y : ⊥ = omega arith in y)
  state_at zero first (t ∷ ts) d e h = ap (λ (a : ℕ). state_read l a t) (sym (add-zero first))
  state_at (suc i) first (t ∷ ts) d e h =
      state_at i (first + t.spares) ts d e (omega arith)
      ∙ ap (λ (a : ℕ). state_read l a (get_or ts i e)) (add_assoc first t.spares (total spares_of (take i ts)))

  -- ---- the model

  -- where the spares, the grids and the stamps of texture i begin
  unfoldable pub first_spare : ℕ → ℕ
  first_spare i = total spares_of (take i (tracked_records l))

  unfoldable pub first_grid : ℕ → ℕ
  first_grid i = total record_grids (take i (tracked_records l))

  unfoldable pub first_stamp : ℕ → ℕ
  first_stamp i = total record_stamps (take i (tracked_records l))

  -- texture i of the model
  unfoldable pub state_of : ℕ → VersionState ℕ
  state_of i = state_read l (first_spare i) (get_or (tracked_records l) i (read_texture []))

  pub tracked_records_lem : length (tracked_records l) ≡ l.pool.tracked
  tracked_records_lem = length_table texture_stride read_texture l.pool.tracked l.textures

  -- beside each texture's newest stamps their tilings
  pub tilings_held_at : tilings_fit l ≡ true → (i : ℕ) → i < l.pool.tracked → tilings_hold l (get_or (tracked_records l) i (read_texture [])) ≡ true
  unfolding tilings_fit
  tilings_held_at e i h = all_get (tilings_hold l) (tracked_records l) i (read_texture []) e (omega (arith, h, tracked_records_lem))

  pub tracked_model : length (model_of l).textures ≡ l.pool.tracked
  unfolding model_of
  tracked_model = length_states 0 (tracked_records l) ∙ tracked_records_lem

  -- both halves of the starts
  pub grid_starts : starts_hold l ≡ true → starts_fit record_grids first_grid_in 0 (tracked_records l) ≡ true
  unfolding starts_hold
  grid_starts e = (and_both (starts_fit record_grids first_grid_in 0 (tracked_records l)) (starts_fit record_stamps first_stamp_in 0 (tracked_records l)) e).0

  pub stamp_starts : starts_hold l ≡ true → starts_fit record_stamps first_stamp_in 0 (tracked_records l) ≡ true
  unfolding starts_hold
  stamp_starts e = (and_both (starts_fit record_grids first_grid_in 0 (tracked_records l)) (starts_fit record_stamps first_stamp_in 0 (tracked_records l)) e).1

  pub records_model : bytes_fit l ≡ true → starts_hold l ≡ true → texture_records 0 0 (model_of l).textures ≡ tracked_records l
  unfolding model_of bytes_fit
  records_model e f = records_states 0 0 0 (tracked_records l) e (grid_starts f) (stamp_starts f)

  pub spares_model : every_spare (model_of l).textures ≡ listed (spare_read l) 0 (total spares_of (tracked_records l))
  unfolding model_of
  spares_model = spares_states 0 (tracked_records l)

  pub kept_model : total spare_count (model_of l).textures ≡ total spares_of (tracked_records l)
  unfolding model_of
  kept_model = kept_states 0 (tracked_records l)

  pub grids_model : total newest_used (model_of l).textures ≡ total record_grids (tracked_records l)
  unfolding model_of
  grids_model = used_states newest_used record_grids grids_state 0 (tracked_records l)

  pub stamps_used_model : total stamps_used (model_of l).textures ≡ total record_stamps (tracked_records l)
  unfolding model_of
  stamps_used_model = used_states stamps_used record_stamps stamps_used_state 0 (tracked_records l)

  pub model_at : (i : ℕ) (d : VersionState ℕ) → i < l.pool.tracked → get_or (model_of l).textures i d ≡ state_of i
  unfolding model_of state_of first_spare
  model_at i d h =
      state_at i 0 (tracked_records l) d (read_texture []) (omega (arith, tracked_records_lem))
      ∙ ap (λ (a : ℕ). state_read l a (get_or (tracked_records l) i (read_texture []))) (zero-add (total spares_of (take i (tracked_records l))))

  pub id_model : (i : ℕ) (d : VersionState ℕ) → i < l.pool.tracked
      → (get_or (model_of l).textures i d).id ≡ (get_or (tracked_records l) i (read_texture [])).id
  unfolding state_of state_read
  id_model i d h = ap state_id (model_at i d h)

  -- the record of texture i holds where its grids and its stamps begin
  module _ (f : starts_hold l ≡ true) (i : ℕ) (h : i < l.pool.tracked) where
    pub grid_held_at : (get_or (tracked_records l) i (read_texture [])).grid ≡ first_grid i
    unfolding first_grid start_of
    grid_held_at =
        start_held record_grids first_grid_in (tracked_records l) 0 i (read_texture []) (grid_starts f) (omega (arith, tracked_records_lem)) ∙ zero-add _

    pub stamp_held_at : (get_or (tracked_records l) i (read_texture [])).stamp ≡ first_stamp i
    unfolding first_stamp start_of
    stamp_held_at =
        start_held record_stamps first_stamp_in (tracked_records l) 0 i (read_texture []) (stamp_starts f) (omega (arith, tracked_records_lem)) ∙ zero-add _
