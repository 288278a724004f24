-- The textures' states read back from the slices that they were written to. Assumes nothing.
use mathlib.Core.Path.{◌≡◌, refl, sym, ap, ap₂, ◌∙◌}
use mathlib.Core.Bool.{Bool, true, cond, ◌&&◌}
use mathlib.Core.Option.{Option, none, some}
use mathlib.Core.List.{List, [], ◌∷◌, ◌++◌, map, flat_map, map-append, map-map, map-id, append_assoc}
use Prim.Native.Nat.{ℕ, suc, ◌+◌, ◌*◌, ◌<◌}
use native.Mathlib.Omega.{arith}
use lib.ListN.{length, drop, length-append, length-map}
use lib.Seq.{drop-drop, drop-append-add}
use borrow.Author.Tests.{eq-eqb}
use Rattle.base_blocks.specs.Lists.{listed, all, total}
use Rattle.base_blocks.specs.All.{All, nil, cons}
use Rattle.base_blocks.proofs.All.{all_listed}
use Rattle.base_blocks.proofs.Listed.{listed_same, map_listed}
use Rattle.base_tables.specs.Records.{record_at, table, flat}
use Rattle.base_tables.proofs.Records.{record_past, flat_append, length_flat, table_flat}
use Rattle.base_unequal.specs.Unequal.{starts_fit}
use Rattle.grid_shapes.specs.declared.shape.VersionShape.{VersionShape}
use Rattle.grid_shapes.specs.Shapes.{bytes_of}
use Rattle.pool_rules.specs.Model.{WriteHistory, Spare, VersionState, grid_count, has_history}
use Rattle.pool_rules.specs.HistorySizes.{history_size, newest_used, stamps_used}
use Rattle.pool_rules.specs.Formed.{Given, HistoryFormed, StateFormed}
use Rattle.pool_rules.specs.RuleConstants.{grid_stride}
use Rattle.pool_records.specs.declared.texture.TextureRecord.{TextureRecord}
use Rattle.pool_records.specs.Spare.{read_spare, write_spare}
use Rattle.pool_records.specs.Views.{spare_of}
use Rattle.pool_records.specs.Codecs.{spare_codec}
use Rattle.pool_memory.specs.Lent.{Lent}
use Rattle.pool_memory.specs.Reading.{history_read, spare_read, state_read, states_read}
use Rattle.pool_memory.specs.Writing.{recorded_history, texture_record, texture_records, spare_record, every_spare, grids_of, newest_from, newest_of, stamps_of}
use Rattle.pool_memory.specs.IsPool.{bytes_hold, tiling_holds, tilings_read, tilings_hold}
use Rattle.pool_memory.proofs.FitsTests.{all_passes}
use Rattle.pool_memory.proofs.NewestNumbers.{length_newest_from}
use Rattle.pool_memory.proofs.Runs.{first_grid_in, first_stamp_in}
use Rattle.pool_memory.proofs.ReadHistories.{grid_stamps, length_history, tiling_back, grids_back}
use Rattle.pool_records.specs.RecordConstants.{spare_stride}
use Rattle.pool_records.specs.Texture.{recorded_grids, record_grids, recorded_stamps, record_stamps}

-- what stands past a front part, of a list that stands from place i on
drop_past : (xs a b rest : List ℕ) (i n j : ℕ) → drop i xs ≡ (a ++ b) ++ rest → length a ≡ n → i + n ≡ j → drop j xs ≡ b ++ rest
drop_past xs a b rest i n j e f g =
    ap (λ (k : ℕ). drop k xs) (sym g)
    ∙ sym (drop-drop n i xs)
    ∙ ap (drop n) (e ∙ append_assoc a b rest)
    ∙ ap (λ (k : ℕ). drop k (a ++ (b ++ rest))) (let h : n ≡ length a + 0 = omega arith in h)
    ∙ drop-append-add a (b ++ rest) 0

-- ---- one texture's spares

module _ (m : Lent) (first : ℕ) (ss : List (Spare ℕ)) (rest : List ℕ) where
  pub spares_back : drop (spare_stride * first) m.spares ≡ flat write_spare (map spare_record ss) ++ rest → listed (spare_read m) first (length ss) ≡ ss
  unfolding spare_read table
  spares_back e =
      listed_same (spare_read m) (λ k. spare_of (record_at spare_stride read_spare (drop (spare_stride * first) m.spares) k)) (length ss) first 0
      (λ j q. ap spare_of (ap (record_at spare_stride read_spare m.spares) (let h : first + j ≡ first + (0 + j) = omega arith in h)
      ∙ sym (record_past spare_stride read_spare first (0 + j) m.spares)))
      ∙ sym (map_listed spare_of (record_at spare_stride read_spare (drop (spare_stride * first) m.spares)) 0 (length ss))
      ∙ ap₂ (λ (l : List ℕ) (n : ℕ). map spare_of (listed (record_at spare_stride read_spare l) 0 n)) e (sym (length-map ss spare_record))
      ∙ ap (map spare_of) (table_flat spare_codec (map spare_record ss) rest)
      ∙ map-map spare_of spare_record ss
      ∙ map-id ss

-- ---- one texture's history

length_newest_of : (s : VersionShape) (o : Option WriteHistory) → Given (HistoryFormed s) o
    → length (newest_from s 0 (grids_of o)) ≡ cond (has_history o) (grid_stride * grid_count s) 0
unfolding grid_count newest_from
length_newest_of s none f = refl
length_newest_of s (some h) f = length_newest_from s 0 h.grids ∙ ap (λ (n : ℕ). grid_stride * n) f.size

length_stamps_of : (s : VersionShape) (o : Option WriteHistory) → Given (HistoryFormed s) o
    → length (flat_map grid_stamps (grids_of o)) ≡ cond (has_history o) (history_size s) 0
unfolding flat_map
length_stamps_of s none f = refl
length_stamps_of s (some h) f = length_history s h f

-- a formed texture has as much in each slice as it uses
pub length_newest : (t : VersionState ℕ) → StateFormed t → length (newest_of t) ≡ newest_used t
length_newest t f = length_newest_of t.shape t.history f.history

pub length_own_stamps : (t : VersionState ℕ) → StateFormed t → length (stamps_of t) ≡ stamps_used t
length_own_stamps t f = length_stamps_of t.shape t.history f.history

history_back : (m : Lent) (s : VersionShape) (grid stamp : ℕ) (o : Option WriteHistory) → Given (HistoryFormed s) o → (others rest : List ℕ)
    → drop grid m.newest ≡ newest_from s 0 (grids_of o) ++ others
    → drop stamp m.stamps ≡ flat_map grid_stamps (grids_of o) ++ rest
    → history_read m s grid stamp (recorded_history o) ≡ o
history_back m s grid stamp none f others rest e g = refl
history_back m s grid stamp (some h) f others rest e g =
    λ i. some (record { writes = h.writes; grids = grids_back s h f m grid stamp others rest e g i })

-- ---- all of them, one behind the other

module _ (m : Lent) where
  state_back : (first grid stamp : ℕ) (t : VersionState ℕ) → StateFormed t → (a b c : List ℕ)
      → drop (spare_stride * first) m.spares ≡ flat write_spare (map spare_record t.spares) ++ a
      → drop grid m.newest ≡ newest_of t ++ b
      → drop stamp m.stamps ≡ stamps_of t ++ c
      → state_read m first (texture_record grid stamp t) ≡ t
  unfolding state_read
  state_back first grid stamp t f a b c ea eb ec = λ i. record {
    id = t.id;
    shape = t.shape;
    epoch = t.epoch;
    history = history_back m t.shape grid stamp t.history f.history b c eb ec i;
    birth = t.birth;
    rename = t.rename;
    due = t.due;
    spares = spares_back m first t.spares a ea i;
  }

  pub states_back : (first grid stamp : ℕ) (ts : List (VersionState ℕ)) → All StateFormed ts → (a b c : List ℕ)
      → drop (spare_stride * first) m.spares ≡ flat write_spare (map spare_record (every_spare ts)) ++ a
      → drop grid m.newest ≡ flat_map newest_of ts ++ b
      → drop stamp m.stamps ≡ flat_map stamps_of ts ++ c
      → states_read m first (texture_records grid stamp ts) ≡ ts
  unfolding states_read texture_records flat_map
  states_back first grid stamp [] nil a b c ea eb ec = refl
  states_back first grid stamp (t ∷ ts) (cons f fs) a b c ea eb ec =
      let ss = map spare_record t.spares in
      let x = flat write_spare ss in
      let xs = flat write_spare (map spare_record (every_spare ts)) in
      let n = length t.spares in
      let both = map-append spare_record t.spares (every_spare ts) in
      let ea' : drop (spare_stride * first) m.spares ≡ (x ++ xs) ++ a =
      ea ∙ ap (λ (l : List ℕ). l ++ a) (ap (flat write_spare) both ∙ flat_append write_spare ss (map spare_record (every_spare ts))) in
      let lx : length x ≡ spare_stride * n = length_flat spare_codec ss ∙ ap (λ (i : ℕ). spare_stride * i) (length-map t.spares spare_record) in
      ap₂ (λ (u : VersionState ℕ) (us : List (VersionState ℕ)). u ∷ us)
      (state_back first grid stamp t f (xs ++ a) (flat_map newest_of ts ++ b) (flat_map stamps_of ts ++ c)
      (ea' ∙ append_assoc x xs a) (eb ∙ append_assoc (newest_of t) (flat_map newest_of ts) b)
      (ec ∙ append_assoc (stamps_of t) (flat_map stamps_of ts) c))
      (states_back (first + n) (grid + newest_used t) (stamp + stamps_used t) ts fs a b c
      (drop_past m.spares x xs a (spare_stride * first) (spare_stride * n) (spare_stride * (first + n)) ea' lx (omega arith))
      (drop_past m.newest (newest_of t) (flat_map newest_of ts) b grid (newest_used t) (grid + newest_used t) eb (length_newest t f) refl)
      (drop_past m.stamps (stamps_of t) (flat_map stamps_of ts) c stamp (stamps_used t) (stamp + stamps_used t) ec (length_own_stamps t f) refl))

-- their tilings stand beside their newest stamps
tilings_back : (m : Lent) (s : VersionShape) (grid : ℕ) (o : Option WriteHistory) → Given (HistoryFormed s) o → (others : List ℕ)
    → drop grid m.newest ≡ newest_from s 0 (grids_of o) ++ others → tilings_read m s grid (recorded_history o) ≡ true
unfolding tiling_holds
tilings_back m s grid none f others e = refl
tilings_back m s grid (some h) f others e =
    all_passes (tiling_holds m s grid) {P = λ (k : ℕ). k < grid_count s} (λ k q. eq-eqb _ _ (tiling_back s h f m.newest grid others e k q))
    (all_listed (λ (k : ℕ). k) 0 (grid_count s) (λ j q. omega arith))

pub tilings_recorded : (m : Lent) (grid stamp : ℕ) (ts : List (VersionState ℕ)) → All StateFormed ts → (b : List ℕ)
    → drop grid m.newest ≡ flat_map newest_of ts ++ b → all (tilings_hold m) (texture_records grid stamp ts) ≡ true
unfolding all tilings_hold texture_records flat_map
tilings_recorded m grid stamp [] nil b e = refl
tilings_recorded m grid stamp (t ∷ ts) (cons f fs) b e =
    ap₂ (λ (x y : Bool). x && y)
    (tilings_back m t.shape grid t.history f.history (flat_map newest_of ts ++ b) (e ∙ append_assoc (newest_of t) (flat_map newest_of ts) b))
    (tilings_recorded m (grid + newest_used t) (stamp + stamps_used t) ts fs b
    (drop_past m.newest (newest_of t) (flat_map newest_of ts) b grid (newest_used t) (grid + newest_used t) e (length_newest t f) refl))

-- ---- how much of each slice they take

pub length_every_spare : (ts : List (VersionState ℕ)) → length (every_spare ts) ≡ total (λ (t : VersionState ℕ). length t.spares) ts
unfolding flat_map total
length_every_spare [] = refl
length_every_spare (t ∷ ts) = length-append t.spares (every_spare ts) ∙ ap (λ (n : ℕ). length t.spares + n) (length_every_spare ts)

pub length_newests : (ts : List (VersionState ℕ)) → All StateFormed ts → length (flat_map newest_of ts) ≡ total newest_used ts
unfolding flat_map total
length_newests [] nil = refl
length_newests (t ∷ ts) (cons f fs) =
    length-append (newest_of t) (flat_map newest_of ts) ∙ ap₂ (λ (a b : ℕ). a + b) (length_newest t f) (length_newests ts fs)

pub length_stamps : (ts : List (VersionState ℕ)) → All StateFormed ts → length (flat_map stamps_of ts) ≡ total stamps_used ts
unfolding flat_map total
length_stamps [] nil = refl
length_stamps (t ∷ ts) (cons f fs) =
    length-append (stamps_of t) (flat_map stamps_of ts) ∙ ap₂ (λ (a b : ℕ). a + b) (length_own_stamps t f) (length_stamps ts fs)

-- ---- what their records say of it

record_grids_lem : (s : VersionShape) (o : Option WriteHistory) → recorded_grids (recorded_history o) s ≡ cond (has_history o) (grid_stride * grid_count s) 0
record_grids_lem s none = refl
record_grids_lem s (some h) = refl

record_stamps_lem : (s : VersionShape) (o : Option WriteHistory) → recorded_stamps (recorded_history o) s ≡ cond (has_history o) (history_size s) 0
record_stamps_lem s none = refl
record_stamps_lem s (some h) = refl

pub length_recorded : (grid stamp : ℕ) (ts : List (VersionState ℕ)) → length (texture_records grid stamp ts) ≡ length ts
unfolding texture_records
length_recorded grid stamp [] = refl
length_recorded grid stamp (t ∷ ts) = ap suc (length_recorded (grid + newest_used t) (stamp + stamps_used t) ts)

pub kept_recorded : (grid stamp : ℕ) (ts : List (VersionState ℕ))
    → total (λ (t : TextureRecord). t.spares) (texture_records grid stamp ts) ≡ total (λ (t : VersionState ℕ). length t.spares) ts
unfolding total texture_records
kept_recorded grid stamp [] = refl
kept_recorded grid stamp (t ∷ ts) = ap (λ (n : ℕ). length t.spares + n) (kept_recorded (grid + newest_used t) (stamp + stamps_used t) ts)

pub grids_recorded : (grid stamp : ℕ) (ts : List (VersionState ℕ)) → total record_grids (texture_records grid stamp ts) ≡ total newest_used ts
unfolding total texture_records
grids_recorded grid stamp [] = refl
grids_recorded grid stamp (t ∷ ts) =
    ap₂ (λ (a b : ℕ). a + b) (record_grids_lem t.shape t.history) (grids_recorded (grid + newest_used t) (stamp + stamps_used t) ts)

pub stamps_recorded : (grid stamp : ℕ) (ts : List (VersionState ℕ)) → total record_stamps (texture_records grid stamp ts) ≡ total stamps_used ts
unfolding total texture_records
stamps_recorded grid stamp [] = refl
stamps_recorded grid stamp (t ∷ ts) =
    ap₂ (λ (a b : ℕ). a + b) (record_stamps_lem t.shape t.history) (stamps_recorded (grid + newest_used t) (stamp + stamps_used t) ts)

-- each record is written with the bytes of its shape
pub bytes_recorded : (grid stamp : ℕ) (ts : List (VersionState ℕ)) → all bytes_hold (texture_records grid stamp ts) ≡ true
unfolding all bytes_hold texture_records
bytes_recorded grid stamp [] = refl
bytes_recorded grid stamp (t ∷ ts) =
    ap₂ (λ (a b : Bool). a && b) (eq-eqb (bytes_of t.shape) (bytes_of t.shape) refl)
    (bytes_recorded (grid + newest_used t) (stamp + stamps_used t) ts)

-- and with where its grids and its stamps begin
pub grid_starts_recorded : (grid stamp : ℕ) (ts : List (VersionState ℕ)) → starts_fit record_grids first_grid_in grid (texture_records grid stamp ts) ≡ true
unfolding starts_fit texture_records
grid_starts_recorded grid stamp [] = refl
grid_starts_recorded grid stamp (t ∷ ts) =
    let g = grid + newest_used t in
    let n = stamp + stamps_used t in
    ap₂ (λ (a b : Bool). a && b) (eq-eqb grid grid refl)
    (ap (λ (k : ℕ). starts_fit record_grids first_grid_in (grid + k) (texture_records g n ts)) (record_grids_lem t.shape t.history)
    ∙ grid_starts_recorded g n ts)

pub stamp_starts_recorded : (grid stamp : ℕ) (ts : List (VersionState ℕ)) → starts_fit record_stamps first_stamp_in stamp (texture_records grid stamp ts) ≡ true
unfolding starts_fit texture_records
stamp_starts_recorded grid stamp [] = refl
stamp_starts_recorded grid stamp (t ∷ ts) =
    let g = grid + newest_used t in
    let n = stamp + stamps_used t in
    ap₂ (λ (a b : Bool). a && b) (eq-eqb stamp stamp refl)
    (ap (λ (k : ℕ). starts_fit record_stamps first_stamp_in (stamp + k) (texture_records g n ts)) (record_stamps_lem t.shape t.history)
    ∙ stamp_starts_recorded g n ts)
