-- The textures' records after one texture is changed, put in or taken out: those behind it hold where their grids and stamps begin now. Assumes
-- nothing.
use mathlib.Core.Path.{◌≡◌, refl, sym, ap, ap₂, ◌∙◌, subst}
use mathlib.Core.List.{List, [], ◌∷◌, ◌++◌, map, append_assoc, append-nil}
use Prim.Native.Nat.{ℕ, zero, suc, ◌+◌, ◌*◌, ◌-◌, ◌≤◌, ◌<◌}
use native.Mathlib.Nat.{zero-add, add-zero, add_assoc}
use native.Mathlib.Numerals.{add-one}
use native.Mathlib.Omega.{arith}
use mathlib.Core.Bool.{Bool, cond}
use native.Mathlib.Decide.{dec_lt}
use lib.Dec.{ltb}
use lib.ListN.{length, take, drop, get_or, set, length-append, length-drop}
use lib.Seq.{sets, set_split, take_at, drop_at, length-take-le, get_or-drop}
use borrow.Author.Tests.{lt-ltb, le-ltb}
use Rattle.base_blocks.specs.Lists.{over, total, removed, inserted}
use Rattle.base_blocks.specs.Blocks.{moved}
use Rattle.base_tables.specs.Records.{flat}
use Rattle.base_tables.proofs.Records.{removed_records, inserted_records, replaced_record, get_or_table}
use Rattle.pool_rules.specs.Model.{VersionState, PoolModel}
use Rattle.pool_rules.specs.HistorySizes.{newest_used, stamps_used}
use Rattle.pool_records.specs.declared.texture.TextureRecord.{TextureRecord}
use Rattle.pool_records.specs.declared.shift.Shift.{Shift}
use Rattle.pool_records.specs.Texture.{read_texture, write_texture, texture_in, record_grids, record_stamps}
use Rattle.pool_records.specs.Starts.{shifted_by, moved_start, starts_moved, StartMoves, StartsMove, grid_end, stamp_end}
use Rattle.pool_records.specs.RecordConstants.{texture_stride}
use Rattle.pool_records.specs.Codecs.{texture_codec}
use Rattle.pool_records.proofs.Starts.{written_moved, written_moves}
use Rattle.grid_stamps.specs.StampConstants.{page_stamps}
use Rattle.pool_rules.specs.RuleConstants.{grid_stride, most_grids}
use Rattle.pool_memory.specs.Lent.{Lent}
use Rattle.pool_memory.specs.Reading.{tracked_records, model_of}
use Rattle.pool_memory.specs.Writing.{texture_record, texture_records, textures_after}
use Rattle.pool_memory.proofs.Fits.{Fits}
use Rattle.pool_memory.proofs.Runs.{first_grid_in, first_stamp_in, first_grid, first_stamp, state_of, tracked_records_lem, tracked_model, records_model, model_at, take_states, used_states, grids_state, stamps_used_state, grid_held_at, stamp_held_at}
use Rattle.pool_memory.proofs.Parts.{total_next}
use Rattle.pool_memory.proofs.ReadStates.{length_recorded}
use Rattle.pool_memory.proofs.HistoryRuns.{grid_bound, stamp_bound, grid_order, stamp_order, grid_last, stamp_last}

-- the record of a texture that stands at place i
abbrev pub placed_record : Lent → ℕ → VersionState ℕ → TextureRecord
placed_record l i t = texture_record (first_grid l i) (first_stamp l i) t

-- ---- records in a row

-- those of the first behind which the others begin
pub records_append : (grid stamp : ℕ) (xs ys : List (VersionState ℕ))
    → texture_records grid stamp (xs ++ ys)
    ≡ texture_records grid stamp xs ++ texture_records (grid + total newest_used xs) (stamp + total stamps_used xs) ys
unfolding texture_records total
records_append grid stamp [] ys = ap₂ (λ (g n : ℕ). texture_records g n ys) (sym (add-zero grid)) (sym (add-zero stamp))
records_append grid stamp (x ∷ xs) ys =
    ap (λ (rs : List TextureRecord). texture_record grid stamp x ∷ rs)
    (records_append (grid + newest_used x) (stamp + stamps_used x) xs ys
    ∙ ap₂ (λ (g n : ℕ). texture_records (grid + newest_used x) (stamp + stamps_used x) xs ++ texture_records g n ys)
    (add_assoc grid (newest_used x) (total newest_used xs)) (add_assoc stamp (stamps_used x) (total stamps_used xs)))

-- the first of them, and those behind
records_take : (i grid stamp : ℕ) (ts : List (VersionState ℕ)) → take i (texture_records grid stamp ts) ≡ texture_records grid stamp (take i ts)
unfolding texture_records
records_take zero grid stamp ts = refl
records_take (suc i) grid stamp [] = refl
records_take (suc i) grid stamp (t ∷ ts) =
    ap (λ (rs : List TextureRecord). texture_record grid stamp t ∷ rs) (records_take i (grid + newest_used t) (stamp + stamps_used t) ts)

records_drop : (i grid stamp : ℕ) (ts : List (VersionState ℕ))
    → drop i (texture_records grid stamp ts) ≡ texture_records (grid + total newest_used (take i ts)) (stamp + total stamps_used (take i ts)) (drop i ts)
unfolding texture_records total
records_drop zero grid stamp ts = ap₂ (λ (g n : ℕ). texture_records g n ts) (sym (add-zero grid)) (sym (add-zero stamp))
records_drop (suc i) grid stamp [] = refl
records_drop (suc i) grid stamp (t ∷ ts) =
    records_drop i (grid + newest_used t) (stamp + stamps_used t) ts
    ∙ ap₂ (λ (g n : ℕ). texture_records g n (drop i ts))
    (add_assoc grid (newest_used t) (total newest_used (take i ts))) (add_assoc stamp (stamps_used t) (total stamps_used (take i ts)))

-- the same textures, behind others
records_moved : (grids stamps : Shift) (grid stamp : ℕ) → grids.less ≤ grid → stamps.less ≤ stamp → (ts : List (VersionState ℕ))
    → texture_records (shifted_by grids grid) (shifted_by stamps stamp) ts ≡ map (moved_start grids stamps) (texture_records grid stamp ts)
unfolding texture_records moved_start shifted_by
records_moved grids stamps grid stamp a b [] = refl
records_moved grids stamps grid stamp a b (t ∷ ts) =
    ap (λ (rs : List TextureRecord). texture_record (shifted_by grids grid) (shifted_by stamps stamp) t ∷ rs)
    (ap₂ (λ (g n : ℕ). texture_records g n ts)
    (let e : grid - grids.less + grids.more + newest_used t ≡ grid + newest_used t - grids.less + grids.more = omega arith in e)
    (let e : stamp - stamps.less + stamps.more + stamps_used t ≡ stamp + stamps_used t - stamps.less + stamps.more = omega arith in e)
    ∙ records_moved grids stamps (grid + newest_used t) (stamp + stamps_used t) (omega arith) (omega arith) ts)

-- ---- a slice of records, some of which are moved

moved_over : (grids stamps : Shift) (xs zs : List TextureRecord) (k n : ℕ) (s : List ℕ) → length xs ≡ k → length (xs ++ zs) ≡ n
    → starts_moved grids stamps k n (over (flat write_texture (xs ++ zs)) s) ≡ over (flat write_texture (xs ++ map (moved_start grids stamps) zs)) s
moved_over grids stamps xs zs k n s a b =
    written_moved grids stamps (xs ++ zs) n b s k
    ∙ ap₂ (λ (us vs : List TextureRecord). over (flat write_texture (us ++ map (moved_start grids stamps) vs)) s) (take_at xs zs k a) (drop_at xs zs k a)

-- ---- the model's textures

module _ (l : Lent) where
  -- the first i have the grids and the stamps that stand before texture i
  grids_to : (i : ℕ) → total newest_used (take i (model_of l).textures) ≡ first_grid l i
  unfolding model_of first_grid
  grids_to i = ap (total newest_used) (take_states l i 0 (tracked_records l)) ∙ used_states l newest_used record_grids (grids_state l) 0 (take i (tracked_records l))

  stamps_to : (i : ℕ) → total stamps_used (take i (model_of l).textures) ≡ first_stamp l i
  unfolding model_of first_stamp
  stamps_to i =
      ap (total stamps_used) (take_states l i 0 (tracked_records l))
      ∙ used_states l stamps_used record_stamps (stamps_used_state l) 0 (take i (tracked_records l))

  pub grid_next_at : (i : ℕ) → i < l.pool.tracked → first_grid l (suc i) ≡ first_grid l i + newest_used (state_of l i)
  grid_next_at i h =
      omega (
        arith,
        grids_to (suc i),
        grids_to i,
        total_next newest_used (model_of l).textures i (state_of l 0) (omega (arith, tracked_model l)),
        ap newest_used (model_at l i (state_of l 0) h),
      )

  pub stamp_next_at : (i : ℕ) → i < l.pool.tracked → first_stamp l (suc i) ≡ first_stamp l i + stamps_used (state_of l i)
  stamp_next_at i h =
      omega (
        arith,
        stamps_to (suc i),
        stamps_to i,
        total_next stamps_used (model_of l).textures i (state_of l 0) (omega (arith, tracked_model l)),
        ap stamps_used (model_at l i (state_of l 0) h),
      )

module _ (l : Lent) (f : Fits l) where
  -- the records of the first i, and of those from j on
  front_records : (i : ℕ) → texture_records 0 0 (take i (model_of l).textures) ≡ take i (tracked_records l)
  front_records i = sym (records_take i 0 0 (model_of l).textures) ∙ ap (take i) (records_model l f.bytes f.starts)

  rest_records : (j : ℕ) → texture_records (first_grid l j) (first_stamp l j) (drop j (model_of l).textures) ≡ drop j (tracked_records l)
  rest_records j =
      ap₂ (λ (g n : ℕ). texture_records g n (drop j (model_of l).textures))
      (sym (zero-add (total newest_used (take j (model_of l).textures)) ∙ grids_to l j))
      (sym (zero-add (total stamps_used (take j (model_of l).textures)) ∙ stamps_to l j))
      ∙ sym (records_drop j 0 0 (model_of l).textures)
      ∙ ap (drop j) (records_model l f.bytes f.starts)

  -- the records of textures, of which those between i and j are others
  parts_records : (i j : ℕ) (new : List (VersionState ℕ))
      → texture_records 0 0 (take i (model_of l).textures ++ (new ++ drop j (model_of l).textures))
      ≡ take i (tracked_records l) ++ (texture_records (first_grid l i) (first_stamp l i) new
      ++ texture_records (first_grid l i + total newest_used new) (first_stamp l i + total stamps_used new) (drop j (model_of l).textures))
  parts_records i j new =
      let ts = (model_of l).textures in
      records_append 0 0 (take i ts) (new ++ drop j ts)
      ∙ ap₂ (λ (rs us : List TextureRecord). rs ++ us) (front_records i)
      (ap₂ (λ (g n : ℕ). texture_records g n (new ++ drop j ts))
      (zero-add (total newest_used (take i ts)) ∙ grids_to l i) (zero-add (total stamps_used (take i ts)) ∙ stamps_to l i)
      ∙ records_append (first_grid l i) (first_stamp l i) new (drop j ts))

  -- ---- the textures from i up to j replaced by others

  module _ (grids stamps : Shift) (i j : ℕ) (new : List (VersionState ℕ)) (h : i ≤ j) (q : j ≤ l.pool.tracked)
      (a : grids.less + first_grid l i ≡ first_grid l j) (c : stamps.less + first_stamp l i ≡ first_stamp l j) where
    abbrev kept : List TextureRecord
    kept = take i (tracked_records l) ++ texture_records (first_grid l i) (first_stamp l i) new

    -- the slice before those behind are moved
    abbrev put : List ℕ
    put = over (flat write_texture (kept ++ drop j (tracked_records l))) l.textures

    length_kept : length kept ≡ i + length new
    length_kept =
        length-append (take i (tracked_records l)) (texture_records (first_grid l i) (first_stamp l i) new)
        ∙ ap₂ (λ (m n : ℕ). m + n) (length-take-le i (tracked_records l) (omega (arith, tracked_records_lem l)))
        (length_recorded (first_grid l i) (first_stamp l i) new)

    length_put : length (kept ++ drop j (tracked_records l)) ≡ i + length new + (l.pool.tracked - j)
    length_put =
        length-append kept (drop j (tracked_records l))
        ∙ ap₂ (λ (m n : ℕ). m + n) length_kept (length-drop j (tracked_records l) ∙ ap (λ (n : ℕ). n - j) (tracked_records_lem l))

    parts_moved : grids.more ≡ total newest_used new → stamps.more ≡ total stamps_used new → (p : PoolModel ℕ) → p.textures ≡ take i (model_of l).textures ++ (new ++ drop j (model_of l).textures)
        → starts_moved grids stamps (i + length new) (i + length new + (l.pool.tracked - j)) put ≡ textures_after p l
    unfolding textures_after shifted_by
    parts_moved b d p e =
        let ts = (model_of l).textures in
        let rs = tracked_records l in
        let at = texture_records (first_grid l i) (first_stamp l i) new in
        moved_over grids stamps kept (drop j rs) (i + length new) (i + length new + (l.pool.tracked - j)) l.textures length_kept length_put
        ∙ ap (λ (xs : List TextureRecord). over (flat write_texture xs) l.textures)
        (sym (ap (texture_records 0 0) e
        ∙ parts_records i j new
        ∙ ap (λ (xs : List TextureRecord). take i rs ++ (at ++ xs))
        (ap₂ (λ (g n : ℕ). texture_records g n (drop j ts))
        (let z : first_grid l i + total newest_used new ≡ first_grid l j - grids.less + grids.more = omega arith in z)
        (let z : first_stamp l i + total stamps_used new ≡ first_stamp l j - stamps.less + stamps.more = omega arith in z)
        ∙ records_moved grids stamps (first_grid l j) (first_stamp l j) (omega arith) (omega arith) (drop j ts)
        ∙ ap (map (moved_start grids stamps)) (rest_records j))
        ∙ sym (append_assoc (take i rs) at (map (moved_start grids stamps) (drop j rs)))))

    parts_move : grids.more ≤ grid_stride * most_grids → stamps.more ≤ page_stamps * most_grids
        → StartsMove grids stamps (i + length new) (i + length new + (l.pool.tracked - j)) put
    parts_move few less =
        written_moves grids stamps (kept ++ drop j (tracked_records l)) (i + length new + (l.pool.tracked - j)) length_put l.textures (i + length new) one
      where
        one : (k : ℕ) → i + length new ≤ k → k < i + length new + (l.pool.tracked - j)
            → StartMoves grids stamps (get_or (kept ++ drop j (tracked_records l)) k (read_texture []))
        one k u v =
            let r = k - (i + length new) in
            let inside : j + r < l.pool.tracked = omega (arith, u, v) in
            let there : get_or (kept ++ drop j (tracked_records l)) k (read_texture []) ≡ get_or (tracked_records l) (j + r) (read_texture []) =
            ap (λ (m : ℕ). get_or (kept ++ drop j (tracked_records l)) m (read_texture [])) (let z : k ≡ i + length new + r = omega arith in z)
            ∙ sym (get_or-drop (i + length new) (kept ++ drop j (tracked_records l)) r (read_texture []))
            ∙ ap (λ (xs : List TextureRecord). get_or xs r (read_texture [])) (drop_at kept (drop j (tracked_records l)) (i + length new) length_kept)
            ∙ get_or-drop j (tracked_records l) r (read_texture []) in
            let g = ap first_grid_in there ∙ grid_held_at l f.starts (j + r) inside in
            let n = ap first_stamp_in there ∙ stamp_held_at l f.starts (j + r) inside in
            record {
              grid_less = omega (arith, g, a, grid_order l f j (j + r) (omega arith));
              grid_more = omega (arith, g, few, grid_bound l f (j + r), f.grids, f.newest, f.stamps, f.most_pages_lem);
              stamp_less = omega (arith, n, c, stamp_order l f j (j + r) (omega arith));
              stamp_more = omega (arith, n, less, stamp_bound l f (j + r), f.stamps_counted, f.stamps, f.most_pages_lem);
            }

  -- ---- one texture changed, put in or taken out: the slice before those behind are moved

  textures_room : texture_stride * l.pool.tracked ≤ length l.textures
  textures_room = omega (arith, f.textures, f.tracked)

  one_put : (i : ℕ) (t : VersionState ℕ) → i < l.pool.tracked
      → sets l.textures (texture_stride * i) (write_texture (placed_record l i t))
      ≡ over (flat write_texture ((take i (tracked_records l) ++ (placed_record l i t ∷ [])) ++ drop (suc i) (tracked_records l))) l.textures
  one_put i t h =
      let r = placed_record l i t in
      replaced_record texture_codec l.pool.tracked l.textures textures_room i r h
      ∙ ap (λ (xs : List TextureRecord). over (flat write_texture xs) l.textures)
      (set_split (tracked_records l) i r (omega (arith, tracked_records_lem l))
      ∙ sym (append_assoc (take i (tracked_records l)) (r ∷ []) (drop (suc i) (tracked_records l))))

  new_put : (i : ℕ) (t : VersionState ℕ) → texture_stride * l.pool.tracked + texture_stride ≤ length l.textures → i ≤ l.pool.tracked
      → sets (moved l.textures (texture_stride * i + texture_stride) (texture_stride * i) (texture_stride * (l.pool.tracked - i))) (texture_stride * i)
      (write_texture (placed_record l i t))
      ≡ over (flat write_texture ((take i (tracked_records l) ++ (placed_record l i t ∷ [])) ++ drop i (tracked_records l))) l.textures
  unfolding inserted
  new_put i t room h =
      let r = placed_record l i t in
      inserted_records texture_codec l.pool.tracked l.textures textures_room i r room h
      ∙ ap (λ (xs : List TextureRecord). over (flat write_texture xs) l.textures)
      (sym (append_assoc (take i (tracked_records l)) (r ∷ []) (drop i (tracked_records l))))

  out_put : (i : ℕ) → i < l.pool.tracked
      → moved l.textures (texture_stride * i) (texture_stride * i + texture_stride * 1) (texture_stride * (l.pool.tracked - (i + 1)))
      ≡ over (flat write_texture ((take i (tracked_records l) ++ []) ++ drop (i + 1) (tracked_records l))) l.textures
  unfolding removed
  out_put i h =
      removed_records texture_codec l.pool.tracked l.textures textures_room i 1 (omega arith)
      ∙ ap (λ (xs : List TextureRecord). over (flat write_texture (xs ++ drop (i + 1) (tracked_records l))) l.textures)
      (sym (append-nil (take i (tracked_records l))))

  -- ---- where the grids and the stamps of texture i end

  pub grid_end_at : (i : ℕ) → i < l.pool.tracked → grid_end l.textures l.pool.tracked l.pool.grids i ≡ first_grid l (suc i)
  unfolding grid_end
  grid_end_at i h = go (dec_lt (i + 1) l.pool.tracked)
    where
      go : Dec (i + 1 < l.pool.tracked) → cond (ltb (i + 1) l.pool.tracked) (texture_in l.textures (i + 1)).grid l.pool.grids ≡ first_grid l (suc i)
      go (yes q) =
          ap (λ (b : Bool). cond b (texture_in l.textures (i + 1)).grid l.pool.grids) (lt-ltb (i + 1) l.pool.tracked q)
          ∙ ap (λ (t : TextureRecord). t.grid) (sym (get_or_table texture_stride read_texture l.pool.tracked (i + 1) l.textures (read_texture []) q))
          ∙ grid_held_at l f.starts (i + 1) q
          ∙ ap (first_grid l) (add-one i)
      go (no q) =
          ap (λ (b : Bool). cond b (texture_in l.textures (i + 1)).grid l.pool.grids) (le-ltb (i + 1) l.pool.tracked (omega (arith, q)))
          ∙ sym (ap (first_grid l) (let z : suc i ≡ l.pool.tracked = omega (arith, q, h) in z) ∙ grid_last l f)

  pub stamp_end_at : (i : ℕ) → i < l.pool.tracked → stamp_end l.textures l.pool.tracked l.pool.stamps i ≡ first_stamp l (suc i)
  unfolding stamp_end
  stamp_end_at i h = go (dec_lt (i + 1) l.pool.tracked)
    where
      go : Dec (i + 1 < l.pool.tracked)
          → cond (ltb (i + 1) l.pool.tracked) (texture_in l.textures (i + 1)).stamp l.pool.stamps ≡ first_stamp l (suc i)
      go (yes q) =
          ap (λ (b : Bool). cond b (texture_in l.textures (i + 1)).stamp l.pool.stamps) (lt-ltb (i + 1) l.pool.tracked q)
          ∙ ap (λ (t : TextureRecord). t.stamp) (sym (get_or_table texture_stride read_texture l.pool.tracked (i + 1) l.textures (read_texture []) q))
          ∙ stamp_held_at l f.starts (i + 1) q
          ∙ ap (first_stamp l) (add-one i)
      go (no q) =
          ap (λ (b : Bool). cond b (texture_in l.textures (i + 1)).stamp l.pool.stamps) (le-ltb (i + 1) l.pool.tracked (omega (arith, q)))
          ∙ sym (ap (first_stamp l) (let z : suc i ≡ l.pool.tracked = omega (arith, q, h) in z) ∙ stamp_last l f)

module _ (l : Lent) (p : PoolModel ℕ) (f : Fits l) where
  -- texture i changed, with as many grids and stamps as before: the others stay
  pub textures_set : (i : ℕ) (t : VersionState ℕ) → i < l.pool.tracked → p.textures ≡ set (model_of l).textures i t
      → newest_used t ≡ newest_used (state_of l i) → stamps_used t ≡ stamps_used (state_of l i)
      → sets l.textures (texture_stride * i) (write_texture (placed_record l i t)) ≡ textures_after p l
  unfolding textures_after texture_records total
  textures_set i t h e a b =
      let rs = tracked_records l in
      let r = placed_record l i t in
      replaced_record texture_codec l.pool.tracked l.textures (textures_room l f) i r h
      ∙ ap (λ (xs : List TextureRecord). over (flat write_texture xs) l.textures)
      (sym (ap (texture_records 0 0) (e ∙ set_split (model_of l).textures i t (omega (arith, tracked_model l)))
      ∙ parts_records l f i (suc i) (t ∷ [])
      ∙ ap (λ (xs : List TextureRecord). take i rs ++ (r ∷ xs))
      (ap₂ (λ (g n : ℕ). texture_records g n (drop (suc i) (model_of l).textures))
      (let z : first_grid l i + (newest_used t + 0) ≡ first_grid l (suc i) = omega (arith, a, grid_next_at l i h) in z)
      (let z : first_stamp l i + (stamps_used t + 0) ≡ first_stamp l (suc i) = omega (arith, b, stamp_next_at l i h) in z)
      ∙ rest_records l f (suc i))
      ∙ sym (set_split rs i r (omega (arith, h, tracked_records_lem l)))))

  module _ (grids stamps : Shift) where
    -- with more or fewer
    pub textures_renewed : (i : ℕ) (t : VersionState ℕ) → i < l.pool.tracked → p.textures ≡ set (model_of l).textures i t
        → grids.less ≡ newest_used (state_of l i) → grids.more ≡ newest_used t → stamps.less ≡ stamps_used (state_of l i) → stamps.more ≡ stamps_used t
        → starts_moved grids stamps (suc i) l.pool.tracked (sets l.textures (texture_stride * i) (write_texture (placed_record l i t)))
        ≡ textures_after p l
    unfolding total texture_records
    textures_renewed i t h e a b c d =
        let n = l.pool.tracked in
        ap₂ (λ (k m : ℕ). starts_moved grids stamps k m (sets l.textures (texture_stride * i) (write_texture (placed_record l i t))))
        (let z : suc i ≡ i + 1 = omega arith in z) (let z : n ≡ i + 1 + (n - suc i) = omega (arith, h) in z)
        ∙ ap (starts_moved grids stamps (i + 1) (i + 1 + (n - suc i))) (one_put l f i t h)
        ∙ parts_moved l f grids stamps i (suc i) (t ∷ []) (omega arith) h (omega (arith, a, grid_next_at l i h)) (omega (arith, c, stamp_next_at l i h))
        (omega (arith, b)) (omega (arith, d)) p
        (e ∙ set_split (model_of l).textures i t (omega (arith, tracked_model l)))

    -- a texture put in before texture i
    pub textures_inserted : (i : ℕ) (t : VersionState ℕ) → texture_stride * l.pool.tracked + texture_stride ≤ length l.textures
        → i ≤ l.pool.tracked → p.textures ≡ inserted i (t ∷ []) (model_of l).textures
        → grids.less ≡ 0 → grids.more ≡ newest_used t → stamps.less ≡ 0 → stamps.more ≡ stamps_used t
        → starts_moved grids stamps (suc i) (suc l.pool.tracked)
        (sets (moved l.textures (texture_stride * i + texture_stride) (texture_stride * i) (texture_stride * (l.pool.tracked - i))) (texture_stride * i)
        (write_texture (placed_record l i t)))
        ≡ textures_after p l
    unfolding total inserted texture_records
    textures_inserted i t room h e a b c d =
        let n = l.pool.tracked in
        let s = sets (moved l.textures (texture_stride * i + texture_stride) (texture_stride * i) (texture_stride * (n - i))) (texture_stride * i)
        (write_texture (placed_record l i t)) in
        ap₂ (λ (k m : ℕ). starts_moved grids stamps k m s) (let z : suc i ≡ i + 1 = omega arith in z)
        (let z : suc n ≡ i + 1 + (n - i) = omega (arith, h) in z)
        ∙ ap (starts_moved grids stamps (i + 1) (i + 1 + (n - i))) (new_put l f i t room h)
        ∙ parts_moved l f grids stamps i i (t ∷ []) (omega arith) h (omega (arith, a)) (omega (arith, c)) (omega (arith, b)) (omega (arith, d)) p e

    -- texture i taken out
    pub textures_removed : (i : ℕ) → i < l.pool.tracked → p.textures ≡ removed i 1 (model_of l).textures
        → grids.less ≡ newest_used (state_of l i) → grids.more ≡ 0 → stamps.less ≡ stamps_used (state_of l i) → stamps.more ≡ 0
        → starts_moved grids stamps i (l.pool.tracked - 1)
        (moved l.textures (texture_stride * i) (texture_stride * i + texture_stride * 1) (texture_stride * (l.pool.tracked - (i + 1))))
        ≡ textures_after p l
    unfolding total removed texture_records
    textures_removed i h e a b c d =
        let n = l.pool.tracked in
        let s = moved l.textures (texture_stride * i) (texture_stride * i + texture_stride * 1) (texture_stride * (n - (i + 1))) in
        ap₂ (λ (k m : ℕ). starts_moved grids stamps k m s) (let z : i ≡ i + 0 = omega arith in z)
        (let z : n - 1 ≡ i + 0 + (n - (i + 1)) = omega (arith, h) in z)
        ∙ ap (starts_moved grids stamps (i + 0) (i + 0 + (n - (i + 1)))) (out_put l f i h)
        ∙ parts_moved l f grids stamps i (i + 1) [] (omega arith) (omega (arith, h)) (omega (arith, a, grid_next_at l i h, ap (first_grid l) (add-one i)))
        (omega (arith, c, stamp_next_at l i h, ap (first_stamp l) (add-one i))) (omega (arith, b)) (omega (arith, d)) p e

  -- ---- and all of them can be moved so

  module _ (grids stamps : Shift) (gridsFew : grids.more ≤ grid_stride * most_grids) (stampsFew : stamps.more ≤ page_stamps * most_grids) where
    pub renewed_moves : (i : ℕ) (t : VersionState ℕ) → i < l.pool.tracked
        → grids.less ≡ newest_used (state_of l i) → stamps.less ≡ stamps_used (state_of l i)
        → StartsMove grids stamps (suc i) l.pool.tracked (sets l.textures (texture_stride * i) (write_texture (placed_record l i t)))
    unfolding texture_records
    renewed_moves i t h a c =
        let n = l.pool.tracked in
        subst (StartsMove grids stamps (suc i) n) (sym (one_put l f i t h))
        (λ k u v. parts_move l f grids stamps i (suc i) (t ∷ []) (omega arith) h (omega (arith, a, grid_next_at l i h)) (omega (arith, c, stamp_next_at l i h))
        gridsFew stampsFew k (omega (arith, u)) (omega (arith, v, h)))

    pub inserted_moves : (i : ℕ) (t : VersionState ℕ) → texture_stride * l.pool.tracked + texture_stride ≤ length l.textures → i ≤ l.pool.tracked
        → grids.less ≡ 0 → stamps.less ≡ 0
        → StartsMove grids stamps (suc i) (suc l.pool.tracked)
        (sets (moved l.textures (texture_stride * i + texture_stride) (texture_stride * i) (texture_stride * (l.pool.tracked - i))) (texture_stride * i)
        (write_texture (placed_record l i t)))
    unfolding texture_records
    inserted_moves i t room h a c =
        let n = l.pool.tracked in
        subst (StartsMove grids stamps (suc i) (suc n)) (sym (new_put l f i t room h))
        (λ k u v. parts_move l f grids stamps i i (t ∷ []) (omega arith) h (omega (arith, a)) (omega (arith, c)) gridsFew stampsFew k (omega (arith, u))
        (omega (arith, v, h)))

    pub removed_moves : (i : ℕ) → i < l.pool.tracked → grids.less ≡ newest_used (state_of l i) → stamps.less ≡ stamps_used (state_of l i)
        → StartsMove grids stamps i (l.pool.tracked - 1)
        (moved l.textures (texture_stride * i) (texture_stride * i + texture_stride * 1) (texture_stride * (l.pool.tracked - (i + 1))))
    unfolding texture_records
    removed_moves i h a c =
        let n = l.pool.tracked in
        subst (StartsMove grids stamps i (n - 1)) (sym (out_put l f i h))
        (λ k u v. parts_move l f grids stamps i (i + 1) [] (omega arith) (omega (arith, h)) (omega (arith, a, grid_next_at l i h, ap (first_grid l) (add-one i)))
        (omega (arith, c, stamp_next_at l i h, ap (first_stamp l) (add-one i))) gridsFew stampsFew k (omega (arith, u)) (omega (arith, v, h)))
