-- One texture more of a trim's pass: the textures, what is given up, and the slices. Assumes nothing.
use mathlib.Core.Path.{◌≡◌, sym, ap, ap₂, ◌∙◌}
use mathlib.Core.Bool.{Bool, true, false, cond}
use mathlib.Core.List.{List, [], ◌∷◌, ◌++◌, map, flat_map, map-append, append-nil}
use Prim.Native.Nat.{ℕ, ◌+◌, ◌-◌, ◌*◌, ◌≤◌, ◌<◌}
use native.Mathlib.Numerals.{add-one}
use native.Mathlib.Omega.{arith}
use lib.ListN.{length, take, drop, length-append, length-map}
use lib.Seq.{sets}
use Rattle.base_blocks.specs.Lists.{over, total}
use Rattle.base_blocks.specs.Blocks.{moved}
use Rattle.base_blocks.proofs.Lists.{total_append}
use Rattle.base_tables.specs.Records.{flat}
use Rattle.base_tables.specs.Rings.{laid}
use Rattle.pool_rules.specs.Model.{Doomed, VersionState, PoolModel}
use Rattle.pool_rules.specs.HistorySizes.{newest_used, stamps_used}
use Rattle.pool_rules.specs.Trim.{idle, thinned}
use Rattle.pool_records.specs.declared.texture.TextureRecord.{TextureRecord}
use Rattle.pool_records.specs.declared.doomed.DoomedRecord.{DoomedRecord}
use Rattle.pool_records.specs.Texture.{write_texture, texture_in, record_grids, record_stamps, spares_to}
use Rattle.pool_records.specs.Spare.{write_spare}
use Rattle.pool_records.specs.Doomed.{write_doomed}
use Rattle.pool_memory.specs.Lent.{Lent}
use Rattle.pool_memory.specs.Reading.{model_of}
use Rattle.pool_memory.specs.Writing.{texture_record, texture_records, spare_record, doomed_record, every_spare, newest_of, stamps_of, textures_after, spares_after, newest_after, stamps_after}
use Rattle.pool_memory.proofs.Fits.{Fits}
use Rattle.pool_memory.proofs.Parts.{flat_append}
use Rattle.pool_memory.proofs.Packed.{flat_step}
use Rattle.pool_memory.proofs.Runs.{first_spare, first_grid, first_stamp, state_of, tracked_model, model_at}
use Rattle.pool_memory.proofs.Rings.{laid_append}
use Rattle.pool_memory.proofs.Kept.{KeptHistory, kept_history, grids_kept, stamps_used_kept}
use Rattle.pool_memory.proofs.HistoryRuns.{grid_count_at, stamp_count_at}
use Rattle.pool_memory.proofs.Changes.{spares_rest}
use Rattle.pool_memory.proofs.Passes.{texture_packed, spares_packed, newest_packed, stamps_packed}
use Rattle.pool_memory.proofs.Tracked.{record_read, spares_to_lem, grids_at_lem, stamps_at}
use Rattle.pool_trim.specs.declared.pass.Pass.{Pass}
use Rattle.pool_trim.specs.LookAt.{looked_record}
use Rattle.pool_trim.specs.Pass.{trimmed_one, given_one, trimmed}
use Rattle.pool_forget_texture.proofs.TextureRuns.{spares_within}
use Rattle.pool_trim.proofs.Looks.{count, looked, looked_history, looked_spares, look_here, few, left_count, record_here}
use Rattle.pool_records.specs.RecordConstants.{doomed_stride, spare_stride, texture_stride}

-- what a call leaves of the packed slices depends on the textures alone
module _ (l : Lent) (p q : PoolModel ℕ) (e : p.textures ≡ q.textures) where
  pub textures_as : textures_after p l ≡ textures_after q l
  unfolding textures_after
  textures_as = ap (λ (ts : List (VersionState ℕ)). over (flat write_texture (texture_records 0 0 ts)) l.textures) e

  pub spares_as : spares_after p l ≡ spares_after q l
  unfolding spares_after
  spares_as = ap (λ (ts : List (VersionState ℕ)). over (flat write_spare (map spare_record (every_spare ts))) l.spares) e

  pub newest_as : newest_after p l ≡ newest_after q l
  unfolding newest_after
  newest_as = ap (λ (ts : List (VersionState ℕ)). over (flat_map newest_of ts) l.newest) e

  pub stamps_as : stamps_after p l ≡ stamps_after q l
  unfolding stamps_after
  stamps_as = ap (λ (ts : List (VersionState ℕ)). over (flat_map stamps_of ts) l.stamps) e

-- what the first i give up
abbrev pub given_to : Lent → ℕ → ℕ → List (Doomed ℕ)
given_to l now i = flat_map (given_one now) (take i (model_of l).textures)

abbrev pub kept_to : Lent → ℕ → ℕ → List (VersionState ℕ)
kept_to l now i = (trimmed l now i).textures

module _ (l : Lent) (now i : ℕ) (h : i < l.pool.tracked) where
  next : {B : Type 0} (g : VersionState ℕ → List B)
      → flat_map g (take (i + 1) (model_of l).textures) ≡ flat_map g (take i (model_of l).textures) ++ g (state_of l i)
  next {B = B} g =
      ap (λ (n : ℕ). flat_map g (take n (model_of l).textures)) (add-one i)
      ∙ flat_step g (model_of l).textures i (state_of l 0) (omega (arith, tracked_model l))
      ∙ ap (λ (t : VersionState ℕ). flat_map g (take i (model_of l).textures) ++ g t) (model_at l i (state_of l 0) h)

  pub given_next : given_to l now (i + 1) ≡ given_to l now i ++ given_one now (state_of l i)
  given_next = next (given_one now)

  pub dropped_next : idle now (thinned now (state_of l i)) ≡ true → kept_to l now (i + 1) ≡ kept_to l now i
  unfolding trimmed trimmed_one
  dropped_next e =
      next (trimmed_one now)
      ∙ ap (λ (b : Bool). flat_map (trimmed_one now) (take i (model_of l).textures) ++ cond b [] (looked now (state_of l i) ∷ [])) e
      ∙ append-nil (flat_map (trimmed_one now) (take i (model_of l).textures))

  pub stays_next : idle now (thinned now (state_of l i)) ≡ false → kept_to l now (i + 1) ≡ kept_to l now i ++ (looked now (state_of l i) ∷ [])
  unfolding trimmed trimmed_one
  stays_next e =
      next (trimmed_one now)
      ∙ ap (λ (b : Bool). flat_map (trimmed_one now) (take i (model_of l).textures) ++ cond b [] (looked now (state_of l i) ∷ [])) e

  -- ---- the destroy ring

  pub doomed_next : (places first n k : ℕ) (d : List ℕ) → k ≡ length (given_to l now i)
      → d ≡ laid doomed_stride write_doomed places first n (map doomed_record (given_to l now i)) l.doomed
      → laid doomed_stride write_doomed places first (n + k) (map doomed_record (given_one now (state_of l i))) d
      ≡ laid doomed_stride write_doomed places first n (map doomed_record (given_to l now (i + 1))) l.doomed
  doomed_next places first n k d e q =
      ap₂ (λ (m : ℕ) (s : List ℕ). laid doomed_stride write_doomed places first (n + m) (map doomed_record (given_one now (state_of l i))) s)
      (e ∙ sym (length-map (given_to l now i) doomed_record)) q
      ∙ sym (ap (λ (ds : List (Doomed ℕ)). laid doomed_stride write_doomed places first n (map doomed_record ds) l.doomed) given_next
      ∙ ap (λ (rs : List DoomedRecord). laid doomed_stride write_doomed places first n rs l.doomed)
      (map-append doomed_record (given_to l now i) (given_one now (state_of l i)))
      ∙ laid_append doomed_stride write_doomed places first (map doomed_record (given_to l now i)) (map doomed_record (given_one now (state_of l i))) n l.doomed)

  module _ (f : Fits l) where
    abbrev t₀ : TextureRecord
    t₀ = texture_in l.textures i

    abbrev k₀ : ℕ
    k₀ = count now (state_of l i)

    abbrev p : PoolModel ℕ
    p = trimmed l now i

    abbrev q : PoolModel ℕ
    q = trimmed l now (i + 1)

    -- ---- a texture that stays

    module _ (e : idle now (thinned now (state_of l i)) ≡ false) where
      abbrev more : kept_to l now (i + 1) ≡ kept_to l now i ++ (looked now (state_of l i) ∷ [])
      more = stays_next e

      pub textures_stay : (w : Pass) → w.tracked ≡ length (kept_to l now i) → w.grids ≡ total newest_used (kept_to l now i)
          → w.stamps ≡ total stamps_used (kept_to l now i) → texture_stride * w.tracked + texture_stride ≤ length l.textures
          → sets (textures_after p l) (texture_stride * w.tracked) (write_texture (looked_record (look_here l now i h) w t₀)) ≡ textures_after q l
      textures_stay w at grids stamps room =
          let t = looked now (state_of l i) in
          ap₂ (λ (n : ℕ) (r : TextureRecord). sets (textures_after p l) (texture_stride * n) (write_texture r)) at
          (sym (record_here l now i h f w) ∙ ap₂ (λ (m n : ℕ). texture_record m n t) grids stamps)
          ∙ texture_packed l p q t more (omega (arith, at, room))

      pub spares_stay : (to : ℕ) → to ≡ length (every_spare (kept_to l now i)) → to ≤ spares_to l.textures i
          → moved (spares_after p l) (spare_stride * to) (spare_stride * (spares_to l.textures i + k₀)) (spare_stride * (t₀.spares - k₀)) ≡ spares_after q l
      spares_stay to at low =
          let first = spares_to_lem l i h in
          let own = ap (λ (t : TextureRecord). t.spares) (record_read l i h) in
          let fewer = few l now i h in
          let within = spares_within l i h f in
          ap₂ (λ (n m : ℕ). moved (spares_after p l) (spare_stride * n) (spare_stride * (m + k₀)) (spare_stride * (t₀.spares - k₀))) at (sym first)
          ∙ spares_packed l p q (looked now (state_of l i)) more f.kept (omega (arith, f.spares, f.versions)) (first_spare l i + k₀)
          (t₀.spares - k₀)
          (looked_spares now (state_of l i) ∙ spares_rest l i h k₀ (omega (arith, own, fewer))
          ∙ ap (λ (n : ℕ). take (n - k₀) (drop (first_spare l i + k₀) (every_spare (model_of l).textures))) own)
          (omega (arith, at, first, low)) (omega (arith, first, fewer, within))

      -- `used` grids are packed so far
      pub newest_stays : (used : ℕ) → used ≤ first_grid l i → length (flat_map newest_of (kept_to l now i)) ≡ used
          → (moved (newest_after p l) used (first_grid l i) (grid_count_at l i) ≡ newest_after q l)
          × (length (flat_map newest_of (kept_to l now (i + 1))) ≡ used + grid_count_at l i)
      newest_stays used low n = newest_packed l p q (looked now (state_of l i)) more f i h (looked_history now (state_of l i)) used low n

      -- `used` stamps are
      pub stamps_stay : (used : ℕ) → used ≤ first_stamp l i → length (flat_map stamps_of (kept_to l now i)) ≡ used
          → (moved (stamps_after p l) used (first_stamp l i) (stamp_count_at l i) ≡ stamps_after q l)
          × (length (flat_map stamps_of (kept_to l now (i + 1))) ≡ used + stamp_count_at l i)
      stamps_stay used low n = stamps_packed l p q (looked now (state_of l i)) more f i h (looked_history now (state_of l i)) used low n

      -- ---- the counts

      pub tracked_stays : length (kept_to l now (i + 1)) ≡ length (kept_to l now i) + 1
      tracked_stays = ap length more ∙ length-append (kept_to l now i) (looked now (state_of l i) ∷ [])

      pub kept_stay : length (every_spare (kept_to l now (i + 1))) ≡ length (every_spare (kept_to l now i)) + (t₀.spares - k₀)
      unfolding flat_map
      kept_stay =
          ap (λ (ts : List (VersionState ℕ)). length (every_spare ts)) more
          ∙ ap length (flat_append (λ (t : VersionState ℕ). t.spares) (kept_to l now i) (looked now (state_of l i) ∷ []))
          ∙ length-append (every_spare (kept_to l now i)) ((looked now (state_of l i)).spares ++ [])
          ∙ ap (λ (n : ℕ). length (every_spare (kept_to l now i)) + n)
          (ap length (append-nil (looked now (state_of l i)).spares ∙ looked_spares now (state_of l i)) ∙ left_count l now i h)

      one_used : (used : VersionState ℕ → ℕ) (t : VersionState ℕ) → total used (t ∷ []) ≡ used t
      unfolding total
      one_used used t = omega arith

      same_history : map kept_history (looked now (state_of l i) ∷ []) ≡ map kept_history (state_of l i ∷ [])
      same_history = ap (λ (x : KeptHistory). x ∷ []) (looked_history now (state_of l i))

      pub grids_stay : total newest_used (kept_to l now (i + 1)) ≡ total newest_used (kept_to l now i) + grid_count_at l i
      grids_stay =
          ap (total newest_used) more
          ∙ total_append newest_used (kept_to l now i) (looked now (state_of l i) ∷ [])
          ∙ ap (λ (n : ℕ). total newest_used (kept_to l now i) + n)
          (grids_kept (looked now (state_of l i) ∷ []) (state_of l i ∷ []) same_history
          ∙ one_used newest_used (state_of l i) ∙ grids_at_lem l i h ∙ sym (ap record_grids (record_read l i h)))

      pub stamps_used_stay : total stamps_used (kept_to l now (i + 1)) ≡ total stamps_used (kept_to l now i) + stamp_count_at l i
      stamps_used_stay =
          ap (total stamps_used) more
          ∙ total_append stamps_used (kept_to l now i) (looked now (state_of l i) ∷ [])
          ∙ ap (λ (n : ℕ). total stamps_used (kept_to l now i) + n)
          (stamps_used_kept (looked now (state_of l i) ∷ []) (state_of l i ∷ []) same_history
          ∙ one_used stamps_used (state_of l i) ∙ stamps_at l i h ∙ sym (ap record_stamps (record_read l i h)))
