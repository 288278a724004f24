-- The tracked textures as the model has them, and as the passes read them. Assumes nothing.
use mathlib.Core.Path.{◌≡◌, refl, sym, ap, ap₂, ◌∙◌}
use mathlib.Core.Bool.{Bool, true, false, ◌&&◌, and-false, and-true}
use mathlib.Core.List.{List, [], ◌∷◌}
use Prim.Native.Nat.{ℕ, ◌+◌, ◌*◌}
use lib.Dec.{leb, ltb}
use Rattle.base_blocks.specs.Lists.{all, total, ascending, listed, tests, after}
use Rattle.base_blocks.proofs.Lists.{all_append}
use Rattle.base_blocks.proofs.Listed.{length_listed, listed_split}
use Rattle.grid_shapes.specs.Shapes.{is_shape, bytes_of}
use Rattle.pool_rules.specs.Model.{limit, spare_bytes, grid_count}
use Rattle.pool_records.specs.Recorded.{Recorded}
use Rattle.std.specs.Prelude.{Some, None}
use Rattle.pool_records.specs.declared.texture.TextureRecord.{TextureRecord}
use Rattle.pool_records.specs.Find.{id_of}
use Rattle.pool_memory.specs.Reading.{grid_read, history_read, spare_read, state_read, states_read}
use Rattle.pool_memory.specs.IsPool.{bytes_hold, is_grid, is_spare, state_id, is_history, is_state, tiling_holds, tilings_read, tilings_hold}
use Rattle.pool_formed_textures.specs.Textures.{writes_fit, is_record, model_spare_at, grid_from, tiling_from, grids_hold, history_holds}
use Rattle.pool_memory.specs.Lent.{Lent}
use Rattle.pool_records.specs.Texture.{record_spares, record_bytes}

-- conditions of one state and of the rest, by kind
by_kind : (a h s b g r : Bool) → a && (h && s) && (b && (g && r)) ≡ a && b && (h && g && (s && r))
by_kind false h s b g r = refl
by_kind true false s b g r = sym (and-false b)
by_kind true true s false g r = and-false s
by_kind true true s true false r = and-false s
by_kind true true s true true r = refl

regroup : (x w h s b t : Bool) → x && (w && h) && s && (b && t) ≡ x && w && b && (h && t && s)
regroup false w h s b t = refl
regroup true false h s b t = refl
regroup true true false s b t = sym (and-false b)
regroup true true true false b t = sym (ap (λ (c : Bool). b && c) (and-false t) ∙ and-false b)
regroup true true true true b t = sym (ap (λ (c : Bool). b && c) (and-true t))

-- two conditions of one and of the rest
by_two : (a b c d : Bool) → a && b && (c && d) ≡ a && c && (b && d)
by_two false b c d = refl
by_two true false false d = refl
by_two true false true d = refl
by_two true true false d = refl
by_two true true true d = refl

module _ (l : Lent) where
  pub states_ids : (first : ℕ) (ts : List TextureRecord) → ascending state_id (states_read l first ts) ≡ ascending id_of ts
  unfolding ascending states_read state_read
  states_ids first [] = refl
  states_ids first (t ∷ []) = refl
  states_ids first (t ∷ u ∷ ts) = ap (λ (b : Bool). ltb t.id u.id && b) (states_ids (first + t.spares) (u ∷ ts))

  pub states_bytes : (first : ℕ) (ts : List TextureRecord) → total spare_bytes (states_read l first ts) ≡ total record_bytes ts
  unfolding total states_read state_read record_bytes
  states_bytes first [] = refl
  states_bytes first (t ∷ ts) =
      ap₂ (λ (a b : ℕ). a + b) (ap (λ (k : ℕ). bytes_of t.shape * k) (length_listed (spare_read l) first t.spares)) (states_bytes (first + t.spares) ts)

  -- ---- every state passes and every record's bytes and tilings hold: every record, every grid with its tiling and every spare

  -- the grids of a history pass by their stamps, whatever stands beside these
  abbrev stamps_pass : TextureRecord → Recorded → Bool
  stamps_pass t (Some n) = all (is_grid n) (listed (grid_from l.newest l.stamps t.shape t.grid t.stamp) 0 (grid_count t.shape))
  stamps_pass t None = true

  history_test : (t : TextureRecord) (h : Recorded) → is_history (history_read l t.shape t.grid t.stamp h) ≡ writes_fit h && stamps_pass t h
  unfolding is_history grid_read grid_from
  history_test t (Some n) = refl
  history_test t None = refl

  tilings_test : (t : TextureRecord) (h : Recorded)
      → stamps_pass t h && tilings_read l t.shape t.grid h ≡ grids_hold l.newest l.stamps t.shape t.grid t.stamp h
  unfolding tiling_holds tiling_from
  tilings_test t (Some n) = refl
  tilings_test t None = refl

  -- what a record's bytes and its grids' tilings have to be
  abbrev pub record_holds : TextureRecord → Bool
  record_holds t = bytes_hold t && tilings_hold l t

  pub records_hold : (ts : List TextureRecord) → all record_holds ts ≡ all bytes_hold ts && all (tilings_hold l) ts
  unfolding all
  records_hold [] = refl
  records_hold (t ∷ ts) =
      ap (λ (b : Bool). record_holds t && b) (records_hold ts) ∙ by_two (bytes_hold t) (tilings_hold l t) (all bytes_hold ts) (all (tilings_hold l) ts)

  abbrev spares_from : ℕ → ℕ → Bool
  spares_from first n = all is_spare (listed (model_spare_at l.spares) first n)

  state_test : (first : ℕ) (t : TextureRecord) → is_state (state_read l first t) && record_holds t
      ≡ is_record t && (history_holds l.newest l.stamps t && spares_from first t.spares)
  unfolding is_state is_record history_holds tilings_hold state_read spare_read model_spare_at tests after
  state_test first t =
      let x = is_shape t.shape && leb t.epoch limit && leb t.birth limit && leb t.rename limit && leb t.due limit in
      ap (λ (b : Bool). x && b && spares_from first t.spares && record_holds t) (history_test t t.history)
      ∙ regroup x (writes_fit t.history) (stamps_pass t t.history) (spares_from first t.spares) (bytes_hold t) (tilings_hold l t)
      ∙ ap (λ (b : Bool). is_record t && (b && spares_from first t.spares)) (tilings_test t t.history)

  spares_split : (first m n : ℕ) → spares_from first (m + n) ≡ spares_from first m && spares_from (first + m) n
  spares_split first m n =
      ap (all is_spare) (listed_split (model_spare_at l.spares) first m n) ∙ all_append is_spare (listed (model_spare_at l.spares) first m) (listed (model_spare_at l.spares) (first + m) n)

  pub states_test : (first : ℕ) (ts : List TextureRecord) → all is_state (states_read l first ts) && all record_holds ts
      ≡ all is_record ts && (all (history_holds l.newest l.stamps) ts && spares_from first (total record_spares ts))
  unfolding all states_read total listed
  states_test first [] = refl
  states_test first (t ∷ ts) =
      let h = history_holds l.newest l.stamps in
      by_two (is_state (state_read l first t)) (all is_state (states_read l (first + t.spares) ts)) (record_holds t) (all record_holds ts)
      ∙ ap₂ (λ (a b : Bool). a && b) (state_test first t) (states_test (first + t.spares) ts)
      ∙ by_kind (is_record t) (h t) (spares_from first t.spares) (all is_record ts) (all h ts) (spares_from (first + t.spares) (total record_spares ts))
      ∙ ap (λ (b : Bool). is_record t && all is_record ts && (h t && all h ts && b)) (sym (spares_split first t.spares (total record_spares ts)))
