-- A drain on lent memory: what it hands out and what it leaves is what the rule says. Assumes nothing.
use mathlib.Core.Path.{◌≡◌, refl, sym, ap, ap₂, ◌∙◌}
use mathlib.Core.Bool.{true}
use mathlib.Core.List.{List, [], ◌∷◌, ◌++◌, map, map-append, flat_map}
use Prim.Native.Nat.{ℕ, ◌+◌, ◌*◌, ◌≤◌, ◌<◌}
use native.Mathlib.Nat.{zero-add}
use native.Mathlib.Omega.{arith}
use borrow.Author.Tests.{lt-ltb, le-ltb}
use lib.ListN.{length, drop, get_or, replicate, length-append, length-map}
use lib.Seq.{get_or-drop}
use Rattle.base_blocks.specs.Lists.{listed, over, total}
use Rattle.base_blocks.proofs.Listed.{map_listed, listed_same, left_none, drop_left}
use Rattle.base_tables.specs.Records.{record_at, flat}
use Rattle.base_tables.specs.Rings.{place_of, along}
use Rattle.base_tables.proofs.Rings.{place_near}
use Rattle.pool_records.specs.declared.texture.TextureRecord.{TextureRecord}
use Rattle.pool_records.specs.Texture.{write_texture}
use Rattle.pool_records.specs.Spare.{read_spare, write_spare}
use Rattle.pool_records.specs.Retiring.{read_retiring}
use Rattle.pool_records.specs.Doomed.{read_doomed}
use Rattle.pool_rules.specs.Model.{Spare, Retiring, Doomed, VersionState, PoolModel, guard}
use Rattle.pool_rules.specs.HistorySizes.{newest_used, stamps_used}
use Rattle.pool_rules.specs.Updates.{with_spares, with_textures, with_retiring, with_parked, with_doomed, with_pacing}
use Rattle.pool_rules.specs.DrainVersions.{every_view, drain_versions}
use Rattle.pool_memory.specs.declared.pool.Pool.{Pool as Counts}
use Rattle.pool_memory.specs.declared.book.PacingBook.{PacingBook}
use Rattle.pool_memory.specs.Lent.{Lent, lent, version_places}
use Rattle.pool_memory.specs.Reading.{spare_read, retiring_read, doomed_read, model_of}
use Rattle.pool_memory.specs.Writing.{texture_record, texture_records, spare_record, every_spare, textures_after, spares_after, pacing_after, pool_after, lent_after}
use Rattle.pool_memory.specs.IsPool.{is_pool}
use Rattle.pool_memory.specs.Calls.{refused_with, answer, view_numbers, asked, drain_versions_on}
use Rattle.pool_memory.proofs.Fits.{Fits}
use Rattle.pool_memory.proofs.Runs.{spare_count, tracked_model, records_model, spares_model, grids_model, stamps_used_model}
use Rattle.pool_memory.proofs.Kept.{kept_history, grids_kept, stamps_used_kept}
use Rattle.pool_memory.proofs.Rings.{head_stays, hand_model, retiring_drained, first_taken, doomed_taken}
use Rattle.pool_memory.proofs.Same.{mark_same}
use Rattle.pool_memory.proofs.Stays.{put_together, ring_fits, doomed_fit_lem, newest_stay, stamps_stay}
use Rattle.pool_take_doomed.specs.Views.{column_number, column}
use Rattle.pool_take_doomed.specs.DrainVersions.{drained_views, drained_counts, drained_book, spareless, cleared}
use Rattle.pool_take_doomed.proofs.Columns.{length_column}
use Rattle.pool_take_doomed.proofs.Taken.{flat_views}
use Rattle.pool_records.specs.RecordConstants.{doomed_stride, retiring_stride, spare_stride}
use Rattle.pool_rules.specs.RuleConstants.{destroy_spread_drains}

-- ---- states without their spares

abbrev emptied : List (VersionState ℕ) → List (VersionState ℕ)
emptied ts = map (with_spares []) ts

emptied_records : (grid stamp : ℕ) (ts : List (VersionState ℕ)) → texture_records grid stamp (emptied ts) ≡ map spareless (texture_records grid stamp ts)
unfolding texture_records
emptied_records grid stamp [] = refl
emptied_records grid stamp (t ∷ ts) =
    ap (λ (rs : List TextureRecord). spareless (texture_record grid stamp t) ∷ rs) (emptied_records (grid + newest_used t) (stamp + stamps_used t) ts)

-- ids, shapes and histories stay
emptied_histories : (ts : List (VersionState ℕ)) → map kept_history (emptied ts) ≡ map kept_history ts
emptied_histories [] = refl
emptied_histories (t ∷ ts) = ap (λ ps. kept_history t ∷ ps) (emptied_histories ts)

emptied_spares : (ts : List (VersionState ℕ)) → every_spare (emptied ts) ≡ []
unfolding flat_map
emptied_spares [] = refl
emptied_spares (t ∷ ts) = emptied_spares ts

emptied_count : (ts : List (VersionState ℕ)) → total spare_count (emptied ts) ≡ 0
unfolding total
emptied_count [] = refl
emptied_count (t ∷ ts) = zero-add (total spare_count (emptied ts)) ∙ emptied_count ts

-- the views of the spares, texture by texture or all in a row
spare_views_lem : (ts : List (VersionState ℕ))
    → flat_map (λ (t : VersionState ℕ). map (λ (s : Spare ℕ). s.view) t.spares) ts ≡ map (λ (s : Spare ℕ). s.view) (every_spare ts)
unfolding flat_map
spare_views_lem [] = refl
spare_views_lem (t ∷ ts) =
    ap (λ (vs : List ℕ). map (λ (s : Spare ℕ). s.view) t.spares ++ vs) (spare_views_lem ts)
    ∙ sym (map-append (λ (s : Spare ℕ). s.view) t.spares (every_spare ts))

-- the pool that the rule leaves
abbrev rest_of : Lent → PoolModel ℕ
rest_of l =
    let b = (model_of l).pacing in
    with_pacing (record { arrivals = replicate destroy_spread_drains 0; slot = b.slot; pressed = b.pressed; excess = b.excess })
    (with_parked 0 (with_doomed [] 0 0 (with_retiring [] (model_of l).hand (with_textures (emptied (model_of l).textures) (model_of l)))))

module _ (l : Lent) (f : Fits l) where
  abbrev places : ℕ
  places = version_places l

  abbrev views_in : List ℕ
  views_in = drained_views l.pool places l.retiring l.doomed l.spares

  -- ---- what is handed out

  -- the hand's place is not the queue's
  abbrev from : ℕ
  from = l.pool.popped

  queue_views : map (λ (v : Retiring ℕ). v.view) (model_of l).retiring ≡ column retiring_stride 1 places l.pool.head l.retiring from l.pool.queued
  unfolding model_of column retiring_read along record_at read_retiring
  queue_views =
      map_listed (λ (v : Retiring ℕ). v.view) (retiring_read l) from l.pool.queued
      ∙ listed_same (λ (j : ℕ). (retiring_read l j).view) (column_number retiring_stride 1 places l.pool.head l.retiring) l.pool.queued from from
      (λ j q. get_or-drop (retiring_stride * place_of places l.pool.head (from + j)) l.retiring 1 0)

  doomed_views_lem : map (λ (d : Doomed ℕ). d.view) (model_of l).doomed ≡ column doomed_stride 0 places l.pool.first l.doomed 0 l.pool.doomed
  unfolding model_of column doomed_read along record_at read_doomed
  doomed_views_lem =
      map_listed (λ (d : Doomed ℕ). d.view) (doomed_read l) 0 l.pool.doomed
      ∙ listed_same (λ (j : ℕ). (doomed_read l j).view) (column_number doomed_stride 0 places l.pool.first l.doomed) l.pool.doomed 0 0
      (λ j q. get_or-drop (doomed_stride * place_of places l.pool.first (0 + j)) l.doomed 0 0)

  -- the spares are packed: a ring that begins at place 0
  kept_views : flat_map (λ (t : VersionState ℕ). map (λ (s : Spare ℕ). s.view) t.spares) (model_of l).textures
      ≡ column spare_stride 0 places 0 l.spares 0 l.pool.kept
  unfolding column spare_read record_at read_spare
  kept_views =
      spare_views_lem (model_of l).textures
      ∙ ap (map (λ (s : Spare ℕ). s.view)) (spares_model l ∙ ap (listed (spare_read l) 0) f.kept)
      ∙ map_listed (λ (s : Spare ℕ). s.view) (spare_read l) 0 l.pool.kept
      ∙ listed_same (λ (j : ℕ). (spare_read l j).view) (column_number spare_stride 0 places 0 l.spares) l.pool.kept 0 0
      (λ j q. get_or-drop (spare_stride * (0 + j)) l.spares 0 0
      ∙ ap (λ (k : ℕ). get_or l.spares (spare_stride * k + 0) 0) (sym (zero-add (0 + j)) ∙ place_near places 0 (0 + j) (omega (arith, q, f.versions))))

  views_drained : views_in ≡ every_view (model_of l)
  unfolding drained_views
  views_drained = sym (ap₂ (λ (a b : List ℕ). a ++ b) queue_views (ap₂ (λ (a b : List ℕ). a ++ b) doomed_views_lem kept_views))

  views_count : length views_in ≡ l.pool.queued + l.pool.doomed + l.pool.kept
  unfolding drained_views
  views_count =
      let xs = column retiring_stride 1 places l.pool.head l.retiring from l.pool.queued in
      let ys = column doomed_stride 0 places l.pool.first l.doomed 0 l.pool.doomed in
      let zs = column spare_stride 0 places 0 l.spares 0 l.pool.kept in
      let lx : length xs ≡ l.pool.queued = length_column retiring_stride 1 places l.pool.head l.retiring from l.pool.queued in
      let ly : length ys ≡ l.pool.doomed = length_column doomed_stride 0 places l.pool.first l.doomed 0 l.pool.doomed in
      let lz : length zs ≡ l.pool.kept = length_column spare_stride 0 places 0 l.spares 0 l.pool.kept in
      omega (arith, length-append xs (ys ++ zs), length-append ys zs)

  -- ---- what is left

  abbrev rest : PoolModel ℕ
  rest = rest_of l

  none_left : [] ≡ drop l.pool.doomed (model_of l).doomed
  unfolding model_of
  none_left =
      sym (left_none (doomed_read l) l.pool.doomed l.pool.doomed (omega arith))
      ∙ drop_left (doomed_read l) l.pool.doomed l.pool.doomed (omega arith)

  counts_drained : drained_counts l.pool places ≡ pool_after rest l
  unfolding drained_counts pool_after model_of
  counts_drained = λ i. record {
    tracked = sym (length-map (model_of l).textures (with_spares []) ∙ tracked_model l) i;
    kept = sym (emptied_count (model_of l).textures) i;
    grids =
        sym (grids_kept (emptied (model_of l).textures) (model_of l).textures (emptied_histories (model_of l).textures) ∙ grids_model l ∙ f.claimed) i;
    stamps =
        sym (stamps_used_kept (emptied (model_of l).textures) (model_of l).textures (emptied_histories (model_of l).textures)
        ∙ stamps_used_model l ∙ f.stamps_claimed) i;
    head = sym (head_stays l rest f.head (omega (arith, hand_model l f.hand))) i;
    popped = sym (hand_model l f.hand) i;
    queued = 0;
    first = sym (first_taken l rest l.pool.doomed (omega arith) none_left) i;
    doomed = 0;
    since = 0;
    trackings = l.pool.trackings;
    parked = 0;
    dooming = 0;
    cap = l.pool.cap;
    line = l.pool.line;
  }

  book_drained : drained_book l.book ≡ pacing_after rest
  unfolding drained_book pacing_after model_of
  book_drained = λ i. record {
    arrivals = replicate destroy_spread_drains 0;
    slot = l.book.slot;
    pressed = sym (mark_same l.book.pressed f.mark) i;
    excess = l.book.excess;
  }

  textures_drained : cleared l.pool.tracked l.textures ≡ textures_after rest l
  unfolding cleared textures_after
  textures_drained =
      ap (λ (rs : List TextureRecord). over (flat write_texture rs) l.textures)
      (sym (emptied_records 0 0 (model_of l).textures ∙ ap (map spareless) (records_model l f.bytes f.starts)))

  spares_drained : l.spares ≡ spares_after rest l
  unfolding spares_after over flat
  spares_drained = ap (λ (ss : List (Spare ℕ)). over (flat write_spare (map spare_record ss)) l.spares) (sym (emptied_spares (model_of l).textures))

  -- the other slices with these counts, this book and these textures
  abbrev leaving : Counts → PacingBook → List ℕ → Lent
  leaving c b textures = lent c b textures l.retiring l.doomed l.spares l.newest l.stamps

  left_drained : leaving (drained_counts l.pool places) (drained_book l.book) (cleared l.pool.tracked l.textures) ≡ lent_after rest l
  left_drained =
      put_together rest l (drained_counts l.pool places) (drained_book l.book) (cleared l.pool.tracked l.textures)
      l.retiring l.doomed l.spares l.newest l.stamps
      counts_drained book_drained textures_drained
      (sym (retiring_drained l rest f.head (omega (arith, f.retiring)) f.hand (ring_fits l f) refl refl))
      (sym (doomed_taken l rest f.first (omega (arith, f.doomed)) (doomed_fit_lem l f) l.pool.doomed (omega arith) none_left))
      spares_drained (newest_stay l f rest (emptied_histories (model_of l).textures)) (stamps_stay l f rest (emptied_histories (model_of l).textures))

  -- ---- the call

  abbrev handed_out : ℕ
  handed_out = l.pool.queued + l.pool.doomed + l.pool.kept

  module _ (pooled : is_pool l ≡ true) (buffer : List ℕ) where
    counted : length (every_view (model_of l)) ≡ handed_out
    counted = ap length (sym views_drained) ∙ views_count

    pub drain_refused : length buffer < handed_out → (refused_with 11, (buffer, l)) ≡ drain_versions_on l buffer
    unfolding drain_versions_on asked drain_versions guard
    drain_refused h = sym (rw (pooled, lt-ltb (length buffer) (length (every_view (model_of l))) (omega (arith, counted))))

    drain_said : handed_out ≤ length buffer
        → (answer (length (every_view (model_of l))), (over (flat view_numbers (every_view (model_of l))) buffer, lent_after rest l)) ≡ drain_versions_on l buffer
    unfolding drain_versions_on asked drain_versions guard
    drain_said h = sym (rw (pooled, le-ltb (length buffer) (length (every_view (model_of l))) (omega (arith, counted))))

    pub drain_accepted : handed_out ≤ length buffer → (out textures : List ℕ) (c : Counts) (b : PacingBook)
        → out ≡ over views_in buffer → textures ≡ cleared l.pool.tracked l.textures → c ≡ drained_counts l.pool places
        → b ≡ drained_book l.book → (answer handed_out, (out, leaving c b textures)) ≡ drain_versions_on l buffer
    drain_accepted h out textures c b e1 e2 e3 e4 =
        let full : out ≡ over (flat view_numbers (every_view (model_of l))) buffer =
        e1 ∙ ap (λ (vs : List ℕ). over vs buffer) (views_drained ∙ sym (flat_views (every_view (model_of l)))) in
        let kept : leaving c b textures ≡ lent_after rest l = (λ i. leaving (e3 i) (e4 i) (e2 i)) ∙ left_drained in
        (λ i. (answer (sym counted i), (full i, kept i))) ∙ drain_said h
