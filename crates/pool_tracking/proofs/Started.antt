-- take_spare for an untracked texture: what the rule leaves, slice by slice. Assumes nothing.
use mathlib.Core.Path.{◌≡◌, refl, sym, ap, ap₂, ◌∙◌, subst}
use mathlib.Core.Bool.{true}
use mathlib.Core.Option.{none}
use mathlib.Core.List.{List, [], ◌∷◌}
use Prim.Native.Nat.{ℕ, suc, ◌+◌, ◌*◌, ◌-◌, ◌≤◌, ◌<◌}
use native.Mathlib.Numerals.{add-one}
use native.Mathlib.Omega.{arith}
use lib.ListN.{length, replicate}
use lib.Seq.{sets}
use Rattle.base_blocks.specs.Lists.{total, inserted}
use Rattle.base_blocks.specs.Blocks.{moved}
use Rattle.grid_shapes.specs.Shapes.{is_shape}
use Rattle.pool_rules.specs.Model.{VersionState, PoolModel, find, accepted}
use Rattle.pool_rules.specs.HistorySizes.{newest_used, stamps_used}
use Rattle.pool_rules.specs.Formed.{Formed}
use Rattle.pool_rules.specs.Updates.{with_textures, with_trackings, insert}
use Rattle.pool_rules.specs.TakeSpare.{take_spare}
use Rattle.pool_rules.proofs.HistorySizes.{newest_room}
use Rattle.pool_rules.proofs.States.{length_insert, total_insert}
use Rattle.pool_records.specs.RecordConstants.{texture_stride}
use Rattle.pool_records.specs.declared.texture.TextureRecord.{TextureRecord}
use Rattle.pool_records.specs.Texture.{write_texture}
use Rattle.pool_records.specs.Starts.{starts_moved, StartsMove, more_by}
use Rattle.pool_records.proofs.Places.{below_length}
use Rattle.pool_memory.specs.declared.pool.Pool.{Pool as Counts}
use Rattle.pool_memory.specs.Lent.{Lent, lent}
use Rattle.pool_memory.specs.Reading.{tracked_records, model_of}
use Rattle.pool_memory.specs.Writing.{every_spare, pool_after, newest_after, stamps_after, lent_after}
use Rattle.pool_memory.specs.Calls.{answer, taken_of, take_spare_on}
use Rattle.pool_memory.proofs.Fits.{Fits}
use Rattle.pool_memory.proofs.FromPool.{pool_fits, enough}
use Rattle.pool_memory.proofs.Runs.{spare_count, first_grid, first_stamp, tracked_records_lem, tracked_model, kept_model, grids_model, stamps_used_model}
use Rattle.pool_memory.proofs.Same.{doomed_model}
use Rattle.pool_memory.proofs.Stays.{put_together, book_stays, ids_ascend, spares_stay, retiring_stay, doomed_stay}
use Rattle.pool_memory.proofs.Places.{IsTracked, not_found, put_in}
use Rattle.pool_memory.proofs.Changes.{every_inserted}
use Rattle.pool_memory.proofs.HistoryRuns.{grid_bound, stamp_bound, newest_inserted, stamps_inserted}
use Rattle.pool_memory.proofs.Starts.{placed_record, textures_inserted, inserted_moves}
use Rattle.pool_memory.proofs.Asked.{asked_accepted}
use Rattle.pool_tracking.specs.declared.begun.NewTracking.{NewTracking}
use Rattle.pool_tracking.specs.declared.start.First.{First}
use Rattle.pool_tracking.specs.Begun.{fresh_grids}
use Rattle.pool_tracking.specs.Cases.{Begins, TrackedAt}
use Rattle.pool_tracking.specs.Start.{first_of, first_at, record_started, zeros_put, fresh_put, one_tracked, StartFits, tracking_started}
use Rattle.pool_tracking.proofs.Refusals.{shape_passed, take_new_lem, formed_then}
use Rattle.pool_tracking.proofs.Counts.{counted, counts_after}
use Rattle.pool_tracking.proofs.Tracked.{not_there}
use Rattle.pool_tracking.proofs.Ends.{newest_most, stamps_most, first_there}
use Rattle.pool_tracking.proofs.Trackings.{begun, begun_record, begun_grids, begun_stamps, newest_fresh, stamps_zeros, newest_count, stamps_count, grids_few, stamps_few, run_put}

-- the counts and the three slices that change
abbrev Left : Type 0
Left = Counts × (List ℕ × (List ℕ × List ℕ))

-- ---- as the code has it

module _ (pool : Counts) (textures newest stamps : List ℕ) (new : NewTracking) where
  pub started_as : (first : First) (fresh : ℕ) (textures' newest' stamps' : List ℕ) → first ≡ first_at pool textures new.place
      → fresh ≡ fresh_grids new.shape new.records
      → textures' ≡ starts_moved (more_by fresh) (more_by new.stamps) (new.place + 1) (pool.tracked + 1)
      (record_started textures pool.tracked new (pool.trackings + 1) first)
      → newest' ≡ fresh_put newest pool.grids first.grid fresh new.shape → stamps' ≡ zeros_put stamps pool.stamps first.stamp new.stamps
      → (one_tracked pool fresh new.stamps, (textures', (newest', stamps'))) ≡ tracking_started pool textures newest stamps new
  unfolding tracking_started
  started_as first fresh textures' newest' stamps' e1 e2 e3 e4 e5 =
      let tex = e3 ∙ ap₂ (λ (n : ℕ) (a : First). starts_moved (more_by n) (more_by new.stamps) (new.place + 1) (pool.tracked + 1) (record_started textures pool.tracked new (pool.trackings + 1) a)) e2 e1 in
      let newe = e4 ∙ ap₂ (λ (n : ℕ) (a : First). fresh_put newest pool.grids a.grid n new.shape) e2 e1 in
      let sta = e5 ∙ ap (λ (a : First). zeros_put stamps pool.stamps a.stamp new.stamps) e1 in
      λ j. (one_tracked pool (e2 j) new.stamps, (tex j, (newe j, sta j)))

-- ---- the rule

module _ (l : Lent) (new : NewTracking) (ok : Begins l new) (untracked : TrackedAt l new.place new.id → ⊥) where
  abbrev f : Fits l
  f = pool_fits l ok.0.0

  abbrev i : ℕ
  i = new.place

  abbrev grids : ℕ
  grids = fresh_grids new.shape new.records

  nowhere : IsTracked l new.id (ids_ascend l f) → ⊥
  nowhere = not_there l f i new.id ok.0.1.0 untracked

  none_there : find new.id (model_of l).textures ≡ none
  none_there = not_found l new.id (ids_ascend l f) nowhere

  abbrev epoch : ℕ
  epoch = suc (model_of l).trackings

  abbrev state : VersionState ℕ
  state = begun new epoch

  abbrev started : PoolModel ℕ
  started = with_trackings epoch (with_textures (insert state (model_of l).textures) (model_of l))

  rule : take_spare (model_of l) new.id new.shape new.records new.seq ≡ accepted none started
  rule = take_new_lem (model_of l) new.id new.shape new.records new.seq ok.0.1.1 none_there

  ruled : take_spare_on l new.id new.shape new.records new.seq ≡ (answer none, lent_after started l)
  unfolding take_spare_on
  ruled = asked_accepted taken_of l (λ (p : PoolModel ℕ). take_spare p new.id new.shape new.records new.seq) ok.0.0 none started rule

  after_formed : Formed started
  after_formed = formed_then (model_of l) started new.id new.shape new.records new.seq none f.formed rule

  put_there : insert state (model_of l).textures ≡ inserted i (state ∷ []) (model_of l).textures
  put_there =
      put_in l new.id (ids_ascend l f) nowhere state refl ∙ ap (λ (k : ℕ). inserted k (state ∷ []) (model_of l).textures) (sym ok.0.1.0)

  shaped : is_shape new.shape ≡ true
  shaped = shape_passed (model_of l) new.id new.shape new.records new.seq ok.0.1.1

  -- ---- the counts then

  epoch_is : l.pool.trackings + 1 ≡ epoch
  unfolding model_of
  epoch_is = add-one l.pool.trackings

  tracked_then : l.pool.tracked + 1 ≡ length (insert state (model_of l).textures)
  tracked_then = omega (arith, length_insert state (model_of l).textures, tracked_model l)

  kept_then : l.pool.kept ≡ total spare_count (insert state (model_of l).textures)
  kept_then = omega (arith, total_insert spare_count state (model_of l).textures, kept_model l, f.kept)

  grids_then : l.pool.grids + grids ≡ total newest_used (insert state (model_of l).textures)
  grids_then = omega (arith, total_insert newest_used state (model_of l).textures, grids_model l, f.claimed, begun_grids new epoch)

  stamps_then : l.pool.stamps + new.stamps ≡ total stamps_used (insert state (model_of l).textures)
  stamps_then =
      omega (arith, total_insert stamps_used state (model_of l).textures, stamps_used_model l, f.stamps_claimed, begun_stamps new epoch, ok.1)

  -- ---- what the code asks

  place_bound : i ≤ l.pool.tracked
  place_bound = omega (arith, ok.0.1.0, below_length new.id (tracked_records l), tracked_records_lem l)

  place_left : l.pool.tracked < (model_of l).places.textures
  place_left = omega (arith, after_formed.places, tracked_then)

  record_room : texture_stride * l.pool.tracked + texture_stride ≤ length l.textures
  record_room = omega (arith, place_left, f.textures)

  stamps_room : l.pool.stamps + new.stamps ≤ length l.stamps
  stamps_room = omega (arith, stamps_then, after_formed.stamps, f.stamps)

  -- room in `newest` is not tested, since it follows
  grids_room : l.pool.grids + grids ≤ length l.newest
  grids_room =
      omega (
        arith,
        grids_then,
        newest_room started.textures after_formed.textures (model_of l).places.textures (length l.stamps) (length l.newest) after_formed.places
            (omega (arith, stamps_then, stamps_room)) f.newest,
      )

  first_is : first_at l.pool l.textures i ≡ first_of (first_grid l i) (first_stamp l i)
  first_is = first_there l f i place_bound

  grid_is : (first_at l.pool l.textures i).grid ≡ first_grid l i
  grid_is = ap (λ (a : First). a.grid) first_is

  stamp_is : (first_at l.pool l.textures i).stamp ≡ first_stamp l i
  stamp_is = ap (λ (a : First). a.stamp) first_is

  -- the records with the texture's put in
  abbrev put : List ℕ
  put =
      sets (moved l.textures (texture_stride * i + texture_stride) (texture_stride * i) (texture_stride * (l.pool.tracked - i))) (texture_stride * i)
      (write_texture (placed_record l i state))

  put_is : record_started l.textures l.pool.tracked new (l.pool.trackings + 1) (first_at l.pool l.textures i) ≡ put
  put_is =
      ap₂ (λ (k : ℕ) (a : First). record_started l.textures l.pool.tracked new k a) epoch_is first_is
      ∙ ap (λ (x : TextureRecord). sets (moved l.textures (texture_stride * i + texture_stride) (texture_stride * i) (texture_stride * (l.pool.tracked - i))) (texture_stride * i) (write_texture x))
      (sym (begun_record new epoch (first_grid l i) (first_stamp l i)))

  starts_move : StartsMove (more_by grids) (more_by new.stamps) (i + 1) (l.pool.tracked + 1) put
  starts_move j a b =
      inserted_moves l started f (more_by grids) (more_by new.stamps) (grids_few new.shape shaped new.records)
      (omega (arith, stamps_few new.shape shaped new.records, ok.1)) i state record_room place_bound refl refl j (omega (arith, a)) (omega (arith, b))

  pub start_fits : StartFits l.pool l.textures l.newest l.stamps new
  unfolding model_of
  start_fits = record {
    shaped = shaped;
    place = place_bound;
    room = record_room;
    tracked = omega (arith, place_left, (enough (model_of l).places f.places).textures);
    counter = after_formed.trackings;
    grid = omega (arith, grid_is, grid_bound l f i);
    stamp = omega (arith, stamp_is, stamp_bound l f i);
    grids_room = grids_room;
    stamps_room = stamps_room;
    newest_most = newest_most l f;
    stamps_most = stamps_most l f;
    moves = subst (StartsMove (more_by grids) (more_by new.stamps) (i + 1) (l.pool.tracked + 1)) (sym put_is) starts_move;
  }

  -- ---- what it leaves

  counts_started : one_tracked l.pool grids new.stamps ≡ pool_after started l
  unfolding model_of
  counts_started =
      ap (λ (k : ℕ). counted l.pool (l.pool.tracked + 1) l.pool.kept (l.pool.grids + grids) (l.pool.stamps + new.stamps) l.pool.doomed l.pool.since k l.pool.parked l.pool.dooming) epoch_is
      ∙ counts_after l f started refl refl refl refl (l.pool.tracked + 1) l.pool.kept (l.pool.grids + grids) (l.pool.stamps + new.stamps) l.pool.doomed
      tracked_then kept_then grids_then stamps_then (sym (doomed_model l)) (omega arith)

  newest_started : fresh_put l.newest l.pool.grids (first_at l.pool l.textures i).grid grids new.shape ≡ newest_after started l
  newest_started =
      run_put l.newest l.pool.grids grid_is (sym (newest_count new epoch)) (sym (newest_fresh new epoch))
      ∙ newest_inserted l f started i state put_there (omega (arith, newest_count new epoch, grids_room))

  stamps_started : zeros_put l.stamps l.pool.stamps (first_at l.pool l.textures i).stamp new.stamps ≡ stamps_after started l
  stamps_started =
      run_put l.stamps l.pool.stamps stamp_is (ok.1 ∙ sym (stamps_count new epoch)) (ap (λ (n : ℕ). replicate n 0) ok.1 ∙ sym (stamps_zeros new epoch))
      ∙ stamps_inserted l f started i state put_there (omega (arith, stamps_count new epoch, ok.1, stamps_room))

  pub left_started : (c : Counts) (textures newest stamps : List ℕ)
      → (c, (textures, (newest, stamps))) ≡ tracking_started l.pool l.textures l.newest l.stamps new
      → (answer none, lent c l.book textures l.retiring l.doomed l.spares newest stamps)
      ≡ take_spare_on l new.id new.shape new.records new.seq
  unfolding tracking_started
  left_started c textures newest stamps e =
      ap (λ (m : Lent). (answer none, m))
      (put_together started l c l.book textures l.retiring l.doomed l.spares newest stamps
      (ap (λ (q : Left). q.0) e ∙ counts_started)
      (book_stays l f started refl)
      (ap (λ (q : Left). q.1.0) e
      ∙ (λ j. starts_moved (more_by grids) (more_by new.stamps) (add-one i j) (add-one l.pool.tracked j) (put_is j))
      ∙ textures_inserted l started f (more_by grids) (more_by new.stamps) i state record_room place_bound put_there refl (sym (begun_grids new epoch)) refl
      (ok.1 ∙ sym (begun_stamps new epoch)))
      (retiring_stay l f started refl refl) (doomed_stay l f started refl)
      (spares_stay l f started (ap every_spare put_there ∙ every_inserted l i state refl))
      (ap (λ (q : Left). q.1.1.0) e ∙ newest_started) (ap (λ (q : Left). q.1.1.1) e ∙ stamps_started))
      ∙ sym ruled
