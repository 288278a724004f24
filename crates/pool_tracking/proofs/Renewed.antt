-- take_spare for a texture tracked with another shape: what the rule leaves, slice by slice. Assumes nothing.
use mathlib.Core.Path.{◌≡◌, refl, sym, ap, ap₂, ◌∙◌, subst}
use mathlib.Core.Bool.{true, false}
use mathlib.Core.Option.{none, some}
use mathlib.Core.List.{List, ◌++◌, map}
use Prim.Native.Nat.{ℕ, suc, ◌+◌, ◌*◌, ◌-◌, ◌/◌, ◌≤◌}
use native.Mathlib.Nat.{mul-le-mul}
use native.Mathlib.Numerals.{add-one}
use native.Mathlib.Omega.{arith}
use lib.ListN.{length, set, replicate, length-append}
use lib.Seq.{sets}
use Rattle.base_blocks.specs.Lists.{listed, total, removed}
use Rattle.base_blocks.specs.Blocks.{moved}
use Rattle.base_tables.specs.Rings.{laid}
use Rattle.grid_shapes.specs.declared.shape.VersionShape.{VersionShape}
use Rattle.grid_shapes.specs.Shapes.{is_shape, same_shape, bytes_of}
use Rattle.grid_shapes.specs.ShapeConstants.{most_shape_bytes}
use Rattle.grid_shapes.proofs.ShapeBytes.{bytes_bound}
use Rattle.pool_rules.specs.Model.{Spare, Doomed, VersionState, PoolModel, find, doomed_bytes, accepted}
use Rattle.pool_rules.specs.RuleConstants.{grid_stride, most_places}
use Rattle.pool_rules.specs.HistorySizes.{newest_used, stamps_used}
use Rattle.pool_rules.specs.Formed.{Formed}
use Rattle.pool_rules.specs.Updates.{with_textures, with_trackings, change, as_doomed, doom_spares}
use Rattle.pool_rules.specs.TakeSpare.{take_spare}
use Rattle.pool_rules.proofs.HistorySizes.{grids_most, newest_room}
use Rattle.pool_rules.proofs.States.{length_change, total_change}
use Rattle.pool_rules.proofs.Moves.{as_doomed_bytes, as_doomed_length}
use Rattle.pool_records.specs.declared.texture.TextureRecord.{TextureRecord}
use Rattle.pool_records.specs.declared.doomed.DoomedRecord.{DoomedRecord}
use Rattle.pool_records.specs.RecordConstants.{doomed_stride, retiring_stride, spare_stride, texture_stride}
use Rattle.pool_records.specs.Texture.{write_texture, record_grids, record_stamps}
use Rattle.pool_records.specs.Starts.{starts_moved, StartsMove}
use Rattle.pool_records.specs.Doomed.{write_doomed}
use Rattle.pool_records.specs.Tilings.{fresh_from}
use Rattle.pool_memory.specs.declared.pool.Pool.{Pool as Counts}
use Rattle.pool_memory.specs.Lent.{Lent, version_places}
use Rattle.pool_memory.specs.Reading.{spare_read, state_read, model_of}
use Rattle.pool_memory.specs.Writing.{doomed_record, every_spare, textures_after, spares_after, doomed_after, newest_after, stamps_after, pool_after, lent_after}
use Rattle.pool_memory.specs.Calls.{answer, taken_of, take_spare_on}
use Rattle.pool_memory.proofs.Fits.{Fits}
use Rattle.pool_memory.proofs.FromPool.{pool_fits}
use Rattle.pool_memory.proofs.Runs.{spares_of, spare_count, first_spare, first_grid, first_stamp, state_of, tracked_model, kept_model, grids_model, stamps_used_model}
use Rattle.pool_memory.proofs.Same.{doomed_model}
use Rattle.pool_memory.proofs.Rings.{doomed_pushed}
use Rattle.pool_memory.proofs.Stays.{ids_ascend, textures_fit_lem, doomed_fit_lem, doomed_bound}
use Rattle.pool_memory.proofs.Places.{changed}
use Rattle.pool_memory.proofs.Changes.{spares_before, every_emptied, spares_removed}
use Rattle.pool_memory.proofs.HistoryRuns.{grid_count_at, stamp_count_at, grids_in, stamps_in_lem, newest_renewed, stamps_renewed}
use Rattle.pool_memory.proofs.Starts.{placed_record, textures_renewed, renewed_moves}
use Rattle.pool_memory.proofs.Asked.{asked_accepted}
use Rattle.pool_memory.proofs.Tracked.{record_read, spares_to_lem, bytes_at, shape_at, count_at, grid_at_lem, stamp_at_lem, grids_at_lem, stamps_at}
use Rattle.pool_take_doomed.specs.Given.{given_records}
use Rattle.pool_take_doomed.proofs.Pushed.{given_spares}
use Rattle.pool_tracking.specs.declared.begun.NewTracking.{NewTracking}
use Rattle.pool_tracking.specs.declared.holding.Holding.{Holding}
use Rattle.pool_tracking.specs.Begun.{fresh_grids, new_record}
use Rattle.pool_tracking.specs.Cases.{Begins, record_of, TrackedAt}
use Rattle.pool_tracking.specs.Holdings.{HoldingReads, holding_at, given_up, grid_shift, stamp_shift, record_renewed}
use Rattle.pool_tracking.proofs.Renewable.{Renewable}
use Rattle.pool_tracking.proofs.Refusals.{shape_passed, take_renewed_lem, formed_then}
use Rattle.pool_tracking.proofs.Counts.{counted, begun_counts, counts_after}
use Rattle.pool_tracking.proofs.Tracked.{spares_within, kept_fits, is_there, found_there, here}
use Rattle.pool_tracking.proofs.Ends.{newest_most, stamps_most, grid_begins, stamp_begins, grids_held_lem, stamps_held_lem}
use Rattle.pool_tracking.proofs.Trackings.{begun, begun_record, begun_grids, begun_stamps, newest_fresh, stamps_zeros, newest_count, stamps_count, grids_few, stamps_few, run_renewed}

module _ (l : Lent) (new : NewTracking) (ok : Begins l new) (h : TrackedAt l new.place new.id)
    (other : same_shape (record_of l new.place).shape new.shape ≡ false) where
  abbrev f : Fits l
  f = pool_fits l ok.0.0

  abbrev i : ℕ
  i = new.place

  abbrev grids : ℕ
  grids = fresh_grids new.shape new.records

  abbrev u : VersionState ℕ
  u = state_of l i

  abbrev t : TextureRecord
  t = record_of l i

  there : find new.id (model_of l).textures ≡ some u
  there = found_there l f i h.0 new.id ok.0.1.0 h.1

  abbrev epoch : ℕ
  epoch = suc (model_of l).trackings

  abbrev state : VersionState ℕ
  state = begun new epoch

  -- the spares in the destroy queue
  abbrev given : List (Doomed ℕ)
  given = as_doomed (bytes_of u.shape) u.spares

  abbrev textures_then : List (VersionState ℕ)
  textures_then = change new.id (λ (v : VersionState ℕ). state) (model_of l).textures

  abbrev pub renewed : PoolModel ℕ
  renewed = with_trackings epoch (with_textures textures_then (doom_spares given (model_of l)))

  other_state_lem : same_shape u.shape new.shape ≡ false
  other_state_lem = ap (λ (s : VersionShape). same_shape s new.shape) (shape_at l i h.0) ∙ other

  rule : take_spare (model_of l) new.id new.shape new.records new.seq ≡ accepted none renewed
  rule = take_renewed_lem (model_of l) new.id new.shape new.records new.seq ok.0.1.1 u there other_state_lem

  pub ruled : take_spare_on l new.id new.shape new.records new.seq ≡ (answer none, lent_after renewed l)
  unfolding take_spare_on
  ruled = asked_accepted taken_of l (λ (p : PoolModel ℕ). take_spare p new.id new.shape new.records new.seq) ok.0.0 none renewed rule

  after_formed : Formed renewed
  after_formed = formed_then (model_of l) renewed new.id new.shape new.records new.seq none f.formed rule

  changed_there : textures_then ≡ set (model_of l).textures i state
  changed_there =
      changed l new.id (ids_ascend l f) (is_there l f i h.0 new.id ok.0.1.0 h.1) (λ (v : VersionState ℕ). state)
      ∙ ap (λ (k : ℕ). set (model_of l).textures k state) (sym ok.0.1.0)

  shaped : is_shape new.shape ≡ true
  shaped = shape_passed (model_of l) new.id new.shape new.records new.seq ok.0.1.1

  -- ---- what the texture has

  spares_counted : length u.spares ≡ t.spares
  spares_counted = count_at l i h.0

  spares_listed : u.spares ≡ listed (spare_read l) (first_spare l i) t.spares
  unfolding state_of state_read
  spares_listed = ap (λ (r : TextureRecord). listed (spare_read l) (first_spare l i) r.spares) (record_read l i h.0)

  grids_there : grid_count_at l i ≡ record_grids t
  grids_there = ap record_grids (record_read l i h.0)

  stamps_there : stamp_count_at l i ≡ record_stamps t
  stamps_there = ap record_stamps (record_read l i h.0)

  given_bytes : doomed_bytes given ≡ bytes_of t.shape * t.spares
  given_bytes = as_doomed_bytes (bytes_of u.shape) u.spares ∙ ap₂ (λ (a b : ℕ). a * b) (ap bytes_of (shape_at l i h.0)) spares_counted

  given_length : length given ≡ t.spares
  given_length = as_doomed_length (bytes_of u.shape) u.spares ∙ spares_counted

  given_records_lem : given_records l.spares (bytes_of t.shape) (first_spare l i) t.spares ≡ map doomed_record given
  given_records_lem =
      given_spares l (bytes_of t.shape) (first_spare l i) t.spares
      ∙ sym (ap₂ (λ (b : ℕ) (ss : List (Spare ℕ)). map doomed_record (as_doomed b ss)) (ap bytes_of (shape_at l i h.0)) spares_listed)

  -- ---- the counts then

  epoch_is : l.pool.trackings + 1 ≡ epoch
  unfolding model_of
  epoch_is = add-one l.pool.trackings

  tracked_then : l.pool.tracked ≡ length textures_then
  tracked_then = sym (length_change new.id (λ (v : VersionState ℕ). state) (model_of l).textures ∙ tracked_model l)

  kept_then : l.pool.kept - t.spares ≡ total spare_count textures_then
  kept_then =
      omega (
        arith,
        total_change spare_count new.id (λ (v : VersionState ℕ). state) u (model_of l).textures f.formed.ids there,
        kept_model l,
        f.kept,
        spares_counted,
      )

  -- its own go out, those of the new history come in
  grids_changed : total newest_used textures_then + record_grids t ≡ l.pool.grids + grids
  grids_changed =
      omega (
        arith,
        total_change newest_used new.id (λ (v : VersionState ℕ). state) u (model_of l).textures f.formed.ids there,
        grids_model l,
        f.claimed,
        grids_at_lem l i h.0,
        begun_grids new epoch,
      )

  stamps_changed : total stamps_used textures_then + record_stamps t ≡ l.pool.stamps + new.stamps
  stamps_changed =
      omega (
        arith,
        total_change stamps_used new.id (λ (v : VersionState ℕ). state) u (model_of l).textures f.formed.ids there,
        stamps_used_model l,
        f.stamps_claimed,
        stamps_at l i h.0,
        begun_stamps new epoch,
        ok.1,
      )

  grids_within : first_grid l i + record_grids t ≤ l.pool.grids
  grids_within = omega (arith, grids_in l f i h.0, grids_there)

  stamps_within : first_stamp l i + record_stamps t ≤ l.pool.stamps
  stamps_within = omega (arith, stamps_in_lem l f i h.0, stamps_there)

  grids_then : l.pool.grids - record_grids t + grids ≡ total newest_used textures_then
  grids_then = omega (arith, grids_changed, grids_within)

  stamps_then : l.pool.stamps - record_stamps t + new.stamps ≡ total stamps_used textures_then
  stamps_then = omega (arith, stamps_changed, stamps_within)

  doomed_then : l.pool.doomed + t.spares ≡ length ((model_of l).doomed ++ given)
  doomed_then = omega (arith, length-append (model_of l).doomed given, doomed_model l, given_length)

  -- ---- room

  stamps_room : l.pool.stamps + new.stamps ≤ length l.stamps + record_stamps t
  stamps_room = omega (arith, stamps_changed, after_formed.stamps, f.stamps)

  -- room in `newest` is not tested, since it follows
  grids_room : l.pool.grids + grids ≤ length l.newest + record_grids t
  grids_room =
      omega (
        arith,
        grids_changed,
        newest_room renewed.textures after_formed.textures (model_of l).places.textures (length l.stamps) (length l.newest) after_formed.places
            (omega (arith, after_formed.stamps, f.stamps)) f.newest,
      )

  -- ---- as the code reads the texture

  pub readable : HoldingReads l.pool l.textures i
  readable =
      let k = here l i new.id new.shape new.records new.seq ok.0 h in
      record {
        there = textures_fit_lem l f;
        place = h.0;
        spares = omega (arith, k.first, k.within, k.kept);
        grids = grid_begins l f i h.0;
        stamps = stamp_begins l f i h.0;
      }

  module _ (hold : Holding) (is_held_lem : hold ≡ holding_at l.pool l.textures i) where
    first_is : hold.first ≡ first_spare l i
    unfolding holding_at
    first_is = ap (λ (a : Holding). a.first) is_held_lem ∙ sym (spares_to_lem l i h.0)

    spares_is : hold.spares ≡ t.spares
    unfolding holding_at
    spares_is = ap (λ (a : Holding). a.spares) is_held_lem

    bytes_is : hold.bytes ≡ bytes_of t.shape
    unfolding holding_at
    bytes_is = ap (λ (a : Holding). a.bytes) is_held_lem ∙ bytes_at l i h.0 f

    grid_is : hold.grid ≡ first_grid l i
    unfolding holding_at
    grid_is = ap (λ (a : Holding). a.grid) is_held_lem ∙ grid_at_lem l i h.0 f

    grids_is : hold.grids ≡ record_grids t
    unfolding holding_at
    grids_is = ap (λ (a : Holding). a.grids) is_held_lem ∙ grids_held_lem l f i h.0

    stamp_is : hold.stamp ≡ first_stamp l i
    unfolding holding_at
    stamp_is = ap (λ (a : Holding). a.stamp) is_held_lem ∙ stamp_at_lem l i h.0 f

    stamps_is : hold.stamps ≡ record_stamps t
    unfolding holding_at
    stamps_is = ap (λ (a : Holding). a.stamps) is_held_lem ∙ stamps_held_lem l f i h.0

    both_is : hold.bytes * hold.spares ≡ bytes_of t.shape * t.spares
    both_is = ap₂ (λ (a b : ℕ). a * b) bytes_is spares_is

    -- the record written over
    abbrev written : List ℕ
    written = sets l.textures (texture_stride * i) (write_texture (placed_record l i state))

    written_is : record_renewed l.textures new (l.pool.trackings + 1) hold ≡ written
    written_is =
        ap (λ (x : TextureRecord). sets l.textures (texture_stride * i) (write_texture x))
        ((λ j. new_record new (epoch_is j) (grid_is j) (stamp_is j)) ∙ sym (begun_record new epoch (first_grid l i) (first_stamp l i)))

    module _ (fresh : ℕ) (fresh-is : fresh ≡ grids) where
      grids_out : (grid_shift hold fresh).less ≡ newest_used u
      grids_out = grids_is ∙ sym (grids_at_lem l i h.0)

      stamps_out : (stamp_shift hold new).less ≡ stamps_used u
      stamps_out = stamps_is ∙ sym (stamps_at l i h.0)

      starts_move : StartsMove (grid_shift hold fresh) (stamp_shift hold new) (i + 1) l.pool.tracked written
      starts_move j a b =
          renewed_moves l renewed f (grid_shift hold fresh) (stamp_shift hold new) (omega (arith, grids_few new.shape shaped new.records, fresh-is))
          (omega (arith, stamps_few new.shape shaped new.records, ok.1)) i state h.0 grids_out stamps_out j (omega (arith, a)) b

      pub textures_left : (textures : List ℕ)
          → textures ≡ starts_moved (grid_shift hold fresh) (stamp_shift hold new) (i + 1) l.pool.tracked (record_renewed l.textures new (l.pool.trackings + 1) hold)
          → textures ≡ textures_after renewed l
      textures_left textures q =
          q ∙ (λ j. starts_moved (grid_shift hold fresh) (stamp_shift hold new) (add-one i j) l.pool.tracked (written_is j))
          ∙ textures_renewed l renewed f (grid_shift hold fresh) (stamp_shift hold new) i state h.0 changed_there grids_out (fresh-is ∙ sym (begun_grids new epoch))
          stamps_out (ok.1 ∙ sym (begun_stamps new epoch))

    pub renewable : Renewable l new hold
    unfolding version_places model_of
    renewable =
        let k = here l i new.id new.shape new.records new.seq ok.0 h in
        let dooming : l.pool.dooming ≤ most_shape_bytes * length (model_of l).doomed = omega (arith, f.formed.dooming, doomed_bound f.formed.doomed) in
        let all : bytes_of t.shape * t.spares ≤ most_shape_bytes * most_places =
        mul-le-mul (bytes_bound t.shape k.shape) (let q : t.spares ≤ most_places = omega (arith, k.within, k.kept) in q) in
        record {
          counter = after_formed.trackings;
          shaped = shaped;
          few = omega (arith, grids_most new.shape shaped);
          textures = textures_fit_lem l f;
          ring = omega (arith, f.doomed);
          head = f.first;
          doomed = omega (arith, f.versions, spares_is, k.within);
          within = omega (arith, first_is, spares_is, k.within);
          spares = k.spares;
          parked = omega (arith, both_is, k.parked);
          dooming = omega (arith, dooming, all, both_is, doomed_model l, f.versions, f.most);
          since = omega (arith, f.formed.since, doomed_model l, f.versions, f.most, spares_is, k.within, k.kept);
          grids = omega (arith, grid_is, grids_is, grids_within);
          grids_used_lem = f.grids;
          grids_room = omega (arith, grids_room, grids_is);
          stamps = omega (arith, stamp_is, stamps_is, stamps_within);
          stamps_used_lem = f.stamps_counted;
          stamps_room = omega (arith, stamps_room, stamps_is);
          newest_most = newest_most l f;
          stamps_most = stamps_most l f;
          moves = λ fresh e. subst (StartsMove (grid_shift hold fresh) (stamp_shift hold new) (i + 1) l.pool.tracked) (sym written_is) (starts_move fresh e);
        }

    -- ---- what is left

    counts_renewed : counted l.pool l.pool.tracked (l.pool.kept - t.spares) (l.pool.grids - record_grids t + grids) (l.pool.stamps - record_stamps t + new.stamps)
        (l.pool.doomed + t.spares) (l.pool.since + t.spares) epoch (l.pool.parked - bytes_of t.shape * t.spares) (l.pool.dooming + bytes_of t.shape * t.spares)
        ≡ pool_after renewed l
    unfolding model_of
    counts_renewed =
        ap₂ (λ (n b : ℕ). counted l.pool l.pool.tracked (l.pool.kept - t.spares) (l.pool.grids - record_grids t + grids) (l.pool.stamps - record_stamps t + new.stamps)
        (l.pool.doomed + t.spares) (l.pool.since + n) epoch (l.pool.parked - b) (l.pool.dooming + b)) (sym given_length) (sym given_bytes)
        ∙ counts_after l f renewed refl refl refl refl l.pool.tracked (l.pool.kept - t.spares) (l.pool.grids - record_grids t + grids) (l.pool.stamps - record_stamps t + new.stamps)
        (l.pool.doomed + t.spares) tracked_then kept_then grids_then stamps_then doomed_then (omega arith)

    -- the counts with the spares given up, and then the grids, the stamps and the tracking's number
    pub counts_left : (fresh : ℕ) → fresh ≡ grids → (g : Counts) → g ≡ given_up l.pool hold.spares hold.bytes
        → begun_counts g (l.pool.grids - hold.grids + fresh) (l.pool.stamps - hold.stamps + new.stamps) (l.pool.trackings + 1) ≡ pool_after renewed l
    counts_left fresh e g q =
        ap (λ (c : Counts). begun_counts c (l.pool.grids - hold.grids + fresh) (l.pool.stamps - hold.stamps + new.stamps) (l.pool.trackings + 1)) q
        ∙ (λ j. counted l.pool l.pool.tracked (l.pool.kept - spares_is j) (l.pool.grids - grids_is j + e j) (l.pool.stamps - stamps_is j + new.stamps)
        (l.pool.doomed + spares_is j) (l.pool.since + spares_is j) (epoch_is j) (l.pool.parked - both_is j) (l.pool.dooming + both_is j))
        ∙ counts_renewed

    pub doomed_left : (places : ℕ) → places ≡ length l.retiring / retiring_stride → (doomed : List ℕ)
        → doomed ≡ laid doomed_stride write_doomed places l.pool.first l.pool.doomed (given_records l.spares hold.bytes hold.first hold.spares) l.doomed
        → doomed ≡ doomed_after renewed l
    unfolding version_places
    doomed_left places e doomed q =
        q
        ∙ (λ j. laid doomed_stride write_doomed (e j) l.pool.first l.pool.doomed (given_records l.spares (bytes_is j) (first_is j) (spares_is j)) l.doomed)
        ∙ ap (λ (rs : List DoomedRecord). laid doomed_stride write_doomed (version_places l) l.pool.first l.pool.doomed rs l.doomed) given_records_lem
        ∙ doomed_pushed l renewed f.first (omega (arith, f.doomed)) (doomed_fit_lem l f) given refl

    pub spares_left : (spares : List ℕ) → spares ≡ moved l.spares (spare_stride * hold.first) (spare_stride * hold.first + spare_stride * hold.spares) (spare_stride * (l.pool.kept - (hold.first + hold.spares)))
        → spares ≡ spares_after renewed l
    spares_left spares q =
        q
        ∙ ap₂ (λ (a b : ℕ). moved l.spares (spare_stride * a) (spare_stride * a + spare_stride * b) (spare_stride * (l.pool.kept - (a + b)))) first_is spares_is
        ∙ spares_removed l renewed f.kept (kept_fits l f i h.0) (first_spare l i) t.spares (spares_within l f i h.0)
        (ap every_spare changed_there ∙ every_emptied l i h.0 state refl ∙ ap (λ (k : ℕ). removed (first_spare l i) k (spares_before l)) (ap spares_of (record_read l i h.0)))

    pub newest_left : (fresh : ℕ) → fresh ≡ grids → (newest : List ℕ)
        → newest ≡ sets (moved l.newest (hold.grid + fresh) (hold.grid + hold.grids) (l.pool.grids - (hold.grid + hold.grids))) hold.grid (fresh_from new.shape 0 (fresh / grid_stride))
        → newest ≡ newest_after renewed l
    newest_left fresh e newest q =
        q
        ∙ run_renewed l.newest l.pool.grids grid_is (e ∙ sym (newest_count new epoch))
        (ap (λ (n : ℕ). fresh_from new.shape 0 (n / grid_stride)) e ∙ sym (newest_fresh new epoch)) (grids_is ∙ sym grids_there)
        ∙ newest_renewed l f renewed i h.0 state changed_there (omega (arith, newest_count new epoch, grids_room, grids_within, grids_there))

    pub stamps_left : (stamps : List ℕ)
        → stamps ≡ sets (moved l.stamps (hold.stamp + new.stamps) (hold.stamp + hold.stamps) (l.pool.stamps - (hold.stamp + hold.stamps))) hold.stamp (replicate new.stamps 0)
        → stamps ≡ stamps_after renewed l
    stamps_left stamps q =
        q
        ∙ run_renewed l.stamps l.pool.stamps stamp_is (ok.1 ∙ sym (stamps_count new epoch))
        (ap (λ (n : ℕ). replicate n 0) ok.1 ∙ sym (stamps_zeros new epoch)) (stamps_is ∙ sym stamps_there)
        ∙ stamps_renewed l f renewed i h.0 state changed_there (omega (arith, stamps_count new epoch, ok.1, stamps_room, stamps_within, stamps_there))
