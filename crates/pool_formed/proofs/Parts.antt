-- The parts that the test goes by are together what it takes to form a pool. Assumes nothing.
use mathlib.Core.Path.{◌≡◌, refl, sym, ap, ap₂, ◌∙◌}
use mathlib.Core.Bool.{Bool, true, ◌&&◌}
use mathlib.Core.List.{List, [], ◌∷◌}
use Prim.Native.Nat.{ℕ, ◌+◌, ◌*◌, ◌/◌, ◌≤◌, ◌<◌}
use native.Mathlib.Nat.{zero-add}
use native.Mathlib.Omega.{arith}
use borrow.Author.Tests.{leb-true, ltb-true, eqb-true, le-leb, eq-eqb}
use lib.Dec.{leb, ltb, eqb}
use lib.ListN.{length}
use Rattle.base_blocks.specs.Lists.{all, listed, total, ascending, tests, after}
use Rattle.base_blocks.specs.All.{nil, cons}
use Rattle.base_blocks.proofs.Lists.{and_both, passed}
use Rattle.base_blocks.proofs.Listed.{length_listed}
use Rattle.pool_rules.specs.Model.{Places, limit, spare_bytes, doomed_bytes}
use Rattle.pool_rules.specs.Open.{are_places}
use Rattle.pool_records.specs.declared.texture.TextureRecord.{TextureRecord}
use Rattle.pool_memory.specs.Lent.{Lent, version_places}
use Rattle.pool_memory.specs.Reading.{tracked_records, states_read, retiring_read, hand_read, doomed_read, model_of}
use Rattle.pool_memory.proofs.Runs.{grid_starts, stamp_starts}
use Rattle.pool_memory.specs.IsPool.{sizes_fit, counts_fit, runs_fit, starts_hold, tilings_hold, tilings_fit, bytes_hold, bytes_fit, mark_fits, state_id, is_spare, is_state, is_retiring, is_hand, is_doomed, is_arrival, is_formed, is_pool}
use Rattle.pool_formed.specs.Parts.{places_hold, retiring_at, retiring_fit, doomed_at, doomed_fit, rings_fit, numbers_fit}
use Rattle.pool_formed_textures.specs.Textures.{is_record, model_spare_at, history_holds, histories_fit, textures_fit}
use Rattle.pool_formed_textures.proofs.Tests.{same_test, pass_all}
use Rattle.pool_formed_textures.proofs.States.{states_ids, states_bytes, record_holds, records_hold, states_test}
use Rattle.pool_formed_textures.proofs.HistoryTests.{Walked, walked, walks}
use Rattle.pool_formed.proofs.RingTests.{hand_test}
use Rattle.pool_records.specs.RecordConstants.{doomed_stride, retiring_stride, spare_stride, texture_stride}
use Rattle.pool_rules.specs.RuleConstants.{destroy_spread_drains, most_places}
use Rattle.pool_records.specs.Texture.{record_grids, record_stamps, record_spares}

pub counts_places : (l : Lent) → counts_fit l ≡ places_hold l.pool (length l.textures / texture_stride) (length l.retiring / retiring_stride) (length l.newest) (length l.stamps)
unfolding counts_fit places_hold model_of version_places
counts_places l = refl

-- ---- the parts, of lent memory

abbrev pub numbers_of : Lent → Bool
numbers_of l = numbers_fit l.pool l.book

abbrev pub rings_of : Lent → Bool
rings_of l = rings_fit l.pool (version_places l) l.retiring l.doomed

abbrev pub textures_of : Lent → Bool
textures_of l = textures_fit l.pool l.textures l.spares l.newest l.stamps

abbrev histories_of : Lent → Bool
histories_of l = histories_fit l.newest l.stamps l.pool.grids l.pool.stamps 0 0 (tracked_records l)

abbrev pub parts_of : Lent → List Bool
parts_of l = sizes_fit l ∷ counts_fit l ∷ numbers_of l ∷ rings_of l ∷ textures_of l ∷ []

-- 01's conditions, each by its name
record Conditions (l : Lent) : Type 0 where
  ids : ascending state_id (states_read l 0 (tracked_records l)) ≡ true
  states : all is_state (states_read l 0 (tracked_records l)) ≡ true
  queue : all is_retiring (listed (retiring_read l) l.pool.popped l.pool.queued) ≡ true
  hand : is_hand (hand_read l l.pool.popped) ≡ true
  doomed : all is_doomed (listed (doomed_read l) 0 l.pool.doomed) ≡ true
  trackings : leb l.pool.trackings limit ≡ true
  parked : eqb l.pool.parked (total spare_bytes (states_read l 0 (tracked_records l))) ≡ true
  dooming : eqb l.pool.dooming (doomed_bytes (listed (doomed_read l) 0 l.pool.doomed)) ≡ true
  cap : leb l.pool.parked l.pool.cap ≡ true
  slot : ltb l.book.slot destroy_spread_drains ≡ true
  arrivals : all is_arrival l.book.arrivals ≡ true
  since : leb l.pool.since (length (listed (doomed_read l) 0 l.pool.doomed)) ≡ true

module _ (l : Lent) where
  abbrev ts : List TextureRecord
  ts = tracked_records l

  kept : runs_fit l ≡ true → total record_spares ts ≡ l.pool.kept
  unfolding runs_fit
  kept runs = eqb-true _ _ (passed _ runs 0)

  conditions : is_formed (model_of l) ≡ true → Conditions l
  unfolding is_formed model_of
  conditions e = record {
    ids = passed _ e 0;
    states = passed _ e 1;
    queue = passed _ e 2;
    hand = passed _ e 3;
    doomed = passed _ e 4;
    trackings = passed _ e 5;
    parked = passed _ e 6;
    dooming = passed _ e 7;
    cap = passed _ e 8;
    slot = passed _ e 9;
    arrivals = passed _ e 11;
    since = passed _ e 12;
  }

  formed : length l.book.arrivals ≡ destroy_spread_drains → Conditions l → is_formed (model_of l) ≡ true
  unfolding is_formed model_of
  formed eight c =
      pass_all _
      (cons c.ids
      (cons c.states
      (cons c.queue
      (cons c.hand
      (cons c.doomed
      (cons c.trackings
      (cons c.parked
      (cons c.dooming
      (cons c.cap (cons c.slot (cons (eq-eqb (length l.book.arrivals) destroy_spread_drains eight) (cons c.arrivals (cons c.since nil)))))))))))))

  few_popped : counts_fit l ≡ true → l.pool.popped ≤ 1
  unfolding counts_fit
  few_popped e = leb-true _ _ (passed _ e 3)

  -- ---- what forms a pool passes the parts

  module _ (few : l.pool.popped ≤ 1) (mark : mark_fits l ≡ true) (c : Conditions l) where
    to_numbers : numbers_of l ≡ true
    unfolding numbers_fit mark_fits
    to_numbers =
        let k = length_listed (doomed_read l) 0 l.pool.doomed in
        let s = leb-true l.pool.since (length (listed (doomed_read l) 0 l.pool.doomed)) c.since in
        pass_all _ (cons c.trackings (cons c.cap (cons c.slot (cons mark (cons (le-leb l.pool.since l.pool.doomed (omega (arith, s, k))) (cons c.arrivals nil))))))

    to_queue : retiring_fit (version_places l) l.pool.head (l.pool.popped + l.pool.queued) l.retiring ≡ true
    unfolding retiring_fit retiring_at retiring_read
    to_queue = hand_test l l.pool.popped l.pool.queued few ∙ ap₂ (λ (a b : Bool). a && b) c.hand c.queue

    to_doomed : doomed_fit (version_places l) l.pool.first l.pool.doomed l.pool.dooming l.doomed ≡ true
    unfolding doomed_fit doomed_at doomed_read
    to_doomed = pass_all _ (cons c.doomed (cons c.dooming nil))

    to_rings : rings_of l ≡ true
    unfolding rings_fit
    to_rings = pass_all _ (cons to_queue (cons to_doomed nil))

    module _ (runs : runs_fit l ≡ true) (starts : starts_hold l ≡ true) (tilings : tilings_fit l ≡ true) (bytes : bytes_fit l ≡ true) where
      -- every record's bytes and tilings
      to_holds : all (record_holds l) ts ≡ true
      unfolding bytes_fit tilings_fit
      to_holds = records_hold l ts ∙ ap₂ (λ (a b : Bool). a && b) bytes tilings

      -- every record passes, every grid of its history with its tiling, and every spare
      to_records : all is_record ts && (all (history_holds l.newest l.stamps) ts && all is_spare (listed (model_spare_at l.spares) 0 (total record_spares ts))) ≡ true
      to_records = sym (states_test l 0 ts) ∙ ap₂ (λ (a b : Bool). a && b) c.states to_holds

      to_histories : histories_of l ≡ true
      unfolding runs_fit
      to_histories =
          walks l.newest l.stamps l.pool.grids l.pool.stamps 0 0 ts (record {
            grid_starts = grid_starts l starts;
            stamp_starts = stamp_starts l starts;
            grid_sum = zero-add (total record_grids ts) ∙ eqb-true (total record_grids ts) l.pool.grids (passed _ runs 1);
            stamp_sum = zero-add (total record_stamps ts) ∙ eqb-true (total record_stamps ts) l.pool.stamps (passed _ runs 2);
            holds = (and_both (all (history_holds l.newest l.stamps) ts) _ (and_both (all is_record ts) _ to_records).1).0;
          })

      to_textures : textures_of l ≡ true
      unfolding textures_fit
      to_textures =
          let q = and_both (all is_record ts) _ to_records in
          let r = and_both (all (history_holds l.newest l.stamps) ts) _ q.1 in
          pass_all _
          (cons (sym (states_ids l 0 ts) ∙ c.ids)
          (cons q.0
          (cons (eq-eqb l.pool.kept (total record_spares ts) (sym (kept runs)))
          (cons (ap (λ (n : ℕ). all is_spare (listed (model_spare_at l.spares) 0 n)) (sym (kept runs)) ∙ r.1)
          (cons (ap (eqb l.pool.parked) (sym (states_bytes l 0 ts)) ∙ c.parked) (cons to_histories nil))))))

  -- ---- and what passes them forms a pool

  module _ (few : l.pool.popped ≤ 1) (n : numbers_of l ≡ true) (r : rings_of l ≡ true) (t : textures_of l ≡ true) where
    from_queue : is_hand (hand_read l l.pool.popped) && all is_retiring (listed (retiring_read l) l.pool.popped l.pool.queued) ≡ true
    unfolding rings_fit retiring_fit retiring_at retiring_read
    from_queue = sym (hand_test l l.pool.popped l.pool.queued few) ∙ passed _ r 0

    from_doomed : doomed_fit (version_places l) l.pool.first l.pool.doomed l.pool.dooming l.doomed ≡ true
    unfolding rings_fit
    from_doomed = passed _ r 1

    from_kept : l.pool.kept ≡ total record_spares ts
    unfolding textures_fit
    from_kept = eqb-true l.pool.kept (total record_spares ts) (passed _ t 2)

    from_histories : Walked l.newest l.stamps l.pool.grids l.pool.stamps 0 0 ts
    unfolding textures_fit
    from_histories = walked l.newest l.stamps l.pool.grids l.pool.stamps 0 0 ts (passed _ t 5)

    from_runs : runs_fit l ≡ true
    unfolding runs_fit
    from_runs =
        let w = from_histories in
        pass_all _
        (cons (eq-eqb (total record_spares ts) l.pool.kept (sym from_kept))
        (cons (eq-eqb (total record_grids ts) l.pool.grids (sym (zero-add (total record_grids ts)) ∙ w.grid_sum))
        (cons (eq-eqb (total record_stamps ts) l.pool.stamps (sym (zero-add (total record_stamps ts)) ∙ w.stamp_sum)) nil)))

    from_starts : starts_hold l ≡ true
    unfolding starts_hold
    from_starts = ap₂ (λ (a b : Bool). a && b) from_histories.grid_starts from_histories.stamp_starts

    from_records : all is_state (states_read l 0 ts) && all (record_holds l) ts ≡ true
    unfolding textures_fit
    from_records =
        states_test l 0 ts
        ∙ ap₂ (λ (a b : Bool). a && b) (passed _ t 1)
        (ap₂ (λ (a b : Bool). a && b) from_histories.holds (ap (λ (n : ℕ). all is_spare (listed (model_spare_at l.spares) 0 n)) (kept from_runs) ∙ passed _ t 3))

    from_states : all is_state (states_read l 0 ts) ≡ true
    from_states = (and_both (all is_state (states_read l 0 ts)) (all (record_holds l) ts) from_records).0

    from_holds : all bytes_hold ts && all (tilings_hold l) ts ≡ true
    from_holds = sym (records_hold l ts) ∙ (and_both (all is_state (states_read l 0 ts)) (all (record_holds l) ts) from_records).1

    from_bytes : bytes_fit l ≡ true
    unfolding bytes_fit
    from_bytes = (and_both (all bytes_hold ts) (all (tilings_hold l) ts) from_holds).0

    from_tilings : tilings_fit l ≡ true
    unfolding tilings_fit
    from_tilings = (and_both (all bytes_hold ts) (all (tilings_hold l) ts) from_holds).1

    from_mark : mark_fits l ≡ true
    unfolding numbers_fit mark_fits
    from_mark = passed _ n 3

    from_parts : Conditions l
    unfolding numbers_fit doomed_fit doomed_at doomed_read textures_fit
    from_parts =
        let q = and_both (is_hand (hand_read l l.pool.popped)) _ from_queue in
        let s = leb-true l.pool.since l.pool.doomed (passed _ n 4) in
        let k = length_listed (doomed_read l) 0 l.pool.doomed in
        record {
          ids = states_ids l 0 ts ∙ passed _ t 0;
          states = from_states;
          queue = q.1;
          hand = q.0;
          doomed = passed _ from_doomed 0;
          trackings = passed _ n 0;
          parked = ap (eqb l.pool.parked) (states_bytes l 0 ts) ∙ passed _ t 4;
          dooming = passed _ from_doomed 1;
          cap = passed _ n 1;
          slot = passed _ n 2;
          arrivals = passed _ n 5;
          since = le-leb l.pool.since (length (listed (doomed_read l) 0 l.pool.doomed)) (omega (arith, s, k));
        }

  -- ---- together

  pub pool_parts : length l.book.arrivals ≡ destroy_spread_drains → is_pool l ≡ tests (parts_of l)
  unfolding is_pool
  pool_parts eight =
      same_test (is_pool l) (tests (parts_of l))
      (λ e.
      let f = few_popped (passed _ e 1) in
      let m = passed _ e 6 in
      let c = conditions (passed _ e 7) in
      let u = to_textures f m c (passed _ e 2) (passed _ e 3) (passed _ e 4) (passed _ e 5) in
      pass_all _ (cons (passed _ e 0) (cons (passed _ e 1) (cons (to_numbers f m c) (cons (to_rings f m c) (cons u nil))))))
      (λ e.
      let f = few_popped (passed _ e 1) in
      let n = passed _ e 2 in
      let r = passed _ e 3 in
      let t = passed _ e 4 in
      pass_all _ (cons (passed _ e 0) (cons (passed _ e 1) (cons (from_runs f n r t)
      (cons (from_starts f n r t) (cons (from_tilings f n r t)
      (cons (from_bytes f n r t) (cons (from_mark f n r t) (cons (formed eight (from_parts f n r t)) nil)))))))))

  -- where all but the last pass, the last decides
  pub last_part : length l.book.arrivals ≡ destroy_spread_drains → sizes_fit l ≡ true → counts_fit l ≡ true → numbers_of l ≡ true → rings_of l ≡ true → textures_of l ≡ is_pool l
  unfolding tests after
  last_part eight s c n r = sym (pool_parts eight ∙ rw (s, c, n, r))

-- ---- what the sizes and counts that passed say

pub record SizesFit (l : Lent) : Type 0 where
  pub versions : version_places l ≤ most_places
  pub textures : length l.textures ≡ texture_stride * (length l.textures / texture_stride)
  pub retiring : length l.retiring ≡ retiring_stride * version_places l
  pub doomed : length l.doomed ≡ doomed_stride * version_places l
  pub spares : length l.spares ≡ spare_stride * version_places l

places_versions : (p : Places) → are_places p ≡ true → p.versions ≤ most_places
unfolding are_places
places_versions p e = leb-true _ _ (passed _ e 3)

pub sizes : (l : Lent) → sizes_fit l ≡ true → SizesFit l
unfolding sizes_fit model_of
sizes l e = record {
  versions = places_versions _ (passed _ e 0);
  textures = eqb-true _ _ (passed _ e 1);
  retiring = eqb-true _ _ (passed _ e 2);
  doomed = eqb-true _ _ (passed _ e 3);
  spares = eqb-true _ _ (passed _ e 4);
}

pub record CountsFit (l : Lent) : Type 0 where
  pub tracked : l.pool.tracked ≤ length l.textures / texture_stride
  pub head : l.pool.head < version_places l
  pub first : l.pool.first < version_places l
  pub used : l.pool.queued + l.pool.popped + l.pool.kept + l.pool.doomed ≤ version_places l
  pub grids : l.pool.grids ≤ length l.newest
  pub stamps : l.pool.stamps ≤ length l.stamps

pub counts : (l : Lent) → counts_fit l ≡ true → CountsFit l
unfolding counts_fit model_of
counts l e = record {
  tracked = leb-true _ _ (passed _ e 0);
  head = ltb-true _ _ (passed _ e 1);
  first = ltb-true _ _ (passed _ e 2);
  used = leb-true _ _ (passed _ e 4);
  grids = leb-true _ _ (passed _ e 5);
  stamps = leb-true _ _ (passed _ e 6);
}

module _ (l : Lent) (s : sizes_fit l ≡ true) where
  pub few_versions : length l.retiring / retiring_stride ≤ most_places
  unfolding version_places
  few_versions = (sizes l s).versions

  module _ (p : places_hold l.pool (length l.textures / texture_stride) (length l.retiring / retiring_stride) (length l.newest) (length l.stamps) ≡ true) where
    counted : CountsFit l
    counted = counts l (counts_places l ∙ p)

    pub rings_room : (retiring_stride * (length l.retiring / retiring_stride) ≤ length l.retiring) × (doomed_stride * (length l.retiring / retiring_stride) ≤ length l.doomed) × (length l.retiring / retiring_stride ≤ most_places)
        × (l.pool.head < length l.retiring / retiring_stride) × (l.pool.first < length l.retiring / retiring_stride)
        × (l.pool.popped + l.pool.queued ≤ length l.retiring / retiring_stride) × (l.pool.doomed ≤ length l.retiring / retiring_stride)
    unfolding version_places
    rings_room =
        let z = sizes l s in
        (omega (arith, z.retiring), omega (arith, z.doomed), few_versions, counted.head, counted.first, omega (arith, counted.used), omega (arith, counted.used))

    pub textures_room : (texture_stride * l.pool.tracked ≤ length l.textures) × (spare_stride * l.pool.kept ≤ length l.spares) × (l.pool.kept ≤ most_places)
        × (l.pool.grids ≤ length l.newest) × (l.pool.stamps ≤ length l.stamps)
    textures_room =
        let z = sizes l s in (
          omega (arith, z.textures, counted.tracked),
          omega (arith, z.spares, counted.used),
          omega (arith, z.versions, counted.used),
          counted.grids,
          counted.stamps,
        )
