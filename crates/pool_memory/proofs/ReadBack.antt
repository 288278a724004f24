-- What was written back is what is read, and it forms a pool again. Assumes nothing.
use mathlib.Core.Path.{◌≡◌, refl, sym, ap, ap₂, ◌∙◌, subst}
use mathlib.Core.Bool.{Bool, true, false, ◌&&◌}
use mathlib.Core.Option.{Option, none, some}
use mathlib.Core.List.{List, ◌++◌, map}
use Prim.Native.Nat.{ℕ, ◌+◌, ◌-◌, ◌*◌, ◌/◌, ◌≤◌, ◌<◌, min}
use native.Mathlib.Omega.{arith}
use lib.Dec.{eqb}
use lib.ListN.{length, length-map}
use Rattle.base_blocks.specs.Lists.{listed, over, all, total}
use Rattle.base_blocks.proofs.Lists.{length_over}
use Rattle.base_tables.specs.Records.{flat}
use Rattle.base_tables.specs.Rings.{laid}
use Rattle.base_tables.proofs.Records.{length_flat, reread}
use Rattle.base_tables.proofs.Rings.{place_in, length_laid}
use Rattle.base_unequal.specs.Unequal.{starts_fit}
use Rattle.pool_rules.specs.Model.{Retiring, VersionState, Places, PoolModel, hand_count, versions_used}
use Rattle.pool_rules.specs.Open.{are_places}
use Rattle.pool_rules.specs.HistorySizes.{newest_used, stamps_used}
use Rattle.pool_rules.specs.Formed.{Formed}
use Rattle.pool_rules.proofs.HistorySizes.{newest_room}
use Rattle.pool_records.specs.declared.texture.TextureRecord.{TextureRecord}
use Rattle.pool_records.specs.Texture.{write_texture, record_grids, record_stamps}
use Rattle.pool_records.specs.Spare.{write_spare}
use Rattle.pool_records.specs.Retiring.{write_retiring}
use Rattle.pool_records.specs.Doomed.{write_doomed}
use Rattle.pool_records.specs.Codecs.{texture_codec, spare_codec}
use Rattle.pool_memory.specs.Lent.{Lent, version_places}
use Rattle.pool_memory.specs.Reading.{tracked_records, states_read, retiring_read, hand_read, doomed_read, model_of}
use Rattle.pool_memory.specs.Writing.{texture_records, spare_record, retiring_record, doomed_record, textures_after, every_spare, spares_after, newest_after, stamps_after, head_after, hand_list, retiring_after, first_after, doomed_after, pool_after, mark_of, pacing_after, lent_after}
use Rattle.pool_memory.specs.IsPool.{starts_hold, tilings_hold, tilings_fit, bytes_hold, bytes_fit, is_pool}
use Rattle.pool_memory.proofs.Fits.{Fits}
use Rattle.pool_memory.proofs.FromPool.{version_places_lem}
use Rattle.pool_memory.proofs.Runs.{first_grid_in, first_stamp_in}
use Rattle.pool_memory.proofs.ToPool.{fits_pool}
use Rattle.pool_memory.proofs.ReadStates.{states_back, tilings_recorded, length_every_spare, length_newests, length_stamps, length_recorded, kept_recorded, grids_recorded, stamps_recorded, bytes_recorded, grid_starts_recorded, stamp_starts_recorded}
use Rattle.pool_memory.proofs.ReadRings.{hand_back, queue_back, doomed_back}
use Rattle.grid_stamps.specs.StampConstants.{page_stamps}
use Rattle.pool_records.specs.RecordConstants.{doomed_stride, retiring_stride, spare_stride, texture_stride}
use Rattle.pool_rules.specs.RuleConstants.{grid_stride, most_grids}

-- one version at most in the hand, and a mark is 0 or 1, whatever they are read back from
hand_few : (o : Option (Retiring ℕ)) → hand_count o ≤ 1
hand_few none = omega arith
hand_few (some v) = omega arith

mark_few : (b : Bool) → mark_of b ≤ 1
mark_few true = omega arith
mark_few false = omega arith

mark_back : (b : Bool) → eqb (mark_of b) 1 ≡ b
mark_back true = refl
mark_back false = refl

module _ (l : Lent) (p : PoolModel ℕ) (fits : Fits l) (formed : Formed p) (same : p.places ≡ (model_of l).places) where
  -- ---- the pool has room in the slices

  texture_room : length p.textures ≤ (model_of l).places.textures
  texture_room = omega (arith, formed.places, ap (λ (n : Places). n.textures) same)

  version_room : versions_used p ≤ version_places l
  version_room = omega (arith, formed.versions, ap (λ (n : Places). n.versions) same, version_places_lem l)

  stamp_room : total stamps_used p.textures ≤ length l.stamps
  stamp_room = omega (arith, formed.stamps, ap (λ (n : Places). n.pages) same, fits.stamps)

  -- `newest` is as long as the places of textures and the stamps let it be used
  grid_room : total newest_used p.textures ≤ length l.newest
  grid_room =
      newest_room p.textures formed.textures (model_of l).places.textures (length l.stamps) (length l.newest) texture_room stamp_room fits.newest

  -- ---- the slices keep their lengths

  length_textures : length (flat write_texture (texture_records 0 0 p.textures)) ≡ texture_stride * length p.textures
  length_textures =
      length_flat texture_codec (texture_records 0 0 p.textures) ∙ ap (λ (n : ℕ). texture_stride * n) (length_recorded 0 0 p.textures)

  textures_kept : length (textures_after p l) ≡ length l.textures
  unfolding textures_after
  textures_kept = length_over _ l.textures (omega (arith, length_textures, fits.textures, texture_room))

  length_spares : length (flat write_spare (map spare_record (every_spare p.textures)))
      ≡ spare_stride * total (λ (t : VersionState ℕ). length t.spares) p.textures
  length_spares =
      length_flat spare_codec (map spare_record (every_spare p.textures))
      ∙ ap (λ (n : ℕ). spare_stride * n) (length-map (every_spare p.textures) spare_record ∙ length_every_spare p.textures)

  spares_kept : length (spares_after p l) ≡ length l.spares
  unfolding spares_after
  spares_kept = length_over _ l.spares (omega (arith, length_spares, fits.spares, version_room))

  newest_kept : length (newest_after p l) ≡ length l.newest
  unfolding newest_after
  newest_kept = length_over _ l.newest (omega (arith, length_newests p.textures formed.textures, grid_room))

  stamps_kept : length (stamps_after p l) ≡ length l.stamps
  unfolding stamps_after
  stamps_kept = length_over _ l.stamps (omega (arith, length_stamps p.textures formed.textures, stamp_room))

  retiring_kept : length (retiring_after p l) ≡ length l.retiring
  unfolding retiring_after
  retiring_kept = length_laid retiring_stride write_retiring (version_places l) (head_after p l) (map retiring_record (hand_list p.hand ++ p.retiring)) 0 l.retiring

  doomed_kept : length (doomed_after p l) ≡ length l.doomed
  unfolding doomed_after
  doomed_kept = length_laid doomed_stride write_doomed (version_places l) (first_after p l) (map doomed_record p.doomed) 0 l.doomed

  versions_kept : version_places (lent_after p l) ≡ version_places l
  unfolding version_places lent_after
  versions_kept = ap (λ (n : ℕ). n / retiring_stride) retiring_kept

  pub places_kept : (model_of (lent_after p l)).places ≡ (model_of l).places
  unfolding model_of lent_after
  places_kept = λ i. record { textures = textures_kept i / texture_stride; versions = versions_kept i; pages = stamps_kept i / page_stamps }

  -- ---- both rings begin inside their places

  head_in : head_after p l < version_places l
  unfolding head_after
  head_in = place_in (version_places l) l.pool.head (l.pool.popped - hand_count p.hand) fits.head (omega (arith, fits.versions))

  first_in : first_after p l < version_places l
  unfolding first_after
  first_in = place_in (version_places l) l.pool.first (l.pool.doomed - length p.doomed) fits.first (omega (arith, fits.versions))

  -- ---- each part is read back

  records_back : tracked_records (lent_after p l) ≡ texture_records 0 0 p.textures
  unfolding lent_after pool_after textures_after
  records_back = reread texture_codec (texture_records 0 0 p.textures) (length p.textures) l.textures (length_recorded 0 0 p.textures)

  textures_back : states_read (lent_after p l) 0 (texture_records 0 0 p.textures) ≡ p.textures
  unfolding lent_after spares_after newest_after stamps_after over
  textures_back = states_back (lent_after p l) 0 0 0 p.textures formed.textures _ _ _ refl refl refl

  ring_laid_back : (lent_after p l).retiring
      ≡ laid retiring_stride write_retiring (version_places (lent_after p l)) (lent_after p l).pool.head 0 (map retiring_record (hand_list p.hand ++ p.retiring)) l.retiring
  unfolding lent_after pool_after retiring_after
  ring_laid_back =
      ap (λ (n : ℕ). laid retiring_stride write_retiring n (head_after p l) 0 (map retiring_record (hand_list p.hand ++ p.retiring)) l.retiring) (sym versions_kept)

  ring_room : retiring_stride * version_places (lent_after p l) ≤ length l.retiring
  ring_room = omega (arith, versions_kept, fits.retiring)

  ring_head : (lent_after p l).pool.head < version_places (lent_after p l)
  unfolding lent_after pool_after
  ring_head = omega (arith, head_in, versions_kept)

  waiting_room : length p.retiring + hand_count p.hand ≤ version_places (lent_after p l)
  waiting_room = omega (arith, version_room, versions_kept)

  hand_read_back : hand_read (lent_after p l) (hand_count p.hand) ≡ p.hand
  hand_read_back = hand_back (lent_after p l) l.retiring ring_room ring_head p.hand p.retiring waiting_room ring_laid_back

  queue_read_back : listed (retiring_read (lent_after p l)) (hand_count p.hand) (length p.retiring) ≡ p.retiring
  queue_read_back = queue_back (lent_after p l) l.retiring ring_room ring_head p.hand p.retiring waiting_room ring_laid_back

  destroy_laid_back : (lent_after p l).doomed
      ≡ laid doomed_stride write_doomed (version_places (lent_after p l)) (lent_after p l).pool.first 0 (map doomed_record p.doomed) l.doomed
  unfolding lent_after pool_after doomed_after
  destroy_laid_back = ap (λ (n : ℕ). laid doomed_stride write_doomed n (first_after p l) 0 (map doomed_record p.doomed) l.doomed) (sym versions_kept)

  ring_first : (lent_after p l).pool.first < version_places (lent_after p l)
  unfolding lent_after pool_after
  ring_first = omega (arith, first_in, versions_kept)

  doomed_read_back : listed (doomed_read (lent_after p l)) 0 (length p.doomed) ≡ p.doomed
  doomed_read_back =
      doomed_back (lent_after p l) l.doomed (omega (arith, versions_kept, fits.doomed)) ring_first p.doomed
      (omega (arith, version_room, versions_kept)) destroy_laid_back

  -- ---- the whole pool

  states_read_back : states_read (lent_after p l) 0 (tracked_records (lent_after p l)) ≡ p.textures
  states_read_back = ap (states_read (lent_after p l) 0) records_back ∙ textures_back

  places_read_back : (model_of (lent_after p l)).places ≡ p.places
  places_read_back = places_kept ∙ sym same

  pub read_back : model_of (lent_after p l) ≡ p
  unfolding model_of lent_after pool_after pacing_after
  read_back = λ i. record {
    textures = states_read_back i;
    retiring = queue_read_back i;
    hand = hand_read_back i;
    doomed = doomed_read_back i;
    since = p.since;
    trackings = p.trackings;
    parked = p.parked;
    dooming = p.dooming;
    places = places_read_back i;
    budget = p.budget;
    pacing = record {
      arrivals = p.pacing.arrivals;
      slot = p.pacing.slot;
      pressed = mark_back p.pacing.pressed i;
      excess = p.pacing.excess;
    };
  }

  -- ---- and it fits

  bytes_back : bytes_fit (lent_after p l) ≡ true
  unfolding bytes_fit
  bytes_back = ap (all bytes_hold) records_back ∙ bytes_recorded 0 0 p.textures

  starts_back : starts_hold (lent_after p l) ≡ true
  unfolding starts_hold
  starts_back =
      ap (λ (ts : List TextureRecord). starts_fit record_grids first_grid_in 0 ts && starts_fit record_stamps first_stamp_in 0 ts) records_back
      ∙ ap₂ (λ (a b : Bool). a && b) (grid_starts_recorded 0 0 p.textures) (stamp_starts_recorded 0 0 p.textures)

  tilings_fit_lem : tilings_fit (lent_after p l) ≡ true
  unfolding tilings_fit lent_after newest_after over
  tilings_fit_lem =
      ap (all (tilings_hold (lent_after p l))) records_back ∙ tilings_recorded (lent_after p l) 0 0 p.textures formed.textures _ refl

  pub after_fits : Fits (lent_after p l)
  unfolding lent_after pool_after pacing_after
  after_fits = record {
    places = ap are_places places_kept ∙ fits.places;
    textures = ap (λ (n : Places). texture_stride * n.textures) places_kept ∙ fits.textures ∙ sym textures_kept;
    retiring = ap (λ (n : ℕ). retiring_stride * n) versions_kept ∙ fits.retiring ∙ sym retiring_kept;
    doomed = ap (λ (n : ℕ). doomed_stride * n) versions_kept ∙ fits.doomed ∙ sym doomed_kept;
    spares = ap (λ (n : ℕ). spare_stride * n) versions_kept ∙ fits.spares ∙ sym spares_kept;
    stamps = ap (λ (n : Places). page_stamps * n.pages) places_kept ∙ fits.stamps ∙ sym stamps_kept;
    newest =
        newest_kept ∙ fits.newest
        ∙ ap₂ (λ (n : Places) (k : ℕ). grid_stride * min (most_grids * n.textures) k) (sym places_kept) (sym stamps_kept);
    least = omega (arith, fits.least, versions_kept);
    most = omega (arith, fits.most, versions_kept);
    most_pages_lem = omega (arith, fits.most_pages_lem, ap (λ (n : Places). n.pages) places_kept);
    tracked = omega (arith, texture_room, ap (λ (n : Places). n.textures) places_kept);
    head = ring_head;
    first = ring_first;
    hand = hand_few p.hand;
    versions = omega (arith, version_room, versions_kept);
    grids = omega (arith, grid_room, newest_kept);
    stamps_counted = omega (arith, stamp_room, stamps_kept);
    kept = ap (total (λ (t : TextureRecord). t.spares)) records_back ∙ kept_recorded 0 0 p.textures;
    claimed = ap (total record_grids) records_back ∙ grids_recorded 0 0 p.textures;
    stamps_claimed = ap (total record_stamps) records_back ∙ stamps_recorded 0 0 p.textures;
    starts = starts_back;
    tilings = tilings_fit_lem;
    bytes = bytes_back;
    mark = mark_few p.pacing.pressed;
    formed = subst (λ (q : PoolModel ℕ). Formed q) (sym read_back) formed;
  }

  pub after_pool : is_pool (lent_after p l) ≡ true
  after_pool = fits_pool (lent_after p l) after_fits
