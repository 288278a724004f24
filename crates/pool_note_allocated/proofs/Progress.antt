-- The loop over the textures: how far relief has come when the first i textures have given, and a turn of it. Assumes nothing.
use mathlib.Core.Path.{◌≡◌, refl, sym, ap, ap₂, subst, ◌∙◌}
use mathlib.Core.List.{List, map, flat_map}
use Prim.Native.Nat.{ℕ, suc, ◌+◌, ◌-◌, ◌*◌, ◌≤◌, ◌<◌, ◌^◌}
use native.Mathlib.Numerals.{add-one}
use native.Mathlib.Omega.{arith}
use lib.ListN.{length, take, set}
use Rattle.base_blocks.specs.Lists.{over, total}
use Rattle.base_blocks.specs.Blocks.{moved}
use Rattle.base_blocks.proofs.Listed.{listed_same}
use Rattle.base_tables.specs.Records.{flat}
use Rattle.base_tables.specs.Rings.{laid}
use Rattle.grid_shapes.specs.Shapes.{bytes_of}
use Rattle.pool_rules.specs.Model.{VersionState, spare_bytes, doomed_bytes}
use Rattle.pool_rules.proofs.Moves.{lessened, given, given_bytes}
use Rattle.pool_rules.proofs.Lists.{total_cut}
use Rattle.pool_records.specs.declared.texture.TextureRecord.{TextureRecord}
use Rattle.pool_records.specs.declared.spare.SpareRecord.{SpareRecord}
use Rattle.pool_records.specs.Texture.{write_texture, texture_in}
use Rattle.pool_records.specs.Spare.{write_spare}
use Rattle.pool_records.specs.Doomed.{write_doomed}
use Rattle.pool_memory.specs.Lent.{Lent, version_places}
use Rattle.pool_memory.specs.Reading.{tracked_records, model_of}
use Rattle.pool_memory.specs.Writing.{texture_records, spare_record, doomed_record, every_spare, textures_after, doomed_after, spares_after, pool_after}
use Rattle.pool_memory.proofs.Fits.{Fits}
use Rattle.pool_memory.proofs.Rings.{doomed_pushed}
use Rattle.pool_memory.proofs.Runs.{spares_of, spare_count, first_spare, state_of}
use Rattle.pool_memory.proofs.Stays.{textures_fit_lem, doomed_fit_lem}
use Rattle.pool_take_doomed.specs.Given.{given_records}
use Rattle.pool_relief_line.specs.Line.{IsLine, taken_at, gives}
use Rattle.pool_relief_line.specs.Parked.{parked_at, parkings, bytes_from, HasBytes}
use Rattle.pool_note_allocated.specs.NoteAllocated.{relieved_pool, spares_given, Relieves}
use Rattle.pool_note_allocated.proofs.Thinned.{first_next, textures_to, spares_to, doomed_to, kept_to, bytes_to, textures_next, record_next, kept_most, kept_next, spares_next, spare_next, doomed_next, bytes_next, none_given, none_counted, all_given}
use Rattle.pool_note_allocated.proofs.Chosen.{share, freed_to, countable, share_gives, share_most, freed_next, freed_fits}
use Rattle.pool_records.specs.RecordConstants.{doomed_stride, spare_stride, texture_spares_at, texture_stride}

-- the numbers and slices as they are when the first i textures have given what was picked of them
pub record Progress (l : Lent) (excess line i from kept bytes sum : ℕ) (textures doomed spares : List ℕ) : Type 0 where
  pub most : i ≤ l.pool.tracked
  pub first : from ≡ first_spare l i
  pub packed : kept ≡ kept_to l (share l excess) i
  pub given : bytes ≡ bytes_to l (share l excess) i
  pub freed : sum ≡ freed_to l excess line i
  pub records : textures ≡ textures_to l (share l excess) i
  pub ring : doomed ≡ doomed_to l (share l excess) i
  pub runs : spares ≡ spares_to l (share l excess) i
  pub textured : length textures ≡ length l.textures
  pub ringed : length doomed ≡ length l.doomed
  pub run : length spares ≡ length l.spares

module _ (l : Lent) (excess line : ℕ) where
  first_none : first_spare l 0 ≡ 0
  unfolding first_spare total
  first_none = refl

  -- at the start
  pub progress_start : (sum : ℕ) → sum ≡ freed_to l excess line 0 → Progress l excess line 0 0 0 0 sum l.textures l.doomed l.spares
  progress_start sum e = record {
    most = omega arith;
    first = sym first_none;
    packed = sym (none_counted l (share l excess)).0;
    given = sym (none_counted l (share l excess)).1;
    freed = e;
    records = sym (none_given l (share l excess)).0;
    ring = sym (none_given l (share l excess)).1.1;
    runs = sym (none_given l (share l excess)).1.0;
    textured = refl;
    ringed = refl;
    run = refl;
  }

  module _ (f : Fits l) (L : IsLine l.pool.dooming excess (λ n. bytes_from l.spares n 0 (tracked_records l)) line)
      {i from kept bytes sum : ℕ} {textures doomed spares : List ℕ} (p : Progress l excess line i from kept bytes sum textures doomed spares)
      (h : i < l.pool.tracked) where
    abbrev here : TextureRecord
    here = texture_in textures i

    -- the record that is read is the one that stood there
    same_record : here ≡ texture_in l.textures i
    same_record = ap (λ (s : List ℕ). texture_in s i) p.records ∙ record_next l (share l excess) i p.most

    within : first_spare l i + (texture_in l.textures i).spares ≤ l.pool.kept
    unfolding first_spare
    within = omega (arith, first_next l i h, total_cut spares_of (suc i) (tracked_records l), f.kept)

    -- what a turn asks for
    pub turn_needs : (texture_stride * i + texture_stride ≤ length textures) × HasBytes here × (doomed_stride * version_places l ≤ length doomed) × (l.pool.first < version_places l)
        × (l.pool.doomed + (from - kept) + here.spares ≤ version_places l) × (spare_stride * (from + here.spares) ≤ length spares) × (kept ≤ from)
        × (sum + bytes_of here.shape * here.spares < 2 ^ 64)
    turn_needs =
        let r = same_record in
        let c = ap (λ (t : TextureRecord). t.spares) r in (
          omega (arith, textures_fit_lem l f, p.textured, h),
          subst HasBytes (sym r) ((countable l f).recorded i h),
          omega (arith, f.doomed, p.ringed),
          f.first,
          omega (arith, within, c, p.first, f.versions),
          omega (arith, within, c, p.first, f.versions, f.spares, p.run),
          omega (arith, p.first, p.packed, kept_most l (share l excess) i),
          omega (arith, ap (λ (t : TextureRecord). bytes_of t.shape * t.spares) r, p.freed, freed_fits l f excess line L i h),
        )

    -- the parking numbers that are read are those that stood there
    same_parkings : (n : ℕ) → parkings spares from n ≡ parkings l.spares (first_spare l i) n
    unfolding parkings parked_at
    same_parkings n =
        ap₂ (λ (s : List ℕ) (at : ℕ). parkings s at n) p.runs p.first
        ∙ listed_same (parked_at (spares_to l (share l excess) i)) (parked_at l.spares) n (first_spare l i) (first_spare l i)
        (λ j q. ap (λ (x : SpareRecord). x.parked) (spare_next l (share l excess) i (first_spare l i + j) (omega arith)))

    -- a turn
    module _ {n count given freed : ℕ} {textures' doomed' spares' : List ℕ} (had : n ≡ here.spares)
        (gave : count ≡ gives sum excess (bytes_of here.shape) line (parkings spares from n)) (bytes-given : given ≡ bytes_of here.shape * count)
        (freed-by : freed ≡ sum + bytes_of here.shape * taken_at sum excess (bytes_of here.shape) line (parkings spares from n))
        (t : textures' ≡ set textures (texture_stride * i + texture_spares_at) (n - count))
        (d : doomed' ≡ laid doomed_stride write_doomed (version_places l) l.pool.first (l.pool.doomed + (from - kept)) (given_records spares (bytes_of here.shape) from count) doomed)
        (s : spares' ≡ moved spares (spare_stride * kept) (spare_stride * (from + count)) (spare_stride * (n - count)))
        (long-t : length textures' ≡ length textures) (long-d : length doomed' ≡ length doomed) (long-s : length spares' ≡ length spares) where
      abbrev k : VersionState ℕ → ℕ
      k = share l excess

      abbrev stood : TextureRecord
      stood = texture_in l.textures i

      had_stood : n ≡ stood.spares
      had_stood = had ∙ ap (λ (r : TextureRecord). r.spares) same_record

      shape_stood : bytes_of here.shape ≡ bytes_of stood.shape
      shape_stood = ap (λ (r : TextureRecord). bytes_of r.shape) same_record

      numbers_stood : parkings spares from n ≡ parkings l.spares (first_spare l i) stood.spares
      numbers_stood = same_parkings n ∙ ap (parkings l.spares (first_spare l i)) had_stood

      count_share : count ≡ k (state_of l i)
      count_share =
          gave ∙ ap₂ (λ (b : ℕ) (ps : List ℕ). gives sum excess b line ps) shape_stood numbers_stood
          ∙ ap (λ (m : ℕ). gives m excess (bytes_of stood.shape) line (parkings l.spares (first_spare l i) stood.spares)) p.freed
          ∙ share_gives l f excess line L i h

      le : k (state_of l i) ≤ stood.spares
      le = share_most l f excess line L i h

      ring_turn : laid doomed_stride write_doomed (version_places l) l.pool.first (l.pool.doomed + (from - kept)) (given_records spares (bytes_of here.shape) from count) doomed
          ≡ doomed_to l k (suc i)
      ring_turn =
          let place : ℕ → List ℕ → ℕ → ℕ → ℕ → List ℕ → List ℕ =
          λ m ss b x c ds. laid doomed_stride write_doomed (version_places l) l.pool.first (l.pool.doomed + m) (given_records ss b x c) ds in
          ap₂ (λ (x y : ℕ). place (x - y) spares (bytes_of here.shape) from count doomed) p.first p.packed
          ∙ ap₂ (λ (ss : List ℕ) (b : ℕ). place (first_spare l i - kept_to l k i) ss b from count doomed) p.runs shape_stood
          ∙ ap₂ (λ (x c : ℕ). place (first_spare l i - kept_to l k i) (spares_to l k i) (bytes_of stood.shape) x c doomed) p.first count_share
          ∙ ap (place (first_spare l i - kept_to l k i) (spares_to l k i) (bytes_of stood.shape) (first_spare l i) (k (state_of l i))) p.ring
          ∙ doomed_next l k i h le

      runs_turn : moved spares (spare_stride * kept) (spare_stride * (from + count)) (spare_stride * (n - count)) ≡ spares_to l k (suc i)
      runs_turn =
          ap₂ (λ (ss : List ℕ) (x : ℕ). moved ss (spare_stride * x) (spare_stride * (from + count)) (spare_stride * (n - count))) p.runs p.packed
          ∙ ap₂ (λ (x c : ℕ). moved (spares_to l k i) (spare_stride * kept_to l k i) (spare_stride * (x + c)) (spare_stride * (n - count))) p.first count_share
          ∙ ap₂ (λ (m c : ℕ). moved (spares_to l k i) (spare_stride * kept_to l k i) (spare_stride * (first_spare l i + k (state_of l i))) (spare_stride * (m - c))) had_stood count_share
          ∙ spares_next l k i h le (omega (arith, within, f.versions, f.spares))

      turn : Progress l excess line (suc i) (from + n) (kept + (n - count)) (bytes + given) freed textures' doomed' spares'
      turn = record {
        most = h;
        first = omega (arith, p.first, had_stood, first_next l i h);
        packed = ap₂ (λ (a b : ℕ). a + b) p.packed (ap₂ (λ (a b : ℕ). a - b) had_stood count_share) ∙ sym (kept_next l k i h);
        given = ap₂ (λ (a b : ℕ). a + b) p.given (bytes-given ∙ ap₂ (λ (a b : ℕ). a * b) shape_stood count_share) ∙ sym (bytes_next l k i h le);
        freed =
            freed-by ∙ ap₂ (λ (b : ℕ) (ps : List ℕ). sum + b * taken_at sum excess b line ps) shape_stood numbers_stood
            ∙ ap (λ (m : ℕ). m + bytes_of stood.shape * taken_at m excess (bytes_of stood.shape) line (parkings l.spares (first_spare l i) stood.spares)) p.freed
            ∙ freed_next l f excess line L i h;
        records = t ∙ ap₂ (λ (a : List ℕ) (v : ℕ). set a (texture_stride * i + texture_spares_at) v) p.records (ap₂ (λ (a b : ℕ). a - b) had_stood count_share) ∙ textures_next l k i h f;
        ring = d ∙ ring_turn;
        runs = s ∙ runs_turn;
        textured = long-t ∙ p.textured;
        ringed = long-d ∙ p.ringed;
        run = long-s ∙ p.run;
      }

      pub progress_turn : Progress l excess line (i + 1) (from + n) (kept + (n - count)) (bytes + given) freed textures' doomed' spares'
      progress_turn = rw (add-one i) turn

-- ---- at the end

module _ (l : Lent) (f : Fits l) (excess line : ℕ) {i from kept bytes sum : ℕ} {textures doomed spares : List ℕ}
    (p : Progress l excess line i from kept bytes sum textures doomed spares) (h : l.pool.tracked ≤ i) where
  abbrev part : VersionState ℕ → ℕ
  part = share l excess

  all_there : take i (model_of l).textures ≡ (model_of l).textures
  all_there = all_given l part i h

  kept_all : kept_to l part i ≡ (pool_after (relieved_pool excess l) l).kept
  unfolding kept_to pool_after
  kept_all = ap (λ (ts : List (VersionState ℕ)). total spare_count (map (lessened part) ts)) all_there

  bytes_all : bytes_to l part i ≡ doomed_bytes (spares_given excess l)
  unfolding bytes_to
  bytes_all = ap (λ (ts : List (VersionState ℕ)). doomed_bytes (flat_map (given part) ts)) all_there

  textures_all : textures_to l part i ≡ textures_after (relieved_pool excess l) l
  unfolding textures_to textures_after
  textures_all = ap (λ (ts : List (VersionState ℕ)). over (flat write_texture (texture_records 0 0 (map (lessened part) ts))) l.textures) all_there

  spares_all : spares_to l part i ≡ spares_after (relieved_pool excess l) l
  unfolding spares_to spares_after
  spares_all = ap (λ (ts : List (VersionState ℕ)). over (flat write_spare (map spare_record (every_spare (map (lessened part) ts)))) l.spares) all_there

  doomed_all : doomed_to l part i ≡ doomed_after (relieved_pool excess l) l
  unfolding doomed_to
  doomed_all =
      ap (λ (ts : List (VersionState ℕ)). laid doomed_stride write_doomed (version_places l) l.pool.first l.pool.doomed (map doomed_record (flat_map (given part) ts)) l.doomed) all_there
      ∙ doomed_pushed l (relieved_pool excess l) f.first (omega (arith, f.doomed)) (doomed_fit_lem l f) (spares_given excess l) refl

  pub progress_end : Relieves l excess kept bytes textures doomed spares
  progress_end = record {
    count = p.packed ∙ kept_all;
    sum = p.given ∙ bytes_all;
    records = p.records ∙ textures_all;
    ring = p.ring ∙ doomed_all;
    runs = p.runs ∙ spares_all;
  }

-- what is given is never more than what is parked
pub given_fits : (l : Lent) (f : Fits l) (excess i : ℕ) → bytes_to l (share l excess) i ≤ l.pool.parked
unfolding bytes_to model_of
given_fits l f excess i =
    omega (
      arith,
      given_bytes (share l excess) (take i (model_of l).textures),
      total_cut spare_bytes i (model_of l).textures,
      f.formed.parked,
    )
