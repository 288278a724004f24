-- `park` on a pool: refused as the model's rule refuses, or the hand's version destroyed or kept as decided. Assumes nothing.
use mathlib.Core.Path.{◌≡◌, refl, sym, ap, ap₂, ◌∙◌, subst}
use mathlib.Core.Bool.{Bool, true, false, cond, ◌||◌}
use mathlib.Core.Option.{Option, none, some}
use mathlib.Core.List.{List, [], ◌∷◌, ◌++◌, map}
use Prim.Native.Nat.{ℕ, zero, suc, ◌+◌, ◌-◌, ◌*◌, ◌/◌, ◌≤◌, ◌<◌, ◌^◌}
use native.Mathlib.Nat.{add-zero}
use native.Mathlib.Omega.{arith}
use borrow.Author.Tests.{eqb-false, ne_eqb}
use lib.Dec.{ltb, eqb}
use lib.ListN.{length, set, length-append}
use lib.Seq.{sets}
use Rattle.base_blocks.specs.Lists.{total, inserted}
use Rattle.base_blocks.specs.Blocks.{moved}
use Rattle.base_tables.specs.Rings.{place_of, along, laid}
use Rattle.base_tables.proofs.Records.{take_table}
use Rattle.grid_shapes.specs.Shapes.{bytes_of}
use Rattle.grid_shapes.proofs.ShapeBytes.{bytes_bound}
use Rattle.pool_rules.specs.Model.{Spare, Retiring, Doomed, VersionState, PoolModel, accepted, refused, guard, find, limit}
use Rattle.pool_rules.specs.HistorySizes.{newest_used, stamps_used}
use Rattle.pool_rules.specs.Updates.{with_spares, with_textures, with_retiring, with_parked, change, doom}
use Rattle.pool_rules.specs.Park.{as_spare, park_found, park_hand, park}
use Rattle.pool_rules.specs.Formed.{Given, RetiringFormed}
use Rattle.pool_rules.proofs.States.{length_change, total_unchanged}
use Rattle.pool_records.specs.declared.texture.TextureRecord.{TextureRecord}
use Rattle.pool_records.specs.declared.spare.SpareRecord.{SpareRecord}
use Rattle.pool_records.specs.declared.retiring.RetiringRecord.{RetiringRecord}
use Rattle.pool_records.specs.Held.{HeldFits}
use Rattle.pool_records.specs.Recorded.{RecordedFits}
use Rattle.pool_records.specs.Texture.{read_texture, write_texture}
use Rattle.pool_records.specs.Spare.{write_spare}
use Rattle.pool_records.specs.Doomed.{write_doomed}
use Rattle.pool_records.specs.Retiring.{read_retiring}
use Rattle.pool_records.specs.Find.{below, has_id}
use Rattle.pool_records.specs.Views.{retiring_of}
use Rattle.pool_access.proofs.Totals.{total_with}
use Rattle.pool_memory.specs.declared.pool.Pool.{Pool as Counts}
use Rattle.pool_memory.specs.Lent.{Lent, lent, version_places}
use Rattle.pool_memory.specs.Reading.{tracked_records, hand_read, model_of}
use Rattle.pool_memory.specs.Writing.{recorded_history, texture_record, every_spare, textures_after, doomed_after, spares_after, pool_after, lent_after}
use Rattle.pool_memory.specs.IsPool.{is_pool}
use Rattle.pool_memory.specs.Calls.{refused_with, answer, told_number, park_on}
use Rattle.pool_memory.proofs.Fits.{Fits}
use Rattle.pool_memory.proofs.FromPool.{pool_fits}
use Rattle.pool_memory.proofs.Asked.{asked_refused, asked_accepted}
use Rattle.pool_memory.proofs.Runs.{spares_of, first_spare, first_grid, first_stamp, state_of, tracked_model, kept_model, grids_model, stamps_used_model}
use Rattle.pool_memory.proofs.Rings.{head_parked, first_stays, retiring_parked, doomed_pushed}
use Rattle.pool_memory.proofs.Same.{queued_model, doomed_model}
use Rattle.pool_memory.proofs.Kept.{kept_history}
use Rattle.pool_memory.proofs.Changes.{spares_before, spares_at, every_appended, spares_inserted}
use Rattle.pool_memory.proofs.Starts.{textures_set}
use Rattle.pool_memory.proofs.Counts.{kept_inserted}
use Rattle.pool_memory.proofs.Stays.{put_together, textures_fit_lem, ring_fits, doomed_fit_lem, book_stays, textures_stay, spares_stay, newest_stay, stamps_stay, doomed_stay, doomed_bound}
use Rattle.pool_memory.proofs.Tracked.{texture_at, record_read, bytes_at, record_at_lem, shape_passes}
use Rattle.pool_park.specs.declared.park_or_destroy.Parking.{Parking}
use Rattle.pool_park.specs.declared.park_or_destroy.Parking.TheVariants.{Destroyed, Kept}
use Rattle.pool_park.specs.Counts.{hand_kept, hand_doomed}
use Rattle.pool_park.specs.Park.{park_refusal, parking_of, spare_parked, one_more, spares_end}
use Rattle.pool_retire.proofs.Tracked.{map_change, inside, found_here, found_nowhere, changed_here, history_here}
use Rattle.pool_retire.proofs.PopCases.{front_read}
use Rattle.pool_park.proofs.Parked.{Says, decision_says, held_fits}
use Rattle.grid_shapes.specs.ShapeConstants.{most_shape_bytes}
use Rattle.pool_records.specs.RecordConstants.{doomed_stride, retiring_stride, spare_stride, texture_stride}
use Rattle.pool_rules.specs.RuleConstants.{most_places}

-- as the code counts them
abbrev places : Lent → ℕ
places l = length l.retiring / retiring_stride

-- a state with one more spare
abbrev with_one : Spare ℕ → VersionState ℕ → VersionState ℕ
with_one s t = with_spares (t.spares ++ (s ∷ [])) t

record_one : (grid stamp : ℕ) (s : Spare ℕ) (t : VersionState ℕ) → one_more (texture_record grid stamp t) ≡ texture_record grid stamp (with_one s t)
record_one grid stamp s t = λ i. record {
  id = t.id;
  shape = t.shape;
  epoch = t.epoch;
  history = recorded_history t.history;
  birth = t.birth;
  rename = t.rename;
  due = t.due;
  spares = sym (length-append t.spares (s ∷ [])) i;
  bytes = bytes_of t.shape;
  grid = grid;
  stamp = stamp;
}

-- the number of the first of two tests that holds
abbrev first_of : Bool → Bool → ℕ
first_of a b = cond a 3 (cond b 10 0)

module _ (l : Lent) (e : is_pool l ≡ true) (failed current : ℕ) where
  fits : Fits l
  fits = pool_fits l e

  abbrev pressed : Bool
  pressed = eqb l.book.pressed 1

  abbrev late : Bool
  late = ltb limit failed || ltb limit current

  -- ---- refused

  rule : park (model_of l) failed current ≡ guard late 3 (park_hand (model_of l) failed current (hand_read l l.pool.popped))
  unfolding park model_of
  rule = refl

  refuses : (a : Bool) (m n : ℕ) → n ≡ first_of a (eqb m 0) → (n ≡ 0 → ⊥)
      → guard a 3 (park_hand (model_of l) failed current (hand_read l m)) ≡ refused n
  unfolding guard
  refuses true m n q h = ap refused (sym q)
  refuses false zero n q h = ap refused (sym q)
  refuses false (suc m) n q h =
      absurd (h (q ∙ ap (λ (b : Bool). cond b 10 0) (ne_eqb (suc m) 0 (λ z. let y : ⊥ = omega (arith, z) in y))))

  pub park_refused : (n : ℕ) → n ≡ park_refusal l.pool failed current → (n ≡ 0 → ⊥) → (told_number n, l) ≡ park_on l failed current
  unfolding park_on park_refusal
  park_refused n q h =
      ap (λ (b : Bool). (cond b (answer tt) (refused_with n), l)) (ne_eqb n 0 h)
      ∙ sym (asked_refused (λ a. a) l (λ (p : PoolModel ℕ). park p failed current) e n (rule ∙ refuses late l.pool.popped n q h))

  -- ---- nothing is refused: the ring's front is the hand

  module _ (passed : 0 ≡ park_refusal l.pool failed current) where
    passes : (a b : Bool) → first_of a b ≡ 0 → (a ≡ false) × (b ≡ false)
    passes true b q = absurd (let y : ⊥ = omega (arith, q) in y)
    passes false true q = absurd (let y : ⊥ = omega (arith, q) in y)
    passes false false q = (refl, refl)

    both : (late ≡ false) × (eqb l.pool.popped 0 ≡ false)
    unfolding park_refusal
    both = passes late (eqb l.pool.popped 0) (sym passed)

    pub held : l.pool.popped ≡ 1
    held = omega (arith, eqb-false l.pool.popped 0 both.1, fits.hand)

    pub front_fits : (retiring_stride * places l ≤ length l.retiring) × (l.pool.head < places l) × (1 ≤ places l)
    unfolding version_places
    front_fits = (omega (arith, fits.retiring), fits.head, fits.least)

    module _ (x : RetiringRecord) (read : x ≡ along retiring_stride read_retiring (places l) l.pool.head l.retiring 0) where
      abbrev v : Retiring ℕ
      v = retiring_of x

      hand_read_lem : hand_read l l.pool.popped ≡ some v
      hand_read_lem = ap (hand_read l) held ∙ ap some (sym (front_read l x read))

      hand_formed : RetiringFormed v
      unfolding model_of
      hand_formed = subst (Given RetiringFormed) hand_read_lem fits.formed.hand

      abbrev emptied : PoolModel ℕ
      emptied = with_retiring (model_of l).retiring none (model_of l)

      rule_passed : park (model_of l) failed current ≡ accepted tt (park_found emptied failed current v (find x.id (model_of l).textures))
      unfolding guard
      rule_passed =
          rule ∙ ap₂ (λ (b : Bool) (o : Option (Retiring ℕ)). guard b 3 (park_hand (model_of l) failed current o)) both.0 hand_read_lem

      abbrev spare : Spare ℕ
      spare = as_spare failed current v

      abbrev grown : List (VersionState ℕ)
      grown = change x.id (with_one spare) (model_of l).textures

      -- the pool after each decision
      abbrev parked : Parking → PoolModel ℕ
      parked (Destroyed bytes) = doom (record { view = x.view; bytes = bytes } ∷ []) emptied
      parked (Kept bytes) = with_parked (l.pool.parked + bytes) (with_textures grown emptied)

      -- i is where the search for the texture ended
      module _ (i : ℕ) (at : i ≡ below x.id (tracked_records l)) where
        abbrev here : Bool
        here = has_id l.textures l.pool.tracked i x.id

        abbrev decided : Parking
        decided = parking_of l.pool pressed here (texture_at l i) x

        tracked_parks : (grid stamp : ℕ) (t : VersionState ℕ)
            → park_found emptied failed current v (some t) ≡ parked (parking_of l.pool pressed true (texture_record grid stamp t) x)
        unfolding parking_of model_of
        tracked_parks grid stamp t = go (eqb t.epoch x.epoch) (pressed || ltb l.pool.cap (l.pool.parked + bytes_of t.shape))
          where
            go : (a b : Bool) → cond a (cond b (parked (Destroyed (bytes_of t.shape))) (parked (Kept (bytes_of t.shape))))
                (parked (Destroyed x.bytes))
                ≡ parked (cond a (cond b (Destroyed (bytes_of t.shape)) (Kept (bytes_of t.shape))) (Destroyed x.bytes))
            go true true = refl
            go true false = refl
            go false b = refl

        parks : (b : Bool) → here ≡ b
            → park_found emptied failed current v (find x.id (model_of l).textures)
            ≡ parked (parking_of l.pool pressed b (texture_at l i) x)
        unfolding parking_of
        parks false q = ap (park_found emptied failed current v) (found_nowhere l fits x.id i at q)
        parks true q =
            ap (park_found emptied failed current v) (found_here l fits x.id i at q)
            ∙ tracked_parks (first_grid l i) (first_stamp l i) (state_of l i)
            ∙ ap (λ (t : TextureRecord). parked (parking_of l.pool pressed true t x)) (record_at_lem l i (inside l fits x.id i at q) fits)

        decides : (d : Parking) → decided ≡ d → (m : Lent) → m ≡ lent_after (parked d) l → (answer tt, m) ≡ park_on l failed current
        unfolding park_on
        decides d q m left =
            ap (λ (m' : Lent). (answer tt, m')) left
            ∙ sym (asked_accepted (λ a. a) l (λ (p : PoolModel ℕ). park p failed current) e tt (parked d)
            (rule_passed ∙ ap (accepted tt) (parks here refl ∙ ap parked q)))

        pub decision_fits : (texture_stride * l.pool.tracked ≤ length l.textures) × (l.pool.parked ≤ l.pool.cap)
        unfolding model_of
        decision_fits = (textures_fit_lem l fits, fits.formed.cap)

        -- no version's bytes pass 2^44
        own_bytes : here ≡ true → (texture_at l i).bytes ≤ most_shape_bytes
        own_bytes q =
            let h = inside l fits x.id i at q in
            omega (arith, bytes_at l i h fits, bytes_bound (texture_at l i).shape (shape_passes l i h fits))

        -- the code's decision
        module _ (d : Parking) (taken : d ≡ decided) where
          says : Says l.pool pressed here (texture_at l i) x d
          says =
              subst (Says l.pool pressed here (texture_at l i) x) (sym taken)
              (decision_says l.pool pressed here (texture_at l i) x hand_formed.bytes own_bytes)

          -- ---- destroyed

          module _ (bytes : ℕ) (told : d ≡ Destroyed bytes) where
            few : bytes ≤ most_shape_bytes
            few = subst (Says l.pool pressed here (texture_at l i) x) told says

            pub push_fits : (doomed_stride * places l ≤ length l.doomed) × (l.pool.first < places l) × (l.pool.doomed < places l)
            unfolding version_places
            push_fits = (omega (arith, fits.doomed), fits.first, omega (arith, fits.versions, held))

            pub doomed_counts_fit : (l.pool.doomed ≤ most_places) × (l.pool.since ≤ most_places) × (l.pool.dooming + bytes < 2 ^ 64)
            unfolding model_of
            doomed_counts_fit =
                let dooming : l.pool.dooming ≤ most_shape_bytes * length (model_of l).doomed =
                omega (arith, fits.formed.dooming, doomed_bound fits.formed.doomed) in (
                  omega (arith, doomed_fit_lem l fits, fits.most),
                  omega (arith, fits.formed.since, doomed_model l, doomed_fit_lem l fits, fits.most),
                  omega (arith, dooming, doomed_model l, doomed_fit_lem l fits, fits.most, few),
                )

            abbrev lost : PoolModel ℕ
            lost = parked (Destroyed bytes)

            abbrev one : List (Doomed ℕ)
            one = record { view = x.view; bytes = bytes } ∷ []

            counts_lost : (head : ℕ) → head ≡ place_of (places l) l.pool.head 1 → hand_doomed head bytes l.pool ≡ pool_after lost l
            unfolding pool_after model_of version_places total
            counts_lost head q = λ j. record {
              tracked = sym (tracked_model l) j;
              kept = sym (kept_model l ∙ fits.kept) j;
              grids = sym (grids_model l ∙ fits.claimed) j;
              stamps = sym (stamps_used_model l ∙ fits.stamps_claimed) j;
              head = (q ∙ sym (head_parked l lost fits.head held refl)) j;
              popped = 0;
              queued = sym (queued_model l) j;
              first = sym (first_stays l lost fits.first (omega (arith, doomed_model l, length-append (model_of l).doomed one))) j;
              doomed = sym (length-append (model_of l).doomed one ∙ ap (λ (n : ℕ). n + 1) (doomed_model l)) j;
              since = l.pool.since + 1;
              trackings = l.pool.trackings;
              parked = l.pool.parked;
              dooming = l.pool.dooming + sym (add-zero bytes) j;
              cap = l.pool.cap;
              line = l.pool.line;
            }

            doomed_lost : sets l.doomed (doomed_stride * place_of (places l) l.pool.first l.pool.doomed)
                (write_doomed (record { view = x.view; bytes = bytes })) ≡ doomed_after lost l
            unfolding laid version_places
            doomed_lost = doomed_pushed l lost fits.first (omega (arith, fits.doomed)) (doomed_fit_lem l fits) one refl

            pub park_destroyed : (head : ℕ) (c : Counts) (doomed : List ℕ) → head ≡ place_of (places l) l.pool.head 1
                → doomed ≡ sets l.doomed (doomed_stride * place_of (places l) l.pool.first l.pool.doomed)
                (write_doomed (record { view = x.view; bytes = bytes }))
                → c ≡ hand_doomed head bytes l.pool
                → (told_number 0, lent c l.book l.textures l.retiring doomed l.spares l.newest l.stamps) ≡ park_on l failed current
            park_destroyed head c doomed e1 e2 e3 =
                decides (Destroyed bytes) (sym taken ∙ told) (lent c l.book l.textures l.retiring doomed l.spares l.newest l.stamps)
                (put_together lost l c l.book l.textures l.retiring doomed l.spares l.newest l.stamps
                (e3 ∙ counts_lost head e1) (book_stays l fits lost refl) (textures_stay l fits lost refl)
                (sym (retiring_parked l lost fits.head (omega (arith, fits.retiring)) fits.hand (ring_fits l fits) held refl refl))
                (e2 ∙ doomed_lost) (spares_stay l fits lost refl) (newest_stay l fits lost refl) (stamps_stay l fits lost refl))

          -- ---- kept

          module _ (bytes : ℕ) (told : d ≡ Kept bytes) where
            kept_says : (here ≡ true) × (l.pool.parked + bytes ≤ l.pool.cap)
            kept_says = subst (Says l.pool pressed here (texture_at l i) x) told says

            abbrev end : ℕ
            end = spares_end l.textures i

            there : i < l.pool.tracked
            there = inside l fits x.id i at kept_says.0

            end_within : end ≤ l.pool.kept
            end_within = omega (arith, fits.kept, total_with texture_stride read_texture spares_of l.textures i l.pool.tracked there)

            end_is : first_spare l i + spares_at l i ≡ end
            unfolding first_spare
            end_is =
                ap₂ (λ (m n : ℕ). m + n) (ap (total spares_of) (take_table texture_stride read_texture i l.pool.tracked l.textures (omega (arith, there))))
                (ap spares_of (record_read l i there))

            room : spare_stride * l.pool.kept + spare_stride ≤ length l.spares
            room = omega (arith, fits.versions, fits.spares, held)

            pub keep_fits : (s : SpareRecord) → s ≡ spare_parked failed current x
                → (texture_stride * i + texture_stride ≤ length l.textures) × RecordedFits (texture_at l i).history × (end ≤ l.pool.kept) × (l.pool.kept ≤ most_places)
                × (spare_stride * l.pool.kept + spare_stride ≤ length l.spares) × HeldFits s.held
                × (texture_stride * l.pool.tracked ≤ length l.textures) × (i < l.pool.tracked) × (total (λ (t : TextureRecord). t.spares) (tracked_records l) ≡ l.pool.kept)
            keep_fits s q = (
              omega (arith, there, textures_fit_lem l fits),
              history_here l fits x.id i at kept_says.0,
              end_within,
              omega (arith, fits.versions, fits.most),
              room,
              subst (λ (y : SpareRecord). HeldFits y.held) (sym q) (held_fits failed x hand_formed.held),
              textures_fit_lem l fits,
              there,
              fits.kept,
            )

            pub kept_counts_fit : (l.pool.kept ≤ most_places) × (l.pool.parked + bytes ≤ l.pool.cap)
            kept_counts_fit = (omega (arith, fits.versions, fits.most), kept_says.1)

            abbrev stays : PoolModel ℕ
            stays = parked (Kept bytes)

            grown_is : grown ≡ set (model_of l).textures i (with_one spare (state_of l i))
            grown_is = changed_here l fits x.id i at kept_says.0 (with_one spare)

            every_is : every_spare grown ≡ inserted end (spare ∷ []) (spares_before l)
            every_is =
                ap every_spare grown_is ∙ every_appended l i there (with_one spare (state_of l i)) spare refl
                ∙ ap (λ (k : ℕ). inserted k (spare ∷ []) (spares_before l)) end_is

            paged : map kept_history grown ≡ map kept_history (model_of l).textures
            paged = map_change kept_history x.id (with_one spare) (λ t. refl) (model_of l).textures

            counts_kept : (head : ℕ) → head ≡ place_of (places l) l.pool.head 1 → hand_kept head bytes l.pool ≡ pool_after stays l
            unfolding pool_after model_of version_places
            counts_kept head q = λ j. record {
              tracked = sym (length_change x.id (with_one spare) (model_of l).textures ∙ tracked_model l) j;
              kept = sym (kept_inserted l stays fits.kept end spare end_within every_is) j;
              grids = sym (total_unchanged newest_used x.id (with_one spare) (λ t. refl) (model_of l).textures ∙ grids_model l ∙ fits.claimed) j;
              stamps = sym (total_unchanged stamps_used x.id (with_one spare) (λ t. refl) (model_of l).textures ∙ stamps_used_model l ∙ fits.stamps_claimed) j;
              head = (q ∙ sym (head_parked l stays fits.head held refl)) j;
              popped = 0;
              queued = sym (queued_model l) j;
              first = sym (first_stays l stays fits.first (omega (arith, doomed_model l))) j;
              doomed = sym (doomed_model l) j;
              since = l.pool.since;
              trackings = l.pool.trackings;
              parked = l.pool.parked + bytes;
              dooming = l.pool.dooming;
              cap = l.pool.cap;
              line = l.pool.line;
            }

            textures_kept : sets l.textures (texture_stride * i) (write_texture (one_more (texture_at l i))) ≡ textures_after stays l
            textures_kept =
                ap (λ (t : TextureRecord). sets l.textures (texture_stride * i) (write_texture t))
                (ap one_more (sym (record_at_lem l i there fits)) ∙ record_one (first_grid l i) (first_stamp l i) spare (state_of l i))
                ∙ textures_set l stays fits i (with_one spare (state_of l i)) there grown_is refl refl

            spares_kept : sets (moved l.spares (spare_stride * end + spare_stride) (spare_stride * end) (spare_stride * (l.pool.kept - end))) (spare_stride * end)
                (write_spare (spare_parked failed current x)) ≡ spares_after stays l
            spares_kept = spares_inserted l stays fits.kept (omega (arith, room)) end spare room end_within every_is

            pub park_kept : (head : ℕ) (s : SpareRecord) (c : Counts) (textures spares : List ℕ) → head ≡ place_of (places l) l.pool.head 1
                → s ≡ spare_parked failed current x
                → textures ≡ sets l.textures (texture_stride * i) (write_texture (one_more (texture_at l i)))
                → spares ≡ sets (moved l.spares (spare_stride * end + spare_stride) (spare_stride * end) (spare_stride * (l.pool.kept - end))) (spare_stride * end) (write_spare s)
                → c ≡ hand_kept head bytes l.pool
                → (told_number 0, lent c l.book textures l.retiring l.doomed spares l.newest l.stamps) ≡ park_on l failed current
            park_kept head s c textures spares e1 e2 e3 e4 e5 =
                decides (Kept bytes) (sym taken ∙ told) (lent c l.book textures l.retiring l.doomed spares l.newest l.stamps)
                (put_together stays l c l.book textures l.retiring l.doomed spares l.newest l.stamps
                (e5 ∙ counts_kept head e1) (book_stays l fits stays refl) (e3 ∙ textures_kept)
                (sym (retiring_parked l stays fits.head (omega (arith, fits.retiring)) fits.hand (ring_fits l fits) held refl refl))
                (doomed_stay l fits stays refl)
                (e4 ∙ ap (λ (y : SpareRecord). sets (moved l.spares (spare_stride * end + spare_stride) (spare_stride * end) (spare_stride * (l.pool.kept - end))) (spare_stride * end)
                (write_spare y)) e2 ∙ spares_kept)
                (newest_stay l fits stays paged) (stamps_stay l fits stays paged))
