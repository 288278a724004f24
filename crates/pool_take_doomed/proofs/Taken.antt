-- A take on lent memory: its batch is the rule's, and what it leaves is what the rule leaves. Assumes nothing.
use mathlib.Core.Path.{◌≡◌, refl, sym, ap, ap₂, ◌∙◌}
use mathlib.Core.Bool.{true}
use mathlib.Core.List.{List, [], ◌∷◌, map}
use Prim.Native.Nat.{ℕ, suc, ◌+◌, ◌*◌, ◌-◌, ◌^◌, ◌%◌, ◌≤◌, ◌<◌}
use native.Mathlib.Nat.{mul-suc}
use native.Mathlib.Omega.{arith}
use borrow.Author.Tests.{lt-ltb, le-ltb}
use lib.ListN.{length, take, drop, set, length-set, length-drop}
use lib.Seq.{sets, get_or-drop}
use Rattle.base_blocks.specs.Lists.{over, total}
use Rattle.base_blocks.specs.All.{All, nil, cons}
use Rattle.base_blocks.proofs.Listed.{take_listed, map_listed, listed_same}
use Rattle.base_tables.specs.Records.{record_at, flat}
use Rattle.base_tables.specs.Rings.{place_of, along}
use Rattle.pool_records.specs.Doomed.{read_doomed}
use Rattle.pool_rules.specs.Model.{Doomed, PoolModel, guard, doomed_bytes}
use Rattle.pool_rules.specs.Updates.{with_doomed, with_pacing}
use Rattle.pool_rules.specs.TakeDoomed.{arrived, batch, take_doomed}
use Rattle.pool_rules.proofs.Lists.{all_set}
use Rattle.pool_memory.specs.declared.pool.Pool.{Pool as Counts}
use Rattle.pool_memory.specs.declared.book.PacingBook.{PacingBook}
use Rattle.pool_memory.specs.Lent.{Lent, lent, version_places}
use Rattle.pool_memory.specs.Reading.{doomed_read, model_of}
use Rattle.pool_memory.specs.Writing.{pacing_after, pool_after, lent_after}
use Rattle.pool_memory.specs.IsPool.{is_pool}
use Rattle.pool_memory.specs.Calls.{Told, refused_with, answer, view_numbers, asked, take_doomed_on}
use Rattle.pool_memory.proofs.Fits.{Fits}
use Rattle.pool_memory.proofs.Runs.{tracked_model, kept_model, grids_model, stamps_used_model}
use Rattle.pool_memory.proofs.Rings.{head_stays, hand_model, first_taken, doomed_taken}
use Rattle.pool_memory.proofs.Same.{mark_same, queued_model, doomed_model}
use Rattle.pool_memory.proofs.Stays.{put_together, doomed_fit_lem, textures_stay, retiring_stay, spares_stay, newest_stay, stamps_stay}
use Rattle.pool_take_doomed.specs.Views.{column_number, column}
use Rattle.pool_take_doomed.specs.NextBatch.{doomed_entry, doomed_entries, most_arrivals, paced_of, batch_of}
use Rattle.pool_take_doomed.specs.TakeDoomed.{taken_counts, taken_book}
use Rattle.pool_take_doomed.proofs.Columns.{length_column, front_sets}
use Rattle.pool_take_doomed.proofs.Batches.{bytes_part}
use Rattle.pool_records.specs.RecordConstants.{doomed_stride}
use Rattle.pool_rules.specs.RuleConstants.{destroy_spread_drains, most_places}

-- a sum of numbers of which none passes b
all_total : (b : ℕ) {xs : List ℕ} → All (λ (n : ℕ). n ≤ b) xs → total (λ (n : ℕ). n) xs ≤ b * length xs
unfolding total
all_total b nil = omega arith
all_total b (cons {xs = xs} p ps) = let h = all_total b ps in omega (arith, mul-suc b (length xs))

-- one number an entry: the entries themselves
pub flat_views : (xs : List ℕ) → flat view_numbers xs ≡ xs
unfolding flat
flat_views [] = refl
flat_views (x ∷ xs) = ap (λ (l : List ℕ). x ∷ l) (flat_views xs)

-- the views of the first n versions, the pool that the rule leaves without them, and what the call says then
abbrev views_of : Lent → ℕ → List ℕ
views_of l n = map (λ (d : Doomed ℕ). d.view) (take n (model_of l).doomed)

abbrev rest_of : Lent → ℕ → PoolModel ℕ
rest_of l n =
    with_pacing (record { arrivals = arrived (model_of l); slot = suc (model_of l).pacing.slot % destroy_spread_drains; pressed = (model_of l).pacing.pressed; excess = 0 })
    (with_doomed (drop n (model_of l).doomed) 0 ((model_of l).dooming - doomed_bytes (take n (model_of l).doomed)) (model_of l))

abbrev said : Lent → List ℕ → ℕ → Told ℕ × (List ℕ × Lent)
said l buffer n = (answer (length (views_of l n)), (over (flat view_numbers (views_of l n)) buffer, lent_after (rest_of l n) l))

-- the slices with these counts and this book
abbrev leaving : Lent → Counts → PacingBook → Lent
leaving l c b = lent c b l.textures l.retiring l.doomed l.spares l.newest l.stamps

module _ (l : Lent) where
  -- the arrivals with those since the last take
  abbrev pub noted : List ℕ
  noted = set l.book.arrivals l.book.slot l.pool.since

  abbrev entries : ℕ → List (Doomed ℕ)
  entries n = doomed_entries (version_places l) l.pool.first l.doomed n

  entries_model : entries l.pool.doomed ≡ (model_of l).doomed
  unfolding model_of doomed_read doomed_entry
  entries_model = refl

  entries_taken : (n : ℕ) → n ≤ l.pool.doomed → take n (model_of l).doomed ≡ entries n
  unfolding model_of doomed_read doomed_entry
  entries_taken n h = take_listed (doomed_read l) n 0 l.pool.doomed h

  -- ---- the batch

  batch_model : batch_of (paced_of noted l.pool.doomed) l.book.excess (entries l.pool.doomed) ≡ batch (model_of l)
  unfolding batch_of paced_of model_of
  batch_model =
      ap₂ (λ (n : ℕ) (ds : List (Doomed ℕ)). batch_of (paced_of noted n) l.book.excess ds) (sym (doomed_model l)) entries_model

  module _ (f : Fits l) where
    noted_bound : total (λ (n : ℕ). n) noted ≤ most_arrivals
    unfolding model_of
    noted_bound =
        let h : l.pool.since ≤ most_places = omega (arith, f.formed.since, doomed_model l, f.versions, f.most) in
        let sum = all_total most_places (all_set l.book.slot l.pool.since h f.formed.arrivals) in
        omega (arith, sum, length-set l.book.arrivals l.book.slot l.pool.since, f.formed.eight)

    dooming_sum : l.pool.dooming ≡ doomed_bytes (entries l.pool.doomed)
    unfolding model_of
    dooming_sum = f.formed.dooming ∙ ap doomed_bytes (sym entries_model)

    pub slot_below : l.book.slot < destroy_spread_drains
    unfolding model_of
    slot_below = f.formed.slot

    -- what the batch is worked out from
    pub batch_fits : (arrivals : List ℕ) → arrivals ≡ noted → l.pool.dooming < 2 ^ 64
        → (doomed_stride * version_places l ≤ length l.doomed) × (l.pool.first < version_places l) × (l.pool.doomed ≤ version_places l)
        × (version_places l ≤ most_places) × (total (λ (n : ℕ). n) arrivals ≤ most_arrivals) × (doomed_bytes (entries l.pool.doomed) < 2 ^ 64)
    batch_fits arrivals e h = (
      omega (arith, f.doomed),
      f.first,
      doomed_fit_lem l f,
      f.most,
      omega (arith, ap (total (λ (n : ℕ). n)) e, noted_bound),
      omega (arith, dooming_sum),
    )

    -- what the counts after the take are worked out from
    pub counts_fit_lem : (n bytes : ℕ) → n ≤ l.pool.doomed → bytes ≡ doomed_bytes (entries n)
        → (l.pool.first < version_places l) × (n ≤ version_places l) × (n ≤ l.pool.doomed) × (bytes ≤ l.pool.dooming)
    counts_fit_lem n bytes few e =
        let part = bytes_part (version_places l) l.pool.first l.doomed n l.pool.doomed few in
        (f.first, omega (arith, doomed_fit_lem l f), few, omega (arith, dooming_sum))

    -- ---- what is left

    module _ (n bytes : ℕ) (few : n ≤ l.pool.doomed) (sum : bytes ≡ doomed_bytes (entries n)) where
      abbrev rest : PoolModel ℕ
      rest = rest_of l n

      counts_taken : taken_counts l.pool (version_places l) n bytes ≡ pool_after rest l
      unfolding taken_counts pool_after model_of
      counts_taken = λ i. record {
        tracked = sym (tracked_model l) i;
        kept = sym (kept_model l ∙ f.kept) i;
        grids = sym (grids_model l ∙ f.claimed) i;
        stamps = sym (stamps_used_model l ∙ f.stamps_claimed) i;
        head = sym (head_stays l rest f.head (omega (arith, hand_model l f.hand))) i;
        popped = sym (hand_model l f.hand) i;
        queued = sym (queued_model l) i;
        first = sym (first_taken l rest n few refl) i;
        doomed = sym (length-drop n (model_of l).doomed ∙ ap (λ (m : ℕ). m - n) (doomed_model l)) i;
        since = 0;
        trackings = l.pool.trackings;
        parked = l.pool.parked;
        dooming = l.pool.dooming - (sum ∙ ap doomed_bytes (sym (entries_taken n few))) i;
        cap = l.pool.cap;
        line = l.pool.line;
      }

      book_taken : taken_book l.book noted ≡ pacing_after rest
      unfolding taken_book pacing_after model_of
      book_taken = λ i. record {
        arrivals = noted;
        slot = suc l.book.slot % destroy_spread_drains;
        pressed = sym (mark_same l.book.pressed f.mark) i;
        excess = 0;
      }

      left_taken : leaving l (taken_counts l.pool (version_places l) n bytes) (taken_book l.book noted) ≡ lent_after rest l
      left_taken =
          put_together rest l (taken_counts l.pool (version_places l) n bytes) (taken_book l.book noted)
          l.textures l.retiring l.doomed l.spares l.newest l.stamps
          counts_taken book_taken (textures_stay l f rest refl) (retiring_stay l f rest refl refl)
          (sym (doomed_taken l rest f.first (omega (arith, f.doomed)) (doomed_fit_lem l f) n few refl))
          (spares_stay l f rest refl) (newest_stay l f rest refl) (stamps_stay l f rest refl)

  -- ---- the call

  views_taken : (n : ℕ) → n ≤ l.pool.doomed → views_of l n ≡ column doomed_stride 0 (version_places l) l.pool.first l.doomed 0 n
  unfolding column doomed_entry along record_at read_doomed
  views_taken n h =
      let e = doomed_entry (version_places l) l.pool.first l.doomed in
      ap (map (λ (d : Doomed ℕ). d.view)) (entries_taken n h)
      ∙ map_listed (λ (d : Doomed ℕ). d.view) e 0 n
      ∙ listed_same (λ (j : ℕ). (e j).view) (column_number doomed_stride 0 (version_places l) l.pool.first l.doomed) n 0 0
      (λ j q. get_or-drop (doomed_stride * place_of (version_places l) l.pool.first (0 + j)) l.doomed 0 0)

  module _ (pooled : is_pool l ≡ true) (buffer arrivals : List ℕ) (n : ℕ) (now : arrivals ≡ noted)
      (batched : n ≡ batch_of (paced_of arrivals l.pool.doomed) l.book.excess (entries l.pool.doomed)) where
    counted : n ≡ batch (model_of l)
    counted =
        batched ∙ ap (λ (xs : List ℕ). batch_of (paced_of xs l.pool.doomed) l.book.excess (entries l.pool.doomed)) now ∙ batch_model

    pub take_refused : length buffer < n → (refused_with 11, (buffer, l)) ≡ take_doomed_on l buffer
    unfolding take_doomed_on asked take_doomed guard
    take_refused h = sym (rw (pooled, lt-ltb (length buffer) (batch (model_of l)) (omega (arith, counted))))

    accepted_views : n ≤ length buffer → said l buffer (batch (model_of l)) ≡ take_doomed_on l buffer
    unfolding take_doomed_on asked take_doomed guard
    accepted_views h = sym (rw (pooled, le-ltb (length buffer) (batch (model_of l)) (omega (arith, counted))))

    module _ (f : Fits l) (bytes : ℕ) (few : n ≤ l.pool.doomed) (sum : bytes ≡ doomed_bytes (entries n)) (room : n ≤ length buffer) where
      pub take_accepted : (out : List ℕ) (c : Counts) (b : PacingBook)
          → out ≡ sets buffer 0 (column doomed_stride 0 (version_places l) l.pool.first l.doomed 0 n)
          → c ≡ taken_counts l.pool (version_places l) n bytes → b ≡ taken_book l.book arrivals
          → (answer n, (out, leaving l c b)) ≡ take_doomed_on l buffer
      take_accepted out c b e1 e2 e3 =
          let vs = column doomed_stride 0 (version_places l) l.pool.first l.doomed 0 n in
          let long : length vs ≡ n = length_column doomed_stride 0 (version_places l) l.pool.first l.doomed 0 n in
          let same : vs ≡ flat view_numbers (views_of l n) = sym (flat_views (views_of l n) ∙ views_taken n few) in
          let full : out ≡ over (flat view_numbers (views_of l n)) buffer =
          e1 ∙ front_sets vs buffer (omega arith) ∙ ap (λ (xs : List ℕ). over xs buffer) same in
          let kept : leaving l c b ≡ lent_after (rest_of l n) l =
          ap₂ (leaving l) e2 (e3 ∙ ap (taken_book l.book) now) ∙ left_taken f n bytes few sum in
          (λ i. (answer ((sym long ∙ ap length (sym (views_taken n few))) i), (full i, kept i)))
          ∙ ap (said l buffer) counted
          ∙ accepted_views room
