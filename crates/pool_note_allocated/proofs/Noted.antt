-- note_allocated on lent memory: what relief leaves, with the counts and the book, is what the model's rule leaves; and where the queued bytes cover the
-- excess the book alone changes. Assumes nothing.
use mathlib.Core.Path.{◌≡◌, refl, sym, ap, ap₂, ◌∙◌}
use mathlib.Core.Bool.{true, Bool, false}
use mathlib.Core.List.{List, [], ◌∷◌, ◌++◌, map, flat_map, append-nil}
use Prim.Native.Nat.{ℕ, ◌+◌, ◌-◌, ◌*◌, ◌≤◌, ◌<◌, ◌^◌}
use native.Mathlib.Nat.{add-zero, sub-zero, mul-le-mul_right}
use native.Mathlib.Omega.{arith}
use mir.Val.{bool_byte}
use lib.Dec.{eqb}
use lib.ListN.{length, length-append, length-map}
use Rattle.base_blocks.specs.Lists.{total}
use Rattle.base_blocks.specs.All.{All, nil, cons}
use Rattle.grid_shapes.specs.Shapes.{bytes_of}
use Rattle.grid_shapes.proofs.ShapeBytes.{bytes_bound}
use Rattle.pool_rules.specs.Model.{Doomed, VersionState, PoolModel, accepted, spare_bytes, doomed_bytes}
use Rattle.pool_rules.specs.HistorySizes.{newest_used, stamps_used}
use Rattle.pool_rules.specs.Updates.{with_pacing}
use Rattle.pool_rules.specs.NoteAllocated.{pressed_after, count_of, picked_in, relieved, note_allocated}
use Rattle.pool_rules.specs.Formed.{StateFormed}
use Rattle.pool_rules.proofs.Lists.{total_map}
use Rattle.pool_rules.proofs.Moves.{lessened, given, given_bytes, given_count}
use Rattle.pool_memory.specs.Lent.{Lent, lent}
use Rattle.pool_memory.specs.Reading.{model_of}
use Rattle.pool_memory.specs.Writing.{textures_after, spares_after, newest_after, stamps_after, head_after, retiring_after, first_after, doomed_after, pool_after, pacing_after, lent_after, mark_of}
use Rattle.pool_memory.specs.IsPool.{is_pool}
use Rattle.pool_memory.specs.Calls.{answer, told_number, note_allocated_on}
use Rattle.pool_memory.proofs.Fits.{Fits}
use Rattle.pool_memory.proofs.Runs.{spare_count, tracked_model, kept_model, grids_model, stamps_used_model}
use Rattle.pool_memory.proofs.Kept.{kept_history}
use Rattle.pool_memory.proofs.Rings.{hand_model, head_stays, first_stays}
use Rattle.pool_memory.proofs.Same.{queued_model, doomed_model}
use Rattle.pool_memory.proofs.Stays.{put_together, nothing_changed, newest_stay, stamps_stay, retiring_stay}
use Rattle.pool_memory.proofs.Asked.{asked_accepted}
use Rattle.pool_note_allocated.specs.NoteAllocated.{relieved_pool, spares_given, Relieves, counts_relieved, noted_book}
use Rattle.pool_relief_line.proofs.Picked.{picked_none}
use Rattle.pool_note_allocated.proofs.Chosen.{share, dooming_most}
use Rattle.grid_shapes.specs.ShapeConstants.{most_shape_bytes}
use Rattle.pool_rules.specs.RuleConstants.{most_places}

-- textures that give up spares keep what their grids depend on
histories_lessened : (k : VersionState ℕ → ℕ) (ts : List (VersionState ℕ)) → map kept_history (map (lessened k) ts) ≡ map kept_history ts
histories_lessened k [] = refl
histories_lessened k (t ∷ ts) = ap (λ xs. kept_history t ∷ xs) (histories_lessened k ts)

spare_bytes_most : {ts : List (VersionState ℕ)} → All StateFormed ts → total spare_bytes ts ≤ most_shape_bytes * total spare_count ts
unfolding total
spare_bytes_most nil = omega arith
spare_bytes_most (cons {x = t} p ps) =
    omega (
      arith,
      spare_bytes_most ps,
      mul-le-mul_right {m = bytes_of t.shape} {n = most_shape_bytes} (length t.spares) (bytes_bound t.shape p.shape),
    )

-- a mark as the byte of a truth value
pub mark_byte : (b : Bool) → bool_byte b ≡ mark_of b
mark_byte true = refl
mark_byte false = refl

module _ (l : Lent) (f : Fits l) (allocated : ℕ) where
  abbrev excess : ℕ
  excess = allocated - l.pool.line

  -- the pool that the rule leaves
  abbrev noted_pool : PoolModel ℕ
  noted_pool =
      with_pacing
      (record {
        arrivals = l.book.arrivals;
        slot = l.book.slot;
        pressed = pressed_after (record { cap = l.pool.cap; line = l.pool.line }) allocated (eqb l.book.pressed 1);
        excess = excess;
      })
      (relieved_pool excess l)

  the_rule : note_allocated (model_of l) allocated ≡ accepted tt noted_pool
  unfolding note_allocated model_of
  the_rule = refl

  book_noted : noted_book l.pool l.book allocated ≡ pacing_after noted_pool
  unfolding pacing_after
  book_noted = refl

  -- ---- how much is given

  spares_counted : total spare_count (model_of l).textures ≡ l.pool.kept
  spares_counted = kept_model l ∙ f.kept

  kept_counted : (pool_after (relieved_pool excess l) l).kept + length (spares_given excess l) ≡ l.pool.kept
  unfolding pool_after
  kept_counted = given_count (share l excess) (model_of l).textures ∙ spares_counted

  parked_counted : total spare_bytes (model_of l).textures ≡ l.pool.parked
  unfolding model_of
  parked_counted = sym f.formed.parked

  since_counted : l.pool.since ≤ l.pool.doomed
  unfolding model_of
  since_counted = omega (arith, f.formed.since, doomed_model l)

  -- what the sums of the counts ask for
  pub counts_need : {kept bytes : ℕ} → kept ≡ (pool_after (relieved_pool excess l) l).kept → bytes ≡ doomed_bytes (spares_given excess l)
      → (kept ≤ l.pool.kept) × (l.pool.doomed + l.pool.kept ≤ most_places) × (l.pool.since ≤ most_places) × (bytes ≤ l.pool.parked) × (l.pool.dooming + bytes < 2 ^ 64)
  counts_need {kept} {bytes} e g =
      let le : bytes ≤ l.pool.parked = omega (arith, g, given_bytes (share l excess) (model_of l).textures, parked_counted) in (
        omega (arith, e, kept_counted),
        omega (arith, f.versions, f.most),
        omega (arith, since_counted, f.versions, f.most),
        le,
        omega (arith, le, parked_counted, spare_bytes_most f.formed.textures, spares_counted, f.versions, f.most, dooming_most l f),
      )

  -- ---- what relief leaves

  module _ {kept bytes : ℕ} {textures doomed spares : List ℕ} (r : Relieves l excess kept bytes textures doomed spares) where
    given_counted : length (spares_given excess l) ≡ l.pool.kept - kept
    given_counted = omega (arith, r.count, kept_counted)

    hand_same : head_after noted_pool l ≡ l.pool.head
    hand_same = head_stays l noted_pool f.head (omega (arith, hand_model l f.hand))

    counts_left : counts_relieved l.pool kept bytes ≡ pool_after noted_pool l
    unfolding pool_after model_of
    counts_left = sym (λ i. record {
      tracked = (length-map (model_of l).textures (lessened (share l excess)) ∙ tracked_model l) i;
      kept = sym r.count i;
      grids = (total_map newest_used (lessened (share l excess)) (λ t. refl) (model_of l).textures ∙ grids_model l ∙ f.claimed) i;
      stamps = (total_map stamps_used (lessened (share l excess)) (λ t. refl) (model_of l).textures ∙ stamps_used_model l ∙ f.stamps_claimed) i;
      head = hand_same i;
      popped = hand_model l f.hand i;
      queued = queued_model l i;
      first = first_stays l noted_pool f.first (omega (arith, doomed_model l, length-append (model_of l).doomed (spares_given excess l))) i;
      doomed = (length-append (model_of l).doomed (spares_given excess l) ∙ ap₂ (λ (a b : ℕ). a + b) (doomed_model l) given_counted) i;
      since = ap (λ (n : ℕ). l.pool.since + n) given_counted i;
      trackings = l.pool.trackings;
      parked = ap (λ (n : ℕ). l.pool.parked - n) (sym r.sum) i;
      dooming = ap (λ (n : ℕ). l.pool.dooming + n) (sym r.sum) i;
      cap = l.pool.cap;
      line = l.pool.line;
    })

    records_left : textures ≡ textures_after noted_pool l
    unfolding textures_after
    records_left = r.records

    ring_left : doomed ≡ doomed_after noted_pool l
    unfolding doomed_after first_after
    ring_left = r.ring

    runs_left : spares ≡ spares_after noted_pool l
    unfolding spares_after
    runs_left = r.runs

    pub noted_relieved : is_pool l ≡ true
        → (told_number 0, lent (counts_relieved l.pool kept bytes) (noted_book l.pool l.book allocated) textures l.retiring doomed spares l.newest l.stamps)
        ≡ note_allocated_on l allocated
    unfolding note_allocated_on
    noted_relieved e =
        let same = histories_lessened (share l excess) (model_of l).textures in
        ap (λ (m : Lent). (answer tt, m))
        (put_together noted_pool l (counts_relieved l.pool kept bytes) (noted_book l.pool l.book allocated) textures l.retiring doomed spares l.newest l.stamps
        counts_left book_noted records_left (retiring_stay l f noted_pool refl refl) ring_left runs_left (newest_stay l f noted_pool same) (stamps_stay l f noted_pool same))
        ∙ sym (asked_accepted (λ a. a) l (λ (p : PoolModel ℕ). note_allocated p allocated) e tt noted_pool the_rule)

  -- ---- where the queued bytes cover the excess

  none_thinner : (ts : List (VersionState ℕ)) → map (lessened (λ t. count_of t.id [])) ts ≡ ts
  unfolding count_of
  none_thinner [] = refl
  none_thinner (t ∷ ts) = ap (λ (xs : List (VersionState ℕ)). t ∷ xs) (none_thinner ts)

  none_given_up : (ts : List (VersionState ℕ)) → flat_map (given (λ t. count_of t.id [])) ts ≡ []
  unfolding count_of flat_map
  none_given_up [] = refl
  none_given_up (t ∷ ts) = none_given_up ts

  nothing_relieved : (p : PoolModel ℕ) → relieved [] p ≡ p
  unfolding total
  nothing_relieved p =
      let ds = flat_map (given (λ t. count_of t.id [])) p.textures in
      let e : ds ≡ [] = none_given_up p.textures in
      λ i. record {
        textures = none_thinner p.textures i;
        retiring = p.retiring;
        hand = p.hand;
        doomed = (ap (λ (xs : List (Doomed ℕ)). p.doomed ++ xs) e ∙ append-nil p.doomed) i;
        since = (ap (λ (xs : List (Doomed ℕ)). p.since + length xs) e ∙ add-zero p.since) i;
        trackings = p.trackings;
        parked = (ap (λ (xs : List (Doomed ℕ)). p.parked - doomed_bytes xs) e ∙ sub-zero p.parked) i;
        dooming = (ap (λ (xs : List (Doomed ℕ)). p.dooming + doomed_bytes xs) e ∙ add-zero p.dooming) i;
        places = p.places;
        budget = p.budget;
        pacing = p.pacing;
      }

  module _ (covered : excess ≤ l.pool.dooming) where
    none_picked : picked_in excess (model_of l) ≡ []
    unfolding model_of
    none_picked = picked_none l.pool.dooming excess _ covered

    pool_stays : relieved_pool excess l ≡ model_of l
    pool_stays = ap (λ chosen. relieved chosen (model_of l)) none_picked ∙ nothing_relieved (model_of l)

    book_alone : lent_after noted_pool l ≡ lent l.pool (noted_book l.pool l.book allocated) l.textures l.retiring l.doomed l.spares l.newest l.stamps
    unfolding lent_after pool_after pacing_after head_after first_after textures_after retiring_after doomed_after spares_after newest_after stamps_after
    book_alone =
        let same = nothing_changed l f in
        ap (λ (p : PoolModel ℕ). lent_after (with_pacing noted_pool.pacing p) l) pool_stays
        ∙ (λ i. lent (same i).pool (noted_book l.pool l.book allocated) (same i).textures (same i).retiring (same i).doomed (same i).spares (same i).newest (same i).stamps)

    pub noted_covered : is_pool l ≡ true
        → (told_number 0, lent l.pool (noted_book l.pool l.book allocated) l.textures l.retiring l.doomed l.spares l.newest l.stamps)
        ≡ note_allocated_on l allocated
    unfolding note_allocated_on
    noted_covered e =
        sym (asked_accepted (λ a. a) l (λ (p : PoolModel ℕ). note_allocated p allocated) e tt noted_pool the_rule ∙ ap (λ (m : Lent). (answer tt, m)) book_alone)
