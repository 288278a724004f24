-- `pop_retired` on a pool, case by case. Assumes nothing.
use mathlib.Core.Path.{◌≡◌, refl, sym, ap, ap₂, ◌∙◌}
use mathlib.Core.Bool.{Bool, true, false, cond}
use mathlib.Core.Option.{none, some}
use mathlib.Core.List.{List, ◌∷◌}
use Prim.Native.Nat.{ℕ, zero, suc, ◌-◌, ◌*◌, ◌/◌, ◌≤◌, ◌<◌}
use native.Mathlib.Omega.{arith}
use borrow.Author.Tests.{lt-ltb, le-ltb, le-leb, lt-leb}
use lib.Dec.{ltb}
use lib.ListN.{length}
use Rattle.base_blocks.specs.Lists.{listed}
use Rattle.base_blocks.proofs.Listed.{length_listed}
use Rattle.base_tables.specs.Rings.{along}
use Rattle.pool_records.specs.declared.retiring.RetiringRecord.{RetiringRecord}
use Rattle.pool_records.specs.Retiring.{read_retiring}
use Rattle.pool_records.specs.Views.{retiring_of}
use Rattle.pool_rules.specs.Model.{Retiring, PoolModel, accepted, guard, limit}
use Rattle.pool_rules.specs.Updates.{with_retiring}
use Rattle.pool_rules.specs.PopRetired.{pop_front, is_held, pop_retired}
use Rattle.pool_memory.specs.Lent.{Lent, lent, version_places}
use Rattle.pool_memory.specs.Reading.{hand_read, retiring_read, model_of}
use Rattle.pool_memory.specs.Writing.{pool_after}
use Rattle.pool_memory.specs.IsPool.{is_pool}
use Rattle.pool_memory.specs.Calls.{refused_with, answer, popped_of, pop_retired_on}
use Rattle.pool_memory.proofs.Fits.{Fits}
use Rattle.pool_memory.proofs.FromPool.{pool_fits}
use Rattle.pool_memory.proofs.Asked.{guard_passed, guard_refused, asked_refused, asked_accepted}
use Rattle.pool_memory.proofs.Runs.{tracked_model, kept_model, grids_model, stamps_used_model}
use Rattle.pool_memory.proofs.Rings.{head_stays, first_stays, retiring_popped}
use Rattle.pool_memory.proofs.Same.{doomed_model}
use Rattle.pool_memory.proofs.Stays.{put_together, nothing_changed, book_stays, textures_stay, spares_stay, newest_stay, stamps_stay, doomed_stay, ring_fits}
use Rattle.pool_retire.specs.Counts.{front_popped}
use Rattle.pool_records.specs.RecordConstants.{retiring_stride}

-- the ring is in its slice, and its head in the ring
pub ring_room : (l : Lent) → Fits l → (retiring_stride * (length l.retiring / retiring_stride) ≤ length l.retiring) × (l.pool.head < length l.retiring / retiring_stride) × (0 < length l.retiring / retiring_stride)
unfolding version_places
ring_room l f = (omega (arith, f.retiring), f.head, f.least)

-- the ring's front, by the record that the code reads
pub front_read : (l : Lent) (x : RetiringRecord) → x ≡ along retiring_stride read_retiring (length l.retiring / retiring_stride) l.pool.head l.retiring 0
    → retiring_of x ≡ retiring_read l 0
unfolding retiring_read version_places
front_read l x read = ap retiring_of read

-- whether one is in the hand, by their number
hand_held : (l : Lent) → (l.pool.popped ≡ 0 → ⊥) → is_held (model_of l).hand ≡ true
unfolding model_of
hand_held l = go l.pool.popped
  where
    go : (n : ℕ) → (n ≡ 0 → ⊥) → is_held (hand_read l n) ≡ true
    go zero h = absurd (h refl)
    go (suc n) h = refl

hand_free : (l : Lent) → l.pool.popped ≡ 0 → is_held (model_of l).hand ≡ false
unfolding model_of
hand_free l q = ap (λ (n : ℕ). is_held (hand_read l n)) q

module _ (l : Lent) (e : is_pool l ≡ true) (settled : ℕ) where
  fits : Fits l
  fits = pool_fits l e

  -- a bad submission
  pub pop_late : limit < settled → (refused_with 3, l) ≡ pop_retired_on l settled
  unfolding pop_retired_on pop_retired
  pop_late h =
      sym (asked_refused popped_of l (λ (p : PoolModel ℕ). pop_retired p settled) e 3
      (guard_refused (ltb limit settled) 3 (guard (is_held (model_of l).hand) 9 (pop_front (model_of l) settled (model_of l).retiring)) (lt-ltb limit settled h)))

  module _ (h : settled ≤ limit) where
    in_time : pop_retired (model_of l) settled ≡ guard (is_held (model_of l).hand) 9 (pop_front (model_of l) settled (model_of l).retiring)
    unfolding pop_retired
    in_time = guard_passed (ltb limit settled) 3 (guard (is_held (model_of l).hand) 9 (pop_front (model_of l) settled (model_of l).retiring)) (le-ltb limit settled h)

    -- one was popped and not parked yet
    pub pop_full : (l.pool.popped ≡ 0 → ⊥) → (refused_with 9, l) ≡ pop_retired_on l settled
    unfolding pop_retired_on
    pop_full q =
        sym (asked_refused popped_of l (λ (p : PoolModel ℕ). pop_retired p settled) e 9
        (in_time ∙ guard_refused (is_held (model_of l).hand) 9 (pop_front (model_of l) settled (model_of l).retiring) (hand_held l q)))

    module _ (q : l.pool.popped ≡ 0) where
      free : pop_retired (model_of l) settled ≡ pop_front (model_of l) settled (model_of l).retiring
      free = in_time ∙ guard_passed (is_held (model_of l).hand) 9 (pop_front (model_of l) settled (model_of l).retiring) (hand_free l q)

      nothing : pop_retired (model_of l) settled ≡ accepted none (model_of l) → (answer none, l) ≡ pop_retired_on l settled
      unfolding pop_retired_on
      nothing k =
          sym (asked_accepted popped_of l (λ (p : PoolModel ℕ). pop_retired p settled) e none (model_of l) k
          ∙ ap (λ (l' : Lent). (answer none, l')) (nothing_changed l fits))

      queue : (n : ℕ) → l.pool.queued ≡ n → (model_of l).retiring ≡ listed (retiring_read l) 0 n
      unfolding model_of
      queue n k = ap₂ (listed (retiring_read l)) q k

      -- nothing is queued
      pub pop_none : l.pool.queued ≡ 0 → (answer none, l) ≡ pop_retired_on l settled
      unfolding listed
      pop_none k = nothing (free ∙ ap (pop_front (model_of l) settled) (queue 0 k))

      -- the front, and those after it
      module _ (some-queued : 0 < l.pool.queued) where
        front : (model_of l).retiring ≡ retiring_read l 0 ∷ listed (retiring_read l) 1 (l.pool.queued - 1)
        unfolding listed
        front = queue (suc (l.pool.queued - 1)) (omega arith)

        pop_unsettled : settled < (retiring_read l 0).seq → (answer none, l) ≡ pop_retired_on l settled
        pop_unsettled k =
            nothing (free ∙ ap (pop_front (model_of l) settled) front
            ∙ ap
            (λ (b : Bool). cond b (accepted (some (retiring_read l 0)) (with_retiring (listed (retiring_read l) 1 (l.pool.queued - 1)) (some (retiring_read l 0)) (model_of l))) (accepted none (model_of l)))
            (lt-leb (retiring_read l 0).seq settled k))

        abbrev rest : List (Retiring ℕ)
        rest = listed (retiring_read l) 1 (l.pool.queued - 1)

        abbrev popped : PoolModel ℕ
        popped = with_retiring rest (some (retiring_read l 0)) (model_of l)

        counts : front_popped l.pool ≡ pool_after popped l
        unfolding pool_after model_of
        counts = λ i. record {
          tracked = sym (tracked_model l) i;
          kept = sym (kept_model l ∙ fits.kept) i;
          grids = sym (grids_model l ∙ fits.claimed) i;
          stamps = sym (stamps_used_model l ∙ fits.stamps_claimed) i;
          head = sym (head_stays l popped fits.head (omega (arith, q))) i;
          popped = 1;
          queued = sym (length_listed (retiring_read l) 1 (l.pool.queued - 1)) i;
          first = sym (first_stays l popped fits.first (omega (arith, doomed_model l))) i;
          doomed = sym (doomed_model l) i;
          since = l.pool.since;
          trackings = l.pool.trackings;
          parked = l.pool.parked;
          dooming = l.pool.dooming;
          cap = l.pool.cap;
          line = l.pool.line;
        }

        -- the front is settled: it is in the hand
        pop_front_lem : (retiring_read l 0).seq ≤ settled
            → (answer (some (record { id = (retiring_read l 0).id; view = (retiring_read l 0).view })), lent (front_popped l.pool) l.book l.textures l.retiring l.doomed l.spares l.newest l.stamps)
            ≡ pop_retired_on l settled
        unfolding pop_retired_on
        pop_front_lem k =
            let r : pop_retired (model_of l) settled ≡ accepted (some (retiring_read l 0)) popped =
            free ∙ ap (pop_front (model_of l) settled) front
            ∙ ap (λ (b : Bool). cond b (accepted (some (retiring_read l 0)) popped) (accepted none (model_of l))) (le-leb (retiring_read l 0).seq settled k) in
            sym (asked_accepted popped_of l (λ (p : PoolModel ℕ). pop_retired p settled) e (some (retiring_read l 0)) popped r
            ∙ ap (λ (l' : Lent). (answer (some (record { id = (retiring_read l 0).id; view = (retiring_read l 0).view })), l'))
            (sym (put_together popped l (front_popped l.pool) l.book l.textures l.retiring l.doomed l.spares l.newest l.stamps counts
            (book_stays l fits popped refl) (textures_stay l fits popped refl)
            (sym (retiring_popped l popped fits.head (omega (arith, fits.retiring)) fits.hand (ring_fits l fits) (retiring_read l 0) q front refl))
            (doomed_stay l fits popped refl) (spares_stay l fits popped refl) (newest_stay l fits popped refl) (stamps_stay l fits popped refl))))

        -- the same by the record that the code reads
        module _ (x : RetiringRecord) (read : x ≡ along retiring_stride read_retiring (length l.retiring / retiring_stride) l.pool.head l.retiring 0) where
          as_read : retiring_of x ≡ retiring_read l 0
          as_read = front_read l x read

          pub unsettled_front : settled < x.seq → (answer none, l) ≡ pop_retired_on l settled
          unsettled_front k = pop_unsettled (omega (arith, ap (λ (v : Retiring ℕ). v.seq) as_read))

          pub settled_front : x.seq ≤ settled
              → (answer (some (record { id = x.id; view = x.view })), lent (front_popped l.pool) l.book l.textures l.retiring l.doomed l.spares l.newest l.stamps)
              ≡ pop_retired_on l settled
          settled_front k =
              ap (λ (v : Retiring ℕ). (answer (some (record { id = v.id; view = v.view })), lent (front_popped l.pool) l.book l.textures l.retiring l.doomed l.spares l.newest l.stamps)) as_read
              ∙ pop_front_lem (omega (arith, ap (λ (v : Retiring ℕ). v.seq) as_read))
