-- `retire` on a pool: refused as the model's rule refuses, or the version queued after the others. Assumes nothing.
use mathlib.Core.Path.{◌≡◌, refl, sym, ap, ap₂, ◌∙◌}
use mathlib.Core.Bool.{Bool, true, false, cond}
use mathlib.Core.Option.{Option}
use mathlib.Core.List.{List, [], ◌∷◌, ◌++◌, map, flat_map}
use Prim.Native.Nat.{ℕ, ◌+◌, ◌*◌, ◌/◌, ◌≤◌, ◌<◌}
use native.Mathlib.Omega.{arith}
use borrow.Author.Tests.{ne_eqb}
use lib.Dec.{leb, ltb}
use lib.ListN.{length, length-append}
use lib.Seq.{sets}
use Rattle.base_tables.specs.Rings.{place_of}
use Rattle.pool_rules.specs.Model.{Retiring, VersionState, PoolModel, accepted, guard, find, limit}
use Rattle.pool_rules.specs.HistorySizes.{newest_used, stamps_used}
use Rattle.pool_rules.specs.Updates.{with_birth, with_textures, with_retiring, change}
use Rattle.pool_rules.specs.Retire.{retired, retire}
use Rattle.pool_rules.proofs.States.{length_change, total_unchanged}
use Rattle.pool_records.specs.declared.texture.TextureRecord.{TextureRecord}
use Rattle.pool_records.specs.declared.retiring.RetiringRecord.{RetiringRecord}
use Rattle.pool_records.specs.Texture.{write_texture}
use Rattle.pool_records.specs.Retiring.{write_retiring}
use Rattle.pool_records.specs.Find.{below, has_id}
use Rattle.pool_memory.specs.declared.pool.Pool.{Pool as Counts}
use Rattle.pool_memory.specs.Lent.{Lent, lent, version_places}
use Rattle.pool_memory.specs.Reading.{tracked_records, model_of}
use Rattle.pool_memory.specs.Writing.{texture_records, retiring_record, every_spare, textures_after, retiring_after, pool_after}
use Rattle.pool_memory.specs.IsPool.{is_pool}
use Rattle.pool_memory.specs.Calls.{refused_with, answer, told_number, retire_on}
use Rattle.pool_memory.proofs.Fits.{Fits}
use Rattle.pool_memory.proofs.FromPool.{pool_fits, version_places_lem}
use Rattle.pool_memory.proofs.Asked.{asked_refused, asked_accepted}
use Rattle.pool_memory.proofs.Parts.{flat_mapped}
use Rattle.pool_memory.proofs.Runs.{spare_count, first_grid, first_stamp, state_of, tracked_model, kept_model, grids_model, stamps_used_model}
use Rattle.pool_memory.proofs.Rings.{hand_model, head_stays, first_stays, retiring_pushed}
use Rattle.pool_memory.proofs.Same.{queued_model, doomed_model}
use Rattle.pool_memory.proofs.Kept.{kept_history}
use Rattle.pool_memory.proofs.Starts.{textures_set}
use Rattle.pool_memory.proofs.Stays.{put_together, book_stays, textures_stay, spares_stay, newest_stay, stamps_stay, doomed_stay}
use Rattle.pool_memory.proofs.Tracked.{texture_at, record_at_lem}
use Rattle.pool_retire.specs.Counts.{ring_count, one_queued}
use Rattle.pool_retire.specs.Noted.{last_queued, retire_refusal, retired_record, born_at}
use Rattle.pool_retire.proofs.Noted.{model_tracked, model_untracked}
use Rattle.pool_retire.proofs.Tracked.{map_change, inside, found_here, found_nowhere, changed_here, changed_nowhere}
use Rattle.pool_retire.proofs.RetireRefusals.{place_left, guards_refused, guards_passed, last_model, used_model}
use Rattle.pool_records.specs.RecordConstants.{retiring_stride, texture_stride}
use Rattle.pool_rules.specs.RuleConstants.{most_places}

-- as the code counts them
abbrev places : Lent → ℕ
places l = length l.retiring / retiring_stride

pub refusal_fits : (l : Lent) → Fits l
    → (retiring_stride * places l ≤ length l.retiring) × (l.pool.head < places l) × (ring_count l.pool + l.pool.kept + l.pool.doomed ≤ places l)
    × (places l ≤ most_places)
unfolding version_places
refusal_fits l f = (omega (arith, f.retiring), f.head, omega (arith, f.versions), f.most)

pub queued_fits : (l : Lent) → Fits l → l.pool.queued ≤ most_places
queued_fits l f = omega (arith, f.versions, f.most)

pub count_fits : (l : Lent) → Fits l → ring_count l.pool ≤ most_places
count_fits l f = omega (arith, f.versions, f.most)

module _ (l : Lent) (e : is_pool l ≡ true) (id view seq : ℕ) where
  fits : Fits l
  fits = pool_fits l e

  abbrev version : Retiring ℕ
  version = retired id view seq (find id (model_of l).textures)

  abbrev born : List (VersionState ℕ)
  born = change id (with_birth seq) (model_of l).textures

  abbrev queued : PoolModel ℕ
  queued = with_textures born (with_retiring ((model_of l).retiring ++ (version ∷ [])) (model_of l).hand (model_of l))

  abbrev refusal_of : ℕ
  refusal_of = retire_refusal l.pool l.retiring (places l) seq

  place_count : (model_of l).places.versions ≡ places l
  unfolding version_places
  place_count = version_places_lem l

  rule : retire (model_of l) id view seq
      ≡ guard (ltb limit seq) 3
      (guard (leb (places l) (ring_count l.pool + l.pool.kept + l.pool.doomed)) 7
      (guard (ltb seq (last_queued l.pool l.retiring (places l))) 8 (accepted tt queued)))
  unfolding retire
  rule = λ i. guard (ltb limit seq) 3 (guard (leb (place_count i) (used_model l fits i)) 7 (guard (ltb seq (last_model l i)) 8 (accepted tt queued)))

  pub retire_refused : (n : ℕ) → n ≡ refusal_of → (n ≡ 0 → ⊥) → (told_number n, l) ≡ retire_on l id view seq
  unfolding retire_on retire_refusal
  retire_refused n q h =
      ap (λ (b : Bool). (cond b (answer tt) (refused_with n), l)) (ne_eqb n 0 h)
      ∙ sym (asked_refused (λ a. a) l (λ (p : PoolModel ℕ). retire p id view seq) e n
      (rule ∙ guards_refused (accepted tt queued) (ltb limit seq) (leb (places l) (ring_count l.pool + l.pool.kept + l.pool.doomed))
      (ltb seq (last_queued l.pool l.retiring (places l))) n q h))

  -- nothing is refused
  module _ (passed : 0 ≡ refusal_of) where
    rule_passed : retire (model_of l) id view seq ≡ accepted tt queued
    unfolding retire_refusal
    rule_passed =
        rule ∙ guards_passed (accepted tt queued) (ltb limit seq) (leb (places l) (ring_count l.pool + l.pool.kept + l.pool.doomed))
        (ltb seq (last_queued l.pool l.retiring (places l))) (sym passed)

    -- there is a place after the ring's last
    pub push_fits : (retiring_stride * places l ≤ length l.retiring) × (l.pool.head < places l) × (ring_count l.pool < places l)
    push_fits =
        let b = refusal_fits l fits in
        (b.0, b.1, omega (arith, place_left l.pool l.retiring (places l) seq (sym passed)))

    -- ---- what is left, part by part

    paged : map kept_history born ≡ map kept_history (model_of l).textures
    paged = map_change kept_history id (with_birth seq) (λ t. refl) (model_of l).textures

    spares_kept : every_spare born ≡ every_spare (model_of l).textures
    spares_kept =
        flat_mapped (λ (t : VersionState ℕ). t.spares) (λ ss. ss) born
        ∙ ap (λ sss. flat_map (λ ss. ss) sss) (map_change (λ (t : VersionState ℕ). t.spares) id (with_birth seq) (λ t. refl) (model_of l).textures)
        ∙ sym (flat_mapped (λ (t : VersionState ℕ). t.spares) (λ ss. ss) (model_of l).textures)

    counts : one_queued l.pool ≡ pool_after queued l
    unfolding pool_after model_of
    counts = λ i. record {
      tracked = sym (length_change id (with_birth seq) (model_of l).textures ∙ tracked_model l) i;
      kept = sym (total_unchanged spare_count id (with_birth seq) (λ t. refl) (model_of l).textures ∙ kept_model l ∙ fits.kept) i;
      grids = sym (total_unchanged newest_used id (with_birth seq) (λ t. refl) (model_of l).textures ∙ grids_model l ∙ fits.claimed) i;
      stamps = sym (total_unchanged stamps_used id (with_birth seq) (λ t. refl) (model_of l).textures ∙ stamps_used_model l ∙ fits.stamps_claimed) i;
      head = sym (head_stays l queued fits.head (omega (arith, hand_model l fits.hand))) i;
      popped = sym (hand_model l fits.hand) i;
      queued = sym (length-append (model_of l).retiring (version ∷ []) ∙ ap (λ (n : ℕ). n + 1) (queued_model l)) i;
      first = sym (first_stays l queued fits.first (omega (arith, doomed_model l))) i;
      doomed = sym (doomed_model l) i;
      since = l.pool.since;
      trackings = l.pool.trackings;
      parked = l.pool.parked;
      dooming = l.pool.dooming;
      cap = l.pool.cap;
      line = l.pool.line;
    }

    -- i is where the search for the texture ended
    module _ (i : ℕ) (at : i ≡ below id (tracked_records l)) where
      abbrev here : Bool
      here = has_id l.textures l.pool.tracked i id

      textures_left : (b : Bool) → here ≡ b
          → cond b (sets l.textures (texture_stride * i) (write_texture (born_at seq (texture_at l i)))) l.textures ≡ textures_after queued l
      textures_left false q = textures_stay l fits queued (ap (texture_records 0 0) (changed_nowhere l fits id i at q (with_birth seq)))
      textures_left true q =
          let h = inside l fits id i at q in
          ap (λ (t : TextureRecord). sets l.textures (texture_stride * i) (write_texture (born_at seq t))) (sym (record_at_lem l i h fits))
          ∙ textures_set l queued fits i (with_birth seq (state_of l i)) h (changed_here l fits id i at q (with_birth seq)) refl refl

      version_noted : (b : Bool) → here ≡ b → retiring_record version ≡ retired_record b (texture_at l i) id view seq
      version_noted false q =
          ap (λ (o : Option (VersionState ℕ)). retiring_record (retired id view seq o)) (found_nowhere l fits id i at q)
          ∙ model_untracked (texture_at l i) id view seq
      version_noted true q =
          ap (λ (o : Option (VersionState ℕ)). retiring_record (retired id view seq o)) (found_here l fits id i at q)
          ∙ model_tracked (first_grid l i) (first_stamp l i) (state_of l i) id view seq
          ∙ ap (λ (t : TextureRecord). retired_record true t id view seq) (record_at_lem l i (inside l fits id i at q) fits)

      retiring_left : sets l.retiring (retiring_stride * place_of (places l) l.pool.head (ring_count l.pool)) (write_retiring (retiring_record version))
          ≡ retiring_after queued l
      unfolding version_places
      retiring_left = retiring_pushed l queued fits.head (omega (arith, fits.retiring)) fits.hand version push_fits.2 refl refl

      pub retire_accepted : (v : RetiringRecord) (n : ℕ) (c : Counts) (textures retiring : List ℕ)
          → v ≡ retired_record here (texture_at l i) id view seq
          → textures ≡ cond here (sets l.textures (texture_stride * i) (write_texture (born_at seq (texture_at l i)))) l.textures
          → n ≡ ring_count l.pool
          → retiring ≡ sets l.retiring (retiring_stride * place_of (places l) l.pool.head n) (write_retiring v)
          → c ≡ one_queued l.pool
          → (told_number 0, lent c l.book textures retiring l.doomed l.spares l.newest l.stamps) ≡ retire_on l id view seq
      unfolding retire_on
      retire_accepted v n c textures retiring e1 e2 e3 e4 e5 =
          ap (λ (m : Lent). (answer tt, m))
          (put_together queued l c l.book textures retiring l.doomed l.spares l.newest l.stamps
          (e5 ∙ counts)
          (book_stays l fits queued refl)
          (e2 ∙ textures_left here refl)
          (e4 ∙ ap₂ (λ (k : ℕ) (x : RetiringRecord). sets l.retiring (retiring_stride * place_of (places l) l.pool.head k) (write_retiring x)) e3
          (e1 ∙ sym (version_noted here refl))
          ∙ retiring_left)
          (doomed_stay l fits queued refl) (spares_stay l fits queued spares_kept) (newest_stay l fits queued paged)
          (stamps_stay l fits queued paged))
          ∙ sym (asked_accepted (λ a. a) l (λ (p : PoolModel ℕ). retire p id view seq) e tt queued rule_passed)
