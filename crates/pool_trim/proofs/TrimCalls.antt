-- A trim on a pool: what its parts ask for, the lent memory after its pass, and the call. Assumes nothing.
use mathlib.Core.Path.{◌≡◌, refl, sym, ap, ap₂, ◌∙◌}
use mathlib.Core.Bool.{Bool, true, false, cond, not}
use mathlib.Core.List.{List, [], ◌∷◌, ◌++◌, map, flat_map}
use Prim.Native.Nat.{ℕ, ◌+◌, ◌-◌, ◌*◌, ◌/◌, ◌≤◌, ◌<◌, ◌^◌}
use native.Mathlib.Omega.{arith}
use borrow.Author.Tests.{lt-ltb, le-ltb}
use lib.Dec.{ltb}
use lib.ListN.{length, take, length-append}
use lib.Seq.{take_all}
use Rattle.base_blocks.specs.Lists.{keep, total}
use Rattle.pool_rules.specs.Model.{Doomed, VersionState, PoolModel, refused, accepted, limit, spare_bytes, doomed_bytes}
use Rattle.pool_rules.specs.Updates.{with_textures, doom_spares}
use Rattle.pool_rules.specs.Trim.{aged_count, thinned, idle, looked_at, trim}
use Rattle.pool_rules.proofs.Moves.{given_bytes}
use Rattle.pool_rules.proofs.Lists.{total_cut}
use Rattle.pool_records.specs.declared.texture.TextureRecord.{TextureRecord}
use Rattle.pool_records.specs.Recorded.{RecordedFits}
use Rattle.pool_records.specs.Starts.{grid_end, stamp_end}
use Rattle.pool_records.specs.Texture.{read_texture, texture_in}
use Rattle.pool_memory.specs.declared.pool.Pool.{Pool as Counts}
use Rattle.pool_memory.specs.Lent.{Lent, lent, version_places}
use Rattle.pool_memory.specs.Reading.{model_of}
use Rattle.pool_memory.specs.Writing.{pool_after, pacing_after, retiring_after, doomed_after, lent_after}
use Rattle.pool_memory.specs.IsPool.{is_pool}
use Rattle.pool_memory.specs.Calls.{refused_with, answer, trim_on}
use Rattle.pool_memory.proofs.Fits.{Fits}
use Rattle.pool_memory.proofs.FromPool.{enough, pool_fits}
use Rattle.pool_memory.proofs.Asked.{guard_passed, guard_refused, asked_refused, asked_accepted}
use Rattle.pool_memory.proofs.Runs.{tracked_model}
use Rattle.pool_memory.proofs.Rings.{hand_model, head_stays, first_stays, doomed_pushed}
use Rattle.pool_memory.proofs.Same.{book_same, queued_model, doomed_model}
use Rattle.pool_memory.proofs.Stays.{put_together, textures_fit_lem, doomed_fit_lem, retiring_stay, doomed_bound}
use Rattle.pool_memory.proofs.Counts.{count_spares}
use Rattle.pool_memory.proofs.Tracked.{history_fits_lem}
use Rattle.pool_access.proofs.Totals.{total_first}
use Rattle.pool_trim.specs.declared.look_at.Look.{Look}
use Rattle.pool_trim.specs.declared.pass.Pass.{Pass}
use Rattle.pool_trim.specs.LookAt.{look_at}
use Rattle.pool_trim.specs.Pass.{trimmed_one, given_one, trimmed, counts_trimmed}
use Rattle.pool_trim.specs.NothingAged.{all_young}
use Rattle.pool_forget_texture.proofs.TextureRuns.{spares_within, grids_few, stamps_few}
use Rattle.pool_trim.proofs.Steps.{given_to, kept_to}
use Rattle.pool_trim.proofs.Sofar.{Sofar}
use Rattle.pool_trim.proofs.Trimmed.{Seen, seen, record_now, grid_end_now, stamp_end_now, grid_read_lem, stamp_read}
use Rattle.pool_trim.proofs.YoungTextures.{nothing_trimmed}
use Rattle.grid_shapes.specs.ShapeConstants.{most_shape_bytes}
use Rattle.grid_stamps.specs.StampConstants.{page_stamps}
use Rattle.pool_records.specs.RecordConstants.{doomed_stride, retiring_stride, spare_stride, texture_stride}
use Rattle.pool_rules.specs.RuleConstants.{grid_stride, most_places}

-- ---- what a step asks for

pub textures_most : (l : Lent) → Fits l → (model_of l).places.textures ≤ most_places
textures_most l f = (enough (model_of l).places f.places).textures

module _ (l : Lent) (f : Fits l) (i : ℕ) (h : i < l.pool.tracked) where
  module _ (now : ℕ) (w : Pass) (T D S N P : List ℕ) (s : Sofar l now i w T D S N P) where
    pub look_fits : (texture_stride * l.pool.tracked ≤ length T) × (i < l.pool.tracked)
        × (spare_stride * (w.first + (texture_in T i).spares) ≤ length S)
        × ((texture_in T i).grid ≤ grid_end T l.pool.tracked l.pool.grids i)
        × ((texture_in T i).stamp ≤ stamp_end T l.pool.tracked l.pool.stamps i)
    look_fits =
        let here = record_now l now i w T D S N P f h s in (
          omega (arith, s.t_long, textures_fit_lem l f),
          h,
          omega (arith, s.s_long, s.first, ap (λ (t : TextureRecord). t.spares) here, spares_within l i h f, f.versions, f.spares),
          omega (arith, grid_end_now l now i w T D S N P f h s),
          omega (arith, stamp_end_now l now i w T D S N P f h s),
        )

    module _ (look : Look) (e : look ≡ look_at now l.pool T S i w.first) where
      abbrev n : Seen l w look
      n = seen l now i w T D S N P f h s look e

      pub push_fits : (doomed_stride * (length l.retiring / retiring_stride) ≤ length D) × (l.pool.first < length l.retiring / retiring_stride)
          × (l.pool.doomed + w.count + look.aged ≤ length l.retiring / retiring_stride) × (spare_stride * (w.first + look.aged) ≤ length S)
      unfolding version_places
      push_fits = (
        omega (arith, s.d_long, f.doomed),
        f.first,
        omega (arith, s.all, n.few, n.spares, f.versions),
        omega (arith, s.s_long, n.few, n.spares, f.versions, f.spares),
      )

      pub put_fits : (texture_stride * i + texture_stride ≤ length T) × (texture_stride * w.tracked + texture_stride ≤ length T) × RecordedFits (texture_in T i).history
          × (look.aged ≤ look.own) × (look.grid ≡ (texture_in T i).grid) × (look.stamp ≡ (texture_in T i).stamp)
      put_fits = (
        omega (arith, s.t_long, textures_fit_lem l f),
        omega (arith, s.t_long, s.fewer, textures_fit_lem l f),
        rw (record_now l now i w T D S N P f h s) (history_fits_lem l i h f),
        n.few,
        grid_read_lem l now i w T D S N P f h s look e,
        stamp_read l now i w T D S N P f h s look e,
      )

      pub history_moves : (w.grids ≤ look.grid) × (look.grid + look.grids ≤ length N) × (w.stamps ≤ look.stamp)
          × (look.stamp + look.stamps ≤ length P)
      history_moves = (
        n.low,
        omega (arith, n.grids, f.grids, s.n_long),
        n.stamps_low,
        omega (arith, n.stamps, f.stamps_counted, s.p_long),
      )

      pub pass_fits : (look.aged ≤ look.own) × (w.first + look.own ≤ most_places) × (w.tracked + look.staying ≤ most_places)
          × (w.kept + (look.own - look.aged) ≤ most_places) × (w.grids + look.grids ≤ grid_stride * (page_stamps * most_places))
          × (w.stamps + look.stamps ≤ page_stamps * most_places) × (w.count + look.aged ≤ most_places)
          × (w.freed + look.bytes * look.aged < 2 ^ 64)
      pass_fits =
          let spares : w.first + look.own ≤ most_places = omega (arith, n.spares, f.versions, f.most) in (
            n.few,
            spares,
            omega (arith, s.fewer, n.staying, f.tracked, textures_most l f),
            omega (arith, s.all, spares),
            omega (arith, n.low, n.grids, grids_few l f),
            omega (arith, n.stamps_low, n.stamps, stamps_few l f),
            omega (arith, s.all, n.few, spares),
            omega (arith, s.light, n.light, s.all, n.few, spares),
          )

-- ---- what the pass leaves

module _ (l : Lent) (f : Fits l) (now i : ℕ) (w : Pass) (T D S N P : List ℕ) (s : Sofar l now i w T D S N P) where
  -- no more was given up than was parked
  given_parked : doomed_bytes (given_to l now i) ≤ total spare_bytes (model_of l).textures
  unfolding given_one
  given_parked =
      let sum = given_bytes (λ (t : VersionState ℕ). aged_count now t.spares) (take i (model_of l).textures) in
      omega (arith, sum, total_cut spare_bytes i (model_of l).textures)

  few_given : w.count ≤ l.pool.kept
  few_given = omega (arith, s.all, s.first, f.kept, total_first texture_stride read_texture (λ t. t.spares) l.textures i l.pool.tracked s.at)

  pub counts_fit_lem : (l.pool.doomed + w.count ≤ most_places) × (l.pool.since ≤ most_places) × (w.freed ≤ l.pool.parked) × (l.pool.dooming + w.freed < 2 ^ 64)
  unfolding model_of
  counts_fit_lem =
      let dooming : l.pool.dooming ≤ most_shape_bytes * length (model_of l).doomed =
      omega (arith, f.formed.dooming, doomed_bound f.formed.doomed) in
      let few : w.count ≤ most_places = omega (arith, few_given, f.versions, f.most) in (
        omega (arith, few_given, f.versions, f.most),
        omega (arith, f.formed.since, doomed_model l, doomed_fit_lem l f, f.most),
        omega (arith, s.freed, given_parked, f.formed.parked),
        omega (arith, dooming, doomed_model l, doomed_fit_lem l f, f.most, s.light, few),
      )

  counts_left : counts_trimmed l.pool w ≡ pool_after (trimmed l now i) l
  unfolding counts_trimmed pool_after model_of trimmed
  counts_left = λ j. record {
    tracked = s.tracked j;
    kept = (s.kept ∙ sym (count_spares (kept_to l now i))) j;
    grids = s.grids j;
    stamps = s.stamps_used_lem j;
    head = sym (head_stays l (trimmed l now i) f.head (omega (arith, hand_model l f.hand))) j;
    popped = sym (hand_model l f.hand) j;
    queued = sym (queued_model l) j;
    first = sym (first_stays l (trimmed l now i) f.first (omega (arith, doomed_model l, length-append (model_of l).doomed (given_to l now i)))) j;
    doomed = sym (length-append (model_of l).doomed (given_to l now i) ∙ ap₂ (λ (m n : ℕ). m + n) (doomed_model l) (sym s.count)) j;
    since = ap (λ (n : ℕ). l.pool.since + n) s.count j;
    trackings = l.pool.trackings;
    parked = ap (λ (n : ℕ). l.pool.parked - n) s.freed j;
    dooming = ap (λ (n : ℕ). l.pool.dooming + n) s.freed j;
    cap = l.pool.cap;
    line = l.pool.line;
  }

  book_left : l.book ≡ pacing_after (trimmed l now i)
  unfolding pacing_after trimmed
  book_left = sym (book_same l f.mark)

  retiring_left : l.retiring ≡ retiring_after (trimmed l now i) l
  unfolding trimmed
  retiring_left = retiring_stay l f (trimmed l now i) refl refl

  doomed_left : D ≡ doomed_after (trimmed l now i) l
  unfolding version_places trimmed
  doomed_left = s.doomed ∙ doomed_pushed l (trimmed l now i) f.first (omega (arith, f.doomed)) (doomed_fit_lem l f) (given_to l now i) refl

  pub pass_done : l.pool.tracked ≤ i → (c : Counts) → c ≡ counts_trimmed l.pool w
      → lent c l.book T l.retiring D S N P ≡ lent_after (trimmed l now l.pool.tracked) l
  pass_done end c e =
      put_together (trimmed l now i) l c l.book T l.retiring D S N P (e ∙ counts_left) book_left s.textures retiring_left doomed_left
      s.spares s.newest s.stamps
      ∙ ap (λ (n : ℕ). lent_after (trimmed l now n) l) (let q : i ≡ l.pool.tracked = omega (arith, s.at) in q)

-- ---- the call

-- the rule, texture by texture
trimmed_all : (now : ℕ) (ts : List (VersionState ℕ))
    → map (looked_at now) (keep (λ (t : VersionState ℕ). not (idle now t)) (map (thinned now) ts)) ≡ flat_map (trimmed_one now) ts
unfolding keep flat_map trimmed_one
trimmed_all now [] = refl
trimmed_all now (t ∷ ts) = go (idle now (thinned now t)) (trimmed_all now ts)
  where
    go : (b : Bool) → map (looked_at now) (keep (λ (u : VersionState ℕ). not (idle now u)) (map (thinned now) ts)) ≡ flat_map (trimmed_one now) ts
        → map (looked_at now) (cond (not b) (thinned now t ∷ keep (λ (u : VersionState ℕ). not (idle now u)) (map (thinned now) ts))
        (keep (λ (u : VersionState ℕ). not (idle now u)) (map (thinned now) ts)))
        ≡ cond b [] (looked_at now (thinned now t) ∷ []) ++ flat_map (trimmed_one now) ts
    go true e = e
    go false e = ap (λ (us : List (VersionState ℕ)). looked_at now (thinned now t) ∷ us) e

module _ (l : Lent) (pool : is_pool l ≡ true) (now : ℕ) where
  abbrev whole : take l.pool.tracked (model_of l).textures ≡ (model_of l).textures
  whole = take_all l.pool.tracked (model_of l).textures (omega (arith, tracked_model l))

  rule_done : now ≤ limit → trim (model_of l) now ≡ accepted tt (trimmed l now l.pool.tracked)
  unfolding trim trimmed given_one
  rule_done h =
      guard_passed (ltb limit now) 3 _ (le-ltb limit now h)
      ∙ ap₂ (λ (ds : List (Doomed ℕ)) (ts : List (VersionState ℕ)). accepted tt (doom_spares ds (with_textures ts (model_of l))))
      (ap (flat_map (given_one now)) (sym whole)) (trimmed_all now (model_of l).textures ∙ ap (flat_map (trimmed_one now)) (sym whole))

  rule_late : limit < now → trim (model_of l) now ≡ refused 3
  unfolding trim
  rule_late h = guard_refused (ltb limit now) 3 _ (lt-ltb limit now h)

  pub trim_done : now ≤ limit → (r : Lent) → r ≡ lent_after (trimmed l now l.pool.tracked) l → (answer tt, r) ≡ trim_on l now
  unfolding trim_on
  trim_done h r e =
      ap (λ (x : Lent). (answer tt, x)) e
      ∙ sym (asked_accepted (λ a. a) l (λ (p : PoolModel ℕ). trim p now) pool tt (trimmed l now l.pool.tracked) (rule_done h))

  -- nothing has aged
  pub trim_nothing : now ≤ limit → {b : Bool} → b ≡ all_young now l.textures l.spares l.pool.tracked → b ≡ true
      → (answer tt, l) ≡ trim_on l now
  trim_nothing h e t = trim_done h l (sym (nothing_trimmed l (pool_fits l pool) now (sym e ∙ t)))

  pub trim_late : limit < now → (refused_with 3, l) ≡ trim_on l now
  unfolding trim_on
  trim_late h = sym (asked_refused (λ a. a) l (λ (p : PoolModel ℕ). trim p now) pool 3 (rule_late h))
