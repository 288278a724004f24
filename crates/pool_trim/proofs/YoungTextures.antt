-- Laws of textures that a trim leaves as they are: how one is told by its numbers, and that a pool of such textures stays. Assumes nothing.
use mathlib.Core.Path.{◌≡◌, refl, sym, ap, ap₂, ◌∙◌, subst}
use mathlib.Core.Bool.{Bool, true, false, ◌&&◌, not, and-false}
use mathlib.Core.List.{List, [], ◌∷◌, ◌++◌, flat_map, append-nil}
use Prim.Native.Nat.{ℕ, ◌+◌, ◌-◌, ◌*◌, ◌≤◌, ◌<◌}
use native.Mathlib.Nat.{add-zero, zero-add, sub-zero}
use native.Mathlib.Omega.{arith}
use borrow.Author.Tests.{lt-ltb, le-ltb, eq-eqb, ne_eqb, eqb-true, not-true}
use lib.Dec.{eqb}
use lib.ListN.{length, get_or}
use lib.Seq.{take_all}
use Rattle.base_blocks.specs.Lists.{listed, all, total}
use Rattle.base_blocks.specs.All.{All, nil, cons}
use Rattle.base_blocks.proofs.Lists.{and_both, all_get}
use Rattle.base_blocks.proofs.Listed.{length_listed, get_or_listed, listed_get_d, left, left_all, all_more, all_stop, all_done}
use Rattle.base_blocks.proofs.All.{all_listed}
use Rattle.pool_rules.specs.Model.{Doomed, VersionState, PoolModel}
use Rattle.pool_rules.specs.Updates.{with_textures, doom_spares}
use Rattle.pool_rules.specs.Trim.{aged, aged_count}
use Rattle.pool_records.specs.declared.texture.TextureRecord.{TextureRecord}
use Rattle.pool_records.specs.Texture.{read_texture, texture_in, spares_to}
use Rattle.pool_memory.specs.Lent.{Lent}
use Rattle.pool_memory.specs.Reading.{spare_read, state_read, model_of}
use Rattle.pool_memory.specs.Writing.{lent_after}
use Rattle.pool_memory.proofs.Fits.{Fits}
use Rattle.pool_memory.proofs.Runs.{state_of, tracked_model, model_at}
use Rattle.pool_memory.proofs.Stays.{nothing_changed}
use Rattle.pool_memory.proofs.Tracked.{record_read}
use Rattle.pool_access.proofs.Totals.{total_none, total_next, total_with}
use Rattle.pool_access.proofs.Fields.{spares_number}
use Rattle.pool_forget_texture.proofs.TextureRuns.{spares_in}
use Rattle.pool_trim.specs.LookAt.{spare_in}
use Rattle.pool_trim.specs.Pass.{trimmed_one, given_one, trimmed}
use Rattle.pool_trim.specs.NothingAged.{young_at, all_young}
use Rattle.pool_trim.proofs.Ages.{aged_from, aged_start, aged_more, aged_stop, aged_end, parked_at_lem, due_at}
use Rattle.pool_records.specs.RecordConstants.{spare_parked_at, spare_stride, texture_due_at, texture_spares_at, texture_stride}
use Rattle.pool_rules.specs.RuleConstants.{spare_max_idle_submits, state_max_idle_submits}

-- ---- the loop over n textures

-- the first i are young, and the spares of the next begin at place `first`
pub record YoungTo (now : ℕ) (textures spares : List ℕ) (n i first : ℕ) : Type 0 where
  pub at : i ≤ n
  pub begin : first ≡ spares_to textures i
  pub rest : all (young_at now textures spares) (left (λ k. k) n i) ≡ all_young now textures spares n

pub young_start : (now : ℕ) (textures spares : List ℕ) (n : ℕ) → YoungTo now textures spares n 0 0
unfolding all_young
young_start now textures spares n = record {
  at = omega arith;
  begin = sym (total_none texture_stride read_texture (λ (t : TextureRecord). t.spares) textures);
  rest = ap (all (young_at now textures spares)) (left_all (λ k. k) n);
}

module _ {now n i first : ℕ} {textures spares : List ℕ} (s : YoungTo now textures spares n i first) where
  pub young_end : n ≤ i → true ≡ all_young now textures spares n
  young_end h = sym (all_done (λ k. k) n (young_at now textures spares) i h) ∙ s.rest

  module _ (h : i < n) where
    abbrev t₀ : TextureRecord
    t₀ = texture_in textures i

    -- the numbers that are read
    abbrev due : ℕ
    due = get_or textures (texture_stride * i + texture_due_at) 0

    abbrev own : ℕ
    own = get_or textures (texture_stride * i + texture_spares_at) 0

    abbrev parked : ℕ
    parked = get_or spares (spare_stride * first + spare_parked_at) 0

    -- its spares lie within the slice
    pub run_fits : spare_stride * spares_to textures n ≤ length spares → spare_stride * (first + own) ≤ length spares
    run_fits fits = omega (arith, s.begin, spares_number textures i, total_with texture_stride read_texture (λ (t : TextureRecord). t.spares) textures i n h)

    stop : young_at now textures spares i ≡ false → false ≡ all_young now textures spares n
    stop e = sym (all_stop (λ k. k) n (young_at now textures spares) i h e) ∙ s.rest

    next : young_at now textures spares i ≡ true → YoungTo now textures spares n (i + 1) (first + own)
    next e = record {
      at = omega arith;
      begin = omega (arith, s.begin, spares_number textures i, total_next texture_stride read_texture (λ (t : TextureRecord). t.spares) textures i);
      rest = sym (all_more (λ k. k) n (young_at now textures spares) i h e) ∙ s.rest;
    }

    -- how many it gives up
    abbrev given : ℕ
    given = aged_count now (listed (spare_in spares) (spares_to textures i) t₀.spares)

    given_from : 0 + aged_from now (spare_in spares) (spares_to textures i) t₀.spares 0 ≡ given
    given_from = aged_start now (spare_in spares) (spares_to textures i) t₀.spares

    -- the first spare is the oldest
    parked_first : (spare_in spares (spares_to textures i + 0)).parked ≡ parked
    parked_first =
        ap (λ (k : ℕ). (spare_in spares k).parked) (let q : spares_to textures i + 0 ≡ first = omega (arith, s.begin) in q)
        ∙ parked_at_lem spares first

    pub due_aged : due < now - state_max_idle_submits → false ≡ all_young now textures spares n
    unfolding young_at
    due_aged d = stop (ap (λ (b : Bool). not b && eqb given 0) (lt-ltb (t₀.due + state_max_idle_submits) now (omega (arith, due_at textures i))))

    pub oldest_aged : (own ≡ 0 → ⊥) → parked < now - spare_max_idle_submits → false ≡ all_young now textures spares n
    unfolding young_at
    oldest_aged some q =
        let more = aged_more now (spare_in spares) (spares_to textures i) t₀.spares 0 (omega (arith, some, spares_number textures i))
        (omega (arith, parked_first)) in
        stop (ap (λ (b : Bool). not (aged now t₀.due) && b) (ne_eqb given 0 (λ z. let w : ⊥ = omega (arith, given_from, more) in w))
        ∙ and-false (not (aged now t₀.due)))

    module _ (d : now - state_max_idle_submits ≤ due) where
      none_aged : given ≡ 0 → young_at now textures spares i ≡ true
      unfolding young_at
      none_aged q = ap₂ (λ (a b : Bool). not a && b) (le-ltb (t₀.due + state_max_idle_submits) now (omega (arith, due_at textures i))) (eq-eqb given 0 q)

      pub no_spares : own ≡ 0 → YoungTo now textures spares n (i + 1) (first + own)
      no_spares none =
          let end = aged_end now (spare_in spares) (spares_to textures i) t₀.spares 0 (omega (arith, none, spares_number textures i)) in
          next (none_aged (omega (arith, given_from, end)))

      pub oldest_young : (own ≡ 0 → ⊥) → now - spare_max_idle_submits ≤ parked → YoungTo now textures spares n (i + 1) (first + own)
      oldest_young some q =
          let none = aged_stop now (spare_in spares) (spares_to textures i) t₀.spares 0 (omega (arith, some, spares_number textures i))
          (omega (arith, parked_first)) in
          next (none_aged (omega (arith, given_from, none)))

-- ---- textures of the model that a trim leaves as they are

-- the due number did not age, and no spare is given up
record Young (now : ℕ) (t : VersionState ℕ) : Type 0 where
  due : aged now t.due ≡ false
  spares : aged_count now t.spares ≡ 0

module _ (now : ℕ) where
  one_stays : (t : VersionState ℕ) → Young now t → trimmed_one now t ≡ t ∷ []
  unfolding trimmed_one
  one_stays t y = rw (y.spares, y.due)

  textures_stay : {ts : List (VersionState ℕ)} → All (Young now) ts → flat_map (trimmed_one now) ts ≡ ts
  unfolding flat_map
  textures_stay nil = refl
  textures_stay (cons {x = t} y ys) = ap₂ (λ (a b : List (VersionState ℕ)). a ++ b) (one_stays t y) (textures_stay ys)

  none_given : {ts : List (VersionState ℕ)} → All (Young now) ts → flat_map (given_one now) ts ≡ []
  unfolding flat_map given_one
  none_given nil = refl
  none_given (cons y ys) = rw y.spares (none_given ys)

-- no spare given up and the same textures: the same pool
pool_stays : (p : PoolModel ℕ) → doom_spares [] (with_textures p.textures p) ≡ p
unfolding total
pool_stays p = λ j. record {
  textures = p.textures;
  retiring = p.retiring;
  hand = p.hand;
  doomed = append-nil p.doomed j;
  since = add-zero p.since j;
  trackings = p.trackings;
  parked = sub-zero p.parked j;
  dooming = add-zero p.dooming j;
  places = p.places;
  budget = p.budget;
  pacing = p.pacing;
}

-- ---- a pool all of whose textures are young

module _ (l : Lent) (f : Fits l) (now : ℕ) (young : all_young now l.textures l.spares l.pool.tracked ≡ true) where
  young_at_lem : (i : ℕ) → i < l.pool.tracked → young_at now l.textures l.spares i ≡ true
  unfolding all_young
  young_at_lem i h =
      let test = young_at now l.textures l.spares in
      let n = l.pool.tracked in
      ap test (sym (get_or_listed (λ k. k) 0 n i 0 h ∙ zero-add i))
      ∙ all_get test (listed (λ k. k) 0 n) i 0 young (omega (arith, length_listed (λ k. k) 0 n))

  state_young : (i : ℕ) → i < l.pool.tracked → Young now (state_of l i)
  unfolding young_at state_of state_read spare_read
  state_young i h =
      let t = texture_in l.textures i in
      let given = aged_count now (listed (spare_in l.spares) (spares_to l.textures i) t.spares) in
      let tests = and_both (not (aged now t.due)) (eqb given 0) (young_at_lem i h) in
      record {
        due = ap (λ (u : TextureRecord). aged now u.due) (record_read l i h) ∙ not-true (aged now t.due) tests.0;
        spares = ap (aged_count now) (spares_in l i h) ∙ eqb-true given 0 tests.1;
      }

  all_young_lem : All (Young now) (model_of l).textures
  all_young_lem =
      let ts = (model_of l).textures in
      let d = state_of l 0 in
      subst (All (Young now)) (listed_get_d d ts)
      (all_listed (λ k. get_or ts k d) 0 (length ts)
      (λ j q. subst (Young now) (sym (ap (λ (k : ℕ). get_or ts k d) (zero-add j) ∙ model_at l j d (omega (arith, tracked_model l))))
      (state_young j (omega (arith, tracked_model l)))))

  model_stays : trimmed l now l.pool.tracked ≡ model_of l
  unfolding trimmed
  model_stays =
      let whole = take_all l.pool.tracked (model_of l).textures (omega (arith, tracked_model l)) in
      ap₂ (λ (ds : List (Doomed ℕ)) (ts : List (VersionState ℕ)). doom_spares ds (with_textures ts (model_of l)))
      (ap (flat_map (given_one now)) whole ∙ none_given now all_young_lem) (ap (flat_map (trimmed_one now)) whole ∙ textures_stay now all_young_lem)
      ∙ pool_stays (model_of l)

  pub nothing_trimmed : lent_after (trimmed l now l.pool.tracked) l ≡ l
  nothing_trimmed = ap (λ (p : PoolModel ℕ). lent_after p l) model_stays ∙ nothing_changed l f
