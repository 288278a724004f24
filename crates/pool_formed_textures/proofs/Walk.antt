-- What a pass over the histories learns at one texture: its own ends where the next one's begins, or past the last. Assumes nothing.
use mathlib.Core.Path.{◌≡◌, sym, ap, ap₂, ◌∙◌}
use mathlib.Core.Bool.{Bool, true, false, ◌&&◌, cond}
use mathlib.Core.List.{List, [], ◌∷◌}
use Prim.Native.Nat.{ℕ, ◌+◌, ◌-◌, ◌≤◌, ◌<◌}
use native.Mathlib.Decide.{dec_lt}
use native.Mathlib.Omega.{arith}
use borrow.Author.Tests.{eqb-true, leb-true, eq-eqb, le-leb, lt-ltb, le-ltb}
use lib.Dec.{eqb}
use lib.ListN.{length, take, drop}
use Rattle.base_blocks.specs.All.{nil, cons}
use Rattle.base_blocks.specs.Lists.{tests, after}
use Rattle.base_blocks.proofs.Lists.{and_both, passed}
use Rattle.base_blocks.proofs.Listed.{left, left_step, left_none}
use Rattle.pool_records.specs.declared.texture.TextureRecord.{TextureRecord}
use Rattle.pool_records.specs.Starts.{grid_end, stamp_end}
use Rattle.pool_records.specs.Texture.{texture_in, record_grids, record_stamps}
use Rattle.pool_formed_textures.specs.Textures.{history_fits, grids_hold, history_holds, histories_fit, run_fits}
use Rattle.pool_formed_textures.proofs.Tests.{pass_all, fails_by}
use Rattle.pool_formed_textures.proofs.HistoryTests.{part_size, part_holds, part_fits, walked}

-- ---- one run

run_passes : (start at end used : ℕ) → start ≡ at → at ≤ end → end ≤ used → run_fits start at end used ≡ true
unfolding run_fits
run_passes start at end used a b c = pass_all _ (cons (eq-eqb start at a) (cons (le-leb at end b) (cons (le-leb end used c) nil)))

module _ (start at end used : ℕ) (e : run_fits start at end used ≡ true) where
  run_start : start ≡ at
  unfolding run_fits
  run_start = eqb-true _ _ (passed _ e 0)

  pub run_order : at ≤ end
  unfolding run_fits
  run_order = leb-true _ _ (passed _ e 1)

  pub run_end : end ≤ used
  unfolding run_fits
  run_end = leb-true _ _ (passed _ e 2)

-- ---- at texture i

module _ (newest stamps s : List ℕ) (n grids used i grid stamp : ℕ) where
  abbrev rest_fits : ℕ → ℕ → ℕ → Bool
  rest_fits j g k = histories_fit newest stamps grids used g k (left (texture_in s) n j)

  pub walk_done : n ≤ i → rest_fits i grid stamp ≡ eqb grid grids && eqb stamp used
  unfolding histories_fit
  walk_done h = rw (left_none (texture_in s) n i h)

  -- what is left begins where the texture before it ends
  module _ (g k : ℕ) (e : rest_fits (i + 1) g k ≡ true) where
    before_next : i + 1 < n → (grid_end s n grids i ≡ g) × (stamp_end s n used i ≡ k)
    unfolding histories_fit grid_end stamp_end
    before_next q =
        let u = texture_in s (i + 1) in
        let f : tests (eqb u.grid g ∷ eqb u.stamp k ∷ history_holds newest stamps u ∷ rest_fits (i + 1 + 1) (g + record_grids u) (k + record_stamps u) ∷ []) ≡ true =
        rw (left_step (texture_in s) n (i + 1) q) at e in
        let c = lt-ltb (i + 1) n q in
        (ap (λ (b : Bool). cond b u.grid grids) c ∙ eqb-true u.grid g (passed _ f 0), ap (λ (b : Bool). cond b u.stamp used) c ∙ eqb-true u.stamp k (passed _ f 1))

    past_last : n ≤ i + 1 → (grid_end s n grids i ≡ g) × (stamp_end s n used i ≡ k)
    unfolding histories_fit grid_end stamp_end
    past_last q =
        let f : eqb g grids && eqb k used ≡ true = rw (left_none (texture_in s) n (i + 1) q) at e in
        let p = and_both (eqb g grids) (eqb k used) f in
        let c = le-ltb (i + 1) n q in
        let u = texture_in s (i + 1) in
        (ap (λ (b : Bool). cond b u.grid grids) c ∙ sym (eqb-true g grids p.0), ap (λ (b : Bool). cond b u.stamp used) c ∙ sym (eqb-true k used p.1))

    ends : (grid_end s n grids i ≡ g) × (stamp_end s n used i ≡ k)
    ends = go (dec_lt (i + 1) n)
      where
        go : Dec (i + 1 < n) → (grid_end s n grids i ≡ g) × (stamp_end s n used i ≡ k)
        go (yes q) = before_next q
        go (no q) = past_last (omega arith)

  module _ (h : i < n) where
    abbrev t : TextureRecord
    t = texture_in s i

    walk_step : rest_fits i grid stamp
        ≡ tests (eqb t.grid grid ∷ eqb t.stamp stamp ∷ history_holds newest stamps t ∷ rest_fits (i + 1) (grid + record_grids t) (stamp + record_stamps t) ∷ [])
    unfolding histories_fit
    walk_step = rw (left_step (texture_in s) n i h)

    -- what holds of it where all that is left fits
    record Here : Type 0 where
      grid_start_lem : t.grid ≡ grid
      stamp_start : t.stamp ≡ stamp
      grid_end_lem : grid_end s n grids i ≡ grid + record_grids t
      stamp_end_lem : stamp_end s n used i ≡ stamp + record_stamps t
      grid_room : grid + record_grids t ≤ grids
      stamp_room : stamp + record_stamps t ≤ used
      holds : history_holds newest stamps t ≡ true

    here : rest_fits i grid stamp ≡ true → Here
    here e =
        let f = sym walk_step ∙ e in
        let later = passed _ f 3 in
        let z = ends (grid + record_grids t) (stamp + record_stamps t) later in
        let w = walked newest stamps grids used (grid + record_grids t) (stamp + record_stamps t) (left (texture_in s) n (i + 1)) later in
        record {
          grid_start_lem = eqb-true t.grid grid (passed _ f 0);
          stamp_start = eqb-true t.stamp stamp (passed _ f 1);
          grid_end_lem = z.0;
          stamp_end_lem = z.1;
          grid_room = omega (arith, w.grid_sum);
          stamp_room = omega (arith, w.stamp_sum);
          holds = passed _ f 2;
        }

    -- its grids begin elsewhere or end past those in use
    pub grid_stop : (start last : ℕ) → start ≡ t.grid → last ≡ grid_end s n grids i → run_fits start grid last grids ≡ false → rest_fits i grid stamp ≡ false
    grid_stop start last es el f =
        fails_by (rest_fits i grid stamp) (run_fits start grid last grids) f
        (λ p. let w = here p in run_passes start grid last grids (es ∙ w.grid_start_lem) (omega (arith, el, w.grid_end_lem)) (omega (arith, el, w.grid_end_lem, w.grid_room)))

    -- or its stamps
    pub stamp_stop : (start end : ℕ) → start ≡ t.stamp → end ≡ stamp_end s n used i → run_fits start stamp end used ≡ false → rest_fits i grid stamp ≡ false
    stamp_stop start end es ee f =
        fails_by (rest_fits i grid stamp) (run_fits start stamp end used) f
        (λ p. let w = here p in run_passes start stamp end used (es ∙ w.stamp_start) (omega (arith, ee, w.stamp_end_lem)) (omega (arith, ee, w.stamp_end_lem, w.stamp_room)))

    module _ (u : TextureRecord) (e : u ≡ t) (first begin last end : ℕ) (ef : first ≡ t.grid) (eb : begin ≡ t.stamp) (el : last ≡ grid_end s n grids i) (ee : end ≡ stamp_end s n used i)
        (rg : run_fits first grid last grids ≡ true) (rs : run_fits begin stamp end used ≡ true) (few : grids ≤ length newest) (enough : used ≤ length stamps) where
      abbrev fits : TextureRecord → Bool
      fits r = history_fits r.shape r.history (take (last - grid) (drop grid newest)) (take (end - stamp) (drop stamp stamps))

      last_in : last ≤ length newest
      last_in = omega (arith, run_end first grid last grids rg, few)

      end_in : end ≤ length stamps
      end_in = omega (arith, run_end begin stamp end used rs, enough)

      -- where it begins is where its record says
      grid_at_lem : t.grid ≡ grid
      grid_at_lem = sym ef ∙ run_start first grid last grids rg

      stamp_at_lem : t.stamp ≡ stamp
      stamp_at_lem = sym eb ∙ run_start begin stamp end used rs

      holds_there : history_holds newest stamps t ≡ grids_hold newest stamps t.shape grid stamp t.history
      unfolding history_holds
      holds_there = ap₂ (λ (g k : ℕ). grids_hold newest stamps t.shape g k t.history) grid_at_lem stamp_at_lem

      -- its history does not fit
      pub history_stop : fits u ≡ false → rest_fits i grid stamp ≡ false
      history_stop f =
          fails_by (rest_fits i grid stamp) (fits t) (sym (ap fits e) ∙ f)
          (λ p.
          let w = here p in
          part_fits newest stamps grid last stamp end (run_order first grid last grids rg) last_in (run_order begin stamp end used rs) end_in t.shape t.history
          (el ∙ w.grid_end_lem) (ee ∙ w.stamp_end_lem) (sym holds_there ∙ w.holds))

      -- or does, and those behind it decide
      pub walk_more : fits u ≡ true → rest_fits i grid stamp ≡ rest_fits (i + 1) last end
      unfolding tests after
      walk_more f =
          let o = run_order first grid last grids rg in
          let q = run_order begin stamp end used rs in
          let f' = sym (ap fits e) ∙ f in
          let z = part_size newest stamps grid last stamp end o last_in q end_in t.shape t.history f' in
          let holds : history_holds newest stamps t ≡ true = holds_there ∙ part_holds newest stamps grid last stamp end o last_in q end_in t.shape t.history f' in
          walk_step ∙ rw (eq-eqb t.grid grid grid_at_lem, eq-eqb t.stamp stamp stamp_at_lem, holds) (ap₂ (rest_fits (i + 1)) (sym z.0) (sym z.1))
