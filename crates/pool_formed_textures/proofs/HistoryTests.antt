-- What a pass learns at one history and along the histories. Assumes nothing.
use mathlib.Core.Path.{◌≡◌, refl, sym, ap, ap₂, ◌∙◌}
use mathlib.Core.Bool.{Bool, true, ◌&&◌}
use mathlib.Core.List.{List, [], ◌∷◌}
use Prim.Native.Nat.{ℕ, zero, suc, ◌+◌, ◌*◌, ◌-◌, ◌≤◌, ◌<◌}
use native.Mathlib.Nat.{zero-add}
use native.Mathlib.Omega.{arith}
use borrow.Author.Tests.{eqb-true, eq-eqb}
use lib.Dec.{eqb}
use lib.ListN.{length, take, drop, get_or, length-drop}
use lib.Seq.{get_or-take, get_or-drop, take-take, drop-drop, length-take-le}
use Rattle.base_blocks.specs.All.{nil, cons}
use Rattle.base_blocks.specs.Lists.{all, listed, total}
use Rattle.base_blocks.proofs.Lists.{and_both, passed}
use Rattle.base_blocks.proofs.Listed.{listed_same}
use Rattle.base_unequal.specs.Unequal.{starts_fit}
use Rattle.grid_shapes.specs.declared.shape.VersionShape.{VersionShape}
use Rattle.grid_stamps.specs.Grids.{grid_in}
use Rattle.pool_rules.specs.Model.{grid_count}
use Rattle.pool_rules.specs.HistorySizes.{grid_size, grid_places, grid_start, history_size}
use Rattle.pool_rules.specs.RuleConstants.{grid_stride}
use Rattle.pool_rules.proofs.HistorySizes.{grid_end_lem}
use Rattle.pool_records.specs.Recorded.{Recorded}
use Rattle.std.specs.Prelude.{Some, None}
use Rattle.pool_records.specs.declared.texture.TextureRecord.{TextureRecord}
use Rattle.pool_records.specs.Tilings.{tiling_number}
use Rattle.pool_records.specs.Texture.{recorded_grids, record_grids, recorded_stamps, record_stamps}
use Rattle.pool_memory.specs.IsPool.{is_grid}
use Rattle.pool_memory.proofs.Runs.{first_grid_in, first_stamp_in}
use Rattle.pool_formed_textures.specs.Textures.{own_grid, own_tiling, grids_fit, history_fits, grid_from, tiling_from, grids_hold, history_holds, histories_fit}
use Rattle.pool_formed_textures.proofs.Tests.{pass_all}
use Rattle.pool_formed_textures.proofs.GridTests.{place}

-- ---- the history of one record

module _ (newest stamps : List ℕ) (t u : TextureRecord) (e : t ≡ u) where
  pub history_writes : (n : ℕ) → t.history ≡ Some n → grids_fit t.shape n newest stamps ≡ history_fits u.shape u.history newest stamps
  history_writes n h =
      sym (ap (λ (r : Recorded). history_fits t.shape r newest stamps) h) ∙ ap (λ (r : TextureRecord). history_fits r.shape r.history newest stamps) e

  pub history_none : t.history ≡ None → eqb (length newest) 0 && eqb (length stamps) 0 ≡ history_fits u.shape u.history newest stamps
  history_none h =
      sym (ap (λ (r : Recorded). history_fits t.shape r newest stamps) h) ∙ ap (λ (r : TextureRecord). history_fits r.shape r.history newest stamps) e

-- ---- the parts of the slices that are one history's

-- a part of a part
inner : (g c m : ℕ) (xs : List ℕ) → g + c ≤ m → take c (drop g (take m xs)) ≡ take c (drop g xs)
inner zero c m xs h = take-take c m xs (omega arith)
inner (suc g) c zero xs h = absurd (let y : ⊥ = omega arith in y)
inner (suc g) c (suc m) [] h = refl
inner (suc g) c (suc m) (x ∷ xs) h = inner g c m xs (omega arith)

-- what a part is as long as
length_part : (from to : ℕ) (xs : List ℕ) → to ≤ length xs → length (take (to - from) (drop from xs)) ≡ to - from
length_part from to xs h = length-take-le (to - from) (drop from xs) (omega (arith, length-drop from xs))

-- tests that agree at every place from i on agree there together
all_alike : (p q : ℕ → Bool) (i n : ℕ) → ((k : ℕ) → k < i + n → p k ≡ q k) → all p (listed place i n) ≡ all q (listed place i n)
unfolding all listed
all_alike p q i zero h = refl
all_alike p q i (suc n) h = ap₂ (λ (a b : Bool). a && b) (h i (omega arith)) (all_alike p q (suc i) n (λ k u. h k (omega arith)))

module _ (newest stamps : List ℕ) (grid last stamp end : ℕ) where
  abbrev own_newest : List ℕ
  own_newest = take (last - grid) (drop grid newest)

  abbrev own_stamps : List ℕ
  own_stamps = take (end - stamp) (drop stamp stamps)

  -- its grids are those that begin there
  grid_same : (s : VersionShape) → grid_stride * grid_count s ≤ last - grid → history_size s ≤ end - stamp → (k : ℕ) → k < grid_count s
      → own_grid s own_newest own_stamps k ≡ grid_from newest stamps s grid stamp k
  unfolding own_grid grid_from grid_in grid_size
  grid_same s a b k h = λ i. record {
    newest = (get_or-take (last - grid) (drop grid newest) (grid_stride * k) 0 (omega arith) ∙ get_or-drop grid newest (grid_stride * k) 0) i;
    stamps = (inner (grid_start s k) (grid_size s k) (end - stamp) (drop stamp stamps) (omega (arith, grid_end_lem s k h))
        ∙ ap (take (grid_size s k)) (drop-drop (grid_start s k) stamp stamps)) i;
  }

  grids_same : (s : VersionShape) (writes : ℕ) → grid_stride * grid_count s ≤ last - grid → history_size s ≤ end - stamp
      → all (is_grid writes) (listed (own_grid s own_newest own_stamps) 0 (grid_count s)) ≡ all (is_grid writes) (listed (grid_from newest stamps s grid stamp) 0 (grid_count s))
  grids_same s writes a b =
      ap (all (is_grid writes))
      (listed_same (own_grid s own_newest own_stamps) (grid_from newest stamps s grid stamp) (grid_count s) 0 0 (λ j q.
      ap (own_grid s own_newest own_stamps) (zero-add j) ∙ grid_same s a b j q ∙ ap (grid_from newest stamps s grid stamp) (sym (zero-add j))))

  -- and their tilings
  tiling_same : (s : VersionShape) → grid_stride * grid_count s ≤ last - grid → (k : ℕ) → k < grid_count s → own_tiling s own_newest k ≡ tiling_from newest s grid k
  unfolding own_tiling tiling_from
  tiling_same s a k h =
      ap (λ (n : ℕ). eqb n (tiling_number s k))
      (get_or-take (last - grid) (drop grid newest) (grid_stride * k + 1) 0 (omega arith)
      ∙ get_or-drop grid newest (grid_stride * k + 1) 0
      ∙ ap (λ (n : ℕ). get_or newest n 0) (let e : grid + (grid_stride * k + 1) ≡ grid + grid_stride * k + 1 = omega arith in e))

  tilings_same : (s : VersionShape) → grid_stride * grid_count s ≤ last - grid → all (own_tiling s own_newest) (grid_places s) ≡ all (tiling_from newest s grid) (grid_places s)
  tilings_same s a = all_alike (own_tiling s own_newest) (tiling_from newest s grid) 0 (grid_count s) (λ k u. tiling_same s a k (omega arith))

  module _ (hg : grid ≤ last) (hl : last ≤ length newest) (hs : stamp ≤ end) (he : end ≤ length stamps) where
    -- a history that fits is as large as its part
    pub part_size : (s : VersionShape) (h : Recorded) → history_fits s h own_newest own_stamps ≡ true
        → (last ≡ grid + recorded_grids h s) × (end ≡ stamp + recorded_stamps h s)
    unfolding grids_fit
    part_size s (Some n) f =
        let a = eqb-true (length own_newest) (grid_stride * grid_count s) (passed _ f 0) in
        let b = eqb-true (length own_stamps) (history_size s) (passed _ f 1) in
        (omega (arith, a, hg, length_part grid last newest hl), omega (arith, b, hs, length_part stamp end stamps he))
    part_size s None f =
        let q = and_both (eqb (length own_newest) 0) (eqb (length own_stamps) 0) f in
        let a = eqb-true (length own_newest) 0 q.0 in
        let b = eqb-true (length own_stamps) 0 q.1 in
        (omega (arith, a, hg, length_part grid last newest hl), omega (arith, b, hs, length_part stamp end stamps he))

    -- and passes where it begins
    pub part_holds : (s : VersionShape) (h : Recorded) → history_fits s h own_newest own_stamps ≡ true → grids_hold newest stamps s grid stamp h ≡ true
    unfolding grids_fit
    part_holds s (Some n) f =
        let z = part_size s (Some n) f in
        let room : grid_stride * grid_count s ≤ last - grid = omega (arith, z.0) in
        ap₂ (λ (x y : Bool). x && y) (sym (grids_same s n room (omega (arith, z.1))) ∙ passed _ f 2) (sym (tilings_same s room) ∙ passed _ f 3)
    part_holds s None f = refl

    -- and one that passes there, and is as large, fits
    pub part_fits : (s : VersionShape) (h : Recorded) → last ≡ grid + recorded_grids h s → end ≡ stamp + recorded_stamps h s
        → grids_hold newest stamps s grid stamp h ≡ true → history_fits s h own_newest own_stamps ≡ true
    unfolding grids_fit
    part_fits s (Some n) a b f =
        let q = and_both (all (is_grid n) (listed (grid_from newest stamps s grid stamp) 0 (grid_count s))) (all (tiling_from newest s grid) (grid_places s)) f in
        let room : grid_stride * grid_count s ≤ last - grid = omega (arith, a) in
        pass_all _
        (cons (eq-eqb (length own_newest) (grid_stride * grid_count s) (omega (arith, a, length_part grid last newest hl)))
        (cons (eq-eqb (length own_stamps) (history_size s) (omega (arith, b, length_part stamp end stamps he)))
        (cons (grids_same s n room (omega (arith, b)) ∙ q.0) (cons (tilings_same s room ∙ q.1) nil))))
    part_fits s None a b f =
        ap₂ (λ (x y : Bool). x && y)
        (eq-eqb (length own_newest) 0 (omega (arith, a, length_part grid last newest hl)))
        (eq-eqb (length own_stamps) 0 (omega (arith, b, length_part stamp end stamps he)))

-- ---- histories

module _ (newest stamps : List ℕ) (grids used : ℕ) where
  -- what those that fit say: they begin where they say, and all of them have what is in use
  pub record Walked (grid stamp : ℕ) (ts : List TextureRecord) : Type 0 where
    pub grid_starts : starts_fit record_grids first_grid_in grid ts ≡ true
    pub stamp_starts : starts_fit record_stamps first_stamp_in stamp ts ≡ true
    pub grid_sum : grid + total record_grids ts ≡ grids
    pub stamp_sum : stamp + total record_stamps ts ≡ used
    pub holds : all (history_holds newest stamps) ts ≡ true

  pub walked : (grid stamp : ℕ) (ts : List TextureRecord) → histories_fit newest stamps grids used grid stamp ts ≡ true → Walked grid stamp ts
  unfolding histories_fit starts_fit total all
  walked grid stamp [] e =
      let q = and_both (eqb grid grids) (eqb stamp used) e in
      record {
        grid_starts = refl;
        stamp_starts = refl;
        grid_sum = omega (arith, eqb-true grid grids q.0);
        stamp_sum = omega (arith, eqb-true stamp used q.1);
        holds = refl;
      }
  walked grid stamp (t ∷ ts) e =
      let w = walked (grid + record_grids t) (stamp + record_stamps t) ts (passed _ e 3) in
      record {
        grid_starts = ap₂ (λ (a b : Bool). a && b) (passed _ e 0) w.grid_starts;
        stamp_starts = ap₂ (λ (a b : Bool). a && b) (passed _ e 1) w.stamp_starts;
        grid_sum = omega (arith, w.grid_sum);
        stamp_sum = omega (arith, w.stamp_sum);
        holds = ap₂ (λ (a b : Bool). a && b) (passed _ e 2) w.holds;
      }

  pub walks : (grid stamp : ℕ) (ts : List TextureRecord) → Walked grid stamp ts → histories_fit newest stamps grids used grid stamp ts ≡ true
  unfolding histories_fit starts_fit total all
  walks grid stamp [] w = ap₂ (λ (a b : Bool). a && b) (eq-eqb grid grids (omega (arith, w.grid_sum))) (eq-eqb stamp used (omega (arith, w.stamp_sum)))
  walks grid stamp (t ∷ ts) w =
      let g = and_both (eqb t.grid grid) (starts_fit record_grids first_grid_in (grid + record_grids t) ts) w.grid_starts in
      let s = and_both (eqb t.stamp stamp) (starts_fit record_stamps first_stamp_in (stamp + record_stamps t) ts) w.stamp_starts in
      let h = and_both (history_holds newest stamps t) (all (history_holds newest stamps) ts) w.holds in
      let later = walks (grid + record_grids t) (stamp + record_stamps t) ts (record {
        grid_starts = g.1;
        stamp_starts = s.1;
        grid_sum = omega (arith, w.grid_sum);
        stamp_sum = omega (arith, w.stamp_sum);
        holds = h.1;
      }) in
      pass_all _ (cons g.0 (cons s.0 (cons h.0 (cons later nil))))
