-- Sizes of grids and histories: where a grid begins and ends in its history, how code adds that up (whole slices, then the levels before), and the
-- bounds that make the refusal 6 one of stamps alone. Assumes nothing.
use mathlib.Core.Path.{◌≡◌, refl, sym, ap, ap₂, ◌∙◌}
use mathlib.Core.Bool.{Bool, true, false, cond, ◌&&◌}
use mathlib.Core.Option.{none, some}
use mathlib.Core.List.{List, [], ◌∷◌}
use Prim.Native.Nat.{ℕ, zero, suc, ◌+◌, ◌*◌, ◌-◌, ◌%◌, ◌≤◌, ◌<◌, min}
use native.Mathlib.Nat.{add-zero, zero-add, zero-mul, suc-mul, mul-suc, mul-le-mul}
use native.Mathlib.Numerals.{add-one}
use native.Mathlib.Omega.{arith}
use lib.Dec.{ltb}
use lib.ListN.{length, get_or}
use borrow.Author.Tests.{ltb-false}
use Rattle.base_blocks.specs.Lists.{listed, total}
use Rattle.base_blocks.specs.All.{All, nil, cons}
use Rattle.base_blocks.proofs.Lists.{total_append}
use Rattle.base_blocks.proofs.Listed.{length_listed, listed_more, get_or_listed, listed_split, take_listed}
use Rattle.base_unequal.specs.Unequal.{start_of}
use Rattle.base_unequal.proofs.Starts.{start_none, start_next, start_end, start_all}
use Rattle.grid_shapes.specs.declared.shape.VersionShape.{VersionShape}
use Rattle.grid_shapes.specs.Shapes.{is_shape, slices_of}
use Rattle.grid_shapes.proofs.Shapes.{shape_bounds, slices_bound}
use Rattle.grid_stamps.specs.Grids.{tiling_of, stamp_count}
use Rattle.grid_stamps.specs.StampConstants.{page_stamps}
use Rattle.grid_stamps.proofs.Tilings.{tiling_ok, count_bound, count_pos}
use Rattle.pool_rules.specs.Model.{VersionState, grid_count, has_history}
use Rattle.pool_rules.specs.Histories.{new_history}
use Rattle.pool_rules.specs.HistorySizes.{grid_size, grid_places, history_size, grid_start, level_start, newest_used, stamps_used}
use Rattle.pool_rules.specs.Formed.{StateFormed}
use Rattle.pool_rules.specs.RuleConstants.{grid_stride, most_grids}
use Rattle.pool_rules.proofs.GridPlaces.{place_level}

abbrev self : ℕ → ℕ
self k = k

-- ---- sums

total_bound : {A : Type 0} (f : A → ℕ) (w : ℕ) → ((a : A) → f a ≤ w) → (xs : List A) → total f xs ≤ w * length xs
unfolding total
total_bound f w h [] = omega arith
total_bound f w h (x ∷ xs) = omega (arith, h x, total_bound f w h xs, mul-suc w (length xs))

total_least : {A : Type 0} (f : A → ℕ) → ((a : A) → 1 ≤ f a) → (xs : List A) → length xs ≤ total f xs
unfolding total
total_least f h [] = omega arith
total_least f h (x ∷ xs) = omega (arith, h x, total_least f h xs)

-- over places that agree
total_places : (f g : ℕ → ℕ) (n i j : ℕ) → ((k : ℕ) → k < n → f (i + k) ≡ g (j + k)) → total f (listed self i n) ≡ total g (listed self j n)
unfolding total listed
total_places f g zero i j h = refl
total_places f g (suc n) i j h =
    ap₂ (λ (a b : ℕ). a + b) (ap f (sym (add-zero i)) ∙ h 0 (omega arith) ∙ ap g (add-zero j))
    (total_places f g n (suc i) (suc j) (λ k q.
    ap f (let e : suc i + k ≡ i + suc k = omega arith in e) ∙ h (suc k) (omega arith) ∙ ap g (let e : j + suc k ≡ suc j + k = omega arith in e)))

module _ (s : VersionShape) where
  -- ---- the first grid begins at 0, a grid ends where the next begins, and the last where its history does

  place_at : (k : ℕ) → k < grid_count s → get_or (grid_places s) k 0 ≡ k
  place_at k h = get_or_listed self 0 (grid_count s) k 0 h ∙ (let e : 0 + k ≡ k = omega arith in e)

  pub grid_first : grid_start s 0 ≡ 0
  unfolding grid_start
  grid_first = start_none (grid_size s) (grid_places s)

  pub grid_next : (k : ℕ) → k < grid_count s → grid_start s (suc k) ≡ grid_start s k + grid_size s k
  unfolding grid_start
  grid_next k h =
      start_next (grid_size s) (grid_places s) k 0 (omega (arith, length_listed self 0 (grid_count s)))
      ∙ ap (λ (j : ℕ). start_of (grid_size s) k (grid_places s) + grid_size s j) (place_at k h)

  pub grid_end_lem : (k : ℕ) → k < grid_count s → grid_start s k + grid_size s k ≤ history_size s
  unfolding grid_start history_size
  grid_end_lem k h =
      let e = start_end (grid_size s) (grid_places s) k 0 (omega (arith, length_listed self 0 (grid_count s))) in
      omega (arith, e, ap (grid_size s) (place_at k h))

  pub grid_last : grid_start s (grid_count s) ≡ history_size s
  unfolding grid_start history_size
  grid_last = start_all (grid_size s) (grid_places s) (grid_count s) (omega (arith, length_listed self 0 (grid_count s)))

  -- ---- as code adds it up

  abbrev count_at : ℕ → ℕ
  count_at l = stamp_count (tiling_of s l)

  -- some levels of one slice
  of_slice : (slice n : ℕ) → n ≤ s.levels → total (grid_size s) (listed self (slice * s.levels) n) ≡ level_start s n
  unfolding grid_size level_start
  of_slice slice n h =
      total_places (grid_size s) count_at n (slice * s.levels) 0
      (λ k q. ap count_at (place_level slice k s.levels (omega arith) ∙ (let e : k ≡ 0 + k = omega arith in e)))

  -- whole slices
  of_slices : (slice : ℕ) → total (grid_size s) (listed self 0 (slice * s.levels)) ≡ slice * level_start s s.levels
  unfolding total listed
  of_slices zero = ap (λ (n : ℕ). total (grid_size s) (listed self 0 n)) (zero-mul s.levels) ∙ sym (zero-mul (level_start s s.levels))
  of_slices (suc slice) =
      let a = ap (λ (n : ℕ). total (grid_size s) (listed self 0 n)) (suc-mul slice s.levels) in
      let b = ap (total (grid_size s)) (listed_split self 0 (slice * s.levels) s.levels) in
      let c = total_append (grid_size s) (listed self 0 (slice * s.levels)) (listed self (0 + slice * s.levels) s.levels) in
      let d = ap (λ (n : ℕ). total (grid_size s) (listed self n s.levels)) (zero-add (slice * s.levels)) in
      omega (arith, a, b, c, d, of_slices slice, of_slice slice s.levels (omega arith), suc-mul slice (level_start s s.levels))

  pub grid_start_lem : (slice level : ℕ) → level ≤ s.levels → slice * s.levels + level ≤ grid_count s
      → grid_start s (slice * s.levels + level) ≡ slice * level_start s s.levels + level_start s level
  unfolding grid_start start_of
  grid_start_lem slice level h k =
      let a = ap (total (grid_size s)) (take_listed self (slice * s.levels + level) 0 (grid_count s) k ∙ listed_split self 0 (slice * s.levels) level) in
      let c = total_append (grid_size s) (listed self 0 (slice * s.levels)) (listed self (0 + slice * s.levels) level) in
      let d = ap (λ (n : ℕ). total (grid_size s) (listed self n level)) (zero-add (slice * s.levels)) in
      omega (arith, a, c, d, of_slices slice, of_slice slice level h)

  pub history_size_lem : history_size s ≡ slices_of s * level_start s s.levels
  unfolding history_size grid_count
  history_size_lem = of_slices (slices_of s)

  -- a level ends where the next begins
  pub level_none : level_start s 0 ≡ 0
  unfolding level_start total listed
  level_none = refl

  pub level_next : (level : ℕ) → level_start s (suc level) ≡ level_start s level + stamp_count (tiling_of s level)
  unfolding level_start total
  level_next level =
      let a = ap (total count_at) (listed_more self 0 level) in
      let b = total_append count_at (listed self 0 level) ((0 + level) ∷ []) in
      let c = ap count_at (zero-add level) in
      omega (arith, a, b, c)

  -- a grid has the stamps of its level
  pub grid_size_lem : (slice level : ℕ) → level < s.levels → grid_size s (slice * s.levels + level) ≡ stamp_count (tiling_of s level)
  unfolding grid_size
  grid_size_lem slice level h = ap count_at (place_level slice level s.levels h)

  -- and begins and ends by it
  module _ (k level : ℕ) (h : k < grid_count s) (e : level ≡ k % s.levels) where
    size_level : stamp_count (tiling_of s level) ≡ grid_size s k
    unfolding grid_size
    size_level = ap count_at e

    pub start_after : grid_start s k + stamp_count (tiling_of s level) ≡ grid_start s (k + 1)
    start_after = omega (arith, size_level, grid_next k h, ap (grid_start s) (add-one k))

    pub grid_room : grid_start s k + stamp_count (tiling_of s level) ≤ history_size s
    grid_room = omega (arith, size_level, grid_end_lem k h)

  -- ---- bounds

  module _ (shaped : is_shape s ≡ true) where
    pub grid_bound : (k : ℕ) → grid_size s k ≤ page_stamps
    unfolding grid_size
    grid_bound k = count_bound (tiling_of s (k % s.levels)) (tiling_ok s shaped (k % s.levels))

    -- a history takes no more stamps than a page for each of its grids has
    pub history_bound : history_size s ≤ page_stamps * grid_count s
    unfolding history_size
    history_bound = omega (arith, total_bound (grid_size s) page_stamps grid_bound (grid_places s), length_listed self 0 (grid_count s))

    -- every grid has a stamp
    pub grids_stamped : grid_count s ≤ history_size s
    unfolding history_size grid_size
    grids_stamped =
        omega (arith, total_least (grid_size s) (λ k. count_pos s shaped (k % s.levels)) (grid_places s), length_listed self 0 (grid_count s))

    -- six slices of fifteen levels
    pub grids_most : grid_count s ≤ most_grids
    unfolding grid_count
    grids_most = omega (arith, mul-le-mul (slices_bound s) (shape_bounds s shaped).levels_bound)

    -- and so the stamps of all of them
    pub history_most : history_size s ≤ page_stamps * most_grids
    history_most = omega (arith, history_bound, grids_most)

-- ---- of a pool's textures

module _ {W : Type 0} where
  state_grids : (t : VersionState W) → StateFormed t → (newest_used t ≤ grid_stride * stamps_used t) × (newest_used t ≤ grid_stride * most_grids)
  state_grids t f = go (has_history t.history)
    where
      go : (b : Bool) → (cond b (grid_stride * grid_count t.shape) 0 ≤ grid_stride * cond b (history_size t.shape) 0)
          × (cond b (grid_stride * grid_count t.shape) 0 ≤ grid_stride * most_grids)
      go true = (omega (arith, grids_stamped t.shape f.shape), omega (arith, grids_most t.shape f.shape))
      go false = (omega arith, omega arith)

  grids_room : (ts : List (VersionState W)) → All StateFormed ts
      → (total newest_used ts ≤ grid_stride * total stamps_used ts) × (total newest_used ts ≤ grid_stride * (most_grids * length ts))
  unfolding total
  grids_room [] nil = (omega arith, omega arith)
  grids_room (t ∷ ts) (cons f fs) =
      let a = state_grids t f in
      let b = grids_room ts fs in
      (omega (arith, a, b), omega (arith, a, b))

  -- so a pool whose stamps and textures fit has room for every grid's numbers
  pub newest_room : (ts : List (VersionState W)) → All StateFormed ts → (textures stamps newest : ℕ)
      → length ts ≤ textures → total stamps_used ts ≤ stamps → newest ≡ grid_stride * min (most_grids * textures) stamps → total newest_used ts ≤ newest
  newest_room ts f textures stamps newest a b e = let r = grids_room ts f in omega (arith, r, e)

-- what the rule of 6 accepts fits beside the others', one's own given back
pub stamps_fit : (records : Bool) (places own used size : ℕ) → (records && ltb (places + own) (used + size)) ≡ false → used ≤ places → own ≤ used
    → used - own + cond records size 0 ≤ places
stamps_fit true places own used size e h k = omega (arith, ltb-false (places + own) (used + size) e)
stamps_fit false places own used size e h k = omega arith

-- the stamps of a history just begun, where one is
pub new_stamps : (records : Bool) (s : VersionShape) → cond (has_history (cond records (some (new_history s)) none)) (history_size s) 0 ≡ cond records (history_size s) 0
new_stamps true s = refl
new_stamps false s = refl
