-- What a pass learns at one grid, and along the grids of one history. Assumes nothing.
use mathlib.Core.Path.{◌≡◌, sym, ap, ap₂, subst, ◌∙◌}
use mathlib.Core.Bool.{Bool, true, false, ◌&&◌, and-true, and-false}
use mathlib.Core.List.{List}
use Prim.Native.Nat.{ℕ, ◌+◌, ◌*◌, ◌-◌, ◌%◌, ◌≤◌, ◌<◌}
use native.Mathlib.Numerals.{add-one}
use native.Mathlib.Omega.{arith}
use borrow.Author.Tests.{le-leb, lt-leb, eq-eqb, ne_eqb}
use lib.Dec.{eqb}
use lib.ListN.{length, take, drop, get_or, length-drop}
use lib.Seq.{take_all, length-take-le}
use Rattle.base_blocks.specs.Blocks.{largest}
use Rattle.base_blocks.specs.Lists.{all, listed, tests, after}
use Rattle.base_blocks.proofs.Listed.{left, all_stop, all_done}
use Rattle.grid_shapes.specs.declared.shape.VersionShape.{VersionShape}
use Rattle.grid_shapes.specs.Shapes.{is_shape}
use Rattle.grid_stamps.specs.declared.grid.Tiling.{Tiling}
use Rattle.grid_stamps.specs.Grids.{TilingOk, tiling_of, stamp_count, grid_in, largest_stamp, tiled}
use Rattle.grid_stamps.proofs.Tilings.{count_pos, tiling_ok}
use Rattle.pool_access.proofs.Levels.{tiling_known_ok}
use Rattle.pool_rules.specs.Model.{grid_count}
use Rattle.pool_rules.specs.HistorySizes.{grid_size, grid_start, history_size}
use Rattle.pool_rules.proofs.HistorySizes.{grid_next, grid_end_lem, grid_last, history_most}
use Rattle.grid_stamps.specs.StampConstants.{page_stamps}
use Rattle.pool_rules.specs.RuleConstants.{grid_stride, most_grids}
use Rattle.pool_records.specs.declared.tiling.GridTiling.{GridTiling}
use Rattle.pool_records.specs.Tilings.{packed_tiling, TilingFits, grid_tiling, tiling_number}
use Rattle.pool_records.proofs.Tilings.{tiling_fits}
use Rattle.pool_memory.specs.IsPool.{is_grid}
use Rattle.pool_formed_textures.specs.Textures.{own_grid, own_tiling, axes_tiling, grids_fit}
use Rattle.pool_formed_textures.proofs.Tests.{fails}
use Rattle.grid_axes.specs.declared.axis.Axis.{Axis}
use Rattle.grid_axes.specs.Axes.{AxisOk}

-- ---- one grid

-- its two axes, where they are a level's: together its tiling, and each fits
module _ (s : VersionShape) (level : ℕ) (a d : Axis) (ea : a ≡ (tiling_of s level).across) (ed : d ≡ (tiling_of s level).down) where
  pub tiling_same : tiled a d ≡ tiling_of s level
  tiling_same = λ j. record { across = ea j; down = ed j }

  pub axes_ready : is_shape s ≡ true → AxisOk a × AxisOk d
  axes_ready h = let ok = tiling_ok s h level in (subst AxisOk (sym ea) ok.across, subst AxisOk (sym ed) ok.down)

module _ (s : VersionShape) (level : ℕ) (g : Tiling) (e : g ≡ tiling_of s level) where
  -- its stamps stand at the front of those from `at` on
  pub grid_ready : (stamps : List ℕ) (at count : ℕ) → is_shape s ≡ true → count ≡ stamp_count g → count ≤ length stamps - at
      → TilingOk g × (stamp_count g ≤ length (take (length stamps - at) (drop at stamps))) × (0 < stamp_count g)
  grid_ready stamps at count h c q =
      let room = length-take-le (length stamps - at) (drop at stamps) (omega (arith, length-drop at stamps)) in
      (tiling_known_ok s h level g e, omega (arith, room, c, q), omega (arith, count_pos s h level, ap stamp_count e))

module _ (g : Tiling) (writes newest : ℕ) (stamps : List ℕ) where
  pub grid_test : (r : Bool) → r ≡ eqb (largest_stamp g stamps) newest → newest ≤ writes → r ≡ is_grid writes (grid_in g newest stamps)
  unfolding is_grid grid_in largest_stamp
  grid_test r e h = e ∙ sym (rw (le-leb newest writes h) (and-true (eqb (largest (take (stamp_count g) stamps)) newest)))

  pub grid_ahead : writes < newest → is_grid writes (grid_in g newest stamps) ≡ false
  unfolding is_grid grid_in
  grid_ahead h = rw (lt-leb newest writes h) (and-false (eqb (largest (take (stamp_count g) stamps)) newest))

-- ---- the grids of a history, whose numbers of `newest` and whose stamps are just these

-- the places that the pass over a history's grids goes along
abbrev pub place : ℕ → ℕ
place k = k

module _ (s : VersionShape) (k at : ℕ) (g : Tiling) (e : g ≡ tiling_of s (k % s.levels)) (ek : at ≡ grid_start s k) where
  -- the tiling that the pass has at the k-th
  tiling_here : axes_tiling at g ≡ grid_tiling s k
  unfolding grid_tiling
  tiling_here = λ j. record { start = ek j; across = (e j).across.edge; down = (e j).down.edge }

  pub tiling_ready : is_shape s ≡ true → k < grid_count s → TilingFits (axes_tiling at g)
  tiling_ready h q = subst TilingFits (sym tiling_here) (tiling_fits s h k q)

  pub tiling_test : (newest : List ℕ) → eqb (get_or newest (grid_stride * k + 1) 0) (packed_tiling (axes_tiling at g)) ≡ own_tiling s newest k
  unfolding own_tiling tiling_number
  tiling_test newest = ap (λ (t : GridTiling). eqb (get_or newest (grid_stride * k + 1) 0) (packed_tiling t)) tiling_here

module _ (s : VersionShape) (writes : ℕ) (newest stamps : List ℕ) where
  -- the k-th, by its tiling and by where its stamps begin
  pub grid_here : (k at : ℕ) (g : Tiling) → g ≡ tiling_of s (k % s.levels) → at ≡ grid_start s k
      → is_grid writes (grid_in g (get_or newest (grid_stride * k) 0) (take (length stamps - at) (drop at stamps))) ≡ is_grid writes (own_grid s newest stamps k)
  unfolding own_grid
  grid_here k at g e f =
      ap (λ (l : List ℕ). is_grid writes (grid_in g (get_or newest (grid_stride * k) 0) l)) (take_all (length stamps - at) (drop at stamps) (omega (arith, length-drop at stamps)))
      ∙ ap₂ (λ (t : Tiling) (n : ℕ). is_grid writes (grid_in t (get_or newest (grid_stride * k) 0) (drop n stamps))) e f

  -- where the next begins
  pub next_start : (k at count : ℕ) (g : Tiling) → k < grid_count s → at ≡ grid_start s k → count ≡ stamp_count g → g ≡ tiling_of s (k % s.levels)
      → at + count ≡ grid_start s (k + 1)
  unfolding grid_size
  next_start k at count g h e c t = omega (arith, e, c, ap stamp_count t, grid_next s k h, ap (grid_start s) (add-one k))

  -- which is not past the most stamps of a history
  pub next_room : (k at count : ℕ) (g : Tiling) → is_shape s ≡ true → k < grid_count s → at ≡ grid_start s k → count ≡ stamp_count g → g ≡ tiling_of s (k % s.levels)
      → at + count ≤ page_stamps * most_grids
  unfolding grid_size
  next_room k at count g shaped h e c t = omega (arith, e, c, ap stamp_count t, grid_end_lem s k h, history_most s shaped)

  -- not as many grids
  pub grids_few : (n : ℕ) → n ≡ grid_count s → (length newest ≡ grid_stride * n → ⊥) → grids_fit s writes newest stamps ≡ false
  unfolding grids_fit
  grids_few n e h = fails _ 0 (ne_eqb (length newest) (grid_stride * grid_count s) (λ z. h (z ∙ ap (λ (m : ℕ). grid_stride * m) (sym e))))

  -- no stamps left for the k-th
  pub grids_short : (k at count : ℕ) (g : Tiling) → k < grid_count s → at ≡ grid_start s k → count ≡ stamp_count g → g ≡ tiling_of s (k % s.levels)
      → length stamps - at < count → grids_fit s writes newest stamps ≡ false
  unfolding grids_fit grid_size
  grids_short k at count g h e c t q =
      fails _ 1 (ne_eqb (length stamps) (history_size s) (λ z. let y : ⊥ = omega (arith, z, q, e, c, ap stamp_count t, grid_end_lem s k h) in y))

  module _ (n k : ℕ) (e : n ≡ grid_count s) (so_far : all (is_grid writes) (left (own_grid s newest stamps) n k) ≡ all (is_grid writes) (listed (own_grid s newest stamps) 0 n))
      (tiled-so-far : all (own_tiling s newest) (left place n k) ≡ all (own_tiling s newest) (listed place 0 n)) where
    abbrev whole : ℕ → Bool
    whole m = all (is_grid writes) (listed (own_grid s newest stamps) 0 m)

    abbrev whole_tiled : ℕ → Bool
    whole_tiled m = all (own_tiling s newest) (listed place 0 m)

    pub grids_stop : k < n → is_grid writes (own_grid s newest stamps k) ≡ false → grids_fit s writes newest stamps ≡ false
    unfolding grids_fit
    grids_stop h f = fails _ 2 (ap whole (sym e) ∙ sym so_far ∙ all_stop (own_grid s newest stamps) n (is_grid writes) k h f)

    pub tilings_stop : k < n → own_tiling s newest k ≡ false → grids_fit s writes newest stamps ≡ false
    unfolding grids_fit
    tilings_stop h f = fails _ 3 (ap whole_tiled (sym e) ∙ sym tiled-so-far ∙ all_stop place n (own_tiling s newest) k h f)

    -- all passed: what is left is that no stamp is
    pub grids_done : (at : ℕ) → length newest ≡ grid_stride * n → n ≤ k → k ≤ n → at ≡ grid_start s k → eqb (length stamps) at ≡ grids_fit s writes newest stamps
    unfolding grids_fit tests after
    grids_done at m h h' f =
        let last : at ≡ history_size s = f ∙ ap (grid_start s) ((let y : k ≡ n = omega arith in y) ∙ e) ∙ grid_last s in
        let w : whole (grid_count s) ≡ true = ap whole (sym e) ∙ sym so_far ∙ all_done (own_grid s newest stamps) n (is_grid writes) k h in
        let v : whole_tiled (grid_count s) ≡ true = ap whole_tiled (sym e) ∙ sym tiled-so-far ∙ all_done place n (own_tiling s newest) k h in
        let c : length newest ≡ grid_stride * grid_count s = m ∙ ap (λ (i : ℕ). grid_stride * i) e in
        ap (eqb (length stamps)) last
        ∙ sym (rw (eq-eqb (length newest) (grid_stride * grid_count s) c, w, v) (and-true (eqb (length stamps) (history_size s) && true) ∙ and-true (eqb (length stamps) (history_size s))))
