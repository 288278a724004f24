-- Laws of one axis: tiles, what a run of texels touches, and spans of whole tiles. Assumes nothing.
use mathlib.Core.Path.{◌≡◌, refl, ap, ◌∙◌}
use mathlib.Core.Bool.{Bool, true, false}
use Prim.Native.Nat.{ℕ, suc, ◌+◌, ◌-◌, ◌*◌, ◌/◌, ◌%◌, ◌≤◌, ◌<◌, min, max}
use native.Mathlib.Nat.{mul-mod_left, mul-le-mul_right, div-mul-le_self, lt-div-mul-add, suc-mul, div-eq_of_lt-le, div-lt_iff_lt-mul, le-div_iff_mul-le}
use native.Mathlib.Numerals.{add-one}
use native.Mathlib.Omega.{arith}
use borrow.Author.Tests.{ltb-true, lt-ltb}
use Rattle.base_blocks.specs.Lists.{ceil_div, tests, after}
use Rattle.base_blocks.proofs.Numbers.{ceil_covers, ceil_least, ceil_below, ceil_at_most}
use Rattle.base_blocks.proofs.Lists.{passed}
use Rattle.grid_axes.specs.declared.axis.Axis.{Axis}
use Rattle.grid_axes.specs.declared.axis.Span.{Span}
use Rattle.std.specs.Prelude.{Some, None}
use Rattle.grid_axes.specs.Axes.{tile_edge, axis_of, AxisOk, tiles_of, cut_end, is_cut, touched, touched_tiles, SpanIn, span_start, span_size}
use Rattle.grid_axes.specs.AxisConstants.{max_tiles_per_axis, min_tile_texels}

-- ---- tile edges

module _ (extent block : ℕ) (pos : 0 < block) where
  -- a tile's side is a whole number of blocks
  pub edge_multiple : tile_edge extent block % block ≡ 0
  unfolding tile_edge
  edge_multiple = mul-mod_left (ceil_div (max min_tile_texels (ceil_div extent max_tiles_per_axis)) block) block

  -- it is at least 16 and at least a 32nd of the extent, and exceeds the larger of the two by less than a block
  pub edge_least : max min_tile_texels (ceil_div extent max_tiles_per_axis) ≤ tile_edge extent block
  unfolding tile_edge
  edge_least = ceil_covers (max min_tile_texels (ceil_div extent max_tiles_per_axis)) block pos

  pub edge_bound : tile_edge extent block < max min_tile_texels (ceil_div extent max_tiles_per_axis) + block
  unfolding tile_edge
  edge_bound = ceil_least (max min_tile_texels (ceil_div extent max_tiles_per_axis)) block pos

  -- at most 32 tiles lie along the axis
  pub tiles_bound : tiles_of (axis_of extent block) ≤ max_tiles_per_axis
  unfolding tiles_of axis_of
  tiles_bound =
      ceil_at_most extent (tile_edge extent block) 32 (omega (arith, edge_least))
      (omega (arith, edge_least, ceil_covers extent max_tiles_per_axis (omega arith)))

  pub axis_ok : extent ≤ 16384 → block ≤ 16 → AxisOk (axis_of extent block)
  unfolding axis_of
  axis_ok h k =
      let c : ceil_div extent max_tiles_per_axis * 32 < extent + 32 = ceil_least extent max_tiles_per_axis (omega arith) in
      record { extent = h; wide = omega (arith, edge_least); narrow = omega (arith, edge_bound); tiles = tiles_bound }

-- ---- tiles and texels

module _ (a : Axis) (wide : 0 < a.edge) where
  -- a texel lies in the tile of its number, and in no other
  pub tile_start : (x : ℕ) → x / a.edge * a.edge ≤ x
  tile_start x = div-mul-le_self x a.edge

  pub tile_end : (x : ℕ) → x < suc (x / a.edge) * a.edge
  tile_end x = omega (arith, lt-div-mul-add {a = x} wide, suc-mul (x / a.edge) a.edge)

  pub tile_unique : (x t : ℕ) → t * a.edge ≤ x → x < suc t * a.edge → x / a.edge ≡ t
  tile_unique x t lo hi = div-eq_of_lt-le a.edge lo (rw add-one hi)

  pub tile_in : (x : ℕ) → x < a.extent → x / a.edge < tiles_of a
  unfolding tiles_of
  tile_in x h = ceil_below x a.extent a.edge wide h

-- ---- what a run of texels touches

module _ (a : Axis) (start size : ℕ) where
  pub cut_some : is_cut a start size ≡ true → start < cut_end a start size
  unfolding is_cut
  cut_some e = ltb-true _ _ e

  -- a run whose cut is empty has no texel in the level
  pub cut_texel : (x : ℕ) → x < a.extent → start ≤ x → x < start + size → is_cut a start size ≡ true
  unfolding is_cut cut_end
  cut_texel x inside lo hi = lt-ltb start (min (start + size) a.extent) (omega arith)

  -- the three tests of a touched tile
  pub record Touches (t : ℕ) : Type 0 where
    pub cut : is_cut a start size ≡ true
    pub before : start < suc t * a.edge
    pub past : t * a.edge < cut_end a start size

  pub touches_of : (t : ℕ) → touched a start size t ≡ true → Touches t
  unfolding touched
  touches_of t e = record { cut = passed _ e 0; before = ltb-true _ _ (passed _ e 1); past = ltb-true _ _ (passed _ e 2) }

  pub touched_by : (t : ℕ) → Touches t → touched a start size t ≡ true
  unfolding touched tests after
  touched_by t f = rw (f.cut, lt-ltb _ _ f.before, lt-ltb _ _ f.past)

  module _ (wide : 0 < a.edge) where
    -- the tile of a texel of the run is touched
    pub touched_texel : (x : ℕ) → x < a.extent → start ≤ x → x < start + size → touched a start size (x / a.edge) ≡ true
    unfolding cut_end
    touched_texel x inside lo hi =
        let s = tile_start a wide x in
        let e = tile_end a wide x in
        touched_by (x / a.edge) (record { cut = cut_texel x inside lo hi; before = omega arith; past = omega arith })

    -- a touched tile has a texel of the run in the level
    pub touched_has : (t : ℕ) → touched a start size t ≡ true
        → (x : ℕ) × (start ≤ x) × (x < start + size) × (x < a.extent) × (x / a.edge ≡ t)
    unfolding cut_end
    touched_has t e =
        let f = touches_of t e in
        let c = cut_some f.cut in
        let x = max start (t * a.edge) in
        let hi : t * a.edge < suc t * a.edge = omega (arith, suc-mul t a.edge) in
        (x, omega arith, omega (arith, f.past), omega (arith, f.past), tile_unique a wide x t (omega arith) (omega (arith, f.before)))

    -- touched tiles are those from the first texel's tile to the last texel's
    pub touched_between : (t : ℕ) → is_cut a start size ≡ true → start / a.edge ≤ t → t ≤ (cut_end a start size - 1) / a.edge
        → touched a start size t ≡ true
    touched_between t c lo hi =
        let k = cut_some c in
        let m : suc (start / a.edge) * a.edge ≤ suc t * a.edge = mul-le-mul_right a.edge (omega arith) in
        let n : t * a.edge ≤ (cut_end a start size - 1) / a.edge * a.edge = mul-le-mul_right a.edge hi in
        touched_by t (record { cut = c; before = omega (arith, tile_end a wide start); past = omega (arith, tile_start a wide (cut_end a start size - 1)) })

    pub touched_from : (t : ℕ) → touched a start size t ≡ true → start / a.edge ≤ t
    touched_from t e = let f = touches_of t e in omega (arith, (div-lt_iff_lt-mul {k = a.edge} {x = start} {y = suc t} wide).1 f.before)

    pub touched_to : (t : ℕ) → touched a start size t ≡ true → t ≤ (cut_end a start size - 1) / a.edge
    touched_to t e = let f = touches_of t e in let k = cut_some f.cut in (le-div_iff_mul-le {k = a.edge} {x = t} {y = cut_end a start size - 1} wide).1 (omega (arith, f.past))

    -- they lie along the axis
    pub last_tile_in : is_cut a start size ≡ true → (cut_end a start size - 1) / a.edge < tiles_of a
    unfolding cut_end
    last_tile_in c = let k = cut_some c in tile_in a wide (cut_end a start size - 1) (omega arith)

    pub first_last : is_cut a start size ≡ true → start / a.edge ≤ (cut_end a start size - 1) / a.edge
    unfolding cut_end
    first_last c = let k = cut_some c in touched_to (start / a.edge) (touched_texel start (omega arith) (omega arith) (omega arith))

-- ---- spans of whole tiles

module _ (a : Axis) (s : Span) (wide : 0 < a.edge) where
  -- its texels hold each texel of its tiles
  pub span_holds : (x : ℕ) → x < a.extent → s.first ≤ x / a.edge → x / a.edge ≤ s.last
      → (span_start a s ≤ x) × (x < span_start a s + span_size a s)
  unfolding span_start span_size
  span_holds x inside lo hi =
      let p : s.first * a.edge ≤ x / a.edge * a.edge = mul-le-mul_right a.edge lo in
      let q : suc (x / a.edge) * a.edge ≤ suc s.last * a.edge = mul-le-mul_right a.edge (omega arith) in
      (omega (arith, tile_start a wide x), omega (arith, tile_start a wide x, tile_end a wide x))

  module _ (h : SpanIn a s) where
    -- each of its tiles has a texel in the level
    pub span_tile : s.last * a.edge < a.extent
    unfolding tiles_of
    span_tile = let m : suc s.last * a.edge ≤ ceil_div a.extent a.edge * a.edge = mul-le-mul_right a.edge h.inside in
        omega (arith, suc-mul s.last a.edge, ceil_least a.extent a.edge wide)

    pub span_start_in : span_start a s < a.extent
    unfolding span_start
    span_start_in = let m : s.first * a.edge ≤ s.last * a.edge = mul-le-mul_right a.edge h.order in omega (arith, span_tile)

    -- its texels are some, and lie in the level
    pub span_size_pos : 0 < span_size a s
    unfolding span_size span_start
    span_size_pos =
        let m : suc s.first * a.edge ≤ suc s.last * a.edge = mul-le-mul_right a.edge (omega (arith, h.order)) in
        omega (arith, span_start_in, suc-mul s.first a.edge)

    pub span_end : span_start a s + span_size a s ≡ min (suc s.last * a.edge) a.extent
    unfolding span_size span_start
    span_end =
        let m : suc s.first * a.edge ≤ suc s.last * a.edge = mul-le-mul_right a.edge (omega (arith, h.order)) in
        omega (arith, span_start_in, suc-mul s.first a.edge)

    pub span_inside : span_start a s + span_size a s ≤ a.extent
    span_inside = omega (arith, span_end)

-- what the numbers of a span stay below
pub record SpanFits (a : Axis) (s : Span) : Type 0 where
  pub low : s.first * a.edge < a.extent
  pub high : (s.last + 1) * a.edge ≤ a.extent + a.edge
  pub order : s.first * a.edge < (s.last + 1) * a.edge

pub span_fits : (a : Axis) (s : Span) → AxisOk a → SpanIn a s → SpanFits a s
span_fits a s ok h =
    let m : s.first * a.edge ≤ s.last * a.edge = mul-le-mul_right a.edge h.order in
    let l = span_tile a s ok.wide h in
    let n : (s.last + 1) * a.edge ≡ s.last * a.edge + a.edge = ap (λ (k : ℕ). k * a.edge) (add-one s.last) ∙ suc-mul s.last a.edge in
    record { low = omega arith; high = omega arith; order = omega (arith, ok.wide) }

-- ---- the touched tiles by number

pub record Found (a : Axis) (start size : ℕ) (s : Span) : Type 0 where
  pub cut : is_cut a start size ≡ true
  pub first : s.first ≡ start / a.edge
  pub last : s.last ≡ (cut_end a start size - 1) / a.edge

pub tiles_found : (a : Axis) (start size : ℕ) (s : Span) → touched_tiles a start size ≡ Some s → Found a start size s
unfolding touched_tiles
tiles_found a start size s e = go (is_cut a start size) refl
  where
    go : (b : Bool) → is_cut a start size ≡ b → Found a start size s
    go true c =
        let f : Some (record { first = start / a.edge; last = (cut_end a start size - 1) / a.edge }) ≡ Some s = rw c at e in
        let q : s ≡ record { first = start / a.edge; last = (cut_end a start size - 1) / a.edge } = cc in
        record { cut = c; first = ap (λ (u : Span). u.first) q; last = ap (λ (u : Span). u.last) q }
    go false c = absurd (let f : None ≡ Some s = rw c at e in let z : ◌≡◌ {A = ℕ} 0 1 = cc in let y : ⊥ = omega arith in y)

pub tiles_none : (a : Axis) (start size : ℕ) → touched_tiles a start size ≡ None → is_cut a start size ≡ false
unfolding touched_tiles
tiles_none a start size e = go (is_cut a start size) refl
  where
    go : (b : Bool) → is_cut a start size ≡ b → is_cut a start size ≡ false
    go true c = absurd (let f : Some (record { first = start / a.edge; last = (cut_end a start size - 1) / a.edge }) ≡ None = rw c at e in let z : ◌≡◌ {A = ℕ} 0 1 = cc in let y : ⊥ = omega arith in y)
    go false c = c
