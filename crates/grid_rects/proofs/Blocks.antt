-- Laws of the blocks that texels touch, over the block's edge: along an axis, and of a region. Assumes nothing.
use Prim.Native.Nat.{ℕ, zero, suc, ◌+◌, ◌-◌, ◌*◌, ◌/◌, ◌≤◌, ◌<◌, min, max}
use mathlib.Core.Path.{◌≡◌, refl, sym, ap, ◌∙◌}
use native.Mathlib.Omega.{arith}
use native.Mathlib.Nat.{add-mul, suc-mul, mul-le-mul, mul-le-mul_right, mul-mul-mul_comm, div-mul-le_self, lt-div-mul-add, le-div_iff_mul-le, div-lt_iff_lt-mul, div-eq_of_lt, add-div_right, add-mul-div_right, zero-div, le-max_left, le-max_right, le_trans}
use native.Mathlib.Decide.{dec_lt}
use borrow.Author.Tests.{ne_eqb}
use Rattle.base_blocks.specs.Lists.{ceil_div}
use Rattle.base_blocks.proofs.Numbers.{ceil_below}
use Rattle.grid_rects.specs.declared.rect.Region.{Region}
use Rattle.grid_rects.specs.declared.rect.Region.TheVariants.{Whole, Part}
use Rattle.grid_rects.specs.Copies.{cut_size, touched_blocks, cut_blocks, region_blocks}
use Rattle.grid_rects.specs.RoundedCopies.{region_texels}
use Rattle.grid_rects.specs.CopyClaims.{TexelOf}

-- ---- texels cut to a level

pub cut_bound : (extent start size : ℕ) → cut_size extent start size ≤ extent
unfolding cut_size
cut_bound extent start size = omega arith

-- the texels of a cut lie in the level, so that their places can be summed up
pub cut_inside : (extent start size : ℕ) → 0 < cut_size extent start size → start + cut_size extent start size ≤ extent
unfolding cut_size
cut_inside extent start size h = omega arith

-- ---- along an axis

pub touched_none : (edge start : ℕ) → touched_blocks edge start 0 ≡ 0
unfolding touched_blocks
touched_none edge start = refl

pub touched_some : (edge start texels : ℕ) → 0 < texels → touched_blocks edge start texels ≡ (start + texels - 1) / edge - start / edge + 1
unfolding touched_blocks
touched_some edge start texels h = rw (ne_eqb texels 0 (λ e. omega arith)) refl

module _ (edge : ℕ) (pos : 0 < edge) where
  -- a later texel lies in no earlier block
  pub block_order : (a b : ℕ) → a ≤ b → a / edge ≤ b / edge
  block_order a b h = (le-div_iff_mul-le {k = edge} {x = a / edge} {y = b} pos).1 (le_trans (div-mul-le_self a edge) h)

  -- the blocks have room for the texels
  pub touched_covers : (start texels : ℕ) → texels ≤ touched_blocks edge start texels * edge
  touched_covers start zero = omega arith
  touched_covers start (suc n) =
      let first = start / edge in
      let last = (start + suc n - 1) / edge in
      let order = block_order start (start + suc n - 1) (omega arith) in
      let more : (last - first + first) * edge ≡ last * edge = ap (λ (k : ℕ). k * edge) (let e : last - first + first ≡ last = omega arith in e) in
      rw (touched_some edge start (suc n) (omega arith))
      (omega (arith, more, add-mul (last - first) first edge, suc-mul (last - first) edge, div-mul-le_self start edge, lt-div-mul-add {a = start + suc n - 1} {b = edge} pos))

  -- each block has a texel of its own
  pub touched_at_most : (start texels : ℕ) → touched_blocks edge start texels ≤ texels
  touched_at_most start zero = rw (touched_none edge start) (omega arith)
  touched_at_most start (suc n) =
      let far = block_order (start + suc n - 1) (start + n * edge) (omega (arith, mul-le-mul {n₁ = n} {m₁ = 1} {n₂ = n} {m₂ = edge} (omega arith) pos)) in
      rw (touched_some edge start (suc n) (omega arith)) (omega (arith, far, add-mul-div_right start n {z = edge} pos))

  -- from texel 0 on they are what the texels take rounded up
  pub touched_whole : (texels : ℕ) → touched_blocks edge 0 texels ≡ ceil_div texels edge
  unfolding ceil_div
  touched_whole zero = touched_none edge 0 ∙ sym (div-eq_of_lt {n = 0 + (edge - 1)} {m = edge} (omega arith))
  touched_whole (suc n) =
      let last : (0 + suc n - 1) / edge ≡ n / edge = ap (λ (k : ℕ). k / edge) (let e : 0 + suc n - 1 ≡ n = omega arith in e) in
      let up : (suc n + (edge - 1)) / edge ≡ (n + edge) / edge = ap (λ (k : ℕ). k / edge) (let e : suc n + (edge - 1) ≡ n + edge = omega arith in e) in
      omega (arith, touched_some edge 0 (suc n) (omega arith), last, zero-div edge, up, add-div_right n {k = edge} pos)

  module _ (extent start size : ℕ) where
    -- no more than the level has
    pub cut_most : cut_blocks edge extent start size ≤ ceil_div extent edge
    unfolding cut_blocks
    cut_most = go (cut_size extent start size) (cut_inside extent start size)
      where
        go : (n : ℕ) → (0 < n → start + n ≤ extent) → touched_blocks edge start n ≤ ceil_div extent edge
        go zero inside = rw (touched_none edge start) (omega arith)
        go (suc n) inside =
            rw (touched_some edge start (suc n) (omega arith))
            (omega (arith, ceil_below (start + suc n - 1) extent edge pos (let k = inside (omega arith) in omega arith)))

    -- where the cut has a texel, its blocks go from the first texel's to the last texel's
    cut_some : 0 < cut_size extent start size
        → cut_blocks edge extent start size ≡ (min (start + size) extent - 1) / edge - start / edge + 1
    unfolding cut_blocks cut_size
    cut_some h =
        touched_some edge start (cut_size extent start size) h
        ∙ ap (λ (l : ℕ). l / edge - start / edge + 1) (let e : start + (min (start + size) extent - start) - 1 ≡ min (start + size) extent - 1 = omega arith in e)

    cut_none : min (start + size) extent ≤ start → cut_blocks edge extent start size ≡ 0
    unfolding cut_blocks cut_size
    cut_none h = ap (touched_blocks edge start) (let e : min (start + size) extent - start ≡ 0 = omega arith in e) ∙ touched_none edge start

    pub texel_counted : (block : ℕ) → TexelOf edge extent start size block
        → (start / edge ≤ block) × (block < start / edge + cut_blocks edge extent start size)
    unfolding cut_size
    texel_counted block t =
        let h = t.from in
        let b = t.before in
        let l = t.in_level in
        let e = t.in_block in
        let some = cut_some (omega arith) in
        let low = block_order start t.texel h in
        let high = block_order t.texel (min (start + size) extent - 1) (omega arith) in
        (omega arith, omega arith)

    has_texel : (block : ℕ) → start < min (start + size) extent → start / edge ≤ block → block ≤ (min (start + size) extent - 1) / edge
        → TexelOf edge extent start size block
    has_texel block cut low high =
        let end = min (start + size) extent in
        let texel = max start (block * edge) in
        let reach : block * edge ≤ end - 1 = le_trans (mul-le-mul_right edge high) (div-mul-le_self (end - 1) edge) in
        let far = mul-le-mul_right edge low in
        let below : texel < suc block * edge = omega (arith, far, suc-mul block edge, lt-div-mul-add {a = start} {b = edge} pos) in
        let least = (le-div_iff_mul-le {k = edge} {x = block} {y = texel} pos).1 (le-max_right start (block * edge)) in
        let most = (div-lt_iff_lt-mul {k = edge} {x = texel} {y = suc block} pos).1 below in
        record {
          texel = texel;
          from = le-max_left start (block * edge);
          before = omega arith;
          in_level = omega arith;
          in_block = omega (arith, least, most);
        }

    pub block_has_texel : (block : ℕ) → start / edge ≤ block → block < start / edge + cut_blocks edge extent start size → TexelOf edge extent start size block
    unfolding cut_size
    block_has_texel block low high = go (dec_lt start (min (start + size) extent))
      where
        go : Dec (start < min (start + size) extent) → TexelOf edge extent start size block
        go (yes h) = has_texel block h low (omega (arith, cut_some (omega arith), block_order start (min (start + size) extent - 1) (omega arith)))
        go (no h) = absurd (let e = cut_none (omega arith) in let y : ⊥ = omega arith in y)

-- ---- of a region

-- a region's blocks have room for its texels
pub region_covers : (edge width height : ℕ) (r : Region) → 0 < edge → region_texels width height r ≤ region_blocks edge width height r * (edge * edge)
unfolding region_texels region_blocks cut_blocks
region_covers edge width height Whole pos =
    rw (mul-mul-mul_comm (touched_blocks edge 0 width) (touched_blocks edge 0 height) edge edge)
    (mul-le-mul (touched_covers edge pos 0 width) (touched_covers edge pos 0 height))
region_covers edge width height (Part r) pos =
    rw (mul-mul-mul_comm (cut_blocks edge width r.x r.width) (cut_blocks edge height r.y r.height) edge edge)
    (mul-le-mul (touched_covers edge pos r.x (cut_size width r.x r.width)) (touched_covers edge pos r.y (cut_size height r.y r.height)))

-- and are no more than these
pub region_at_most : (edge width height : ℕ) (r : Region) → 0 < edge → region_blocks edge width height r ≤ region_texels width height r
unfolding region_texels region_blocks cut_blocks
region_at_most edge width height Whole pos = mul-le-mul (touched_at_most edge pos 0 width) (touched_at_most edge pos 0 height)
region_at_most edge width height (Part r) pos =
    mul-le-mul (touched_at_most edge pos r.x (cut_size width r.x r.width)) (touched_at_most edge pos r.y (cut_size height r.y r.height))

pub region_whole : (edge width height : ℕ) → 0 < edge → region_blocks edge width height Whole ≡ ceil_div width edge * ceil_div height edge
unfolding region_blocks
region_whole edge width height pos = λ i. touched_whole edge pos width i * touched_whole edge pos height i

pub region_most : (edge width height : ℕ) (r : Region) → 0 < edge → region_blocks edge width height r ≤ ceil_div width edge * ceil_div height edge
unfolding region_blocks
region_most edge width height Whole pos = mul-le-mul (omega (arith, touched_whole edge pos width)) (omega (arith, touched_whole edge pos height))
region_most edge width height (Part r) pos = mul-le-mul (cut_most edge pos width r.x r.width) (cut_most edge pos height r.y r.height)

-- blocks of one texel are the texels
pub region_one : (width height : ℕ) (r : Region) → region_blocks 1 width height r ≡ region_texels width height r
region_one width height r =
    let covers = region_covers 1 width height r (omega arith) in
    let most = region_at_most 1 width height r (omega arith) in
    omega arith
