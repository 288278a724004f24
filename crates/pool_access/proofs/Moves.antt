-- One record's starts moved as code does it, number by number: both numbers can be moved, and the rest is then what was left to do. Assumes nothing.
use mathlib.Core.Path.{◌≡◌, sym, ap, ◌∙◌, subst}
use mathlib.Core.List.{List}
use Prim.Native.Nat.{ℕ, ◌+◌, ◌*◌, ◌-◌, ◌≤◌, ◌<◌}
use native.Mathlib.Omega.{arith}
use mir.Syntax.{w64}
use mir.Val.{Fits}
use lib.ListN.{length, get_or, set, length-set}
use lib.Seq.{sets, get_or-set_other}
use Rattle.pool_records.specs.declared.shift.Shift.{Shift}
use Rattle.pool_records.specs.Texture.{write_texture, texture_in}
use Rattle.pool_records.specs.Starts.{shifted_by, moved_start, starts_moved, StartsMove}
use Rattle.pool_records.specs.RecordConstants.{texture_stride, texture_grid_at, texture_stamp_at}
use Rattle.pool_records.proofs.Starts.{grid_number, stamp_number, start_written, moved_step, moves_behind}

module _ (grids stamps : Shift) (n k : ℕ) (s : List ℕ) (fits : texture_stride * n ≤ length s) (h : k < n) (can : StartsMove grids stamps k n s) where
  abbrev grid_at : ℕ
  grid_at = texture_stride * k + texture_grid_at

  abbrev stamp_at : ℕ
  stamp_at = texture_stride * k + texture_stamp_at

  abbrev new_grid : ℕ
  new_grid = get_or s grid_at 0 - grids.less + grids.more

  -- after both numbers
  abbrev twice : List ℕ
  twice = set (set s grid_at new_grid) stamp_at (get_or (set s grid_at new_grid) stamp_at 0 - stamps.less + stamps.more)

  pub grid_least : grids.less ≤ get_or s grid_at 0
  grid_least = omega (arith, (can k (omega arith) h).grid_less, grid_number s k)

  -- what is added may even have what went out in it
  pub grid_sum : (m : ℕ) → m ≤ grids.less + grids.more → Fits w64 (get_or s grid_at 0 - grids.less + m)
  grid_sum m few = omega (arith, (can k (omega arith) h).grid_less, (can k (omega arith) h).grid_more, grid_number s k)

  -- whatever the first number is now, the second stands as it did
  module _ (g : ℕ) where
    second_stands : get_or (set s grid_at g) stamp_at 0 ≡ (texture_in s k).stamp
    second_stands = get_or-set_other s grid_at stamp_at g 0 (λ e. let y : ⊥ = omega (arith, e) in y) ∙ stamp_number s k

    pub stamp_inside : stamp_at < length (set s grid_at g)
    stamp_inside = omega (arith, length-set s grid_at g)

    pub stamp_least : stamps.less ≤ get_or (set s grid_at g) stamp_at 0
    stamp_least = omega (arith, (can k (omega arith) h).stamp_less, second_stands)

    pub stamp_sum : (m : ℕ) → m ≤ stamps.less + stamps.more → Fits w64 (get_or (set s grid_at g) stamp_at 0 - stamps.less + m)
    stamp_sum m few = omega (arith, (can k (omega arith) h).stamp_less, (can k (omega arith) h).stamp_more, second_stands)

  written : twice ≡ sets s (texture_stride * k) (write_texture (moved_start grids stamps (texture_in s k)))
  unfolding shifted_by
  written =
      start_written grids stamps n k s fits h new_grid (get_or (set s grid_at new_grid) stamp_at 0 - stamps.less + stamps.more)
      (ap (shifted_by grids) (grid_number s k)) (ap (shifted_by stamps) (second_stands new_grid))

  pub next_long : length twice ≡ length s
  next_long =
      length-set (set s grid_at new_grid) stamp_at (get_or (set s grid_at new_grid) stamp_at 0 - stamps.less + stamps.more) ∙ length-set s grid_at new_grid

  pub next_can : StartsMove grids stamps (k + 1) n twice
  next_can =
      subst (StartsMove grids stamps (k + 1) n) (sym written) (moves_behind grids stamps n k s fits h (moved_start grids stamps (texture_in s k)) can)

  pub next_left : starts_moved grids stamps (k + 1) n twice ≡ starts_moved grids stamps k n s
  next_left = ap (starts_moved grids stamps (k + 1) n) written ∙ moved_step grids stamps n k s fits h
