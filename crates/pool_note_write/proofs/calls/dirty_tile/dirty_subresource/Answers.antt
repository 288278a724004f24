-- `dirty_subresource` meets its contract: the grid's part of the stamps is lent on to the scan. Assumes nothing.
use mathlib.Core.Path.{◌≡◌, ap, ◌∙◌}
use mathlib.Core.Bool.{true}
use mathlib.Core.List.{[]}
use Prim.Native.Nat.{ℕ, ◌+◌, ◌*◌, ◌-◌, ◌≤◌, ◌<◌}
use native.Mathlib.Omega.{arith}
use lib.ListN.{length}
use Rattle.grid_shapes.specs.Shapes.{is_shape}
use Rattle.grid_stamps.specs.Grids.{tiling_of, stamp_count}
use Rattle.pool_rules.specs.HistorySizes.{grid_start}
use Rattle.pool_rules.specs.RuleConstants.{grid_stride, most_grids}
use Rattle.pool_records.specs.declared.texture.TextureRecord.{TextureRecord}
use Rattle.pool_records.specs.Tilings.{EdgesAt}
use Rattle.pool_memory.proofs.GridParts.{part_fits}
use Rattle.pool_access.proofs.Levels.{tiling_known_ok}
use Rattle.pool_note_write.proofs.AtPlace.{shape_read, place_few, place_read, start_beside, edges_beside, start_read}
use Rattle.pool_note_write.proofs.QueryCases.{dirty_part}
use Rattle.pool_note_write.proofs.calls.dirty_tile.dirty_subresource.Goals as goal
use Rattle.pool_note_write.proofs.calls.dirty_tile.dirty_subresource.Goals.{After-stamp_count-count, After-start_at, After-texture_at-t}

-- the record that was read, and where the subresource's grid is by it
module _ (c : After-texture_at-t) where
  abbrev texture : TextureRecord
  texture = c.texture_at-t.result

  abbrev place : ℕ
  place = c.args.slice * texture.shape.levels + c.args.level

  abbrev p : ℕ
  p = texture.grid + grid_stride * place

  abbrev count : ℕ
  count = stamp_count (tiling_of texture.shape c.args.level)

  shaped : is_shape texture.shape ≡ true
  shaped = let a = c.args in shape_read a.textures.now a.newest.now a.stamps.now a.i c.requires.0 texture c.texture_at-t.ensures

  few : place < most_grids
  few = let a = c.args in place_few a.textures.now a.newest.now a.stamps.now a.i c.requires.0 texture c.texture_at-t.ensures a.slice a.level c.requires.1

  below : p + 1 < length c.args.newest.now
  below = let a = c.args in place_read a.textures.now a.newest.now a.stamps.now a.i c.requires.0 texture c.texture_at-t.ensures a.slice a.level c.requires.1

  edges : EdgesAt c.args.newest.now p texture.shape c.args.level
  edges = let a = c.args in edges_beside a.textures.now a.newest.now a.stamps.now a.i c.requires.0 texture c.texture_at-t.ensures a.slice a.level c.requires.1

  room : texture.stamp + grid_start texture.shape place + count ≤ length c.args.stamps.now
  room = let a = c.args in start_read a.textures.now a.newest.now a.stamps.now a.i c.requires.0 texture c.texture_at-t.ensures a.slice a.level c.requires.1

-- its stamps begin where the number beside its newest stamp says
module _ (c : After-start_at) where
  begun : c.start_at.result ≡ grid_start c.texture_at-t.result.shape (c.args.slice * c.texture_at-t.result.shape.levels + c.args.level)
  begun =
      let a = c.args in
      c.start_at.ensures
      ∙ start_beside a.textures.now a.newest.now a.stamps.now a.i c.requires.0 c.texture_at-t.result c.texture_at-t.ensures a.slice a.level c.requires.1

  at_room : c.texture_at-t.result.stamp + c.start_at.result + stamp_count (tiling_of c.texture_at-t.result.shape c.args.level) ≤ length c.args.stamps.now
  at_room =
      let a = c.args in
      let whole = start_read a.textures.now a.newest.now a.stamps.now a.i c.requires.0 c.texture_at-t.result c.texture_at-t.ensures a.slice a.level c.requires.1 in
      omega (arith, whole, begun)

counted : (c : After-stamp_count-count) → c.stamp_count-count.result ≡ stamp_count (tiling_of c.texture_at-t.result.shape c.args.level)
counted c = c.stamp_count-count.ensures ∙ ap stamp_count c.tiling_at-tiling.ensures

pub overflow_mul-p : goal.overflow_mul-p
overflow_mul-p c = omega (arith, few (goal.at.overflow_mul-p c).After-texture_at-t)

pub overflow_add-p : goal.overflow_add-p
overflow_add-p c = omega (arith, few (goal.at.overflow_add-p c).After-texture_at-t)

pub overflow_mul-p-2 : goal.overflow_mul-p-2
overflow_mul-p-2 c = omega (arith, few (goal.at.overflow_mul-p-2 c).After-texture_at-t)

pub overflow_add-p-2 : goal.overflow_add-p-2
overflow_add-p-2 c = omega (arith, below (goal.at.overflow_add-p-2 c).After-texture_at-t)

pub start_at-requires : goal.start_at-requires
start_at-requires c = omega (arith, below (goal.at.start_at-requires c).After-texture_at-t)

pub overflow_add-a : goal.overflow_add-a
overflow_add-a c = omega (arith, at_room (goal.at.overflow_add-a c).After-start_at)

pub tiling_at-tiling-requires : goal.tiling_at-tiling-requires
tiling_at-tiling-requires c = (below (goal.at.tiling_at-tiling-requires c).After-texture_at-t, edges (goal.at.tiling_at-tiling-requires c).After-texture_at-t)

pub stamp_count-count-requires : goal.stamp_count-count-requires
stamp_count-count-requires c =
    let t = (goal.at.stamp_count-count-requires c).After-texture_at-t in
    tiling_known_ok (texture t).shape (shaped t) c.args.level c.tiling_at-tiling.result c.tiling_at-tiling.ensures

pub overflow_add-e : goal.overflow_add-e
overflow_add-e c = omega (arith, at_room (goal.at.overflow_add-e c).After-start_at, counted (goal.at.overflow_add-e c).After-stamp_count-count)

pub offset_bounds-stamps-a : goal.offset_bounds-stamps-a
offset_bounds-stamps-a c = omega (arith, at_room (goal.at.offset_bounds-stamps-a c).After-start_at)

pub slice_bounds-dirty_tile-end : goal.slice_bounds-dirty_tile-end
slice_bounds-dirty_tile-end c = omega (arith, at_room (goal.at.slice_bounds-dirty_tile-end c).After-start_at, counted (goal.at.slice_bounds-dirty_tile-end c).After-stamp_count-count)

pub dirty_tile-requires : goal.dirty_tile-requires
dirty_tile-requires c =
    let a = c.args in
    let t = (goal.at.dirty_tile-requires c).After-texture_at-t in
    let at = (texture t).stamp + c.start_at.result in
    part_fits (texture t).shape (shaped t) a.level [] a.stamps.now 0 at (at_room (goal.at.dirty_tile-requires c).After-start_at) (at + c.stamp_count-count.result - at)
    c.tiling_at-tiling.result (omega (arith, counted (goal.at.dirty_tile-requires c).After-stamp_count-count)) c.tiling_at-tiling.ensures

pub returns : goal.returns
returns c =
    let a = c.args in
    let t = (goal.at.returns c).After-texture_at-t in
    let at = (texture t).stamp + c.start_at.result in
    dirty_part a.textures.now a.stamps.now a.i a.slice a.level a.held (texture t) c.texture_at-t.ensures at (at + c.stamp_count-count.result - at)
    (ap (λ (n : ℕ). (texture t).stamp + n) (begun (goal.at.returns c).After-start_at)) (omega (arith, counted (goal.at.returns c).After-stamp_count-count))
    c.tiling_at-tiling.result c.tiling_at-tiling.ensures c.dirty_tile.result c.dirty_tile.ensures
