-- `stamp_subresource` meets its contract. Assumes nothing.
use mathlib.Core.Path.{◌≡◌, ap, ◌∙◌}
use Prim.Native.Nat.{ℕ, ◌+◌, ◌*◌, ◌≤◌, ◌<◌}
use native.Mathlib.Omega.{arith}
use lib.ListN.{length, set}
use lib.Seq.{sets}
use Rattle.grid_stamps.specs.Grids.{tiling_of, stamp_count, stamped_by}
use Rattle.pool_rules.specs.Histories.{grid_place}
use Rattle.pool_rules.specs.HistorySizes.{grid_start}
use Rattle.pool_rules.specs.RuleConstants.{grid_stride, most_grids}
use Rattle.pool_records.specs.declared.texture.TextureRecord.{TextureRecord}
use Rattle.pool_memory.specs.Reading.{grid_on}
use Rattle.pool_note_write.specs.History.{newest_place, stamps_place, stamped_on}
use Rattle.pool_note_write.proofs.AtPlace.{shape_read, place_few, place_read, start_beside, edges_beside, start_read}
use Rattle.pool_note_write.proofs.history.stamp_subresource.Goals as goal
use Rattle.pool_note_write.proofs.history.stamp_subresource.Goals.{After-start_at, After-texture_at-t}

-- the record that was read, and where the subresource's grid is by it
module _ (c : After-texture_at-t) where
  abbrev texture : TextureRecord
  texture = c.texture_at-t.result

  abbrev place : ℕ
  place = c.args.slice * texture.shape.levels + c.args.level

  abbrev p : ℕ
  p = texture.grid + grid_stride * place

  few : place < most_grids
  few =
      let a = c.args in
      place_few a.textures.now a.newest.now a.stamps.now a.i c.requires.0 texture c.texture_at-t.ensures a.slice a.level c.requires.1

  below : p + 1 < length c.args.newest.now
  below =
      let a = c.args in
      place_read a.textures.now a.newest.now a.stamps.now a.i c.requires.0 texture c.texture_at-t.ensures a.slice a.level c.requires.1

  room : texture.stamp + grid_start texture.shape place + stamp_count (tiling_of texture.shape c.args.level) ≤ length c.args.stamps.now
  room =
      let a = c.args in
      start_read a.textures.now a.newest.now a.stamps.now a.i c.requires.0 texture c.texture_at-t.ensures a.slice a.level c.requires.1

-- its stamps begin where the number beside its newest stamp says
module _ (c : After-start_at) where
  begun : c.start_at.result ≡ grid_start c.texture_at-t.result.shape (c.args.slice * c.texture_at-t.result.shape.levels + c.args.level)
  begun =
      let a = c.args in
      c.start_at.ensures
      ∙ start_beside a.textures.now a.newest.now a.stamps.now a.i c.requires.0 c.texture_at-t.result c.texture_at-t.ensures a.slice a.level c.requires.1

pub overflow_mul-p : goal.overflow_mul-p
overflow_mul-p c = omega (arith, few (goal.at.overflow_mul-p c).After-texture_at-t)

pub overflow_add-p : goal.overflow_add-p
overflow_add-p c = omega (arith, few (goal.at.overflow_add-p c).After-texture_at-t)

pub overflow_mul-p-2 : goal.overflow_mul-p-2
overflow_mul-p-2 c = omega (arith, few (goal.at.overflow_mul-p-2 c).After-texture_at-t)

pub overflow_add-p-2 : goal.overflow_add-p-2
overflow_add-p-2 c = omega (arith, below (goal.at.overflow_add-p-2 c).After-texture_at-t)

pub start_at-requires : goal.start_at-requires
start_at-requires c = omega (arith, below (goal.at.start_at-requires c).After-texture_at-t)

pub overflow_add-at : goal.overflow_add-at
overflow_add-at c = omega (arith, room (goal.at.overflow_add-at c).After-texture_at-t, begun (goal.at.overflow_add-at c).After-start_at)

pub stamp_grid-requires : goal.stamp_grid-requires
stamp_grid-requires c =
    let a = c.args in (
      shape_read a.textures.now a.newest.now a.stamps.now a.i c.requires.0 (texture (goal.at.stamp_grid-requires c).After-texture_at-t) c.texture_at-t.ensures,
      below (goal.at.stamp_grid-requires c).After-texture_at-t,
      edges_beside a.textures.now a.newest.now a.stamps.now a.i c.requires.0 (texture (goal.at.stamp_grid-requires c).After-texture_at-t) c.texture_at-t.ensures a.slice a.level c.requires.1,
      omega (arith, room (goal.at.stamp_grid-requires c).After-texture_at-t, begun (goal.at.stamp_grid-requires c).After-start_at),
    )

pub returns : goal.returns
unfolding newest_place stamps_place stamped_on
returns c =
    let a = c.args in
    let e = c.texture_at-t.ensures in
    let at = ap (λ (k : ℕ). (texture (goal.at.returns c).After-texture_at-t).stamp + k) (begun (goal.at.returns c).After-start_at) in (
      c.stamp_grid.ensures.1
          ∙ ap (λ (k : ℕ). set a.newest.now (p (goal.at.returns c).After-texture_at-t)
          (stamped_by (tiling_of (texture (goal.at.returns c).After-texture_at-t).shape a.level) a.rect a.n (grid_on (texture (goal.at.returns c).After-texture_at-t).shape a.level a.newest.now a.stamps.now (p (goal.at.returns c).After-texture_at-t) k)).newest) at
          ∙ ap (λ (t : TextureRecord). set a.newest.now (t.grid + grid_stride * grid_place t.shape a.slice a.level)
          (stamped_by (tiling_of t.shape a.level) a.rect a.n
          (grid_on t.shape a.level a.newest.now a.stamps.now (t.grid + grid_stride * grid_place t.shape a.slice a.level) (t.stamp + grid_start t.shape (grid_place t.shape a.slice a.level)))).newest) e,
      c.stamp_grid.ensures.2
          ∙ ap (λ (k : ℕ). sets a.stamps.now k
          (stamped_by (tiling_of (texture (goal.at.returns c).After-texture_at-t).shape a.level) a.rect a.n (grid_on (texture (goal.at.returns c).After-texture_at-t).shape a.level a.newest.now a.stamps.now (p (goal.at.returns c).After-texture_at-t) k)).stamps) at
          ∙ ap (λ (t : TextureRecord). sets a.stamps.now (t.stamp + grid_start t.shape (grid_place t.shape a.slice a.level))
          (stamped_by (tiling_of t.shape a.level) a.rect a.n
          (grid_on t.shape a.level a.newest.now a.stamps.now (t.grid + grid_stride * grid_place t.shape a.slice a.level) (t.stamp + grid_start t.shape (grid_place t.shape a.slice a.level)))).stamps) e,
    )
