-- `note_write` meets its contract, case by case. Assumes nothing.
use mathlib.Core.Path.{sym, ap, ◌∙◌}
use Prim.Native.Nat.{ℕ}
use native.Mathlib.Omega.{arith}
use borrow.Author.Tests.{not-true, not-false}
use Rattle.pool_rules.specs.Histories.{in_shape}
use Rattle.std.specs.Prelude.{Some, None}
use Rattle.pool_records.specs.declared.texture.TextureRecord.{TextureRecord}
use Rattle.pool_memory.specs.Lent.{Lent, lent}
use Rattle.pool_memory.proofs.Fits.{Fits}
use Rattle.pool_memory.proofs.FromPool.{pool_fits}
use Rattle.pool_memory.proofs.Stays.{ids_ascend, textures_fit_lem}
use Rattle.pool_note_write.specs.History.{HistoryAt}
use Rattle.pool_note_write.specs.Dropped.{CanDrop}
use Rattle.pool_note_write.specs.Counts.{with_used}
use Rattle.pool_note_write.proofs.AtPlace.{Recording, told, tracked_here, history_here}
use Rattle.pool_note_write.proofs.Dropped.{used_in, can_drop}
use Rattle.pool_note_write.proofs.WriteCases.{write_unrecorded, left_outside, left_spent, left_inside}
use Rattle.pool_note_write.proofs.calls.note_write.note_write.Goals as goal
use Rattle.pool_note_write.proofs.calls.note_write.note_write.Goals.{In-Some, Start}

-- the lent memory, and its facts
abbrev here : Start → Lent
here c =
    let a = c.args in lent a.pool a.book a.textures.now a.retiring.now a.doomed.now a.spares.now a.newest.now a.stamps.now

abbrev fit : (c : Start) → Fits (here c)
fit c = pool_fits (here c) c.requires

-- a texture with a history, which has that many writes
module _ (c : In-Some) where
  abbrev count : ℕ
  count = c.in-Some.n

  abbrev l : Lent
  l = let a = c.args in lent a.pool a.book a.textures.now a.retiring.now a.doomed.now a.spares.now a.newest.now a.stamps.now

  recording : Recording l (pool_fits l c.requires) c.args.id count
  recording =
      told l (pool_fits l c.requires) c.args.id c.find_texture-i.result c.find_texture-i.ensures c.history_at-history.result (Some count)
      c.history_at-history.ensures c.in-Some.is

  held : HistoryAt c.args.textures.now c.args.newest.now c.args.stamps.now c.find_texture-i.result
  held = history_here l (pool_fits l c.requires) c.args.id c.find_texture-i.result c.find_texture-i.ensures count recording

  droppable : CanDrop c.args.textures.now c.args.newest.now c.args.stamps.now c.args.pool.tracked (used_in l)
      c.find_texture-i.result
  droppable =
      can_drop l (pool_fits l c.requires) c.find_texture-i.result
      (tracked_here l (pool_fits l c.requires) c.args.id c.find_texture-i.result c.find_texture-i.ensures count recording)

pub find_texture-i-requires : goal.find_texture-i-requires
find_texture-i-requires c = (textures_fit_lem (here (goal.at.find_texture-i-requires c).Start) (fit (goal.at.find_texture-i-requires c).Start), ids_ascend (here (goal.at.find_texture-i-requires c).Start) (fit (goal.at.find_texture-i-requires c).Start))

pub history_at-history-requires : goal.history_at-history-requires
history_at-history-requires c = textures_fit_lem (here (goal.at.history_at-history-requires c).Start) (fit (goal.at.history_at-history-requires c).Start)

pub returns-in_default : goal.returns-in_default
returns-in_default c =
    let a = c.args in
    rw c.same_counts.ensures (write_unrecorded (here (goal.at.returns-in_default c).Start) c.requires a.id a.slice a.level a.rect
    (told (here (goal.at.returns-in_default c).Start) (fit (goal.at.returns-in_default c).Start) a.id c.find_texture-i.result c.find_texture-i.ensures c.history_at-history.result None c.history_at-history.ensures c.in_default.is))

pub texture_at-t-requires : goal.texture_at-t-requires
texture_at-t-requires c = (held (goal.at.texture_at-t-requires c).In-Some).there

pub drop_history-still-requires : goal.drop_history-still-requires
drop_history-still-requires c = droppable (goal.at.drop_history-still-requires c).In-Some

pub returns-then-not-in_shape : goal.returns-then-not-in_shape
returns-then-not-in_shape c =
    let a = c.args in
    let d = c.drop_history-still in
    left_outside (here (goal.at.returns-then-not-in_shape c).Start) c.requires a.id a.slice a.level a.rect (count (goal.at.returns-then-not-in_shape c).In-Some) (recording (goal.at.returns-then-not-in_shape c).In-Some) c.find_texture-i.result c.find_texture-i.ensures c.texture_at-t.result c.texture_at-t.ensures
    (sym c.in_shape.ensures ∙ not-true _ c.if-not-in_shape.true-raw) _
    (λ j. lent (with_used (d.ensures.0 j) (d.ensures.1 j) a.pool) a.book (d.ensures.2 j) a.retiring.now a.doomed.now a.spares.now (d.ensures.3 j) (d.ensures.4 j))

pub returns-then-n-ge-LIMIT : goal.returns-then-n-ge-LIMIT
returns-then-n-ge-LIMIT c =
    let a = c.args in
    rw c.same_counts-then-n-ge-LIMIT.ensures (left_spent (here (goal.at.returns-then-n-ge-LIMIT c).Start) c.requires a.id a.slice a.level a.rect (count (goal.at.returns-then-n-ge-LIMIT c).In-Some) (recording (goal.at.returns-then-n-ge-LIMIT c).In-Some) c.find_texture-i.result c.find_texture-i.ensures c.texture_at-t.result c.texture_at-t.ensures
    (sym c.in_shape.ensures ∙ not-false _ c.if-not-in_shape.false-raw) c.if-n-ge-LIMIT.true)

pub stamp_subresource-requires : goal.stamp_subresource-requires
stamp_subresource-requires c =
    let a = c.args in (
      held (goal.at.stamp_subresource-requires c).In-Some,
      ap (λ (t : TextureRecord). in_shape t.shape a.slice a.level) (sym c.texture_at-t.ensures) ∙ sym c.in_shape.ensures ∙ not-false _ c.if-not-in_shape.false-raw,
    )

pub set_history-requires : goal.set_history-requires
set_history-requires c = ((held (goal.at.set_history-requires c).In-Some).there, omega (arith, c.if-n-ge-LIMIT.false))

pub returns : goal.returns
returns c =
    let a = c.args in
    let d = c.stamp_subresource in
    left_inside (here (goal.at.returns c).Start) c.requires a.id a.slice a.level a.rect (count (goal.at.returns c).In-Some) (recording (goal.at.returns c).In-Some) c.find_texture-i.result c.find_texture-i.ensures c.texture_at-t.result c.texture_at-t.ensures
    (sym c.in_shape.ensures ∙ not-false _ c.if-not-in_shape.false-raw) c.if-n-ge-LIMIT.false _
    (λ j. lent a.pool a.book (c.set_history.ensures j) a.retiring.now a.doomed.now a.spares.now (d.ensures.0 j) (d.ensures.1 j))
