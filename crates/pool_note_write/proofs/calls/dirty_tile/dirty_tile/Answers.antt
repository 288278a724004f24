-- `dirty_tile` meets its contract, case by case. Assumes nothing.
use mathlib.Core.Path.{sym, ap, ◌∙◌}
use Prim.Native.Nat.{ℕ}
use borrow.Author.Tests.{not-true, not-false}
use Rattle.pool_rules.specs.Histories.{in_shape}
use Rattle.pool_records.specs.declared.texture.TextureRecord.{TextureRecord}
use Rattle.std.specs.Prelude.{Some, None}
use Rattle.pool_memory.specs.Lent.{Lent, lent}
use Rattle.pool_memory.proofs.Fits.{Fits}
use Rattle.pool_memory.proofs.FromPool.{pool_fits}
use Rattle.pool_memory.proofs.Stays.{ids_ascend, textures_fit_lem}
use Rattle.pool_note_write.specs.History.{HistoryAt}
use Rattle.pool_note_write.proofs.AtPlace.{Recording, told, history_here}
use Rattle.pool_note_write.proofs.QueryCases.{dirty_none, dirty_outside, dirty_inside}
use Rattle.pool_note_write.proofs.calls.dirty_tile.dirty_tile.Goals as goal
use Rattle.pool_note_write.proofs.calls.dirty_tile.dirty_tile.Goals.{In_ok-history_at, Start}

-- the lent memory, and its facts
abbrev here : Start → Lent
here c =
    let a = c.args in lent a.pool a.book a.textures.now a.retiring.now a.doomed.now a.spares.now a.newest.now a.stamps.now

abbrev fit : (c : Start) → Fits (here c)
fit c = pool_fits (here c) c.requires

-- a texture with a history, which has that many writes
module _ (c : In_ok-history_at) where
  abbrev count : ℕ
  count = c.in_ok-history_at.field-0

  abbrev l : Lent
  l = let a = c.args in lent a.pool a.book a.textures.now a.retiring.now a.doomed.now a.spares.now a.newest.now a.stamps.now

  recording : Recording l (pool_fits l c.requires) c.args.id count
  recording =
      told l (pool_fits l c.requires) c.args.id c.find_texture-i.result c.find_texture-i.ensures c.history_at.result (Some count) c.history_at.ensures c.in_ok-history_at.was

  held : HistoryAt c.args.textures.now c.args.newest.now c.args.stamps.now c.find_texture-i.result
  held = history_here l (pool_fits l c.requires) c.args.id c.find_texture-i.result c.find_texture-i.ensures count recording

pub find_texture-i-requires : goal.find_texture-i-requires
find_texture-i-requires c = (textures_fit_lem (here (goal.at.find_texture-i-requires c).Start) (fit (goal.at.find_texture-i-requires c).Start), ids_ascend (here (goal.at.find_texture-i-requires c).Start) (fit (goal.at.find_texture-i-requires c).Start))

pub history_at-requires : goal.history_at-requires
history_at-requires c = textures_fit_lem (here (goal.at.history_at-requires c).Start) (fit (goal.at.history_at-requires c).Start)

pub returns-in_err-history_at : goal.returns-in_err-history_at
returns-in_err-history_at c =
    let a = c.args in
    rw c.from_residual.ensures (dirty_none (here (goal.at.returns-in_err-history_at c).Start) (fit (goal.at.returns-in_err-history_at c).Start) a.id a.slice a.level a.held
    (told (here (goal.at.returns-in_err-history_at c).Start) (fit (goal.at.returns-in_err-history_at c).Start) a.id c.find_texture-i.result c.find_texture-i.ensures c.history_at.result None c.history_at.ensures c.in_err-history_at.was))

pub texture_at-t-requires : goal.texture_at-t-requires
texture_at-t-requires c = (held (goal.at.texture_at-t-requires c).In_ok-history_at).there

pub returns-then-not-in_shape : goal.returns-then-not-in_shape
returns-then-not-in_shape c =
    let a = c.args in
    dirty_outside (here (goal.at.returns-then-not-in_shape c).Start) (fit (goal.at.returns-then-not-in_shape c).Start) a.id a.slice a.level a.held (count (goal.at.returns-then-not-in_shape c).In_ok-history_at) (recording (goal.at.returns-then-not-in_shape c).In_ok-history_at) c.find_texture-i.result c.find_texture-i.ensures c.texture_at-t.result c.texture_at-t.ensures
    (sym c.in_shape.ensures ∙ not-true _ c.if-not-in_shape.true-raw)

pub dirty_subresource-requires : goal.dirty_subresource-requires
dirty_subresource-requires c =
    let a = c.args in (
      held (goal.at.dirty_subresource-requires c).In_ok-history_at,
      ap (λ (t : TextureRecord). in_shape t.shape a.slice a.level) (sym c.texture_at-t.ensures) ∙ sym c.in_shape.ensures ∙ not-false _ c.if-not-in_shape.false-raw,
    )

pub returns : goal.returns
returns c =
    let a = c.args in
    dirty_inside (here (goal.at.returns c).Start) (fit (goal.at.returns c).Start) a.id a.slice a.level a.held (count (goal.at.returns c).In_ok-history_at) (recording (goal.at.returns c).In_ok-history_at) c.find_texture-i.result c.find_texture-i.ensures c.texture_at-t.result c.texture_at-t.ensures
    (sym c.in_shape.ensures ∙ not-false _ c.if-not-in_shape.false-raw) c.dirty_subresource.result c.dirty_subresource.ensures
