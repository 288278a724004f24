-- `note_mip_regeneration` meets its contract, case by case. Assumes nothing.
use Prim.Native.Nat.{ℕ}
use native.Mathlib.Omega.{arith}
use Rattle.std.specs.Prelude.{Some, None}
use Rattle.pool_memory.specs.Lent.{Lent, lent}
use Rattle.pool_memory.proofs.Fits.{Fits}
use Rattle.pool_memory.proofs.FromPool.{pool_fits}
use Rattle.pool_memory.proofs.Stays.{ids_ascend, textures_fit_lem}
use Rattle.pool_note_write.specs.History.{HistoryAt}
use Rattle.pool_note_write.proofs.AtPlace.{Recording, told, history_here}
use Rattle.pool_note_write.proofs.RegenerationCases.{regeneration_unrecorded, regeneration_spent, left_regenerated}
use Rattle.pool_note_write.proofs.calls.note_mip_regeneration.note_mip_regeneration.Goals as goal
use Rattle.pool_note_write.proofs.calls.note_mip_regeneration.note_mip_regeneration.Goals.{In-Some, Start}

-- the lent memory, and its facts
abbrev here : Start → Lent
here c =
    let a = c.args in lent a.pool a.book a.textures.now a.retiring.now a.doomed.now a.spares.now a.newest.now a.stamps.now

abbrev fit : (c : Start) → Fits (here c)
fit c = pool_fits (here c) c.requires

-- a texture with a history, which has that many writes
module _ (c : In-Some) where
  abbrev count : ℕ
  count = c.in-Some.n

  abbrev l : Lent
  l = let a = c.args in lent a.pool a.book a.textures.now a.retiring.now a.doomed.now a.spares.now a.newest.now a.stamps.now

  recording : Recording l (pool_fits l c.requires) c.args.id count
  recording =
      told l (pool_fits l c.requires) c.args.id c.find_texture-i.result c.find_texture-i.ensures c.history_at-history.result (Some count)
      c.history_at-history.ensures c.in-Some.is

  held : HistoryAt c.args.textures.now c.args.newest.now c.args.stamps.now c.find_texture-i.result
  held = history_here l (pool_fits l c.requires) c.args.id c.find_texture-i.result c.find_texture-i.ensures count recording

pub find_texture-i-requires : goal.find_texture-i-requires
find_texture-i-requires c = (textures_fit_lem (here (goal.at.find_texture-i-requires c).Start) (fit (goal.at.find_texture-i-requires c).Start), ids_ascend (here (goal.at.find_texture-i-requires c).Start) (fit (goal.at.find_texture-i-requires c).Start))

pub history_at-history-requires : goal.history_at-history-requires
history_at-history-requires c = textures_fit_lem (here (goal.at.history_at-history-requires c).Start) (fit (goal.at.history_at-history-requires c).Start)

pub returns-in_default : goal.returns-in_default
returns-in_default c =
    let a = c.args in
    rw c.same_counts.ensures (regeneration_unrecorded (here (goal.at.returns-in_default c).Start) c.requires a.id
    (told (here (goal.at.returns-in_default c).Start) (fit (goal.at.returns-in_default c).Start) a.id c.find_texture-i.result c.find_texture-i.ensures c.history_at-history.result None c.history_at-history.ensures c.in_default.is))

pub returns-then-n-ge-LIMIT : goal.returns-then-n-ge-LIMIT
returns-then-n-ge-LIMIT c =
    rw c.same_counts-then-n-ge-LIMIT.ensures (regeneration_spent (here (goal.at.returns-then-n-ge-LIMIT c).Start) c.requires c.args.id (count (goal.at.returns-then-n-ge-LIMIT c).In-Some) (recording (goal.at.returns-then-n-ge-LIMIT c).In-Some) c.if-n-ge-LIMIT.true)

pub regenerate_history-requires : goal.regenerate_history-requires
regenerate_history-requires c =
    held (goal.at.regenerate_history-requires c).In-Some

pub set_history-requires : goal.set_history-requires
set_history-requires c = ((held (goal.at.set_history-requires c).In-Some).there, omega (arith, c.if-n-ge-LIMIT.false))

pub returns : goal.returns
returns c =
    let a = c.args in
    let d = c.regenerate_history in
    left_regenerated (here (goal.at.returns c).Start) c.requires a.id (count (goal.at.returns c).In-Some) (recording (goal.at.returns c).In-Some) c.find_texture-i.result c.find_texture-i.ensures c.if-n-ge-LIMIT.false _
    (λ j. lent a.pool a.book (c.set_history.ensures j) a.retiring.now a.doomed.now a.spares.now (d.ensures.0 j) (d.ensures.1 j))
