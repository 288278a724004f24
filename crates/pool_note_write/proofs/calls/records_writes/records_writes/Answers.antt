-- `records_writes` meets its contract. Assumes nothing.
use mathlib.Core.Path.{refl, ◌∙◌}
use Rattle.pool_memory.specs.Lent.{Lent, lent}
use Rattle.pool_memory.proofs.Fits.{Fits}
use Rattle.pool_memory.proofs.FromPool.{pool_fits}
use Rattle.pool_memory.proofs.Stays.{ids_ascend, textures_fit_lem}
use Rattle.pool_note_write.proofs.AtPlace.{told}
use Rattle.pool_note_write.proofs.QueryCases.{records_said}
use Rattle.pool_note_write.proofs.calls.records_writes.records_writes.Goals as goal
use Rattle.pool_note_write.proofs.calls.records_writes.records_writes.Goals.{Start}

-- the lent memory, and its facts
abbrev here : Start → Lent
here c =
    let a = c.args in lent a.pool a.book a.textures.now a.retiring.now a.doomed.now a.spares.now a.newest.now a.stamps.now

abbrev fit : (c : Start) → Fits (here c)
fit c = pool_fits (here c) c.requires

pub find_texture-i-requires : goal.find_texture-i-requires
find_texture-i-requires c = (textures_fit_lem (here (goal.at.find_texture-i-requires c).Start) (fit (goal.at.find_texture-i-requires c).Start), ids_ascend (here (goal.at.find_texture-i-requires c).Start) (fit (goal.at.find_texture-i-requires c).Start))

pub history_at-requires : goal.history_at-requires
history_at-requires c = textures_fit_lem (here (goal.at.history_at-requires c).Start) (fit (goal.at.history_at-requires c).Start)

pub returns : goal.returns
returns c =
    let l = here (goal.at.returns c).Start in
    let f = fit (goal.at.returns c).Start in
    let h = c.history_at.result in
    c.is_some.ensures ∙ records_said l f c.args.id h (told l f c.args.id c.find_texture-i.result c.find_texture-i.ensures h h c.history_at.ensures refl)
