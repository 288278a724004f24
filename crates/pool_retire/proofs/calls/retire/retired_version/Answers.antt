-- `retired_version` meets its contract, for an untracked texture and a tracked one. Assumes nothing.
use Rattle.pool_records.specs.Texture.{texture_in}
use Rattle.pool_retire.proofs.Tracked.{says_nowhere, says_here}
use Rattle.pool_retire.proofs.Noted.{note_untracked, note_tracked}
use Rattle.pool_records.specs.Find.{has_id}
use Rattle.pool_retire.proofs.calls.retire.retired_version.Goals as goal

pub returns-then-not-has_id : goal.returns-then-not-has_id
returns-then-not-has_id c =
    let a = c.args in
    let h = c.has_id in
    note_untracked (has_id a.textures.now a.tracked a.i a.id) (texture_in a.textures.now a.i) a.id a.view
    a.seq
    (says_nowhere a.textures.now a.tracked a.i a.id h.result h.ensures c.if-not-has_id.true-raw)

pub returns : goal.returns
returns c =
    let a = c.args in
    let h = c.has_id in
    let q = says_here a.textures.now a.tracked a.i a.id h.result h.ensures c.if-not-has_id.false-raw in
    let t = c.texture_at-t in
    let w = c.writes_counted in
    note_tracked (has_id a.textures.now a.tracked a.i a.id) (texture_in a.textures.now a.i) a.id a.view a.seq
    q t.result t.ensures w.result w.ensures
