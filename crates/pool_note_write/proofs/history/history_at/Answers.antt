-- `history_at` meets its contract. Assumes nothing.
use mathlib.Core.Path.{sym, ap, ◌∙◌}
use mathlib.Core.Bool.{Bool, cond}
use borrow.Author.Tests.{not-true, not-false}
use Rattle.std.specs.Prelude.{None}
use Rattle.pool_records.specs.declared.texture.TextureRecord.{TextureRecord}
use Rattle.pool_note_write.specs.History.{recorded_at}
use Rattle.pool_records.specs.Texture.{texture_in}
use Rattle.pool_note_write.proofs.history.history_at.Goals as goal

pub returns-then-not-has_id : goal.returns-then-not-has_id
unfolding recorded_at
returns-then-not-has_id c =
    let a = c.args in
    sym (ap (λ (b : Bool). cond b (texture_in a.textures.now a.i).history None) (sym c.has_id.ensures ∙ not-true _ c.if-not-has_id.true-raw))

pub returns : goal.returns
unfolding recorded_at
returns c =
    let a = c.args in
    ap (λ (t : TextureRecord). t.history) c.texture_at.ensures
    ∙ sym (ap (λ (b : Bool). cond b (texture_in a.textures.now a.i).history None) (sym c.has_id.ensures ∙ not-false _ c.if-not-has_id.false-raw))
