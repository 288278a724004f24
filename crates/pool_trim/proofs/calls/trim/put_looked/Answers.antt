-- `put_looked` meets its contract. Assumes nothing.
use mathlib.Core.Path.{ap, ◌∙◌}
use Prim.Native.Nat.{◌*◌}
use lib.Seq.{sets}
use Rattle.pool_records.specs.declared.texture.TextureRecord.{TextureRecord}
use Rattle.pool_records.specs.Texture.{write_texture}
use Rattle.pool_trim.specs.LookAt.{looked_record}
use Rattle.pool_trim.proofs.Puts.{put_none, put_some, put_same}
use Rattle.pool_records.specs.RecordConstants.{texture_stride}
use Rattle.pool_trim.proofs.calls.trim.put_looked.Goals as goal

pub returns-then-look-eq0 : goal.returns-then-look-eq0
returns-then-look-eq0 c =
    let a = c.args in
    put_none a.textures.now a.i a.look a.pass c.if-look-eq0.true

pub returns-then-pass-i : goal.returns-then-pass-i
returns-then-pass-i c =
    let a = c.args in
    put_same a.textures.now a.i a.look a.pass c.if-look-eq0.false c.requires.0 c.requires.4 c.requires.5 c.if-pass-i.true

pub returns : goal.returns
unfolding looked_record
returns c =
    let a = c.args in
    c.put_texture.ensures
    ∙ ap (λ (t : TextureRecord). sets a.textures.now (texture_stride * a.pass.tracked) (write_texture (looked_record a.look a.pass t)))
    c.texture_at.ensures
    ∙ put_some a.textures.now a.i a.look a.pass c.if-look-eq0.false
