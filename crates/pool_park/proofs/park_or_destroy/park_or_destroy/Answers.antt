-- `park_or_destroy` meets its contract, test by test. Assumes nothing.
use native.Mathlib.Omega.{arith}
use Rattle.pool_records.specs.Texture.{texture_in}
use Rattle.pool_retire.proofs.Tracked.{says_nowhere, says_here}
use Rattle.pool_park.proofs.Parked.{decide_untracked, decide_renewed, decide_full, decide_kept}
use Rattle.pool_records.specs.Find.{has_id}
use Rattle.pool_park.proofs.park_or_destroy.park_or_destroy.Goals as goal

pub returns-then-not-has_id : goal.returns-then-not-has_id
returns-then-not-has_id c =
    let a = c.args in
    let h = c.has_id in
    decide_untracked a.pool a.pressed (has_id a.textures.now a.pool.tracked a.i a.v.id)
    (texture_in a.textures.now a.i) a.v
    (says_nowhere a.textures.now a.pool.tracked a.i a.v.id h.result h.ensures c.if-not-has_id.true-raw)

pub returns-then-t-v : goal.returns-then-t-v
returns-then-t-v c =
    let a = c.args in
    let h = c.has_id in
    let q = says_here a.textures.now a.pool.tracked a.i a.v.id h.result h.ensures
    c.if-not-has_id.false-raw in
    let t = c.texture_at-t in
    decide_renewed a.pool a.pressed (has_id a.textures.now a.pool.tracked a.i a.v.id)
    (texture_in a.textures.now a.i) a.v
    q t.result t.ensures (λ same. let y : ⊥ = omega (arith, same, c.if-t-v.true) in y)

pub returns-then-pressed-pool : goal.returns-then-pressed-pool
returns-then-pressed-pool c =
    let a = c.args in
    let h = c.has_id in
    let q = says_here a.textures.now a.pool.tracked a.i a.v.id h.result h.ensures
    c.if-not-has_id.false-raw in
    let t = c.texture_at-t in
    let within = c.requires.1 in
    decide_full a.pool a.pressed (has_id a.textures.now a.pool.tracked a.i a.v.id)
    (texture_in a.textures.now a.i) a.v
    q t.result t.ensures (omega (arith, c.if-t-v.false)) within c.if-pressed-pool.true

pub returns : goal.returns
returns c =
    let a = c.args in
    let h = c.has_id in
    let q = says_here a.textures.now a.pool.tracked a.i a.v.id h.result h.ensures
    c.if-not-has_id.false-raw in
    let t = c.texture_at-t in
    let within = c.requires.1 in
    decide_kept a.pool a.pressed (has_id a.textures.now a.pool.tracked a.i a.v.id)
    (texture_in a.textures.now a.i) a.v
    q t.result t.ensures (omega (arith, c.if-t-v.false)) within c.if-pressed-pool.false
