-- `relieve_texture` meets its contract. Assumes nothing.
use mathlib.Core.Path.{ap, ap₂, ◌∙◌}
use Prim.Native.Nat.{◌+◌, ◌*◌}
use native.Mathlib.Nat.{mul-le-mul_left}
use native.Mathlib.Omega.{arith}
use lib.ListN.{get_or}
use Rattle.base_tables.specs.Rings.{laid}
use Rattle.pool_records.specs.Doomed.{write_doomed}
use Rattle.pool_take_doomed.specs.Given.{given_records}
use Rattle.pool_relief_line.specs.Line.{taken_at, gives}
use Rattle.pool_relief_line.specs.Parked.{parkings}
use Rattle.pool_access.proofs.Fields.{spares_number}
use Rattle.pool_records.specs.RecordConstants.{doomed_stride, texture_spares_at, texture_stride}
use Rattle.pool_note_allocated.proofs.relieve.relieve_texture.Goals as goal

pub texture_gives-given-requires : goal.texture_gives-given-requires
texture_gives-given-requires c =
    let a = c.args in
    let p = c.requires in
    let e = spares_number a.textures.now a.i in
    let m = ap₂ (λ x y. x * y) c.version_bytes-bytes.ensures e in
    (omega (arith, e, p.5), omega (arith, m, p.7))

pub give_spares-requires : goal.give_spares-requires
give_spares-requires c =
    let a = c.args in
    let p = c.requires in
    let e = spares_number a.textures.now a.i in
    let g = c.texture_gives-given.ensures.1 in
    (p.0, p.2, p.3, omega (arith, e, g, p.4), omega (arith, e, p.5), p.6, g)

pub overflow_mul-result : goal.overflow_mul-result
overflow_mul-result c =
    let a = c.args in
    let p = c.requires in
    let e = spares_number a.textures.now a.i in
    let g = c.texture_gives-given in
    let b = c.version_bytes-bytes in
    let le = mul-le-mul_left {m = g.result.count} {n = get_or a.textures.now (texture_stride * a.i + texture_spares_at) 0} b.result g.ensures.1 in
    omega (arith, le, ap₂ (λ x y. x * y) b.ensures e, p.7)

pub returns : goal.returns
returns c =
    let a = c.args in
    let e = spares_number a.textures.now a.i in
    let g = c.texture_gives-given in
    let b = c.version_bytes-bytes in
    let s = c.give_spares.ensures in
    let ps = parkings a.spares.now a.from (get_or a.textures.now (texture_stride * a.i + texture_spares_at) 0) in
    (e, g.ensures.1, g.ensures.0 ∙ ap (λ x. gives a.freed a.excess x a.line ps) b.ensures, ap (λ x. x * g.result.count) b.ensures, g.ensures.2 ∙ ap (λ x. a.freed + x * taken_at a.freed a.excess x a.line ps) b.ensures, s.0, s.1 ∙ ap (λ x. laid doomed_stride write_doomed a.cap a.first a.queued (given_records a.spares.now x a.from g.result.count) a.doomed.now) b.ensures, s.2)
