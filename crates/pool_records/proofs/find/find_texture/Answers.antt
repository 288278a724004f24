-- `find_texture` meets its contract. The place stays between the two ends, which close in on it; among those left, as many are below the id as
-- stand before the place. Assumes nothing.
use Prim.Native.Nat.{◌+◌, ◌/◌, ◌-◌, ◌<◌}
use native.Mathlib.Omega.{arith}
use Rattle.pool_records.proofs.Places.{search_past, search_before, search_count, search_end}
use Rattle.pool_records.proofs.find.find_texture.Goals as goal

pub loop-hi-init : goal.loop-hi-init
loop-hi-init c = omega (arith, search_end c.args.n c.args.id c.args.s.now)

pub loop-hi-preserved-then-s-mid : goal.loop-hi-preserved-then-s-mid
loop-hi-preserved-then-s-mid c =
    let a = c.args in
    let lo = c.loop-hi.lo in
    let mid = lo + (c.loop-hi.hi - lo) / 2 in
    let in_table : mid < a.n = omega arith in
    omega (arith, search_past a.n mid a.id a.s.now in_table c.requires.1 c.if-s-mid.true)

pub loop-hi-preserved : goal.loop-hi-preserved
loop-hi-preserved c =
    let a = c.args in
    let lo = c.loop-hi.lo in
    let mid = lo + (c.loop-hi.hi - lo) / 2 in
    let in_table : mid < a.n = omega arith in
    omega (arith, search_before a.n mid a.id a.s.now in_table c.if-s-mid.false)

pub overflow_add-place : goal.overflow_add-place
overflow_add-place c =
    let a = c.args in
    let in_table : c.loop-i.i < a.n = omega (arith, c.loop-i-test.true) in
    omega (arith, search_count a.n c.loop-i.i a.id a.s.now in_table c.requires.1)

pub loop-i-preserved : goal.loop-i-preserved
loop-i-preserved c =
    let a = c.args in
    let in_table : c.loop-i.i < a.n = omega (arith, c.loop-i-test.true) in
    omega (arith, search_count a.n c.loop-i.i a.id a.s.now in_table c.requires.1)
