-- `put_large` meets its contract: the digits of the number without its last eight are put, and then those. Assumes nothing.
use native.Mathlib.Omega.{arith}
use Prim.Native.Nat.{◌/◌}
use Rattle.base_digits.proofs.ShortNumbers.{eight_behind, room_behind, put_behind}
use Rattle.base_digits.proofs.digits.put_large.Goals as goal

pub put_eight-requires : goal.put_eight-requires
put_eight-requires c =
    let n = c.args.n in
    let e = eight_behind n c.requires.0 (omega arith) in
    let s = c.put_short-end in
    omega (arith, c.requires.1, s.ensures.0, s.auto.out, room_behind _ _ _ _ e)

pub overflow_add-result : goal.overflow_add-result
overflow_add-result c =
    let n = c.args.n in
    let e = eight_behind n c.requires.0 (omega arith) in
    let s = c.put_short-end in
    omega (arith, c.requires.1, s.ensures.0, room_behind _ _ _ _ e)

pub returns-then-high-lt100000000 : goal.returns-then-high-lt100000000
returns-then-high-lt100000000 c =
    let n = c.args.n in
    let e = eight_behind n c.requires.0 (omega arith) in
    let s = c.put_short-end.ensures in
    put_behind _ _ _ _ _ _ _ _ _ e s.0 s.1 c.put_eight.ensures

pub put_eight-requires-2 : goal.put_eight-requires-2
put_eight-requires-2 c =
    let n = c.args.n in
    let g = eight_behind (n / 100000000) c.if-high-lt100000000.false (omega arith) in
    let e = eight_behind n c.requires.0 (omega arith) in
    let s = c.put_small-end in
    omega (arith, c.requires.1, s.ensures.0, s.auto.out, room_behind _ _ _ _ g)

pub overflow_add-end : goal.overflow_add-end
overflow_add-end c =
    let n = c.args.n in
    let g = eight_behind (n / 100000000) c.if-high-lt100000000.false (omega arith) in
    let e = eight_behind n c.requires.0 (omega arith) in
    let s = c.put_small-end in
    omega (arith, c.requires.1, s.ensures.0, room_behind _ _ _ _ g)

pub put_eight-requires-3 : goal.put_eight-requires-3
put_eight-requires-3 c =
    let n = c.args.n in
    let g = eight_behind (n / 100000000) c.if-high-lt100000000.false (omega arith) in
    let e = eight_behind n c.requires.0 (omega arith) in
    let s = c.put_small-end in
    let t = c.put_eight-2 in
    let p = put_behind _ _ _ _ _ _ _ _ _ g s.ensures.0 s.ensures.1 t.ensures in
    omega (arith, c.requires.1, p.0, s.auto.out, t.auto.out, room_behind _ _ _ _ e)

pub overflow_add-result-2 : goal.overflow_add-result-2
overflow_add-result-2 c =
    let n = c.args.n in
    let g = eight_behind (n / 100000000) c.if-high-lt100000000.false (omega arith) in
    let e = eight_behind n c.requires.0 (omega arith) in
    let s = c.put_small-end in
    let t = c.put_eight-2 in
    let p = put_behind _ _ _ _ _ _ _ _ _ g s.ensures.0 s.ensures.1 t.ensures in
    omega (arith, c.requires.1, p.0, room_behind _ _ _ _ e)

pub returns : goal.returns
returns c =
    let n = c.args.n in
    let g = eight_behind (n / 100000000) c.if-high-lt100000000.false (omega arith) in
    let e = eight_behind n c.requires.0 (omega arith) in
    let s = c.put_small-end in
    let t = c.put_eight-2 in
    let p = put_behind _ _ _ _ _ _ _ _ _ g s.ensures.0 s.ensures.1 t.ensures in
    let q = put_behind _ _ _ _ _ _ _ _ _ e p.0 p.1 c.put_eight-3.ensures in
    (omega (arith, q.0), q.1)
