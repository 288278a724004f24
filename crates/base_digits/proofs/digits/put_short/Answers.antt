-- `put_short` meets its contract. Assumes nothing.
use native.Mathlib.Omega.{arith}
use Prim.Native.Nat.{◌/◌}
use Rattle.base_digits.proofs.ShortNumbers.{room_four, four_behind, put_behind}
use Rattle.base_digits.proofs.digits.put_short.Goals as goal

pub returns-then-n-lt10000 : goal.returns-then-n-lt10000
returns-then-n-lt10000 c = c.put_small.ensures

pub put_four-requires : goal.put_four-requires
put_four-requires c =
    let r = room_four (c.args.n / 10000) (omega (arith, c.requires.0)) in
    omega (arith, c.requires.1, c.put_small-end.ensures.0, c.put_small-end.auto.out, r)

pub overflow_add-result : goal.overflow_add-result
overflow_add-result c =
    let r = room_four (c.args.n / 10000) (omega (arith, c.requires.0)) in
    omega (arith, c.requires.1, c.put_small-end.ensures.0, c.put_small-end.auto.out, r)

pub returns : goal.returns
returns c =
    let s = c.put_small-end.ensures in
    put_behind _ _ c.args.n _ _ _ _ _ _ (four_behind c.args.n c.if-n-lt10000.false (omega (arith, c.requires.0))) s.0 s.1 c.put_four.ensures
