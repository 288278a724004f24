-- `put_number` meets its contract. Assumes nothing.
use native.Mathlib.Omega.{arith}
use Rattle.base_digits.proofs.ShortNumbers.{four_behind, room_behind, put_behind}
use Rattle.base_digits.proofs.digits.put_number.Goals as goal

pub returns-then-n-lt10000 : goal.returns-then-n-lt10000
returns-then-n-lt10000 c = c.put_small.ensures

pub put_four-requires : goal.put_four-requires
put_four-requires c =
    let r = room_behind _ _ _ _ (four_behind c.args.n c.if-n-lt10000.false (omega (arith, c.if-n-lt100000000.true))) in
    omega (arith, c.requires, c.put_small-end.ensures.0, c.put_small-end.auto.out, r)

pub overflow_add-result : goal.overflow_add-result
overflow_add-result c =
    let r = room_behind _ _ _ _ (four_behind c.args.n c.if-n-lt10000.false (omega (arith, c.if-n-lt100000000.true))) in
    omega (arith, c.requires, c.put_small-end.ensures.0, r)

pub returns-then-n-lt100000000 : goal.returns-then-n-lt100000000
returns-then-n-lt100000000 c =
    put_behind _ _ c.args.n _ _ _ _ _ _ (four_behind c.args.n c.if-n-lt10000.false (omega (arith, c.if-n-lt100000000.true))) c.put_small-end.ensures.0 c.put_small-end.ensures.1 c.put_four.ensures

pub returns : goal.returns
returns c = c.put_large.ensures
