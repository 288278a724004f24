-- `four_bytes` meets its contract. Assumes nothing.
use Prim.Native.Nat.{◌+◌}
use native.Mathlib.Omega.{arith}
use Rattle.event_text.proofs.EightRead.{four_packed}
use Rattle.event_text.proofs.eight.four_bytes.Goals as goal

pub overflow_mul-result : goal.overflow_mul-result
overflow_mul-result c =
    let i = c.args.at in
    omega (arith, c.wide-2.ensures, c.shared_slice_known-3-1.given (i + 1))

pub overflow_add-result : goal.overflow_add-result
overflow_add-result c =
    let i = c.args.at in
    let g = c.shared_slice_known-3-1.given in
    omega (arith, c.wide-2.ensures, c.wide.ensures, g i, g (i + 1))

pub overflow_mul-result-2 : goal.overflow_mul-result-2
overflow_mul-result-2 c =
    let i = c.args.at in
    omega (arith, c.wide-3.ensures, c.shared_slice_known-4-1.given (i + 2))

pub overflow_add-result-2 : goal.overflow_add-result-2
overflow_add-result-2 c =
    let i = c.args.at in
    let g = c.shared_slice_known-4-1.given in
    omega (arith, c.wide-3.ensures, c.wide-2.ensures, c.wide.ensures, g i, g (i + 1), g (i + 2))

pub overflow_mul-result-3 : goal.overflow_mul-result-3
overflow_mul-result-3 c =
    let i = c.args.at in
    omega (arith, c.wide-4.ensures, c.shared_slice_known-5-1.given (i + 3))

pub overflow_add-result-3 : goal.overflow_add-result-3
overflow_add-result-3 c =
    let i = c.args.at in
    let g = c.shared_slice_known-5-1.given in
    omega (arith, c.wide-4.ensures, c.wide-3.ensures, c.wide-2.ensures, c.wide.ensures, g i, g (i + 1), g (i + 2), g (i + 3))

pub returns : goal.returns
returns c =
    four_packed c.args.text.now c.args.at _ _ _ _ c.requires c.wide.ensures c.wide-2.ensures c.wide-3.ensures c.wide-4.ensures
