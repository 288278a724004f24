-- `eight_bytes` meets its contract. Assumes nothing.
use mathlib.Core.Path.{ap₂, ◌∙◌}
use Prim.Native.Nat.{ℕ, ◌+◌, ◌*◌}
use native.Mathlib.Omega.{arith}
use Rattle.event_text.proofs.EightRead.{four_room, eight_packed}
use Rattle.event_text.proofs.eight.eight_bytes.Goals as goal

pub overflow_mul-result : goal.overflow_mul-result
overflow_mul-result c =
    omega (arith, c.four_bytes-2.ensures, four_room c.args.text.now (c.args.at + 4) (λ i. omega (arith, c.shared_slice_known-1.given i)))

pub overflow_add-result : goal.overflow_add-result
overflow_add-result c =
    let room = four_room c.args.text.now in
    let g = c.shared_slice_known-1.given in
    omega (arith, c.four_bytes-2.ensures, c.four_bytes.ensures, room (c.args.at + 4) (λ i. omega (arith, g i)), room c.args.at (λ i. omega (arith, g i)))

pub returns : goal.returns
returns c =
    ap₂ (λ (x : ℕ) (y : ℕ). x + y * 4294967296) c.four_bytes.ensures c.four_bytes-2.ensures ∙ eight_packed c.args.text.now c.args.at c.requires
