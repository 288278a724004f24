-- `eight_digits` meets its contract. Assumes nothing.
use native.Mathlib.Omega.{arith}
use Rattle.event_text.proofs.EightRead.{whole_room, whole_read, lowest, few, moved_room, moved_read, none_read}
use Rattle.event_text.proofs.eight.eight_digits.Goals as goal

pub eight_value-requires : goal.eight_value-requires
eight_value-requires c =
    whole_room c.args.text.now c.args.at c.eight_bytes-word.result c.marks-others.result c.requires (λ i. omega (arith, c.shared_slice_known-1.given i)) c.eight_bytes-word.ensures c.marks-others.ensures c.if-others-eq0.true

pub returns-then-others-eq0 : goal.returns-then-others-eq0
returns-then-others-eq0 c =
    whole_read c.args.text.now c.args.at c.eight_bytes-word.result c.marks-others.result c.requires (λ i. omega (arith, c.shared_slice_known-1.given i)) c.eight_bytes-word.ensures c.marks-others.ensures c.if-others-eq0.true _ c.eight_value.ensures

pub overflow_sub-bits : goal.overflow_sub-bits
overflow_sub-bits c =
    omega (arith, lowest c.args.text.now c.args.at c.eight_bytes-word.result c.marks-others.result c.requires (λ i. omega (arith, c.shared_slice_known-1.given i)) c.eight_bytes-word.ensures c.marks-others.ensures c.if-others-eq0.false)

pub returns-then-bits-eq0 : goal.returns-then-bits-eq0
returns-then-bits-eq0 c =
    let low = lowest c.args.text.now c.args.at c.eight_bytes-word.result c.marks-others.result c.requires (λ i. omega (arith, c.shared_slice_known-1.given i)) c.eight_bytes-word.ensures c.marks-others.ensures c.if-others-eq0.false in
    none_read c.args.text.now c.args.at c.eight_bytes-word.result c.marks-others.result c.requires (λ i. omega (arith, c.shared_slice_known-1.given i)) c.eight_bytes-word.ensures c.marks-others.ensures c.if-others-eq0.false (omega (arith, low, c.if-bits-eq0.true))

pub overflow_cast-result : goal.overflow_cast-result
overflow_cast-result c =
    omega (arith, lowest c.args.text.now c.args.at c.eight_bytes-word.result c.marks-others.result c.requires (λ i. omega (arith, c.shared_slice_known-1.given i)) c.eight_bytes-word.ensures c.marks-others.ensures c.if-others-eq0.false, few c.args.text.now c.args.at c.eight_bytes-word.result c.marks-others.result c.requires (λ i. omega (arith, c.shared_slice_known-1.given i)) c.eight_bytes-word.ensures c.marks-others.ensures c.if-others-eq0.false)

pub overflow_sub-bits-2 : goal.overflow_sub-bits-2
overflow_sub-bits-2 c =
    omega (arith, lowest c.args.text.now c.args.at c.eight_bytes-word.result c.marks-others.result c.requires (λ i. omega (arith, c.shared_slice_known-1.given i)) c.eight_bytes-word.ensures c.marks-others.ensures c.if-others-eq0.false, few c.args.text.now c.args.at c.eight_bytes-word.result c.marks-others.result c.requires (λ i. omega (arith, c.shared_slice_known-1.given i)) c.eight_bytes-word.ensures c.marks-others.ensures c.if-others-eq0.false)

pub eight_value-requires-2 : goal.eight_value-requires-2
eight_value-requires-2 c =
    let low = lowest c.args.text.now c.args.at c.eight_bytes-word.result c.marks-others.result c.requires (λ i. omega (arith, c.shared_slice_known-1.given i)) c.eight_bytes-word.ensures c.marks-others.ensures c.if-others-eq0.false in
    moved_room c.args.text.now c.args.at c.eight_bytes-word.result c.marks-others.result c.requires (λ i. omega (arith, c.shared_slice_known-1.given i)) c.eight_bytes-word.ensures c.marks-others.ensures c.if-others-eq0.false _ (omega (arith, low))

pub returns : goal.returns
returns c =
    let low = lowest c.args.text.now c.args.at c.eight_bytes-word.result c.marks-others.result c.requires (λ i. omega (arith, c.shared_slice_known-1.given i)) c.eight_bytes-word.ensures c.marks-others.ensures c.if-others-eq0.false in
    moved_read c.args.text.now c.args.at c.eight_bytes-word.result c.marks-others.result c.requires (λ i. omega (arith, c.shared_slice_known-1.given i)) c.eight_bytes-word.ensures c.marks-others.ensures c.if-others-eq0.false _ _ _ (omega (arith, low)) c.eight_value-2.ensures (omega (arith, low))
