-- `start_of` meets its contract. Assumes nothing.
use native.Mathlib.Omega.{arith}
use Rattle.event_lines.proofs.Starts.{four_loaded}
use Rattle.event_lines.proofs.words.start_of.Goals as goal

pub four_start-requires : goal.four_start-requires
four_start-requires c =
    let long = c.if-text-lt5.false in
    (omega (arith, long), four_loaded c.args.text.now (omega (arith, long)) (λ i. omega (arith, c.shared_slice_known-2-1.given i)) _ c.four_bytes-code.ensures, c.if-text-eq44.true)

pub other_start-requires : goal.other_start-requires
other_start-requires c =
    let long = c.if-text-lt5.false in
    (omega (arith, long), four_loaded c.args.text.now (omega (arith, long)) (λ i. omega (arith, c.shared_slice_known-2-1.given i)) _ c.four_bytes-code.ensures)
