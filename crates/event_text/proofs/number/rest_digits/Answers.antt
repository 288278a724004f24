-- `rest_digits` meets its contract: what is read from i on, as digits after those of the value, is what is read from `from` on. Assumes nothing.
use mathlib.Core.Path.{◌≡◌, sym, ap, ap₂, ◌∙◌}
use mathlib.Core.List.{List, []}
use Prim.Native.Nat.{ℕ, ◌+◌}
use native.Mathlib.Omega.{arith}
use lib.ListN.{drop}
use Rattle.base_blocks.proofs.Scans.{from}
use Rattle.event_text.specs.Numbers.{read_on, leading_digits}
use Rattle.event_text.proofs.Numbers.{read_more, read_stop, read_end, from_drop, digit_high, tens_room, value_digit}
use Rattle.event_text.proofs.number.rest_digits.Goals as goal

opened : (text : List ℕ) (v at at' i : ℕ) → at' ≡ at → read_on v at' i (leading_digits (drop i text)) ≡ read_on v at i (leading_digits (from i text))
opened text v at at' i e = ap₂ (λ (k : ℕ) (l : List ℕ). read_on v k i (leading_digits l)) e (sym (from_drop i text))

pub loop-i-init : goal.loop-i-init
loop-i-init c =
    let p = c.requires in
    let a = c.args in
    (p.0, omega (arith, c.min.ensures, p), p.3, ap (λ (l : List ℕ). read_on a.start a.at a.from (leading_digits l)) (from_drop a.from a.text.now))

pub returns-then-byte : goal.returns-then-byte
returns-then-byte c =
    let l = c.loop-i in
    let w = c.wide-byte in
    c.ended.ensures ∙ sym (read_stop _ _ _ _ w.result (omega (arith, c.loop-i-test.true, c.min.ensures)) w.ensures c.if-byte.true) ∙ l.invariant.3

pub overflow_mul-value : goal.overflow_mul-value
overflow_mul-value c =
    let l = c.loop-i in
    omega (arith, tens_room l.value _ l.invariant.2 (omega (arith, c.loop-i-test.true, c.min.ensures, l.invariant.0)))

pub overflow_add-value : goal.overflow_add-value
overflow_add-value c =
    let l = c.loop-i in
    let t = tens_room l.value _ l.invariant.2 (omega (arith, c.loop-i-test.true, c.min.ensures, l.invariant.0)) in
    let hi = digit_high c.wide-byte.result c.if-byte.false in
    omega (arith, t, hi)

pub loop-i-preserved : goal.loop-i-preserved
loop-i-preserved c =
    let l = c.loop-i in
    let w = c.wide-byte in
    let hi = digit_high w.result c.if-byte.false in (
      omega (arith, l.invariant.0),
      omega (arith, c.loop-i-test.true),
      value_digit _ _ _ _ l.invariant.2 l.invariant.0 hi,
      sym (read_more _ _ _ _ w.result (omega (arith, c.loop-i-test.true, c.min.ensures)) w.ensures l.invariant.0 c.if-byte.false) ∙ l.invariant.3,
    )

pub returns-then-stop-text : goal.returns-then-stop-text
returns-then-stop-text c =
    let l = c.loop-i in
    let done : c.args.at + c.min.result ≡ l.i = omega (arith, c.loop-i-test.false, l.invariant.1) in
    c.ended-then-stop-text.ensures ∙ ap (λ (k : ℕ). read_on l.value c.args.at k []) done ∙ sym (read_end _ _ _ _ (omega (arith, c.if-stop-text.true, done))) ∙ l.invariant.3

pub returns : goal.returns
returns c =
    let l = c.loop-i in
    let at = c.args.at in
    let text = c.args.text.now in
    let done : at + c.min.result ≡ l.i = omega (arith, c.loop-i-test.false, l.invariant.1) in
    c.last_digit.ensures
    ∙ opened text l.value at _ (at + c.min.result) (omega (arith, c.min.ensures, c.requires, c.if-stop-text.false))
    ∙ ap (λ (k : ℕ). read_on l.value at k (leading_digits (from k text))) done
    ∙ l.invariant.3
