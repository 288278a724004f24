-- `last_digit` meets its contract. Assumes nothing.
use mathlib.Core.Path.{◌≡◌, sym, ap, ◌∙◌}
use mathlib.Core.List.{List}
use Prim.Native.Nat.{ℕ, ◌+◌, ◌-◌, ◌*◌}
use native.Mathlib.Omega.{arith}
use lib.ListN.{drop}
use Rattle.base_blocks.proofs.Scans.{from}
use Rattle.event_text.specs.Numbers.{number_ends, read_on, leading_digits}
use Rattle.event_text.proofs.Numbers.{read_done, read_more, read_over, read_stop, read_past, read_end, from_drop}
use Rattle.event_text.proofs.number.last_digit.Goals as goal

opened : (text : List ℕ) (v at i : ℕ) → read_on v at i (leading_digits (drop i text)) ≡ read_on v at i (leading_digits (from i text))
opened text v at i = ap (λ (l : List ℕ). read_on v at i (leading_digits l)) (sym (from_drop i text))

pub returns-then-byte : goal.returns-then-byte
returns-then-byte c =
    let w = c.wide-byte in
    sym (opened _ _ _ _ ∙ read_stop _ _ _ _ w.result c.requires.1 w.ensures c.if-byte.true ∙ read_done _ _ _ (omega (arith, c.requires.0)) (omega (arith, c.requires.0)) c.requires.2)

pub returns-in_err-checked_mul : goal.returns-in_err-checked_mul
returns-in_err-checked_mul c =
    let w = c.wide-byte in
    c.from_residual.ensures
    ∙ sym (opened _ _ _ _ ∙ read_over _ _ _ _ w.result c.requires.1 w.ensures (omega (arith, c.requires.0)) c.if-byte.false (omega (arith, c.in_err-checked_mul.ensures)))

pub returns-in_err-value : goal.returns-in_err-value
returns-in_err-value c =
    let w = c.wide-byte in
    c.from_residual-in_err-value.ensures
    ∙ sym (opened _ _ _ _ ∙ read_over _ _ _ _ w.result c.requires.1 w.ensures (omega (arith, c.requires.0)) c.if-byte.false (omega (arith, c.in_err-value.ensures, c.in_ok-checked_mul.ensures)))

pub returns-then-text-end : goal.returns-then-text-end
returns-then-text-end c =
    let w = c.wide-byte in
    let v : c.in_ok-value.value ≡ c.args.value * 10 + (w.result - 48) = omega (arith, c.in_ok-value.ensures, c.in_ok-checked_mul.ensures) in
    ap (λ (n : ℕ). number_ends n (c.args.i + 1)) v
    ∙ sym (opened _ _ _ _ ∙ read_more _ _ _ _ w.result c.requires.1 w.ensures (omega (arith, c.requires.0)) c.if-byte.false
    ∙ read_end _ _ _ _ c.if-text-end.true ∙ read_done _ _ _ (omega (arith, c.requires.0)) (omega (arith, c.requires.0)) (omega (arith, v, c.in_ok-value.ensures)))

pub returns-then-after : goal.returns-then-after
returns-then-after c =
    let w = c.wide-byte in
    let w₂ = c.wide-after in
    let v : c.in_ok-value.value ≡ c.args.value * 10 + (w.result - 48) = omega (arith, c.in_ok-value.ensures, c.in_ok-checked_mul.ensures) in
    ap (λ (n : ℕ). number_ends n (c.args.i + 1)) v
    ∙ sym (opened _ _ _ _ ∙ read_more _ _ _ _ w.result c.requires.1 w.ensures (omega (arith, c.requires.0)) c.if-byte.false
    ∙ read_stop _ _ _ _ w₂.result c.if-text-end.false w₂.ensures c.if-after.true ∙ read_done _ _ _ (omega (arith, c.requires.0)) (omega (arith, c.requires.0)) (omega (arith, v, c.in_ok-value.ensures)))

pub returns : goal.returns
returns c =
    let w = c.wide-byte in
    let w₂ = c.wide-after in
    sym (opened _ _ _ _ ∙ read_more _ _ _ _ w.result c.requires.1 w.ensures (omega (arith, c.requires.0)) c.if-byte.false
    ∙ read_past _ _ _ _ w₂.result c.if-text-end.false w₂.ensures (omega (arith, c.requires.0)) c.if-after.false)
