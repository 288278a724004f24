-- `read_fields` meets its contract: what is read from `end` on, after the fields read so far, is what is read from `at` on. Assumes nothing.
use borrow.Author.Rules.{rules}
use mathlib.Core.Path.{refl, sym, ap, ◌∙◌}
use mathlib.Core.Bool.{not, ◌||◌}
use native.Mathlib.Omega.{arith}
use lib.Dec.{eqb}
use Rattle.event_text.proofs.Leading.{digits_end, digits_none}
use Rattle.event_lines.proofs.Reading.{comma_inside, dash_inside, at_many, at_none, at_dash, at_number, at_line_end, at_other, end_comma, end_dash, end_digits, end_here}
use Rattle.event_lines.proofs.fields.read_fields.Goals as goal

pub loop-values-init : goal.loop-values-init
loop-values-init c = (search rules, refl, refl)

pub returns-then-count-ge9 : goal.returns-then-count-ge9
returns-then-count-ge9 c =
    let l = c.loop-values in
    (sym (at_many c.args.text.now _ l.count l.values l.dash (sym c.stands.ensures ∙ c.loop-values-test.true) c.if-count-ge9.true) ∙ l.invariant.1, tt)

pub overflow_add-start : goal.overflow_add-start
overflow_add-start c = let h = comma_inside c.args.text.now _ (sym c.stands.ensures ∙ c.loop-values-test.true) in omega (arith, h)

pub digits_at-requires : goal.digits_at-requires
digits_at-requires c = let h = comma_inside c.args.text.now _ (sym c.stands.ensures ∙ c.loop-values-test.true) in omega (arith, h)

pub returns-then-count-stands : goal.returns-then-count-stands
returns-then-count-stands c =
    let l = c.loop-values in
    let n = digits_none _ _ (sym c.digits_at.ensures ∙ c.in_default.is) in
    (sym (at_none c.args.text.now _ l.count l.values l.dash (sym c.stands.ensures ∙ c.loop-values-test.true) n (ap (λ b. not (eqb l.count 1) || not b) (sym c.stands-in_default.ensures) ∙ c.if-count-stands.true)) ∙ l.invariant.1, tt)

pub overflow_add-end : goal.overflow_add-end
overflow_add-end c =
    let l = c.loop-values in
    let h = dash_inside c.args.text.now _ l.count (ap (λ b. not (eqb l.count 1) || not b) (sym c.stands-in_default.ensures) ∙ c.if-count-stands.false) in
    omega (arith, h)

pub loop-values-preserved-in_default : goal.loop-values-preserved-in_default
loop-values-preserved-in_default c =
    let l = c.loop-values in
    let n = (ap (λ b. not (eqb l.count 1) || not b) (sym c.stands-in_default.ensures) ∙ c.if-count-stands.false) in (
      search rules,
      sym (at_dash c.args.text.now _ l.count l.values l.dash (sym c.stands.ensures ∙ c.loop-values-test.true) n) ∙ l.invariant.1,
      sym (end_comma c.args.text.now _ (sym c.stands.ensures ∙ c.loop-values-test.true) ∙ end_dash c.args.text.now _ l.count n) ∙ l.invariant.2,
    )

pub loop-values-preserved : goal.loop-values-preserved
loop-values-preserved c =
    let l = c.loop-values in
    let a = digits_end _ _ _ _ (sym c.digits_at.ensures ∙ c.in-Some.is) in (
      search rules,
      sym (at_number c.args.text.now _ l.count l.values l.dash (sym c.stands.ensures ∙ c.loop-values-test.true) _ _ a (omega (arith, c.if-count-ge9.false))) ∙ l.invariant.1,
      sym (end_comma c.args.text.now _ (sym c.stands.ensures ∙ c.loop-values-test.true) ∙ end_digits c.args.text.now _ _ _ a) ∙ l.invariant.2,
    )

pub returns-then-is_end : goal.returns-then-is_end
returns-then-is_end c =
    let l = c.loop-values in
    let e = sym c.is_end.ensures ∙ c.if-is_end.true in
    (sym (at_line_end c.args.text.now _ l.count l.values l.dash e) ∙ l.invariant.1, sym (end_here c.args.text.now _ e) ∙ l.invariant.2)

pub returns : goal.returns
returns c =
    let l = c.loop-values in
    (sym (at_other c.args.text.now _ l.count l.values l.dash (sym c.stands.ensures ∙ c.loop-values-test.false) (sym c.is_end.ensures ∙ c.if-is_end.false)) ∙ l.invariant.1, tt)
