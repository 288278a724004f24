-- `put_sum` meets its contract. Assumes nothing.
use borrow.Author.Rules.{rules}
use mathlib.Core.Path.{ap}
use mathlib.Core.List.{List, [], ◌∷◌}
use Prim.Native.Nat.{ℕ}
use native.Mathlib.Omega.{arith}
use Rattle.base_digits.proofs.Puts.{put_as, text_put}
use Rattle.event_cost.proofs.Clipping.{field_past, field_within}
use Rattle.event_cost.proofs.put_sum.put_sum.Goals as goal

pub returns-then-sum-eq18446744073709551615 : goal.returns-then-sum-eq18446744073709551615
returns-then-sum-eq18446744073709551615 c =
    let p = c.put_text.ensures in
    (omega (arith, p.0), put_as (ap (λ (l : List ℕ). 44 ∷ l) (field_past c.args.sum (omega (arith, c.if-sum-eq18446744073709551615.true)))) (text_put _ _ (44 ∷ 45 ∷ []) p))

pub returns : goal.returns
returns c =
    let p = c.put_field.ensures in
    (search rules, put_as (ap (λ (l : List ℕ). 44 ∷ l) (field_within c.args.sum (omega (arith, c.if-sum-eq18446744073709551615.false)))) p.1)
