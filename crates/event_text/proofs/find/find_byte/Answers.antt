-- `find_byte` meets its contract: what is found from i on is what is looked for, after blocks of eight. Assumes nothing.
use Rattle.std.proofs.Common.{◌≡◌, ◌+◌, ◌-◌, length, take, drop, sym, ap, refl, ◌∙◌, arith, rules}
use borrow.Author.Tests.{tests}
use Rattle.std.proofs.lemmas.List.{take_rest}
use Rattle.std.proofs.lemmas.Iterator.{IsFirst-from_position, YieldsList-from_slice, index_from_first}
use Rattle.event_text.specs.Searches.{index_of}
use Rattle.event_text.proofs.Searches.{index_hit, index_miss, index_none, found_eight}
use Rattle.event_text.proofs.find.find_byte.Goals as goal

pub loop-i-init : goal.loop-i-init
loop-i-init c = (search rules, refl)

pub loop-i-preserved : goal.loop-i-preserved
loop-i-preserved c =
    (omega arith, sym (found_eight c.args.b c.loop-i.i c.args.s.now (omega arith) (sym c.eight_have.ensures ∙ c.if-not-eight_have.true)) ∙ c.loop-i.invariant.1)

pub returns : goal.returns
returns c =
    let b = c.args.b in
    let i = c.loop-i.i in
    let s = c.args.s.now in
    let rest = take (length s - i) (drop i s) in
    let first = IsFirst-from_position _ _ _ (λ x. x ≡ b) (λ x. x ≡ b → ⊥) c.position.ensures.ran (YieldsList-from_slice rest c.iter.ensures.rest) (λ x q k. search (rules, tests)) (λ x q k. search (rules, tests)) in
    let found = index_from_first (index_of b) (λ x. x ≡ b) (λ x. x ≡ b → ⊥) (index_none b) (index_hit b) (index_miss b) rest c.position.result first in
    ap (λ k. i + k) (c.unwrap_or.ensures ∙ sym found ∙ ap (index_of b) (take_rest s i)) ∙ c.loop-i.invariant.1
