-- `first_end` meets its contract: the first byte that ends the field. Assumes nothing.
use Rattle.std.proofs.Common.{◌≡◌, true, false, length, sym, ap, ◌∙◌, rules}
use borrow.Author.Tests.{tests}
use Rattle.std.proofs.lemmas.Iterator.{IsFirst-from_position, YieldsList-from_slice, index_from_first}
use Rattle.event_text.proofs.Leading.{until}
use Rattle.event_text.proofs.FirstLines.{stops, line_until, until_hit, until_miss, until_none}
use Rattle.event_text.proofs.field.first_end.Goals as goal

pub returns : goal.returns
returns c =
    let text = c.args.text.now in
    let first = IsFirst-from_position _ _ _ (λ b. stops b ≡ true) (λ b. stops b ≡ false) c.position.ensures.ran (YieldsList-from_slice text c.iter.ensures.rest) (λ x q k. search (rules, tests)) (λ x q k. search (rules, tests)) in
    let found = index_from_first (λ s. length (until stops s)) (λ b. stops b ≡ true) (λ b. stops b ≡ false) until_none until_hit until_miss text c.position.result first in
    c.unwrap_or.ensures ∙ sym found ∙ ap length (sym (line_until text))
