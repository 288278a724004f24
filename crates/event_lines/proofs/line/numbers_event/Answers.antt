-- `numbers_event` meets its contract: each word makes its event. Assumes nothing.
use mathlib.Core.Path.{◌≡◌, refl, sym, ap, ◌∙◌}
use mathlib.Core.Bool.{Bool, true, false, cond}
use lib.Dec.{eqb}
use lib.ListN.{get_or}
use Rattle.base_blocks.specs.Lists.{tests, after}
use Rattle.event_lines.specs.declared.event.Event.{Event}
use Rattle.event_lines.specs.Grammar.{made}
use Rattle.event_lines.specs.Reading.{numbers_made, fits, limits_of, limit_tests}
use Rattle.event_lines.proofs.line.numbers_event.Goals as goal

-- another word makes none
same_event : (t : Bool) → Event.Unread ≡ cond t Event.Unread Event.Unread
same_event true = refl
same_event false = refl

pub returns-in-Open : goal.returns-in-Open
unfolding numbers_made fits limits_of limit_tests tests after made
returns-in-Open c =
    let a = c.args in
    c.of_count.ensures ∙ sym (ap (λ w. numbers_made w a.count (λ k. get_or a.n.now k 0)) c.in-Open.is)

pub returns-in-Take : goal.returns-in-Take
unfolding numbers_made fits limits_of limit_tests tests after made
returns-in-Take c =
    let a = c.args in
    c.take_event.ensures ∙ sym (ap (λ w. numbers_made w a.count (λ k. get_or a.n.now k 0)) c.in-Take.is)

pub returns-in-Plan : goal.returns-in-Plan
unfolding numbers_made fits limits_of limit_tests tests after made
returns-in-Plan c =
    let a = c.args in
    c.plan_event.ensures ∙ sym (ap (λ w. numbers_made w a.count (λ k. get_or a.n.now k 0)) c.in-Plan.is)

pub returns-in-Retire : goal.returns-in-Retire
unfolding numbers_made fits limits_of limit_tests tests after made
returns-in-Retire c =
    let a = c.args in
    c.retire_event.ensures ∙ sym (ap (λ w. numbers_made w a.count (λ k. get_or a.n.now k 0)) c.in-Retire.is)

pub returns-in-Write : goal.returns-in-Write
unfolding numbers_made fits limits_of limit_tests tests after made
returns-in-Write c =
    let a = c.args in
    c.write_event.ensures ∙ sym (ap (λ w. numbers_made w a.count (λ k. get_or a.n.now k 0)) c.in-Write.is)

pub returns-in-Regen : goal.returns-in-Regen
unfolding numbers_made fits limits_of limit_tests tests after made
returns-in-Regen c =
    let a = c.args in
    c.of_count-in-Regen.ensures ∙ sym (ap (λ w. numbers_made w a.count (λ k. get_or a.n.now k 0)) c.in-Regen.is)

pub returns-in-Pop : goal.returns-in-Pop
unfolding numbers_made fits limits_of limit_tests tests after made
returns-in-Pop c =
    let a = c.args in
    c.of_count-in-Pop.ensures ∙ sym (ap (λ w. numbers_made w a.count (λ k. get_or a.n.now k 0)) c.in-Pop.is)

pub returns-in-Park : goal.returns-in-Park
unfolding numbers_made fits limits_of limit_tests tests after made
returns-in-Park c =
    let a = c.args in
    c.of_count-in-Park.ensures ∙ sym (ap (λ w. numbers_made w a.count (λ k. get_or a.n.now k 0)) c.in-Park.is)

pub returns-in-Note : goal.returns-in-Note
unfolding numbers_made fits limits_of limit_tests tests after made
returns-in-Note c =
    let a = c.args in
    c.of_count-in-Note.ensures ∙ sym (ap (λ w. numbers_made w a.count (λ k. get_or a.n.now k 0)) c.in-Note.is)

pub returns-in-Doomed : goal.returns-in-Doomed
unfolding numbers_made fits limits_of limit_tests tests after made
returns-in-Doomed c =
    let a = c.args in
    c.of_count-in-Doomed.ensures ∙ sym (ap (λ w. numbers_made w a.count (λ k. get_or a.n.now k 0)) c.in-Doomed.is)

pub returns-in-Drain : goal.returns-in-Drain
unfolding numbers_made fits limits_of limit_tests tests after made
returns-in-Drain c =
    let a = c.args in
    c.of_count-in-Drain.ensures ∙ sym (ap (λ w. numbers_made w a.count (λ k. get_or a.n.now k 0)) c.in-Drain.is)

pub returns-in-Trim : goal.returns-in-Trim
unfolding numbers_made fits limits_of limit_tests tests after made
returns-in-Trim c =
    let a = c.args in
    c.of_count-in-Trim.ensures ∙ sym (ap (λ w. numbers_made w a.count (λ k. get_or a.n.now k 0)) c.in-Trim.is)

pub returns-in-Forget : goal.returns-in-Forget
unfolding numbers_made fits limits_of limit_tests tests after made
returns-in-Forget c =
    let a = c.args in
    c.of_count-in-Forget.ensures ∙ sym (ap (λ w. numbers_made w a.count (λ k. get_or a.n.now k 0)) c.in-Forget.is)

pub returns-in-Other : goal.returns-in-Other
unfolding numbers_made fits limits_of limit_tests tests after made
returns-in-Other c =
    let a = c.args in
    same_event (eqb a.count 0) ∙ sym (ap (λ w. numbers_made w a.count (λ k. get_or a.n.now k 0)) c.in-Other.is)
