-- `put_answer` meets its contract: each answer is shown as its case says. Assumes nothing.
use native.Mathlib.Omega.{arith}
use Rattle.event_answers.proofs.Answering.{shown, show_question, show_refused, show_done, show_spare, show_no_spare, show_version, show_nothing, show_views, show_copies, views_fit, copies_fit}
use Rattle.event_answers.proofs.output.put_answer.Goals as goal

pub returns-in-Question : goal.returns-in-Question
returns-in-Question c =
    let a = c.args in
    shown a.number a.copies.now a.views.now c.in-Question.is (show_question _ _ _ c.put_words.ensures)

pub returns-in-Refused : goal.returns-in-Refused
returns-in-Refused c =
    let a = c.args in
    shown a.number a.copies.now a.views.now c.in-Refused.is (show_refused _ _ _ _ c.put_row.ensures.1)

pub returns-in-Done : goal.returns-in-Done
returns-in-Done c =
    let a = c.args in
    shown a.number a.copies.now a.views.now c.in-Done.is (show_done _ _ _ c.put_words-in-Done.ensures)

pub returns-in-Spare : goal.returns-in-Spare
returns-in-Spare c =
    let a = c.args in
    shown a.number a.copies.now a.views.now c.in-Spare.is (show_spare _ _ _ _ _ c.put_spare.ensures)

pub returns-in-NoSpare : goal.returns-in-NoSpare
returns-in-NoSpare c =
    let a = c.args in
    shown a.number a.copies.now a.views.now c.in-NoSpare.is (show_no_spare _ _ _ c.put_words-in-NoSpare.ensures)

pub returns-in-Version : goal.returns-in-Version
returns-in-Version c =
    let a = c.args in
    shown a.number a.copies.now a.views.now c.in-Version.is (show_version _ _ _ _ _ c.put_pair.ensures)

pub returns-in-NothingSettled : goal.returns-in-NothingSettled
returns-in-NothingSettled c =
    let a = c.args in
    shown a.number a.copies.now a.views.now c.in-NothingSettled.is (show_nothing _ _ _ c.put_words-in-NothingSettled.ensures)

pub put_views-requires : goal.put_views-requires
put_views-requires c =
    let f = views_fit _ c.args.copies.now c.args.views.now c.in-Views.is c.requires.1 in
    (omega (arith, f.0, c.requires.0, c.put_count-start.ensures.0, c.put_count-start.auto.out), f.1)

pub returns-in-Views : goal.returns-in-Views
returns-in-Views c =
    let a = c.args in
    let e = c.in-Views.is in
    let p = c.put_count-start.ensures.1 in
    shown a.number a.copies.now a.views.now e (show_views _ _ _ _ p (views_fit _ a.copies.now a.views.now e c.requires.1).1 c.put_views.ensures)

pub put_copies-requires : goal.put_copies-requires
put_copies-requires c =
    let f = copies_fit _ c.args.copies.now c.args.views.now c.in-Copies.is c.requires.1 in
    (omega (arith, f.0, c.requires.0, c.put_count-start-in-Copies.ensures.0, c.put_count-start-in-Copies.auto.out), f.1)

pub returns-in-Copies : goal.returns-in-Copies
returns-in-Copies c =
    let a = c.args in
    let e = c.in-Copies.is in
    let p = c.put_count-start-in-Copies.ensures.1 in
    shown a.number a.copies.now a.views.now e (show_copies _ _ _ _ p c.put_copies.ensures)
