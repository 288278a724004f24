-- `word_of` meets its contract: the first word that is the field decides. Assumes nothing.
use mathlib.Core.Path.{sym, ◌∙◌}
use Rattle.event_lines.specs.Words.{word_of}
use Rattle.event_lines.proofs.words.word_of.Goals as goal

pub returns-then-is_word : goal.returns-then-is_word
unfolding word_of
returns-then-is_word c =
    let e1 = sym c.is_word.ensures ∙ c.if-is_word.true in
    sym (rw (e1))

pub returns-then-is_word-2 : goal.returns-then-is_word-2
unfolding word_of
returns-then-is_word-2 c =
    let e2 = sym c.is_word-2.ensures ∙ c.if-is_word-2.true in
    let e1 = sym c.is_word.ensures ∙ c.if-is_word.false in
    sym (rw (e1, e2))

pub returns-then-is_word-3 : goal.returns-then-is_word-3
unfolding word_of
returns-then-is_word-3 c =
    let e3 = sym c.is_word-3.ensures ∙ c.if-is_word-3.true in
    let e2 = sym c.is_word-2.ensures ∙ c.if-is_word-2.false in
    let e1 = sym c.is_word.ensures ∙ c.if-is_word.false in
    sym (rw (e1, e2, e3))

pub returns-then-is_word-4 : goal.returns-then-is_word-4
unfolding word_of
returns-then-is_word-4 c =
    let e4 = sym c.is_word-4.ensures ∙ c.if-is_word-4.true in
    let e3 = sym c.is_word-3.ensures ∙ c.if-is_word-3.false in
    let e2 = sym c.is_word-2.ensures ∙ c.if-is_word-2.false in
    let e1 = sym c.is_word.ensures ∙ c.if-is_word.false in
    sym (rw (e1, e2, e3, e4))

pub returns-then-is_word-5 : goal.returns-then-is_word-5
unfolding word_of
returns-then-is_word-5 c =
    let e5 = sym c.is_word-5.ensures ∙ c.if-is_word-5.true in
    let e4 = sym c.is_word-4.ensures ∙ c.if-is_word-4.false in
    let e3 = sym c.is_word-3.ensures ∙ c.if-is_word-3.false in
    let e2 = sym c.is_word-2.ensures ∙ c.if-is_word-2.false in
    let e1 = sym c.is_word.ensures ∙ c.if-is_word.false in
    sym (rw (e1, e2, e3, e4, e5))

pub returns-then-is_word-6 : goal.returns-then-is_word-6
unfolding word_of
returns-then-is_word-6 c =
    let e6 = sym c.is_word-6.ensures ∙ c.if-is_word-6.true in
    let e5 = sym c.is_word-5.ensures ∙ c.if-is_word-5.false in
    let e4 = sym c.is_word-4.ensures ∙ c.if-is_word-4.false in
    let e3 = sym c.is_word-3.ensures ∙ c.if-is_word-3.false in
    let e2 = sym c.is_word-2.ensures ∙ c.if-is_word-2.false in
    let e1 = sym c.is_word.ensures ∙ c.if-is_word.false in
    sym (rw (e1, e2, e3, e4, e5, e6))

pub returns-then-is_word-7 : goal.returns-then-is_word-7
unfolding word_of
returns-then-is_word-7 c =
    let e7 = sym c.is_word-7.ensures ∙ c.if-is_word-7.true in
    let e6 = sym c.is_word-6.ensures ∙ c.if-is_word-6.false in
    let e5 = sym c.is_word-5.ensures ∙ c.if-is_word-5.false in
    let e4 = sym c.is_word-4.ensures ∙ c.if-is_word-4.false in
    let e3 = sym c.is_word-3.ensures ∙ c.if-is_word-3.false in
    let e2 = sym c.is_word-2.ensures ∙ c.if-is_word-2.false in
    let e1 = sym c.is_word.ensures ∙ c.if-is_word.false in
    sym (rw (e1, e2, e3, e4, e5, e6, e7))

pub returns : goal.returns
unfolding word_of
returns c =
    let e7 = sym c.is_word-7.ensures ∙ c.if-is_word-7.false in
    let e6 = sym c.is_word-6.ensures ∙ c.if-is_word-6.false in
    let e5 = sym c.is_word-5.ensures ∙ c.if-is_word-5.false in
    let e4 = sym c.is_word-4.ensures ∙ c.if-is_word-4.false in
    let e3 = sym c.is_word-3.ensures ∙ c.if-is_word-3.false in
    let e2 = sym c.is_word-2.ensures ∙ c.if-is_word-2.false in
    let e1 = sym c.is_word.ensures ∙ c.if-is_word.false in
    c.later_word.ensures ∙ sym (rw (e1, e2, e3, e4, e5, e6, e7))
