-- `put_sheet` meets its contract: nothing where nothing was opened, else what the call prints. Assumes nothing.
use borrow.Author.Rules.{rules}
use mathlib.Core.Path.{◌∙◌}
use borrow.Author.Tests.{eq-eqb, ne_eqb}
use Rattle.event_sessions.specs.Sessions.{state_of}
use Rattle.event_sheet.proofs.Sheets.{unopened_sheet, opened_sheet, bytes_printed}
use Rattle.event_sheet.proofs.put_sheet.put_sheet.Goals as goal

pub returns-then-session-ne1 : goal.returns-then-session-ne1
returns-then-session-ne1 c =
    let a = c.args in
    unopened_sheet (state_of a.session a.textures.now a.retiring.now a.doomed.now a.spares.now a.newest.now a.stamps.now) a.out.now (ne_eqb _ 1 c.if-session-ne1.true)

pub print_sheet-requires : goal.print_sheet-requires
print_sheet-requires c =
    c.requires.0 (eq-eqb _ 1 c.if-session-ne1.false)

pub returns : goal.returns
returns c =
    let a = c.args in
    let p = c.print_sheet in
    let z = opened_sheet (state_of a.session a.textures.now a.retiring.now a.doomed.now a.spares.now a.newest.now a.stamps.now) a.out.now (eq-eqb _ 1 c.if-session-ne1.false) c.requires.0 c.requires.1 _ _ p.ensures in
    (c.unwrap_or.ensures ∙ bytes_printed p.result ∙ z.0, z.1)
