-- `put_head` meets its contract: its bytes are the head line. Assumes nothing.
use mathlib.Core.Path.{ap, sym, ◌∙◌}
use lib.Seq.{sets}
use Rattle.pool_sheet.proofs.Columns.{head_line}
use Rattle.pool_sheet.proofs.lines.put_head.Goals as goal

pub returns : goal.returns
returns c =
    c.put_text.ensures.1 ∙ ap (sets c.args.out.now 0) (sym head_line)
