-- `main`: the sheet ends within the page. Assumes nothing.
use Rattle.event_sheet.proofs.Sheets.{laid_within}
use Rattle.event_sheet.proofs.main.Goals as goal

pub slice_bounds-write_out-end : goal.slice_bounds-write_out-end
slice_bounds-write_out-end c =
    let p = c.put_sheet-size in
    laid_within _ _ _ _ p.ensures.0 p.ensures.1
