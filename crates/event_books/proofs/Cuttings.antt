-- Demand 3 of a text that comes in blocks. Assumes nothing.
use mathlib.Core.Path.{◌∙◌}
use Rattle.event_feed.specs.Feed.{joined_blocks}
use Rattle.event_feed.proofs.Cutting.{every_cutting}
use Rattle.event_books.specs.EventLists.{fresh, Demand3Text}
use Rattle.event_books.specs.Cuttings.{Demand3Blocks}
use Rattle.event_books.proofs.Demand3Text.{demand3_text}

pub demand3_blocks : Demand3Blocks
unfolding Demand3Blocks Demand3Text
demand3_blocks copies views textures retiring doomed spares newest stamps blocks h =
    (every_cutting copies views).output_is (fresh textures retiring doomed spares newest stamps) blocks
    ∙ (demand3_text copies views textures retiring doomed spares newest stamps (joined_blocks blocks) h).prints
