-- `eight_have` meets its contract. Assumes nothing.
use Rattle.event_text.proofs.Searches.{among_eight}
use Rattle.event_text.proofs.find.eight_have.Goals as goal

pub returns : goal.returns
returns c = among_eight _ _ _ c.requires
