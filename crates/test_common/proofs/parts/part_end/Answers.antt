-- What is found lies within the text. Assumes nothing.
use Rattle.event_text.proofs.Searches.{found_within}
use Rattle.test_common.proofs.parts.part_end.Goals as goal

pub returns : goal.returns
returns c = found_within _ _ _ _ c.requires c.find_byte.ensures
