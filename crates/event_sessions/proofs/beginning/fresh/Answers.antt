-- `fresh` meets its contract. Assumes nothing.
use Rattle.event_sessions.specs.Noted.{fresh_session}
use Rattle.event_sessions.proofs.beginning.fresh.Goals as goal

pub returns : goal.returns
unfolding fresh_session
returns c = λ i. record {
  opened = 0;
  taken = 0;
  pool = c.opened_pool.ensures i;
  book = c.opened_book.ensures i;
  shape = c.no_shape.ensures i;
}
