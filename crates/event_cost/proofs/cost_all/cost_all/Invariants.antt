-- Turns until the run stops: the lines run so far have the events of some input, of which every byte that came was fed or waits. The measure falls by the bytes that were read and used. Assumes nothing.
use lib.ListN.{length}
use Rattle.event_sessions.specs.LentStores.{state_in, SameStores}
use Rattle.event_sessions.specs.Noted.{fresh_session}
use Rattle.event_stream.proofs.Turns.{left_of}
use Rattle.event_cost.proofs.Summing.{Going}
use Rattle.event_cost.proofs.cost_all.cost_all.Given as goal

abbrev pub invariant-loop-why : goal.invariant-loop-why
invariant-loop-why g l = record {
  going : Going (length l.initial.stores.copies.now) (length l.initial.stores.views.now) (length l.initial.buf) (length l.initial.out) (state_in fresh_session l.initial.stores)
      (state_in l.at.session l.stores) l.at l.buf l.sums l.read l.written;
  same : SameStores l.initial.stores l.stores;
}

abbrev pub decreases-loop-why : goal.decreases-loop-why
decreases-loop-why g l = left_of l.read l.at
