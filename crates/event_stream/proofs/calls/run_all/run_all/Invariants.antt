-- Turns until the run stops: what is carried is what some input left, of which every byte that came was fed or waits. The measure falls by the bytes that
-- were read and fed. Assumes nothing.
use lib.ListN.{length}
use Rattle.event_sessions.specs.LentStores.{state_in, SameStores}
use Rattle.event_sessions.specs.Noted.{fresh_session}
use Rattle.event_feed.specs.Places.{carried_of}
use Rattle.event_stream.proofs.Loop.{Going}
use Rattle.event_stream.proofs.Turns.{left_of}
use Rattle.event_stream.proofs.calls.run_all.run_all.Given as goal

abbrev pub invariant-loop-why : goal.invariant-loop-why
invariant-loop-why g l = record {
  going : Going (length l.initial.stores.copies.now) (length l.initial.stores.views.now) (length l.initial.buf) (length l.initial.out) (state_in fresh_session l.initial.stores)
      (carried_of l.at (state_in l.at.session l.stores) l.buf) l.at l.read l.written;
  same : SameStores l.initial.stores l.stores;
}

abbrev pub decreases-loop-why : goal.decreases-loop-why
decreases-loop-why g l = left_of l.read l.at
