-- Turns until the list ends, as those of `run_all` of crates/event_stream: the measure falls by the bytes that were given and fed. Assumes nothing.
use Prim.Native.Nat.{◌≤◌}
use lib.ListN.{length}
use Rattle.event_sessions.specs.LentStores.{state_in, SameStores}
use Rattle.event_sessions.specs.Noted.{fresh_session}
use Rattle.event_feed.specs.Places.{carried_of}
use Rattle.event_stream.proofs.Loop.{Going}
use Rattle.event_stream.proofs.Turns.{left_of}
use Rattle.test_replay.proofs.list.run_list.Given as goal

abbrev pub invariant-loop-at : goal.invariant-loop-at
invariant-loop-at l = record {
  going : Going (length l.initial.stores.copies.now) (length l.initial.stores.views.now) (length l.initial.buf) (length l.initial.out) (state_in fresh_session l.initial.stores)
      (carried_of l.at (state_in l.at.session l.stores) l.buf) l.at l.given l.written;
  same : SameStores l.initial.stores l.stores;
  given : l.given ≤ length l.list;
}

abbrev pub decreases-loop-at : goal.decreases-loop-at
decreases-loop-at l = left_of l.given l.at
