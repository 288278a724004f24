-- Laws of a turn: the lines of a buffer that were run, and what they leave of the block that waits in it. Assumes nothing.
use mathlib.Core.Path.{◌≡◌, sym, ap, subst, ◌∙◌}
use mathlib.Core.List.{List, []}
use Prim.Native.Nat.{ℕ, ◌+◌, ◌-◌, ◌≤◌}
use native.Mathlib.Omega.{arith}
use lib.ListN.{length, take, drop}
use Rattle.event_sessions.specs.declared.session.Session.{Session}
use Rattle.event_sessions.specs.Sessions.{SessionState}
use Rattle.event_runs.specs.Lines.{whole_lines}
use Rattle.event_feed.specs.declared.feed_state.FeedState.{FeedState}
use Rattle.event_feed.specs.declared.rest_of.Place.{Place}
use Rattle.event_feed.specs.BlockFed.{BlockFed}
use Rattle.event_feed.specs.Places.{part, fed_at, held_line}
use Rattle.event_feed.specs.Finish.{Filled}
use Rattle.event_feed.specs.RestOf.{RestOf}
use Rattle.event_feed.proofs.Blocks.{bytes_length, block_fed}
use Rattle.event_cost.specs.Costs.{most_cost_row}
use Rattle.event_cost.specs.Lines.{cost_rows, CostProgress, LinesCosted}
use Rattle.event_cost.specs.Runs.{TurnReady, TurnCosted}

-- where no byte was run, no line is whole: with all its room the output had room for one
none_whole : (cs vs : ℕ) (input : List ℕ) (n : ℕ) (s : SessionState) (out : List ℕ) (p : CostProgress) → LinesCosted cs vs input n s out p
    → most_cost_row ≤ length out → p.from ≡ 0 → whole_lines input ≡ []
unfolding whole_lines cost_rows
none_whole cs vs input n s out p done room z =
    let lines : done.run.lines ≡ [] = done.run.front ∙ ap (λ (i : ℕ). whole_lines (take i input)) z in
    let none : p.filled ≡ 0 = done.run.length_is ∙ ap (λ (l : List (List ℕ)). length (cost_rows cs vs n s l)) lines in
    ap (λ (i : ℕ). whole_lines (drop i input)) (sym z) ∙ done.all (omega arith)

-- A turn on the buffer that `finish` leaves is one on what it was given.
module _ (cs vs : ℕ) (f : FeedState) (end to : ℕ) (s : SessionState) (buf filling out : List ℕ) (same_size : length filling ≡ length buf)
    (ready : TurnReady f end s buf out) (fill : Filled f.from f.held end to buf filling) (p : CostProgress)
    (done : LinesCosted cs vs (part f.from (to - f.from) filling) f.number s out p) where
  ends_in : to ≤ length filling
  ends_in = let w = fill.within in omega arith

  pub turn_within : f.from + p.from ≤ to
  turn_within = let i = done.run.inside in omega (arith, bytes_length f.from f.held to filling filling fill.least ends_in)

  module _ (place : Place) (exit : List ℕ) (rest : RestOf f.from to p.from place filling exit) where
    abbrev kept : List ℕ
    kept = part place.from place.held exit

    abbrev waited : List ℕ
    waited = part (place.from + place.held) (place.end - (place.from + place.held)) exit

    fed_bytes : BlockFed (part f.from f.held filling) (part (f.from + f.held) (to - (f.from + f.held)) filling)
        (whole_lines (take p.from (part f.from (to - f.from) filling))) kept waited
    fed_bytes =
        block_fed f.from f.held to filling exit fill.least ends_in p.from (ap whole_lines fill.line ∙ ready.plain) done.run.inside done.run.whole
        (none_whole cs vs (part f.from (to - f.from) filling) f.number s out p done ready.room) place rest

    fed_here : BlockFed (held_line f buf) (fed_at f end buf) done.run.lines kept waited
    fed_here =
        subst (λ (l : List ℕ). BlockFed l (fed_at f end buf) done.run.lines kept waited) fill.line
        (subst (λ (b : List ℕ). BlockFed (part f.from f.held filling) b done.run.lines kept waited) fill.feeds
        (subst (λ (l : List (List ℕ)). BlockFed (part f.from f.held filling) (part (f.from + f.held) (to - (f.from + f.held)) filling) l kept waited)
        (sym done.run.front) fed_bytes))

    pub turned : (session : Session)
        → TurnCosted cs vs f end s p.state
        (record {
          at = record { session = session; number = p.number; from = place.from; held = place.held; end = place.end; filled = p.filled };
          sums = p.sums;
        }) buf exit out p.out
    turned session = record {
      lines = done.run.lines;
      feeds = fed_here;
      state = done.run.state;
      number = done.run.number;
      costs = done.run.costs;
      length_is = done.run.length_is;
      put = done.run.put;
      fits = done.run.fits;
      pool = done.run.pool;
      placed = record { inside = rest.inside; within = let w = rest.within in omega arith; space = rest.space };
    }
