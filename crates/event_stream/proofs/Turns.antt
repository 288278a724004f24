-- Laws of the bytes of a turn, whatever its lines do: `now` is the buffer of `size` bytes when bytes came, up to `end`. Assumes nothing.
use mathlib.Core.Path.{◌≡◌, ap, ◌∙◌}
use mathlib.Core.List.{List, [], ◌∷◌}
use Prim.Native.Nat.{ℕ, ◌+◌, ◌-◌, ◌*◌, ◌^◌, ◌≤◌, ◌<◌}
use native.Mathlib.Decide.{dec_lt}
use native.Mathlib.Omega.{arith}
use lib.ListN.{length, take, drop, length-drop}
use lib.Seq.{length-take-le, take_all}
use Rattle.event_sessions.specs.Noted.{fresh_session}
use Rattle.event_feed.specs.declared.feed_state.FeedState.{FeedState}
use Rattle.event_feed.specs.Feed.{ending}
use Rattle.event_feed.specs.Places.{part, held_line, waiting, waits, fed_at, Placed}
use Rattle.event_feed.proofs.Parts.{part_length}
use Rattle.event_feed.proofs.Ends.{turn_came, turn_ended}

-- what is carried before the first turn
abbrev pub at_first : FeedState
at_first = record { session = fresh_session; number = 0; from = 0; held = 0; end = 0; filled = 0 }

pub placed_first : (size : ℕ) → Placed at_first size
placed_first size = record { inside = omega arith; within = omega arith; space = λ z. omega arith }

-- what is left to do: each turn reads or feeds a byte
abbrev pub left_of : ℕ → FeedState → ℕ
left_of read at = 2 * (2 ^ 64 - read) + waiting at

less_left : (m a v w k : ℕ) → 0 < k → w + k ≤ v + a → m + a < 2 ^ 64 → 2 * (2 ^ 64 - (m + a)) + w < 2 * (2 ^ 64 - m) + v
less_left m a v w k p q h = omega arith

module _ (at : FeedState) (size end : ℕ) (now : List ℕ) (placed : Placed at size) (now-size : length now ≡ size) (most : end ≤ size) where
  abbrev came : List ℕ
  came = part (at.from + at.held) (end - (at.from + at.held)) now

  came_length : length came ≡ end - (at.from + at.held)
  came_length = let i = placed.inside in part_length (at.from + at.held) (end - (at.from + at.held)) now (omega arith)

  abbrev block : List ℕ
  block = fed_at at end now

  -- the first `used` bytes were fed
  module _ (least : at.end ≤ end) (after : FeedState) (left : List ℕ) (used : ℕ) (fits : used ≤ length block) (progress : 0 < length block → 0 < used)
      (rest : waits after left ≡ drop used block) (p : Placed after size) (left-size : length left ≡ size) where
    pub front_length : length (take used block) ≡ used
    front_length = length-take-le used block fits

    left_length : waiting after ≡ length block - used
    left_length =
        let i = p.inside in
        let w = p.within in
        let l : length (waits after left) ≡ waiting after = part_length (after.from + after.held) (waiting after) left (omega arith) in
        omega (arith, ap length rest, length-drop used block)

    -- bytes came
    module _ (some : at.from + at.held < end) where
      block_length : length block ≡ waiting at + (end - at.end)
      block_length =
          let l = came_length in
          let i = placed.inside in
          let e = ap length (turn_came (held_line at now) came (omega arith)) in
          omega arith

      pub bytes_more : (fed read : ℕ) → fed + waiting at ≡ read → fed + used + waiting after ≡ read + (end - at.end)
      bytes_more fed read e = let d = left_length in let b = block_length in omega arith

      pub left_less : (read : ℕ) → read + size < 2 ^ 64 → left_of (read + (end - at.end)) after < left_of read at
      left_less read h =
          let d = left_length in
          let b = block_length in
          let q = progress (let i = placed.inside in omega arith) in
          less_left read (end - at.end) (waiting at) (waiting after) used q (omega arith) (omega arith)

    -- none came: the input has ended
    module _ (none : end ≡ at.from + at.held) where
      pub all_fed : take used block ≡ ending (held_line at now)
      unfolding ending
      all_fed = go block used progress (few (held_line at now) (ap length ends_here)) ∙ ends_here
        where
          ends_here : block ≡ ending (held_line at now)
          ends_here = turn_ended (held_line at now) came (let l = came_length in omega arith)

          few : (x : List ℕ) → length block ≡ length (ending x) → length block ≤ 1
          few [] e = omega arith
          few (b ∷ x) e = omega arith

          go : (l : List ℕ) (k : ℕ) → (0 < length l → 0 < k) → length l ≤ 1 → take k l ≡ l
          go l k h m = take_all k l (by (dec_lt 0 (length l)))
            where
              by : Dec (0 < length l) → length l ≤ k
              by (yes q) = let z = h q in omega arith
              by (no q) = omega arith
