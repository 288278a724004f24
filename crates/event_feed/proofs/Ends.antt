-- Laws of what a turn feeds, and of the line feed that a last line gets. Assumes nothing.
use mathlib.Core.Path.{◌≡◌, refl, sym, ap, ap₂, ◌∙◌}
use mathlib.Core.List.{List, [], ◌∷◌}
use Prim.Native.Nat.{ℕ, ◌+◌, ◌-◌, ◌≤◌, ◌<◌}
use native.Mathlib.Omega.{arith}
use lib.ListN.{length, take, drop, set, length-drop}
use lib.Seq.{take-set-le, drop-set-add}
use Rattle.event_feed.specs.Feed.{ending, turn_bytes}
use Rattle.event_feed.specs.Places.{part}
use Rattle.event_feed.specs.Finish.{Filled}
use Rattle.event_feed.proofs.Parts.{part_length, part_same}
use Rattle.base_digits.specs.Characters.{line_feed}

-- ---- what a turn feeds

pub turn_came : (line came : List ℕ) → 0 < length came → turn_bytes line came ≡ came
unfolding turn_bytes
turn_came line [] h = absurd (let y : ⊥ = omega arith in y)
turn_came line (b ∷ bs) h = refl

no_bytes : (l : List ℕ) → length l ≡ 0 → l ≡ []
no_bytes [] h = refl
no_bytes (b ∷ l) h = absurd (let y : ⊥ = omega arith in y)

pub turn_ended : (line came : List ℕ) → length came ≡ 0 → turn_bytes line came ≡ ending line
unfolding turn_bytes
turn_ended line came h = ap (turn_bytes line) (no_bytes came h)

-- a line that has a byte lacks its line feed
some_ending : (x : List ℕ) → 0 < length x → line_feed ∷ [] ≡ ending x
unfolding ending
some_ending [] h = absurd (let y : ⊥ = omega arith in y)
some_ending (b ∷ x) h = refl

-- ---- what `finish` leaves

set_here : (l : List ℕ) (b : ℕ) → 0 < length l → take 1 (set l 0 b) ≡ b ∷ []
set_here [] b h = absurd (let y : ⊥ = omega arith in y)
set_here (x ∷ l) b h = refl

module _ (from held end : ℕ) (buf : List ℕ) (inside : from + held ≤ end) (within : end ≤ length buf) where
  abbrev line : List ℕ
  line = part from held buf

  abbrev came : List ℕ
  came = part (from + held) (end - (from + held)) buf

  came_length : length came ≡ end - (from + held)
  came_length = part_length (from + held) (end - (from + held)) buf (omega arith)

  pub more_came : from + held < end → Filled from held end end buf buf
  more_came h = record {
    least = omega arith;
    within = within;
    line = refl;
    feeds = sym (turn_came line came (let l = came_length in omega arith));
  }

  pub none_held : end ≤ from + held → held ≡ 0 → Filled from held end end buf buf
  unfolding ending
  none_held n z = record {
    least = omega arith;
    within = within;
    line = refl;
    feeds = no_bytes came (let l = came_length in omega arith) ∙ ap (λ (k : ℕ). ending (part from k buf)) (sym z)
        ∙ sym (turn_ended line came (let l = came_length in omega arith));
  }

  pub line_ended : end ≤ from + held → 0 < held → end < length buf → Filled from held end (end + 1) buf (set buf end line_feed)
  line_ended n h room = record {
    least = omega arith;
    within = omega arith;
    line = part_same from held end buf (set buf end line_feed) inside (take-set-le end buf end line_feed (omega arith));
    feeds = ap₂ (λ (i j : ℕ). part i j (set buf end line_feed)) (let e : from + held ≡ end = omega arith in e) (let e : end + 1 - (from + held) ≡ 1 = omega arith in e)
        ∙ ap (λ (k : ℕ). take 1 (drop end (set buf k line_feed))) (let d : end ≡ end + 0 = omega arith in d)
        ∙ ap (take 1) (drop-set-add end buf 0 line_feed)
        ∙ set_here (drop end buf) line_feed (omega (arith, length-drop end buf))
        ∙ some_ending line (let l = part_length from held buf (omega arith) in omega arith)
        ∙ sym (turn_ended line came (let l = came_length in omega arith));
  }
