-- No cutting of an input into blocks shows. After any blocks, what is carried is what their lines leave, and the bytes that are kept of what stands after
-- the last line feed; a block more is then the same as the input with the block after it, since a line's event is that of the kept bytes with the same
-- rest. Assumes nothing.
use mathlib.Core.Path.{◌≡◌, refl, sym, ap, ap₂, ◌∙◌}
use mathlib.Core.List.{List, [], ◌∷◌, ◌++◌, append-nil, append_assoc}
use Prim.Native.Nat.{ℕ, zero, suc, ◌+◌, ◌<◌}
use native.Mathlib.Omega.{arith}
use lib.ListN.{length, take, length-append}
use Rattle.event_sessions.specs.Sessions.{SessionState, HoldsPool}
use Rattle.event_runs.specs.Lines.{whole_lines, output}
use Rattle.event_runs.specs.Texts.{last_line, if_any, all_lines, after_lines, text_output}
use Rattle.event_runs.proofs.Cuts.{Unfinished, in_front, lines_append, last_append, front_lines, front_last, last_unfinished, take_unfinished, line_more}
use Rattle.event_runs.proofs.Texts.{after_append, output_append, after_holds, cut_output, cut_after, cut_count, cut_last, cut_any, cut_any_after}
use Rattle.event_feed.specs.FeedConstants.{kept_bytes}
use Rattle.event_feed.specs.Feed.{Carried, first, joined_blocks, ending, fed, fed_output, finished, finish_output, fed_all, outputs, EveryCutting}

-- more bytes than any event has
long : 195 < kept_bytes
long = omega arith

-- ---- the end of an input

-- a line with the line feed that it lacks is a line, if it has a byte
pub ending_line : (x : List ℕ) → Unfinished x → whole_lines (x ++ ending x) ≡ if_any x
unfolding ending if_any whole_lines
ending_line [] h = refl
ending_line (b ∷ x) h = line_more (b ∷ x) [] h

any_count : (k : ℕ) (x : List ℕ) → 0 < k → length (if_any (take k x)) ≡ length (if_any x)
unfolding if_any
any_count zero x h = absurd (let y : ⊥ = omega arith in y)
any_count (suc k) [] h = refl
any_count (suc k) (b ∷ x) h = refl

-- ---- what is cut off a line does not show

module _ (x ys : List ℕ) (h : Unfinished x) where
  cut : Unfinished (take kept_bytes x)
  cut = take_unfinished kept_bytes x h

  cut_lines : whole_lines (take kept_bytes x ++ ys) ≡ in_front (take kept_bytes x) (whole_lines ys)
  cut_lines = front_lines (take kept_bytes x) ys cut

  same_count : length (whole_lines (take kept_bytes x ++ ys)) ≡ length (whole_lines (x ++ ys))
  same_count = ap length cut_lines ∙ cut_count kept_bytes x (whole_lines ys) ∙ ap length (sym (front_lines x ys h))

  same_last : take kept_bytes (last_line (take kept_bytes x ++ ys)) ≡ take kept_bytes (last_line (x ++ ys))
  same_last = ap (take kept_bytes) (front_last (take kept_bytes x) ys cut) ∙ cut_last kept_bytes x (whole_lines ys) (last_line ys) ∙ ap (take kept_bytes) (sym (front_last x ys h))

  module _ (cs vs : ℕ) (s : SessionState) where
    same_after : after_lines cs vs s (whole_lines (take kept_bytes x ++ ys)) ≡ after_lines cs vs s (whole_lines (x ++ ys))
    same_after = ap (after_lines cs vs s) cut_lines ∙ cut_after cs vs kept_bytes long s x (whole_lines ys) ∙ ap (after_lines cs vs s) (sym (front_lines x ys h))

    same_output : (n : ℕ) → output cs vs n s (whole_lines (take kept_bytes x ++ ys)) ≡ output cs vs n s (whole_lines (x ++ ys))
    same_output n = ap (output cs vs n s) cut_lines ∙ cut_output cs vs kept_bytes long n s x (whole_lines ys) ∙ ap (output cs vs n s) (sym (front_lines x ys h))

module _ (cs vs : ℕ) where
  -- what is carried after the bytes xs, from line n in state s
  abbrev reached : ℕ → SessionState → List ℕ → Carried
  reached n s xs = record {
    state = after_lines cs vs s (whole_lines xs);
    number = n + length (whole_lines xs);
    line = take kept_bytes (last_line xs);
  }

  module _ (n : ℕ) (s : SessionState) (xs ys : List ℕ) where
    abbrev here : Carried
    here = reached n s xs

    last_plain : Unfinished (last_line xs)
    last_plain = last_unfinished xs

    reached_more : fed cs vs here ys ≡ reached n s (xs ++ ys)
    unfolding fed
    reached_more = λ i. record {
      state = state_is i;
      number = number_is i;
      line = (same_last (last_line xs) ys last_plain ∙ ap (take kept_bytes) (sym (last_append xs ys))) i;
    }
      where
        state_is : after_lines cs vs here.state (whole_lines (here.line ++ ys)) ≡ after_lines cs vs s (whole_lines (xs ++ ys))
        state_is =
            same_after (last_line xs) ys last_plain cs vs here.state ∙ sym (after_append cs vs s (whole_lines xs) (whole_lines (last_line xs ++ ys)))
            ∙ ap (after_lines cs vs s) (sym (lines_append xs ys))

        number_is : here.number + length (whole_lines (here.line ++ ys)) ≡ n + length (whole_lines (xs ++ ys))
        number_is =
            let a = same_count (last_line xs) ys last_plain in
            let b = ap length (lines_append xs ys) in
            let d = length-append (whole_lines xs) (whole_lines (last_line xs ++ ys)) in
            omega arith

    reached_output : output cs vs n s (whole_lines (xs ++ ys)) ≡ output cs vs n s (whole_lines xs) ++ fed_output cs vs here ys
    unfolding fed_output
    reached_output =
        ap (output cs vs n s) (lines_append xs ys) ∙ output_append cs vs n s (whole_lines xs) (whole_lines (last_line xs ++ ys))
        ∙ ap (λ (l : List ℕ). output cs vs n s (whole_lines xs) ++ l) (sym (same_output (last_line xs) ys last_plain cs vs here.state here.number))

  -- ---- a block in two parts

  pub fed_append : (c : Carried) (xs ys : List ℕ) → fed cs vs (fed cs vs c xs) ys ≡ fed cs vs c (xs ++ ys)
  unfolding fed
  fed_append c xs ys =
      reached_more c.number c.state (c.line ++ xs) ys ∙ ap (reached c.number c.state) (append_assoc c.line xs ys)

  pub fed_output_append : (c : Carried) (xs ys : List ℕ) → fed_output cs vs c (xs ++ ys) ≡ fed_output cs vs c xs ++ fed_output cs vs (fed cs vs c xs) ys
  unfolding fed fed_output
  fed_output_append c xs ys =
      ap (λ (l : List ℕ). output cs vs c.number c.state (whole_lines l)) (sym (append_assoc c.line xs ys))
      ∙ reached_output c.number c.state (c.line ++ xs) ys

  -- what a block leaves can be carried
  pub fed_plain : (c : Carried) (block : List ℕ) → Unfinished (fed cs vs c block).line
  unfolding fed
  fed_plain c block = take_unfinished kept_bytes (last_line (c.line ++ block)) (last_unfinished (c.line ++ block))

  pub fed_holds : (c : Carried) (block : List ℕ) → HoldsPool c.state → HoldsPool (fed cs vs c block).state
  unfolding fed
  fed_holds c block h = after_holds cs vs c.state (whole_lines (c.line ++ block)) h

  -- ---- every cutting

  fed_joined : (s : SessionState) (xs : List ℕ) (blocks : List (List ℕ)) → fed_all cs vs (reached 0 s xs) blocks ≡ reached 0 s (xs ++ joined_blocks blocks)
  unfolding fed_all joined_blocks
  fed_joined s xs [] = ap (reached 0 s) (sym (append-nil xs))
  fed_joined s xs (b ∷ bs) =
      ap (λ (c : Carried). fed_all cs vs c bs) (reached_more 0 s xs b) ∙ fed_joined s (xs ++ b) bs ∙ ap (reached 0 s) (append_assoc xs b (joined_blocks bs))

  outputs_joined : (s : SessionState) (xs : List ℕ) (blocks : List (List ℕ))
      → output cs vs 0 s (whole_lines xs) ++ outputs cs vs (reached 0 s xs) blocks ≡ output cs vs 0 s (whole_lines (xs ++ joined_blocks blocks))
  unfolding outputs joined_blocks
  outputs_joined s xs [] = append-nil _ ∙ ap (λ (l : List ℕ). output cs vs 0 s (whole_lines l)) (sym (append-nil xs))
  outputs_joined s xs (b ∷ bs) =
      ap (λ (c : Carried). output cs vs 0 s (whole_lines xs) ++ (fed_output cs vs (reached 0 s xs) b ++ outputs cs vs c bs)) (reached_more 0 s xs b)
      ∙ sym (append_assoc (output cs vs 0 s (whole_lines xs)) (fed_output cs vs (reached 0 s xs) b) (outputs cs vs (reached 0 s (xs ++ b)) bs))
      ∙ ap (λ (l : List ℕ). l ++ outputs cs vs (reached 0 s (xs ++ b)) bs) (sym (reached_output 0 s xs b))
      ∙ outputs_joined s (xs ++ b) bs ∙ ap (λ (l : List ℕ). output cs vs 0 s (whole_lines l)) (append_assoc xs b (joined_blocks bs))

  first_reached : (s : SessionState) → first s ≡ reached 0 s []
  unfolding whole_lines last_line after_lines
  first_reached s = refl

  first_output : (s : SessionState) (blocks : List (List ℕ)) → outputs cs vs (reached 0 s []) blocks ≡ output cs vs 0 s (whole_lines (joined_blocks blocks))
  unfolding whole_lines output
  first_output s blocks = outputs_joined s [] blocks

  finished_state : (s : SessionState) (xs : List ℕ) → (finished cs vs (reached 0 s xs)).state ≡ after_lines cs vs s (all_lines xs)
  unfolding finished fed all_lines
  finished_state s xs =
      ap (after_lines cs vs (after_lines cs vs s (whole_lines xs))) (ending_line (take kept_bytes (last_line xs)) (take_unfinished kept_bytes (last_line xs) (last_unfinished xs)))
      ∙ cut_any_after cs vs kept_bytes long (after_lines cs vs s (whole_lines xs)) (last_line xs) ∙ sym (after_append cs vs s (whole_lines xs) (if_any (last_line xs)))

  finished_number : (s : SessionState) (xs : List ℕ) → (finished cs vs (reached 0 s xs)).number ≡ length (all_lines xs)
  unfolding finished fed all_lines
  finished_number s xs =
      let a = ap length (ending_line (take kept_bytes (last_line xs)) (take_unfinished kept_bytes (last_line xs) (last_unfinished xs))) in
      let b = any_count kept_bytes (last_line xs) (omega arith) in
      let d = length-append (whole_lines xs) (if_any (last_line xs)) in
      omega arith

  finished_output : (s : SessionState) (xs : List ℕ) → output cs vs 0 s (whole_lines xs) ++ finish_output cs vs (reached 0 s xs) ≡ text_output cs vs s xs
  unfolding finish_output fed_output text_output all_lines
  finished_output s xs =
      let n = 0 + length (whole_lines xs) in
      let t = after_lines cs vs s (whole_lines xs) in
      ap (λ (l : List ℕ). output cs vs 0 s (whole_lines xs) ++ l)
      (ap (output cs vs n t) (ending_line (take kept_bytes (last_line xs)) (take_unfinished kept_bytes (last_line xs) (last_unfinished xs))) ∙ cut_any cs vs kept_bytes long n t (last_line xs))
      ∙ sym (output_append cs vs 0 s (whole_lines xs) (if_any (last_line xs)))

  pub every_cutting : EveryCutting cs vs
  every_cutting = record { output_is = output_is; state_is = state_is; number_is = number_is }
    where
      at_end : (s : SessionState) (blocks : List (List ℕ)) → fed_all cs vs (first s) blocks ≡ reached 0 s (joined_blocks blocks)
      at_end s blocks = ap (λ (c : Carried). fed_all cs vs c blocks) (first_reached s) ∙ fed_joined s [] blocks

      before : (s : SessionState) (blocks : List (List ℕ)) → outputs cs vs (first s) blocks ≡ output cs vs 0 s (whole_lines (joined_blocks blocks))
      before s blocks = ap (λ (c : Carried). outputs cs vs c blocks) (first_reached s) ∙ first_output s blocks

      state_is : (s : SessionState) (blocks : List (List ℕ)) → (finished cs vs (fed_all cs vs (first s) blocks)).state ≡ after_lines cs vs s (all_lines (joined_blocks blocks))
      state_is s blocks = ap (λ (c : Carried). (finished cs vs c).state) (at_end s blocks) ∙ finished_state s (joined_blocks blocks)

      number_is : (s : SessionState) (blocks : List (List ℕ)) → (finished cs vs (fed_all cs vs (first s) blocks)).number ≡ length (all_lines (joined_blocks blocks))
      number_is s blocks = ap (λ (c : Carried). (finished cs vs c).number) (at_end s blocks) ∙ finished_number s (joined_blocks blocks)

      output_is : (s : SessionState) (blocks : List (List ℕ))
          → outputs cs vs (first s) blocks ++ finish_output cs vs (fed_all cs vs (first s) blocks) ≡ text_output cs vs s (joined_blocks blocks)
      output_is s blocks = ap₂ (λ (a b : List ℕ). a ++ b) (before s blocks) (ap (finish_output cs vs) (at_end s blocks)) ∙ finished_output s (joined_blocks blocks)
