-- What was fed so far, turn by turn, and what was written of it. Assumes nothing.
use mathlib.Core.Path.{◌≡◌, refl, sym, ap, ◌∙◌}
use mathlib.Core.Bool.{Bool, true, false, cond}
use mathlib.Core.List.{List, [], ◌∷◌, ◌++◌, append-nil}
use Prim.Native.Nat.{ℕ, suc, ◌+◌, ◌≤◌}
use native.Mathlib.Nat.{zero-add}
use native.Mathlib.Omega.{arith}
use lib.Dec.{eqb}
use lib.ListN.{length, take, length-append}
use lib.Seq.{length-take-le}
use Rattle.event_sessions.specs.Sessions.{SessionState, HoldsPool}
use Rattle.event_runs.specs.Lines.{in_first_line, whole_lines, output}
use Rattle.event_runs.specs.Texts.{last_line, all_lines, after_lines, text_output}
use Rattle.event_runs.proofs.Cuts.{Unfinished}
use Rattle.event_feed.specs.Feed.{Carried, first, joined_blocks, fed, fed_output, finished, finish_output, fed_all, outputs}
use Rattle.event_feed.specs.Places.{Turn}
use Rattle.event_feed.proofs.Cutting.{fed_append, fed_output_append, fed_plain, every_cutting}
use Rattle.event_stream.specs.Streams.{why_ended, why_too_long, is_full, RunOf}
use Rattle.base_digits.specs.Characters.{line_feed}

-- no more lines than bytes
pub lines_few : (input : List ℕ) → length (whole_lines input) ≤ length input
unfolding whole_lines in_first_line
lines_few [] = omega arith
lines_few (b ∷ bs) = go (eqb b line_feed) (lines_few bs)
  where
    same : (ls : List (List ℕ)) → length (in_first_line b ls) ≡ length ls
    same [] = refl
    same (l ∷ ls) = refl

    go : (t : Bool) → length (whole_lines bs) ≤ length bs → length (cond t ([] ∷ whole_lines bs) (in_first_line b (whole_lines bs))) ≤ suc (length bs)
    go true h = omega arith
    go false h = omega (arith, same (whole_lines bs))

-- Of the `read` bytes that came, all but the `wait` that wait were fed, and the output has `written` bytes.
pub record Sofar (cs vs : ℕ) (s : SessionState) (c : Carried) (read wait written : ℕ) : Type 0 where
  pub input : List ℕ
  pub is : c ≡ fed cs vs (first s) input
  pub bytes : length input + wait ≡ read
  pub put : length (fed_output cs vs (first s) input) ≡ written

-- The input has ended, and its last line was run too.
pub record Closed (cs vs : ℕ) (s : SessionState) (c : Carried) (read written : ℕ) : Type 0 where
  pub before : Carried
  pub put : ℕ
  pub sofar : Sofar cs vs s before read 0 put
  pub is : c ≡ finished cs vs before
  pub more : put + length (finish_output cs vs before) ≡ written

module _ (cs vs : ℕ) (s : SessionState) where
  pub sofar_first : Sofar cs vs s (first s) 0 0 0
  unfolding fed fed_output whole_lines last_line after_lines output
  sofar_first = record { input = []; is = refl; bytes = refl; put = refl }

  module _ (c : Carried) (read wait written : ℕ) (r : Sofar cs vs s c read wait written) where
    pub sofar_plain : Unfinished c.line
    sofar_plain = rw r.is (fed_plain cs vs (first s) r.input)

    number_is : c.number ≡ length (whole_lines r.input)
    unfolding fed
    number_is = ap (λ (x : Carried). x.number) r.is ∙ zero-add _

    state_is : c.state ≡ after_lines cs vs s (whole_lines r.input)
    unfolding fed
    state_is = ap (λ (x : Carried). x.state) r.is

    written_is : written ≡ length (output cs vs 0 s (whole_lines r.input))
    unfolding fed_output
    written_is = sym r.put

    pub sofar_count : c.number ≤ read
    sofar_count = omega (arith, number_is, lines_few r.input, r.bytes)

    -- ---- a turn more

    module _ (here after : Carried) (same : here ≡ c) (block left : List ℕ) (filled : ℕ) (out exit : List ℕ) (t : Turn cs vs here after block left filled out exit) where
      abbrev front : List ℕ
      front = take t.used block

      put_more : written + filled ≡ length (fed_output cs vs (first s) (r.input ++ front))
      put_more =
          let a = ap length (fed_output_append cs vs (first s) r.input front) in
          let b = length-append (fed_output cs vs (first s) r.input) (fed_output cs vs (fed cs vs (first s) r.input) front) in
          let d = ap (λ (x : Carried). length (fed_output cs vs x front)) (same ∙ r.is) in
          omega (arith, t.length_is, r.put)

      -- `rest` bytes wait of the `came` that came
      pub sofar_turn : (came rest : ℕ) → length r.input + t.used + rest ≡ came → Sofar cs vs s after came rest (written + filled)
      sofar_turn came rest e = record {
        input = r.input ++ front;
        is = t.carried ∙ ap (λ (x : Carried). fed cs vs x front) (same ∙ r.is) ∙ fed_append cs vs (first s) r.input front;
        bytes = omega (arith, length-append r.input front, length-take-le t.used block t.fits, e);
        put = sym put_more;
      }

    -- ---- the end

    -- the input was not read to its end
    pub stopped_early : (size room : ℕ) → HoldsPool c.state → is_full read size written room ≡ true → RunOf cs vs size room s c.state why_too_long read c.number written
    stopped_early size room h l = record {
      stopped = (omega arith, omega arith);
      pool = h;
      input = r.input;
      fed_bytes = omega (arith, r.bytes);
      ended = λ e. absurd (let y : ⊥ = omega arith in y);
      long = λ e. (l, state_is, number_is, written_is);
    }

  -- it was, and its last line was run
  pub stopped_ended : (size room : ℕ) (c : Carried) (read written : ℕ) → HoldsPool c.state → Closed cs vs s c read written → RunOf cs vs size room s c.state why_ended read c.number written
  unfolding fed_all outputs joined_blocks
  stopped_ended size room c read written k z =
      let r = z.sofar in
      let e = every_cutting cs vs in
      let one = append-nil r.input in
      record {
        stopped = (omega arith, omega arith);
        pool = k;
        input = r.input;
        fed_bytes = omega (arith, r.bytes);
        ended = λ q. (
          omega (arith, r.bytes),
          ap (λ (x : Carried). x.state) z.is ∙ ap (λ (x : Carried). (finished cs vs x).state) r.is ∙ e.state_is s (r.input ∷ [])
              ∙ ap (λ (l : List ℕ). after_lines cs vs s (all_lines l)) one,
          ap (λ (x : Carried). x.number) z.is ∙ ap (λ (x : Carried). (finished cs vs x).number) r.is ∙ e.number_is s (r.input ∷ [])
              ∙ ap (λ (l : List ℕ). length (all_lines l)) one,
          (let a = z.more in
              let b = r.put in
              let d = ap (λ (x : Carried). length (finish_output cs vs x)) r.is in
              let f = ap length (e.output_is s (r.input ∷ [])) in
              let g = length-append (fed_output cs vs (first s) r.input ++ []) (finish_output cs vs (fed cs vs (first s) r.input)) in
              let h = ap length (append-nil (fed_output cs vs (first s) r.input)) in
              let m = ap (λ (l : List ℕ). length (text_output cs vs s l)) one in
              omega arith),
        );
        long = λ q. absurd (let y : ⊥ = omega arith in y);
      }
