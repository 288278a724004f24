-- Laws of the output of lines, with answer buffers of cs and vs numbers. Assumes nothing.
use mathlib.Core.Path.{◌≡◌, refl, sym, ap, ◌∙◌}
use mathlib.Core.Bool.{Bool, true, false, cond}
use mathlib.Core.List.{List, [], ◌∷◌, ◌++◌, append-nil, append_assoc}
use Prim.Native.Nat.{ℕ, zero, suc, ◌+◌, ◌≤◌, ◌<◌}
use native.Mathlib.Nat.{add-zero}
use native.Mathlib.Omega.{arith}
use borrow.Author.Tests.{le-leb}
use lib.ListN.{length, take, length-append}
use lib.Seq.{sets, take-append-add}
use Rattle.pool_memory.proofs.Rewritten.{sets_append}
use Rattle.event_lines.specs.declared.event.Event.{Event}
use Rattle.event_lines.specs.Grammar.{event_of}
use Rattle.event_answers.specs.Printed.{printed}
use Rattle.event_sessions.specs.Sessions.{SessionState, HoldsPool, line_step}
use Rattle.event_sessions.proofs.Keeps.{step_keeps}
use Rattle.event_runs.specs.Lines.{whole_lines, line_output, line_state, output, longest_answer, Progress, has_room, ran, ran_all}
use Rattle.event_runs.specs.Texts.{last_line, if_any, after_lines}
use Rattle.event_runs.proofs.LongLines.{cut_unread}
use Rattle.event_runs.proofs.Cuts.{Unfinished, in_front, last_after, First, first_of, line_more, line_last}
use Rattle.base_digits.specs.Characters.{line_feed}

-- the front of a front with more after it
pub take_cut : (k : ℕ) (x y : List ℕ) → take k (take k x ++ y) ≡ take k (x ++ y)
take_cut zero x y = refl
take_cut (suc k) [] y = refl
take_cut (suc k) (b ∷ x) y = ap (λ (l : List ℕ). b ∷ l) (take_cut k x y)

pub cut_last : (k : ℕ) (x : List ℕ) (ls : List (List ℕ)) (last : List ℕ) → take k (last_after (take k x) ls last) ≡ take k (last_after x ls last)
unfolding last_after
cut_last k x [] last = take_cut k x last
cut_last k x (l ∷ ls) last = refl

pub cut_count : (k : ℕ) (x : List ℕ) (ls : List (List ℕ)) → length (in_front (take k x) ls) ≡ length (in_front x ls)
unfolding in_front
cut_count k x [] = refl
cut_count k x (l ∷ ls) = refl

module _ (cs vs : ℕ) where
  -- ---- some lines, and more after them

  pub after_append : (s : SessionState) (xs ys : List (List ℕ)) → after_lines cs vs s (xs ++ ys) ≡ after_lines cs vs (after_lines cs vs s xs) ys
  unfolding after_lines
  after_append s [] ys = refl
  after_append s (x ∷ xs) ys = after_append (line_state cs vs s x) xs ys

  pub output_append : (n : ℕ) (s : SessionState) (xs ys : List (List ℕ))
      → output cs vs n s (xs ++ ys) ≡ output cs vs n s xs ++ output cs vs (n + length xs) (after_lines cs vs s xs) ys
  unfolding output after_lines
  output_append n s [] ys = ap (λ (k : ℕ). output cs vs k s ys) (sym (add-zero n))
  output_append n s (x ∷ xs) ys =
      let t = line_state cs vs s x in
      ap (λ (l : List ℕ). line_output cs vs (n + 1) s x ++ l)
      (output_append (n + 1) t xs ys ∙ ap (λ (k : ℕ). output cs vs (n + 1) t xs ++ output cs vs k (after_lines cs vs t xs) ys) (let e : n + 1 + length xs ≡ n + suc (length xs) = omega arith in e))
      ∙ sym (append_assoc (line_output cs vs (n + 1) s x) (output cs vs (n + 1) t xs) _)

  pub after_holds : (s : SessionState) (lines : List (List ℕ)) → HoldsPool s → HoldsPool (after_lines cs vs s lines)
  unfolding after_lines line_state
  after_holds s [] h = h
  after_holds s (l ∷ ls) h = after_holds (line_step cs vs s (event_of l)).1 ls (step_keeps cs vs s (event_of l) h)

  -- ---- a line's front says what the line does, if no event is as long

  module _ (k : ℕ) (long : 195 < k) where
    same_event : (x l : List ℕ) → event_of (take k x ++ l) ≡ event_of (x ++ l)
    same_event x l = cut_unread k long x l

    pub cut_output : (n : ℕ) (s : SessionState) (x : List ℕ) (ls : List (List ℕ)) → output cs vs n s (in_front (take k x) ls) ≡ output cs vs n s (in_front x ls)
    unfolding output line_output line_state in_front
    cut_output n s x [] = refl
    cut_output n s x (l ∷ ls) =
        ap (λ (e : Event). printed (n + 1) (line_step cs vs s e).0 ++ output cs vs (n + 1) (line_step cs vs s e).1 ls) (same_event x l)

    pub cut_after : (s : SessionState) (x : List ℕ) (ls : List (List ℕ)) → after_lines cs vs s (in_front (take k x) ls) ≡ after_lines cs vs s (in_front x ls)
    unfolding after_lines line_state in_front
    cut_after s x [] = refl
    cut_after s x (l ∷ ls) = ap (λ (e : Event). after_lines cs vs (line_step cs vs s e).1 ls) (same_event x l)

    -- the same of the last line
    pub cut_any : (n : ℕ) (s : SessionState) (x : List ℕ) → output cs vs n s (if_any (take k x)) ≡ output cs vs n s (if_any x)
    unfolding output line_output line_state if_any
    cut_any n s [] = go k
      where
        go : (j : ℕ) → output cs vs n s (if_any (take j [])) ≡ []
        go zero = refl
        go (suc j) = refl
    cut_any n s (b ∷ x) = go k (same_event (b ∷ x) []) long
      where
        go : (j : ℕ) → event_of (take j (b ∷ x) ++ []) ≡ event_of ((b ∷ x) ++ []) → 195 < j → output cs vs n s (if_any (take j (b ∷ x))) ≡ output cs vs n s (if_any (b ∷ x))
        go zero q h = absurd (let y : ⊥ = omega arith in y)
        go (suc j) q h =
            let e : event_of (b ∷ take j x) ≡ event_of (b ∷ x) = ap event_of (sym (append-nil (b ∷ take j x))) ∙ q ∙ ap event_of (append-nil (b ∷ x)) in
            ap (λ (v : Event). printed (n + 1) (line_step cs vs s v).0 ++ []) e

    pub cut_any_after : (s : SessionState) (x : List ℕ) → after_lines cs vs s (if_any (take k x)) ≡ after_lines cs vs s (if_any x)
    unfolding after_lines line_state if_any
    cut_any_after s [] = go k
      where
        go : (j : ℕ) → after_lines cs vs s (if_any (take j [])) ≡ s
        go zero = refl
        go (suc j) = refl
    cut_any_after s (b ∷ x) = go k (same_event (b ∷ x) []) long
      where
        go : (j : ℕ) → event_of (take j (b ∷ x) ++ []) ≡ event_of ((b ∷ x) ++ []) → 195 < j → after_lines cs vs s (if_any (take j (b ∷ x))) ≡ after_lines cs vs s (if_any (b ∷ x))
        go zero q h = absurd (let y : ⊥ = omega arith in y)
        go (suc j) q h =
            let e : event_of (b ∷ take j x) ≡ event_of (b ∷ x) = ap event_of (sym (append-nil (b ∷ take j x))) ∙ q ∙ ap event_of (append-nil (b ∷ x)) in
            ap (λ (v : Event). (line_step cs vs s v).1) e

  -- ---- what running an input's lines as far as there is room did: the lines of a front of it that a line feed ends, and nothing else

  pub record Ran (p q : Progress) (input : List ℕ) : Type 0 where
    pub used : ℕ
    pub fits : used ≤ length input
    pub none_left : last_line (take used input) ≡ []
    pub from : q.from ≡ p.from + used
    pub state : q.state ≡ after_lines cs vs p.state (whole_lines (take used input))
    pub number : q.number ≡ p.number + length (whole_lines (take used input))
    pub filled : q.filled ≡ p.filled + length (output cs vs p.number p.state (whole_lines (take used input)))
    pub out : q.out ≡ sets p.out p.filled (output cs vs p.number p.state (whole_lines (take used input)))

  ran_nothing : (p : Progress) (input : List ℕ) → Ran p p input
  unfolding whole_lines last_line output after_lines
  ran_nothing p input = record {
    used = 0;
    fits = omega arith;
    none_left = refl;
    from = sym (add-zero p.from);
    state = refl;
    number = sym (add-zero p.number);
    filled = sym (add-zero p.filled);
    out = refl;
  }

  -- a line, and what was run after it
  module _ (p q : Progress) (line rest : List ℕ) (plain : Unfinished line) (r : Ran (ran cs vs p line) q rest) where
    abbrev input : List ℕ
    input = line ++ (line_feed ∷ rest)

    abbrev used : ℕ
    used = length line + suc r.used

    abbrev front : List ℕ
    front = line ++ (line_feed ∷ take r.used rest)

    taken : take used input ≡ front
    taken = take-append-add line (line_feed ∷ rest) (suc r.used)

    lines : whole_lines (take used input) ≡ line ∷ whole_lines (take r.used rest)
    lines = ap whole_lines taken ∙ line_more line (take r.used rest) plain

    ran_more : Ran p q input
    unfolding ran output after_lines
    ran_more =
        let text : List ℕ = line_output cs vs (p.number + 1) p.state line in
        let more : List ℕ = output cs vs (p.number + 1) (line_state cs vs p.state line) (whole_lines (take r.used rest)) in
        let all : output cs vs p.number p.state (whole_lines (take used input)) ≡ text ++ more = ap (output cs vs p.number p.state) lines in
        let a = r.fits in
        let f = r.from in
        let n = r.number in
        let g = r.filled in
        record {
          used = used;
          fits = omega (arith, length-append line (line_feed ∷ rest));
          none_left = ap last_line taken ∙ line_last line (take r.used rest) plain ∙ r.none_left;
          from = omega arith;
          state = r.state ∙ ap (after_lines cs vs p.state) (sym lines);
          number = omega (arith, ap length lines);
          filled = omega (arith, ap length all, length-append text more);
          out = r.out ∙ sym (sets_append p.out p.filled text more) ∙ ap (sets p.out p.filled) (sym all);
        }

  pub ran_front : (input : List ℕ) (lines : List (List ℕ)) (p : Progress) → whole_lines input ≡ lines → Ran p (ran_all cs vs p lines) input
  unfolding ran_all
  ran_front input [] p e = ran_nothing p input
  ran_front input (line ∷ lines) p e =
      let f = first_of input line lines e in
      go (has_room cs vs p) f (ran_front f.rest lines (ran cs vs p line) f.others)
    where
      go : (t : Bool) (f : First input line lines) → Ran (ran cs vs p line) (ran_all cs vs (ran cs vs p line) lines) f.rest
          → Ran p (cond t (ran_all cs vs (ran cs vs p line) lines) p) input
      go false f r = ran_nothing p input
      go true f r = rw f.bytes (ran_more p (ran_all cs vs (ran cs vs p line) lines) line f.rest f.plain r)

  -- where there was room and nothing was run, there is no whole line
  pub ran_none : (input : List ℕ) (p q : Progress) → q ≡ ran_all cs vs p (whole_lines input) → p.filled + longest_answer cs vs ≤ length p.out
      → q.from ≡ p.from → whole_lines input ≡ []
  unfolding ran_all ran has_room
  ran_none input p q e room f = go (whole_lines input) refl (ap (λ (x : Progress). x.from) (sym e) ∙ f)
    where
      go : (lines : List (List ℕ)) → whole_lines input ≡ lines → (ran_all cs vs p lines).from ≡ p.from → lines ≡ []
      go [] h k = refl
      go (line ∷ lines) h k =
          let r = first_of input line lines h in
          let l = (ran_front r.rest lines (ran cs vs p line) r.others).from in
          let m : (ran_all cs vs (ran cs vs p line) lines).from ≡ p.from = rw (le-leb (p.filled + longest_answer cs vs) (length p.out) room) at k in
          absurd (let y : ⊥ = omega arith in y)
