-- A session before and after `open`: its answers, and the state that they come with. Assumes nothing.
use Prim.Native.Nat.{ℕ}
use mathlib.Core.Path.{◌≡◌, refl, sym, ap, ap₂, ◌∙◌, subst}
use mathlib.Core.Bool.{Bool, true, false, cond}
use mathlib.Core.Option.{Option, some}
use mathlib.Core.List.{List}
use native.Mathlib.Omega.{arith}
use lib.Dec.{eqb}
use borrow.Author.Tests.{eq-eqb}
use Rattle.grid_shapes.specs.declared.shape.VersionShape.{VersionShape}
use Rattle.pool_memory.specs.declared.pool.Pool.{Pool}
use Rattle.pool_memory.specs.declared.book.PacingBook.{PacingBook}
use Rattle.pool_memory.specs.Lent.{Lent, lent, version_places}
use Rattle.pool_memory.specs.Reading.{model_of}
use Rattle.pool_memory.specs.IsPool.{sizes_fit}
use Rattle.pool_memory.specs.Calls.{open_number, opened_pool, opened_book}
use Rattle.pool_books.specs.Demand3.{Reply, refusal, done}
use Rattle.pool_books.specs.LentLists.{opened_lent}
use Rattle.event_lines.specs.declared.event.Event.{Event}
use Rattle.event_answers.specs.Answers.{reply_told, InBuffers}
use Rattle.event_answers.specs.declared.answer.Answer.{Answer}
use Rattle.event_answers.specs.declared.answer.Answer.TheVariants.{Question, Refused, Done}
use Rattle.event_sessions.specs.declared.session.Session.{Session}
use Rattle.event_sessions.specs.Sessions.{SessionState, state_of, opens, opened_state, not_called, if_opened, line_step}
use Rattle.event_sessions.specs.Parts.{session_opened, session_after, Stepped, SaysOnly, AnsweredAlone}
use Rattle.event_sessions.proofs.Steps.{step_notes}
use Rattle.event_sessions.specs.Noted.{taken_after, shape_after}

-- ---- `open`

-- the sizes are those of the slices
pub same_sizes : (p q : Pool) (b c : PacingBook) (textures retiring doomed spares newest stamps : List ℕ)
    → sizes_fit (lent p b textures retiring doomed spares newest stamps) ≡ sizes_fit (lent q c textures retiring doomed spares newest stamps)
unfolding sizes_fit model_of version_places
same_sizes p q b c textures retiring doomed spares newest stamps = refl

module _ (s : Session) (textures retiring doomed spares newest stamps : List ℕ) (working outcome : ℕ)
    (e : outcome ≡ open_number (opened_lent working textures retiring doomed spares newest stamps)) where
  abbrev before : SessionState
  before = state_of s textures retiring doomed spares newest stamps

  outcome_here : outcome ≡ cond (sizes_fit before.lent) 0 1
  unfolding open_number
  outcome_here =
      e ∙ ap (λ (b : Bool). cond b 0 1) (same_sizes (opened_pool working) s.pool opened_book s.book textures retiring doomed spares newest stamps)

  pub open_refused : (k : ℕ) → k ≡ outcome → (outcome ≡ 0 → ⊥) → SaysOnly (Refused k) before (opens before working)
  unfolding SaysOnly opens InBuffers reply_told
  open_refused k is n copies views = (tt, go (sizes_fit before.lent) outcome_here)
    where
      go : (b : Bool) → outcome ≡ cond b 0 1
          → ◌≡◌ {A = Option Reply × SessionState} (some (refusal k), before) (cond b (some done, opened_state before working) (some (refusal 1), before))
      go true q = absurd (n q)
      go false q = ap (λ (x : ℕ). (some (refusal x), before)) (is ∙ q)

  pub open_done : outcome ≡ 0 → (p : Pool) (b : PacingBook) → p ≡ opened_pool working → b ≡ opened_book
      → SaysOnly Done (state_of (record { opened = 1; taken = s.taken; pool = p; book = b; shape = s.shape }) textures retiring doomed spares newest stamps) (opens before working)
  unfolding SaysOnly opens InBuffers reply_told
  open_done z p b ep eb copies views = (tt, ap (λ (x : SessionState). (some done, x)) same ∙ go (sizes_fit before.lent) outcome_here)
    where
      same : state_of (record { opened = 1; taken = s.taken; pool = p; book = b; shape = s.shape }) textures retiring doomed spares newest stamps ≡ opened_state before working
      same = λ i. record {
        opened = true;
        taken = eqb s.taken 1;
        shape = s.shape;
        lent = lent (ep i) (eb i) textures retiring doomed spares newest stamps;
      }

      go : (b : Bool) → outcome ≡ cond b 0 1
          → ◌≡◌ {A = Option Reply × SessionState} (some done, opened_state before working) (cond b (some done, opened_state before working) (some (refusal 1), before))
      go true q = refl
      go false q = absurd (let y : ⊥ = omega (arith, z, q) in y)

-- ---- before it

module _ (s : SessionState) (e : s.opened ≡ false) where
  pub open_alone : (a : Answer) (exit : SessionState) (f : Event) (working : ℕ) → f ≡ Event.Open working → SaysOnly a exit (opens s working) → AnsweredAlone a exit s f
  unfolding AnsweredAlone line_step
  open_alone a exit f working q m copies views =
      rw q (subst (SaysOnly a exit) (sym (ap (λ (b : Bool). cond b (not_called s) (opens s working)) e)) m)

  none_answered : SaysOnly Question s (not_called s)
  unfolding SaysOnly InBuffers reply_told
  none_answered copies views = (tt, refl)

  not_called_lem : (r : Option Reply × SessionState) → SaysOnly Question s (if_opened s r)
  not_called_lem r = subst (SaysOnly Question s) (sym (ap (λ (b : Bool). cond b r (not_called s)) e)) none_answered

  pub none_alone : (f : Event) → ((working : ℕ) → f ≡ Event.Open working → ⊥) → AnsweredAlone Question s s f
  unfolding AnsweredAlone line_step
  none_alone (Event.Open working) k copies views = absurd (k working refl)
  none_alone (Event.Take id shape records seq) k copies views = not_called_lem _
  none_alone (Event.Plan id held slice level cover) k copies views = not_called_lem _
  none_alone (Event.Retire id view seq) k copies views = not_called_lem _
  none_alone (Event.Write id slice level rect) k copies views = not_called_lem _
  none_alone (Event.Regen id) k copies views = not_called_lem _
  none_alone (Event.Pop settled) k copies views = not_called_lem _
  none_alone (Event.Park failed now) k copies views = not_called_lem _
  none_alone (Event.Note allocated) k copies views = not_called_lem _
  none_alone Event.Doomed k copies views = not_called_lem _
  none_alone Event.Drain k copies views = not_called_lem _
  none_alone (Event.Trim now) k copies views = not_called_lem _
  none_alone (Event.Forget id) k copies views = not_called_lem _
  none_alone Event.Unread k copies views = none_answered

-- ---- the answer of a line

module _ (a : Answer) (exit s : SessionState) (e : Event) (copies views : ℕ) (copiesExit viewsExit : List ℕ) where
  abbrev Answers : Type 0
  Answers = InBuffers a copiesExit viewsExit × ((reply_told a copiesExit viewsExit, exit) ≡ line_step copies views s e)

  pub alone_answers : AnsweredAlone a exit s e → Answers
  unfolding AnsweredAlone SaysOnly
  alone_answers m = m copies views copiesExit viewsExit

  stepped_answers : s.opened ≡ true → (after : Lent) → Stepped copies views (session_opened s.taken s.shape s.lent) e a copiesExit viewsExit after
      → exit ≡ session_opened (taken_after true s.taken e) (shape_after s.shape e) after → Answers
  unfolding Stepped
  stepped_answers o after m x =
      let t = s.taken in
      let h = s.shape in
      let l = s.lent in
      let here : s ≡ session_opened t h l = λ i. record { opened = o i; taken = t; shape = h; lent = l } in (
        m.0,
        ap₂ (λ (r : Option Reply) (y : SessionState). (r, y)) m.1 (x ∙ ap (session_opened (taken_after true t e) (shape_after h e)) m.2 ∙ sym (step_notes copies views t h l e))
            ∙ sym (ap (λ (y : SessionState). line_step copies views y e) here),
      )

-- the session after the event, in the state that it stands for
taken_noted : (taken : ℕ) (e : Event) → eqb (taken_after 1 taken e) 1 ≡ taken_after true (eqb taken 1) e
taken_noted taken (Event.Open working) = refl
taken_noted taken (Event.Take id shape records seq) = refl
taken_noted taken (Event.Plan id held slice level cover) = refl
taken_noted taken (Event.Retire id view seq) = refl
taken_noted taken (Event.Write id slice level rect) = refl
taken_noted taken (Event.Regen id) = refl
taken_noted taken (Event.Pop settled) = refl
taken_noted taken (Event.Park failed now) = refl
taken_noted taken (Event.Note allocated) = refl
taken_noted taken Event.Doomed = refl
taken_noted taken Event.Drain = refl
taken_noted taken (Event.Trim now) = refl
taken_noted taken (Event.Forget id) = refl
taken_noted taken Event.Unread = refl

session_state : (r : Session) (taken : ℕ) (shape : VersionShape) (p : Pool) (b : PacingBook) (e : Event) (textures retiring doomed spares newest stamps : List ℕ)
    → r ≡ session_after taken shape p b e
    → state_of r textures retiring doomed spares newest stamps ≡ session_opened (taken_after true (eqb taken 1) e) (shape_after shape e) (lent p b textures retiring doomed spares newest stamps)
unfolding session_after
session_state r taken shape p b e textures retiring doomed spares newest stamps q =
    ap (λ (x : Session). state_of x textures retiring doomed spares newest stamps) q
    ∙ ap (λ (t : Bool). session_opened t (shape_after shape e) (lent p b textures retiring doomed spares newest stamps)) (taken_noted taken e)

-- the answer of a line to an opened session: what the call told, and the state that the session after it stands for
pub opened_answers : (s : Session) (textures retiring doomed spares newest stamps : List ℕ) (e : Event) (copies views : ℕ) (a : Answer) (copiesExit viewsExit : List ℕ) (p : Pool) (b : PacingBook)
    (textures' retiring' doomed' spares' newest' stamps' : List ℕ) (next : Session) → s.opened ≡ 1
    → Stepped copies views (session_opened (eqb s.taken 1) s.shape (lent s.pool s.book textures retiring doomed spares newest stamps)) e a copiesExit viewsExit (lent p b textures' retiring' doomed' spares' newest' stamps')
    → next ≡ session_after s.taken s.shape p b e
    → InBuffers a copiesExit viewsExit
    × ((reply_told a copiesExit viewsExit, state_of next textures' retiring' doomed' spares' newest' stamps') ≡ line_step copies views (state_of s textures retiring doomed spares newest stamps) e)
opened_answers s textures retiring doomed spares newest stamps e copies views a copiesExit viewsExit p b textures' retiring' doomed' spares' newest' stamps' next one m q =
    stepped_answers a (state_of next textures' retiring' doomed' spares' newest' stamps') (state_of s textures retiring doomed spares newest stamps) e copies views copiesExit viewsExit
    (eq-eqb s.opened 1 one) (lent p b textures' retiring' doomed' spares' newest' stamps') m
    (session_state next s.taken s.shape p b e textures' retiring' doomed' spares' newest' stamps' q)
