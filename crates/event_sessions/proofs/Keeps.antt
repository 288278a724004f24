-- Once opened, the stores form a pool after every line. Assumes nothing.
use Prim.Native.Nat.{ℕ}
use mathlib.Core.Path.{◌≡◌, refl, ◌∙◌}
use mathlib.Core.Bool.{Bool, true, false, cond, false≢true}
use mathlib.Core.Option.{Option, some}
use mathlib.Core.List.{List}
use lib.ListN.{replicate}
use Rattle.pool_memory.specs.IsPool.{is_pool, sizes_fit}
use Rattle.pool_memory.specs.Calls.{opened_pool, opened_book}
use Rattle.pool_books.specs.Demand3.{Reply, refusal, done}
use Rattle.pool_books.specs.LentLists.{LentCall, EveryCallKeepsPool, OpenedIsPool}
use Rattle.pool_books.proofs.LentLists.{calls_keep_pool, opened_is_pool}
use Rattle.event_lines.specs.declared.event.Event.{Event}
use Rattle.event_sessions.specs.Sessions.{SessionState, state_of, HoldsPool, opens, opened_state, called, not_called, take_line, if_opened, line_step}
use Rattle.event_sessions.proofs.Opened.{same_sizes}
use Rattle.pool_books.specs.Lists.{plan_call, take_call}
use Rattle.event_sessions.specs.Noted.{fresh_session}

-- nothing is opened in a fresh session
pub fresh_holds : (textures retiring doomed spares newest stamps : List ℕ) → HoldsPool (state_of fresh_session textures retiring doomed spares newest stamps)
unfolding fresh_session
fresh_holds textures retiring doomed spares newest stamps e = absurd (false≢true e)

opened_holds : (s : SessionState) (working : ℕ) → sizes_fit s.lent ≡ true → is_pool (opened_state s working).lent ≡ true
unfolding OpenedIsPool
opened_holds s working q =
    let l = s.lent in
    opened_is_pool working l.textures l.retiring l.doomed l.spares l.newest l.stamps
    (same_sizes (opened_pool working) l.pool opened_book l.book l.textures l.retiring l.doomed l.spares l.newest l.stamps ∙ q)

call_keeps : (s : SessionState) → HoldsPool s → (c : LentCall) → HoldsPool (called s c).1
unfolding EveryCallKeepsPool
call_keeps s h c e = calls_keep_pool s.lent (h e) c

module _ (s : SessionState) (h : HoldsPool s) where
  if_keeps : (r : Option Reply × SessionState) → HoldsPool r.1 → HoldsPool (if_opened s r).1
  if_keeps r k = go s.opened
    where
      go : (b : Bool) → HoldsPool (cond b r (not_called s)).1
      go true = k
      go false = h

  opens_keeps : (working : ℕ) → HoldsPool (opens s working).1
  unfolding opens
  opens_keeps working = go (sizes_fit s.lent) refl
    where
      go : (b : Bool) → sizes_fit s.lent ≡ b → HoldsPool (cond {A = Option Reply × SessionState} b (some done, opened_state s working) (some (refusal 1), s)).1
      go true q = λ e. opened_holds s working q
      go false q = h

  -- a call between `open` and the end
  made_keeps : (c : LentCall) → HoldsPool (if_opened s (called s c)).1
  made_keeps c = if_keeps (called s c) (call_keeps s h c)

pub step_keeps : (copies views : ℕ) (s : SessionState) (e : Event) → HoldsPool s → HoldsPool (line_step copies views s e).1
unfolding line_step
step_keeps copies views s (Event.Open working) h = go s.opened
  where
    go : (b : Bool) → HoldsPool (cond b (not_called s) (opens s working)).1
    go true = h
    go false = opens_keeps s h working
step_keeps copies views s (Event.Take id shape records seq) h =
    if_keeps s h (called (take_line s shape) (take_call id shape records seq)) (call_keeps (take_line s shape) h (take_call id shape records seq))
step_keeps copies views s (Event.Plan id held slice level cover) h = if_keeps s h (cond s.taken (called s plan) (not_called s)) (go s.taken)
  where
    plan : LentCall
    plan = plan_call id s.shape held (record { slice = slice; level = level; cover = cover }) (replicate copies 0)

    go : (b : Bool) → HoldsPool (cond b (called s plan) (not_called s)).1
    go true = call_keeps s h plan
    go false = h
step_keeps copies views s (Event.Retire id view seq) h = made_keeps s h _
step_keeps copies views s (Event.Write id slice level rect) h = made_keeps s h _
step_keeps copies views s (Event.Regen id) h = made_keeps s h _
step_keeps copies views s (Event.Pop settled) h = made_keeps s h _
step_keeps copies views s (Event.Park failed now) h = made_keeps s h _
step_keeps copies views s (Event.Note allocated) h = made_keeps s h _
step_keeps copies views s Event.Doomed h = made_keeps s h _
step_keeps copies views s Event.Drain h = made_keeps s h _
step_keeps copies views s (Event.Trim now) h = made_keeps s h _
step_keeps copies views s (Event.Forget id) h = made_keeps s h _
step_keeps copies views s Event.Unread h = h
