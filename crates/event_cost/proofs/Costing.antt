-- Laws of a line run and its cost. Assumes nothing.
use mathlib.Core.Path.{◌≡◌, sym, ap, ◌∙◌}
use mathlib.Core.Option.{Option}
use mathlib.Core.List.{List}
use Prim.Native.Nat.{ℕ, ◌+◌, ◌≤◌}
use Rattle.base_tables.specs.Records.{table}
use Rattle.base_digits.specs.Put.{Put}
use Rattle.base_digits.proofs.Puts.{put_as}
use Rattle.pool_rules.specs.Model.{PreserveCopy}
use Rattle.pool_books.specs.Demand3.{Reply}
use Rattle.pool_books.specs.LentLists.{read_copy}
use Rattle.pool_memory.specs.MemoryConstants.{copy_stride}
use Rattle.event_lines.specs.declared.event.Event.{Event}
use Rattle.event_answers.specs.declared.answer.Answer.{Answer}
use Rattle.event_answers.specs.Answers.{reply_told}
use Rattle.event_sessions.specs.Sessions.{SessionState, line_step}
use Rattle.event_cost.specs.declared.sums.Sums.{Sums}
use Rattle.event_cost.specs.Costs.{plan_bytes, plan_sums, copies_of, plan_cost, plus, clipped, clipped_sums, cost_row, most_cost_row}
use Rattle.event_cost.specs.Told.{copy_count, event_told}
use Rattle.event_cost.specs.Lines.{event_cost, event_row, EventCosted}
use Rattle.event_cost.proofs.Clipping.{clip_more}
use Rattle.event_cost.proofs.Telling.{copies_told, event_told_lem}

module _ (cs vs n : ℕ) (s after : SessionState) (event : Event) (a : Answer) (copies views : List ℕ)
    (e : (reply_told a copies views, after) ≡ line_step cs vs s event) (k : ℕ) (is-count : k ≡ copy_count a)
    (cost : Sums) (is-cost : cost ≡ clipped_sums (plan_sums s.shape (table copy_stride read_copy k copies))) where
  reply_is : reply_told a copies views ≡ (line_step cs vs s event).0
  reply_is = ap (λ (r : Option Reply × SessionState). r.0) e

  -- the cost is that of the reply's copies
  told_cost : cost ≡ clipped_sums (plan_sums s.shape (copies_of (reply_told a copies views)))
  told_cost =
      is-cost
      ∙ ap (λ (l : List PreserveCopy). clipped_sums (plan_sums s.shape l))
      (ap (λ (m : ℕ). table copy_stride read_copy m copies) is-count ∙ sym (copies_told copies views a))

  line_cost : cost ≡ clipped_sums (event_cost cs vs s event)
  unfolding event_cost plan_cost
  line_cost = told_cost ∙ ap (λ (r : Option Reply). clipped_sums (plan_sums s.shape (copies_of r))) reply_is

  moved_is : cost.moved ≡ clipped (plan_bytes s.shape (copies_of (reply_told a copies views)))
  unfolding clipped_sums plan_sums
  moved_is = ap (λ (x : Sums). x.moved) told_cost

  line_row : event_told n cost.moved event a ≡ event_row cs vs n s event
  unfolding event_row
  line_row =
      ap (λ (b : ℕ). event_told n b event a) moved_is
      ∙ event_told_lem copies views n s.shape event a
      ∙ ap (cost_row n s.shape event) reply_is

  pub costed : (sums added : Sums) → added ≡ clipped_sums (plus sums cost) → (filled end : ℕ) (out exit : List ℕ)
      → (end ≤ filled + most_cost_row) × Put out filled (event_told n cost.moved event a) end exit
      → EventCosted cs vs n s after event sums added filled end out exit
  costed sums added p filled end out exit q = record {
    state = ap (λ (r : Option Reply × SessionState). r.1) e;
    costs = p ∙ ap (λ (x : Sums). clipped_sums (plus sums x)) line_cost ∙ clip_more sums (event_cost cs vs s event);
    length_is = (put_as line_row q.1).ends;
    put = (put_as line_row q.1).makes;
    fits = q.0;
  }
