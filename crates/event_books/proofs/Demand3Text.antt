-- Demand 3 of a text, by that of lists of calls on lent stores. Before the first accepted `open` no call is made; after it each line makes one call or
-- none, so the calls of the lines are a list that keeps to renames. Assumes nothing.
use Prim.Native.Nat.{ℕ, ◌+◌, ◌/◌}
use mathlib.Core.Path.{◌≡◌, refl, ap, ap₂, ◌∙◌}
use mathlib.Core.Bool.{Bool, true, false, cond}
use mathlib.Core.Option.{Option, none, some}
use mathlib.Core.List.{List, [], ◌∷◌, ◌++◌, map}
use lib.ListN.{replicate, length-replicate}
use Rattle.grid_shapes.specs.declared.shape.VersionShape.{VersionShape}
use Rattle.pool_rules.specs.Model.{Places, UploadFootprint}
use Rattle.pool_memory.specs.MemoryConstants.{copy_stride}
use Rattle.pool_memory.specs.Lent.{Lent, version_places}
use Rattle.pool_memory.specs.Reading.{model_of}
use Rattle.pool_memory.specs.IsPool.{sizes_fit}
use Rattle.pool_books.specs.Lists.{State as Books, Call, plan_call, between, doomed_call, drain_call, Renames, start}
use Rattle.pool_books.specs.Demand3.{Agrees, Reply, refusal, done, ThroughoutOf}
use Rattle.pool_books.specs.LentLists.{LentCall, room_of, lent_call, opened_lent, Demand3Lent}
use Rattle.pool_books.proofs.LentLists.{demand3_lent}
use Rattle.event_lines.specs.declared.event.Event.{Event}
use Rattle.event_lines.specs.Grammar.{event_of}
use Rattle.event_answers.specs.Printed.{printed}
use Rattle.event_sessions.specs.Sessions.{SessionState, opens, opened_state, line_step}
use Rattle.event_sessions.specs.Parts.{session_opened}
use Rattle.event_runs.specs.Lines.{line_output, line_state, output}
use Rattle.event_runs.specs.Texts.{all_lines, text_output}
use Rattle.event_books.specs.EventLists.{Room, room_in, SameLengths, RoomByLengths, working_of, call_of, Opened, after_call, reply_to, MayCall, opening, opening_reply, after_line, next, reply, InRenames, replies, replies_text, Agree, AgreeThroughout, fresh, Demand3Text}
use Rattle.event_books.proofs.Agreeing.{throughout_none, throughout_more}
use Rattle.event_sessions.specs.Noted.{no_shape, fresh_session, taken_after, shape_after}

-- ---- the room of lent memory

same_places_by : (l m : Lent) → SameLengths l m → (model_of l).places ≡ (model_of m).places
unfolding model_of version_places
same_places_by l m h = rw (h.same_textures, h.same_retiring, h.same_stamps)

same_fits_by : (l m : Lent) → SameLengths l m → sizes_fit l ≡ sizes_fit m
unfolding sizes_fit model_of version_places
same_fits_by l m h = rw (h.same_textures, h.same_retiring, h.same_doomed, h.same_spares, h.same_newest, h.same_stamps)

pub room_by_lengths : RoomByLengths
unfolding RoomByLengths
room_by_lengths copies views l m h =
    λ i. record { copies = copies / copy_stride; views = views; fits = same_fits_by l m h i; places = same_places_by l m h i }

-- ---- a line once the pool is opened, on lent memory

-- its call, with buffers that hold 0, as in `line_step`
abbrev lent_of : ℕ → ℕ → Bool → VersionShape → Event → Option LentCall
lent_of cs vs taken shape e = call_of (replicate cs 0) (replicate vs 0) taken shape e

-- the call's reply, the memory after it, and the books' call that it stands for
abbrev replied_by : Lent → Option LentCall → Option Reply
replied_by l none = none
replied_by l (some c) = some (lent_call l c).0

abbrev lent_after : Lent → Option LentCall → Lent
lent_after l none = l
lent_after l (some c) = (lent_call l c).1

abbrev stands_for : Option LentCall → Option Call
stands_for none = none
stands_for (some c) = some (room_of c)

module _ (cs vs : ℕ) where
  step_reply : (taken : Bool) (shape : VersionShape) (l : Lent) (e : Event)
      → (line_step cs vs (session_opened taken shape l) e).0 ≡ replied_by l (lent_of cs vs taken shape e)
  unfolding line_step call_of
  step_reply taken shape l (Event.Open working) = refl
  step_reply taken shape l (Event.Take id new records seq) = refl
  step_reply true shape l (Event.Plan id held slice level cover) = refl
  step_reply false shape l (Event.Plan id held slice level cover) = refl
  step_reply taken shape l (Event.Retire id view seq) = refl
  step_reply taken shape l (Event.Write id slice level rect) = refl
  step_reply taken shape l (Event.Regen id) = refl
  step_reply taken shape l (Event.Pop settled) = refl
  step_reply taken shape l (Event.Park failed now) = refl
  step_reply taken shape l (Event.Note allocated) = refl
  step_reply taken shape l Event.Doomed = refl
  step_reply taken shape l Event.Drain = refl
  step_reply taken shape l (Event.Trim now) = refl
  step_reply taken shape l (Event.Forget id) = refl
  step_reply taken shape l Event.Unread = refl

  step_state : (taken : Bool) (shape : VersionShape) (l : Lent) (e : Event)
      → (line_step cs vs (session_opened taken shape l) e).1 ≡ session_opened (taken_after true taken e) (shape_after shape e) (lent_after l (lent_of cs vs taken shape e))
  unfolding line_step call_of
  step_state taken shape l (Event.Open working) = refl
  step_state taken shape l (Event.Take id new records seq) = refl
  step_state true shape l (Event.Plan id held slice level cover) = refl
  step_state false shape l (Event.Plan id held slice level cover) = refl
  step_state taken shape l (Event.Retire id view seq) = refl
  step_state taken shape l (Event.Write id slice level rect) = refl
  step_state taken shape l (Event.Regen id) = refl
  step_state taken shape l (Event.Pop settled) = refl
  step_state taken shape l (Event.Park failed now) = refl
  step_state taken shape l (Event.Note allocated) = refl
  step_state taken shape l Event.Doomed = refl
  step_state taken shape l Event.Drain = refl
  step_state taken shape l (Event.Trim now) = refl
  step_state taken shape l (Event.Forget id) = refl
  step_state taken shape l Event.Unread = refl

  -- the books' call of the line
  stands_for_lem : (taken : Bool) (shape : VersionShape) (e : Event) → stands_for (lent_of cs vs taken shape e) ≡ call_of (cs / copy_stride) vs taken shape e
  unfolding call_of
  stands_for_lem taken shape (Event.Open working) = refl
  stands_for_lem taken shape (Event.Take id new records seq) = refl
  stands_for_lem true shape (Event.Plan id held slice level cover) =
      let upload : UploadFootprint = record { slice = slice; level = level; cover = cover } in
      ap (λ (n : ℕ). some (plan_call id shape held upload (n / copy_stride))) (length-replicate cs 0)
  stands_for_lem false shape (Event.Plan id held slice level cover) = refl
  stands_for_lem taken shape (Event.Retire id view seq) = refl
  stands_for_lem taken shape (Event.Write id slice level rect) = refl
  stands_for_lem taken shape (Event.Regen id) = refl
  stands_for_lem taken shape (Event.Pop settled) = refl
  stands_for_lem taken shape (Event.Park failed now) = refl
  stands_for_lem taken shape (Event.Note allocated) = refl
  stands_for_lem taken shape Event.Doomed = ap (λ (n : ℕ). some (between (doomed_call n))) (length-replicate vs 0)
  stands_for_lem taken shape Event.Drain = ap (λ (n : ℕ). some (between (drain_call n))) (length-replicate vs 0)
  stands_for_lem taken shape (Event.Trim now) = refl
  stands_for_lem taken shape (Event.Forget id) = refl
  stands_for_lem taken shape Event.Unread = refl

  module _ (fits : Bool) (places : Places) where
    abbrev room : Room
    room = record { copies = cs / copy_stride; views = vs; fits = fits; places = places }

    -- ---- the calls of lines

    abbrev lent : Opened → Event → Option LentCall
    lent o e = lent_of cs vs o.taken o.shape e

    unfoldable add_call : Option LentCall → List LentCall → List LentCall
    add_call none calls = calls
    add_call (some c) calls = c ∷ calls

    unfoldable calls_of : Opened → List Event → List LentCall
    calls_of o [] = []
    calls_of o (e ∷ es) = add_call (lent o e) (calls_of (after_line room o e) es)

    -- they keep to renames
    add_renames : (b : Books) (m : Option LentCall) (calls : List LentCall) → MayCall b (stands_for m) → Renames (after_call b (stands_for m)) (map room_of calls)
        → Renames b (map room_of (add_call m calls))
    unfolding add_call Renames
    add_renames b none calls h r = r
    add_renames b (some c) calls h r = (h, r)

    calls_rename : (o : Opened) (es : List Event) → InRenames room (some o) es → Renames o.books (map room_of (calls_of o es))
    unfolding InRenames calls_of Renames
    calls_rename o [] h = h
    calls_rename o (e ∷ es) h =
        let s = stands_for_lem o.taken o.shape e in
        add_renames o.books (lent o e) (calls_of (after_line room o e) es) (rw s h.0) (rw s (calls_rename (after_line room o e) es h.1))

    -- ---- both books along the lines

    abbrev Along : Books → Lent → List LentCall → Type 0
    Along b l calls = ThroughoutOf room_of lent_call b l calls

    -- what is known at a point of the list, of its next line's reply and of the points after it
    record Here (b : Books) (l : Lent) (m : Option LentCall) (calls : List LentCall) : Type 0 where
      agrees : (id : ℕ) → Agrees (b.books id)
      same : replied_by l m ≡ reply_to b (stands_for m)
      on : Along (after_call b (stands_for m)) (lent_after l m) calls

    now_agrees : (b : Books) (l : Lent) (calls : List LentCall) → Along b l calls → (id : ℕ) → Agrees (b.books id)
    now_agrees b l [] t = t
    now_agrees b l (c ∷ calls) t = t.0

    here : (b : Books) (l : Lent) (m : Option LentCall) (calls : List LentCall) → Along b l (add_call m calls) → Here b l m calls
    unfolding add_call
    here b l none calls t = record { agrees = now_agrees b l calls t; same = refl; on = t }
    here b l (some c) calls t = record { agrees = t.0; same = ap some t.1; on = t.2 }

    -- the claim of lines, from any point
    record Told (o : Option Opened) (s : SessionState) (lines : List (List ℕ)) : Type 0 where
      agree : AgreeThroughout room o (map event_of lines)
      prints : (n : ℕ) → output cs vs n s lines ≡ replies_text n (replies room o (map event_of lines))

    told_none : (o : Option Opened) (s : SessionState) → Agree o → Told o s []
    unfolding replies replies_text output
    told_none o s a = record { agree = throughout_none room o a; prints = λ n. refl }

    -- one line more
    told_more : (o : Option Opened) (s : SessionState) (line : List ℕ) (lines : List (List ℕ)) → Agree o
        → (line_step cs vs s (event_of line)).0 ≡ reply room o (event_of line) → (t : SessionState) → (line_step cs vs s (event_of line)).1 ≡ t
        → Told (next room o (event_of line)) t lines → Told o s (line ∷ lines)
    unfolding replies replies_text output line_output line_state
    told_more o s line lines a r t e told = record {
      agree = throughout_more room o (event_of line) (map event_of lines) a told.agree;
      prints = λ n.
          ap₂ (λ (x : Option Reply) (y : SessionState). printed (n + 1) x ++ output cs vs (n + 1) y lines) r e
          ∙ ap (λ (l : List ℕ). printed (n + 1) (reply room o (event_of line)) ++ l) (told.prints (n + 1));
    }

    opened_told : (o : Opened) (l : Lent) (lines : List (List ℕ)) → Along o.books l (calls_of o (map event_of lines)) → Told (some o) (session_opened o.taken o.shape l) lines
    unfolding calls_of
    opened_told o l [] t = told_none (some o) (session_opened o.taken o.shape l) t
    opened_told o l (line ∷ lines) t =
        let e = event_of line in
        let s = stands_for_lem o.taken o.shape e in
        let h = here o.books l (lent o e) (calls_of (after_line room o e) (map event_of lines)) t in
        told_more (some o) (session_opened o.taken o.shape l) line lines h.agrees
        (step_reply o.taken o.shape l e ∙ h.same ∙ ap (reply_to o.books) s)
        (session_opened (taken_after true o.taken e) (shape_after o.shape e) (lent_after l (lent o e))) (step_state o.taken o.shape l e)
        (opened_told (after_line room o e) (lent_after l (lent o e)) lines (rw s at h.on))

-- ---- from the first line on

module _ (cs vs : ℕ) (textures retiring doomed spares newest stamps : List ℕ) where
  abbrev begun : SessionState
  begun = fresh textures retiring doomed spares newest stamps

  abbrev fits : Bool
  fits = sizes_fit begun.lent

  abbrev places : Places
  places = (model_of begun.lent).places

  abbrev lent_room : Room
  lent_room = room cs vs fits places

  -- `open`, of whatever budget, leaves the lengths of the stores
  same_room : (working : ℕ) → room_in cs vs (opened_lent working textures retiring doomed spares newest stamps) ≡ lent_room
  unfolding RoomByLengths
  same_room working =
      room_by_lengths cs vs (opened_lent working textures retiring doomed spares newest stamps) begun.lent
      (record { same_textures = refl; same_retiring = refl; same_doomed = refl; same_spares = refl; same_newest = refl; same_stamps = refl })

  same_places : (working : ℕ) → (model_of (opened_lent working textures retiring doomed spares newest stamps)).places ≡ places
  same_places working = ap (λ (r : Room). r.places) (same_room working)

  same_fits : (working : ℕ) → sizes_fit (opened_lent working textures retiring doomed spares newest stamps) ≡ fits
  same_fits working = ap (λ (r : Room). r.fits) (same_room working)

  abbrev at_opening : ℕ → Opened
  at_opening working = record { books = start places working; taken = false; shape = no_shape }

  -- after an accepted `open`, demand 3 of the lines' calls
  after_open : (working : ℕ) → fits ≡ true → (lines : List (List ℕ)) → InRenames lent_room (some (at_opening working)) (map event_of lines)
      → Told cs vs fits places (some (at_opening working)) (session_opened false no_shape (opened_lent working textures retiring doomed spares newest stamps)) lines
  unfolding Demand3Lent
  after_open working q lines h =
      let l = opened_lent working textures retiring doomed spares newest stamps in
      let calls = calls_of cs vs fits places (at_opening working) (map event_of lines) in
      let r = calls_rename cs vs fits places (at_opening working) (map event_of lines) h in
      let t = rw (same_places working) at (demand3_lent working textures retiring doomed spares newest stamps (same_fits working ∙ q) calls (rw (same_places working) r)) in
      opened_told cs vs fits places (at_opening working) l lines t

  closed_reply : (e : Event) → (line_step cs vs begun e).0 ≡ opening_reply lent_room (working_of e)
  unfolding line_step opens opening_reply working_of fresh_session
  closed_reply (Event.Open working) = go fits
    where
      go : (b : Bool) → (cond {A = Option Reply × SessionState} b (some done, opened_state begun working) (some (refusal 1), begun)).0 ≡ some (cond b done (refusal 1))
      go true = refl
      go false = refl
  closed_reply (Event.Take id new records seq) = refl
  closed_reply (Event.Plan id held slice level cover) = refl
  closed_reply (Event.Retire id view seq) = refl
  closed_reply (Event.Write id slice level rect) = refl
  closed_reply (Event.Regen id) = refl
  closed_reply (Event.Pop settled) = refl
  closed_reply (Event.Park failed now) = refl
  closed_reply (Event.Note allocated) = refl
  closed_reply Event.Doomed = refl
  closed_reply Event.Drain = refl
  closed_reply (Event.Trim now) = refl
  closed_reply (Event.Forget id) = refl
  closed_reply Event.Unread = refl

  module _ (lines : List (List ℕ)) (same : InRenames lent_room none (map event_of lines) → Told cs vs fits places none begun lines) where
    -- an `open` line opens the pool or is refused, and any other line leaves everything as it was
    abbrev Next : Event → Type 0
    Next e = InRenames lent_room (opening lent_room (working_of e)) (map event_of lines) → Told cs vs fits places (opening lent_room (working_of e)) (line_step cs vs begun e).1 lines

    closed_next : (e : Event) → Next e
    unfolding line_step opens opening working_of fresh_session
    closed_next (Event.Open working) = go fits refl
      where
        go : (b : Bool) → fits ≡ b → InRenames lent_room (cond b (some (at_opening working)) none) (map event_of lines)
            → Told cs vs fits places (cond b (some (at_opening working)) none) (cond {A = Option Reply × SessionState} b (some done, opened_state begun working) (some (refusal 1), begun)).1 lines
        go true q h = after_open working q lines h
        go false q h = same h
    closed_next (Event.Take id new records seq) = same
    closed_next (Event.Plan id held slice level cover) = same
    closed_next (Event.Retire id view seq) = same
    closed_next (Event.Write id slice level rect) = same
    closed_next (Event.Regen id) = same
    closed_next (Event.Pop settled) = same
    closed_next (Event.Park failed now) = same
    closed_next (Event.Note allocated) = same
    closed_next Event.Doomed = same
    closed_next Event.Drain = same
    closed_next (Event.Trim now) = same
    closed_next (Event.Forget id) = same
    closed_next Event.Unread = same

  closed_told : (lines : List (List ℕ)) → InRenames lent_room none (map event_of lines) → Told cs vs fits places none begun lines
  unfolding InRenames
  closed_told [] h = told_none cs vs fits places none begun tt
  closed_told (line ∷ lines) h =
      told_more cs vs fits places none begun line lines tt (closed_reply (event_of line)) (line_step cs vs begun (event_of line)).1 refl
      (closed_next lines (closed_told lines) (event_of line) h.1)

pub demand3_text : Demand3Text
unfolding Demand3Text text_output
demand3_text copies views textures retiring doomed spares newest stamps input h =
    let t = closed_told copies views textures retiring doomed spares newest stamps (all_lines input) h in
    record { agree = t.agree; prints = t.prints 0 }
