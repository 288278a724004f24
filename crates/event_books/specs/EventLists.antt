-- Rule: Demand 3 of a text (01, "Two books", "Upload rectangle, event program"): the calls that its lines make, both books along them, and the claim.
--
-- On the claim's left stands the program: `text_output` is what its lines print, run one after the other on the lent memory. On its right stand the two
-- books. They are fed the lines' events and know of the lent memory its `Room` alone, which the lengths of the stores decide (`RoomByLengths`). So what
-- is printed depends on the lines and on these lengths, and on nothing that the memory holds.
--
-- The claim rests on `Demand3Lent` of crates/pool_books, which says the same of lists of calls on lent memory: a line of an opened session makes one call
-- or none, so the lines of a text make such a list.
use Rattle.std.specs.Prelude.{ℕ, ◌+◌, ◌/◌, ◌≡◌, Bool, true, false, cond, List, [], ◌∷◌, ◌++◌, map, length, take}
use Rattle.std.proofs.Math.Option.{Option, none, some}
use Rattle.grid_shapes.specs.declared.shape.VersionShape.{VersionShape}
use Rattle.pool_rules.specs.Model.{Places}
use Rattle.pool_memory.specs.MemoryConstants.{copy_stride}
use Rattle.pool_memory.specs.Lent.{Lent}
use Rattle.pool_memory.specs.Reading.{model_of}
use Rattle.pool_memory.specs.IsPool.{sizes_fit}
use Rattle.pool_books.specs.Texels.{Texel, Inside}
use Rattle.pool_books.specs.VersionBook.{Book, live_of}
use Rattle.pool_books.specs.Lists.{CallOf, take_call, plan_call, retire_call, between, write_call, regen_call, pop_call, park_call, note_call}
use Rattle.pool_books.specs.Lists.{doomed_call, drain_call, trim_call, forget_call, Call, Allowed, State as Books, step as book_step, start}
use Rattle.pool_books.specs.Demand3.{Agrees, Reply, refusal, done, replied}
use Rattle.event_lines.specs.declared.event.Event.{Event}
use Rattle.event_lines.specs.Grammar.{event_of}
use Rattle.event_answers.specs.Printed.{printed}
use Rattle.event_sessions.specs.Sessions.{SessionState, state_of}
use Rattle.event_runs.specs.Texts.{all_lines, text_output}
use Rattle.event_sessions.specs.Noted.{no_shape, fresh_session, taken_after, shape_after}

-- ---- what the books know of the lent memory

pub record Room : Type 0 where
  -- entries that the answer's buffers have room for: copies of a plan, view numbers of doomed and drain
  pub copies : ℕ
  pub views : ℕ
  -- the stores' lengths are those of a pool; otherwise `open` is refused with 1
  pub fits : Bool
  -- the pool's places
  pub places : Places

-- the buffers have `copies` and `views` numbers, seven for a copy
abbrev pub room_in : ℕ → ℕ → Lent → Room
room_in copies views l = record { copies = copies / copy_stride; views = views; fits = sizes_fit l; places = (model_of l).places }

-- the six stores have the same lengths
pub record SameLengths (l m : Lent) : Type 0 where
  pub same_textures : length l.textures ≡ length m.textures
  pub same_retiring : length l.retiring ≡ length m.retiring
  pub same_doomed : length l.doomed ≡ length m.doomed
  pub same_spares : length l.spares ≡ length m.spares
  pub same_newest : length l.newest ≡ length m.newest
  pub same_stamps : length l.stamps ≡ length m.stamps

-- memory of the same lengths has the same room, whatever it holds
unfoldable pub RoomByLengths : Type 0
RoomByLengths = (copies views : ℕ) (l m : Lent) → SameLengths l m → room_in copies views l ≡ room_in copies views m

-- ---- the call that a line makes

-- the working set of an `open` line
unfoldable pub working_of : Event → Option ℕ
working_of (Event.Open working) = some working
working_of (Event.Take id shape records seq) = none
working_of (Event.Plan id held slice level cover) = none
working_of (Event.Retire id view seq) = none
working_of (Event.Write id slice level rect) = none
working_of (Event.Regen id) = none
working_of (Event.Pop settled) = none
working_of (Event.Park failed now) = none
working_of (Event.Note allocated) = none
working_of Event.Doomed = none
working_of Event.Drain = none
working_of (Event.Trim now) = none
working_of (Event.Forget id) = none
working_of Event.Unread = none

-- The call of a line after `open`. "Any other line, .. a second `open` or a plan before any take line .. calls nothing"; "a plan uses the latest take
-- line's" shape. `taken` says that a take line came, `copies` and `views` what is said of the answer's buffers, as in `CallOf`.
unfoldable pub call_of : {B : Type 0} → B → B → Bool → VersionShape → Event → Option (CallOf B)
call_of copies views taken shape (Event.Open working) = none
call_of copies views taken shape (Event.Take id new records seq) = some (take_call id new records seq)
call_of copies views taken shape (Event.Plan id held slice level cover) =
    cond taken (some (plan_call id shape held (record { slice = slice; level = level; cover = cover }) copies)) none
call_of copies views taken shape (Event.Retire id view seq) = some (retire_call id view seq)
call_of copies views taken shape (Event.Write id slice level rect) = some (between (write_call id slice level rect))
call_of copies views taken shape (Event.Regen id) = some (between (regen_call id))
call_of copies views taken shape (Event.Pop settled) = some (between (pop_call settled))
call_of copies views taken shape (Event.Park failed now) = some (between (park_call failed now))
call_of copies views taken shape (Event.Note allocated) = some (between (note_call allocated))
call_of copies views taken shape Event.Doomed = some (between (doomed_call views))
call_of copies views taken shape Event.Drain = some (between (drain_call views))
call_of copies views taken shape (Event.Trim now) = some (between (trim_call now))
call_of copies views taken shape (Event.Forget id) = some (between (forget_call id))
call_of copies views taken shape Event.Unread = none

-- ---- both books along lines

-- after an accepted `open`: the books, whether a take line came, and the latest one's shape. Before it there is none of this.
pub record Opened : Type 0 where
  pub books : Books
  pub taken : Bool
  pub shape : VersionShape

-- the books after a line's call, the version book's reply to it, and whether it may stand there: "the first three stand only in renames"
abbrev pub after_call : Books → Option Call → Books
after_call b none = b
after_call b (some c) = book_step b c

abbrev pub reply_to : Books → Option Call → Option Reply
reply_to b none = none
reply_to b (some c) = some (replied b c)

abbrev pub MayCall : Books → Option Call → Type 0
MayCall b none = Unit {0}
MayCall b (some c) = Allowed b.phase c

module _ (room : Room) where
  -- a line before an accepted `open`: only an `open` line does something
  unfoldable pub opening : Option ℕ → Option Opened
  opening none = none
  opening (some working) = cond room.fits (some (record { books = start room.places working; taken = false; shape = no_shape })) none

  unfoldable pub opening_reply : Option ℕ → Option Reply
  opening_reply none = none
  opening_reply (some working) = some (cond room.fits done (refusal 1))

  -- a line after it
  abbrev pub call_of_line : Opened → Event → Option Call
  call_of_line o e = call_of room.copies room.views o.taken o.shape e

  abbrev pub after_line : Opened → Event → Opened
  after_line o e = record { books = after_call o.books (call_of_line o e); taken = taken_after true o.taken e; shape = shape_after o.shape e }

  -- any line: what it leaves, the reply that is printed ("?" where there is none), and whether it may stand there
  abbrev pub next : Option Opened → Event → Option Opened
  next none e = opening (working_of e)
  next (some o) e = some (after_line o e)

  abbrev pub reply : Option Opened → Event → Option Reply
  reply none e = opening_reply (working_of e)
  reply (some o) e = reply_to o.books (call_of_line o e)

  abbrev pub MayStand : Option Opened → Event → Type 0
  MayStand none e = Unit {0}
  MayStand (some o) e = MayCall o.books (call_of_line o e)

  -- lines, one after the other
  unfoldable pub after_events : Option Opened → List Event → Option Opened
  after_events o [] = o
  after_events o (e ∷ es) = after_events (next o e) es

  unfoldable pub replies : Option Opened → List Event → List (Option Reply)
  replies o [] = []
  replies o (e ∷ es) = reply o e ∷ replies (next o e) es

  -- the lines stand in renames
  unfoldable pub InRenames : Option Opened → List Event → Type 0
  InRenames o [] = Unit {0}
  InRenames o (e ∷ es) = MayStand o e × InRenames (next o e) es

-- the text of replies, the first of which is that to line n + 1
unfoldable pub replies_text : ℕ → List (Option Reply) → List ℕ
replies_text n [] = []
replies_text n (r ∷ rs) = printed (n + 1) r ++ replies_text (n + 1) rs

-- ---- the books agree

-- "the live numbers of every id equal the plain book"
abbrev pub Agree : Option Opened → Type 0
Agree none = Unit {0}
Agree (some o) = (id : ℕ) → Agrees (o.books.books id)

-- after the first k lines, for every k
unfoldable pub AgreeThroughout : Room → Option Opened → List Event → Type 0
AgreeThroughout room o es = (k : ℕ) → Agree (after_events room o (take k es))

-- ---- the same of one texel, in full

-- the book of an id, and the number that its plain book has at a texel; there is none before the id's first accepted take
abbrev pub book_of : Option Opened → ℕ → Option Book
book_of none id = none
book_of (some o) id = o.books.books id

abbrev pub plain_of : Option Book → Texel → Option ℕ
plain_of none t = none
plain_of (some b) t = some (b.plain t)

-- a texel of the book's shape that is not left out
abbrev pub Compared : Option Book → Texel → Type 0
Compared none t = Unit {0}
Compared (some b) t = Inside b.shape t × (b.left t.slice t.level ≡ false)

-- where the books agree, the live version has at each such texel the plain book's number
unfoldable pub AgreeAtTexels : Type 0
AgreeAtTexels = (o : Option Opened) → Agree o → (id : ℕ) (t : Texel) → Compared (book_of o id) t → live_of (book_of o id) t ≡ plain_of (book_of o id) t

-- ---- the claim

-- the events of a text's lines, the last one with its line feed or without
abbrev pub events : List ℕ → List Event
events input = map event_of (all_lines input)

-- the program's state before the first line: its own six stores, nothing opened
abbrev pub fresh : List ℕ → List ℕ → List ℕ → List ℕ → List ℕ → List ℕ → SessionState
fresh textures retiring doomed spares newest stamps = state_of fresh_session textures retiring doomed spares newest stamps

-- with answer buffers of `copies` and `views` numbers
module _ (copies views : ℕ) (textures retiring doomed spares newest stamps : List ℕ) where
  abbrev pub fresh_room : Room
  fresh_room = room_in copies views (fresh textures retiring doomed spares newest stamps).lent

  pub record Claim (input : List ℕ) : Type 0 where
    pub agree : AgreeThroughout fresh_room none (events input)
    pub prints : text_output copies views (fresh textures retiring doomed spares newest stamps) input
        ≡ replies_text 0 (replies fresh_room none (events input))

-- For every text whose lines, as the program runs them from its own stores, stand in renames: the two books agree after each line, and what is printed
-- is the text of the version book's replies. The stores have any lengths and hold anything.
unfoldable pub Demand3Text : Type 0
Demand3Text = (copies views : ℕ) (textures retiring doomed spares newest stamps input : List ℕ)
    → InRenames (fresh_room copies views textures retiring doomed spares newest stamps) none (events input)
    → Claim copies views textures retiring doomed spares newest stamps input
