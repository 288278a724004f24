-- Rule: That demand 3 is not vacuous: of a texel and of a list it asks what 01 asks and no more, it leaves out what 01 leaves out and no more, and the
-- count and the books go on along a list. These hold of every shape, list and call; specs/ComputedBooks.antt has numbers.
use Rattle.std.specs.Prelude.{ℕ, suc, ◌<◌, ◌≡◌, Bool, true, false, ◌&&◌, List, [], ◌∷◌, eqb}
use Rattle.std.proofs.Math.Option.{some}
use Rattle.grid_shapes.specs.declared.shape.VersionShape.{VersionShape}
use Rattle.grid_shapes.specs.Shapes.{same_shape, slices_of, level_width, level_height, level_depth}
use Rattle.pool_rules.specs.declared.held.Held.{Held}
use Rattle.pool_rules.specs.Model.{Places, Out, refused, accepted, UploadFootprint}
use Rattle.pool_rules.specs.NoteWrite.{note_write, note_mip_regeneration}
use Rattle.pool_books.specs.Texels.{Texel, Inside}
use Rattle.pool_books.specs.VersionBook.{Numbers, Retired, Book, Books, start_book}
use Rattle.pool_books.specs.Lists.{Between, write_call, regen_call, pop_call, park_call, note_call, doomed_call, drain_call, trim_call, forget_call}
use Rattle.pool_books.specs.Lists.{Call, take_call, plan_call, retire_call, between, idle, taken, planned, Allowed, State, step, run, Renames, start}

-- ---- what is asked

pub record AsksNoMore : Type 0 where
  -- every texel of a shape is spoken of
  pub texels : (s : VersionShape) (t : Texel) → t.slice < slices_of s → t.level < s.levels → t.x < level_width s t.level
      → t.y < level_height s t.level → t.z < level_depth s t.level → Inside s t
  -- between renames a take may stand, and each call that is not one of a rename's three, "with any arguments and answer buffers"
  pub takes : (id : ℕ) (shape : VersionShape) (records : Bool) (seq : ℕ) → Allowed idle (take_call id shape records seq)
  pub betweens : (c : Between) → Allowed idle (between c)
  -- a rename goes on with a plan of the take's id, shape and held writes, and with a retire of that id
  pub plans : (id : ℕ) (shape : VersionShape) (held : Held) (new : Numbers) (u : UploadFootprint) (buffer : ℕ)
      → Allowed (taken id shape held new) (plan_call id shape held u buffer)
  pub retires : (id : ℕ) (skip : ℕ → ℕ → Bool) (new : Numbers) (view seq : ℕ) → Allowed (planned id skip new) (retire_call id view seq)
  -- of a list nothing else is asked, and it may end anywhere
  pub ends : (s : State) → Renames s []
  pub goes_on : (s : State) (c : Call) (cs : List Call) → Allowed s.phase c → Renames (step s c) cs → Renames s (c ∷ cs)

-- ---- what is left out

-- the call is not a plan that names the level "with full cover"
abbrev pub CoversNot : ℕ → ℕ → Call → Type 0
CoversNot slice level (take_call id shape records seq) = Unit {0}
CoversNot slice level (plan_call id shape held u buffer) = u.cover && (eqb u.slice slice && eqb u.level level) ≡ false
CoversNot slice level (retire_call id view seq) = Unit {0}
CoversNot slice level (between c) = Unit {0}

abbrev pub NeverCovers : ℕ → ℕ → List Call → Type 0
NeverCovers slice level [] = Unit {0}
NeverCovers slice level (c ∷ cs) = CoversNot slice level c × NeverCovers slice level cs

-- a level is left out only where some plan of the list names it with full cover, whatever else the list has
abbrev pub LeftOutByCoverOnly : Type 0
LeftOutByCoverOnly = (slice level : ℕ) (places : Places) (working : ℕ) (cs : List Call) → NeverCovers slice level cs → (id : ℕ) (b : Book)
    → (run (start places working) cs).books id ≡ some b → b.left slice level ≡ false

-- ---- how numbers go on

abbrev pub next_if_accepted : ℕ → Out Retired (Unit {0}) → ℕ
next_if_accepted count (refused n) = count
next_if_accepted count (accepted a p) = suc count

-- "A reported write .., or a regeneration, puts the next number", "accepted calls alone count": no other call alters the count
abbrev pub count_after : State → Call → ℕ
count_after s (take_call id shape records seq) = s.count
count_after s (plan_call id shape held u buffer) = s.count
count_after s (retire_call id view seq) = s.count
count_after s (between (write_call id slice level r)) = next_if_accepted s.count (note_write s.pool id slice level r)
count_after s (between (regen_call id)) = next_if_accepted s.count (note_mip_regeneration s.pool id)
count_after s (between (pop_call settled)) = s.count
count_after s (between (park_call failed now)) = s.count
count_after s (between (note_call allocated)) = s.count
count_after s (between (doomed_call buffer)) = s.count
count_after s (between (drain_call buffer)) = s.count
count_after s (between (trim_call now)) = s.count
count_after s (between (forget_call id)) = s.count

pub record NumbersGoOn : Type 0 where
  pub count : (s : State) (c : Call) → (step s c).count ≡ count_after s c
  -- a take with a book of the same shape leaves both books as they are
  pub books : (id : ℕ) (shape : VersionShape) (b : Book) (books : Books) → same_shape b.shape shape ≡ true → start_book id shape (some b) books ≡ books

-- ---- the claim written out

-- what demand 3 says of the books after a list, without `Throughout`, `Here`, `Agrees` and `Inside`; a list's front part is a list too
abbrev pub Demand3WrittenOut : Type 0
Demand3WrittenOut = (places : Places) (working : ℕ) (cs : List Call) → Renames (start places working) cs → (id : ℕ) (b : Book)
    → (run (start places working) cs).books id ≡ some b → (t : Texel) → t.slice < slices_of b.shape → t.level < b.shape.levels
    → t.x < level_width b.shape t.level → t.y < level_height b.shape t.level → t.z < level_depth b.shape t.level
    → b.left t.slice t.level ≡ false → b.live t ≡ some (b.plain t)
