-- Rule: The version book (01, "Two books"): "gives the live version and each retired one such numbers. It is fed the calls, their outcomes and
-- what take_spare and preserve_plan answer."
--
-- "A version is known by its retirement, not its view number; source and rules say which one a call moves": so the version book is a copy
-- of the pool whose views carry a retired version's numbers. The pool only carries views, so it moves them as it moves versions.
use Rattle.std.specs.Prelude.{ℕ, Bool, true, false, cond, not, ◌&&◌, ◌||◌, List, [], ◌∷◌, leb, eqb}
use Rattle.std.proofs.Math.Option.{Option, none, some}
use Rattle.grid_shapes.specs.declared.shape.VersionShape.{VersionShape}
use Rattle.grid_shapes.specs.Shapes.{same_shape}
use Rattle.grid_rects.specs.declared.rect.TexelRect.{TexelRect}
use Rattle.grid_rects.specs.declared.rect.Region.{Region}
use Rattle.grid_rects.specs.declared.rect.Region.TheVariants.{Whole, Part}
use Rattle.pool_rules.specs.declared.held.Held.{Held}
use Rattle.pool_rules.specs.declared.held.Held.TheVariants.{Unknown}
use Rattle.pool_rules.specs.Model.{Spare, Retiring, PreserveCopy, UploadFootprint}
use Rattle.pool_rules.specs.Histories.{in_shape}
use Rattle.pool_books.specs.Texels.{Texel, is_of, in_rect, in_write, in_regeneration, is_whole}
use Rattle.pool_books.specs.PlainBook.{Plain, plain_new, plain_write, plain_regeneration}

-- what a version holds at each texel: a number, or none where that is unknown
abbrev pub Numbers : Type 0
Numbers = Texel → Option ℕ

-- what a retired version carries in place of its view: the view number that stands for it in the pool, its numbers, and "the submission of
-- its texture's retirement before its own (0 if none)"
pub record Retired : Type 0 where
  pub view : ℕ
  pub numbers : Numbers
  pub before : ℕ

-- both books of an id: `plain` is the plain book's, `live` the live version's, `left` says which slices and levels are left out, `before` is
-- the submission of the id's latest retirement (0 if none)
pub record Book : Type 0 where
  pub shape : VersionShape
  pub plain : Plain
  pub live : Numbers
  pub left : ℕ → ℕ → Bool
  pub before : ℕ

-- "An id with no book yet has no texels"
abbrev pub Books : Type 0
Books = ℕ → Option Book

unfoldable pub put : ℕ → Book → Books → Books
put id b books i = cond (eqb i id) (some b) (books i)

unfoldable pub change_book : (Book → Book) → ℕ → Books → Books
change_book f id books = go (books id)
  where
    go : Option Book → Books
    go none = books
    go (some b) = put id (f b) books

-- ---- starting, writing, regenerating

-- "The live version starts, and starts anew, all 0 in the new shape, together with the plain book"
abbrev pub new_book : VersionShape → ℕ → Book
new_book s before = record { shape = s; plain = plain_new; live = λ t. some 0; left = λ slice level. false; before = before }

-- "An accepted take_spare with no book or another shape starts it anew"
unfoldable pub start_book : ℕ → VersionShape → Option Book → Books → Books
start_book id s none books = put id (new_book s 0) books
start_book id s (some b) books = cond (same_shape b.shape s) books (put id (new_book s b.before) books)

-- "a write of that whole level": it ends that the level is left out
abbrev pub writes_whole : VersionShape → ℕ → ℕ → TexelRect → ℕ → ℕ → Bool
writes_whole s slice level r a b = in_shape s slice level && (is_whole s level r && (eqb a slice && eqb b level))

-- "a write or a regeneration marks it as above": the live version as the plain book
unfoldable pub book_write : ℕ → ℕ → ℕ → TexelRect → Book → Book
book_write next slice level r b = record {
  shape = b.shape;
  plain = plain_write b.shape next slice level r b.plain;
  live = λ t. cond (in_write b.shape slice level r t) (some next) (b.live t);
  left = λ s l. not (writes_whole b.shape slice level r s l) && b.left s l;
  before = b.before;
}

unfoldable pub book_regeneration : ℕ → Book → Book
book_regeneration next b = record {
  shape = b.shape;
  plain = plain_regeneration next b.plain;
  live = λ t. cond (in_regeneration t) (some next) (b.live t);
  left = b.left;
  before = b.before;
}

-- ---- renaming

-- "The new version starts as the spare's numbers, or all unknown if fresh"
abbrev pub held_by_spare : Option (Spare Retired) → Held
held_by_spare none = Unknown
held_by_spare (some s) = s.held

abbrev pub numbers_of : Option (Spare Retired) → Numbers
numbers_of none = λ t. none
numbers_of (some s) = s.view.numbers

abbrev pub live_of : Option Book → Numbers
live_of none = λ t. none
live_of (some b) = b.live

abbrev pub before_of : Option Book → ℕ
before_of none = 0
before_of (some b) = b.before

abbrev pub in_region : Region → ℕ → ℕ → Texel → Bool
in_region Whole slice level t = is_of slice level t
in_region (Part r) slice level t = in_rect slice level r t

unfoldable pub in_copy : PreserveCopy → Texel → Bool
in_copy c t = in_region c.region c.slice c.level t

-- "the plan's copies bring the live numbers in"
unfoldable pub copied : List PreserveCopy → Numbers → Numbers → Numbers
copied [] live new t = new t
copied (c ∷ cs) live new t = cond (in_copy c t) (live t) (copied cs live new t)

-- no copy of the subresource is among these
unfoldable pub not_copied : List PreserveCopy → ℕ → ℕ → Bool
not_copied [] slice level = true
not_copied (c ∷ cs) slice level = not (eqb c.slice slice && eqb c.level level) && not_copied cs slice level

-- "the plan skipped a subresource of the shape as covered (named with full cover, no copy)": read off the plan's answer
unfoldable pub skipped : UploadFootprint → List PreserveCopy → ℕ → ℕ → Bool
skipped u cs slice level = (u.cover && (eqb u.slice slice && eqb u.level level)) && not_copied cs slice level

-- "it becomes live when retire is accepted"; "a covered level is left out from its rename's accepted retire"
abbrev pub renamed : ℕ → (ℕ → ℕ → Bool) → Numbers → Book → Book
renamed seq skip new b = record {
  shape = b.shape;
  plain = b.plain;
  live = new;
  left = λ slice level. skip slice level || b.left slice level;
  before = seq;
}

-- what the version that is replaced carries from its retirement on
abbrev pub carried_by : Books → ℕ → ℕ → Retired
carried_by books id view = record { view = view; numbers = live_of (books id); before = before_of (books id) }

-- ---- parking: a retired version waits in the queue, is popped into the hand (where one version at most stands) and is parked from there

-- "A parked version becomes all unknown if `failed` is not 0 and at least the submission of its texture's retirement before its own"
abbrev pub lost : ℕ → Retired → Retired
lost failed r = cond (not (eqb failed 0) && leb r.before failed) (record { view = r.view; numbers = λ t. none; before = r.before }) r

abbrev pub lost_version : ℕ → Retiring Retired → Retiring Retired
lost_version failed v = record {
  id = v.id;
  view = lost failed v.view;
  seq = v.seq;
  epoch = v.epoch;
  birth = v.birth;
  held = v.held;
  bytes = v.bytes;
}

abbrev pub lost_hand : ℕ → Option (Retiring Retired) → Option (Retiring Retired)
lost_hand failed none = none
lost_hand failed (some v) = some (lost_version failed v)
