-- Rule: Both books with numbers, by hand from 01's text: texels at the corners of levels, lists of calls that keep to renames, and what the books of
-- texture 7 have at chosen texels after chosen calls. Where a definition of the claim comes to ask for more, to leave more out or to count otherwise,
-- one of these is false.
use Rattle.std.specs.Prelude.{ℕ, ◌≡◌, Bool, true, false, List, [], ◌∷◌, ◌++◌, take}
use Rattle.std.proofs.Math.Option.{Option, none, some}
use Rattle.grid_shapes.specs.declared.shape.VersionShape.{VersionShape}
use Rattle.grid_rects.specs.declared.rect.Region.TheVariants.{Whole}
use Rattle.pool_rules.specs.declared.held.Held.TheVariants.{Known, Unknown}
use Rattle.pool_rules.specs.Model.{Places, PreserveCopy, UploadFootprint}
use Rattle.pool_rules.specs.Open.{opened}
use Rattle.pool_books.specs.Texels.{Texel, Inside}
use Rattle.pool_books.specs.VersionBook.{Book}
use Rattle.pool_books.specs.Lists.{regen_call, note_call, doomed_call, drain_call, trim_call, forget_call, Call, retire_call, between, run, Renames, start}
use Rattle.pool_books.specs.Demand3.{Reply, done, spare_taken, copies_planned, version_popped, views_handed}
use Rattle.pool_books.specs.Sample.{flat_shape, sample_lent, no_cover, replies_of, sample, rename, write, settle}

-- ---- corners

abbrev pub texel : ℕ → ℕ → ℕ → ℕ → ℕ → Texel
texel slice level x y z = record { slice = slice; level = level; x = x; y = y; z = z }

-- a cube with levels of 8 by 8, 4 by 4 and 2 by 2
abbrev pub cube : VersionShape
cube = flat_shape 2 8 8 1 3 1

-- a volume with levels of 10 by 6 by 5, 5 by 3 by 2 and 2 by 1 by 1
abbrev pub volume : VersionShape
volume = flat_shape 2 10 6 5 3 2

-- the four corners of a slice and level, whose last column and row are these, in depth z
abbrev pub CornersInside : VersionShape → ℕ → ℕ → ℕ → ℕ → ℕ → Type 0
CornersInside s slice level column row z =
    Inside s (texel slice level 0 0 z)
    × Inside s (texel slice level column 0 z)
    × Inside s (texel slice level 0 row z)
    × Inside s (texel slice level column row z)

pub record Corners : Type 0 where
  pub cube_0_first : CornersInside cube 0 0 7 7 0
  pub cube_0_last : CornersInside cube 5 0 7 7 0
  pub cube_1_first : CornersInside cube 0 1 3 3 0
  pub cube_1_last : CornersInside cube 5 1 3 3 0
  pub cube_2_first : CornersInside cube 0 2 1 1 0
  pub cube_2_last : CornersInside cube 5 2 1 1 0
  pub volume_0_first : CornersInside volume 0 0 9 5 0
  pub volume_0_last : CornersInside volume 0 0 9 5 4
  pub volume_1_first : CornersInside volume 0 1 4 2 0
  pub volume_1_last : CornersInside volume 0 1 4 2 1
  pub volume_2 : CornersInside volume 0 2 1 0 0

-- ---- lists

-- places enough for the cube's eighteen grids
abbrev pub cube_lent : Places
cube_lent = record { textures = 2; versions = 8; pages = 18 }

abbrev pub regenerate : List Call
regenerate = between (regen_call 7) ∷ []

-- 01's sample, the retire that ends its second rename, and one more write
abbrev pub sample_on : List Call
sample_on = sample ++ (retire_call 7 901 11 ∷ []) ++ write 0 0 40 40 1 1

-- writes in slices and levels above 0, a regeneration among them, and a second rename
abbrev pub cube_list : List Call
cube_list =
    rename cube Unknown no_cover 900 10
    ++ write 5 2 1 1 1 1
    ++ regenerate
    ++ write 5 0 7 7 1 1
    ++ write 4 1 3 3 1 1
    ++ settle 10 0 11
    ++ rename cube (Known 0) no_cover 901 11

-- "In a volume a rectangle, written or copied, takes in every depth"
abbrev pub volume_list : List Call
volume_list = rename volume Unknown no_cover 900 10 ++ write 0 1 4 2 1 1 ++ settle 10 0 11 ++ rename volume (Known 0) no_cover 901 11

-- a plan that covers level 1 of two, then a write of a part of that level, then one of the whole level
abbrev pub two_levels : VersionShape
two_levels = flat_shape 2 8 8 1 2 0

abbrev pub cover_of_level1 : UploadFootprint
cover_of_level1 = record { slice = 0; level = 1; cover = true }

abbrev pub cover_list : List Call
cover_list = rename two_levels Unknown cover_of_level1 900 10 ++ write 0 1 0 0 1 1 ++ write 0 1 0 0 4 4

-- a second rename in the same shape, and a third in another shape
abbrev pub shapes_list : List Call
shapes_list =
    rename two_levels Unknown no_cover 900 10
    ++ write 0 0 0 0 1 1
    ++ rename two_levels Unknown no_cover 901 11
    ++ rename cube Unknown no_cover 902 12
    ++ write 0 0 0 0 1 1

-- each of the twelve calls, and then one more write
abbrev pub twelve_list : List Call
twelve_list =
    rename two_levels Unknown no_cover 900 10
    ++ write 0 1 0 0 1 1
    ++ regenerate
    ++ settle 10 0 11
    ++ (between (note_call 0) ∷ between (trim_call 12) ∷ between (doomed_call 90) ∷ between (drain_call 90) ∷ between (forget_call 7) ∷ [])
    ++ rename two_levels Unknown no_cover 901 12
    ++ write 0 0 0 0 1 1

-- both levels whole
abbrev pub whole_levels : List PreserveCopy
whole_levels = record { slice = 0; level = 0; region = Whole } ∷ record { slice = 0; level = 1; region = Whole } ∷ []

-- none of the calls is refused
abbrev pub twelve_answers : List Reply
twelve_answers =
    spare_taken none Unknown
    ∷ copies_planned whole_levels
    ∷ done
    ∷ done
    ∷ done
    ∷ version_popped (some (7, 900))
    ∷ done
    ∷ done
    ∷ done
    ∷ views_handed []
    ∷ views_handed (900 ∷ [])
    ∷ done
    ∷ spare_taken none Unknown
    ∷ copies_planned whole_levels
    ∷ done
    ∷ done
    ∷ []

pub record KeepToRenames : Type 0 where
  pub sample_keeps : Renames (start sample_lent 0) sample
  pub sample_on_keeps : Renames (start sample_lent 0) sample_on
  pub cube_keeps : Renames (start cube_lent 0) cube_list
  pub volume_keeps : Renames (start sample_lent 0) volume_list
  pub cover_keeps : Renames (start sample_lent 0) cover_list
  pub shapes_keeps : Renames (start cube_lent 0) shapes_list
  pub twelve_keeps : Renames (start sample_lent 0) twelve_list
  pub twelve_accepted : replies_of (opened sample_lent 0) twelve_list ≡ twelve_answers

-- ---- books

-- the books of texture 7 after the first n calls of a list
abbrev pub book_after_calls : Places → List Call → ℕ → Option Book
book_after_calls places cs n = (run (start places 0) (take n cs)).books 7

abbrev pub after_sample : ℕ → Option Book
after_sample n = book_after_calls sample_lent sample_on n

abbrev pub after_cube : ℕ → Option Book
after_cube n = book_after_calls cube_lent cube_list n

abbrev pub after_volume : ℕ → Option Book
after_volume n = book_after_calls sample_lent volume_list n

abbrev pub after_cover : ℕ → Option Book
after_cover n = book_after_calls sample_lent cover_list n

abbrev pub after_shapes : ℕ → Option Book
after_shapes n = book_after_calls cube_lent shapes_list n

abbrev pub after_twelve : ℕ → Option Book
after_twelve n = book_after_calls sample_lent twelve_list n

-- the live version's number, the plain book's, and whether the level is left out
abbrev pub live_at : Option Book → Texel → Option ℕ
live_at none t = none
live_at (some b) t = b.live t

abbrev pub plain_at : Option Book → Texel → Option ℕ
plain_at none t = none
plain_at (some b) t = some (b.plain t)

abbrev pub left_at : Option Book → Texel → Option Bool
left_at none t = none
left_at (some b) t = some (b.left t.slice t.level)

-- both books have this number there, and it is not left out
abbrev pub BothHave : Option Book → Texel → ℕ → Type 0
BothHave b t n = (live_at b t ≡ some n) × (plain_at b t ≡ some n) × (left_at b t ≡ some false)

pub record ComputedBooks : Type 0 where
  -- "An id with no book yet has no texels"; "0 at first"
  pub no_book : after_sample 0 ≡ none
  pub at_first : BothHave (after_sample 1) (texel 0 0 20 5 0) 0
  pub first_rename : BothHave (after_sample 3) (texel 0 0 20 5 0) 0
  -- the sample's write of 10 by 10 at 20, 5: its first and last texel, and texels beside it
  pub write_first : BothHave (after_sample 4) (texel 0 0 20 5 0) 1
  pub write_last : BothHave (after_sample 4) (texel 0 0 29 14 0) 1
  pub write_left_of : BothHave (after_sample 4) (texel 0 0 19 5 0) 0
  pub write_below : BothHave (after_sample 4) (texel 0 0 29 15 0) 0
  -- the second rename brings the numbers along
  pub second_rename : BothHave (after_sample 9) (texel 0 0 20 5 0) 1
  pub second_rename_outside : BothHave (after_sample 9) (texel 0 0 63 63 0) 0
  -- the second write has "the next number", although a take stands between
  pub second_write : BothHave (after_sample 10) (texel 0 0 40 40 0) 2
  pub second_write_outside : BothHave (after_sample 10) (texel 0 0 20 5 0) 1
  -- slices and levels above 0; "a regeneration covers every level but 0, in each slice"
  pub cube_level : BothHave (after_cube 4) (texel 5 2 1 1 0) 1
  pub cube_regenerated : BothHave (after_cube 5) (texel 5 2 1 1 0) 2
  pub cube_regenerated_slice : BothHave (after_cube 5) (texel 3 1 0 0 0) 2
  pub cube_level_0 : BothHave (after_cube 5) (texel 5 0 0 0 0) 0
  pub cube_renamed_level : BothHave (after_cube 12) (texel 5 2 1 1 0) 2
  pub cube_renamed_slice : BothHave (after_cube 12) (texel 5 0 7 7 0) 3
  pub cube_renamed_both : BothHave (after_cube 12) (texel 4 1 3 3 0) 4
  pub cube_renamed_first : BothHave (after_cube 12) (texel 0 0 0 0 0) 0
  -- depths above 0
  pub volume_depth : BothHave (after_volume 4) (texel 0 1 4 2 1) 1
  pub volume_renamed_depth : BothHave (after_volume 9) (texel 0 1 4 2 1) 1
  pub volume_renamed_last : BothHave (after_volume 9) (texel 0 0 9 5 4) 0
  -- "A covered level is left out from its rename's accepted retire until that write": not from the plan on, no other level, not until a part's write
  pub cover_planned : left_at (after_cover 2) (texel 0 1 0 0 0) ≡ some false
  pub cover_retired : left_at (after_cover 3) (texel 0 1 0 0 0) ≡ some true
  pub cover_unknown : live_at (after_cover 3) (texel 0 1 0 0 0) ≡ none
  pub cover_other_level : BothHave (after_cover 3) (texel 0 0 0 0 0) 0
  pub cover_part_written : left_at (after_cover 4) (texel 0 1 0 0 0) ≡ some true
  pub cover_whole_written : BothHave (after_cover 5) (texel 0 1 3 3 0) 2
  -- "An accepted take_spare with no book or another shape starts it anew", one of the same shape does not; the count goes on in both cases
  pub same_shape_lem : BothHave (after_shapes 7) (texel 0 0 0 0 0) 1
  pub another_shape : BothHave (after_shapes 10) (texel 0 0 0 0 0) 0
  pub another_shape_next : BothHave (after_shapes 11) (texel 0 0 0 0 0) 2
  -- after each of the twelve calls, and then a write with the next number
  pub twelve_level_1 : BothHave (after_twelve 15) (texel 0 1 0 0 0) 2
  pub twelve_level_0 : BothHave (after_twelve 15) (texel 0 0 0 0 0) 0
  pub twelve_next : BothHave (after_twelve 16) (texel 0 0 0 0 0) 3
