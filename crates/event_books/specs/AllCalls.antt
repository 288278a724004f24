-- Rule: A text with all twelve calls, line by line: refused calls, lines that make no call, renames that a refusal ends, two shapes, a spare that lacks
-- one tile, one whose held writes are unknown, a covered level, and a last line without its line feed.
--
-- It is refused with 2, 3, 6, 8, 9 and 10. These stores are never refused with 1; a rename's plan has its take's shape and is never refused with 4; no
-- answer of this program is too long (11), since a plan has at most 90 copies and there are 64 versions; 5, 7 and 12 need many more lines.
use Rattle.std.specs.Prelude.{true, false, List, [], ◌∷◌}
use Rattle.grid_shapes.specs.declared.shape.VersionShape.{VersionShape}
use Rattle.pool_rules.specs.declared.held.Held.TheVariants.{Known, Unknown}
use Rattle.pool_books.specs.Sample.{flat_shape}
use Rattle.event_lines.specs.declared.event.Event.{Event}
use Rattle.event_books.specs.Witnesses.{Line, line, Witness, NumberIs, flat_texel}

abbrev pub two_level_shape : VersionShape
two_level_shape = flat_shape 2 32 32 1 2 0

abbrev pub one_level : VersionShape
one_level = flat_shape 0 16 16 1 1 0

unfoldable pub all_calls : List Line
all_calls =
    -- line 1: a call before `open`
    line "pop,5\n" (Event.Pop 5) "1,?\n"
    ∷ line "open,65536\n" (Event.Open 65536) "2,0\n"
    -- line 3: a second `open`, and a plan before any take line
    ∷ line "open,65536\n" (Event.Open 65536) "3,?\n"
    ∷ line "plan,7,-,0,0,0\n" (Event.Plan 7 Unknown 0 0 false) "4,?\n"
    -- line 5: no event
    ∷ line "hello\n" Event.Unread "5,?\n"
    -- line 6: refused with 2, since there is no format 9
    ∷ line "take,7,9,32,32,1,2,0,1,10\n" (Event.Take 7 (flat_shape 9 32 32 1 2 0) true 10) "6,2\n"
    -- line 7: a rename that ends where its `retire` is refused with 3, since the submission is 2^48 + 1
    ∷ line "take,7,2,32,32,1,2,0,1,10\n" (Event.Take 7 two_level_shape true 10) "7,0,-,-\n"
    ∷ line "plan,7,-,0,0,0\n" (Event.Plan 7 Unknown 0 0 false) "8,0,2\n8,0,0,-,-,-,-\n8,0,1,-,-,-,-\n"
    ∷ line "retire,7,900,281474976710657\n" (Event.Retire 7 900 281474976710657) "9,3\n"
    -- line 10: so a write may stand here
    ∷ line "write,7,0,0,0,0,8,8\n" (Event.Write 7 0 0 (record { x = 0; y = 0; width = 8; height = 8 })) "10,0\n"
    -- line 11: a rename whose plan skips level 0 as covered, the write that covers it, and a regeneration of level 1
    ∷ line "take,7,2,32,32,1,2,0,1,11\n" (Event.Take 7 two_level_shape true 11) "11,0,-,-\n"
    ∷ line "plan,7,-,0,0,1\n" (Event.Plan 7 Unknown 0 0 true) "12,0,1\n12,0,1,-,-,-,-\n"
    ∷ line "retire,7,901,11\n" (Event.Retire 7 901 11) "13,0\n"
    ∷ line "write,7,0,0,0,0,32,32\n" (Event.Write 7 0 0 (record { x = 0; y = 0; width = 32; height = 32 })) "14,0\n"
    ∷ line "regen,7\n" (Event.Regen 7) "15,0\n"
    -- line 16: another texture and another shape; the rename ends where its `retire` is refused with 8, since 10 is below the 11 still queued
    ∷ line "take,8,0,16,16,1,1,0,0,12\n" (Event.Take 8 one_level false 12) "16,0,-,-\n"
    ∷ line "plan,8,-,0,0,0\n" (Event.Plan 8 Unknown 0 0 false) "17,0,1\n17,0,0,-,-,-,-\n"
    ∷ line "retire,8,902,10\n" (Event.Retire 8 902 10) "18,8\n"
    -- line 19: refused with 9 while 901 is in the hand, and with 10 once it is parked
    ∷ line "pop,11\n" (Event.Pop 11) "19,0,7,901\n"
    ∷ line "pop,11\n" (Event.Pop 11) "20,9\n"
    ∷ line "park,0,12\n" (Event.Park 0 12) "21,0\n"
    ∷ line "park,0,12\n" (Event.Park 0 12) "22,10\n"
    -- line 23: a rename onto that spare, which holds the first of three writes
    ∷ line "take,7,2,32,32,1,2,0,1,13\n" (Event.Take 7 two_level_shape true 13) "23,0,901,1\n"
    ∷ line "plan,7,1,0,0,0\n" (Event.Plan 7 (Known 1) 0 0 false) "24,0,2\n24,0,0,-,-,-,-\n24,0,1,-,-,-,-\n"
    ∷ line "retire,7,903,13\n" (Event.Retire 7 903 13) "25,0\n"
    -- line 26: a write to one tile, and a take refused with 6: a cube needs 6,144 stamps, all that are lent, and texture 7 has five
    ∷ line "write,7,0,0,20,5,4,4\n" (Event.Write 7 0 0 (record { x = 20; y = 5; width = 4; height = 4 })) "26,0\n"
    ∷ line "take,9,2,512,512,1,1,1,1,13\n" (Event.Take 9 (flat_shape 2 512 512 1 1 1) true 13) "27,6\n"
    -- line 28: a rename onto a spare that lacks that one tile
    ∷ line "pop,13\n" (Event.Pop 13) "28,0,7,903\n"
    ∷ line "park,0,14\n" (Event.Park 0 14) "29,0\n"
    ∷ line "take,7,2,32,32,1,2,0,1,15\n" (Event.Take 7 two_level_shape true 15) "30,0,903,3\n"
    ∷ line "plan,7,3,0,0,0\n" (Event.Plan 7 (Known 3) 0 0 false) "31,0,1\n31,0,0,16,0,16,16\n"
    ∷ line "retire,7,904,15\n" (Event.Retire 7 904 15) "32,0\n"
    -- line 33: parked after a failed submission, its held writes are unknown
    ∷ line "pop,15\n" (Event.Pop 15) "33,0,7,904\n"
    ∷ line "park,15,16\n" (Event.Park 15 16) "34,0\n"
    ∷ line "take,7,2,32,32,1,2,0,1,17\n" (Event.Take 7 two_level_shape true 17) "35,0,904,-\n"
    ∷ line "plan,7,-,0,0,0\n" (Event.Plan 7 Unknown 0 0 false) "36,0,2\n36,0,0,-,-,-,-\n36,0,1,-,-,-,-\n"
    ∷ line "retire,7,905,17\n" (Event.Retire 7 905 17) "37,0\n"
    -- line 38: the bytes allocated are above the line of 49,152, so the spare is queued for destruction
    ∷ line "pop,17\n" (Event.Pop 17) "38,0,7,905\n"
    ∷ line "park,0,18\n" (Event.Park 0 18) "39,0\n"
    ∷ line "note,50000\n" (Event.Note 50000) "40,0\n"
    ∷ line "doomed\n" Event.Doomed "41,0,1\n41,905\n"
    -- line 42: texture 8 again; the plan covers its one level, so there is no copy, and the level is left out from line 44 on
    ∷ line "take,8,0,16,16,1,1,0,0,28\n" (Event.Take 8 one_level false 28) "42,0,-,-\n"
    ∷ line "plan,8,-,0,0,1\n" (Event.Plan 8 Unknown 0 0 true) "43,0,0\n"
    ∷ line "retire,8,906,28\n" (Event.Retire 8 906 28) "44,0\n"
    -- line 45: texture 7 was renamed last more than 120 submissions before, and is dropped; what is queued is handed out
    ∷ line "trim,140\n" (Event.Trim 140) "45,0\n"
    ∷ line "drain\n" Event.Drain "46,0,1\n46,906\n"
    ∷ line "forget,8\n" (Event.Forget 8) "47,0\n"
    -- line 48: a last line without its line feed
    ∷ line "pop,28" (Event.Pop 28) "48,0,-,-\n"
    ∷ []

abbrev pub AllCallsHold : Type 0
AllCallsHold = Witness all_calls

-- texture 7 has four writes and regenerations, in lines 10, 14, 15 and 26; the plans' copies carry their numbers into each new live version
pub record AllCallsNumbers : Type 0 where
  -- the `retire` of line 9 is refused: the version that was live is written to
  pub refused_rename : NumberIs all_calls 10 7 (flat_texel 0 7 7) 1
  -- level 1 is copied by the rename, and level 0 is written whole after it
  pub copied_level : NumberIs all_calls 13 7 (flat_texel 1 0 0) 0
  pub covered_level : NumberIs all_calls 14 7 (flat_texel 0 7 7) 2
  -- onto a spare that lacks the last write of each level
  pub known_spare : NumberIs all_calls 25 7 (flat_texel 1 0 0) 3
  -- onto a spare that lacks one tile: in that tile, and in another
  pub lacking_tile : NumberIs all_calls 32 7 (flat_texel 0 20 5) 4
  pub other_tile : NumberIs all_calls 32 7 (flat_texel 0 7 7) 2
  -- onto a spare of which nothing is known
  pub unknown_spare : NumberIs all_calls 37 7 (flat_texel 0 20 5) 4
  -- the texture is no longer tracked, and its books go on
  pub untracked : NumberIs all_calls 48 7 (flat_texel 0 20 5) 4
