-- Rule: 01's sample of the event program, line by line, with what it prints.
use Rattle.std.specs.Prelude.{true, false, List, [], ◌∷◌}
use Rattle.pool_rules.specs.declared.held.Held.TheVariants.{Known, Unknown}
use Rattle.pool_books.specs.Sample.{flat_shape}
use Rattle.event_lines.specs.declared.event.Event.{Event}
use Rattle.event_books.specs.Witnesses.{Line, line, Witness, NumberIs, flat_texel}

unfoldable pub sample_lines : List Line
sample_lines =
    line "open,0\n" (Event.Open 0) "1,0\n"
    ∷ line "take,7,2,64,64,1,1,0,1,10\n" (Event.Take 7 (flat_shape 2 64 64 1 1 0) true 10) "2,0,-,-\n"
    ∷ line "plan,7,-,0,0,0\n" (Event.Plan 7 Unknown 0 0 false) "3,0,1\n3,0,0,-,-,-,-\n"
    ∷ line "retire,7,900,10\n" (Event.Retire 7 900 10) "4,0\n"
    ∷ line "write,7,0,0,20,5,10,10\n" (Event.Write 7 0 0 (record { x = 20; y = 5; width = 10; height = 10 })) "5,0\n"
    ∷ line "pop,10\n" (Event.Pop 10) "6,0,7,900\n"
    ∷ line "park,0,11\n" (Event.Park 0 11) "7,0\n"
    ∷ line "take,7,2,64,64,1,1,0,1,11\n" (Event.Take 7 (flat_shape 2 64 64 1 1 0) true 11) "8,0,900,0\n"
    ∷ line "plan,7,0,0,0,0\n" (Event.Plan 7 (Known 0) 0 0 false) "9,0,1\n9,0,0,16,0,16,16\n"
    ∷ []

abbrev pub SampleHolds : Type 0
SampleHolds = Witness sample_lines

-- the first write, in line 5: 1 inside its rectangle and 0 beside it; before that line 0
pub record SampleNumbers : Type 0 where
  pub inside : NumberIs sample_lines 5 7 (flat_texel 0 20 5) 1
  pub beside : NumberIs sample_lines 5 7 (flat_texel 0 19 5) 0
  pub before : NumberIs sample_lines 4 7 (flat_texel 0 20 5) 0
