-- The numbers of words and signs spell them, by computation. Assumes nothing.
use mathlib.Core.Path.{refl}
use Rattle.event_books.specs.Bytes.{bytes, Spelling}

pub spelling : Spelling
unfolding bytes
spelling = record {
  open_is = refl;
  take_is = refl;
  plan_is = refl;
  retire_is = refl;
  write_is = refl;
  regen_is = refl;
  pop_is = refl;
  park_is = refl;
  note_is = refl;
  doomed_is = refl;
  drain_is = refl;
  trim_is = refl;
  forget_is = refl;
  signs_are = refl;
  question_is = refl;
  dash_is = refl;
}
