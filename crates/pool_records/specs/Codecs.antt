-- Helper: Each type's reading and writing is a codec of its width: what was written is read, and what was read is written back as it stood, for all
-- numbers. Assumes nothing.
use Prim.Native.Nat.{ℕ}
use mathlib.Core.Path.{◌≡◌, refl}
use mathlib.Core.List.{List}
use lib.ListN.{take}
use lib.Dec.{lit<}
use lib.Seq.{get_or-take}
use Rattle.base_tables.proofs.Records.{Codec, take_tab}
use Rattle.pool_records.specs.Spare.{read_spare, write_spare}
use Rattle.pool_records.specs.Retiring.{read_retiring, write_retiring}
use Rattle.pool_records.specs.Doomed.{read_doomed, write_doomed}
use Rattle.pool_records.specs.Texture.{read_texture, write_texture}
use Rattle.pool_records.specs.Counts.{held_number_lem, number_held, recorded_number_lem, number_recorded}
use Rattle.pool_records.specs.RecordConstants.{doomed_stride, retiring_stride, spare_stride, texture_stride}

-- simp takes `lit<` only at a number that it sees, so these two say theirs in digits: readers of 3 and of 22 numbers
spare_front : (l : List ℕ) → read_spare (take 3 l) ≡ read_spare l
unfolding read_spare
spare_front l = simp (get_or-take, lit<, tt {0})

texture_front : (l : List ℕ) → read_texture (take 22 l) ≡ read_texture l
unfolding read_texture
texture_front l = simp (get_or-take, lit<, tt {0})

pub spare_codec : Codec spare_stride read_spare write_spare
unfolding read_spare write_spare
spare_codec = record {
  long = λ a. refl;
  read = λ a l i. record { view = a.view; held = held_number_lem a.held i; parked = a.parked };
  back = λ l h. rw (take_tab spare_stride l h, number_held);
  front = spare_front;
}

pub retiring_codec : Codec retiring_stride read_retiring write_retiring
unfolding read_retiring write_retiring
retiring_codec = record {
  long = λ a. refl;
  read = λ a l. refl;
  back = λ l h. rw (take_tab retiring_stride l h);
  front = λ l. simp (get_or-take, lit<, tt {0});
}

pub doomed_codec : Codec doomed_stride read_doomed write_doomed
unfolding read_doomed write_doomed
doomed_codec = record {
  long = λ a. refl;
  read = λ a l. refl;
  back = λ l h. rw (take_tab doomed_stride l h);
  front = λ l. simp (get_or-take, lit<, tt {0});
}

pub texture_codec : Codec texture_stride read_texture write_texture
unfolding read_texture write_texture
texture_codec = record {
  long = λ a. refl;
  read = λ a l i. record {
    id = a.id;
    shape = a.shape;
    epoch = a.epoch;
    history = recorded_number_lem a.history i;
    birth = a.birth;
    rename = a.rename;
    due = a.due;
    spares = a.spares;
    bytes = a.bytes;
    grid = a.grid;
    stamp = a.stamp;
  };
  back = λ l h. rw (take_tab texture_stride l h, number_recorded);
  front = texture_front;
}
