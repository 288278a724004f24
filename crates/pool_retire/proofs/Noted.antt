-- What `retire` notes of the version and in its texture's record, by whether the texture is tracked. Assumes nothing.
use mathlib.Core.Path.{◌≡◌, refl, sym, ap, ◌∙◌, subst}
use mathlib.Core.Bool.{Bool, true, false}
use mathlib.Core.Option.{Option, none, some}
use Prim.Native.Nat.{ℕ}
use Rattle.grid_shapes.specs.Shapes.{bytes_of}
use Rattle.pool_rules.specs.Model.{WriteHistory, VersionState, writes_of}
use Rattle.pool_rules.specs.Retire.{retired}
use Rattle.pool_records.specs.declared.texture.TextureRecord.{TextureRecord}
use Rattle.pool_records.specs.Recorded.{RecordedFits}
use Rattle.pool_memory.specs.Writing.{recorded_history, texture_record, retiring_record}
use Rattle.pool_retire.specs.Noted.{writes_counted, retired_record, born_at}

-- ---- as the code notes it

module _ (b : Bool) (t : TextureRecord) (id view seq : ℕ) where
  pub note_untracked : b ≡ false → record { id = id; view = view; seq = seq; epoch = 0; birth = 0; held = 0; bytes = 0 }
      ≡ retired_record b t id view seq
  unfolding retired_record
  note_untracked e = sym (ap (λ (a : Bool). retired_record a t id view seq) e)

  pub note_tracked : b ≡ true → (u : TextureRecord) → u ≡ t → (held : ℕ) → held ≡ writes_counted u.history
      → record { id = id; view = view; seq = seq; epoch = u.epoch; birth = u.birth; held = held; bytes = u.bytes } ≡ retired_record b t id view seq
  unfolding retired_record
  note_tracked e u read held e1 =
      (λ i. record { id = id; view = view; seq = seq; epoch = u.epoch; birth = u.birth; held = e1 i; bytes = u.bytes })
      ∙ ap (λ (v : TextureRecord). retired_record true v id view seq) read
      ∙ sym (ap (λ (a : Bool). retired_record a t id view seq) e)

-- the history of a record with a birth noted fits as before
pub birth_fits : (u t w : TextureRecord) (seq : ℕ) → u ≡ t → w ≡ born_at seq u → RecordedFits t.history → RecordedFits w.history
birth_fits u t w seq read born h = subst (λ (v : TextureRecord). RecordedFits v.history) (sym (born ∙ ap (born_at seq) read)) h

-- ---- as the model does

pub model_tracked : (grid stamp : ℕ) (t : VersionState ℕ) (id view seq : ℕ) → retiring_record (retired id view seq (some t))
    ≡ retired_record true (texture_record grid stamp t) id view seq
unfolding retired_record
model_tracked grid stamp t id view seq = λ i. record {
  id = id;
  view = view;
  seq = seq;
  epoch = t.epoch;
  birth = t.birth;
  held = go t.history i;
  bytes = bytes_of t.shape;
}
  where
    go : (o : Option WriteHistory) → writes_of o ≡ writes_counted (recorded_history o)
    go none = refl
    go (some h) = refl

pub model_untracked : (t : TextureRecord) (id view seq : ℕ) → retiring_record (retired {W = ℕ} id view seq none) ≡ retired_record false t id view seq
unfolding retired_record
model_untracked t id view seq = refl
