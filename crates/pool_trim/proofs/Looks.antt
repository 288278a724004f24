-- The look at one texture is what the model's rule says of it. Assumes nothing.
use mathlib.Core.Path.{◌≡◌, refl, sym, ap, ap₂, ◌∙◌}
use mathlib.Core.Bool.{Bool, true, false, cond, ◌&&◌}
use mathlib.Core.List.{List, [], ◌∷◌, map}
use Prim.Native.Nat.{ℕ, suc, ◌-◌, ◌*◌, ◌≤◌, ◌<◌}
use native.Mathlib.Nat.{mul-le-mul_right}
use native.Mathlib.Omega.{arith}
use borrow.Author.Tests.{eqb-true, ne_eqb}
use lib.Dec.{eqb}
use lib.ListN.{length, take, drop, length-drop}
use lib.Seq.{length-take-le}
use Rattle.base_blocks.proofs.Lists.{either, and_both}
use Rattle.base_blocks.proofs.Listed.{take_listed}
use Rattle.grid_shapes.specs.Shapes.{bytes_of}
use Rattle.grid_shapes.proofs.ShapeBytes.{bytes_bound}
use Rattle.pool_rules.specs.Model.{Spare, VersionState, doomed_bytes}
use Rattle.pool_rules.specs.Updates.{with_due, as_doomed}
use Rattle.pool_rules.specs.Trim.{aged, aged_count, thinned, is_empty, idle, looked_at}
use Rattle.pool_rules.proofs.Moves.{as_doomed_bytes, as_doomed_length}
use Rattle.pool_records.specs.declared.texture.TextureRecord.{TextureRecord}
use Rattle.pool_memory.specs.Lent.{Lent}
use Rattle.pool_memory.specs.Reading.{spare_read}
use Rattle.pool_memory.specs.Writing.{recorded_history, texture_record, doomed_record}
use Rattle.pool_memory.proofs.Fits.{Fits}
use Rattle.pool_memory.proofs.Runs.{first_grid, first_stamp, state_of}
use Rattle.pool_memory.proofs.HistoryRuns.{grid_count_at, stamp_count_at}
use Rattle.pool_memory.proofs.Kept.{kept_history}
use Rattle.pool_memory.proofs.Tracked.{bytes_at, record_at_lem, shape_at, count_at, shape_passes}
use Rattle.pool_take_doomed.specs.Given.{given_records}
use Rattle.pool_take_doomed.proofs.Pushed.{given_spares}
use Rattle.pool_trim.specs.declared.look_at.Look.{Look}
use Rattle.pool_trim.specs.declared.pass.Pass.{Pass}
use Rattle.pool_trim.specs.LookAt.{is_idle, due_after, look_of, looked_record}
use Rattle.pool_trim.specs.Pass.{given_one}
use Rattle.pool_forget_texture.proofs.TextureRuns.{spares_in}
use Rattle.pool_trim.proofs.Ages.{aged_most}
use Rattle.grid_shapes.specs.ShapeConstants.{most_shape_bytes}
use Rattle.pool_records.specs.Texture.{texture_in, spares_to}

-- ---- any state

not_none : (n : ℕ) → eqb (suc n) 0 ≡ false
not_none n = ne_eqb (suc n) 0 (λ e. let y : ⊥ = omega arith in y)

no_spares : (ss : List (Spare ℕ)) → is_empty ss ≡ eqb (length ss) 0
no_spares [] = refl
no_spares (s ∷ ss) = sym (not_none (length ss))

module _ (now : ℕ) (t : VersionState ℕ) where
  -- how many of its spares are given up
  abbrev pub count : ℕ
  count = aged_count now t.spares

  abbrev pub looked : VersionState ℕ
  looked = looked_at now (thinned now t)

  pub looked_history : kept_history looked ≡ kept_history t
  looked_history = either (λ (u : VersionState ℕ). kept_history u ≡ kept_history t) (aged now t.due) _ _ (λ q. refl) (λ q. refl)

  pub looked_spares : looked.spares ≡ drop count t.spares
  looked_spares = either (λ (u : VersionState ℕ). u.spares ≡ drop count t.spares) (aged now t.due) _ _ (λ q. refl) (λ q. refl)

  module _ (grid stamp : ℕ) where
    -- its record, by that of the texture
    pub looked_record_lem : texture_record grid stamp looked ≡ record {
      id = t.id;
      shape = t.shape;
      epoch = t.epoch;
      history = recorded_history t.history;
      birth = t.birth;
      rename = t.rename;
      due = cond (aged now t.due) (cond (aged now t.rename) now t.rename) t.due;
      spares = length (drop count t.spares);
      bytes = bytes_of t.shape;
      grid = grid;
      stamp = stamp;
    }
    looked_record_lem = go (aged now t.due)
      where
        go : (b : Bool) → texture_record grid stamp (cond b (with_due (cond (aged now t.rename) now t.rename) (thinned now t)) (thinned now t)) ≡ record {
          id = t.id;
          shape = t.shape;
          epoch = t.epoch;
          history = recorded_history t.history;
          birth = t.birth;
          rename = t.rename;
          due = cond b (cond (aged now t.rename) now t.rename) t.due;
          spares = length (drop count t.spares);
          bytes = bytes_of t.shape;
          grid = grid;
          stamp = stamp;
        }
        go true = refl
        go false = refl

  idle_record : (grid stamp : ℕ) → idle now (thinned now t) ≡ is_idle now (texture_record grid stamp t) (length t.spares - count)
  unfolding is_idle
  idle_record grid stamp =
      ap (λ (b : Bool). aged now t.due && (aged now t.rename && b))
      (no_spares (drop count t.spares) ∙ ap (λ (n : ℕ). eqb n 0) (length-drop count t.spares))

-- ---- texture i of a pool

module _ (l : Lent) (now i : ℕ) (h : i < l.pool.tracked) where
  abbrev t₀ : TextureRecord
  t₀ = texture_in l.textures i

  abbrev pub look_here : Look
  look_here = look_of now t₀ (count now (state_of l i)) (grid_count_at l i) (stamp_count_at l i)

  pub few : count now (state_of l i) ≤ t₀.spares
  few = omega (arith, aged_most now (state_of l i).spares, count_at l i h)

  pub left_count : length (drop (count now (state_of l i)) (state_of l i).spares) ≡ t₀.spares - count now (state_of l i)
  left_count = length-drop (count now (state_of l i)) (state_of l i).spares ∙ ap (λ (n : ℕ). n - count now (state_of l i)) (count_at l i h)

  pub idle_here : Fits l → idle now (thinned now (state_of l i)) ≡ is_idle now t₀ (t₀.spares - count now (state_of l i))
  idle_here f =
      idle_record now (state_of l i) (first_grid l i) (first_stamp l i)
      ∙ ap₂ (λ (t : TextureRecord) (n : ℕ). is_idle now t (n - count now (state_of l i))) (record_at_lem l i h f) (count_at l i h)

  pub none_left : Fits l → idle now (thinned now (state_of l i)) ≡ true → t₀.spares - count now (state_of l i) ≡ 0
  unfolding is_idle
  none_left f e =
      let left = t₀.spares - count now (state_of l i) in
      let tests = (and_both (aged now t₀.due) (aged now t₀.rename && eqb left 0) (sym (idle_here f) ∙ e)).1 in
      eqb-true left 0 (and_both (aged now t₀.rename) (eqb left 0) tests).1

  pub record_here : Fits l → (w : Pass) → texture_record w.grids w.stamps (looked now (state_of l i)) ≡ looked_record look_here w t₀
  unfolding looked_record look_of due_after
  record_here f w =
      looked_record_lem now (state_of l i) w.grids w.stamps
      ∙ ap₂ (λ (t : TextureRecord) (n : ℕ). record {
        id = t.id;
        shape = t.shape;
        epoch = t.epoch;
        history = t.history;
        birth = t.birth;
        rename = t.rename;
        due = cond (aged now t.due) (cond (aged now t.rename) now t.rename) t.due;
        spares = n;
        bytes = t.bytes;
        grid = w.grids;
        stamp = w.stamps;
      }) (record_at_lem l i h f) left_count

  -- ---- what it gives up

  abbrev given : List (Spare ℕ)
  given = take (count now (state_of l i)) (state_of l i).spares

  given_length : length given ≡ count now (state_of l i)
  given_length = length-take-le (count now (state_of l i)) (state_of l i).spares (aged_most now (state_of l i).spares)

  pub given_count : length (given_one now (state_of l i)) ≡ count now (state_of l i)
  unfolding given_one
  given_count = as_doomed_length (bytes_of (state_of l i).shape) given ∙ given_length

  -- k versions of those bytes
  by_count : Fits l → (k : ℕ) → t₀.bytes * k ≡ bytes_of t₀.shape * k
  by_count f k = ap (λ (b : ℕ). b * k) (bytes_at l i h f)

  pub given_bytes : Fits l → t₀.bytes * count now (state_of l i) ≡ doomed_bytes (given_one now (state_of l i))
  unfolding given_one
  given_bytes f =
      by_count f (count now (state_of l i))
      ∙ sym (as_doomed_bytes (bytes_of (state_of l i).shape) given ∙ ap₂ (λ (b n : ℕ). b * n) (ap bytes_of (shape_at l i h)) given_length)

  pub bytes_few : Fits l → t₀.bytes * count now (state_of l i) ≤ most_shape_bytes * count now (state_of l i)
  bytes_few f =
      omega (arith, by_count f (count now (state_of l i)), mul-le-mul_right (count now (state_of l i)) (bytes_bound t₀.shape (shape_passes l i h f)))

  pub given_records_lem : Fits l → given_records l.spares t₀.bytes (spares_to l.textures i) (count now (state_of l i))
      ≡ map doomed_record (given_one now (state_of l i))
  unfolding given_one
  given_records_lem f =
      let k = count now (state_of l i) in
      ap (λ (b : ℕ). given_records l.spares b (spares_to l.textures i) k) (bytes_at l i h f)
      ∙ given_spares l (bytes_of t₀.shape) (spares_to l.textures i) k
      ∙ sym (ap₂ (λ (b : ℕ) (ss : List (Spare ℕ)). map doomed_record (as_doomed b ss)) (ap bytes_of (shape_at l i h))
      (ap (take k) (spares_in l i h) ∙ take_listed (spare_read l) k (spares_to l.textures i) t₀.spares few))

-- ---- the look put together from its parts; b is whether the texture is dropped

pub look_made : (now : ℕ) (t : TextureRecord) (n g m own aged grid grids stamp stamps due bytes : ℕ) (b : Bool) → own ≡ t.spares → aged ≡ n
    → grid ≡ t.grid → grids ≡ g → stamp ≡ t.stamp → stamps ≡ m → due ≡ due_after now t → bytes ≡ t.bytes → b ≡ is_idle now t (own - aged)
    → record {
      own = own;
      aged = aged;
      staying = cond b 0 1;
      grid = grid;
      grids = cond b 0 grids;
      stamp = stamp;
      stamps = cond b 0 stamps;
      due = due;
      bytes = bytes;
    }
    ≡ look_of now t n g m
unfolding look_of
look_made now t n g m own aged grid grids stamp stamps due bytes b e1 e2 e3 e4 e5 e6 e7 e8 e9 =
    let out : b ≡ is_idle now t (t.spares - n) = e9 ∙ ap₂ (λ (x y : ℕ). is_idle now t (x - y)) e1 e2 in
    λ j. record {
      own = e1 j;
      aged = e2 j;
      staying = ap (λ (c : Bool). cond c 0 1) out j;
      grid = e3 j;
      grids = ap₂ (λ (c : Bool) (k : ℕ). cond c 0 k) out e4 j;
      stamp = e5 j;
      stamps = ap₂ (λ (c : Bool) (k : ℕ). cond c 0 k) out e6 j;
      due = e7 j;
      bytes = e8 j;
    }
