-- `note_write` on a pool, case by case. Assumes nothing.
use mathlib.Core.Path.{◌≡◌, sym, ap, ap₂, ◌∙◌}
use mathlib.Core.Bool.{Bool, true, false, cond, ◌&&◌, and-false}
use mathlib.Core.Option.{Option, none, some}
use mathlib.Core.List.{List}
use Prim.Native.Nat.{ℕ, ◌+◌, ◌≤◌, ◌<◌}
use native.Mathlib.Numerals.{add-one}
use borrow.Author.Tests.{ltb-true, le-leb, lt-leb}
use lib.Dec.{leb, ltb}
use lib.ListN.{set}
use lib.Seq.{sets, set-get_or}
use Rattle.base_blocks.proofs.Lists.{and_both}
use Rattle.grid_shapes.specs.declared.shape.VersionShape.{VersionShape}
use Rattle.grid_shapes.specs.Shapes.{is_shape, slices_of}
use Rattle.grid_rects.specs.declared.rect.TexelRect.{TexelRect}
use Rattle.pool_rules.specs.Model.{WriteHistory, VersionState, PoolModel, Out, accepted, find, limit}
use Rattle.pool_rules.specs.Updates.{with_history, with_textures, change}
use Rattle.pool_rules.specs.Histories.{in_shape, written, stamp_write, spent}
use Rattle.pool_rules.specs.NoteWrite.{write_spent, note_write}
use Rattle.std.specs.Prelude.{None}
use Rattle.pool_records.specs.declared.texture.TextureRecord.{TextureRecord}
use Rattle.pool_memory.specs.Lent.{Lent}
use Rattle.pool_memory.specs.Reading.{model_of}
use Rattle.pool_memory.specs.Writing.{lent_after}
use Rattle.pool_memory.specs.IsPool.{is_pool}
use Rattle.pool_memory.specs.Calls.{refused_with, answer, note_write_on}
use Rattle.pool_memory.proofs.Fits.{Fits}
use Rattle.pool_memory.proofs.FromPool.{pool_fits}
use Rattle.pool_memory.proofs.Asked.{guard_passed, guard_refused, asked_refused, asked_accepted}
use Rattle.pool_memory.proofs.Runs.{state_of, model_at}
use Rattle.pool_memory.proofs.Places.{found, changed, not_found, not_changed}
use Rattle.pool_memory.proofs.Stays.{ids_ascend, nothing_changed}
use Rattle.pool_memory.proofs.Tracked.{shape_at}
use Rattle.pool_note_write.specs.History.{newest_place, stamps_place, stamped_on}
use Rattle.pool_note_write.proofs.AtPlace.{Unrecorded, untracked, unrecorded, Recording, at, history_read_lem, history_is, has_history_lem, shape_formed}
use Rattle.pool_note_write.proofs.Left.{kept_lent, history_stamped}
use Rattle.pool_note_write.proofs.Dropped.{dropped_lent, history_dropped}
use Rattle.pool_records.specs.Texture.{texture_in}

-- a texture of the model put back as it was
pub same_texture : (l : Lent) (i : ℕ) → i < l.pool.tracked → set (model_of l).textures i (state_of l i) ≡ (model_of l).textures
same_texture l i h = ap (set (model_of l).textures i) (sym (model_at l i (state_of l 0) h)) ∙ set-get_or (model_of l).textures i (state_of l 0)

-- what is left of a history that a write stamped with n
abbrev pub stamped_lent : Lent → ℕ → ℕ → ℕ → TexelRect → ℕ → Lent
stamped_lent l i slice level r n =
    kept_lent l i n (set l.newest (newest_place l.textures i slice level) (stamped_on l.textures i slice level r n l.newest l.stamps).newest)
    (sets l.stamps (stamps_place l.textures i slice level) (stamped_on l.textures i slice level r n l.newest l.stamps).stamps)

module _ (l : Lent) (e : is_pool l ≡ true) (id slice level : ℕ) (r : TexelRect) where
  abbrev fits : Fits l
  fits = pool_fits l e

  abbrev i : ℕ
  i = at l fits id

  abbrev rule : PoolModel ℕ → Out ℕ (Unit {0})
  rule p = note_write p id slice level r

  abbrev write : VersionState ℕ → VersionState ℕ
  write t = with_history (written slice level r t.shape t.history) t

  -- not refused
  passes : write_spent (find id (model_of l).textures) slice level ≡ false → (ts : List (VersionState ℕ)) → change id write (model_of l).textures ≡ ts
      → note_write_on l id slice level r ≡ (answer tt, lent_after (with_textures ts (model_of l)) l)
  unfolding note_write_on note_write
  passes q ts k =
      asked_accepted (λ (a : Unit {0}). a) l rule e tt (with_textures ts (model_of l))
      (guard_passed (write_spent (find id (model_of l).textures) slice level) 12 (accepted tt (with_textures (change id write (model_of l).textures) (model_of l))) q
      ∙ ap (λ (us : List (VersionState ℕ)). accepted tt (with_textures us (model_of l))) k)

  -- nothing for an untracked texture, or one without a history
  pub write_unrecorded : Unrecorded l fits id → (answer tt, l) ≡ note_write_on l id slice level r
  write_unrecorded (untracked ne) =
      sym (passes (ap (λ (o : Option (VersionState ℕ)). write_spent o slice level) (not_found l id (ids_ascend l fits) ne)) (model_of l).textures (not_changed l id (ids_ascend l fits) ne write)
      ∙ ap (λ (l' : Lent). (answer tt, l')) (nothing_changed l fits))
  write_unrecorded (unrecorded tr q) =
      let bare : (state_of l i).history ≡ none = history_read_lem l fits i tr.0 None q in
      let s = (state_of l i).shape in
      sym (passes
      (ap (λ (o : Option (VersionState ℕ)). write_spent o slice level) (found l id (ids_ascend l fits) tr)
      ∙ ap (λ (o : Option WriteHistory). in_shape s slice level && spent o) bare ∙ and-false (in_shape s slice level))
      (model_of l).textures
      (changed l id (ids_ascend l fits) tr write
      ∙ ap (λ (o : Option WriteHistory). set (model_of l).textures i (with_history o (state_of l i))) (ap (written slice level r s) bare ∙ sym bare)
      ∙ same_texture l i tr.0)
      ∙ ap (λ (l' : Lent). (answer tt, l')) (nothing_changed l fits))

  module _ (n : ℕ) (rec : Recording l fits id n) where
    abbrev old : WriteHistory
    old = history_is l fits id n rec

    abbrev shape : VersionShape
    shape = (state_of l i).shape

    read_shape : shape ≡ (texture_in l.textures i).shape
    read_shape = shape_at l i rec.tracked.0

    spent_here : write_spent (find id (model_of l).textures) slice level ≡ in_shape (texture_in l.textures i).shape slice level && leb limit n
    spent_here =
        ap (λ (o : Option (VersionState ℕ)). write_spent o slice level) (found l id (ids_ascend l fits) rec.tracked)
        ∙ ap (λ (o : Option WriteHistory). in_shape shape slice level && spent o) (has_history_lem l fits id n rec)
        ∙ ap (λ (s : VersionShape). in_shape s slice level && leb limit n) read_shape

    changed_here : (o : Option WriteHistory) → written slice level r shape (some old) ≡ o
        → change id write (model_of l).textures ≡ set (model_of l).textures i (with_history o (state_of l i))
    changed_here o q =
        changed l id (ids_ascend l fits) rec.tracked write
        ∙ ap (λ (w : Option WriteHistory). set (model_of l).textures i (with_history w (state_of l i))) (ap (written slice level r shape) (has_history_lem l fits id n rec) ∙ q)

    -- outside slices or levels the history is dropped
    pub write_outside : in_shape (texture_in l.textures i).shape slice level ≡ false → (answer tt, dropped_lent l i) ≡ note_write_on l id slice level r
    write_outside out =
        ap (λ (l' : Lent). (answer tt, l')) (history_dropped l fits i rec.tracked.0)
        ∙ sym (passes (spent_here ∙ ap (λ (b : Bool). b && leb limit n) out) (set (model_of l).textures i (with_history none (state_of l i)))
        (changed_here none (ap (λ (b : Bool). cond b (some (stamp_write shape slice level r old)) none) (ap (λ (s : VersionShape). in_shape s slice level) read_shape ∙ out))))

    module _ (inside : in_shape (texture_in l.textures i).shape slice level ≡ true) where
      -- the count is to pass 2^48
      pub write_spent_lem : limit ≤ n → (refused_with 12, l) ≡ note_write_on l id slice level r
      unfolding note_write_on note_write
      write_spent_lem h =
          sym (asked_refused (λ (a : Unit {0}). a) l rule e 12
          (guard_refused (write_spent (find id (model_of l).textures) slice level) 12 (accepted tt (with_textures (change id write (model_of l).textures) (model_of l)))
          (spent_here ∙ ap₂ (λ (a b : Bool). a && b) inside (le-leb limit n h))))

      -- the write is counted, and its tiles are stamped
      pub write_inside : n < limit
          → (answer tt, stamped_lent l i slice level r (n + 1)) ≡ note_write_on l id slice level r
      write_inside h =
          let here : in_shape shape slice level ≡ true = ap (λ (s : VersionShape). in_shape s slice level) read_shape ∙ inside in
          let q = and_both (ltb slice (slices_of shape)) (ltb level shape.levels) here in
          ap (λ (k : ℕ). (answer tt, stamped_lent l i slice level r k)) (add-one n)
          ∙ ap (λ (l' : Lent). (answer tt, l'))
          (history_stamped l fits i rec.tracked.0 old (has_history_lem l fits id n rec) slice level r (ltb-true slice (slices_of shape) q.0) (ltb-true level shape.levels q.1)
          (ap is_shape read_shape ∙ shape_formed l fits id n rec))
          ∙ sym (passes (spent_here ∙ ap₂ (λ (a b : Bool). a && b) inside (lt-leb limit n h)) (set (model_of l).textures i (with_history (some (stamp_write shape slice level r old)) (state_of l i)))
          (changed_here (some (stamp_write shape slice level r old)) (ap (λ (b : Bool). cond b (some (stamp_write shape slice level r old)) none) here)))

    -- ---- the same by what the code found and left

    module _ (k : ℕ) (q : k ≡ i) (t : TextureRecord) (read : t ≡ texture_in l.textures k) where
      found_shape : t.shape ≡ (texture_in l.textures i).shape
      found_shape = ap (λ (x : TextureRecord). x.shape) (read ∙ ap (texture_in l.textures) q)

      in_found : (b : Bool) → in_shape t.shape slice level ≡ b → in_shape (texture_in l.textures i).shape slice level ≡ b
      in_found b g = ap (λ (s : VersionShape). in_shape s slice level) (sym found_shape) ∙ g

      pub left_outside : in_shape t.shape slice level ≡ false → (l' : Lent) → l' ≡ dropped_lent l k → (answer tt, l') ≡ note_write_on l id slice level r
      left_outside g l' w = ap (λ (x : Lent). (answer tt, x)) (w ∙ ap (dropped_lent l) q) ∙ write_outside (in_found false g)

      pub left_spent : in_shape t.shape slice level ≡ true → limit ≤ n → (refused_with 12, l) ≡ note_write_on l id slice level r
      left_spent g h = write_spent_lem (in_found true g) h

      pub left_inside : in_shape t.shape slice level ≡ true → n < limit → (l' : Lent) → l' ≡ stamped_lent l k slice level r (n + 1)
          → (answer tt, l') ≡ note_write_on l id slice level r
      left_inside g h l' w =
          ap (λ (x : Lent). (answer tt, x)) (w ∙ ap (λ (m : ℕ). stamped_lent l m slice level r (n + 1)) q)
          ∙ write_inside (in_found true g) h
