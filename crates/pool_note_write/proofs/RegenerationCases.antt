-- `note_mip_regeneration` on a pool, case by case. Assumes nothing.
use mathlib.Core.Path.{◌≡◌, refl, sym, ap, ◌∙◌}
use mathlib.Core.Bool.{true, false}
use mathlib.Core.Option.{Option, none, some}
use mathlib.Core.List.{List}
use Prim.Native.Nat.{ℕ, ◌+◌, ◌≤◌, ◌<◌}
use native.Mathlib.Numerals.{add-one}
use borrow.Author.Tests.{le-leb, lt-leb}
use lib.ListN.{set}
use Rattle.grid_shapes.specs.declared.shape.VersionShape.{VersionShape}
use Rattle.grid_shapes.specs.Shapes.{is_shape}
use Rattle.pool_rules.specs.Model.{WriteHistory, VersionState, PoolModel, Out, accepted, find, limit}
use Rattle.pool_rules.specs.Updates.{with_history, with_textures, change}
use Rattle.pool_rules.specs.Histories.{regenerated, stamp_regeneration, spent}
use Rattle.pool_rules.specs.NoteWrite.{history_in, note_mip_regeneration}
use Rattle.std.specs.Prelude.{None}
use Rattle.pool_memory.specs.Lent.{Lent}
use Rattle.pool_memory.specs.Reading.{model_of}
use Rattle.pool_memory.specs.Writing.{lent_after}
use Rattle.pool_memory.specs.IsPool.{is_pool}
use Rattle.pool_memory.specs.Calls.{refused_with, answer, note_mip_regeneration_on}
use Rattle.pool_memory.proofs.Fits.{Fits}
use Rattle.pool_memory.proofs.FromPool.{pool_fits}
use Rattle.pool_memory.proofs.Asked.{guard_passed, guard_refused, asked_refused, asked_accepted}
use Rattle.pool_memory.proofs.Runs.{state_of}
use Rattle.pool_memory.proofs.Places.{found, changed, not_found, not_changed}
use Rattle.pool_memory.proofs.Stays.{ids_ascend, nothing_changed}
use Rattle.pool_memory.proofs.Tracked.{shape_at}
use Rattle.pool_history.specs.Remade.{newest_written, stamps_written}
use Rattle.pool_note_write.specs.History.{remade_at}
use Rattle.pool_note_write.proofs.AtPlace.{Unrecorded, untracked, unrecorded, Recording, at, history_read_lem, history_is, has_history_lem, shape_formed, tilings_recorded}
use Rattle.pool_note_write.proofs.Left.{kept_lent, history_regenerated}
use Rattle.pool_note_write.proofs.WriteCases.{same_texture}
use Rattle.pool_records.specs.Texture.{texture_in}

-- what is left of a history that a regeneration stamped with n
abbrev pub remade_lent : Lent → ℕ → ℕ → Lent
remade_lent l i n =
    kept_lent l i n (newest_written l.newest (texture_in l.textures i).grid (remade_at l.textures i n l.newest l.stamps))
    (stamps_written l.stamps (texture_in l.textures i).stamp (remade_at l.textures i n l.newest l.stamps))

module _ (l : Lent) (e : is_pool l ≡ true) (id : ℕ) where
  abbrev fits : Fits l
  fits = pool_fits l e

  abbrev i : ℕ
  i = at l fits id

  abbrev rule : PoolModel ℕ → Out ℕ (Unit {0})
  rule p = note_mip_regeneration p id

  abbrev regenerate : VersionState ℕ → VersionState ℕ
  regenerate t = with_history (regenerated t.shape t.history) t

  passes : spent (history_in (find id (model_of l).textures)) ≡ false → (ts : List (VersionState ℕ)) → change id regenerate (model_of l).textures ≡ ts
      → note_mip_regeneration_on l id ≡ (answer tt, lent_after (with_textures ts (model_of l)) l)
  unfolding note_mip_regeneration_on note_mip_regeneration
  passes q ts k =
      asked_accepted (λ (a : Unit {0}). a) l rule e tt (with_textures ts (model_of l))
      (guard_passed (spent (history_in (find id (model_of l).textures))) 12 (accepted tt (with_textures (change id regenerate (model_of l).textures) (model_of l))) q
      ∙ ap (λ (us : List (VersionState ℕ)). accepted tt (with_textures us (model_of l))) k)

  -- nothing for an untracked texture, or one without a history
  pub regeneration_unrecorded : Unrecorded l fits id → (answer tt, l) ≡ note_mip_regeneration_on l id
  regeneration_unrecorded (untracked ne) =
      sym (passes (ap (λ (o : Option (VersionState ℕ)). spent (history_in o)) (not_found l id (ids_ascend l fits) ne)) (model_of l).textures (not_changed l id (ids_ascend l fits) ne regenerate)
      ∙ ap (λ (l' : Lent). (answer tt, l')) (nothing_changed l fits))
  regeneration_unrecorded (unrecorded tr q) =
      let bare : (state_of l i).history ≡ none = history_read_lem l fits i tr.0 None q in
      sym (passes (ap (λ (o : Option (VersionState ℕ)). spent (history_in o)) (found l id (ids_ascend l fits) tr) ∙ ap spent bare) (model_of l).textures
      (changed l id (ids_ascend l fits) tr regenerate
      ∙ ap (λ (o : Option WriteHistory). set (model_of l).textures i (with_history o (state_of l i))) (ap (regenerated (state_of l i).shape) bare ∙ sym bare)
      ∙ same_texture l i tr.0)
      ∙ ap (λ (l' : Lent). (answer tt, l')) (nothing_changed l fits))

  module _ (n : ℕ) (rec : Recording l fits id n) where
    abbrev old : WriteHistory
    old = history_is l fits id n rec

    abbrev shape : VersionShape
    shape = (state_of l i).shape

    spent_here : spent (history_in (find id (model_of l).textures)) ≡ spent (some old)
    spent_here = ap (λ (o : Option (VersionState ℕ)). spent (history_in o)) (found l id (ids_ascend l fits) rec.tracked) ∙ ap spent (has_history_lem l fits id n rec)

    -- the count is to pass 2^48
    pub regeneration_spent : limit ≤ n → (refused_with 12, l) ≡ note_mip_regeneration_on l id
    unfolding note_mip_regeneration_on note_mip_regeneration
    regeneration_spent h =
        sym (asked_refused (λ (a : Unit {0}). a) l rule e 12
        (guard_refused (spent (history_in (find id (model_of l).textures))) 12 (accepted tt (with_textures (change id regenerate (model_of l).textures) (model_of l)))
        (spent_here ∙ le-leb limit n h)))

    -- the regeneration is counted, and every level but the first is stamped
    pub regeneration_done : n < limit → (answer tt, remade_lent l i (n + 1)) ≡ note_mip_regeneration_on l id
    regeneration_done h =
        ap (λ (k : ℕ). (answer tt, remade_lent l i k)) (add-one n)
        ∙ ap (λ (l' : Lent). (answer tt, l'))
        (history_regenerated l fits i rec.tracked.0 old (has_history_lem l fits id n rec) (ap is_shape (shape_at l i rec.tracked.0) ∙ shape_formed l fits id n rec) refl
        (tilings_recorded l fits i rec.tracked.0 n rec.history))
        ∙ sym (passes (spent_here ∙ lt-leb limit n h) (set (model_of l).textures i (with_history (some (stamp_regeneration shape old)) (state_of l i)))
        (changed l id (ids_ascend l fits) rec.tracked regenerate
        ∙ ap (λ (o : Option WriteHistory). set (model_of l).textures i (with_history (regenerated shape o) (state_of l i))) (has_history_lem l fits id n rec)))

    -- the same by what the code found and left
    pub left_regenerated : (k : ℕ) → k ≡ i → n < limit → (l' : Lent) → l' ≡ remade_lent l k (n + 1) → (answer tt, l') ≡ note_mip_regeneration_on l id
    left_regenerated k q h l' w = ap (λ (x : Lent). (answer tt, x)) (w ∙ ap (λ (m : ℕ). remade_lent l m (n + 1)) q) ∙ regeneration_done h
