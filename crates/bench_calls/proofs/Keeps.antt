-- Memory that forms a pool still does after a call, by what the call's contract says. Assumes nothing.
use Rattle.std.proofs.Common.{◌≡◌, ℕ, Bool, true, List, sym, ap, subst}
use mathlib.Core.Option.{Option}
use Rattle.grid_shapes.specs.declared.shape.VersionShape.{VersionShape}
use Rattle.grid_rects.specs.declared.rect.TexelRect.{TexelRect}
use Rattle.pool_memory.specs.Lent.{Lent}
use Rattle.pool_memory.specs.IsPool.{is_pool}
use Rattle.pool_memory.specs.declared.answer.TakenVersion.{TakenVersion}
use Rattle.pool_memory.specs.declared.answer.PoppedVersion.{PoppedVersion}
use Rattle.pool_memory.specs.Calls.{Told, take_spare_on, retire_on, note_write_on, pop_retired_on, park_on, note_allocated_on, take_doomed_on, trim_on, note_mip_regeneration_on, drain_versions_on, forget_texture_on}
use Rattle.pool_books.specs.Demand3.{Reply, done}
use Rattle.pool_books.specs.LentLists.{LentCall, said, filled, reply_of, taken_reply, popped_version_reply, views_filled, lent_call, EveryCallKeepsPool}
use Rattle.pool_books.proofs.LentLists.{calls_keep_pool}
use Rattle.pool_books.specs.Lists.{between, doomed_call, drain_call, forget_call, note_call, park_call, pop_call, regen_call, retire_call, take_call, trim_call, write_call}

module _ (l after : Lent) (e : is_pool l ≡ true) where
  kept : (c : LentCall) (r : Reply) → (r, after) ≡ lent_call l c → is_pool after ≡ true
  unfolding EveryCallKeepsPool
  kept c r k = subst (λ x. is_pool x ≡ true) (sym (ap (λ (x : Reply × Lent). x.1) k)) (calls_keep_pool l e c)

  pub take_keeps : (t : Told (Option TakenVersion)) (id : ℕ) (shape : VersionShape) (records : Bool) (seq : ℕ)
      → (t, after) ≡ take_spare_on l id shape records seq → is_pool after ≡ true
  unfolding lent_call
  take_keeps t id shape records seq q = kept (take_call id shape records seq) (reply_of taken_reply t) (ap (said taken_reply) q)

  pub pop_keeps : (t : Told (Option PoppedVersion)) (settled : ℕ) → (t, after) ≡ pop_retired_on l settled → is_pool after ≡ true
  unfolding lent_call
  pop_keeps t settled q = kept (between (pop_call settled)) (reply_of popped_version_reply t) (ap (said popped_version_reply) q)

  pub doomed_keeps : (t : Told ℕ) (b exit : List ℕ) → (t, (exit, after)) ≡ take_doomed_on l b → is_pool after ≡ true
  unfolding lent_call
  doomed_keeps t b exit q = kept (between (doomed_call b)) (reply_of (λ (n : ℕ). views_filled n exit) t) (ap (filled views_filled) q)

  pub drain_keeps : (t : Told ℕ) (b exit : List ℕ) → (t, (exit, after)) ≡ drain_versions_on l b → is_pool after ≡ true
  unfolding lent_call
  drain_keeps t b exit q = kept (between (drain_call b)) (reply_of (λ (n : ℕ). views_filled n exit) t) (ap (filled views_filled) q)

  module _ (t : Told (Unit {0})) where
    pub retire_keeps : (id view seq : ℕ) → (t, after) ≡ retire_on l id view seq → is_pool after ≡ true
    unfolding lent_call
    retire_keeps id view seq q = kept (retire_call id view seq) (reply_of (λ a. done) t) (ap (said (λ a. done)) q)

    pub write_keeps : (id slice level : ℕ) (rect : TexelRect) → (t, after) ≡ note_write_on l id slice level rect → is_pool after ≡ true
    unfolding lent_call
    write_keeps id slice level rect q = kept (between (write_call id slice level rect)) (reply_of (λ a. done) t) (ap (said (λ a. done)) q)

    pub park_keeps : (failed now : ℕ) → (t, after) ≡ park_on l failed now → is_pool after ≡ true
    unfolding lent_call
    park_keeps failed now q = kept (between (park_call failed now)) (reply_of (λ a. done) t) (ap (said (λ a. done)) q)

    pub note_keeps : (allocated : ℕ) → (t, after) ≡ note_allocated_on l allocated → is_pool after ≡ true
    unfolding lent_call
    note_keeps allocated q = kept (between (note_call allocated)) (reply_of (λ a. done) t) (ap (said (λ a. done)) q)

    pub trim_keeps : (now : ℕ) → (t, after) ≡ trim_on l now → is_pool after ≡ true
    unfolding lent_call
    trim_keeps now q = kept (between (trim_call now)) (reply_of (λ a. done) t) (ap (said (λ a. done)) q)

    pub regeneration_keeps : (id : ℕ) → (t, after) ≡ note_mip_regeneration_on l id → is_pool after ≡ true
    unfolding lent_call
    regeneration_keeps id q = kept (between (regen_call id)) (reply_of (λ a. done) t) (ap (said (λ a. done)) q)

    pub forget_keeps : (id : ℕ) → (t, after) ≡ forget_texture_on l id → is_pool after ≡ true
    unfolding lent_call
    forget_keeps id q = kept (between (forget_call id)) (reply_of (λ a. done) t) (ap (said (λ a. done)) q)
