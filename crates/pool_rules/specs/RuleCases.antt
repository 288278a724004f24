-- Rule: Cases of the rules, in 01's words, that neither a formed pool nor demand 3 decides: which of two refusals a call says, and what it leaves
-- behind. Each is said in numbers, without the names that the rules are said with.
use Rattle.std.specs.Prelude.{ℕ, ◌+◌, ◌*◌, ◌≤◌, ◌<◌, ◌≡◌, Bool, true, List, [], ◌∷◌, ◌++◌, map, length, replicate}
use Rattle.std.proofs.Math.Option.{none, some}
use Rattle.base_blocks.specs.Lists.{total}
use Rattle.grid_shapes.specs.declared.shape.VersionShape.{VersionShape}
use Rattle.grid_shapes.specs.Shapes.{is_shape, slices_of}
use Rattle.grid_stamps.specs.StampConstants.{page_stamps}
use Rattle.pool_rules.specs.declared.held.Held.{Held}
use Rattle.pool_rules.specs.Model.{WriteHistory, VersionState, PoolModel, UploadFootprint, refused, accepted, find, limit}
use Rattle.pool_rules.specs.HistorySizes.{history_size, stamps_used}
use Rattle.pool_rules.specs.Updates.{with_spares}
use Rattle.pool_rules.specs.TakeSpare.{take_spare}
use Rattle.pool_rules.specs.PreservePlan.{copies, preserve_plan}
use Rattle.pool_rules.specs.Retire.{retire}
use Rattle.pool_rules.specs.DrainVersions.{drain_versions}

-- take_spare, of a shape and a submission that may be: "history full" (6) is said before "counter spent" (12), so where both hold it is 6. An id
-- that is not tracked needs a free place (5); of one tracked with another shape its own stamps count as free.
pub record FullBeforeSpent {W : Type 0} (p : PoolModel W) (id : ℕ) (shape : VersionShape) (seq : ℕ) : Type 0 where
  pub new_full : find id p.textures ≡ none → length p.textures < p.places.textures
      → page_stamps * p.places.pages < total stamps_used p.textures + history_size shape → take_spare p id shape true seq ≡ refused 6
  pub new_spent : (records : Bool) → find id p.textures ≡ none → length p.textures < p.places.textures
      → total stamps_used p.textures + history_size shape ≤ page_stamps * p.places.pages → limit ≤ p.trackings → take_spare p id shape records seq ≡ refused 12
  pub renewed_full : (t : VersionState W) → find id p.textures ≡ some t → (t.shape ≡ shape → ⊥)
      → page_stamps * p.places.pages + stamps_used t < total stamps_used p.textures + history_size shape → take_spare p id shape true seq ≡ refused 6
  pub renewed_spent : (records : Bool) (t : VersionState W) → find id p.textures ≡ some t → (t.shape ≡ shape → ⊥)
      → total stamps_used p.textures + history_size shape ≤ page_stamps * p.places.pages + stamps_used t → limit ≤ p.trackings
      → take_spare p id shape records seq ≡ refused 12

abbrev pub TakeFullBeforeSpent : Type 0 → Type 0
TakeFullBeforeSpent W = (p : PoolModel W) (id : ℕ) (shape : VersionShape) (seq : ℕ) → is_shape shape ≡ true → seq ≤ limit → FullBeforeSpent p id shape seq

-- preserve_plan: "a plan would skip a covered level of a history at 2^48". The level is one of the shape, named with full cover; one outside the
-- shape is skipped by no plan.
pub record SkipsSpent {W : Type 0} (p : PoolModel W) (id : ℕ) (shape : VersionShape) (u : UploadFootprint) : Type 0 where
  pub state : VersionState W
  pub history : WriteHistory
  pub tracked : find id p.textures ≡ some state
  pub same : state.shape ≡ shape
  pub recorded : state.history ≡ some history
  pub counted : limit ≤ history.writes
  pub covered : u.cover ≡ true
  pub slice : u.slice < slices_of shape
  pub level : u.level < shape.levels

-- 12 is said there, where the answer has room for the copies, and nowhere else
pub record PlanSpent {W : Type 0} (p : PoolModel W) (id : ℕ) (shape : VersionShape) (held : Held) (u : UploadFootprint) (room : ℕ) : Type 0 where
  pub there : is_shape shape ≡ true → (s : SkipsSpent p id shape u) → length (copies shape (some s.history) held u) ≤ room
      → preserve_plan p id shape held u room ≡ refused 12
  pub short : is_shape shape ≡ true → (s : SkipsSpent p id shape u) → room < length (copies shape (some s.history) held u)
      → preserve_plan p id shape held u room ≡ refused 11
  pub only : preserve_plan p id shape held u room ≡ refused 12 → SkipsSpent p id shape u

abbrev pub PlanSpentInShape : Type 0 → Type 0
PlanSpentInShape W = (p : PoolModel W) (id : ℕ) (shape : VersionShape) (held : Held) (u : UploadFootprint) (room : ℕ) → PlanSpent p id shape held u room

-- retire of an id that is not tracked: there is no retirement before it under its tracking, so its birth is 0; no tracking has the number 0, and
-- no bytes are noted
abbrev pub RetireUntracked : Type 0 → Type 0
RetireUntracked W = (p q : PoolModel W) (id : ℕ) (view : W) (seq : ℕ) → find id p.textures ≡ none → retire p id view seq ≡ accepted tt q
    → q.retiring ≡ p.retiring ++ (record { id = id; view = view; seq = seq; epoch = 0; birth = 0; held = 0; bytes = 0 } ∷ [])

-- drain_versions empties the queue, the destroy queue and the spares, and forgets the arrivals; it "leaves the hand as it is", and so the slot,
-- the mark, the excess and the trackings
pub record Drained {W : Type 0} (p q : PoolModel W) : Type 0 where
  pub hand : q.hand ≡ p.hand
  pub slot : q.pacing.slot ≡ p.pacing.slot
  pub pressed : q.pacing.pressed ≡ p.pacing.pressed
  pub excess : q.pacing.excess ≡ p.pacing.excess
  pub trackings : q.trackings ≡ p.trackings
  pub arrivals : q.pacing.arrivals ≡ replicate 8 0
  pub since : q.since ≡ 0
  pub retiring : q.retiring ≡ []
  pub doomed : q.doomed ≡ []
  pub textures : q.textures ≡ map (with_spares []) p.textures

abbrev pub DrainKeeps : Type 0 → Type 0
DrainKeeps W = (p q : PoolModel W) (views : List W) (room : ℕ) → drain_versions p room ≡ accepted views q → Drained p q
