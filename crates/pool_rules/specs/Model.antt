-- Rule: The pool as the Rust has it, with lists for its maps and queues. W is the type of a version's views, which the pool only carries
-- (the source's TextureVersions<V>).
use Rattle.std.specs.Prelude.{ℕ, ◌+◌, ◌*◌, Bool, true, false, cond, List, [], ◌∷◌, eqb, length}
use Rattle.std.proofs.Math.Option.{Option, none, some}
use Rattle.base_blocks.specs.Lists.{total}
use Rattle.grid_shapes.specs.declared.shape.VersionShape.{VersionShape}
use Rattle.grid_shapes.specs.Shapes.{slices_of, bytes_of}
use Rattle.grid_rects.specs.declared.rect.Region.{Region}
use Rattle.grid_stamps.specs.Grids.{StampGrid}
use Rattle.pool_rules.specs.declared.held.Held.{Held}
use Rattle.pool_rules.specs.declared.budget.VersionBudget.{VersionBudget}

-- submissions, write counts and tracking counts are at most 2^48
abbrev pub limit : ℕ
limit = 281474976710656

-- ---- records

-- a texture's write count, and one grid a slice and level, slice by slice
pub record WriteHistory : Type 0 where
  pub writes : ℕ
  pub grids : List StampGrid

-- a retired version kept for the texture's next rename, with the writes that it holds and the submission it was parked in
pub record Spare (W : Type 0) : Type 0 where
  pub view : W
  pub held : Held
  pub parked : ℕ

-- a version that a rename replaced: the submission it retires behind, the tracking it retired under, the submission that it became
-- live in, the writes that it holds and its bytes
pub record Retiring (W : Type 0) : Type 0 where
  pub id : ℕ
  pub view : W
  pub seq : ℕ
  pub epoch : ℕ
  pub birth : ℕ
  pub held : ℕ
  pub bytes : ℕ

-- a version to be destroyed
pub record Doomed (W : Type 0) : Type 0 where
  pub view : W
  pub bytes : ℕ

-- a tracked texture: the number of its tracking, the submission in which its live version became live (0 for the one that was live when
-- tracking started), its latest rename, the number that `trim` looks at it by, and its spares, the oldest first
pub record VersionState (W : Type 0) : Type 0 where
  pub id : ℕ
  pub shape : VersionShape
  pub epoch : ℕ
  pub history : Option WriteHistory
  pub birth : ℕ
  pub rename : ℕ
  pub due : ℕ
  pub spares : List (Spare W)

-- the arrivals between each of the last eight takes, the slot that the next take writes, the pressure mark, and the bytes that the next take
-- hands out at least
pub record PacingModel : Type 0 where
  pub arrivals : List ℕ
  pub slot : ℕ
  pub pressed : Bool
  pub excess : ℕ

-- places lent at opening: for textures, for versions, and pages of 1,024 stamps
pub record Places : Type 0 where
  pub textures : ℕ
  pub versions : ℕ
  pub pages : ℕ

-- the textures in ascending id; `hand` is 01's hand, the version that was popped and not parked yet; `doomed` is the destroy queue, `since` how
-- many arrived there since the last take
pub record PoolModel (W : Type 0) : Type 0 where
  pub textures : List (VersionState W)
  pub retiring : List (Retiring W)
  pub hand : Option (Retiring W)
  pub doomed : List (Doomed W)
  pub since : ℕ
  pub trackings : ℕ
  pub parked : ℕ
  pub dooming : ℕ
  pub places : Places
  pub budget : VersionBudget
  pub pacing : PacingModel

-- what a call answers: a refusal's number, or an answer and the pool after it. A refusal leaves the pool as it was.
pub data Out (W A : Type 0) : Type 0 where
  refused : ℕ → Out W A
  accepted : A → PoolModel W → Out W A

-- one preserve copy
pub record PreserveCopy : Type 0 where
  pub slice : ℕ
  pub level : ℕ
  pub region : Region

-- the subresource that an upload writes, and whether it covers it whole
pub record UploadFootprint : Type 0 where
  pub slice : ℕ
  pub level : ℕ
  pub cover : Bool

-- ---- what is read off them

-- one grid for each slice and level
unfoldable pub grid_count : VersionShape → ℕ
grid_count s = slices_of s * s.levels

abbrev pub has_history : Option WriteHistory → Bool
has_history none = false
has_history (some h) = true

-- the write count; 0 without a history
abbrev pub writes_of : Option WriteHistory → ℕ
writes_of none = 0
writes_of (some h) = h.writes

module _ {W : Type 0} where
  -- refused by this number where the condition holds
  unfoldable pub guard : {A : Type 0} → Bool → ℕ → Out W A → Out W A
  guard true n out = refused n
  guard false n out = out

  -- the state of a tracked texture
  unfoldable pub find : ℕ → List (VersionState W) → Option (VersionState W)
  find id [] = none
  find id (t ∷ ts) = cond (eqb t.id id) (some t) (find id ts)

  -- grids in use: those of its history
  abbrev pub grids_used : VersionState W → ℕ
  grids_used t = cond (has_history t.history) (grid_count t.shape) 0

  -- bytes of a state's spares, each its texture's
  abbrev pub spare_bytes : VersionState W → ℕ
  spare_bytes t = bytes_of t.shape * length t.spares

  abbrev pub doomed_bytes : List (Doomed W) → ℕ
  doomed_bytes ds = total (λ (d : Doomed W). d.bytes) ds

  abbrev pub hand_count : Option (Retiring W) → ℕ
  hand_count none = 0
  hand_count (some v) = 1

  -- version places in use: queue, hand, spares and destroy queue
  abbrev pub versions_used : PoolModel W → ℕ
  versions_used p = length p.retiring + hand_count p.hand + total (λ (t : VersionState W). length t.spares) p.textures + length p.doomed
