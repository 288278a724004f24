-- Rule: 01's sample of the event program as a list of calls, with its answers; and 01's starred edges ("Edges").
use Rattle.std.specs.Prelude.{ℕ, suc, ◌-◌, ◌^◌, ◌≡◌, true, false, length, replicate}
use Rattle.std.proofs.Math.Option.{Option, none, some}
use mathlib.Core.List.{List, [], ◌∷◌, ◌++◌, map, flat_map}
use Rattle.grid_shapes.specs.declared.shape.VersionShape.{VersionShape}
use Rattle.grid_shapes.specs.Shapes.{bytes_of}
use Rattle.grid_rects.specs.declared.rect.Region.TheVariants.{Whole, Part}
use Rattle.grid_axes.specs.Axes.{tile_edge}
use Rattle.pool_rules.specs.declared.held.Held.{Held}
use Rattle.pool_rules.specs.declared.held.Held.TheVariants.{Known, Unknown}
use Rattle.pool_rules.specs.Budget.{budget_of}
use Rattle.pool_rules.specs.Model.{Spare, VersionState, Places, PoolModel, Out, refused, accepted, UploadFootprint}
use Rattle.pool_rules.specs.Formed.{Formed}
use Rattle.pool_rules.specs.Park.{park}
use Rattle.pool_rules.specs.Trim.{trim}
use Rattle.pool_rules.specs.Open.{are_places, opened}
use Rattle.pool_books.specs.Lists.{write_call, pop_call, park_call, doomed_call, forget_call, Call, take_call, plan_call, retire_call, between}
use Rattle.pool_books.specs.Demand3.{Reply, refusal, done, spare_taken, copies_planned, version_popped, views_handed, call}

-- "Shape fields are format, width, height, depth, levels, kind, the rest 0"
unfoldable pub flat_shape : ℕ → ℕ → ℕ → ℕ → ℕ → ℕ → VersionShape
flat_shape format width height depth levels kind = record {
  format = format;
  width = width;
  height = height;
  depth = depth;
  levels = levels;
  kind = kind;
  storage = 0;
  usage = 0;
  red = 0;
  green = 0;
  blue = 0;
  alpha = 0;
}

-- "The event program lends 8 textures, 64 versions, 6 pages, answers of 90 entries"
abbrev pub sample_lent : Places
sample_lent = record { textures = 8; versions = 64; pages = 6 }

abbrev pub no_cover : UploadFootprint
no_cover = record { slice = 0; level = 0; cover = false }

unfoldable pub replies_of : PoolModel ℕ → List Call → List Reply
replies_of p [] = []
replies_of p (c ∷ cs) = (call p c).0 ∷ replies_of (call p c).1 cs

-- ---- the sample, from its second line on

unfoldable pub sample : List Call
sample =
    take_call 7 (flat_shape 2 64 64 1 1 0) true 10
    ∷ plan_call 7 (flat_shape 2 64 64 1 1 0) Unknown no_cover 90
    ∷ retire_call 7 900 10
    ∷ between (write_call 7 0 0 (record { x = 20; y = 5; width = 10; height = 10 }))
    ∷ between (pop_call 10)
    ∷ between (park_call 0 11)
    ∷ take_call 7 (flat_shape 2 64 64 1 1 0) true 11
    ∷ plan_call 7 (flat_shape 2 64 64 1 1 0) (Known 0) no_cover 90
    ∷ []

abbrev pub sample_answers : List Reply
sample_answers =
    spare_taken none Unknown
    ∷ copies_planned (record { slice = 0; level = 0; region = Whole } ∷ [])
    ∷ done
    ∷ done
    ∷ version_popped (some (7, 900))
    ∷ done
    ∷ spare_taken (some 900) (Known 0)
    ∷ copies_planned (record { slice = 0; level = 0; region = Part (record { x = 16; y = 0; width = 16; height = 16 }) } ∷ [])
    ∷ []

-- ---- lists of calls of texture 7

-- "A rename is, for one id, take_spare, preserve_plan .., retire, in a row"
abbrev pub rename : VersionShape → Held → UploadFootprint → ℕ → ℕ → List Call
rename shape held u view seq = take_call 7 shape true seq ∷ plan_call 7 shape held u 90 ∷ retire_call 7 view seq ∷ []

abbrev pub write : ℕ → ℕ → ℕ → ℕ → ℕ → ℕ → List Call
write slice level x y width height = between (write_call 7 slice level (record { x = x; y = y; width = width; height = height })) ∷ []

-- a version popped and parked
abbrev pub settle : ℕ → ℕ → ℕ → List Call
settle settled failed now = between (pop_call settled) ∷ between (park_call failed now) ∷ []

-- the same calls n times
abbrev pub times : ℕ → List Call → List Call
times n cs = flat_map (λ (calls : List Call). calls) (replicate n cs)

-- ---- edges, each on a pool that calls reach from one just opened

-- the pool after these calls
unfoldable pub reached : PoolModel ℕ → List Call → PoolModel ℕ
reached p [] = p
reached p (c ∷ cs) = reached (call p c).1 cs

-- whatever the calls are, it forms a pool
abbrev pub ReachedIsFormed : Type 0
ReachedIsFormed = (places : Places) → are_places places ≡ true → (working : ℕ) (cs : List Call) → Formed (reached (opened places working) cs)

-- two neighbours: f answers a at n, and b at the number after n
abbrev pub Neighbours : {A : Type 0} → (ℕ → A) → ℕ → A → A → Type 0
Neighbours f n a b = (f n ≡ a) × (f (suc n) ≡ b)

-- something of each spare, in the order of textures and parking
abbrev pub in_spares : {A : Type 0} → (Spare ℕ → A) → PoolModel ℕ → List A
in_spares f p = flat_map (λ (t : VersionState ℕ). map f t.spares) p.textures

-- the same after a call; none where it is refused
abbrev pub in_spares_after : {A : Type 0} → (Spare ℕ → A) → Out ℕ (Unit {0}) → Option (List A)
in_spares_after f (refused n) = none
in_spares_after f (accepted a p) = some (in_spares f p)

-- the submission that a spare was parked in
abbrev pub parked_in : Spare ℕ → ℕ
parked_in s = s.parked

abbrev pub held_writes : Spare ℕ → Held
held_writes s = s.held

-- a texture with one spare, parked in submission 10
unfoldable pub parked_at10 : PoolModel ℕ
parked_at10 = reached (opened sample_lent 0) (rename (flat_shape 2 64 64 1 1 0) Unknown no_cover 900 10 ++ settle 10 0 10)

abbrev pub texel_shape : VersionShape
texel_shape = flat_shape 2 1 1 1 1 0

-- 678 versions of a texture of one texel became its spares, which a forget then queued for destruction at once
unfoldable pub queued678 : PoolModel ℕ
queued678 =
    reached (opened (record { textures = 1; versions = 678; pages = 1 }) 0)
    (times 678 (rename texel_shape Unknown no_cover 2 10) ++ times 678 (settle 10 0 10) ++ (between (forget_call 7) ∷ []))

-- how many views are handed out; none where that is not the answer
unfoldable pub handed_out : Reply → Option ℕ
handed_out (refusal n) = none
handed_out done = none
handed_out (spare_taken v held) = none
handed_out (copies_planned cs) = none
handed_out (version_popped v) = none
handed_out (views_handed vs) = some (length vs)

-- the hand has a version whose texture's retirement before its own was in submission 5, retired with 3 writes; the version retired in 5 is a spare
unfoldable pub born_in5 : PoolModel ℕ
born_in5 =
    reached (opened sample_lent 0)
    (rename texel_shape Unknown no_cover 899 5 ++ times 3 (write 0 0 0 0 1 1) ++ rename texel_shape Unknown no_cover 900 6 ++ settle 6 0 6
    ++ (between (pop_call 6) ∷ []))

-- the starred edges, in 01's order
pub record Edges : Type 0 where
  -- "Extent 512: edge 16; 513: 17, or 20 with 4-texel blocks"
  pub edge : Neighbours (λ (extent : ℕ). tile_edge extent 1) 512 16 17
  pub edge_blocks : Neighbours (λ (extent : ℕ). tile_edge extent 4) 512 16 20
  -- "5 by 5, format 5, two levels: 40 bytes, cube 240"
  pub bytes : ◌≡◌ {A = ℕ} (bytes_of (flat_shape 5 5 5 1 2 0)) 40
  pub bytes_cube : ◌≡◌ {A = ℕ} (bytes_of (flat_shape 5 5 5 1 2 1)) 240
  -- "Working set 0: cap 2^30, line 2^64 - 1; 7: cap 0, line 3"
  pub working_0 : budget_of 0 ≡ record { cap = 2 ^ 30; line = 2 ^ 64 - 1 }
  pub working_7 : budget_of 7 ≡ record { cap = 0; line = 3 }
  -- "Parked 10: stays at now 18, goes at 19"
  pub parked_formed : Formed parked_at10
  pub parked : in_spares parked_in parked_at10 ≡ 10 ∷ []
  pub parked_total : ◌≡◌ {A = ℕ} parked_at10.parked 16384
  pub stays_then_goes : Neighbours (λ (now : ℕ). in_spares_after parked_in (trim parked_at10 now)) 18 (some (10 ∷ [])) (some [])
  -- "678 queued at once in an opened pool: 170, 149, 130, 114, 100, 15"
  pub queued_formed : Formed queued678
  pub queued : ◌≡◌ {A = ℕ} (length queued678.doomed) 678
  pub queued_since : ◌≡◌ {A = ℕ} queued678.since 678
  pub batches : map handed_out (replies_of queued678 (replicate 6 (between (doomed_call 4096))))
      ≡ some 170 ∷ some 149 ∷ some 130 ∷ some 114 ∷ some 100 ∷ some 15 ∷ []
  -- "Birth 5: unknown with failed 5, known with 4"
  pub born_formed : Formed born_in5
  pub born : born_in5.hand ≡ some (record { id = 7; view = 900; seq = 6; epoch = 1; birth = 5; held = 3; bytes = 4 })
  pub known_then_unknown : Neighbours (λ (failed : ℕ). in_spares_after held_writes (park born_in5 failed 7)) 4
      (some (Known 0 ∷ Known 3 ∷ []))
      (some (Known 0 ∷ Unknown ∷ []))
