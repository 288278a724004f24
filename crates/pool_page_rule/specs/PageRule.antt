-- Rule: The refusal 6 as document 01 has it, before W-201: "a history needs one page for each slice and level". take_spare is said here by any rule of
-- 6; by the rule of stamps it is pool_rules' own, and by the rule of pages it is the one that pool_rules had.
use Rattle.std.specs.Prelude.{ℕ, suc, ◌+◌, ◌≡◌, Bool, cond, ◌&&◌, not, List, [], ◌∷◌, leb, ltb, length}
use Rattle.std.proofs.Math.Option.{Option, none, some}
use Rattle.base_blocks.specs.Lists.{total}
use Rattle.grid_shapes.specs.declared.shape.VersionShape.{VersionShape}
use Rattle.grid_shapes.specs.Shapes.{is_shape, same_shape, bytes_of}
use Rattle.pool_rules.specs.Model.{Spare, VersionState, PoolModel, Out, accepted, guard, find, limit, grid_count, grids_used}
use Rattle.pool_rules.specs.HistorySizes.{stamps_used}
use Rattle.pool_rules.specs.Updates.{with_textures, with_trackings, change, insert, as_doomed, doom_spares}
use Rattle.pool_rules.specs.TakeSpare.{new_state, history_full, take_tracked}
use Rattle.pool_books.specs.Lists.{Call, take_call, plan_call, retire_call, between}
use Rattle.pool_books.specs.Demand3.{Reply, answered, spare_reply, call}

-- whether 6 refuses a history: of the pool, the shape, whether the texture records, and the id's state if it is tracked
abbrev pub FullRule : Type 0 → Type 0
FullRule W = PoolModel W → VersionShape → Bool → Option (VersionState W) → Bool

module _ {W : Type 0} where
  -- ---- the two rules

  -- what the id's history has of its own, which counts as free
  abbrev pub own_by : (VersionState W → ℕ) → Option (VersionState W) → ℕ
  own_by used none = 0
  own_by used (some t) = used t

  -- before: a page for each grid
  abbrev pub page_rule : FullRule W
  page_rule p shape records o = records && ltb (p.places.pages + own_by grids_used o) (total grids_used p.textures + grid_count shape)

  -- W-201: "more stamps needed than free, the same id's own counted as free"
  abbrev pub stamp_rule : FullRule W
  stamp_rule p shape records o = history_full p shape records (own_by stamps_used o)

  -- ---- take_spare by a rule: pool_rules' own, with the rule in the place of `history_full`

  abbrev pub take_new_by : FullRule W → PoolModel W → ℕ → VersionShape → Bool → ℕ → Out W (Option (Spare W))
  take_new_by full p id shape records seq =
      guard (leb p.places.textures (length p.textures)) 5
      (guard (full p shape records none) 6
      (guard (leb limit p.trackings) 12
      (accepted none (with_trackings (suc p.trackings) (with_textures (insert (new_state id shape records (suc p.trackings) seq) p.textures) p)))))

  abbrev pub take_renewed_by : FullRule W → PoolModel W → ℕ → VersionShape → Bool → ℕ → VersionState W → Out W (Option (Spare W))
  take_renewed_by full p id shape records seq t =
      guard (full p shape records (some t)) 6
      (guard (leb limit p.trackings) 12
      (accepted none
      (with_trackings (suc p.trackings)
      (with_textures (change id (λ (u : VersionState W). new_state id shape records (suc p.trackings) seq) p.textures)
      (doom_spares (as_doomed (bytes_of t.shape) t.spares) p)))))

  abbrev pub take_found_by : FullRule W → PoolModel W → ℕ → VersionShape → Bool → ℕ → Option (VersionState W) → Out W (Option (Spare W))
  take_found_by full p id shape records seq none = take_new_by full p id shape records seq
  take_found_by full p id shape records seq (some t) =
      cond (same_shape t.shape shape) (take_tracked p id seq t) (take_renewed_by full p id shape records seq t)

  unfoldable pub take_spare_by : FullRule W → PoolModel W → ℕ → VersionShape → Bool → ℕ → Out W (Option (Spare W))
  take_spare_by full p id shape records seq =
      guard (not (is_shape shape)) 2 (guard (ltb limit seq) 3 (take_found_by full p id shape records seq (find id p.textures)))

-- ---- lists of calls under a rule: no call but take_spare says 6

unfoldable pub call_by : FullRule ℕ → PoolModel ℕ → Call → Reply × PoolModel ℕ
call_by full p (take_call id shape records seq) =
    answered (λ (n : ℕ). n) (λ (id n : ℕ). n) (spare_reply (λ (n : ℕ). n) (λ (id n : ℕ). n)) p (take_spare_by full p id shape records seq)
call_by full p (plan_call id shape held u buffer) = call p (plan_call id shape held u buffer)
call_by full p (retire_call id view seq) = call p (retire_call id view seq)
call_by full p (between c) = call p (between c)

-- the answers, and the pool left
unfoldable pub replies_by : FullRule ℕ → PoolModel ℕ → List Call → List Reply
replies_by full p [] = []
replies_by full p (c ∷ cs) = (call_by full p c).0 ∷ replies_by full (call_by full p c).1 cs

unfoldable pub reached_by : FullRule ℕ → PoolModel ℕ → List Call → PoolModel ℕ
reached_by full p [] = p
reached_by full p (c ∷ cs) = reached_by full (call_by full p c).1 cs

-- under the rule of stamps a call is the one that demands 1 to 3 are about
abbrev pub StampRuleIsThePools : Type 0
StampRuleIsThePools = (p : PoolModel ℕ) (c : Call) → call_by stamp_rule p c ≡ call p c
