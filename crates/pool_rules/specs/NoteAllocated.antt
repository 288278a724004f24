-- Rule: note_allocated: the pressure mark, the excess, and relief.
use Rattle.std.specs.Prelude.{ℕ, suc, ◌+◌, ◌-◌, Bool, true, false, cond, ◌&&◌, ◌||◌, leb, ltb, eqb, take, drop}
use mathlib.Core.List.{List, [], ◌∷◌, map, flat_map}
use Rattle.grid_shapes.specs.Shapes.{bytes_of}
use Rattle.pool_rules.specs.declared.budget.VersionBudget.{VersionBudget}
use Rattle.pool_rules.specs.Budget.{resume_below}
use Rattle.pool_rules.specs.Model.{Spare, VersionState, PoolModel, Out, accepted}
use Rattle.pool_rules.specs.Updates.{with_spares, with_textures, with_pacing, as_doomed, doom_spares}

-- it presses above the line and releases below `resume_below`
abbrev pub pressed_after : VersionBudget → ℕ → Bool → Bool
pressed_after b allocated true = leb (resume_below b) allocated
pressed_after b allocated false = ltb b.line allocated

-- a spare as relief counts it: its parking number, its texture and its texture's bytes
pub record Aged : Type 0 where
  pub parked : ℕ
  pub id : ℕ
  pub bytes : ℕ

-- in order of parking number, then id
abbrev pub not_after : Aged → Aged → Bool
not_after a b = ltb a.parked b.parked || (eqb a.parked b.parked && leb a.id b.id)

unfoldable pub insert_aged : Aged → List Aged → List Aged
insert_aged a [] = a ∷ []
insert_aged a (b ∷ bs) = cond (not_after a b) (a ∷ b ∷ bs) (b ∷ insert_aged a bs)

unfoldable pub by_age : List Aged → List Aged
by_age [] = []
by_age (a ∷ rest) = insert_aged a (by_age rest)

-- those picked, until the bytes cover the excess, bytes already queued included
unfoldable pub picked : ℕ → ℕ → List Aged → List Aged
picked freed excess [] = []
picked freed excess (a ∷ rest) = cond (leb excess freed) [] (a ∷ picked (freed + a.bytes) excess rest)

-- how many of them a texture has
unfoldable pub count_of : ℕ → List Aged → ℕ
count_of id [] = 0
count_of id (a ∷ rest) = cond (eqb a.id id) (suc (count_of id rest)) (count_of id rest)

module _ {W : Type 0} where
  abbrev pub aged_of : VersionState W → List Aged
  aged_of t = map (λ (s : Spare W). record { parked = s.parked; id = t.id; bytes = bytes_of t.shape }) t.spares

  abbrev pub picked_in : ℕ → PoolModel W → List Aged
  picked_in excess p = picked p.dooming excess (by_age (flat_map aged_of p.textures))

  -- each texture gives as many as were picked of it, the oldest first, in ascending id
  abbrev pub relieved : List Aged → PoolModel W → PoolModel W
  relieved chosen p =
      doom_spares (flat_map (λ (t : VersionState W). as_doomed (bytes_of t.shape) (take (count_of t.id chosen) t.spares)) p.textures)
      (with_textures (map (λ (t : VersionState W). with_spares (drop (count_of t.id chosen) t.spares) t) p.textures) p)

  -- the excess is allocated minus the line, at least 0
  unfoldable pub note_allocated : PoolModel W → ℕ → Out W (Unit {0})
  note_allocated p allocated =
      accepted tt
      (with_pacing
      (record {
        arrivals = p.pacing.arrivals;
        slot = p.pacing.slot;
        pressed = pressed_after p.budget allocated p.pacing.pressed;
        excess = allocated - p.budget.line;
      })
      (relieved (picked_in (allocated - p.budget.line) p) p))
