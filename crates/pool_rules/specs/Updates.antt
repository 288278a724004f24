-- Rule: A pool or a state with some parts replaced: there is no update of a record's field, so each is written out.
use Rattle.std.specs.Prelude.{ℕ, ◌+◌, ◌-◌, cond, List, [], ◌∷◌, ◌++◌, map, eqb, ltb, length}
use Rattle.std.proofs.Math.Option.{Option}
use Rattle.pool_rules.specs.Model.{WriteHistory, Spare, Retiring, Doomed, VersionState, PacingModel, PoolModel, doomed_bytes}

module _ {W : Type 0} where
  abbrev pub with_history : Option WriteHistory → VersionState W → VersionState W
  with_history h t = record { id = t.id; shape = t.shape; epoch = t.epoch; history = h; birth = t.birth; rename = t.rename; due = t.due; spares = t.spares }

  abbrev pub with_spares : List (Spare W) → VersionState W → VersionState W
  with_spares ss t = record { id = t.id; shape = t.shape; epoch = t.epoch; history = t.history; birth = t.birth; rename = t.rename; due = t.due; spares = ss }

  abbrev pub with_birth : ℕ → VersionState W → VersionState W
  with_birth b t = record { id = t.id; shape = t.shape; epoch = t.epoch; history = t.history; birth = b; rename = t.rename; due = t.due; spares = t.spares }

  abbrev pub with_rename : ℕ → VersionState W → VersionState W
  with_rename r t = record { id = t.id; shape = t.shape; epoch = t.epoch; history = t.history; birth = t.birth; rename = r; due = t.due; spares = t.spares }

  abbrev pub with_due : ℕ → VersionState W → VersionState W
  with_due d t = record { id = t.id; shape = t.shape; epoch = t.epoch; history = t.history; birth = t.birth; rename = t.rename; due = d; spares = t.spares }

  -- the state with that id changed by f
  unfoldable pub change : ℕ → (VersionState W → VersionState W) → List (VersionState W) → List (VersionState W)
  change id f ts = map (λ (t : VersionState W). cond (eqb t.id id) (f t) t) ts

  -- a new state put in, in ascending id
  unfoldable pub insert : VersionState W → List (VersionState W) → List (VersionState W)
  insert t [] = t ∷ []
  insert t (u ∷ us) = cond (ltb t.id u.id) (t ∷ u ∷ us) (u ∷ insert t us)

  abbrev pub with_textures : List (VersionState W) → PoolModel W → PoolModel W
  with_textures ts p = record {
    textures = ts;
    retiring = p.retiring;
    hand = p.hand;
    doomed = p.doomed;
    since = p.since;
    trackings = p.trackings;
    parked = p.parked;
    dooming = p.dooming;
    places = p.places;
    budget = p.budget;
    pacing = p.pacing;
  }

  abbrev pub with_trackings : ℕ → PoolModel W → PoolModel W
  with_trackings n p = record {
    textures = p.textures;
    retiring = p.retiring;
    hand = p.hand;
    doomed = p.doomed;
    since = p.since;
    trackings = n;
    parked = p.parked;
    dooming = p.dooming;
    places = p.places;
    budget = p.budget;
    pacing = p.pacing;
  }

  abbrev pub with_retiring : List (Retiring W) → Option (Retiring W) → PoolModel W → PoolModel W
  with_retiring queue hand p = record {
    textures = p.textures;
    retiring = queue;
    hand = hand;
    doomed = p.doomed;
    since = p.since;
    trackings = p.trackings;
    parked = p.parked;
    dooming = p.dooming;
    places = p.places;
    budget = p.budget;
    pacing = p.pacing;
  }

  abbrev pub with_parked : ℕ → PoolModel W → PoolModel W
  with_parked bytes p = record {
    textures = p.textures;
    retiring = p.retiring;
    hand = p.hand;
    doomed = p.doomed;
    since = p.since;
    trackings = p.trackings;
    parked = bytes;
    dooming = p.dooming;
    places = p.places;
    budget = p.budget;
    pacing = p.pacing;
  }

  abbrev pub with_doomed : List (Doomed W) → ℕ → ℕ → PoolModel W → PoolModel W
  with_doomed queue since bytes p = record {
    textures = p.textures;
    retiring = p.retiring;
    hand = p.hand;
    doomed = queue;
    since = since;
    trackings = p.trackings;
    parked = p.parked;
    dooming = bytes;
    places = p.places;
    budget = p.budget;
    pacing = p.pacing;
  }

  abbrev pub with_pacing : PacingModel → PoolModel W → PoolModel W
  with_pacing b p = record {
    textures = p.textures;
    retiring = p.retiring;
    hand = p.hand;
    doomed = p.doomed;
    since = p.since;
    trackings = p.trackings;
    parked = p.parked;
    dooming = p.dooming;
    places = p.places;
    budget = p.budget;
    pacing = b;
  }

  -- queue versions for destruction, behind those that wait
  abbrev pub doom : List (Doomed W) → PoolModel W → PoolModel W
  doom ds p = with_doomed (p.doomed ++ ds) (p.since + length ds) (p.dooming + doomed_bytes ds) p

  -- spares as entries of the destroy queue, each with its texture's bytes
  abbrev pub as_doomed : ℕ → List (Spare W) → List (Doomed W)
  as_doomed bytes ss = map (λ (s : Spare W). record { view = s.view; bytes = bytes }) ss

  -- the same for spares, which leave the parked total
  abbrev pub doom_spares : List (Doomed W) → PoolModel W → PoolModel W
  doom_spares ds p = doom ds (with_parked (p.parked - doomed_bytes ds) p)
