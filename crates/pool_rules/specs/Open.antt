-- Rule: A pool just opened (the Rust's `new`): nothing tracked, nothing queued.
use Rattle.std.specs.Prelude.{ℕ, Bool, false, [], ◌∷◌, leb, replicate}
use Rattle.std.proofs.Math.Option.{none}
use Rattle.base_blocks.specs.Lists.{tests}
use Rattle.pool_rules.specs.Budget.{budget_of}
use Rattle.pool_rules.specs.Model.{Places, PoolModel}
use Rattle.pool_rules.specs.RuleConstants.{destroy_spread_drains, most_places}

-- 1 to 4,096 texture places, 1 to 4,096 version places, 0 to 4,096 pages of 1,024 stamps
unfoldable pub are_places : Places → Bool
are_places n = tests (leb 1 n.textures ∷ leb n.textures most_places ∷ leb 1 n.versions ∷ leb n.versions most_places ∷ leb n.pages most_places ∷ [])

abbrev pub opened : {W : Type 0} → Places → ℕ → PoolModel W
opened places working = record {
  textures = [];
  retiring = [];
  hand = none;
  doomed = [];
  since = 0;
  trackings = 0;
  parked = 0;
  dooming = 0;
  places = places;
  budget = budget_of working;
  pacing = record { arrivals = replicate destroy_spread_drains 0; slot = 0; pressed = false; excess = 0 };
}
