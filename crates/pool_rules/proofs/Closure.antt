-- Every accepted call leaves a formed pool, and a pool just opened is formed. Assumes nothing.
use mathlib.Core.Path.{refl}
use mathlib.Core.List.{[], ◌∷◌}
use native.Mathlib.Omega.{arith}
use lib.Dec.{leb}
use borrow.Author.Tests.{leb-true}
use Rattle.base_blocks.specs.Lists.{total}
use Rattle.base_blocks.specs.All.{nil}
use Rattle.base_blocks.proofs.Lists.{passed}
use Rattle.pool_rules.specs.Open.{are_places}
use Rattle.pool_rules.specs.Formed.{end}
use Rattle.pool_rules.specs.Closed.{EveryCallKeepsFormed, OpenedIsFormed}
use Rattle.pool_rules.proofs.Lists.{all_replicate}
use Rattle.pool_rules.proofs.Relief.{note_allocated_formed, trim_formed, forget_texture_formed}
use Rattle.pool_rules.proofs.Queues.{retire_formed, pop_retired_formed, park_formed, take_doomed_formed, drain_versions_formed}
use Rattle.pool_rules.proofs.Renames.{take_spare_formed, preserve_plan_formed, note_write_formed, note_mip_regeneration_formed}
use Rattle.pool_rules.specs.RuleConstants.{destroy_spread_drains, most_places}

module _ {W : Type 0} where
  pub closed : EveryCallKeepsFormed W
  closed p f = record {
    take_spare_lem = take_spare_formed p f;
    preserve_plan_lem = preserve_plan_formed p f;
    retires = retire_formed p f;
    note_write_lem = note_write_formed p f;
    note_mip_regeneration_lem = note_mip_regeneration_formed p f;
    pop_retired_lem = pop_retired_formed p f;
    parks = park_formed p f;
    note_allocated_lem = note_allocated_formed p f;
    take_doomed_lem = take_doomed_formed p f;
    drain_versions_lem = drain_versions_formed p f;
    trims = trim_formed p f;
    forget_texture_lem = forget_texture_formed p f;
  }

  pub opened_formed : OpenedIsFormed W
  unfolding are_places total
  opened_formed places enough working = record {
    ids = end;
    textures = nil;
    retiring = nil;
    hand = tt;
    doomed = nil;
    trackings = omega arith;
    places = omega arith;
    versions = omega arith;
    stamps = omega arith;
    parked = refl;
    dooming = refl;
    cap = omega arith;
    slot = omega arith;
    eight = refl;
    arrivals = all_replicate destroy_spread_drains 0 (omega arith);
    since = omega arith;
    most = leb-true _ _ (passed (leb 1 places.textures ∷ leb places.textures most_places ∷ leb 1 places.versions ∷ leb places.versions most_places ∷ leb places.pages most_places ∷ []) enough 3);
  }
