-- Slices of the right sizes, whatever they hold, are a pool just opened. Assumes nothing.
use mathlib.Core.Path.{◌≡◌, refl, sym, subst}
use mathlib.Core.Bool.{true}
use mathlib.Core.List.{List}
use Prim.Native.Nat.{ℕ}
use native.Mathlib.Omega.{arith}
use Rattle.base_blocks.specs.Lists.{listed, all, total}
use Rattle.base_tables.specs.Records.{table}
use Rattle.base_unequal.specs.Unequal.{starts_fit}
use Rattle.pool_rules.specs.Model.{PoolModel}
use Rattle.pool_rules.specs.Open.{opened}
use Rattle.pool_rules.specs.Formed.{Formed}
use Rattle.pool_rules.proofs.Closure.{opened_formed}
use Rattle.pool_memory.specs.Lent.{Lent, lent}
use Rattle.pool_memory.specs.Reading.{states_read, model_of}
use Rattle.pool_memory.specs.IsPool.{sizes_fit, starts_hold, tilings_fit, bytes_fit}
use Rattle.pool_memory.specs.Calls.{opened_pool, opened_book}
use Rattle.pool_memory.proofs.Fits.{Fits}
use Rattle.pool_memory.proofs.FromPool.{are_places_lem, whole_textures, whole_retiring, whole_doomed, whole_spares, whole_stamps, whole_newest, some_version, most_versions_lem, most_pages_lem}

module _ (working : ℕ) (textures retiring doomed spares newest stamps : List ℕ) where
  abbrev new : Lent
  new = lent (opened_pool working) opened_book textures retiring doomed spares newest stamps

  pub opened_model : model_of new ≡ opened (model_of new).places working
  unfolding model_of opened_pool opened_book table listed states_read
  opened_model = refl

  pub opened_fits : sizes_fit new ≡ true → Fits new
  unfolding opened_pool opened_book table listed all total starts_fit starts_hold tilings_fit bytes_fit
  opened_fits e = record {
    places = are_places_lem new e;
    textures = whole_textures new e;
    retiring = whole_retiring new e;
    doomed = whole_doomed new e;
    spares = whole_spares new e;
    stamps = whole_stamps new e;
    newest = whole_newest new e;
    least = some_version new e;
    most = most_versions_lem new e;
    most_pages_lem = most_pages_lem new e;
    tracked = omega arith;
    head = some_version new e;
    first = some_version new e;
    hand = omega arith;
    versions = omega arith;
    grids = omega arith;
    stamps_counted = omega arith;
    kept = refl;
    claimed = refl;
    stamps_claimed = refl;
    starts = refl;
    tilings = refl;
    bytes = refl;
    mark = omega arith;
    formed = subst (λ (p : PoolModel ℕ). Formed p) (sym opened_model) (opened_formed (model_of new).places (are_places_lem new e) working);
  }
