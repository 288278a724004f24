-- Rule: Views are only carried: a pool with one kind of view read as a pool with another.
use Rattle.std.proofs.Math.Option
use Rattle.std.specs.Prelude.{map}
use Rattle.pool_rules.specs.Model.{Spare, Retiring, Doomed, VersionState, PoolModel}

module _ {W X : Type 0} (f : W → X) where
  abbrev pub map_spare : Spare W → Spare X
  map_spare s = record { view = f s.view; held = s.held; parked = s.parked }

  abbrev pub map_retiring : Retiring W → Retiring X
  map_retiring v = record { id = v.id; view = f v.view; seq = v.seq; epoch = v.epoch; birth = v.birth; held = v.held; bytes = v.bytes }

  abbrev pub map_doomed : Doomed W → Doomed X
  map_doomed d = record { view = f d.view; bytes = d.bytes }

  abbrev pub map_state : VersionState W → VersionState X
  map_state t = record {
    id = t.id;
    shape = t.shape;
    epoch = t.epoch;
    history = t.history;
    birth = t.birth;
    rename = t.rename;
    due = t.due;
    spares = map map_spare t.spares;
  }

  abbrev pub map_pool : PoolModel W → PoolModel X
  map_pool p = record {
    textures = map map_state p.textures;
    retiring = map map_retiring p.retiring;
    hand = Option.map map_retiring p.hand;
    doomed = map map_doomed p.doomed;
    since = p.since;
    trackings = p.trackings;
    parked = p.parked;
    dooming = p.dooming;
    places = p.places;
    budget = p.budget;
    pacing = p.pacing;
  }
