-- The calls on the queue, the hand and the destroy queue leave a formed pool: retire, pop_retired, park, take_doomed, drain_versions.
-- Assumes nothing.
use Prim.Native.Nat.{ℕ, suc, ◌+◌, ◌*◌, ◌≤◌, ◌<◌}
use mathlib.Core.Path.{◌≡◌, refl, sym, ◌∙◌, ap}
use mathlib.Core.Bool.{Bool, true, false, ◌||◌}
use mathlib.Core.Option.{Option, none, some}
use mathlib.Core.List.{List, [], ◌∷◌, ◌++◌, map}
use native.Mathlib.Omega.{arith}
use native.Mathlib.Nat.{mod-lt, mul-zero, mul-one, mul-add}
use lib.ListN.{length, length-append, length-map, length-set}
use lib.Dec.{leb, ltb, eqb}
use borrow.Author.Tests.{ltb-false, leb-false}
use Rattle.base_blocks.specs.Lists.{total}
use Rattle.base_blocks.specs.All.{nil, cons}
use Rattle.base_blocks.proofs.Lists.{either, total_append}
use Rattle.base_blocks.proofs.All.{all_head, all_tail, all_both, all_drop, all_map}
use Rattle.grid_shapes.specs.declared.shape.VersionShape.{VersionShape}
use Rattle.grid_shapes.specs.Shapes.{bytes_of}
use Rattle.grid_shapes.proofs.ShapeBytes.{bytes_bound}
use Rattle.pool_rules.specs.declared.held.Held.TheVariants.{Known, Unknown}
use Rattle.pool_rules.specs.Model.{WriteHistory, Spare, Retiring, Doomed, VersionState, PoolModel, accepted, find, limit, writes_of, spare_bytes, hand_count, versions_used}
use Rattle.pool_rules.specs.HistorySizes.{stamps_used}
use Rattle.pool_rules.specs.Updates.{with_spares, with_birth, with_textures, with_retiring, with_parked, change, doom}
use Rattle.pool_rules.specs.Retire.{retire, retired}
use Rattle.pool_rules.specs.PopRetired.{pop_retired, pop_front, is_held}
use Rattle.pool_rules.specs.Park.{park, park_hand, park_found, park_tracked, park_lost, as_spare, aborted}
use Rattle.pool_rules.specs.TakeDoomed.{take_doomed, batch}
use Rattle.pool_rules.specs.DrainVersions.{drain_versions}
use Rattle.pool_rules.specs.Formed.{Given, HeldFormed, HistoryFormed, SpareFormed, RetiringFormed, DoomedFormed, StateFormed, Formed}
use Rattle.pool_rules.specs.Closed.{OutFormed, refusal_formed, formed}
use Rattle.pool_rules.proofs.Lists.{total_cut, total_map, length_cut, all_set, all_replicate}
use Rattle.pool_rules.proofs.States.{ascending_map, ascending_change, all_change, find_all, length_change, total_unchanged, total_change}
use Rattle.pool_rules.proofs.Moves.{guarded, spare_count}
use Rattle.pool_rules.specs.RuleConstants.{destroy_spread_drains, most_places}

-- where none of two holds, the second does not
or_false : (a b : Bool) → (a || b) ≡ false → b ≡ false
or_false true b e = absurd (let z : ◌≡◌ {A = ℕ} 0 1 = cc in let y : ⊥ = omega arith in y)
or_false false b e = e

module _ {W : Type 0} where
  -- ---- take_doomed and drain_versions

  none_parked : (ts : List (VersionState W)) → total spare_bytes (map (with_spares []) ts) ≡ 0
  unfolding total
  none_parked [] = refl
  none_parked (t ∷ ts) = omega (arith, none_parked ts, mul-zero (bytes_of t.shape))

  none_spare : (ts : List (VersionState W)) → total spare_count (map (with_spares []) ts) ≡ 0
  unfolding total
  none_spare [] = refl
  none_spare (t ∷ ts) = omega (arith, none_spare ts)

  emptied : (t : VersionState W) → StateFormed t → StateFormed (with_spares [] t)
  emptied t f = record {
    shape = f.shape;
    epoch = f.epoch;
    birth = f.birth;
    rename = f.rename;
    due = f.due;
    history = f.history;
    spares = nil;
  }

  module _ (p : PoolModel W) (f : Formed p) where
    since_bound : p.since ≤ most_places
    since_bound = omega (arith, f.since, f.versions, f.most)

    pub take_doomed_formed : (buffer : ℕ) → OutFormed (take_doomed p buffer)
    unfolding take_doomed
    take_doomed_formed buffer =
        guarded _ _ (λ e. formed (record {
          ids = f.ids;
          textures = f.textures;
          retiring = f.retiring;
          hand = f.hand;
          doomed = all_drop (batch p) f.doomed;
          trackings = f.trackings;
          places = f.places;
          versions = omega (arith, f.versions, length_cut (batch p) p.doomed);
          stamps = f.stamps;
          parked = f.parked;
          dooming = omega (arith, f.dooming, total_cut (λ (d : Doomed W). d.bytes) (batch p) p.doomed);
          cap = f.cap;
          slot = mod-lt (suc p.pacing.slot) {m = destroy_spread_drains} (omega arith);
          eight = length-set p.pacing.arrivals p.pacing.slot p.since ∙ f.eight;
          arrivals = all_set p.pacing.slot p.since since_bound f.arrivals;
          since = omega arith;
          most = f.most;
        }))

    pub drain_versions_formed : (buffer : ℕ) → OutFormed (drain_versions p buffer)
    unfolding drain_versions total
    drain_versions_formed buffer =
        guarded _ _ (λ e. formed (record {
          ids = ascending_map (with_spares []) (λ t. refl) f.ids;
          textures = all_map (with_spares []) emptied f.textures;
          retiring = nil;
          hand = f.hand;
          doomed = nil;
          trackings = f.trackings;
          places = omega (arith, f.places, length-map p.textures (with_spares []));
          versions = omega (arith, f.versions, none_spare p.textures);
          stamps = omega (arith, f.stamps, total_map stamps_used (with_spares []) (λ t. refl) p.textures);
          parked = sym (none_parked p.textures);
          dooming = refl;
          cap = omega arith;
          slot = omega (arith, f.slot);
          eight = refl;
          arrivals = all_replicate destroy_spread_drains 0 (omega arith);
          since = omega arith;
          most = f.most;
        }))

    -- ---- pop_retired

    popped : (settled : ℕ) → p.hand ≡ none → (queue : List (Retiring W)) → p.retiring ≡ queue → OutFormed (pop_front p settled queue)
    popped settled free [] e = formed f
    popped settled free (v ∷ vs) e =
        either OutFormed (leb v.seq settled) (accepted (some v) (with_retiring vs (some v) p)) (accepted none p)
        (λ q. formed (record {
          ids = f.ids;
          textures = f.textures;
          retiring = all_tail (rw e at f.retiring);
          hand = all_head (rw e at f.retiring);
          doomed = f.doomed;
          trackings = f.trackings;
          places = f.places;
          versions = omega (arith, f.versions, ap (λ (l : List (Retiring W)). length l) e, ap hand_count free);
          stamps = f.stamps;
          parked = f.parked;
          dooming = f.dooming;
          cap = f.cap;
          slot = f.slot;
          eight = f.eight;
          arrivals = f.arrivals;
          since = f.since;
          most = f.most;
        }))
        (λ q. formed f)

    hand_free : (hand : Option (Retiring W)) → is_held hand ≡ false → hand ≡ none
    hand_free none e = refl
    hand_free (some v) e = absurd (let z : ◌≡◌ {A = ℕ} 0 1 = cc in let y : ⊥ = omega arith in y)

    pub pop_retired_formed : (settled : ℕ) → OutFormed (pop_retired p settled)
    unfolding pop_retired
    pop_retired_formed settled = guarded _ _ (λ a. guarded _ _ (λ b. popped settled (hand_free p.hand b) p.retiring refl))

    -- ---- retire

    writes_bound : (s : VersionShape) (h : Option WriteHistory) → Given (HistoryFormed s) h → writes_of h ≤ limit
    writes_bound s none k = omega arith
    writes_bound s (some h) k = k.writes

    retired_formed : (id : ℕ) (view : W) (seq : ℕ) → seq ≤ limit → (o : Option (VersionState W)) → find id p.textures ≡ o
        → RetiringFormed (retired id view seq o)
    retired_formed id view seq le none e = record { seq = le; epoch = omega arith; birth = omega arith; held = omega arith; bytes = omega arith }
    retired_formed id view seq le (some t) e =
        let s = find_all StateFormed id t p.textures f.textures e in
        record { seq = le; epoch = s.epoch; birth = s.birth; held = writes_bound t.shape t.history s.history; bytes = bytes_bound t.shape s.shape }

    reborn : (seq : ℕ) → seq ≤ limit → (t : VersionState W) → StateFormed t → StateFormed (with_birth seq t)
    reborn seq le t s = record {
      shape = s.shape;
      epoch = s.epoch;
      birth = le;
      rename = s.rename;
      due = s.due;
      history = s.history;
      spares = s.spares;
    }

    queued : (id seq : ℕ) → seq ≤ limit → versions_used p < p.places.versions → (v : Retiring W) → RetiringFormed v
        → Formed (with_textures (change id (with_birth seq) p.textures) (with_retiring (p.retiring ++ (v ∷ [])) p.hand p))
    queued id seq le free v formed-v = record {
      ids = ascending_change id (with_birth seq) (λ t q. refl) f.ids;
      textures = all_change id (with_birth seq) (λ t q s. reborn seq le t s) (λ t s. s) f.textures;
      retiring = all_both f.retiring (cons formed-v nil);
      hand = f.hand;
      doomed = f.doomed;
      trackings = f.trackings;
      places = omega (arith, f.places, length_change id (with_birth seq) p.textures);
      versions = omega (
        arith,
        free,
        length-append p.retiring (v ∷ []),
        total_unchanged spare_count id (with_birth seq) (λ t. refl) p.textures,
      );
      stamps = omega (arith, f.stamps, total_unchanged stamps_used id (with_birth seq) (λ t. refl) p.textures);
      parked = f.parked ∙ sym (total_unchanged spare_bytes id (with_birth seq) (λ t. refl) p.textures);
      dooming = f.dooming;
      cap = f.cap;
      slot = f.slot;
      eight = f.eight;
      arrivals = f.arrivals;
      since = f.since;
      most = f.most;
    }

    pub retire_formed : (id : ℕ) (view : W) (seq : ℕ) → OutFormed (retire p id view seq)
    unfolding retire
    retire_formed id view seq =
        guarded _ _ (λ a. guarded _ _ (λ b. guarded _ _ (λ c. formed (queued id seq (omega (arith, ltb-false)) (omega (arith, leb-false))
        (retired id view seq (find id p.textures)) (retired_formed id view seq (omega (arith, ltb-false)) (find id p.textures) refl)))))

  -- ---- park

  module _ (p : PoolModel W) (f : Formed p) (v : Retiring W) (held : p.hand ≡ some v) where
    hand_formed : RetiringFormed v
    hand_formed = rw held at f.hand

    -- the hand's version goes to the destroy queue
    hand_doomed_lem : (d : Doomed W) → DoomedFormed d → Formed (doom (d ∷ []) (with_retiring p.retiring none p))
    unfolding total
    hand_doomed_lem d formed-d = record {
      ids = f.ids;
      textures = f.textures;
      retiring = f.retiring;
      hand = tt;
      doomed = all_both f.doomed (cons formed-d nil);
      trackings = f.trackings;
      places = f.places;
      versions = omega (arith, f.versions, ap hand_count held, length-append p.doomed (d ∷ []));
      stamps = f.stamps;
      parked = f.parked;
      dooming = omega (arith, f.dooming, total_append (λ (d : Doomed W). d.bytes) p.doomed (d ∷ []));
      cap = f.cap;
      slot = f.slot;
      eight = f.eight;
      arrivals = f.arrivals;
      since = omega (arith, f.since, length-append p.doomed (d ∷ []));
      most = f.most;
    }

    module _ (failed now : ℕ) (le : now ≤ limit) (t : VersionState W) (found : find v.id p.textures ≡ some t) where
      abbrev spare : Spare W
      spare = as_spare failed now v

      spare_formed : SpareFormed spare
      spare_formed = record {
        held = either HeldFormed (aborted failed v) Unknown (Known v.held) (λ e. tt) (λ e. hand_formed.held);
        parked = le;
      }

      abbrev gains : VersionState W → VersionState W
      gains u = with_spares (u.spares ++ (spare ∷ [])) u

      gained : (u : VersionState W) → StateFormed u → StateFormed (gains u)
      gained u s = record {
        shape = s.shape;
        epoch = s.epoch;
        birth = s.birth;
        rename = s.rename;
        due = s.due;
        history = s.history;
        spares = all_both s.spares (cons spare_formed nil);
      }

      gained_bytes : spare_bytes (gains t) ≡ spare_bytes t + bytes_of t.shape
      gained_bytes =
          rw (length-append t.spares (spare ∷ [])) (mul-add (bytes_of t.shape) (length t.spares) 1 ∙ ap (λ (n : ℕ). bytes_of t.shape * length t.spares + n) (mul-one (bytes_of t.shape)))

      hand_parked : p.parked + bytes_of t.shape ≤ p.budget.cap
          → Formed (with_parked (p.parked + bytes_of t.shape) (with_textures (change v.id gains p.textures) (with_retiring p.retiring none p)))
      hand_parked fits = record {
        ids = ascending_change v.id gains (λ u q. refl) f.ids;
        textures = all_change v.id gains (λ u q s. gained u s) (λ u s. s) f.textures;
        retiring = f.retiring;
        hand = tt;
        doomed = f.doomed;
        trackings = f.trackings;
        places = omega (arith, f.places, length_change v.id gains p.textures);
        versions = omega (
          arith,
          f.versions,
          ap hand_count held,
          total_change spare_count v.id gains t p.textures f.ids found,
          length-append t.spares (spare ∷ []),
        );
        stamps = omega (arith, f.stamps, total_unchanged stamps_used v.id gains (λ u. refl) p.textures);
        parked = omega (arith, f.parked, total_change spare_bytes v.id gains t p.textures f.ids found, gained_bytes);
        dooming = f.dooming;
        cap = fits;
        slot = f.slot;
        eight = f.eight;
        arrivals = f.arrivals;
        since = f.since;
        most = f.most;
      }

  module _ (p : PoolModel W) (f : Formed p) (failed now : ℕ) where
    found_parked : now ≤ limit → (v : Retiring W) → p.hand ≡ some v → (o : Option (VersionState W)) → find v.id p.textures ≡ o
        → Formed (park_found (with_retiring p.retiring none p) failed now v o)
    found_parked le v held none e = hand_doomed_lem p f v held _ (record { bytes = (hand_formed p f v held).bytes })
    found_parked le v held (some t) e =
        let s = find_all StateFormed v.id t p.textures f.textures e in
        either Formed (eqb t.epoch v.epoch) (park_tracked (with_retiring p.retiring none p) failed now v t) (park_lost (with_retiring p.retiring none p) v)
        (λ same. either Formed (p.pacing.pressed || ltb p.budget.cap _) _ _
        (λ full. hand_doomed_lem p f v held _ (record { bytes = bytes_bound t.shape s.shape }))
        (λ room. hand_parked p f v held failed now le t e (omega (arith, ltb-false p.budget.cap _ (or_false p.pacing.pressed _ room)))))
        (λ other. hand_doomed_lem p f v held _ (record { bytes = (hand_formed p f v held).bytes }))

    hand_out : now ≤ limit → (hand : Option (Retiring W)) → p.hand ≡ hand → OutFormed (park_hand p failed now hand)
    hand_out le none e = refusal_formed
    hand_out le (some v) e = formed (found_parked le v e (find v.id p.textures) refl)

    pub park_formed : OutFormed (park p failed now)
    unfolding park
    park_formed = guarded _ _ (λ e. hand_out (ltb-false _ _ (or_false (ltb limit failed) (ltb limit now) e)) p.hand refl)
