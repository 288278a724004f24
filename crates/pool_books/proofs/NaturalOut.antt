-- The same of the calls that hand versions out or queue them for destruction.
use Prim.Native.Nat.{ℕ, suc, ◌+◌, ◌-◌, ◌%◌, min, max}
use mathlib.Core.Path.{◌≡◌, refl, ◌∙◌, ap, ap₂, sym}
use mathlib.Core.Bool.{cond, not, ◌&&◌}
use mathlib.Core.List.{List, [], ◌∷◌, ◌++◌, map, flat_map}
use lib.ListN.{length, take, drop, length-map, replicate}
use lib.Dec.{ltb, eqb}
use Rattle.base_blocks.specs.Lists.{ceil_div, keep, total}
use Rattle.grid_shapes.specs.Shapes.{bytes_of}
use Rattle.pool_rules.specs.Model.{Spare, Retiring, Doomed, VersionState, PoolModel, doomed_bytes}
use Rattle.pool_rules.specs.Updates.{with_spares, with_textures, with_retiring, with_parked, with_doomed, with_pacing, as_doomed, doom_spares}
use Rattle.pool_rules.specs.NoteAllocated.{Aged, aged_of, by_age, picked, picked_in, count_of, pressed_after, relieved, note_allocated}
use Rattle.pool_rules.specs.TakeDoomed.{arrived, paced, cover_more, batch, take_doomed}
use Rattle.pool_rules.specs.DrainVersions.{every_view, drain_versions}
use Rattle.pool_rules.specs.Trim.{aged, aged_count, thinned, is_empty, idle, looked_at, trim}
use Rattle.pool_rules.specs.ForgetTexture.{forget_texture}
use Rattle.pool_books.specs.Carry.{map_spare, map_retiring, map_doomed, map_state, map_pool}
use Rattle.pool_books.proofs.Mapped.{map_cond, map_both, map_take, map_drop, map_keep, map_swap, map_over, map_flat, flat_over}
use Rattle.pool_books.proofs.Natural.{Carried, alike, guard_eq, bytes_map, spares_map, as_doomed_lem}
use mathlib.Core.Option
use Rattle.pool_rules.specs.RuleConstants.{destroy_spread_drains, min_destroys_per_drain, spare_max_idle_submits}

module _ {W X : Type 0} (f : W → X) where
  cover_map : (a b : ℕ) (ds : List (Doomed W)) → cover_more a b (map (map_doomed f) ds) ≡ cover_more a b ds
  unfolding cover_more
  cover_map a b [] = refl
  cover_map a b (d ∷ ds) = ap (λ n. cond (ltb a b) (suc n) 0) (cover_map (a + d.bytes) b ds)

  aged_map : (now : ℕ) (ss : List (Spare W)) → aged_count now (map (map_spare f) ss) ≡ aged_count now ss
  unfolding aged_count
  aged_map now [] = refl
  aged_map now (s ∷ ss) = ap (λ n. cond (ltb (s.parked + spare_max_idle_submits) now) (suc n) 0) (aged_map now ss)

  empty_map : (ss : List (Spare W)) → is_empty (map (map_spare f) ss) ≡ is_empty ss
  empty_map [] = refl
  empty_map (s ∷ ss) = refl

  -- the oldest n spares, queued for destruction
  oldest_map : (n : ℕ) (t : VersionState W) → as_doomed (bytes_of t.shape) (take n (map (map_spare f) t.spares)) ≡ map (map_doomed f) (as_doomed (bytes_of t.shape) (take n t.spares))
  oldest_map n t = ap (as_doomed (bytes_of t.shape)) (map_take (map_spare f) n t.spares) ∙ as_doomed_lem f (bytes_of t.shape) (take n t.spares)

  module _ (p : PoolModel W) where
    -- ---- forget_texture

    pub forget_map : (id : ℕ) → Carried f (λ (a : Unit {0}). a) (forget_texture p id) (forget_texture (map_pool f p) id)
    unfolding forget_texture
    forget_map id =
        alike refl
        ((λ i. doom_spares
        (map_flat (map_state f) (λ (t : VersionState X). cond (eqb t.id id) (as_doomed (bytes_of t.shape) t.spares) [])
        (λ (t : VersionState W). cond (eqb t.id id) (as_doomed (bytes_of t.shape) t.spares) []) (map_doomed f)
        (λ t. map_cond (map (map_doomed f)) (eqb t.id id) (as_doomed_lem f (bytes_of t.shape) t.spares) refl) p.textures i)
        (with_textures
        (map_keep (map_state f) (λ (t : VersionState X). not (eqb t.id id)) (λ (t : VersionState W). not (eqb t.id id)) (λ t. refl) p.textures i) (map_pool f p)))
        ∙ spares_map f (flat_map (λ (t : VersionState W). cond (eqb t.id id) (as_doomed (bytes_of t.shape) t.spares) []) p.textures)
        (with_textures (keep (λ (t : VersionState W). not (eqb t.id id)) p.textures) p))

    -- ---- note_allocated

    picked_map : (excess : ℕ) → picked_in excess (map_pool f p) ≡ picked_in excess p
    picked_map excess =
        ap (λ (vs : List Aged). picked p.dooming excess (by_age vs))
        (flat_over (map_state f) (aged_of {W = X}) (aged_of {W = W})
        (λ t. map_over (map_spare f) (λ (s : Spare X). record { parked = s.parked; id = t.id; bytes = bytes_of t.shape })
        (λ (s : Spare W). record { parked = s.parked; id = t.id; bytes = bytes_of t.shape }) (λ s. refl) t.spares) p.textures)

    relieve_map : (chosen : List Aged) → relieved chosen (map_pool f p) ≡ map_pool f (relieved chosen p)
    relieve_map chosen =
        (λ i. doom_spares
        (map_flat (map_state f) (λ (t : VersionState X). as_doomed (bytes_of t.shape) (take (count_of t.id chosen) t.spares))
        (λ (t : VersionState W). as_doomed (bytes_of t.shape) (take (count_of t.id chosen) t.spares)) (map_doomed f) (λ t. oldest_map (count_of t.id chosen) t) p.textures i)
        (with_textures
        (map_swap (map_state f) (λ (t : VersionState X). with_spares (drop (count_of t.id chosen) t.spares) t)
        (λ (t : VersionState W). with_spares (drop (count_of t.id chosen) t.spares) t) (map_state f)
        (λ t j. with_spares (map_drop (map_spare f) (count_of t.id chosen) t.spares j) (map_state f t)) p.textures i)
        (map_pool f p)))
        ∙ spares_map f (flat_map (λ (t : VersionState W). as_doomed (bytes_of t.shape) (take (count_of t.id chosen) t.spares)) p.textures)
        (with_textures (map (λ (t : VersionState W). with_spares (drop (count_of t.id chosen) t.spares) t) p.textures) p)

    pub note_map : (n : ℕ) → Carried f (λ (a : Unit {0}). a) (note_allocated p n) (note_allocated (map_pool f p) n)
    unfolding note_allocated
    note_map n =
        alike refl
        (ap
        (λ q. with_pacing
        (record {
          arrivals = p.pacing.arrivals;
          slot = p.pacing.slot;
          pressed = pressed_after p.budget n p.pacing.pressed;
          excess = n - p.budget.line;
        })
        q)
        (ap (λ chosen. relieved chosen (map_pool f p)) (picked_map (n - p.budget.line)) ∙ relieve_map (picked_in (n - p.budget.line) p)))

    -- ---- take_doomed

    paced_map : paced (map_pool f p) ≡ paced p
    paced_map = ap (λ n. min (max min_destroys_per_drain (ceil_div (total (λ (n : ℕ). n) (arrived p)) destroy_spread_drains + ceil_div n destroy_spread_drains)) n) (length-map p.doomed (map_doomed f))

    batch_map : batch (map_pool f p) ≡ batch p
    batch_map =
        ap (λ n. n + cover_more (doomed_bytes (take n (map (map_doomed f) p.doomed))) p.pacing.excess (drop n (map (map_doomed f) p.doomed))) paced_map
        ∙ ap (λ n. paced p + n)
        (ap₂ (λ a d. cover_more (doomed_bytes a) p.pacing.excess d) (map_take (map_doomed f) (paced p) p.doomed) (map_drop (map_doomed f) (paced p) p.doomed)
        ∙ ap (λ n. cover_more n p.pacing.excess (map (map_doomed f) (drop (paced p) p.doomed))) (bytes_map f (take (paced p) p.doomed))
        ∙ cover_map (doomed_bytes (take (paced p) p.doomed)) p.pacing.excess (drop (paced p) p.doomed))

    views_map : (ds : List (Doomed W)) → map (λ (d : Doomed X). d.view) (map (map_doomed f) ds) ≡ map f (map (λ (d : Doomed W). d.view) ds)
    views_map ds = map_swap (map_doomed f) (λ (d : Doomed X). d.view) (λ (d : Doomed W). d.view) f (λ d. refl) ds

    taken_map : take (batch (map_pool f p)) (map (map_doomed f) p.doomed) ≡ map (map_doomed f) (take (batch p) p.doomed)
    taken_map = ap (λ b. take b (map (map_doomed f) p.doomed)) batch_map ∙ map_take (map_doomed f) (batch p) p.doomed

    pub doomed_map : (n : ℕ) → Carried f (map f) (take_doomed p n) (take_doomed (map_pool f p) n)
    unfolding take_doomed
    doomed_map n =
        guard_eq f _ _ 11 (ap (ltb n) batch_map)
        (alike (ap (map (λ (d : Doomed X). d.view)) taken_map ∙ views_map (take (batch p) p.doomed))
        (λ i. with_pacing (record { arrivals = arrived p; slot = suc p.pacing.slot % destroy_spread_drains; pressed = p.pacing.pressed; excess = 0 })
        (with_doomed ((ap (λ b. drop b (map (map_doomed f) p.doomed)) batch_map ∙ map_drop (map_doomed f) (batch p) p.doomed) i) 0
        (p.dooming - (ap doomed_bytes taken_map ∙ bytes_map f (take (batch p) p.doomed)) i) (map_pool f p))))

    -- ---- drain_versions

    every_map : every_view (map_pool f p) ≡ map f (every_view p)
    every_map =
        ap₂ ◌++◌ (map_swap (map_retiring f) (λ (v : Retiring X). v.view) (λ (v : Retiring W). v.view) f (λ v. refl) p.retiring)
        (ap₂ ◌++◌ (views_map p.doomed)
        (map_flat (map_state f) (λ (t : VersionState X). map (λ (s : Spare X). s.view) t.spares) (λ (t : VersionState W). map (λ (s : Spare W). s.view) t.spares) f
        (λ t. map_swap (map_spare f) (λ (s : Spare X). s.view) (λ (s : Spare W). s.view) f (λ s. refl) t.spares) p.textures)
        ∙ sym (map_both f doomed_views spare_views))
        ∙ sym (map_both f (map (λ (v : Retiring W). v.view) p.retiring) (doomed_views ++ spare_views))
      where
        doomed_views : List W
        doomed_views = map (λ (d : Doomed W). d.view) p.doomed

        spare_views : List W
        spare_views = flat_map (λ (t : VersionState W). map (λ (s : Spare W). s.view) t.spares) p.textures

    pub drain_map : (n : ℕ) → Carried f (map f) (drain_versions p n) (drain_versions (map_pool f p) n)
    unfolding drain_versions
    drain_map n =
        guard_eq f _ _ 11 (ap (λ l. ltb n (length l)) every_map ∙ ap (ltb n) (length-map (every_view p) f))
        (alike every_map
        (λ i. with_pacing (record { arrivals = replicate destroy_spread_drains 0; slot = p.pacing.slot; pressed = p.pacing.pressed; excess = p.pacing.excess })
        (with_parked 0
        (with_doomed [] 0 0
        (with_retiring [] (Option.map (map_retiring f) p.hand)
        (with_textures (map_swap (map_state f) (with_spares []) (with_spares []) (map_state f) (λ t. refl) p.textures i) (map_pool f p)))))))

    -- ---- trim

    thin_map : (now : ℕ) (t : VersionState W) → thinned now (map_state f t) ≡ map_state f (thinned now t)
    thin_map now t =
        λ i. with_spares ((ap (λ n. drop n (map (map_spare f) t.spares)) (aged_map now t.spares) ∙ map_drop (map_spare f) (aged_count now t.spares) t.spares) i) (map_state f t)

    idle_map : (now : ℕ) (t : VersionState W) → not (idle now (map_state f t)) ≡ not (idle now t)
    idle_map now t = ap (λ b. not (aged now t.due && (aged now t.rename && b))) (empty_map t.spares)

    pub trim_map : (now : ℕ) → Carried f (λ (a : Unit {0}). a) (trim p now) (trim (map_pool f p) now)
    unfolding trim
    trim_map now =
        guard_eq f _ _ 3 refl
        (alike refl
        ((λ i. doom_spares
        (map_flat (map_state f) (λ (t : VersionState X). as_doomed (bytes_of t.shape) (take (aged_count now t.spares) t.spares))
        (λ (t : VersionState W). as_doomed (bytes_of t.shape) (take (aged_count now t.spares) t.spares)) (map_doomed f)
        (λ t. ap (λ n. as_doomed (bytes_of t.shape) (take n (map (map_spare f) t.spares))) (aged_map now t.spares) ∙ oldest_map (aged_count now t.spares) t) p.textures i)
        (with_textures (states i) (map_pool f p)))
        ∙ spares_map f (flat_map (λ (t : VersionState W). as_doomed (bytes_of t.shape) (take (aged_count now t.spares) t.spares)) p.textures)
        (with_textures (map (looked_at now) (keep (λ (t : VersionState W). not (idle now t)) (map (thinned now) p.textures))) p)))
      where
        states : map (looked_at now) (keep (λ (t : VersionState X). not (idle now t)) (map (thinned now) (map (map_state f) p.textures)))
            ≡ map (map_state f) (map (looked_at now) (keep (λ (t : VersionState W). not (idle now t)) (map (thinned now) p.textures)))
        states =
            ap (λ l. map (looked_at now) (keep (λ (t : VersionState X). not (idle now t)) l)) (map_swap (map_state f) (thinned now) (thinned now) (map_state f) (thin_map now) p.textures)
            ∙ ap (map (looked_at now))
            (map_keep (map_state f) (λ (t : VersionState X). not (idle now t)) (λ (t : VersionState W). not (idle now t)) (idle_map now) (map (thinned now) p.textures))
            ∙ map_swap (map_state f) (looked_at now) (looked_at now) (map_state f) (λ t. map_cond (map_state f) (aged now t.due) refl refl)
            (keep (λ (t : VersionState W). not (idle now t)) (map (thinned now) p.textures))
