-- The calls of a rename and of writes leave a formed pool: take_spare, preserve_plan, note_write, note_mip_regeneration. Assumes nothing.
use Prim.Native.Nat.{ℕ, suc, ◌+◌, ◌-◌, ◌*◌, ◌≤◌, ◌<◌}
use mathlib.Core.Path.{◌≡◌, refl, sym, ◌∙◌, subst}
use mathlib.Core.Bool.{Bool, true, false, cond, ◌&&◌}
use mathlib.Core.Option.{Option, none, some}
use mathlib.Core.List.{List, [], ◌∷◌}
use native.Mathlib.Omega.{arith}
use native.Mathlib.Nat.{mul-zero, mul-suc}
use lib.ListN.{length, length-append}
use borrow.Author.Tests.{ltb-false, leb-false, not-false}
use Rattle.base_blocks.specs.Lists.{total}
use Rattle.base_blocks.specs.All.{All, nil, cons}
use Rattle.base_blocks.proofs.Lists.{either, total_append}
use Rattle.base_blocks.proofs.All.{all_both}
use Rattle.grid_shapes.specs.declared.shape.VersionShape.{VersionShape}
use Rattle.grid_shapes.specs.Shapes.{is_shape, same_shape, bytes_of}
use Rattle.grid_rects.specs.declared.rect.TexelRect.{TexelRect}
use Rattle.grid_stamps.specs.StampConstants.{page_stamps}
use Rattle.pool_rules.specs.declared.held.Held.{Held}
use Rattle.pool_rules.specs.Model.{WriteHistory, Spare, Doomed, VersionState, PoolModel, UploadFootprint, find, limit, has_history, spare_bytes}
use Rattle.pool_rules.specs.HistorySizes.{history_size, stamps_used}
use Rattle.pool_rules.specs.Updates.{with_history, with_spares, with_rename, with_textures, with_parked, change, as_doomed}
use Rattle.pool_rules.specs.Histories.{new_history, in_shape, written, regenerated, spent}
use Rattle.pool_rules.specs.TakeSpare.{take_spare, take_found, take_new, take_tracked, take_renewed, new_state, newest, others, taken_bytes}
use Rattle.pool_rules.specs.PreservePlan.{preserve_plan, plan_found}
use Rattle.pool_rules.specs.NoteWrite.{note_write, note_mip_regeneration, history_in, write_spent}
use Rattle.pool_rules.specs.Formed.{Given, HistoryFormed, SpareFormed, StateFormed, Formed}
use Rattle.pool_rules.specs.Closed.{OutFormed, formed}
use Rattle.pool_rules.proofs.Lists.{all_pairs}
use Rattle.pool_rules.proofs.States.{ascending_change, ascending_insert, all_insert, all_change, find_all, find_none, find_only, find_part, length_change, length_insert, total_insert, total_unchanged, total_not_raised, total_change}
use Rattle.pool_rules.proofs.GridsFormed.{new_formed, written_formed, regenerated_formed, written_stamps, regenerated_stamps}
use Rattle.pool_rules.proofs.HistorySizes.{stamps_fit, new_stamps}
use Rattle.pool_rules.proofs.Moves.{guarded, spare_count, as_doomed_bytes, as_doomed_length, as_doomed_formed}

module _ {W : Type 0} (p : PoolModel W) (f : Formed p) where
  -- ---- preserve_plan

  pub preserve_plan_formed : (id : ℕ) (shape : VersionShape) (held : Held) (upload : UploadFootprint) (buffer : ℕ)
      → OutFormed (preserve_plan p id shape held upload buffer)
  unfolding preserve_plan
  preserve_plan_formed id shape held upload buffer = guarded _ _ (λ e. go (find id p.textures))
    where
      go : (o : Option (VersionState W)) → OutFormed (plan_found p shape held upload buffer o)
      go none = guarded _ _ (λ a. guarded _ _ (λ b. formed f))
      go (some t) = guarded _ _ (λ a. guarded _ _ (λ b. guarded _ _ (λ c. formed f)))

  -- ---- note_write and note_mip_regeneration

  -- histories change, and nothing else; q is what is known of the states besides
  histories_changed : (id : ℕ) (k : VersionState W → Option WriteHistory)
      → ((t : VersionState W) → cond (has_history (k t)) (history_size t.shape) 0 ≤ stamps_used t) → (q : VersionState W → Type 0) → All q p.textures
      → ((t : VersionState W) → t.id ≡ id → q t → StateFormed t → Given (HistoryFormed t.shape) (k t))
      → Formed (with_textures (change id (λ (t : VersionState W). with_history (k t) t) p.textures) p)
  histories_changed id k stamps q qs h =
      let g : VersionState W → VersionState W = λ t. with_history (k t) t in
      record {
        ids = ascending_change id g (λ t e. refl) f.ids;
        textures = all_change id g (λ t e x. anew t x.1 (k t) (h t e x.0 x.1)) (λ t x. x.1) (all_pairs qs f.textures);
        retiring = f.retiring;
        hand = f.hand;
        doomed = f.doomed;
        trackings = f.trackings;
        places = omega (arith, f.places, length_change id g p.textures);
        versions = omega (arith, f.versions, total_unchanged spare_count id g (λ t. refl) p.textures);
        stamps = omega (arith, f.stamps, total_not_raised stamps_used id g stamps p.textures);
        parked = f.parked ∙ sym (total_unchanged spare_bytes id g (λ t. refl) p.textures);
        dooming = f.dooming;
        cap = f.cap;
        slot = f.slot;
        eight = f.eight;
        arrivals = f.arrivals;
        since = f.since;
        most = f.most;
      }
    where
      anew : (t : VersionState W) → StateFormed t → (o : Option WriteHistory) → Given (HistoryFormed t.shape) o → StateFormed (with_history o t)
      anew t s o x = record {
        shape = s.shape;
        epoch = s.epoch;
        birth = s.birth;
        rename = s.rename;
        due = s.due;
        history = x;
        spares = s.spares;
      }

  pub note_write_formed : (id slice level : ℕ) (rect : TexelRect) → OutFormed (note_write p id slice level rect)
  unfolding note_write
  note_write_formed id slice level rect = guarded _ _ (λ e. formed (go (find id p.textures) refl e))
    where
      go : (o : Option (VersionState W)) → find id p.textures ≡ o → write_spent o slice level ≡ false
          → Formed (with_textures (change id (λ (t : VersionState W). with_history (written slice level rect t.shape t.history) t) p.textures) p)
      go none found e =
          histories_changed id (λ t. written slice level rect t.shape t.history) (λ t. written_stamps t.shape slice level rect t.history)
          (λ t. t.id ≡ id → ⊥) (find_none id p.textures found) (λ u same never x. absurd (never same))
      go (some t) found e =
          histories_changed id (λ t. written slice level rect t.shape t.history) (λ t. written_stamps t.shape slice level rect t.history)
          (λ u. u.id ≡ id → u ≡ t) (find_only id t p.textures f.ids found)
          (λ u same only x. written_formed u.shape x.shape slice level rect u.history
          (subst (λ (z : VersionState W). (in_shape z.shape slice level && spent z.history) ≡ false) (sym (only same)) e) x.history)

  pub note_mip_regeneration_formed : (id : ℕ) → OutFormed (note_mip_regeneration p id)
  unfolding note_mip_regeneration
  note_mip_regeneration_formed id = guarded _ _ (λ e. formed (go (find id p.textures) refl e))
    where
      go : (o : Option (VersionState W)) → find id p.textures ≡ o → spent (history_in o) ≡ false
          → Formed (with_textures (change id (λ (t : VersionState W). with_history (regenerated t.shape t.history) t) p.textures) p)
      go none found e =
          histories_changed id (λ t. regenerated t.shape t.history) (λ t. regenerated_stamps t.shape t.history) (λ t. t.id ≡ id → ⊥)
          (find_none id p.textures found) (λ u same never x. absurd (never same))
      go (some t) found e =
          histories_changed id (λ t. regenerated t.shape t.history) (λ t. regenerated_stamps t.shape t.history) (λ u. u.id ≡ id → u ≡ t)
          (find_only id t p.textures f.ids found)
          (λ u same only x. regenerated_formed u.shape x.shape u.history
          (subst (λ (z : VersionState W). spent z.history ≡ false) (sym (only same)) e) x.history)

-- ---- the newest spare and the others

module _ {W : Type 0} where
  others_formed : {ss : List (Spare W)} → All SpareFormed ss → All SpareFormed (others ss)
  others_formed nil = nil
  others_formed (cons x nil) = nil
  others_formed (cons x (cons y ys)) = cons x (others_formed (cons y ys))

  others_count : (ss : List (Spare W)) → length (others ss) ≤ length ss
  others_count [] = omega arith
  others_count (s ∷ []) = omega arith
  others_count (s ∷ u ∷ us) = omega (arith, others_count (u ∷ us))

  others_bytes : (shape : VersionShape) (ss : List (Spare W)) → bytes_of shape * length (others ss) + taken_bytes shape (newest ss) ≡ bytes_of shape * length ss
  others_bytes shape [] = omega arith
  others_bytes shape (s ∷ []) = omega (arith, mul-zero (bytes_of shape), mul-suc (bytes_of shape) 0)
  others_bytes shape (s ∷ u ∷ us) =
      omega (arith, others_bytes shape (u ∷ us), mul-suc (bytes_of shape) (length (others (u ∷ us))), mul-suc (bytes_of shape) (length (u ∷ us)))

-- ---- take_spare

module _ {W : Type 0} (p : PoolModel W) (f : Formed p) (id : ℕ) (shape : VersionShape) (records : Bool) (seq : ℕ) (shaped : is_shape shape ≡ true) (le : seq ≤ limit) where
  abbrev fresh : VersionState W
  fresh = new_state id shape records (suc p.trackings) seq

  fresh_formed : p.trackings < limit → StateFormed fresh
  fresh_formed free = record {
    shape = shaped;
    epoch = free;
    birth = omega arith;
    rename = le;
    due = le;
    history = either (Given (HistoryFormed shape)) records (some (new_history shape)) none (λ e. new_formed shape) (λ e. tt);
    spares = nil;
  }

  take_new_lem : find id p.textures ≡ none → OutFormed (take_new p id shape records seq)
  take_new_lem away =
      guarded _ _ (λ a. guarded _ _ (λ b. guarded _ _ (λ c. formed (record {
        ids = ascending_insert fresh (omega arith) (find_none id p.textures away) f.ids;
        textures = all_insert fresh (fresh_formed (leb-false _ _ c)) f.textures;
        retiring = f.retiring;
        hand = f.hand;
        doomed = f.doomed;
        trackings = leb-false _ _ c;
        places = omega (arith, leb-false p.places.textures (length p.textures) a, length_insert fresh p.textures);
        versions = omega (arith, f.versions, total_insert spare_count fresh p.textures);
        stamps = omega (
          arith,
          total_insert stamps_used fresh p.textures,
          stamps_fit records (page_stamps * p.places.pages) 0 (total stamps_used p.textures) (history_size shape) b f.stamps (omega arith),
          new_stamps records shape,
        );
        parked = omega (arith, f.parked, total_insert spare_bytes fresh p.textures, mul-zero (bytes_of shape));
        dooming = f.dooming;
        cap = f.cap;
        slot = f.slot;
        eight = f.eight;
        arrivals = f.arrivals;
        since = f.since;
        most = f.most;
      }))))

  take_renewed_lem : (t : VersionState W) → find id p.textures ≡ some t → OutFormed (take_renewed p id shape records seq t)
  take_renewed_lem t found =
      guarded _ _ (λ b. guarded _ _ (λ c.
      let g : VersionState W → VersionState W = λ u. fresh in
      let s = find_all StateFormed id t p.textures f.textures found in
      let ds : List (Doomed W) = as_doomed (bytes_of t.shape) t.spares in
      formed (record {
        ids = ascending_change id g (λ u q. sym q) f.ids;
        textures = all_change id g (λ u q x. fresh_formed (leb-false _ _ c)) (λ u x. x) f.textures;
        retiring = f.retiring;
        hand = f.hand;
        doomed = all_both f.doomed (as_doomed_formed t s t.spares);
        trackings = leb-false _ _ c;
        places = omega (arith, f.places, length_change id g p.textures);
        versions = omega (
          arith,
          f.versions,
          total_change spare_count id g t p.textures f.ids found,
          length-append p.doomed ds,
          as_doomed_length (bytes_of t.shape) t.spares,
        );
        stamps = omega (
          arith,
          total_change stamps_used id g t p.textures f.ids found,
          stamps_fit records (page_stamps * p.places.pages) (stamps_used t) (total stamps_used p.textures) (history_size shape) b f.stamps (find_part stamps_used id t p.textures found),
          new_stamps records shape,
          find_part stamps_used id t p.textures found,
        );
        parked = omega (
          arith,
          f.parked,
          total_change spare_bytes id g t p.textures f.ids found,
          mul-zero (bytes_of shape),
          as_doomed_bytes (bytes_of t.shape) t.spares,
        );
        dooming = omega (arith, f.dooming, total_append (λ (d : Doomed W). d.bytes) p.doomed ds);
        cap = omega (arith, f.cap);
        slot = f.slot;
        eight = f.eight;
        arrivals = f.arrivals;
        since = omega (arith, f.since, length-append p.doomed ds);
        most = f.most;
      })))

  abbrev yields : VersionState W → VersionState W
  yields u = with_rename seq (with_spares (others u.spares) u)

  yielded : (u : VersionState W) → StateFormed u → StateFormed (yields u)
  yielded u s = record {
    shape = s.shape;
    epoch = s.epoch;
    birth = s.birth;
    rename = le;
    due = s.due;
    history = s.history;
    spares = others_formed s.spares;
  }

  take_tracked_lem : (t : VersionState W) → find id p.textures ≡ some t → OutFormed (take_tracked p id seq t)
  take_tracked_lem t found =
      formed {p = with_parked (p.parked - taken_bytes t.shape (newest t.spares)) (with_textures (change id yields p.textures) p)} (record {
        ids = ascending_change id yields (λ u q. refl) f.ids;
        textures = all_change id yields (λ u q s. yielded u s) (λ u s. s) f.textures;
        retiring = f.retiring;
        hand = f.hand;
        doomed = f.doomed;
        trackings = f.trackings;
        places = omega (arith, f.places, length_change id yields p.textures);
        versions = omega (arith, f.versions, total_change spare_count id yields t p.textures f.ids found, others_count t.spares);
        stamps = omega (arith, f.stamps, total_unchanged stamps_used id yields (λ u. refl) p.textures);
        parked = omega (arith, f.parked, total_change spare_bytes id yields t p.textures f.ids found, others_bytes t.shape t.spares);
        dooming = f.dooming;
        cap = omega (arith, f.cap);
        slot = f.slot;
        eight = f.eight;
        arrivals = f.arrivals;
        since = f.since;
        most = f.most;
      })

module _ {W : Type 0} (p : PoolModel W) (f : Formed p) where
  pub take_spare_formed : (id : ℕ) (shape : VersionShape) (records : Bool) (seq : ℕ) → OutFormed (take_spare p id shape records seq)
  unfolding take_spare
  take_spare_formed id shape records seq = guarded _ _ (λ a. guarded _ _ (λ b. go (not-false _ a) (ltb-false _ _ b) (find id p.textures) refl))
    where
      go : is_shape shape ≡ true → seq ≤ limit → (o : Option (VersionState W)) → find id p.textures ≡ o → OutFormed (take_found p id shape records seq o)
      go shaped le none e = take_new_lem p f id shape records seq shaped le e
      go shaped le (some t) e =
          either OutFormed (same_shape t.shape shape) (take_tracked p id seq t) (take_renewed p id shape records seq t)
          (λ q. take_tracked_lem p f id shape records seq shaped le t e) (λ q. take_renewed_lem p f id shape records seq shaped le t e)
