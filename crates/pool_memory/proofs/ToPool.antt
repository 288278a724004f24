-- Lent memory of which all the facts hold passes the test. Assumes nothing.
use mathlib.Core.Path.{◌≡◌, refl, sym, ap₂}
use mathlib.Core.Bool.{Bool, true, ◌&&◌}
use mathlib.Core.Option.{Option, none, some}
use Prim.Native.Nat.{ℕ, ◌≤◌}
use borrow.Author.Tests.{lt-ltb, le-leb, eq-eqb}
use Rattle.base_blocks.specs.All.{nil, cons}
use Rattle.base_blocks.proofs.Lists.{all_from}
use Rattle.grid_shapes.specs.declared.shape.VersionShape.{VersionShape}
use Rattle.grid_stamps.specs.declared.grid.Tiling.{Tiling}
use Rattle.grid_stamps.specs.Grids.{StampGrid}
use Rattle.pool_rules.specs.declared.held.Held.{Held}
use Rattle.pool_rules.specs.declared.held.Held.TheVariants.{Known, Unknown}
use Rattle.pool_rules.specs.Model.{WriteHistory, Spare, Retiring, Doomed, VersionState, PoolModel}
use Rattle.pool_rules.specs.Formed.{Given, HeldFormed, GridFormed, HistoryFormed, SpareFormed, RetiringFormed, DoomedFormed, StateFormed, Formed}
use Rattle.pool_memory.specs.Lent.{Lent}
use Rattle.pool_memory.specs.Reading.{model_of}
use Rattle.pool_memory.specs.IsPool.{sizes_fit, counts_fit, runs_fit, mark_fits, is_grid, is_history, is_held_count, is_spare, is_state, is_retiring, is_hand, is_doomed, is_arrival, is_formed, is_pool}
use Rattle.pool_memory.proofs.FitsTests.{all_passes, ascending_passes, every}
use Rattle.pool_memory.proofs.FitsGrids.{no_grid, grid_of}
use Rattle.pool_memory.proofs.Fits.{Fits}
use Rattle.pool_rules.specs.RuleConstants.{most_places}

grid_passes : {g : Tiling} {writes : ℕ} {grid : StampGrid} → GridFormed g writes grid → is_grid writes grid ≡ true
unfolding is_grid
grid_passes f = ap₂ (λ (a b : Bool). a && b) (eq-eqb _ _ f.newest) (le-leb _ _ f.below)

history_passes : (s : VersionShape) (o : Option WriteHistory) → Given (HistoryFormed s) o → is_history o ≡ true
unfolding is_history
history_passes s none f = refl
history_passes s (some h) f =
    ap₂ (λ (a b : Bool). a && b) (le-leb _ _ f.writes) (all_from (is_grid h.writes) h.grids no_grid (λ i k. grid_passes (grid_of s h f i k)))

held_passes : (h : Held) → HeldFormed h → is_held_count h ≡ true
held_passes (Known n) f = le-leb _ _ f
held_passes Unknown f = refl

spare_passes : (s : Spare ℕ) → SpareFormed s → is_spare s ≡ true
unfolding is_spare
spare_passes s f = ap₂ (λ (a b : Bool). a && b) (held_passes s.held f.held) (le-leb _ _ f.parked)

state_passes : (t : VersionState ℕ) → StateFormed t → is_state t ≡ true
unfolding is_state
state_passes t f =
    every (cons f.shape (cons (le-leb _ _ f.epoch) (cons (le-leb _ _ f.birth) (cons (le-leb _ _ f.rename) (cons (le-leb _ _ f.due)
    (cons (history_passes t.shape t.history f.history) (cons (all_passes is_spare spare_passes f.spares) nil)))))))

retiring_passes : (v : Retiring ℕ) → RetiringFormed v → is_retiring v ≡ true
unfolding is_retiring
retiring_passes v f =
    every (cons (le-leb _ _ f.seq) (cons (le-leb _ _ f.epoch) (cons (le-leb _ _ f.birth) (cons (le-leb _ _ f.held)
    (cons (le-leb _ _ f.bytes) nil)))))

hand_passes : (o : Option (Retiring ℕ)) → Given RetiringFormed o → is_hand o ≡ true
hand_passes none f = refl
hand_passes (some v) f = retiring_passes v f

doomed_passes : (d : Doomed ℕ) → DoomedFormed d → is_doomed d ≡ true
unfolding is_doomed
doomed_passes d f = le-leb _ _ f.bytes

arrival_passes : (n : ℕ) → n ≤ most_places → is_arrival n ≡ true
unfolding is_arrival
arrival_passes n h = le-leb _ _ h

pub formed_passes : (p : PoolModel ℕ) → Formed p → is_formed p ≡ true
unfolding is_formed
formed_passes p f =
    every (cons (ascending_passes f.ids) (cons (all_passes is_state state_passes f.textures) (cons (all_passes is_retiring retiring_passes f.retiring)
    (cons (hand_passes p.hand f.hand) (cons (all_passes is_doomed doomed_passes f.doomed) (cons (le-leb _ _ f.trackings)
    (cons (eq-eqb _ _ f.parked) (cons (eq-eqb _ _ f.dooming) (cons (le-leb _ _ f.cap) (cons (lt-ltb _ _ f.slot) (cons (eq-eqb _ _ f.eight)
    (cons (all_passes is_arrival arrival_passes f.arrivals) (cons (le-leb _ _ f.since) nil)))))))))))))

module _ (l : Lent) (f : Fits l) where
  pub sizes_pass : sizes_fit l ≡ true
  unfolding sizes_fit
  sizes_pass =
      every (cons f.places (cons (eq-eqb _ _ (sym f.textures)) (cons (eq-eqb _ _ (sym f.retiring)) (cons (eq-eqb _ _ (sym f.doomed))
      (cons (eq-eqb _ _ (sym f.spares)) (cons (eq-eqb _ _ (sym f.stamps)) (cons (eq-eqb _ _ f.newest) nil)))))))

  counts_pass : counts_fit l ≡ true
  unfolding counts_fit
  counts_pass =
      every (cons (le-leb _ _ f.tracked) (cons (lt-ltb _ _ f.head) (cons (lt-ltb _ _ f.first) (cons (le-leb _ _ f.hand)
      (cons (le-leb _ _ f.versions) (cons (le-leb _ _ f.grids) (cons (le-leb _ _ f.stamps_counted) nil)))))))

  runs_pass : runs_fit l ≡ true
  unfolding runs_fit
  runs_pass = every (cons (eq-eqb _ _ f.kept) (cons (eq-eqb _ _ f.claimed) (cons (eq-eqb _ _ f.stamps_claimed) nil)))

  mark_passes : mark_fits l ≡ true
  unfolding mark_fits
  mark_passes = le-leb _ _ f.mark

  pub fits_pool : is_pool l ≡ true
  unfolding is_pool
  fits_pool =
      every (cons sizes_pass (cons counts_pass (cons runs_pass (cons f.starts (cons f.tilings (cons f.bytes (cons mark_passes
      (cons (formed_passes (model_of l) f.formed) nil))))))))
