-- The counts after a call that leaves the retiring ring, the hand and the budget as they are. Assumes nothing.
use mathlib.Core.Path.{◌≡◌, sym, ap, ◌∙◌}
use Prim.Native.Nat.{ℕ, ◌≤◌}
use native.Mathlib.Omega.{arith}
use lib.ListN.{length}
use Rattle.base_blocks.specs.Lists.{total}
use Rattle.pool_rules.specs.Model.{PoolModel, hand_count}
use Rattle.pool_rules.specs.HistorySizes.{newest_used, stamps_used}
use Rattle.pool_memory.specs.declared.pool.Pool.{Pool as Counts}
use Rattle.pool_memory.specs.Lent.{Lent}
use Rattle.pool_memory.specs.Reading.{model_of}
use Rattle.pool_memory.specs.Writing.{pool_after}
use Rattle.pool_memory.proofs.Fits.{Fits}
use Rattle.pool_memory.proofs.Runs.{spare_count}
use Rattle.pool_memory.proofs.Same.{queued_model}
use Rattle.pool_memory.proofs.Rings.{head_stays, hand_model, first_stays}

-- the other counts set again
abbrev pub counted : Counts → (tracked kept grids stamps doomed since trackings parked dooming : ℕ) → Counts
counted c tracked kept grids stamps doomed since trackings parked dooming = record {
  tracked = tracked;
  kept = kept;
  grids = grids;
  stamps = stamps;
  head = c.head;
  popped = c.popped;
  queued = c.queued;
  first = c.first;
  doomed = doomed;
  since = since;
  trackings = trackings;
  parked = parked;
  dooming = dooming;
  cap = c.cap;
  line = c.line;
}

-- of them, the grids, the stamps and the trackings
abbrev pub begun_counts : Counts → (grids stamps trackings : ℕ) → Counts
begun_counts c grids stamps trackings = counted c c.tracked c.kept grids stamps c.doomed c.since trackings c.parked c.dooming

module _ (l : Lent) (f : Fits l) (p : PoolModel ℕ) (hand : p.hand ≡ (model_of l).hand) (queue : p.retiring ≡ (model_of l).retiring)
    (cap : l.pool.cap ≡ p.budget.cap) (line : l.pool.line ≡ p.budget.line) where
  pub counts_after : (tracked kept grids stamps doomed : ℕ) → tracked ≡ length p.textures → kept ≡ total spare_count p.textures
      → grids ≡ total newest_used p.textures → stamps ≡ total stamps_used p.textures → doomed ≡ length p.doomed → l.pool.doomed ≤ doomed
      → counted l.pool tracked kept grids stamps doomed p.since p.trackings p.parked p.dooming ≡ pool_after p l
  unfolding pool_after
  counts_after tracked kept grids stamps doomed e1 e2 e3 e4 e5 more = λ j. record {
    tracked = e1 j;
    kept = e2 j;
    grids = e3 j;
    stamps = e4 j;
    head = sym (head_stays l p f.head (omega (arith, hand_model l f.hand, ap hand_count hand))) j;
    popped = sym (ap hand_count hand ∙ hand_model l f.hand) j;
    queued = sym (ap length queue ∙ queued_model l) j;
    first = sym (first_stays l p f.first (omega (arith, e5))) j;
    doomed = e5 j;
    since = p.since;
    trackings = p.trackings;
    parked = p.parked;
    dooming = p.dooming;
    cap = cap j;
    line = line j;
  }
