-- Rule: take_doomed: hand back the next batch of versions to destroy.
use Rattle.std.specs.Prelude.{ℕ, suc, ◌+◌, ◌-◌, ◌%◌, min, max, cond, List, [], ◌∷◌, map, ltb, length, take, drop, set}
use Rattle.base_blocks.specs.Lists.{ceil_div, total}
use Rattle.pool_rules.specs.Model.{Doomed, PoolModel, Out, accepted, guard, doomed_bytes}
use Rattle.pool_rules.specs.Updates.{with_doomed, with_pacing}
use Rattle.pool_rules.specs.RuleConstants.{destroy_spread_drains, min_destroys_per_drain}

module _ {W : Type 0} where
  -- the arrivals with those since the last take
  abbrev pub arrived : PoolModel W → List ℕ
  arrived p = set p.pacing.arrivals p.pacing.slot p.since

  -- the average number queued per take over the last eight plus an eighth of the queue, both rounded up, at least 64
  abbrev pub paced : PoolModel W → ℕ
  paced p = min (max min_destroys_per_drain (ceil_div (total (λ (n : ℕ). n) (arrived p)) destroy_spread_drains + ceil_div (length p.doomed) destroy_spread_drains)) (length p.doomed)

  -- how many more it takes to cover the excess
  unfoldable pub cover_more : ℕ → ℕ → List (Doomed W) → ℕ
  cover_more covered excess [] = 0
  cover_more covered excess (d ∷ ds) = cond (ltb covered excess) (suc (cover_more (covered + d.bytes) excess ds)) 0

  abbrev pub batch : PoolModel W → ℕ
  batch p = paced p + cover_more (doomed_bytes (take (paced p) p.doomed)) p.pacing.excess (drop (paced p) p.doomed)

  -- `buffer` is how many views the answer has room for
  unfoldable pub take_doomed : PoolModel W → ℕ → Out W (List W)
  take_doomed p buffer =
      guard (ltb buffer (batch p)) 11
      (accepted (map (λ (d : Doomed W). d.view) (take (batch p) p.doomed))
      (with_pacing (record { arrivals = arrived p; slot = suc p.pacing.slot % destroy_spread_drains; pressed = p.pacing.pressed; excess = 0 })
      (with_doomed (drop (batch p) p.doomed) 0 (p.dooming - doomed_bytes (take (batch p) p.doomed)) p)))
