-- Helper: The batch of a take, by the arrivals and the destroy ring.
use Rattle.std.specs.Prelude.{ℕ, ◌+◌, ◌*◌, min, max, List, take, drop}
use Rattle.base_blocks.specs.Lists.{listed, total, ceil_div}
use Rattle.base_tables.specs.Rings.{along}
use Rattle.pool_records.specs.Doomed.{read_doomed}
use Rattle.pool_records.specs.Views.{doomed_of}
use Rattle.pool_rules.specs.Model.{Doomed, doomed_bytes}
use Rattle.pool_rules.specs.TakeDoomed.{cover_more}
use Rattle.pool_records.specs.RecordConstants.{doomed_stride}
use Rattle.pool_rules.specs.RuleConstants.{destroy_spread_drains, min_destroys_per_drain, most_places}

-- version j of the destroy ring
unfoldable pub doomed_entry : ℕ → ℕ → List ℕ → ℕ → Doomed ℕ
doomed_entry cap first s j = doomed_of (along doomed_stride read_doomed cap first s j)

-- the first n of them
abbrev pub doomed_entries : ℕ → ℕ → List ℕ → ℕ → List (Doomed ℕ)
doomed_entries cap first s n = listed (doomed_entry cap first s) 0 n

-- the most versions that the noted takes can have queued: each as many as there may be places
abbrev pub most_arrivals : ℕ
most_arrivals = destroy_spread_drains * most_places

-- the average number queued per take plus an eighth of the n queued, both rounded up, at least 64
unfoldable pub paced_of : List ℕ → ℕ → ℕ
paced_of arrivals n = min (max min_destroys_per_drain (ceil_div (total (λ (n : ℕ). n) arrivals) destroy_spread_drains + ceil_div n destroy_spread_drains)) n

-- `least`, and more until the excess is covered
unfoldable pub batch_of : ℕ → ℕ → List (Doomed ℕ) → ℕ
batch_of least excess ds = least + cover_more (doomed_bytes (take least ds)) excess (drop least ds)
