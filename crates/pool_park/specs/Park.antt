-- Helper: What `park` decides and notes, on the records of the lent slices.
use Rattle.std.specs.Prelude.{ℕ, ◌+◌, Bool, cond, not, ◌&&◌, ◌||◌, List, leb, ltb, eqb}
use Rattle.base_blocks.specs.Lists.{total}
use Rattle.pool_rules.specs.declared.held.Held.TheVariants.{Known, Unknown}
use Rattle.pool_rules.specs.declared.held.Held.{Held}
use Rattle.pool_rules.specs.Model.{limit}
use Rattle.pool_records.specs.declared.texture.TextureRecord.{TextureRecord}
use Rattle.pool_records.specs.declared.spare.SpareRecord.{SpareRecord}
use Rattle.pool_records.specs.declared.retiring.RetiringRecord.{RetiringRecord}
use Rattle.pool_records.specs.Texture.{texture_in, textures_in}
use Rattle.pool_memory.specs.declared.pool.Pool.{Pool}
use Rattle.pool_park.specs.declared.park_or_destroy.Parking.{Parking}
use Rattle.pool_park.specs.declared.park_or_destroy.Parking.TheVariants.{Destroyed, Kept}

-- the number of the first refusal, or 0
unfoldable pub park_refusal : Pool → ℕ → ℕ → ℕ
park_refusal p failed current = cond (ltb limit failed || ltb limit current) 3 (cond (eqb p.popped 0) 10 0)

-- destroyed if tracking is gone or renewed, then with the bytes noted at retiring; destroyed if pressed, or if parked bytes plus its texture's pass
-- the cap, with its texture's bytes; else kept. `here` is whether the texture is tracked, t its record.
unfoldable pub parking_of : Pool → Bool → Bool → TextureRecord → RetiringRecord → Parking
parking_of p pressed here t v =
    cond (here && eqb t.epoch v.epoch)
    (cond (pressed || ltb p.cap (p.parked + t.bytes)) (Destroyed t.bytes) (Kept t.bytes))
    (Destroyed v.bytes)

-- the held writes are unknown if a submission that the version was live through failed
abbrev pub held_parked : ℕ → RetiringRecord → Held
held_parked failed v = cond (not (eqb failed 0) && leb v.birth failed) Unknown (Known v.held)

abbrev pub spare_parked : ℕ → ℕ → RetiringRecord → SpareRecord
spare_parked failed current v = record { view = v.view; held = held_parked failed v; parked = current }

-- a texture with one more spare
abbrev pub one_more : TextureRecord → TextureRecord
one_more t = record t { spares = t.spares + 1 }

-- the place after the spares of texture i
abbrev pub spares_end : List ℕ → ℕ → ℕ
spares_end textures i = total (λ (t : TextureRecord). t.spares) (textures_in i textures) + (texture_in textures i).spares
