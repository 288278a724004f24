-- Helper: What a trim does with one texture, by its record and its spares.
use Rattle.std.specs.Prelude.{ℕ, ◌-◌, ◌*◌, Bool, cond, ◌&&◌, List, eqb}
use Rattle.std.proofs.lemmas.List.Edits.{sets}
use Rattle.base_blocks.specs.Lists.{listed}
use Rattle.base_tables.specs.Records.{record_at}
use Rattle.pool_records.specs.declared.texture.TextureRecord.{TextureRecord}
use Rattle.pool_records.specs.Spare.{read_spare}
use Rattle.pool_records.specs.Starts.{grids_held, stamps_held}
use Rattle.pool_records.specs.Texture.{write_texture, texture_in}
use Rattle.pool_records.specs.Views.{spare_of}
use Rattle.pool_rules.specs.Model.{Spare}
use Rattle.pool_rules.specs.Trim.{aged, aged_count}
use Rattle.pool_memory.specs.declared.pool.Pool.{Pool as Counts}
use Rattle.pool_trim.specs.declared.look_at.Look.{Look}
use Rattle.pool_trim.specs.declared.pass.Pass.{Pass}
use Rattle.pool_records.specs.RecordConstants.{spare_stride, texture_stride}

abbrev pub spare_in : List ℕ → ℕ → Spare ℕ
spare_in spares k = spare_of (record_at spare_stride read_spare spares k)

-- dropped: its due number and its last rename aged, and no spares are left
unfoldable pub is_idle : ℕ → TextureRecord → ℕ → Bool
is_idle now t left = aged now t.due && (aged now t.rename && eqb left 0)

unfoldable pub due_after : ℕ → TextureRecord → ℕ
due_after now t = cond (aged now t.due) (cond (aged now t.rename) now t.rename) t.due

-- `count` of its spares aged; its history has so many grids and stamps
unfoldable pub look_of : ℕ → TextureRecord → ℕ → ℕ → ℕ → Look
look_of now t count grids stamps = record {
  own = t.spares;
  aged = count;
  staying = cond (is_idle now t (t.spares - count)) 0 1;
  grid = t.grid;
  grids = cond (is_idle now t (t.spares - count)) 0 grids;
  stamp = t.stamp;
  stamps = cond (is_idle now t (t.spares - count)) 0 stamps;
  due = due_after now t;
  bytes = t.bytes;
}

-- texture i, whose spares begin at place `first`
unfoldable pub look_at : ℕ → Counts → List ℕ → List ℕ → ℕ → ℕ → Look
look_at now c textures spares i first =
    let t : TextureRecord = texture_in textures i in
    look_of now t (aged_count now (listed (spare_in spares) first t.spares))
    (grids_held textures c.tracked c.grids i) (stamps_held textures c.tracked c.stamps i)

-- the record after it: its grids and stamps begin behind those of the textures that stay before it
unfoldable pub looked_record : Look → Pass → TextureRecord → TextureRecord
looked_record look pass t = record t { due = look.due; spares = look.own - look.aged; grid = pass.grids; stamp = pass.stamps }

-- written behind those that stay
unfoldable pub looked_put : List ℕ → ℕ → Look → Pass → List ℕ
looked_put textures i look pass =
    cond (eqb look.staying 0) textures
    (sets textures (texture_stride * pass.tracked) (write_texture (looked_record look pass (texture_in textures i))))
