-- Rule: "lists that met one may now go on" (02, W-201), in numbers: a 1 by 1 level took a page of 1,024 stamps and takes one stamp now.
use Rattle.std.specs.Prelude.{ℕ, ◌≡◌, true, List, [], ◌∷◌, ◌++◌, replicate}
use Rattle.std.proofs.Math.Option.{none}
use Rattle.base_blocks.specs.Lists.{listed}
use Rattle.grid_shapes.specs.declared.shape.VersionShape.{VersionShape}
use Rattle.pool_rules.specs.declared.held.Held.TheVariants.{Unknown}
use Rattle.pool_rules.specs.Model.{Places, grid_count}
use Rattle.pool_rules.specs.HistorySizes.{history_size}
use Rattle.pool_rules.specs.Open.{opened}
use Rattle.pool_books.specs.Lists.{Call, take_call}
use Rattle.pool_books.specs.Demand3.{refusal, spare_taken}
use Rattle.pool_books.specs.Sample.{flat_shape, replies_of}
use Rattle.pool_page_rule.specs.PageRule.{page_rule, replies_by}

-- fifteen levels of 1 by 1 texels on each of six slices
abbrev pub small_cube : VersionShape
small_cube = flat_shape 0 1 1 1 15 1

-- takes of textures 0, 1 and so on, each recording a cube's writes
abbrev pub cube_takes : ℕ → List Call
cube_takes n = listed (λ (id : ℕ). take_call id small_cube true 0) 0 n

-- 32 by 32 tiles, as many as a page has stamps, in two formats
abbrev pub page_of : ℕ → VersionShape
page_of format = flat_shape format 512 512 1 1 0

-- one page lent
abbrev pub one_page : ℕ → Places
one_page textures = record { textures = textures; versions = 1; pages = 1 }

pub record MoreHistories : Type 0 where
  -- ninety grids of one stamp each
  pub grids : grid_count small_cube ≡ 90
  pub stamps : history_size small_cube ≡ 90
  -- before, one page was too few for the first
  pub before : replies_by page_rule (opened (one_page 8) 0) (cube_takes 1) ≡ refusal 6 ∷ []
  -- now all of eight are taken
  pub eight : replies_of (opened (one_page 8) 0) (cube_takes 8) ≡ replicate 8 (spare_taken none Unknown)
  -- and 6 is said where a further ninety stamps are not free: eleven have 990 of the 1,024
  pub eleven : replies_of (opened (one_page 12) 0) (cube_takes 12) ≡ replicate 11 (spare_taken none Unknown) ++ (refusal 6 ∷ [])
  -- the last stamp is used, and the id's own count as free: a page's stamps are taken by one texture, then anew by the same in another format, and
  -- another texture has not one
  pub last : replies_of (opened (one_page 2) 0) (take_call 7 (page_of 0) true 0 ∷ take_call 7 (page_of 1) true 0 ∷ take_call 8 small_cube true 0 ∷ [])
      ≡ spare_taken none Unknown ∷ spare_taken none Unknown ∷ refusal 6 ∷ []
