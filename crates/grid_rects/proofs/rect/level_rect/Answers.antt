-- `grid_rects::rect::level_rect` meets its contract. By its definition.
use mathlib.Core.Path.{refl}
use Rattle.grid_rects.specs.Rects.{whole_level}
use Rattle.grid_rects.proofs.rect.level_rect.Goals as goal

pub returns : goal.returns
unfolding whole_level
returns c = refl
