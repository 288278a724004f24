-- `parking_line` meets its contract: what is parked before the lower end does not cover the excess, what is parked before the upper end does, or no
-- spare is parked later; which line is tried makes no difference. Assumes nothing.
use mathlib.Core.Logic.{inr}
use native.Mathlib.Omega.{arith}
use Rattle.pool_records.specs.Texture.{textures_in}
use Rattle.pool_relief_line.proofs.Parked.{bytes_zero}
use Rattle.pool_relief_line.proofs.line.parking_line.Goals as goal

pub loop-lo-init : goal.loop-lo-init
loop-lo-init c =
    let a = c.args in (
      omega arith,
      omega arith,
      omega (arith, bytes_zero a.spares.now 0 (textures_in a.n a.textures.now), c.requires.2),
      inr (omega arith),
    )
