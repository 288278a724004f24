-- `box_planned` meets its contract. Assumes nothing.
use mathlib.Core.Path.{◌≡◌, sym, ap, ap₂, ◌∙◌}
use Rattle.std.proofs.Math.Bool.{and_assoc}
use Rattle.base_blocks.specs.Lists.{after, tests}
use Rattle.grid_shapes.specs.Shapes.{level_width, level_height}
use Rattle.grid_rects.specs.Rects.{whole_level}
use Rattle.pool_rules.specs.PreservePlan.{same_rect}
use Rattle.pool_preserve_plan.specs.Copies.{box_planned}
use Rattle.pool_preserve_plan.proofs.Planned.{box_clean, box_whole, box_part}
use Rattle.pool_preserve_plan.proofs.copy.box_planned.Goals as goal
use Rattle.pool_preserve_plan.proofs.copy.box_planned.Goals.{After-eq}

-- what was compared
module _ (c : After-eq) where
  as_tests : c.eq.result ≡ same_rect c.in_ok-part.part c.level_rect.result
  unfolding tests after
  as_tests = simp and_assoc c.eq.ensures

  same : c.eq.result
      ≡ same_rect c.in_ok-part.part
      (whole_level (level_width c.args.shape c.args.level) (level_height c.args.shape c.args.level))
  unfolding level_width level_height
  same =
      as_tests
      ∙ ap (same_rect c.in_ok-part.part)
      (c.level_rect.ensures ∙ ap₂ whole_level c.level_extent-width.ensures c.level_extent-height.ensures)

pub returns-in_err-part : goal.returns-in_err-part
returns-in_err-part c =
    let a = c.args in
    c.from_residual.ensures ∙ sym (ap (box_planned a.shape a.level) c.in_err-part.was ∙ box_clean a.shape a.level)

pub returns-then-eq : goal.returns-then-eq
returns-then-eq c =
    let a = c.args in
    sym (ap (box_planned a.shape a.level) c.in_ok-part.was ∙ box_whole a.shape a.level c.in_ok-part.part (sym (same (goal.at.returns-then-eq c).After-eq) ∙ c.if-eq.true))

pub returns : goal.returns
returns c =
    let a = c.args in
    sym (ap (box_planned a.shape a.level) c.in_ok-part.was ∙ box_part a.shape a.level c.in_ok-part.part (sym (same (goal.at.returns c).After-eq) ∙ c.if-eq.false))
