-- `check_take` meets its contract, test by test. Assumes nothing.
use Rattle.pool_take_spare.proofs.Said.{said_two, said_three, said_five, said_new, said_same, said_other}
use Rattle.pool_take_spare.proofs.check_take.check_take.Goals as goal

pub returns-then-not-is_shape : goal.returns-then-not-is_shape
returns-then-not-is_shape c = said_two _ _ _ _ _ _ c.args.records _ _ c.is_shape.ensures c.if-not-is_shape.true-raw

pub returns-then-seq-gt-LIMIT : goal.returns-then-seq-gt-LIMIT
returns-then-seq-gt-LIMIT c = said_three _ _ _ _ _ _ c.args.records _ _ c.is_shape.ensures c.if-not-is_shape.false-raw c.if-seq-gt-LIMIT.true

pub returns-then-textures-pool : goal.returns-then-textures-pool
returns-then-textures-pool c = said_five _ _ _ _ _ _ c.args.records _ _ c.is_shape.ensures c.if-not-is_shape.false-raw c.if-seq-gt-LIMIT.false _ c.has_id.ensures c.if-not-has_id.true-raw c.if-textures-pool.true

pub returns-then-not-has_id : goal.returns-then-not-has_id
returns-then-not-has_id c =
    let e = c.check_tracking.ensures in
    said_new _ _ _ _ _ _ c.args.records _ _ c.is_shape.ensures c.if-not-is_shape.false-raw c.if-seq-gt-LIMIT.false _ c.has_id.ensures c.if-not-has_id.true-raw c.if-textures-pool.false _ e.0 e.1

pub returns-then-same_shape : goal.returns-then-same_shape
returns-then-same_shape c = said_same _ _ _ _ _ _ c.args.records _ _ c.is_shape.ensures c.if-not-is_shape.false-raw c.if-seq-gt-LIMIT.false _ c.has_id.ensures c.if-not-has_id.false-raw _ c.texture_at-t.ensures _ c.same_shape.ensures c.if-same_shape.true

pub returns : goal.returns
returns c =
    let e = c.check_tracking-2.ensures in
    said_other _ _ _ _ _ _ c.args.records _ _ c.is_shape.ensures c.if-not-is_shape.false-raw c.if-seq-gt-LIMIT.false _ c.has_id.ensures c.if-not-has_id.false-raw _ c.texture_at-t.ensures _ c.same_shape.ensures c.if-same_shape.false _ c.stamp_end.ensures _ e.0 e.1
