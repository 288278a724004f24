-- Rule: The records as the model's, where a version's views are one number.
use Rattle.std.specs.Prelude.{ℕ}
use Rattle.pool_rules.specs.Model.{Spare, Retiring, Doomed}
use Rattle.pool_records.specs.declared.spare.SpareRecord.{SpareRecord}
use Rattle.pool_records.specs.declared.retiring.RetiringRecord.{RetiringRecord}
use Rattle.pool_records.specs.declared.doomed.DoomedRecord.{DoomedRecord}

abbrev pub spare_of : SpareRecord → Spare ℕ
spare_of x = record { view = x.view; held = x.held; parked = x.parked }

abbrev pub retiring_of : RetiringRecord → Retiring ℕ
retiring_of x = record { id = x.id; view = x.view; seq = x.seq; epoch = x.epoch; birth = x.birth; held = x.held; bytes = x.bytes }

abbrev pub doomed_of : DoomedRecord → Doomed ℕ
doomed_of x = record { view = x.view; bytes = x.bytes }
