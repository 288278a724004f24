-- Helper: What an answer of the code says together with the answer buffers: the reply of a call, or none where no call was made.
use Rattle.std.specs.Prelude.{ℕ, ◌*◌, ◌≤◌, List, length}
use Rattle.std.proofs.Math.Option.{Option, none, some}
use Rattle.pool_rules.specs.declared.held.Held.TheVariants.{Unknown}
use Rattle.pool_books.specs.Demand3.{Reply, refusal, done, spare_taken, version_popped}
use Rattle.pool_books.specs.LentLists.{copies_filled, views_filled}
use Rattle.event_answers.specs.declared.answer.Answer.{Answer}
use Rattle.event_answers.specs.declared.answer.Answer.TheVariants.{Question, Refused, Done, Spare, NoSpare, Version, NothingSettled, Views, Copies}
use Rattle.pool_memory.specs.MemoryConstants.{copy_stride}

unfoldable pub reply_told : Answer → List ℕ → List ℕ → Option Reply
reply_told Question copies views = none
reply_told (Refused n) copies views = some (refusal n)
reply_told Done copies views = some done
reply_told (Spare view held) copies views = some (spare_taken (some view) held)
reply_told NoSpare copies views = some (spare_taken none Unknown)
reply_told (Version id view) copies views = some (version_popped (some (id, view)))
reply_told NothingSettled copies views = some (version_popped none)
reply_told (Views n) copies views = some (views_filled n views)
reply_told (Copies n) copies views = some (copies_filled n copies)

-- how many entries of a buffer the answer has
unfoldable pub entries : Answer → ℕ
entries Question = 0
entries (Refused n) = 0
entries Done = 0
entries (Spare view held) = 0
entries NoSpare = 0
entries (Version id view) = 0
entries NothingSettled = 0
entries (Views n) = n
entries (Copies n) = n

-- they stand in the buffer
unfoldable pub InBuffers : Answer → List ℕ → List ℕ → Type 0
InBuffers Question copies views = Unit {0}
InBuffers (Refused n) copies views = Unit {0}
InBuffers Done copies views = Unit {0}
InBuffers (Spare view held) copies views = Unit {0}
InBuffers NoSpare copies views = Unit {0}
InBuffers (Version id view) copies views = Unit {0}
InBuffers NothingSettled copies views = Unit {0}
InBuffers (Views n) copies views = n ≤ length views
InBuffers (Copies n) copies views = copy_stride * n ≤ length copies
