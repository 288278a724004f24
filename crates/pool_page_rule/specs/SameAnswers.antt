-- Rule: What 02 says of answers (W-201): "Answers to lists that met no 6 before are the same". Before, a list was answered by the rule of pages;
-- `replies_of`, `reached` and `lent_call` are what the pool answers and leaves now, the last on the lent stores.
use Rattle.std.specs.Prelude.{ℕ, ◌≡◌, true, List, [], ◌∷◌, map}
use Rattle.base_blocks.specs.All.{All}
use Rattle.pool_rules.specs.Model.{Places, PoolModel}
use Rattle.pool_rules.specs.Formed.{Formed}
use Rattle.pool_rules.specs.Open.{are_places, opened}
use Rattle.pool_memory.specs.Lent.{Lent}
use Rattle.pool_memory.specs.Reading.{model_of}
use Rattle.pool_memory.specs.IsPool.{is_pool, sizes_fit}
use Rattle.pool_books.specs.Lists.{Call}
use Rattle.pool_books.specs.Demand3.{Reply, refusal}
use Rattle.pool_books.specs.Sample.{replies_of, reached}
use Rattle.pool_books.specs.LentLists.{LentCall, room_of, lent_call, opened_lent}
use Rattle.pool_page_rule.specs.PageRule.{page_rule, replies_by, reached_by}

-- ---- on the model

-- before W-201 no call of the list was refused with 6
abbrev pub MetNo6 : PoolModel ℕ → List Call → Type 0
MetNo6 p cs = All (λ (r : Reply). r ≡ refusal 6 → ⊥) (replies_by page_rule p cs)

-- the answers are those of before, and so is the pool that they leave
abbrev pub SameFrom : PoolModel ℕ → List Call → Type 0
SameFrom p cs = (replies_of p cs ≡ replies_by page_rule p cs) × (reached p cs ≡ reached_by page_rule p cs)

-- from any pool
abbrev pub SameAnswers : Type 0
SameAnswers = (p : PoolModel ℕ) → Formed p → (cs : List Call) → MetNo6 p cs → SameFrom p cs

-- and so from any pool just opened
abbrev pub SameAnswersOpened : Type 0
SameAnswersOpened = (places : Places) → are_places places ≡ true → (working : ℕ) (cs : List Call) → MetNo6 (opened places working) cs
    → SameFrom (opened places working) cs

-- ---- on the lent stores: what a caller reads, and the pool that the stores stand for after the list

unfoldable pub lent_replies : Lent → List LentCall → List Reply
lent_replies l [] = []
lent_replies l (c ∷ cs) = (lent_call l c).0 ∷ lent_replies (lent_call l c).1 cs

unfoldable pub lent_reached : Lent → List LentCall → Lent
lent_reached l [] = l
lent_reached l (c ∷ cs) = lent_reached (lent_call l c).1 cs

abbrev pub SameOnLent : Lent → PoolModel ℕ → List LentCall → Type 0
SameOnLent l p cs =
    (lent_replies l cs ≡ replies_by page_rule p (map room_of cs)) × (model_of (lent_reached l cs) ≡ reached_by page_rule p (map room_of cs))

-- from any memory that forms a pool
abbrev pub SameAnswersLent : Type 0
SameAnswersLent = (l : Lent) → is_pool l ≡ true → (cs : List LentCall) → MetNo6 (model_of l) (map room_of cs) → SameOnLent l (model_of l) cs

-- and from any memory of the right sizes, just opened
abbrev pub SameAnswersOpenedLent : Type 0
SameAnswersOpenedLent = (working : ℕ) (textures retiring doomed spares newest stamps : List ℕ)
    → let l = opened_lent working textures retiring doomed spares newest stamps in
    sizes_fit l ≡ true → (cs : List LentCall) → MetNo6 (opened (model_of l).places working) (map room_of cs)
    → SameOnLent l (opened (model_of l).places working) cs
