-- The same of what a caller reads on the lent stores: they answer as the model does. Assumes nothing.
use mathlib.Core.Path.{◌≡◌, refl, ◌∙◌}
use mathlib.Core.List.{List, [], ◌∷◌, map}
use Prim.Native.Nat.{ℕ}
use Rattle.pool_rules.specs.Model.{PoolModel}
use Rattle.pool_rules.specs.Formed.{Formed}
use Rattle.pool_rules.specs.Open.{opened}
use Rattle.pool_rules.proofs.Closure.{opened_formed}
use Rattle.pool_memory.specs.Lent.{Lent}
use Rattle.pool_memory.specs.Reading.{model_of}
use Rattle.pool_memory.proofs.FromPool.{pool_fits, are_places_lem}
use Rattle.pool_memory.proofs.FitsOpened.{opened_model, opened_fits}
use Rattle.pool_books.specs.Demand3.{call}
use Rattle.pool_books.specs.Sample.{replies_of, reached}
use Rattle.pool_books.specs.LentLists.{LentCall, room_of, lent_call, opened_lent}
use Rattle.pool_books.proofs.Sample.{call_formed}
use Rattle.pool_books.proofs.LentLists.{Represents, simulates}
use Rattle.pool_page_rule.specs.SameAnswers.{MetNo6, lent_replies, lent_reached, SameOnLent, SameAnswersLent, SameAnswersOpenedLent}
use Rattle.pool_page_rule.proofs.Answers.{same_answers}

-- along a list
answers_of : (l : Lent) (p : PoolModel ℕ) → Formed p → Represents l p → (cs : List LentCall)
    → (lent_replies l cs ≡ replies_of p (map room_of cs)) × (model_of (lent_reached l cs) ≡ reached p (map room_of cs))
unfolding lent_replies lent_reached replies_of reached
answers_of l p f r [] = (refl, r.1)
answers_of l p f r (c ∷ cs) =
    let s = simulates l p c f r in
    let rest = answers_of (lent_call l c).1 (call p (room_of c)).1 (call_formed p f (room_of c)) s.1 cs in
    ((λ i. s.0 i ∷ rest.0 i), rest.1)

same_on : (l : Lent) (p : PoolModel ℕ) → Formed p → Represents l p → (cs : List LentCall) → MetNo6 p (map room_of cs) → SameOnLent l p cs
same_on l p f r cs h =
    let a = answers_of l p f r cs in
    let b = same_answers p f (map room_of cs) h in
    (a.0 ∙ b.0, a.1 ∙ b.1)

pub same_answers_lent : SameAnswersLent
same_answers_lent l e cs = let f = pool_fits l e in same_on l (model_of l) f.formed (f, refl) cs

pub same_answers_opened_lent : SameAnswersOpenedLent
same_answers_opened_lent working textures retiring doomed spares newest stamps sized cs =
    let l = opened_lent working textures retiring doomed spares newest stamps in
    same_on l (opened (model_of l).places working) (opened_formed (model_of l).places (are_places_lem l sized) working)
    (opened_fits working textures retiring doomed spares newest stamps sized, opened_model working textures retiring doomed spares newest stamps) cs
