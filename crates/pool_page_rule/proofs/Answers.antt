-- A list of calls that meets no 6 under the rule of pages is answered the same under the rule of stamps. Assumes nothing.
use mathlib.Core.Path.{◌≡◌, refl, sym, ap, subst, ◌∙◌}
use mathlib.Core.Bool.{Bool, true, false, cond, not}
use mathlib.Core.Option.{Option, none, some}
use mathlib.Core.List.{List, [], ◌∷◌}
use Prim.Native.Nat.{ℕ}
use borrow.Author.Tests.{not-false}
use lib.Dec.{leb, ltb}
use lib.ListN.{length}
use Rattle.base_blocks.specs.All.{nil, cons}
use Rattle.grid_shapes.specs.declared.shape.VersionShape.{VersionShape}
use Rattle.grid_shapes.specs.Shapes.{is_shape, same_shape}
use Rattle.pool_rules.specs.Model.{Spare, VersionState, PoolModel, Out, refused, guard, find, limit}
use Rattle.pool_rules.specs.TakeSpare.{take_tracked, take_found, take_spare}
use Rattle.pool_rules.specs.Formed.{Formed}
use Rattle.pool_rules.specs.Open.{opened}
use Rattle.pool_rules.proofs.Closure.{opened_formed}
use Rattle.pool_books.specs.Lists.{Call, take_call, plan_call, retire_call, between}
use Rattle.pool_books.specs.Demand3.{Reply, refusal, answered, spare_reply, perform, call}
use Rattle.pool_books.specs.Sample.{replies_of, reached}
use Rattle.pool_books.proofs.Sample.{call_formed}
use Rattle.pool_page_rule.specs.PageRule.{take_renewed_by, take_found_by, take_spare_by, page_rule, stamp_rule, call_by, replies_by, reached_by, StampRuleIsThePools}
use Rattle.pool_page_rule.specs.SameAnswers.{SameAnswers, SameAnswersOpened}
use Rattle.pool_page_rule.proofs.Weaker.{rule_weaker}

module _ {W : Type 0} where
  -- the rule of stamps is the pool's own
  stamp_take : (p : PoolModel W) (id : ℕ) (shape : VersionShape) (records : Bool) (seq : ℕ)
      → take_spare_by stamp_rule p id shape records seq ≡ take_spare p id shape records seq
  unfolding take_spare_by take_spare
  stamp_take p id shape records seq =
      ap (λ (o : Out W (Option (Spare W))). guard (not (is_shape shape)) 2 (guard (ltb limit seq) 3 o)) (go (find id p.textures))
    where
      go : (o : Option (VersionState W)) → take_found_by stamp_rule p id shape records seq o ≡ take_found p id shape records seq o
      go none = refl
      go (some t) = refl

  -- ---- refusals in a row

  -- one that only a wider condition than another's gives
  same_unless : {A : Type 0} (b c : Bool) (o : Out W A) → (b ≡ false → c ≡ false) → (guard b 6 o ≡ refused 6 → ⊥) → guard c 6 o ≡ guard b 6 o
  unfolding guard
  same_unless true c o f h = absurd (h refl)
  same_unless false c o f h = ap (λ (x : Bool). guard x 6 o) (f refl)

  -- after an earlier one
  under_guard : {A : Type 0} (b : Bool) (n : ℕ) (o q : Out W A) → (b ≡ false → (q ≡ refused 6 → ⊥) → o ≡ q) → (guard b n q ≡ refused 6 → ⊥)
      → guard b n o ≡ guard b n q
  unfolding guard
  under_guard true n o q k h = refl
  under_guard false n o q k h = k refl h

  module _ (p : PoolModel W) (f : Formed p) (id : ℕ) (shape : VersionShape) (records : Bool) (seq : ℕ) (shaped : is_shape shape ≡ true) where
    found_same : (o : Option (VersionState W)) → find id p.textures ≡ o → (take_found_by page_rule p id shape records seq o ≡ refused 6 → ⊥)
        → take_found_by stamp_rule p id shape records seq o ≡ take_found_by page_rule p id shape records seq o
    found_same none e h =
        under_guard (leb p.places.textures (length p.textures)) 5 _ _
        (λ x. same_unless (page_rule p shape records none) (stamp_rule p shape records none) _ (rule_weaker p f shape shaped id records none e)) h
    found_same (some t) e h = go (same_shape t.shape shape) h
      where
        go : (b : Bool) → (cond b (take_tracked p id seq t) (take_renewed_by page_rule p id shape records seq t) ≡ refused 6 → ⊥)
            → cond b (take_tracked p id seq t) (take_renewed_by stamp_rule p id shape records seq t)
            ≡ cond b (take_tracked p id seq t) (take_renewed_by page_rule p id shape records seq t)
        go true k = refl
        go false k =
            same_unless (page_rule p shape records (some t)) (stamp_rule p shape records (some t)) _ (rule_weaker p f shape shaped id records (some t) e) k

  -- one take
  take_same : (p : PoolModel W) → Formed p → (id : ℕ) (shape : VersionShape) (records : Bool) (seq : ℕ)
      → (take_spare_by page_rule p id shape records seq ≡ refused 6 → ⊥)
      → take_spare_by stamp_rule p id shape records seq ≡ take_spare_by page_rule p id shape records seq
  unfolding take_spare_by
  take_same p f id shape records seq h =
      under_guard (not (is_shape shape)) 2 _ _
      (λ x. under_guard (ltb limit seq) 3 _ _
      (λ y. found_same p f id shape records seq (not-false (is_shape shape) x) (find id p.textures) refl)) h

-- ---- a call, and a list of them

abbrev take_reply : PoolModel ℕ → Out ℕ (Option (Spare ℕ)) → Reply × PoolModel ℕ
take_reply p = answered (λ (n : ℕ). n) (λ (id n : ℕ). n) (spare_reply (λ (n : ℕ). n) (λ (id n : ℕ). n)) p

pub stamp_call : StampRuleIsThePools
unfolding call_by perform
stamp_call p (take_call id shape records seq) = ap (take_reply p) (stamp_take p id shape records seq)
stamp_call p (plan_call id shape held u buffer) = refl
stamp_call p (retire_call id view seq) = refl
stamp_call p (between c) = refl

call_same : (p : PoolModel ℕ) → Formed p → (c : Call) → ((call_by page_rule p c).0 ≡ refusal 6 → ⊥) → call_by stamp_rule p c ≡ call_by page_rule p c
unfolding call_by
call_same p f (take_call id shape records seq) h =
    ap (take_reply p) (take_same p f id shape records seq (λ e. h (ap (λ (o : Out ℕ (Option (Spare ℕ))). (take_reply p o).0) e)))
call_same p f (plan_call id shape held u buffer) h = refl
call_same p f (retire_call id view seq) h = refl
call_same p f (between c) h = refl

pub same_answers : SameAnswers
unfolding replies_of reached replies_by reached_by
same_answers p f [] nil = (refl, refl)
same_answers p f (c ∷ cs) (cons h hs) =
    let e : call p c ≡ call_by page_rule p c = sym (stamp_call p c) ∙ call_same p f c h in
    let left : (call p c).1 ≡ (call_by page_rule p c).1 = ap (λ (x : Reply × PoolModel ℕ). x.1) e in
    let g : Formed (call_by page_rule p c).1 = subst (λ (q : PoolModel ℕ). Formed q) left (call_formed p f c) in
    let r = same_answers (call_by page_rule p c).1 g cs hs in (
      ap (λ (x : Reply × PoolModel ℕ). x.0 ∷ replies_of x.1 cs) e ∙ ap (λ (l : List Reply). (call_by page_rule p c).0 ∷ l) r.0,
      ap (λ (q : PoolModel ℕ). reached q cs) left ∙ r.1,
    )

pub same_answers_opened : SameAnswersOpened
same_answers_opened places enough working cs = same_answers (opened places working) (opened_formed places enough working) cs
