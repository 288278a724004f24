-- What an answer buffer held before a call does not show in its reply, and the entries of an answer stand in the buffer. Assumes nothing.
use Prim.Native.Nat.{ℕ, ◌+◌, ◌*◌, ◌/◌, ◌≤◌}
use mathlib.Core.Path.{◌≡◌, refl, sym, ap, ap₂, ◌∙◌, subst}
use mathlib.Core.Option.{some}
use mathlib.Core.List.{List, [], ◌∷◌}
use native.Mathlib.Nat.{mul-zero, mul-suc, add_comm}
use native.Mathlib.Omega.{arith}
use lib.ListN.{length, drop, length-append, length-replicate}
use Rattle.base_blocks.specs.Lists.{over}
use Rattle.base_tables.specs.Records.{flat}
use Rattle.grid_shapes.specs.declared.shape.VersionShape.{VersionShape}
use Rattle.grid_rects.specs.declared.rect.Region.{Region}
use Rattle.grid_rects.specs.declared.rect.Region.TheVariants.{Whole, Part}
use Rattle.pool_rules.specs.declared.held.Held.{Held}
use Rattle.pool_rules.specs.Model.{PoolModel, PreserveCopy, UploadFootprint}
use Rattle.pool_rules.specs.PreservePlan.{preserve_plan}
use Rattle.pool_rules.specs.TakeDoomed.{take_doomed}
use Rattle.pool_rules.specs.DrainVersions.{drain_versions}
use Rattle.pool_memory.specs.Lent.{Lent}
use Rattle.pool_memory.specs.Calls.{Told, refused_with, answer, asked, in_buffer, region_numbers, copy_numbers, view_numbers, preserve_plan_on, take_doomed_on, drain_versions_on}
use Rattle.pool_books.specs.Demand3.{Reply, copies_planned, views_handed}
use Rattle.pool_books.specs.LentLists.{LentCall, said, filled, reply_of as told_reply, copies_filled, views_filled, lent_call}
use Rattle.pool_books.proofs.Answers.{copies_read, views_read}
use Rattle.event_answers.specs.Answers.{reply_told, InBuffers}
use Rattle.event_answers.specs.declared.answer.Answer.{Answer}
use Rattle.event_calls.specs.Calls.{MadeCopies, MadeViews, blank, blanked, views_answer, copies_answer}
use Rattle.pool_memory.specs.MemoryConstants.{copy_stride}
use Rattle.pool_books.specs.Lists.{between, doomed_call, drain_call, forget_call, note_call, park_call, plan_call, pop_call, regen_call, retire_call, take_call, trim_call, write_call}

-- ---- the reply, without the buffer

copies_said : (b : List ℕ) (o : Told (List PreserveCopy) × Lent) → filled copies_filled (in_buffer copy_numbers b o) ≡ said copies_planned o
copies_said b (refused_with n, l) = refl
copies_said b (answer cs, l) = ap (λ (x : List PreserveCopy). (copies_planned x, l)) (copies_read cs b)

views_said : (b : List ℕ) (o : Told (List ℕ) × Lent) → filled views_filled (in_buffer view_numbers b o) ≡ said views_handed o
views_said b (refused_with n, l) = refl
views_said b (answer vs, l) = ap (λ (x : List ℕ). (views_handed x, l)) (views_read vs b)

-- ---- two buffers of one length give one reply, and leave the same stores

module _ (l : Lent) (b c : List ℕ) (same : length b ≡ length c) where
  any_buffer_plan : (id : ℕ) (shape : VersionShape) (held : Held) (u : UploadFootprint)
      → lent_call l (plan_call id shape held u b) ≡ lent_call l (plan_call id shape held u c)
  unfolding lent_call preserve_plan_on
  any_buffer_plan id shape held u =
      let o : ℕ → Told (List PreserveCopy) × Lent = λ n. asked (λ a. a) l (λ (p : PoolModel ℕ). preserve_plan p id shape held u (n / copy_stride)) in
      copies_said b (o (length b)) ∙ ap (λ (n : ℕ). said copies_planned (o n)) same ∙ sym (copies_said c (o (length c)))

  any_buffer_doomed : lent_call l (between (doomed_call b)) ≡ lent_call l (between (doomed_call c))
  unfolding lent_call take_doomed_on
  any_buffer_doomed =
      let o : ℕ → Told (List ℕ) × Lent = λ n. asked (λ a. a) l (λ (p : PoolModel ℕ). take_doomed p n) in
      views_said b (o (length b)) ∙ ap (λ (n : ℕ). said views_handed (o n)) same ∙ sym (views_said c (o (length c)))

  any_buffer_drain : lent_call l (between (drain_call b)) ≡ lent_call l (between (drain_call c))
  unfolding lent_call drain_versions_on
  any_buffer_drain =
      let o : ℕ → Told (List ℕ) × Lent = λ n. asked (λ a. a) l (λ (p : PoolModel ℕ). drain_versions p n) in
      views_said b (o (length b)) ∙ ap (λ (n : ℕ). said views_handed (o n)) same ∙ sym (views_said c (o (length c)))

blank_long : (b : List ℕ) → length b ≡ length (blank b)
blank_long b = sym (length-replicate (length b) 0)

-- a call says and leaves the same with a buffer of as many zeros
pub any_buffer : (l : Lent) (c : LentCall) → lent_call l c ≡ lent_call l (blanked c)
any_buffer l (take_call id shape records seq) = refl
any_buffer l (plan_call id shape held u b) = any_buffer_plan l b (blank b) (blank_long b) id shape held u
any_buffer l (retire_call id view seq) = refl
any_buffer l (between (write_call id slice level r)) = refl
any_buffer l (between (regen_call id)) = refl
any_buffer l (between (pop_call settled)) = refl
any_buffer l (between (park_call failed now)) = refl
any_buffer l (between (note_call allocated)) = refl
any_buffer l (between (doomed_call b)) = any_buffer_doomed l b (blank b) (blank_long b)
any_buffer l (between (drain_call b)) = any_buffer_drain l b (blank b) (blank_long b)
any_buffer l (between (trim_call now)) = refl
any_buffer l (between (forget_call id)) = refl

-- ---- the entries stand in the buffer

long_copy : (c : PreserveCopy) → length (copy_numbers c) ≡ copy_stride
unfolding copy_numbers
long_copy c = go c.region
  where
    go : (r : Region) → length (c.slice ∷ c.level ∷ region_numbers r) ≡ copy_stride
    go Whole = refl
    go (Part r) = refl

module _ {A : Type 0} (w : ℕ) (wr : A → List ℕ) (long : (a : A) → length (wr a) ≡ w) where
  long_flat : (xs : List A) → length (flat wr xs) ≡ w * length xs
  unfolding flat
  long_flat [] = sym (mul-zero w)
  long_flat (x ∷ xs) =
      length-append (wr x) (flat wr xs) ∙ ap₂ ◌+◌ (long x) (long_flat xs) ∙ add_comm w (w * length xs) ∙ sym (mul-suc w (length xs))

  stands : (xs : List A) (b : List ℕ) → w * length xs ≤ length (over (flat wr xs) b)
  unfolding over
  stands xs b =
      let front = flat wr xs in
      omega (arith, long_flat xs, length-append front (drop (length front) b))

module _ (other : List ℕ) where
  abbrev CopiesStand : Told ℕ × (List ℕ × Lent) → Type 0
  CopiesStand (t, (exit, l)) = InBuffers (copies_answer t) exit other

  copies_stand : (b : List ℕ) (o : Told (List PreserveCopy) × Lent) → CopiesStand (in_buffer copy_numbers b o)
  unfolding InBuffers
  copies_stand b (refused_with n, l) = tt
  copies_stand b (answer cs, l) = omega (arith, stands copy_stride copy_numbers long_copy cs b)

  abbrev ViewsStand : Told ℕ × (List ℕ × Lent) → Type 0
  ViewsStand (t, (exit, l)) = InBuffers (views_answer t) other exit

  views_stand : (b : List ℕ) (o : Told (List ℕ) × Lent) → ViewsStand (in_buffer view_numbers b o)
  unfolding InBuffers
  views_stand b (refused_with n, l) = tt
  views_stand b (answer vs, l) = omega (arith, stands 1 view_numbers (λ n. refl) vs b)

-- ---- what the answer says

copies_answered : (t : Told ℕ) (exit views : List ℕ) → reply_told (copies_answer t) exit views ≡ some (told_reply (λ (n : ℕ). copies_filled n exit) t)
unfolding reply_told
copies_answered (refused_with n) exit views = refl
copies_answered (answer n) exit views = refl

views_answered : (t : Told ℕ) (copies exit : List ℕ) → reply_told (views_answer t) copies exit ≡ some (told_reply (λ (n : ℕ). views_filled n exit) t)
unfolding reply_told
views_answered (refused_with n) copies exit = refl
views_answered (answer n) copies exit = refl

module _ (l after : Lent) (b exit : List ℕ) (t : Told ℕ) where
  pub made_plan : (id : ℕ) (shape : VersionShape) (held : Held) (u : UploadFootprint) → (t, (exit, after)) ≡ preserve_plan_on l b id shape held u
      → (a : Answer) → a ≡ copies_answer t → MadeCopies l (plan_call id shape held u (blank b)) a exit after
  unfolding MadeCopies lent_call preserve_plan_on
  made_plan id shape held u e a q =
      let o = asked (λ a. a) l (λ (p : PoolModel ℕ). preserve_plan p id shape held u (length b / copy_stride)) in
      let k : (told_reply (λ (n : ℕ). copies_filled n exit) t, after) ≡ lent_call l (plan_call id shape held u (blank b)) =
      ap (filled copies_filled) e ∙ any_buffer l (plan_call id shape held u b) in
      rw q (
        λ views. (subst (CopiesStand views) (sym e) (copies_stand views b o), copies_answered t exit views ∙ ap (λ (x : Reply × Lent). some x.0) k),
        ap (λ (x : Reply × Lent). x.1) k,
      )

  module _ (a : Answer) (q : a ≡ views_answer t) where
    pub made_doomed : (t, (exit, after)) ≡ take_doomed_on l b → MadeViews l (between (doomed_call (blank b))) a exit after
    unfolding MadeViews lent_call take_doomed_on
    made_doomed e =
        let o = asked (λ a. a) l (λ (p : PoolModel ℕ). take_doomed p (length b)) in
        let k : (told_reply (λ (n : ℕ). views_filled n exit) t, after) ≡ lent_call l (between (doomed_call (blank b))) =
        ap (filled views_filled) e ∙ any_buffer l (between (doomed_call b)) in
        rw q (
          λ copies. (subst (ViewsStand copies) (sym e) (views_stand copies b o), views_answered t copies exit ∙ ap (λ (x : Reply × Lent). some x.0) k),
          ap (λ (x : Reply × Lent). x.1) k,
        )

    pub made_drain : (t, (exit, after)) ≡ drain_versions_on l b → MadeViews l (between (drain_call (blank b))) a exit after
    unfolding MadeViews lent_call drain_versions_on
    made_drain e =
        let o = asked (λ a. a) l (λ (p : PoolModel ℕ). drain_versions p (length b)) in
        let k : (told_reply (λ (n : ℕ). views_filled n exit) t, after) ≡ lent_call l (between (drain_call (blank b))) =
        ap (filled views_filled) e ∙ any_buffer l (between (drain_call b)) in
        rw q (
          λ copies. (subst (ViewsStand copies) (sym e) (views_stand copies b o), views_answered t copies exit ∙ ap (λ (x : Reply × Lent). some x.0) k),
          ap (λ (x : Reply × Lent). x.1) k,
        )
