-- What specs/NotVacuous.antt says of demand 3. What is left out and what is counted is proved along any list, whether it keeps to renames or not.
use Prim.Native.Nat.{ℕ, suc}
use mathlib.Core.Path.{◌≡◌, refl, sym, subst}
use mathlib.Core.Bool.{Bool, true, false, not, ◌&&◌}
use mathlib.Core.Option.{Option, none, some}
use mathlib.Core.List.{List, [], ◌∷◌}
use lib.Dec.{eqb}
use Rattle.base_blocks.proofs.Lists.{either}
use Rattle.grid_shapes.specs.declared.shape.VersionShape.{VersionShape}
use Rattle.grid_shapes.specs.Shapes.{same_shape}
use Rattle.pool_rules.specs.Model.{Spare, Out, refused, accepted, PreserveCopy, UploadFootprint}
use Rattle.pool_rules.specs.TakeSpare.{take_spare}
use Rattle.pool_rules.specs.PreservePlan.{preserve_plan}
use Rattle.pool_rules.specs.Retire.{retire}
use Rattle.pool_rules.specs.NoteWrite.{note_write, note_mip_regeneration}
use Rattle.pool_rules.specs.PopRetired.{pop_retired}
use Rattle.pool_rules.specs.Park.{park}
use Rattle.pool_rules.specs.NoteAllocated.{note_allocated}
use Rattle.pool_rules.specs.TakeDoomed.{take_doomed}
use Rattle.pool_rules.specs.DrainVersions.{drain_versions}
use Rattle.pool_rules.specs.Trim.{trim}
use Rattle.pool_rules.specs.ForgetTexture.{forget_texture}
use Rattle.pool_books.specs.VersionBook.{Retired, Book, Books, put, change_book, new_book, start_book, writes_whole, book_write, book_regeneration, skipped, renamed, carried_by}
use Rattle.pool_books.specs.Lists.{Between, write_call, regen_call, pop_call, park_call, note_call, doomed_call, drain_call, trim_call, forget_call, Call, take_call, plan_call, retire_call, between, Phase, idle, taken, planned}
use Rattle.pool_books.specs.Lists.{State, after_take, plan_in, after_plan, rename_in, after_retire, just_pool, marking, ready_between, step_between, step, run, Renames, start}
use Rattle.pool_books.specs.Demand3.{Agrees}
use Rattle.pool_books.specs.NotVacuous.{AsksNoMore, CoversNot, NeverCovers, LeftOutByCoverOnly, next_if_accepted, count_after, NumbersGoOn, Demand3WrittenOut}
use Rattle.pool_books.proofs.Marks.{change_some, change_none}
use Rattle.pool_books.proofs.Demand3.{agree_after}

-- ---- what is asked

pub asks_no_more : AsksNoMore
unfolding Renames
asks_no_more = record {
  texels = λ s t slice level x y z. record { slice = slice; level = level; x = x; y = y; z = z };
  takes = λ id shape records seq. tt;
  betweens = λ c. tt;
  plans = λ id shape held new u buffer. (refl, refl, refl);
  retires = λ id skip new view seq. refl;
  ends = λ s. tt;
  goes_on = λ s c cs a k. (a, k);
}

-- ---- what is left out

and_no : (a b : Bool) → b ≡ false → a && b ≡ false
and_no true b e = e
and_no false b e = refl

module _ (slice level : ℕ) where
  abbrev Kept : Option Book → Type 0
  Kept none = Unit {0}
  Kept (some b) = b.left slice level ≡ false

  abbrev AllKept : Books → Type 0
  AllKept books = (id : ℕ) → Kept (books id)

  abbrev Ahead : Phase → Type 0
  Ahead idle = Unit {0}
  Ahead (taken id shape held new) = Unit {0}
  Ahead (planned id skip new) = skip slice level ≡ false

  abbrev Nothing : State → Type 0
  Nothing s = AllKept s.books × Ahead s.phase

  put_kept : (id : ℕ) (b : Book) (books : Books) → b.left slice level ≡ false → AllKept books → AllKept (put id b books)
  unfolding put
  put_kept id b books e k i = either Kept (eqb i id) (some b) (books i) (λ q. e) (λ q. k i)

  change_kept : (f : Book → Book) → ((b : Book) → b.left slice level ≡ false → (f b).left slice level ≡ false) → (id : ℕ) (books : Books) → AllKept books → AllKept (change_book f id books)
  change_kept f g id books k i = go (books id) refl
    where
      go : (o : Option Book) → books id ≡ o → Kept (change_book f id books i)
      go none e = subst (λ (bs : Books). Kept (bs i)) (sym (change_none f id books e)) (k i)
      go (some b) e = subst (λ (bs : Books). Kept (bs i)) (sym (change_some f id books b e)) (put_kept id (f b) books (g b (subst Kept e (k id))) k i)

  start_kept : (id : ℕ) (shape : VersionShape) (o : Option Book) (books : Books) → AllKept books → AllKept (start_book id shape o books)
  unfolding start_book
  start_kept id shape none books k i = put_kept id (new_book shape 0) books refl k i
  start_kept id shape (some b) books k i =
      either (λ (bs : Books). Kept (bs i)) (same_shape b.shape shape) books (put id (new_book shape b.before) books) (λ e. k i)
      (λ e. put_kept id (new_book shape b.before) books refl k i)

  take_kept : (s : State) (id : ℕ) (shape : VersionShape) (o : Out Retired (Option (Spare Retired))) → Nothing s → Nothing (after_take s id shape o)
  unfolding after_take
  take_kept s id shape (refused n) k = (k.0, tt)
  take_kept s id shape (accepted a p) k = (start_kept id shape (s.books id) s.books k.0, tt)

  plan_ahead : (ph : Phase) (u : UploadFootprint) (cs : List PreserveCopy) (books : Books) → u.cover && (eqb u.slice slice && eqb u.level level) ≡ false
      → Ahead (plan_in ph u cs books)
  unfolding skipped
  plan_ahead idle u cs books e = tt
  plan_ahead (taken id shape held new) u cs books e = rw e refl
  plan_ahead (planned id skip new) u cs books e = tt

  plan_kept : (s : State) (u : UploadFootprint) (o : Out Retired (List PreserveCopy)) → u.cover && (eqb u.slice slice && eqb u.level level) ≡ false → Nothing s
      → Nothing (after_plan s u o)
  unfolding after_plan
  plan_kept s u (refused n) e k = (k.0, tt)
  plan_kept s u (accepted cs p) e k = (k.0, plan_ahead s.phase u cs s.books e)

  rename_kept : (seq : ℕ) (ph : Phase) (books : Books) → Ahead ph → AllKept books → AllKept (rename_in seq ph books)
  unfolding rename_in
  rename_kept seq idle books a k = k
  rename_kept seq (taken id shape held new) books a k = k
  rename_kept seq (planned id skip new) books a k = change_kept (renamed seq skip new) (λ b e. rw (a, e) refl) id books k

  retire_kept : (s : State) (seq : ℕ) (o : Out Retired (Unit {0})) → Nothing s → Nothing (after_retire s seq o)
  unfolding after_retire
  retire_kept s seq (refused n) k = (k.0, tt)
  retire_kept s seq (accepted a p) k = (rename_kept seq s.phase s.books k.1 k.0, tt)

  marking_kept : (s : State) (f : ℕ → Book → Book) → ((n : ℕ) (b : Book) → b.left slice level ≡ false → (f n b).left slice level ≡ false) → (id : ℕ) (o : Out Retired (Unit {0}))
      → Nothing s → Nothing (marking s f id o)
  unfolding marking
  marking_kept s f g id (refused n) k = k
  marking_kept s f g id (accepted a p) k = (change_kept (f (suc s.count)) (g (suc s.count)) id s.books k.0, k.1)

  just_kept : (s : State) {A : Type 0} (o : Out Retired A) → Nothing s → Nothing (just_pool s o)
  just_kept s (refused n) k = k
  just_kept s (accepted a p) k = k

  between_kept : (s : State) (c : Between) → Nothing s → Nothing (step_between s c)
  unfolding step_between book_write book_regeneration
  between_kept s (write_call id a l r) k = marking_kept s (λ n. book_write n a l r) (λ n b e. and_no (not (writes_whole b.shape a l r slice level)) (b.left slice level) e) id (note_write s.pool id a l r) k
  between_kept s (regen_call id) k = marking_kept s book_regeneration (λ n b e. e) id (note_mip_regeneration s.pool id) k
  between_kept s (pop_call settled) k = just_kept s (pop_retired s.pool settled) k
  between_kept s (park_call failed now) k = just_kept s {A = Unit {0}} (park (ready_between s.pool (park_call failed now)) failed now) k
  between_kept s (note_call allocated) k = just_kept s (note_allocated s.pool allocated) k
  between_kept s (doomed_call buffer) k = just_kept s (take_doomed s.pool buffer) k
  between_kept s (drain_call buffer) k = just_kept s (drain_versions s.pool buffer) k
  between_kept s (trim_call now) k = just_kept s (trim s.pool now) k
  between_kept s (forget_call id) k = just_kept s (forget_texture s.pool id) k

  step_kept : (s : State) (c : Call) → CoversNot slice level c → Nothing s → Nothing (step s c)
  unfolding step
  step_kept s (take_call id shape records seq) e k = take_kept s id shape (take_spare s.pool id shape records seq) k
  step_kept s (plan_call id shape held u buffer) e k = plan_kept s u (preserve_plan s.pool id shape held u buffer) e k
  step_kept s (retire_call id view seq) e k = retire_kept s seq (retire s.pool id (carried_by s.books id view) seq) k
  step_kept s (between c) e k = between_kept s c k

  run_kept : (s : State) (cs : List Call) → NeverCovers slice level cs → Nothing s → Nothing (run s cs)
  unfolding run
  run_kept s [] e k = k
  run_kept s (c ∷ cs) e k = run_kept (step s c) cs e.1 (step_kept s c e.0 k)

pub left_out_by_cover_only : LeftOutByCoverOnly
unfolding start
left_out_by_cover_only slice level places working cs e id b q = subst (Kept slice level) q ((run_kept slice level (start places working) cs e ((λ i. tt), tt)).0 id)

-- ---- how numbers go on

module _ (s : State) where
  take_count : (id : ℕ) (shape : VersionShape) (o : Out Retired (Option (Spare Retired))) → (after_take s id shape o).count ≡ s.count
  unfolding after_take
  take_count id shape (refused n) = refl
  take_count id shape (accepted a p) = refl

  plan_count : (u : UploadFootprint) (o : Out Retired (List PreserveCopy)) → (after_plan s u o).count ≡ s.count
  unfolding after_plan
  plan_count u (refused n) = refl
  plan_count u (accepted cs p) = refl

  retire_count : (seq : ℕ) (o : Out Retired (Unit {0})) → (after_retire s seq o).count ≡ s.count
  unfolding after_retire
  retire_count seq (refused n) = refl
  retire_count seq (accepted a p) = refl

  marking_count : (f : ℕ → Book → Book) (id : ℕ) (o : Out Retired (Unit {0})) → (marking s f id o).count ≡ next_if_accepted s.count o
  unfolding marking
  marking_count f id (refused n) = refl
  marking_count f id (accepted a p) = refl

  just_count : {A : Type 0} (o : Out Retired A) → (just_pool s o).count ≡ s.count
  just_count (refused n) = refl
  just_count (accepted a p) = refl

  step_count : (c : Call) → (step s c).count ≡ count_after s c
  unfolding step step_between
  step_count (take_call id shape records seq) = take_count id shape (take_spare s.pool id shape records seq)
  step_count (plan_call id shape held u buffer) = plan_count u (preserve_plan s.pool id shape held u buffer)
  step_count (retire_call id view seq) = retire_count seq (retire s.pool id (carried_by s.books id view) seq)
  step_count (between (write_call id a l r)) = marking_count (λ n. book_write n a l r) id (note_write s.pool id a l r)
  step_count (between (regen_call id)) = marking_count book_regeneration id (note_mip_regeneration s.pool id)
  step_count (between (pop_call settled)) = just_count (pop_retired s.pool settled)
  step_count (between (park_call failed now)) = just_count {A = Unit {0}} (park (ready_between s.pool (park_call failed now)) failed now)
  step_count (between (note_call allocated)) = just_count (note_allocated s.pool allocated)
  step_count (between (doomed_call buffer)) = just_count (take_doomed s.pool buffer)
  step_count (between (drain_call buffer)) = just_count (drain_versions s.pool buffer)
  step_count (between (trim_call now)) = just_count (trim s.pool now)
  step_count (between (forget_call id)) = just_count (forget_texture s.pool id)

pub numbers_go_on : NumbersGoOn
unfolding start_book
numbers_go_on = record { count = step_count; books = λ id shape b books e. rw e refl }

-- ---- the claim written out

of_book : (o : Option Book) (b : Book) → o ≡ some b → Agrees o → Agrees (some b)
of_book o b e k = subst Agrees e k

pub demand3_written_out : Demand3WrittenOut
unfolding Agrees
demand3_written_out places working cs k id b e t slice level x y z left =
    of_book _ b e (agree_after places working cs k id) t (record { slice = slice; level = level; x = x; y = y; z = z }) left
