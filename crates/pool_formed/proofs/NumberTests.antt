-- The numbers and the counts, each in one expression. Assumes nothing.
use mathlib.Core.Path.{◌≡◌, refl, sym, ap, ◌∙◌}
use mathlib.Core.Bool.{Bool, true, false, ◌&&◌}
use mathlib.Core.List.{List, [], ◌∷◌}
use Prim.Native.Nat.{ℕ, ◌+◌, ◌≤◌, ◌<◌}
use borrow.Author.Tests.{le-leb, lt-leb}
use lib.Dec.{leb, ltb}
use Rattle.base_blocks.specs.Blocks.{at_most}
use Rattle.base_blocks.specs.Lists.{all, tests, after}
use Rattle.pool_rules.specs.Model.{limit}
use Rattle.pool_memory.specs.declared.pool.Pool.{Pool}
use Rattle.pool_memory.specs.declared.book.PacingBook.{PacingBook}
use Rattle.pool_memory.specs.IsPool.{is_arrival}
use Rattle.pool_formed.specs.Parts.{places_hold, numbers_fit}
use Rattle.pool_formed_textures.proofs.Tests.{fails}
use Rattle.pool_rules.specs.RuleConstants.{destroy_spread_drains, most_places}

-- ---- the numbers

arrivals_same : (xs : List ℕ) → all (at_most most_places) xs ≡ all is_arrival xs
unfolding all at_most is_arrival
arrivals_same [] = refl
arrivals_same (x ∷ xs) = ap (λ (b : Bool). leb x most_places && b) (arrivals_same xs)

pub numbers_test : (pool : Pool) (book : PacingBook) (w : Bool) → w ≡ all (at_most most_places) book.arrivals
    → leb pool.trackings limit && leb pool.parked pool.cap && ltb book.slot destroy_spread_drains && leb book.pressed 1 && leb pool.since pool.doomed && w
    ≡ numbers_fit pool book
unfolding numbers_fit tests after
numbers_test pool book w e =
    ap (λ (b : Bool). leb pool.trackings limit && leb pool.parked pool.cap && ltb book.slot destroy_spread_drains && leb book.pressed 1 && leb pool.since pool.doomed && b)
    (e ∙ arrivals_same book.arrivals)

-- ---- the counts

pub too_full : (pool : Pool) (places versions grids stamps : ℕ) → 1 < pool.popped → places_hold pool places versions grids stamps ≡ false
unfolding places_hold
too_full pool places versions grids stamps h = fails _ 3 (lt-leb _ _ h)

pub too_many : (pool : Pool) (places versions grids stamps : ℕ) → versions < pool.queued + pool.popped + pool.kept + pool.doomed
    → places_hold pool places versions grids stamps ≡ false
unfolding places_hold
too_many pool places versions grids stamps h = fails _ 4 (lt-leb _ _ h)

and_true : (a : Bool) → a && true ≡ a
and_true true = refl
and_true false = refl

-- the hand's count is tested before the others
pub counts_test : (pool : Pool) (places versions grids stamps : ℕ) → pool.popped ≤ 1
    → leb pool.tracked places && ltb pool.head versions && ltb pool.first versions && leb (pool.queued + pool.popped + pool.kept + pool.doomed) versions && leb pool.grids grids && leb pool.stamps stamps
    ≡ places_hold pool places versions grids stamps
unfolding places_hold tests after
counts_test pool places versions grids stamps h =
    let a = leb pool.tracked places && ltb pool.head versions && ltb pool.first versions in
    ap (λ (b : Bool). b && leb (pool.queued + pool.popped + pool.kept + pool.doomed) versions && leb pool.grids grids && leb pool.stamps stamps)
    (sym (and_true a) ∙ ap (λ (b : Bool). a && b) (sym (le-leb pool.popped 1 h)))
