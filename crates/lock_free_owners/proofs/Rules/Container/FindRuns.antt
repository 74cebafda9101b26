-- Where a find of a container stands after each step, and how many operations it has performed by then.
use Rattle.lock_free_owners.proofs.Names.{◌≡◌, ℕ, ◌+◌, ◌-◌, ◌*◌, ◌<◌, ◌≤◌, nat_lt, arith, nat_tests, by_test, by_eq, After}
use Rattle.lock_free_owners.proofs.Names.{GoOn, Done, is_even}
use Rattle.steps.specs.declared.container.find.Find.{Find}
use Rattle.steps.specs.declared.container.find.FindStage as finds
use Rattle.steps.specs.Indices.Robust.Parts.{one_more}
use Rattle.steps.specs.Container.Find.{at_find, find_comes_to, find_takes, find_after}
use Rattle.lock_free_owners.specs.Container.FindTurns.{IsAtWord}
use Rattle.lock_free_owners.specs.Container.Visits.{FindStage, FindStands}

-- How many operations lead a find to this stage at most: for each index before this one a load of the
-- cell, two of the number, and the words of the value.
abbrev pub taken_at : ℕ → finds.FindStage → ℕ
taken_at size (finds.TheVariants.LoadsCell index found) = index * (size + 3)
taken_at size (finds.TheVariants.LoadsCount index found) = index * (size + 3) + 1
taken_at size (finds.TheVariants.LoadsWord index found count at) = index * (size + 3) + 2 + at
taken_at size (finds.TheVariants.ChecksCount index found count) = index * (size + 3) + 2 + size
taken_at size (finds.TheVariants.Asks index found) = index * (size + 3) + 3 + size

-- `each` operations for each index up to this one are at most `each` for each index of the container
whole_rows : (index capacity each : ℕ) → index < capacity → index * each + each ≤ capacity * each
whole_rows index capacity each low =
    let rest : capacity ≡ index + 1 + (capacity - (index + 1)) = omega arith in
    rw rest (spread index (capacity - (index + 1)) each)
  where
    spread : (a b each : ℕ) → a * each + each ≤ (a + 1 + b) * each
    spread a b each = omega arith

-- a cell takes no more than an index with its value
pub cells_taken : (first more all size : ℕ) → all ≡ first + more → first * (size + 3) + more ≤ all * (size + 3)
cells_taken first more all size is = rw is (spread first more size)
  where
    spread : (a b size : ℕ) → a * (size + 3) + b ≤ (a + b) * (size + 3)
    spread a b size = omega arith

module _ {T R : Type 0} where
  -- a find goes on only at an index below the capacity
  abbrev pub StillStands : ℕ → ℕ → After (Find T R) ℕ → Type 0
  StillStands size capacity (GoOn d) = FindStands size capacity d
  StillStands size capacity (Done n) = Unit {0}

  module _ (size : ℕ) (some_words : 1 ≤ size) (capacity : ℕ) (c : Find T R) (same : c.capacity ≡ capacity) where
    -- A find that comes to a next index stands at a stage that there is, or has ended.
    comes : (index found : ℕ) → found ≤ index → StillStands size capacity (find_comes_to c index found)
    comes index found found_up_to_index = grind (arith, by_test, nat_lt, at_find, nat_tests)

    -- A step or an answer leaves a find at a stage that there is, or ends it.
    takes_stands : (stage : finds.FindStage) (owner k : ℕ) → FindStage size capacity stage → StillStands size capacity (find_takes size c stage owner k)
    takes_stands stage owner k find_stage = grind (arith, by_eq, at_find, one_more, find_comes_to, comes, by_test, is_even, nat_lt, nat_tests)

  -- A step or an answer leaves a find at a stage that there is, or ends it.
  pub still_stands : (size : ℕ) → 1 ≤ size → (capacity : ℕ) (c : Find T R) (owner k : ℕ) → FindStands size capacity c
      → StillStands size capacity (find_after size c owner k)
  still_stands size some_words capacity c owner k at = takes_stands size some_words capacity c at.0 c.stage owner k at.1

  -- how many operations lead a find to where it goes on, or to its end, at most
  abbrev pub taken_after : ℕ → ℕ → After (Find T R) ℕ → ℕ
  taken_after size capacity (GoOn d) = taken_at size d.stage
  taken_after size capacity (Done n) = capacity * (size + 3)

  module _ (size capacity : ℕ) (c : Find T R) (same : c.capacity ≡ capacity) where
    -- operations within those of the indices up to this one are within those that lead past this index
    past : (index found most : ℕ) → index < capacity → most ≤ index * (size + 3) + (size + 3)
        → most ≤ taken_after size capacity (find_comes_to c (index + 1) found)
    past index found most low few =
        let whole = whole_rows index capacity (size + 3) low in
        by_test (λ a. most ≤ taken_after size capacity a) (nat_lt (index + 1) c.capacity)
        (GoOn (at_find c (finds.TheVariants.LoadsCell (index + 1) found))) (Done found)
        (λ t. omega arith) (λ t. omega arith)

    -- A step at a word asks for one operation: the number taken before it, and one, is within what is
    -- taken behind it.
    pub one_taken : (stage : finds.FindStage) (owner k : ℕ) → IsAtWord stage → FindStage size capacity stage
        → taken_at size stage + 1 ≤ taken_after size capacity (find_takes size c stage owner k)
    one_taken stage owner k at_word find_stage = grind (arith, by_eq, at_find, one_more, past, by_test, is_even, nat_lt, nat_tests)

    -- An answer of the closure asks for no operation, so the number that was taken at the question is
    -- within what is taken behind it.
    pub none_taken : (index found owner k : ℕ) → index < capacity
        → taken_at size (finds.TheVariants.Asks index found) ≤ taken_after size capacity (find_takes size c (finds.TheVariants.Asks index found) owner k)
    none_taken index found owner k low =
        let whole = whole_rows index capacity (size + 3) low in
        by_eq (λ a. taken_at size (finds.TheVariants.Asks index found) ≤ taken_after size capacity a) k 0
        (Done found) (find_comes_to c (index + 1) found)
        (λ e. omega arith) (λ ne. past index found (taken_at size (finds.TheVariants.Asks index found)) low (omega arith))
