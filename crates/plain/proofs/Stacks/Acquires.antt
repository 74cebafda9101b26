-- An acquire of a unique index set that runs alone: within how many steps it ends, and that it takes the top
-- of the stack.
use Rattle.std.proofs.Common.{◌≡◌, ◌≢◌, ℕ, suc, ◌+◌, ◌-◌, ◌%◌, ◌^◌, ◌<◌, ⊎_elim, true, false, not, eqb, eq-eqb}
use Rattle.std.proofs.Common.{ne_eqb, if◌then◌else◌, List, ◌∷◌, length, drop, sym, ap, subst, ◌∙◌}
use Rattle.std.proofs.Common.{arith, slice_index, slice_set, get_or-set_same, get_or-set_other, length-set, true≢false}
use Rattle.std.specs.Prelude.{bit_or, Ok, Err}
use Rattle.plain.proofs.Names.{IsDistinct, nat_tests, eqb_tells, cases_Bool, by_test, by_eq}
use Rattle.steps.specs.Indices.Head.{next_word, flag_word, flag, proposed, borrowed, locked, says_locked}
use Rattle.steps.specs.Indices.Unique.{Acquired, first_acquire, head_taken, acquire_want, acquire_after, borrowed_number}
use Rattle.steps.specs.declared.indices.enums.UniqueIndexSetAcquireFailure.TheVariants as failures
use Rattle.steps.specs.declared.indices.unique.Acquire.{Acquire}
use Rattle.plain_queues.specs.Alone.{EndsIn, BehavesAs}
use Rattle.steps.specs.Objects.Stacks.{top, acquired, after_acquire}
use Rattle.plain.specs.Unique.{chain, free_in, stack_in, claimed, Represents}
use Rattle.plain_queues.proofs.Alone.{Runs}
use Rattle.plain.proofs.Stacks.Chains.{is_in, in_first, in_rest, in_other, one_less, chain_same, claimed_elsewhere, claims, claims_leave}

module _ (capacity : ℕ) where
  -- the acquire, run alone from these words, ends within n steps with this answer and these last words
  abbrev AcquireEnds : ℕ → Acquired → List ℕ → Acquire → List ℕ → Type 0
  AcquireEnds n end last call words =
      EndsIn (λ c (given : Unit {0}). acquire_want c) (λ c given old. acquire_after c old) (λ c (room : Unit {0}) old. room) tt n end tt last call tt words

  -- from these words the acquire has done what an acquire does to the stack, with this answer
  -- and these last words
  abbrev pub Took : List ℕ → Acquired → Unit {0} → List ℕ → Type 0
  Took words end room last =
      BehavesAs (Represents capacity) (stack_in capacity) acquired after_acquire words end last

  -- the acquire, run alone from these words, ends and has done what an acquire does to the stack
  abbrev pub TakeRuns : Acquire → List ℕ → Type 0
  TakeRuns call words =
      Runs (λ (c : Acquire) (given : Unit {0}). acquire_want c) (λ c given old. acquire_after c old) (λ c (room : Unit {0}) old. room) tt
      (Took words) call tt words

  -- ---- the three ways through

  -- over a head that says locked the acquire ends within one step with `IsLocked`
  finds_locked : (words : List ℕ) → says_locked (slice_index words 0) ≡ true → AcquireEnds 1 (Err failures.IsLocked) words (first_acquire capacity) words
  finds_locked = grind (arith, by_test, true≢false)

  -- where all indices are borrowed the acquire ends within one step with `OutOfIndices`
  finds_none : (words : List ℕ) → says_locked (slice_index words 0) ≡ false → borrowed (slice_index words 0) ≡ capacity
      → AcquireEnds 1 (Err failures.OutOfIndices) words (first_acquire capacity) words
  finds_none = grind (arith, by_test, true≢false, by_eq, borrowed)

  module _ (words : List ℕ) where
    -- the head word
    abbrev h : ℕ
    h = slice_index words 0

    -- the proposed index
    abbrev p : ℕ
    p = proposed h

    -- the index after the proposed one
    abbrev next : ℕ
    next = slice_index words (next_word p) % 2 ^ 24

    -- the words with the head that proposes the next index
    abbrev headed : List ℕ
    headed = slice_set words 0 (head_taken h next)

    -- those words with the flag of the proposed index set
    abbrev last : List ℕ
    last = slice_set headed (flag_word capacity p) (bit_or (slice_index headed (flag_word capacity p)) (flag p))

    -- where the proposed index is one of the set and not claimed, the acquire ends within four steps with it
    takes_top : says_locked h ≡ false → borrowed h ≢ capacity → p < capacity → claimed capacity headed p ≡ false
        → AcquireEnds 4 (Ok p) last (first_acquire capacity) words
    takes_top = grind (arith, eq-eqb, by_test, true≢false, by_eq, borrowed, claimed, nat_tests)

  -- ---- what it makes of the stack

  -- the number of borrowed indices of an unlocked set is that of its head
  number_of : (words : List ℕ) → says_locked (slice_index words 0) ≡ false → borrowed_number (slice_index words 0) ≡ borrowed (slice_index words 0)
  number_of words unlocked = ap (λ b. if b then 0 else borrowed (slice_index words 0)) unlocked

  -- of a locked set, `IsLocked` with the words as they were is what an acquire does
  stays_locked : (words : List ℕ) → Represents capacity words → says_locked (slice_index words 0) ≡ true → Took words (Err failures.IsLocked) tt words
  stays_locked = grind (arith, top, drop)

  -- an acquire of an unlocked stack answers its top
  answers : (words : List ℕ) → says_locked (slice_index words 0) ≡ false → acquired (stack_in capacity words) ≡ top (free_in capacity words)
  answers = grind (arith, top)

  -- an acquire of an unlocked stack leaves the stack without its top
  leaves : (words : List ℕ) → says_locked (slice_index words 0) ≡ false
      → after_acquire (stack_in capacity words) ≡ record (stack_in capacity words) { free = drop 1 (free_in capacity words) }
  leaves = grind (arith, drop)

  -- where all indices are borrowed, `OutOfIndices` with the words as they were is what an acquire does
  stays_empty : (words : List ℕ) → Represents capacity words → says_locked (slice_index words 0) ≡ false → borrowed (slice_index words 0) ≡ capacity
      → Took words (Err failures.OutOfIndices) tt words
  stays_empty = grind (arith, number_of, chain, answers, top, leaves, drop, locked)

  module _ (words : List ℕ) (fits : Represents capacity words) (unlocked : says_locked (slice_index words 0) ≡ false)
      (m : ℕ) (there : capacity - borrowed (slice_index words 0) ≡ suc m) where
    -- the free indices are the proposed one and those after it in the chain
    free_is : free_in capacity words ≡ p words ∷ chain words (next words) m
    free_is = grind (arith, chain, number_of)

    -- the proposed index is free
    first_in : is_in (p words) (free_in capacity words) ≡ true
    first_in = ap (is_in (p words)) free_is ∙ in_first (p words) (chain words (next words) m)

    -- the proposed index is one of the set
    own : p words < capacity
    own = fits.below (p words) first_in

    -- the other free indices are of the set
    rest_below : (i : ℕ) → is_in i (chain words (next words) m) ≡ true → i < capacity
    rest_below i within = fits.below i (ap (is_in i) free_is ∙ in_rest i (p words) (chain words (next words) m) within)

    -- its flag is clear
    clear : claimed capacity (headed words) (p words) ≡ false
    clear = grind (arith, claimed_elsewhere, own, first_in)

    -- the word of the index's flag is one of the words
    near : flag_word capacity (p words) < length (headed words)
    near = grind (arith, length-set, own)

    -- at the end the head is the one that the acquire has written
    head_is : slice_index (last words) 0 ≡ head_taken (h words) (next words)
    head_is = grind (arith, get_or-set_other, flag, get_or-set_same)

    -- the head does not say that the set is locked
    open_head : borrowed (h words) < locked
    open_head = omega (arith, fits.few)

    -- the new head counts one borrowed index more
    new_number : borrowed (head_taken (h words) (next words)) ≡ borrowed (h words) + 1
    new_number = omega (arith, open_head)

    -- the new head proposes the index after the one that was taken
    new_next : proposed (head_taken (h words) (next words)) ≡ next words
    new_next = omega (arith, open_head)

    -- the new head is a number of 64 bits
    new_small : head_taken (h words) (next words) < 2 ^ 64
    new_small = omega arith

    -- the new head does not say that the set is locked
    new_unlocked : says_locked (head_taken (h words) (next words)) ≡ false
    new_unlocked = ne_eqb _ locked (let n = new_number in let few = fits.few in λ e. absurd (omega arith))

    -- at the end the set is not locked
    last_unlocked : says_locked (slice_index (last words) 0) ≡ false
    last_unlocked = ap says_locked head_is ∙ new_unlocked

    -- the cells of the indices stay
    kept_next : (i : ℕ) → i < capacity → slice_index (last words) (next_word i) ≡ slice_index words (next_word i)
    kept_next = grind (arith, get_or-set_other, next_word, flag)

    -- the free indices at the end are those before without the top
    last_free : free_in capacity (last words) ≡ chain words (next words) m
    last_free =
        let number : capacity - borrowed_number (slice_index (last words) 0) ≡ m =
        omega (arith, number_of (last words) last_unlocked, ap borrowed head_is, new_number) in
        let start : proposed (slice_index (last words) 0) ≡ next words = ap proposed head_is ∙ new_next in
        (λ i. chain (last words) (start i) (number i))
        ∙ sym (chain_same words (last words) (next words) m (λ i h. sym (kept_next i (rest_below i h))))

    -- the last words are those of a unique index set
    last_fits : Represents capacity (last words)
    last_fits =
        let apart = one_less (p words) (chain words (next words) m) (subst (IsDistinct eqb) free_is fits.distinct) in
        record {
          long = length-set (headed words) _ _ ∙ (length-set words 0 _ ∙ fits.long);
          some = fits.some;
          few = fits.few;
          small = subst (λ n. n < 2 ^ 64) (sym head_is) new_small;
          count = omega (arith, number_of (last words) last_unlocked, ap borrowed head_is, new_number);
          distinct = subst (IsDistinct eqb) (sym last_free) apart.1;
          below = λ i h. rest_below i (sym (ap (is_in i) last_free) ∙ h);
          -- the flag of the index that was taken stands, and the flag of each other index is as before
          flags = λ i low.
              ⊎_elim (λ (t : (eqb i (p words) ≡ true) × (i ≡ p words)).
              subst (λ j. claimed capacity (last words) j ≡ not (is_in j (free_in capacity (last words)))) (sym t.1)
              (claims capacity (headed words) (p words) near ∙ sym (ap not (ap (is_in (p words)) last_free ∙ apart.0))))
              (λ t. claims_leave capacity (headed words) (p words) near i t.1
              ∙ (claimed_elsewhere capacity words 0 (head_taken (h words) (next words)) i (omega arith)
              ∙ (fits.flags i low
              ∙ ap not (ap (is_in i) free_is ∙ (in_other i (p words) (chain words (next words) m) t.1 ∙ sym (ap (is_in i) last_free))))))
              (eqb_tells i (p words));
        }

    -- an acquire that takes the proposed index has done what an acquire does to the stack
    last_took : Took words (Ok (p words)) tt (last words)
    last_took = grind (arith, last_fits, answers, top, free_is, last_free, drop, locked, last_unlocked, leaves)

  -- An acquire that has taken no step does what an acquire does to the stack. The cases are whether the set
  -- is locked, and whether all indices are borrowed.
  runs_first : (words : List ℕ) → Represents capacity words → TakeRuns (first_acquire capacity) words
  runs_first words fits =
      -- the set is locked
      ⊎_elim (λ shut. record {
        steps = 1;
        few = omega arith;
        end = Err failures.IsLocked;
        last_room = tt;
        last_words = words;
        ends = finds_locked words shut;
        holds = stays_locked words fits shut;
      })
      (λ unlocked. ⊎_elim
      -- the set is not locked, and all indices are borrowed
      (λ (t : (eqb (borrowed (slice_index words 0)) capacity ≡ true) × (borrowed (slice_index words 0) ≡ capacity)).
      record {
        steps = 1;
        few = omega arith;
        end = Err failures.OutOfIndices;
        last_room = tt;
        last_words = words;
        ends = finds_none words unlocked t.1;
        holds = stays_empty words fits unlocked t.1;
      })
      -- an index is free: the acquire takes the one on top
      (λ (t : (eqb (borrowed (slice_index words 0)) capacity ≡ false) × (borrowed (slice_index words 0) ≢ capacity)).
      let number = number_of words unlocked in
      let count = fits.count in
      let other = t.1 in
      let m = capacity - borrowed (slice_index words 0) - 1 in
      let there : capacity - borrowed (slice_index words 0) ≡ suc m = omega (arith, other) in
      record {
        steps = 4;
        few = omega arith;
        end = Ok (p words);
        last_room = tt;
        last_words = last words;
        ends = takes_top words unlocked t.1 (own words fits unlocked m there) (clear words fits unlocked m there);
        holds = last_took words fits unlocked m there;
      })
      (eqb_tells (borrowed (slice_index words 0)) capacity))
      (cases_Bool (says_locked (slice_index words 0)))

  -- an acquire, run alone, does what an acquire does to the stack
  pub take_runs : (call : Acquire) → call ≡ first_acquire capacity → (words : List ℕ)
      → Represents capacity words → TakeRuns call words
  take_runs call at_first words fits = subst (λ c. TakeRuns c words) (sym at_first) (runs_first words fits)
