-- A release of a unique index set that runs alone, in either mode: within how many steps it ends, and that it
-- puts the index on the stack or locks the set.
use Rattle.std.proofs.Common.{◌≡◌, ◌≢◌, ℕ, suc, ◌+◌, ◌-◌, ◌^◌, ◌<◌, ◌≤◌, ⊎_elim, Bool, true, false, not, ◌||◌}
use Rattle.std.proofs.Common.{◌==◌, eqb, eq-eqb, ne_eqb, if◌then◌else◌, List, ◌∷◌, length, refl, sym, ap, subst, ◌∙◌}
use Rattle.std.proofs.Common.{arith, slice_index, slice_set, get_or-set_same, get_or-set_other, length-set, true≢false}
use Rattle.std.specs.Prelude.{bit_and}
use Rattle.plain.proofs.Names.{nat_tests, eqb_tells, cases_Bool, by_eq, ReleaseState, Locked, Unlocked}
use Rattle.std.proofs.lemmas.Map.Steps.{length-le_from_distinct_below}
use Rattle.steps.specs.Indices.Head.{next_word, flag_word, flag, proposed, borrowed, locked, says_locked}
use Rattle.steps.specs.Indices.Unique.{first_release, head_given_back, head_locked, head_released}
use Rattle.steps.specs.Indices.Unique.{state_after, release_want, release_after, borrowed_number}
use Rattle.steps.specs.declared.indices.unique.Release.{Release}
use Rattle.plain_queues.specs.Alone.{EndsIn, BehavesAs}
use Rattle.steps.specs.Objects.Stacks.{IsOut, out, released, released_or_locked, release_state}
use Rattle.plain.specs.Unique.{chain, free_in, stack_in, claimed, Represents}
use Rattle.plain_queues.proofs.Alone.{Runs}
use Rattle.plain.proofs.Stacks.Chains.{is_in, in_first, in_other, one_more, chain_same, chain_length, claimed_elsewhere, frees, frees_leave}

module _ (lock : Bool) (capacity index : ℕ) (words : List ℕ) where
  -- the head word
  abbrev h : ℕ
  h = slice_index words 0

  -- the words without the flag of the index
  abbrev cleared : List ℕ
  cleared = slice_set words (flag_word capacity index) (bit_and (slice_index words (flag_word capacity index)) (2 ^ 64 - 1 - flag index))

  -- those words with the old top as the next of the index
  abbrev linked : List ℕ
  linked = slice_set cleared (next_word index) (proposed h)

  -- those words with the new head
  abbrev last : List ℕ
  last = slice_set linked 0 (head_released lock h index)

  module _ (M : Type 0) where
    -- the release, run alone from `now`, ends within n steps with this answer and the words `last`
    abbrev pub ReleaseEnds : ℕ → ReleaseState → Release M → List ℕ → Type 0
    ReleaseEnds n end call now =
        EndsIn (release_want lock) (λ c given old. release_after lock c old) (λ c (room : Unit {0}) old. room) index n end tt last call tt now

    -- the release ends within four steps, where its first two writes leave the head
    goes : slice_index cleared 0 ≡ h → slice_index linked 0 ≡ h
        → ReleaseEnds 4 (state_after lock h) (first_release {M = M} capacity) words
    goes = grind (arith, by_eq, eq-eqb)

  -- ---- what it makes of the stack

  module _ (fits : Represents capacity words) (is_out : IsOut (stack_in capacity words) index) where
    -- the free indices before the release
    abbrev free : List ℕ
    free = free_in capacity words

    -- how many indices are free before the release
    abbrev count : ℕ
    count = capacity - borrowed_number h

    -- the free indices are as many as the set has, less the borrowed ones
    free_length : length free ≡ count
    free_length = chain_length words (proposed h) count

    -- the index is not free, so not all indices are free
    some_out : count + 1 ≤ capacity
    some_out =
        let all = length-le_from_distinct_below (index ∷ free) capacity (one_more index free is_out.1 fits.distinct)
        (λ q there. ⊎_elim (λ (t : (eqb q index ≡ true) × (q ≡ index)). subst (λ z. z < capacity) (sym t.1) is_out.0)
        (λ t. fits.below q (sym (in_other q index free t.1) ∙ there)) (eqb_tells q index)) in
        omega (arith, free_length)

    -- a set with an index out is not locked
    unlocked : says_locked h ≡ false
    unlocked = grind (arith, borrowed, some_out, cases_Bool)

    -- the number in the head is that of the borrowed indices, since the set is not locked
    number : borrowed_number h ≡ borrowed h
    number = ap (λ b. if b then 0 else borrowed h) unlocked

    -- the word of the index's flag is one of the words
    low : flag_word capacity index < length words
    low = omega (arith, fits.long, is_out.0)

    -- the head is the same once the flag is cleared
    one : slice_index cleared 0 ≡ h
    one = get_or-set_other words (flag_word capacity index) 0 _ 0 (λ e. absurd (omega arith))

    -- the head is the same once the index's cell is stored
    two : slice_index linked 0 ≡ h
    two = get_or-set_other cleared (next_word index) 0 _ 0 (λ e. absurd (omega arith)) ∙ one

    -- clearing the flag leaves the length
    cleared_long : length cleared ≡ length words
    cleared_long = length-set words _ _

    -- storing the cell leaves the length
    linked_long : length linked ≡ length words
    linked_long = length-set cleared _ _ ∙ cleared_long

    -- exchanging the head leaves the length
    last_long : length last ≡ length words
    last_long = length-set linked _ _ ∙ linked_long

    -- at the end the head is the one that the release has written
    head_is : slice_index last 0 ≡ head_released lock h index
    head_is = grind (arith, get_or-set_same, linked_long)

    -- the next word of the index names the old top
    link_is : slice_index last (next_word index) ≡ proposed h
    link_is = grind (arith, get_or-set_other, next_word, get_or-set_same, cleared_long)

    -- the next word of each other index stays
    kept_next : (i : ℕ) → i < capacity → i ≢ index → slice_index last (next_word i) ≡ slice_index words (next_word i)
    kept_next = grind (arith, get_or-set_other, next_word)

    -- a free index is another than the one that comes back
    apart : (i : ℕ) → is_in i free ≡ true → i ≢ index
    apart i there same = true≢false (sym there ∙ (ap (λ j. is_in j free) same ∙ is_out.1))

    -- the chain from the index on is the index and the free ones
    longer : chain last index (suc count) ≡ index ∷ free
    longer = grind (arith, chain, link_is, chain_same, kept_next, apart)

    -- an index is claimed at the end unless it is the released one or was free
    flags_are : (i : ℕ) → i < capacity → claimed capacity last i ≡ not (is_in i (index ∷ free))
    flags_are = grind (arith, claimed_elsewhere, next_word, claimed, frees, low, in_first, frees_leave, in_other, eqb_tells)

    -- the new head proposes the index and says that one index more is free
    module _ (new : proposed (head_released lock h index) ≡ index) (counts : capacity - borrowed_number (head_released lock h index) ≡ suc count)
        (within : borrowed_number (head_released lock h index) ≤ capacity) (small : head_released lock h index < 2 ^ 64) where
      -- the free indices at the end are the released one and those before
      last_free : free_in capacity last ≡ index ∷ free
      last_free = grind (arith, chain, head_is, longer)

      -- the last words are those of a unique index set
      last_fits : Represents capacity last
      last_fits = grind (arith, last_long, head_is, last_free, one_more, in_other, eqb_tells, flags_are)

    -- where the new head does not lock, the last words are those of a set that is not locked, with the index on the stack
    gave : head_released lock h index ≡ head_given_back h index
        → Represents capacity last × (stack_in capacity last ≡ record { capacity = capacity; free = index ∷ free; locked = false })
    gave head =
        let is = number in
        let some = some_out in
        let in_set = is_out.0 in
        let few = fits.few in
        -- the head proposes the index and counts one borrowed index less
        let here : proposed (head_given_back h index) ≡ index = omega arith in
        let less : borrowed (head_given_back h index) + 1 ≡ borrowed h = omega arith in
        let still : says_locked (head_given_back h index) ≡ false = ne_eqb _ locked (λ e. absurd (omega arith)) in
        let now : borrowed_number (head_given_back h index) ≡ borrowed (head_given_back h index) =
        ap (λ b. if b then 0 else borrowed (head_given_back h index)) still in
        let a : proposed (head_released lock h index) ≡ index = ap proposed head ∙ here in
        let n : borrowed_number (head_released lock h index) ≡ borrowed (head_given_back h index) = ap borrowed_number head ∙ now in
        let under : head_given_back h index < 2 ^ 64 = omega arith in
        let small : head_released lock h index < 2 ^ 64 = subst (λ z. z < 2 ^ 64) (sym head) under in
        let all = last_free a (omega arith) (omega arith) small in (
          last_fits a (omega arith) (omega arith) small,
          λ i. record { capacity = capacity; free = all i; locked = (ap says_locked (head_is ∙ head) ∙ still) i },
        )

-- ---- mode Default

-- from these words the release has done what a release in mode Default does to the stack
abbrev pub Gave : ℕ → ℕ → List ℕ → ReleaseState → Unit {0} → List ℕ → Type 0
Gave capacity index words end room now =
    BehavesAs (Represents capacity) (stack_in capacity) (λ s. Unlocked) (λ s. released s index) words end now

module _ (M : Type 0) (capacity index : ℕ) (words : List ℕ) (fits : Represents capacity words) (is_out : IsOut (stack_in capacity words) index) where
  -- the release, run alone, ends and has done what a release in mode Default does to the stack
  abbrev pub GiveRuns : Release M → Type 0
  GiveRuns call =
      Runs (release_want {M = M} false) (λ c given old. release_after false c old) (λ c (room : Unit {0}) old. room) index
      (Gave capacity index words) call tt words

  -- a release in mode Default that runs alone puts the index on top of the stack
  gives_first : GiveRuns (first_release capacity)
  gives_first =
      let free_one = unlocked false capacity index words fits is_out in
      let so = gave false capacity index words fits is_out refl in
      record {
        steps = 4;
        few = omega arith;
        end = Unlocked;
        last_room = tt;
        last_words = last false capacity index words;
        ends = goes false capacity index words M (one false capacity index words fits is_out) (two false capacity index words fits is_out);
        holds = (so.0, refl, so.1 ∙ (λ i. record { capacity = capacity; free = index ∷ free_in capacity words; locked = sym free_one i }));
      }

  -- a release in mode Default, run alone, puts the index on the stack
  pub give_runs : (call : Release M) → call ≡ first_release capacity → GiveRuns call
  give_runs call at_first = subst GiveRuns (sym at_first) gives_first

-- ---- mode LockIfLastIndex

-- from these words the release has done what a release in mode LockIfLastIndex does to the stack
abbrev pub GaveOrLocked : ℕ → ℕ → List ℕ → ReleaseState → Unit {0} → List ℕ → Type 0
GaveOrLocked capacity index words end room now =
    BehavesAs (Represents capacity) (stack_in capacity) release_state (λ s. released_or_locked s index) words
    end now

module _ (M : Type 0) (capacity index : ℕ) (words : List ℕ) (fits : Represents capacity words) (is_out : IsOut (stack_in capacity words) index) where
  -- the release, run alone, ends and has done what a release in mode LockIfLastIndex does to the stack
  abbrev pub LockRuns : Release M → Type 0
  LockRuns call =
      Runs (release_want {M = M} true) (λ c given old. release_after true c old) (λ c (room : Unit {0}) old. room) index
      (GaveOrLocked capacity index words) call tt words

  -- The last words are those of a set, with the index on the stack. The cases are whether it was the only
  -- index out: then the set is locked.
  shaped : (b : Bool) → (borrowed (slice_index words 0) == 1) ≡ b
      → Represents capacity (last true capacity index words)
      × (stack_in capacity (last true capacity index words) ≡ record { capacity = capacity; free = index ∷ free_in capacity words; locked = b })
  -- it was the only index out: the new head locks the set
  shaped true only =
      let is = number true capacity index words fits is_out in
      let some = some_out true capacity index words fits is_out in
      let some_one = fits.some in
      let one_only : borrowed (slice_index words 0) ≡ 1 = grind (arith, nat_tests, only) in
      let head : head_released true (slice_index words 0) index ≡ head_locked (slice_index words 0) index =
      ap (λ b. if b then head_locked (slice_index words 0) index else head_given_back (slice_index words 0) index) only in
      let in_set = is_out.0 in
      let few = fits.few in
      -- the head that locks proposes the index and counts no borrowed index
      let here : proposed (head_locked (slice_index words 0) index) ≡ index = omega arith in
      let shut : borrowed (head_locked (slice_index words 0) index) ≡ locked = omega arith in
      let says : says_locked (head_locked (slice_index words 0) index) ≡ true = eq-eqb _ locked shut in
      let none : borrowed_number (head_locked (slice_index words 0) index) ≡ 0 =
      ap (λ b. if b then 0 else borrowed (head_locked (slice_index words 0) index)) says in
      let a : proposed (head_released true (slice_index words 0) index) ≡ index = ap proposed head ∙ here in
      let n : borrowed_number (head_released true (slice_index words 0) index) ≡ 0 = ap borrowed_number head ∙ none in
      let low : head_locked (slice_index words 0) index < 2 ^ 64 = omega arith in
      let small : head_released true (slice_index words 0) index < 2 ^ 64 = subst (λ z. z < 2 ^ 64) (sym head) low in
      let all = last_free true capacity index words fits is_out a (omega arith) (omega arith) small in (
        last_fits true capacity index words fits is_out a (omega arith) (omega arith) small,
        λ i. record {
          capacity = capacity;
          free = all i;
          locked = (ap says_locked (head_is true capacity index words fits is_out ∙ head) ∙ says) i;
        },
      )
  -- other indices are out: the new head does not lock
  shaped false more =
      gave true capacity index words fits is_out
      (ap (λ b. if b then head_locked (slice_index words 0) index else head_given_back (slice_index words 0) index) more)

  -- a release in mode LockIfLastIndex that has taken no step puts the index on the stack, and locks the set
  -- where it was the only index out
  locks_first : LockRuns (first_release capacity)
  locks_first =
      let free_one = unlocked true capacity index words fits is_out in
      let is = number true capacity index words fits is_out in
      let some = some_out true capacity index words fits is_out in
      let long = free_length true capacity index words fits is_out in
      let now = shaped (borrowed (slice_index words 0) == 1) refl in
      -- the set gets locked where exactly one index is out
      let count : out (stack_in capacity words) ≡ borrowed (slice_index words 0) = omega arith in
      let said : (says_locked (slice_index words 0) || (out (stack_in capacity words) == 1)) ≡ (borrowed (slice_index words 0) == 1) =
      λ j. free_one j || (count j == 1) in
      record {
        steps = 4;
        few = omega arith;
        end = state_after true (slice_index words 0);
        last_room = tt;
        last_words = last true capacity index words;
        ends = goes true capacity index words M (one true capacity index words fits is_out) (two true capacity index words fits is_out);
        holds = (
          now.0,
          ap (λ n. if n == 1 then Locked else Unlocked) (sym count),
          now.1 ∙ (λ i. record {
            capacity = capacity;
            free = index ∷ free_in capacity words;
            locked = sym said i;
          }),
        );
      }

  -- a release in mode LockIfLastIndex, run alone, does what it does to the stack
  pub lock_runs : (call : Release M) → call ≡ first_release capacity → LockRuns call
  lock_runs call at_first = subst LockRuns (sym at_first) locks_first
