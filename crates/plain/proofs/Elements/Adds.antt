-- An add to a container that runs alone: within how many steps it ends, and that it does to the words what an
-- add does to the contents.
use Rattle.std.proofs.Common.{◌≡◌, ℕ, zero, suc, ◌+◌, ◌-◌, ◌^◌, ◌<◌, ◌≤◌, nat_lt, List, [], ◌∷◌, length, take}
use Rattle.std.proofs.Common.{Some, Result, Ok, Err, is_none, refl, sym, ap, subst, ◌∙◌, arith}
use Rattle.std.proofs.Common.{slice_index, slice_set, eq-eqb, if◌then◌else◌}
use Rattle.plain.proofs.Names.{nat_tests, length-map, by_test, word_at, change_word, count_word, element_word, is_even}
use Rattle.plain.proofs.Names.{After, GoOn, Done, ContainerHandle}
use Rattle.steps.specs.Indices.Robust.Parts.{empty, one_more}
use Rattle.steps.specs.Indices.Robust.Acquire.{Acquired, first_acquire, acquire_takes, acquire_want, acquire_after}
use Rattle.steps.specs.Container.Add.{Added, first_add, at_add, inner_acquire, add_want, add_acquired, add_after}
use Rattle.steps.specs.Objects.Owners.{Owners, acquired, granted, after_acquire}
use Rattle.steps.specs.declared.container.enums.ContainerAddFailure.{ContainerAddFailure}
use Rattle.steps.specs.declared.container.add.Add.{Add}
use Rattle.steps.specs.declared.container.add.AddStage.TheVariants as adds
use Rattle.steps.specs.declared.container.add.Owned.{Owned}
use Rattle.plain_queues.specs.Alone.{BehavesAs}
use Rattle.plain.specs.Robust as robust
use Rattle.plain.specs.Robust.{owner_in, owners_in}
use Rattle.plain.specs.Contents.{Contents, changed, handle_at, added, put_at, after_add, contents_in, Represents}
use Rattle.plain_queues.proofs.Alone.{Runs}
use Rattle.plain.proofs.Walks.{plus, plus_sum, Walks, WalksOn, OnEnd, longer, part_walks, runs}
use Rattle.plain_queues.proofs.Words.{stored}
use Rattle.plain.proofs.Fronts.{Behind, stays, front_walks}
use Rattle.plain.proofs.Elements.Sets.{AcquireLow, acquire_goes_low, acquire_below, acquire_front}
use Rattle.plain.proofs.Elements.Values.{Codes, front_fits, behind_contents, behind_fits, hidden, shown, shows, after_change}
use Rattle.plain.proofs.Elements.Values.{change_fits, change_contents, all_small, cell_within}

-- ---- which index is acquired

-- the call answered with a value and no error
abbrev pub IsAnswer : {A B : Type 0} → Result A B → Type 0
IsAnswer (Ok x) = Unit {0}
IsAnswer (Err e) = ⊥

-- an index that is acquired is below the capacity
pub acquired_low : (s : Owners) (i : ℕ) → Ok i ≡ acquired s → i < length s.owners
acquired_low = grind (arith, by_test, length, is_none, nat_tests)

-- the words of a robust set have as many owners as its capacity
pub owners_long : (capacity : ℕ) (words : List ℕ) → robust.Represents capacity words
    → length (owners_in words).owners ≡ capacity
owners_long capacity [] fits = let e : 0 ≡ 1 + capacity = fits.long in absurd (omega arith)
owners_long capacity (g ∷ cells) fits =
    let e : suc (length cells) ≡ 1 + capacity = fits.long in
    omega (arith, length-map cells owner_in)

module _ {V : Type 0} (codes : Codes V) (capacity container : ℕ) (given : Owned V) where
  open codes use {words_of, value_of, size, sized, given_back, some, wide}

  -- the add, run alone from these words, ends within n steps, and P holds of its answer and the last words
  abbrev AddEnds : ℕ → (Added → List ℕ → Type 0) → Add V → List ℕ → Type 0
  AddEnds n P call words =
      Walks (λ c. add_want words_of size c given) (λ c old. add_after size c old) n (OnEnd P) call words

  -- what a step of the add has answered ends at once or within n steps more, and P holds of the answer and
  -- the last words
  abbrev AddEndsFrom : ℕ → (Added → List ℕ → Type 0) → After (Add V) Added → List ℕ → Type 0
  AddEndsFrom n P a words =
      WalksOn (λ c. add_want words_of size c given) (λ c old. add_after size c old) n (OnEnd P) a words

  -- an add that has taken no step
  abbrev first : Add V
  first = first_add capacity

  -- the words of the value
  abbrev xs : List ℕ
  xs = words_of given.value

  -- the words ws with 1 added to the number of the index and to the number of changes
  abbrev last_of : ℕ → List ℕ → List ℕ
  last_of index ws =
      slice_set (slice_set ws (count_word capacity index) (one_more (slice_index ws (count_word capacity index)))) (change_word capacity)
      (one_more (slice_index (slice_set ws (count_word capacity index) (one_more (slice_index ws (count_word capacity index)))) (change_word capacity)))

  -- from the stage at which word `at` is stored, the add stores the words left, adds 1 to both numbers and
  -- answers the index
  goes_in : (P : Added → List ℕ → Type 0) (index n at : ℕ) → at + suc n ≡ size → (ws : List ℕ)
      → element_word capacity size index 0 + size < 2 ^ 64
      → P (Ok index) (last_of index (stored ws (element_word capacity size index 0) xs at (suc n)))
      → AddEnds (suc (suc (suc n))) P (at_add first (adds.Stores index at)) ws
  goes_in P index zero at end ws small holds =
      let place : element_word capacity size index at ≡ word_at (element_word capacity size index 0) at = omega arith in
      subst (λ p. AddEndsFrom 2 P (if nat_lt (at + 1) size then GoOn (at_add first (adds.Stores index (at + 1))) else GoOn
      (at_add first (adds.AddsCount index)))
      (slice_set ws p (slice_index xs at)))
      (sym place)
      (by_test (λ a. AddEndsFrom 2 P a (slice_set ws (word_at (element_word capacity size index 0) at) (slice_index xs at)))
      (nat_lt (at + 1) size) _ _
      (λ t. let more : at + 1 < size = grind (arith, nat_tests) in absurd (omega arith))
      (λ t. holds))
  goes_in P index (suc n) at end ws small holds =
      let place : element_word capacity size index at ≡ word_at (element_word capacity size index 0) at = omega arith in
      let next = slice_set ws (word_at (element_word capacity size index 0) at) (slice_index xs at) in
      subst (λ p. AddEndsFrom (suc (suc (suc n))) P
      (if nat_lt (at + 1) size then GoOn (at_add first (adds.Stores index (at + 1))) else GoOn
      (at_add first (adds.AddsCount index)))
      (slice_set ws p (slice_index xs at)))
      (sym place)
      (by_test (λ a. AddEndsFrom (suc (suc (suc n))) P a next)
      (nat_lt (at + 1) size) _ _
      (λ t. goes_in P index n (at + 1) (omega arith) next small holds)
      (λ t. let less : size ≤ at + 1 = grind (arith, nat_tests) in absurd (omega arith)))

  -- the greatest number of steps of an add after its acquire
  abbrev few_steps : ℕ
  few_steps = suc (suc (suc (suc (suc (size - 1)))))

  -- With an index acquired, the add hides what stands there, stores its value, shows it and counts the
  -- change. The cases are whether something is to be hidden.
  puts : (P : Added → List ℕ → Type 0) (ws : List ℕ) (fits : Represents size capacity ws) (index : ℕ) (near : index < capacity)
      → P (Ok index) (after_change value_of fits index near wide
      (shown value_of fits index near wide xs (sized given.value) (given_back given.value)))
      → AddEnds few_steps P (at_add first (adds.LoadsCount index)) ws
  puts P ws fits index near holds =
      let c = count_word capacity index in
      let n = slice_index ws (count_word capacity index) in
      let count : suc (size - 1) ≡ size = omega (arith, some) in
      let small : element_word capacity size index 0 + size < 2 ^ 64 =
      omega (arith, cell_within value_of fits index near wide, all_small value_of fits index near wide) in
      -- from the words with the value hidden, the add stores its words, makes the number odd
      -- and counts the change
      let on : (hs : List ℕ) → hidden value_of fits index near wide ≡ hs
      → AddEnds (suc (suc (suc (size - 1)))) P (at_add first (adds.Stores index 0)) hs =
      λ hs e. goes_in P index (size - 1) 0 (omega arith) hs small
      (subst (λ (z : List ℕ × ℕ). P (Ok index) (last_of index (stored z.0 (element_word capacity size index 0) xs 0 z.1))) (λ i. (e i, sym count i)) holds) in
      by_test (λ a. AddEndsFrom (suc (suc (suc (suc (size - 1))))) P a ws) (is_even n) _ _
      -- the number is even: nothing is to be hidden
      (λ t. longer (λ c. add_want words_of size c given) (λ c old. add_after size c old) 1 (suc (suc (suc (size - 1)))) (OnEnd P)
      (at_add first (adds.Stores index 0)) ws
      (on ws (ap (λ b. if b then ws else slice_set ws (count_word capacity index) (one_more (slice_index ws (count_word capacity index)))) t)))
      -- the number is odd: one step makes it even first
      (λ t. subst (λ vs. AddEndsFrom (suc (suc (suc (size - 1)))) P (GoOn (at_add first (adds.Stores index 0))) vs)
      (sym (ap (λ b. if b then slice_set ws (count_word capacity index) (one_more (slice_index ws (count_word capacity index))) else ws) (eq-eqb n n refl)))
      (on (slice_set ws (count_word capacity index) (one_more (slice_index ws (count_word capacity index))))
      (ap (λ b. if b then ws else slice_set ws (count_word capacity index) (one_more (slice_index ws (count_word capacity index)))) t)))

  -- ---- what it makes of the map

  -- what the add's end is for a caller: a handle, or a failure
  abbrev pub handle_of : Added → Result ContainerHandle ContainerAddFailure
  handle_of (Ok index) =
      Ok (record { index = index; owner = given.owner; container = container })
  handle_of (Err failure) = Err failure

  -- from these words the add has done what an add does to the contents, with this end and these last words
  abbrev pub Put : List ℕ → Added → List ℕ → Type 0
  Put words end last =
      BehavesAs (Represents size capacity) (contents_in value_of size capacity container)
      (λ s. added s given.owner) (λ s. after_add s given.owner given.value) words (handle_of end) last

  module _ (words : List ℕ) (fits : Represents size capacity words) (lives : given.owner < empty) where
    -- the contents before the add
    abbrev old : Contents V
    old = contents_in value_of size capacity container words

    -- the acquire has done what an acquire does to the map of the set's words
    abbrev AcquireBehaves : Acquired → List ℕ → Type 0
    AcquireBehaves e last =
        BehavesAs (robust.Represents capacity) owners_in acquired (λ s. after_acquire s given.owner) (take (1 + capacity) words) e last

    -- from this end of the acquire the add goes on to an end of which `Put` holds
    abbrev AddGoesOn : Acquired → List ℕ → Type 0
    AddGoesOn e last = AddEndsFrom few_steps (Put words) (add_acquired first (Done e)) last

    -- From an end of the acquire the add goes on: with an index it puts its value there, and with a failure
    -- it ends. The cases are what the acquire has answered.
    so : (e : Acquired) (last : List ℕ) → Behind (1 + capacity) words last → AcquireBehaves e (take (1 + capacity) last) → AddGoesOn e last
    -- the acquire got an index: the add puts its value there
    so (Ok index) last behind took =
        let fits₂ = behind_fits value_of size capacity words last behind fits took.0 in
        let long = owners_long capacity (take (1 + capacity) words) (front_fits value_of size capacity words fits) in
        let near : index < capacity = subst (λ n. index < n) long (acquired_low old.owners index took.1) in
        let there = shows value_of fits₂ index near wide xs (sized given.value) (given_back given.value) in
        let set : owners_in (take (1 + capacity) last) ≡ granted old.owners given.owner (Ok index) =
        took.2 ∙ ap (granted old.owners given.owner) (sym took.1) in
        puts (Put words) last fits₂ index near (
          change_fits value_of fits₂ index near wide there.writes,
          ap (handle_at old given.owner) took.1,
          change_contents value_of fits₂ index near wide container there.writes there.here
              ∙ (ap (λ s. changed s (owners_in (take (1 + capacity) last)) index (Some given.value))
              (behind_contents value_of size capacity container words last behind)
              ∙ (ap (λ set. changed old set index (Some given.value)) set
              ∙ ap (put_at old given.owner given.value) took.1)),
        )
    -- the acquire failed: the add ends with a failure, and the contents stay
    so (Err failure) last behind took =
        let set : owners_in (take (1 + capacity) last) ≡ old.owners =
        took.2 ∙ ap (granted old.owners given.owner) (sym took.1) in (
          behind_fits value_of size capacity words last behind fits took.0,
          ap (handle_at old given.owner) took.1,
          behind_contents value_of size capacity container words last behind
              ∙ (ap (λ set. record old { owners = set }) set
              ∙ ap (put_at old given.owner given.value) took.1),
        )

    -- an add that has taken no step does what an add does to the contents
    pub add_runs : Runs (add_want words_of size) (λ c given old. add_after size c old) (λ c (room : Unit {0}) old. room) given
        (λ e room ws. Put words e ws) first tt words
    add_runs =
        let a = acquire_front capacity given.owner lives (take (1 + capacity) words) (front_fits value_of size capacity words fits) in
        let bound = a.1 in
        runs (plus a.0 few_steps) (Put words) (omega (arith, plus_sum a.0 few_steps, wide))
        (part_walks
        (record {
          want = λ c. add_want words_of size c given;
          after = λ c old. add_after size c old;
          part_want = λ c. acquire_want c given.owner;
          part_after = λ c old. acquire_after c old;
          within = λ d. at_add first (adds.Acquires d.stage);
          lift = add_acquired first;
          Low = AcquireLow capacity;
          low_on = acquire_goes_low capacity;
          wants_so = λ d. refl;
          goes_so = λ d old low. ap (λ n. add_acquired first (acquire_takes (inner_acquire n d.stage) d.stage old)) (sym low.0);
          lifts = λ d. refl;
        })
        a.0 few_steps (OnEnd (Put words)) (first_acquire capacity) words (refl, tt)
        (front_walks (λ c. acquire_want c given.owner) (λ c old. acquire_after c old) (1 + capacity) (AcquireLow capacity)
        (acquire_below capacity given.owner) (acquire_goes_low capacity) words AcquireBehaves AddGoesOn so a.0
        (first_acquire capacity) words (refl, tt) (stays (1 + capacity) words) a.2))

  -- an add, run alone, does what an add does to the contents
  pub add_at : {number : ℕ} → number ≡ given.owner → number < empty → {call : Add V} → call ≡ first
      → {words : List ℕ} → Represents size capacity words
      → Runs (add_want words_of size) (λ c given old. add_after size c old) (λ c (room : Unit {0}) old. room) given
      (λ e room ws. Put words e ws) call tt words
  add_at = grind (arith, add_runs)
