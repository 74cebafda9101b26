-- A replace in a container that runs alone: within how many steps it ends, and that it does to the words what
-- a replace does to the contents.
use Rattle.std.proofs.Common.{◌≡◌, ℕ, zero, suc, ◌+◌, ◌-◌, ◌^◌, ◌<◌, ◌≤◌, true, false, nat_lt, List, take}
use Rattle.std.proofs.Common.{Some, Ok, Err, refl, sym, ap, subst, ◌∙◌, arith, slice_index, slice_set, get_or-take}
use Rattle.std.proofs.Common.{eq-eqb, ne_eqb, if◌then◌else◌}
use Rattle.plain.proofs.Names.{nat_tests, by_test, by_eq, word_at, change_word, count_word, element_word, is_even}
use Rattle.plain.proofs.Names.{After, GoOn, ContainerHandle}
use Rattle.steps.specs.Indices.Robust.Parts.{cell_word, empty, one_more}
use Rattle.steps.specs.Container.Replace.{Replaced, first_replace, replace_want, replace_after}
use Rattle.steps.specs.declared.container.enums.ContainerRemoveError.TheVariants.{ContainerHandleNotOwnedByContainer}
use Rattle.steps.specs.declared.container.replace.Replace.{Replace}
use Rattle.steps.specs.declared.container.replace.ReplaceStage.{ReplaceStage}
use Rattle.steps.specs.declared.container.replace.ReplaceStage.TheVariants as replaces
use Rattle.steps.specs.declared.container.replace.Replacement.{Replacement}
use Rattle.plain_queues.specs.Alone.{BehavesAs}
use Rattle.plain.specs.Contents.{Contents, changed, names, replaced, after_replace, contents_in, Represents}
use Rattle.plain_queues.proofs.Alone.{Runs}
use Rattle.plain.proofs.Walks.{Walks, WalksOn, OnEnd, longer, runs}
use Rattle.plain_queues.proofs.Words.{stored}
use Rattle.plain.proofs.Elements.Handles.{has_word, has_past, names_own}
use Rattle.plain.proofs.Elements.Values.{Codes, front_fits, hidden, shown, shows, after_change, change_fits, change_contents, all_small, cell_within}

module _ {V : Type 0} (codes : Codes V) (capacity container : ℕ) (given : Replacement V) where
  open codes use {words_of, value_of, size, sized, given_back, some, wide}

  -- the replace, run alone from these words, ends within n steps, and P holds of its
  -- answer and the last words
  abbrev ReplaceEnds : ℕ → (Replaced → List ℕ → Type 0) → Replace V → List ℕ → Type 0
  ReplaceEnds n P call words =
      Walks (λ c. replace_want words_of size c given) (λ c old. replace_after size c given old) n (OnEnd P) call words

  -- what a step of the replace has answered ends at once or within n steps more, and P holds of the answer
  -- and the last words
  abbrev ReplaceEndsFrom : ℕ → (Replaced → List ℕ → Type 0) → After (Replace V) Replaced → List ℕ → Type 0
  ReplaceEndsFrom n P a words =
      WalksOn (λ c. replace_want words_of size c given) (λ c old. replace_after size c given old) n (OnEnd P) a words

  -- the replace at this stage
  abbrev call : ReplaceStage → Replace V
  call stage = record { capacity = capacity; stage = stage; of = record {} }

  -- the words of the value
  abbrev xs : List ℕ
  xs = words_of given.value

  -- the words ws with 1 added to the number of the index and to the number of changes
  abbrev last_of : ℕ → List ℕ → List ℕ
  last_of index ws =
      slice_set (slice_set ws (count_word capacity index) (one_more (slice_index ws (count_word capacity index)))) (change_word capacity)
      (one_more (slice_index (slice_set ws (count_word capacity index) (one_more (slice_index ws (count_word capacity index)))) (change_word capacity)))

  -- from the stage at which word `at` is stored, the replace stores the words left, adds 1 to
  -- both numbers and ends
  goes_in : (P : Replaced → List ℕ → Type 0) (n at : ℕ) → at + suc n ≡ size → (ws : List ℕ)
      → element_word capacity size given.index 0 + size < 2 ^ 64
      → P (Ok tt) (last_of given.index (stored ws (element_word capacity size given.index 0) xs at (suc n)))
      → ReplaceEnds (suc (suc (suc n))) P (call (replaces.Stores at)) ws
  goes_in P zero at end ws small holds =
      let place : element_word capacity size given.index at ≡ word_at (element_word capacity size given.index 0) at = omega arith in
      subst (λ p. ReplaceEndsFrom 2 P (if nat_lt (at + 1) size then GoOn (call (replaces.Stores (at + 1))) else GoOn
      (call (replaces.AddsCount)))
      (slice_set ws p (slice_index xs at)))
      (sym place)
      (by_test (λ a. ReplaceEndsFrom 2 P a (slice_set ws (word_at (element_word capacity size given.index 0) at) (slice_index xs at)))
      (nat_lt (at + 1) size) _ _
      (λ t. let more : at + 1 < size = grind (arith, nat_tests) in absurd (omega arith))
      (λ t. holds))
  goes_in P (suc n) at end ws small holds =
      let place : element_word capacity size given.index at ≡ word_at (element_word capacity size given.index 0) at = omega arith in
      let next = slice_set ws (word_at (element_word capacity size given.index 0) at) (slice_index xs at) in
      subst (λ p. ReplaceEndsFrom (suc (suc (suc n))) P
      (if nat_lt (at + 1) size then GoOn (call (replaces.Stores (at + 1))) else GoOn
      (call (replaces.AddsCount)))
      (slice_set ws p (slice_index xs at)))
      (sym place)
      (by_test (λ a. ReplaceEndsFrom (suc (suc (suc n))) P a next)
      (nat_lt (at + 1) size) _ _
      (λ t. goes_in P n (at + 1) (omega arith) next small holds)
      (λ t. let less : size ≤ at + 1 = grind (arith, nat_tests) in absurd (omega arith)))

  -- the greatest number of steps of a replace after the load of its cell
  abbrev few_steps : ℕ
  few_steps = suc (suc (suc (suc (suc (size - 1)))))

  -- Where the cell has the owner, the replace hides what stands there, stores its value, shows it and counts
  -- the change. The cases are whether something is to be hidden.
  puts : (P : Replaced → List ℕ → Type 0) (ws : List ℕ) (fits : Represents size capacity ws) (near : given.index < capacity)
      → P (Ok tt) (after_change value_of fits given.index near wide
      (shown value_of fits given.index near wide xs (sized given.value) (given_back given.value)))
      → ReplaceEnds few_steps P (call (replaces.LoadsCount)) ws
  puts P ws fits near holds =
      let c = count_word capacity given.index in
      let n = slice_index ws (count_word capacity given.index) in
      let count : suc (size - 1) ≡ size = omega (arith, some) in
      let small : element_word capacity size given.index 0 + size < 2 ^ 64 =
      omega (arith, cell_within value_of fits given.index near wide, all_small value_of fits given.index near wide) in
      -- from the words with the value hidden, the replace stores its words, makes the number odd
      -- and counts the change
      let on : (hs : List ℕ) → hidden value_of fits given.index near wide ≡ hs
      → ReplaceEnds (suc (suc (suc (size - 1)))) P (call (replaces.Stores 0)) hs =
      λ hs e. goes_in P (size - 1) 0 (omega arith) hs small
      (subst (λ (z : List ℕ × ℕ). P (Ok tt) (last_of given.index (stored z.0 (element_word capacity size given.index 0) xs 0 z.1)))
      (λ i. (e i, sym count i)) holds) in
      by_test (λ a. ReplaceEndsFrom (suc (suc (suc (suc (size - 1))))) P a ws) (is_even n) _ _
      -- the number is even: nothing is to be hidden
      (λ t. longer (λ c. replace_want words_of size c given) (λ c old. replace_after size c given old) 1 (suc (suc (suc (size - 1)))) (OnEnd P)
      (call (replaces.Stores 0)) ws
      (on ws (ap (λ b. if b then ws else slice_set ws (count_word capacity given.index) (one_more (slice_index ws (count_word capacity given.index)))) t)))
      -- the number is odd: one step makes it even first
      (λ t. subst (λ vs. ReplaceEndsFrom (suc (suc (suc (size - 1)))) P (GoOn (call (replaces.Stores 0))) vs)
      (sym (ap (λ b. if b then slice_set ws (count_word capacity given.index)
      (one_more (slice_index ws (count_word capacity given.index))) else ws)
      (eq-eqb n n refl)))
      (on (slice_set ws (count_word capacity given.index) (one_more (slice_index ws (count_word capacity given.index))))
      (ap (λ b. if b then ws else slice_set ws (count_word capacity given.index) (one_more (slice_index ws (count_word capacity given.index)))) t)))

  -- ---- what it makes of the map

  -- the handle of this index and owner
  abbrev handle : ContainerHandle
  handle = record { index = given.index; owner = given.owner; container = container }

  -- from these words the replace has done what a replace does to the contents, with this end
  -- and these last words
  abbrev pub Put : List ℕ → Replaced → List ℕ → Type 0
  Put words end last =
      BehavesAs (Represents size capacity) (contents_in value_of size capacity container)
      (λ s. replaced s handle) (λ s. after_replace s handle given.value) words end last

  module _ (words : List ℕ) (fits : Represents size capacity words) (lives : given.owner < empty) where
    -- the contents before the replace
    abbrev old : Contents V
    old = contents_in value_of size capacity container words

    -- where the handle names no value, the error with the words as they were is what a replace does
    refused : names old handle ≡ false → Put words (Err ContainerHandleNotOwnedByContainer) words
    refused = grind (arith, changed)

    -- where the handle names a value, a replace that has stored its own has done what a replace
    -- does to the contents
    put_in : (near : given.index < capacity) → names old handle ≡ true
        → Put words (Ok tt) (after_change value_of fits given.index near wide
        (shown value_of fits given.index near wide xs (sized given.value) (given_back given.value)))
    put_in near hit =
        let there = shows value_of fits given.index near wide xs (sized given.value) (given_back given.value) in (
          change_fits value_of fits given.index near wide there.writes,
          sym (ap (λ b. if b then Ok tt else Err ContainerHandleNotOwnedByContainer) hit),
          change_contents value_of fits given.index near wide container there.writes there.here
              ∙ sym (ap (λ b. if b then changed old old.owners given.index (Some given.value) else old) hit),
        )

    -- A replace that has taken no step ends within its number of steps. The cases are whether its index is
    -- below the capacity, and whether the cell has the owner.
    walks : ReplaceEnds (suc few_steps) (Put words) (first_replace capacity given.index) words
    walks =
        by_test (λ stage. ReplaceEnds (suc few_steps) (Put words) (call stage) words) (nat_lt given.index capacity) _ _
        -- the index is one of the container: the replace loads its cell
        (λ t. let near : given.index < capacity = grind (arith, nat_tests) in
        let is =
        names_own capacity size container value_of words given.index given.owner
        ∙ has_word capacity (take (1 + capacity) words) (front_fits value_of size capacity words fits) given.index
        given.owner lives near in
        let word : slice_index (take (1 + capacity) words) (cell_word given.index) ≡ slice_index words (cell_word given.index) =
        get_or-take (1 + capacity) words (cell_word given.index) 0 (omega arith) in
        by_eq (λ a. ReplaceEndsFrom few_steps (Put words) a words) (slice_index words (cell_word given.index)) given.owner _ _
        -- the cell has the owner: the replace puts its value there
        (λ e. puts (Put words) words fits near (put_in near (is ∙ eq-eqb _ _ (word ∙ e))))
        -- the cell has not the owner: the replace is refused
        (λ other. refused (is ∙ ne_eqb _ _ (λ e. other (sym word ∙ e)))))
        -- the index is not one of the container: the replace is refused
        (λ t. let far : capacity ≤ given.index = grind (arith, nat_tests) in
        refused (names_own capacity size container value_of words given.index given.owner
        ∙ has_past capacity (take (1 + capacity) words) (front_fits value_of size capacity words fits) given.index given.owner far))

  -- a replace, run alone, does what a replace does to the contents
  pub replace_at : {number : ℕ} → number ≡ given.owner → number < empty → {c : Replace V} → c ≡ first_replace capacity given.index
      → {words : List ℕ} → Represents size capacity words
      → Runs (replace_want words_of size) (replace_after size) (λ c (room : Unit {0}) old. room) given
      (λ e room ws. Put words e ws) c tt words
  replace_at {number} same lives {c} at_first {words} fits =
      subst (λ c. Runs (replace_want words_of size) (replace_after size) (λ c (room : Unit {0}) old. room) given
      (λ e room ws. Put words e ws) c tt words) (sym at_first)
      (runs (suc few_steps) (Put words) (omega (arith, wide)) (walks words fits (omega arith)))
