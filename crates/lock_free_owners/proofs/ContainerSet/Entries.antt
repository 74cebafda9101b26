-- The entries of a state, one index after another.
use Rattle.std.proofs.Common.{◌≡◌, ℕ, zero, suc, ◌+◌, ◌<◌, ◌≤◌, List, [], ◌∷◌, length, take, drop, refl, ap, sym, ◌∙◌, arith, add-one}
use Rattle.std.specs.Prelude.{Option, Some, None, slice_get}
use Rattle.steps.specs.Container.State.{value_if, value_shown, shown_at, shown_first, shown_from}
use Rattle.steps.specs.declared.container.state.ContainerState.{ContainerState}
use Rattle.steps.specs.declared.container.state.Element.{Element}
use Rattle.lock_free_owners.specs.Container.Entries.{elements_of, entries_from, entries_of}

module _ {T : Type 0} where
  -- what an index shows comes first, if it shows something
  steps_on : (at i : ℕ) (es : List (Element T))
      → shown_from at (drop i es) ≡ shown_first (value_if (slice_get es i)) at (shown_from (at + 1) (drop (suc i) es))
  steps_on at zero [] = refl
  steps_on at (suc i) [] = refl
  steps_on at zero (e ∷ es) = refl
  steps_on at (suc i) (e ∷ es) = steps_on at i es

  -- an item among the first n of a list is that item of the list
  get_of_take : (n i : ℕ) (es : List (Element T)) → i < n → slice_get (take n es) i ≡ slice_get es i
  get_of_take zero i es below = absurd (omega arith)
  get_of_take (suc n) i [] below = refl
  get_of_take (suc n) zero (e ∷ es) below = refl
  get_of_take (suc n) (suc i) (e ∷ es) below = get_of_take n i es (omega arith)

  -- Below the capacity, the entries from an index on are the element there, if it shows a value, before
  -- the entries from the next index on.
  entries_step : (state : ContainerState T) (index : ℕ) → index < state.capacity
      → entries_from state index
      ≡ shown_first (shown_at state.shown.elements index) index (entries_from state (index + 1))
  entries_step state index below =
      steps_on index index (elements_of state)
      ∙ ap (λ e. shown_first (value_if e) index (shown_from (index + 1) (drop (suc index) (elements_of state))))
      (get_of_take state.capacity index state.shown.elements below)
      ∙ ap (λ n. shown_first (shown_at state.shown.elements index) index (shown_from (index + 1) (drop n (elements_of state))))
      (sym (add-one index))

  -- an index that shows a value, and one that shows none
  pub entries_give : (state : ContainerState T) (index : ℕ) (value : T) → index < state.capacity
      → shown_at state.shown.elements index ≡ Some value
      → entries_from state index ≡ (index, value) ∷ entries_from state (index + 1)
  entries_give state index value below shown =
      entries_step state index below ∙ ap (λ s. shown_first s index (entries_from state (index + 1))) shown

  -- at an index that shows nothing, the entries from this index on are those from the next one on
  pub entries_pass : (state : ContainerState T) (index : ℕ) → index < state.capacity
      → shown_at state.shown.elements index ≡ None
      → entries_from state index ≡ entries_from state (index + 1)
  entries_pass state index below none =
      entries_step state index below ∙ ap (λ s. shown_first s index (entries_from state (index + 1))) none

  -- there are no more than indices
  first_fits : (s : Option T) (index : ℕ) (rest : List (ℕ × T)) → length (shown_first s index rest) ≤ suc (length rest)
  first_fits None index rest = omega arith
  first_fits (Some value) index rest = omega arith

  -- the first n elements show at most n values
  few : (at n : ℕ) (es : List (Element T)) → length (shown_from at (take n es)) ≤ n
  few at zero es = omega arith
  few at (suc n) [] = omega arith
  few at (suc n) (e ∷ es) =
      let more = first_fits (value_shown e) at (shown_from (at + 1) (take n es)) in
      let rest = few (at + 1) n es in
      omega arith

  -- A state has at most as many entries as its capacity.
  pub entries_few : (state : ContainerState T) → length (entries_of state) ≤ state.capacity
  entries_few state = few 0 state.capacity state.shown.elements
