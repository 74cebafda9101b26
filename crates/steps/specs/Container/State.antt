-- What a state of a container holds: for each index a number, and a value where that is odd. T is the type of the
-- values, size the number of their words.
use Rattle.std.specs.Prelude.{◌≡◌, ℕ, ◌+◌, ◌⊎◌, List, [], ◌∷◌, ◌++◌, Option, Some, None, if◌then◌else◌, replicate, not, slice_get, slice_set}
use Rattle.std.specs.List.{FoldsTo, count_by}
use denote.Ref.{Bor}
use Rattle.steps.specs.Container.Layout.{is_even}
use Rattle.steps.specs.Copied.{value_in}
use Rattle.steps.specs.declared.enums.CallbackProgression.{CallbackProgression}
use Rattle.steps.specs.declared.enums.CallbackProgression.TheVariants.{Continue, Stop}
use Rattle.steps.specs.declared.container.state.Element.{Element}

-- the number of changes, and that of each element, as a look of the state has found them
pub record Numbers : Type 0 where
  pub change : ℕ
  pub counts : List ℕ

-- what a state shows, and the words that a look has read
pub record Showing (T : Type 0) : Type 0 where
  pub change : ℕ
  pub elements : List (Element T)
  pub copy : List ℕ

-- the numbers of a state that has seen nothing
abbrev pub no_numbers : ℕ → Numbers
no_numbers capacity = record { change = 0; counts = replicate capacity 0 }

module _ {T : Type 0} where
  -- an element that shows nothing
  abbrev pub no_element : (List ℕ → T) → ℕ → Element T
  no_element value_of size =
      record { count = 0; value = value_in value_of size (replicate 128 0) }

  -- what a state shows that has seen nothing yet: no element at any index
  abbrev pub shows_nothing : (List ℕ → T) → (size capacity : ℕ) → Showing T
  shows_nothing value_of size capacity =
      record {
        change = 0;
        elements = replicate capacity (no_element value_of size);
        copy = replicate 128 0;
      }

  -- the value that an element shows, which it does under an odd number
  abbrev pub value_shown : Element T → Option T
  value_shown e = if is_even e.count then None else Some e.value

  -- the value that an element shows, if there is one
  abbrev pub value_if : Option (Element T) → Option T
  value_if None = None
  value_if (Some e) = value_shown e

  -- the value that is shown at the index
  abbrev pub shown_at : List (Element T) → ℕ → Option T
  shown_at elements index = value_if (slice_get elements index)

  -- how many values are shown
  abbrev pub shown_number : List (Element T) → ℕ
  shown_number elements = count_by (λ e. not (is_even e.count)) elements

  -- ---- what a look writes

  -- what is shown, with this number of changes
  abbrev pub with_change : Showing T → ℕ → Showing T
  with_change s change = record s { change = change }

  -- the elements once the one at the index has this number
  abbrev pub counted : Option (Element T) → List (Element T) → (index count : ℕ) → List (Element T)
  counted None elements index count = elements
  counted (Some e) elements index count =
      slice_set elements index (record { count = count; value = e.value })

  -- what is shown with another number at the index, and the value that stands there
  abbrev pub with_count : Showing T → (index count : ℕ) → Showing T
  with_count s index count =
      record s { elements = counted (slice_get s.elements index) s.elements index count }

  -- what is shown, with this word put to its place in the copy
  abbrev pub with_word : Showing T → (at word : ℕ) → Showing T
  with_word s at word = record s { copy = slice_set s.copy at word }

  -- what is shown with this number at the index, and the value whose words were read
  abbrev pub with_value : (List ℕ → T) → ℕ → Showing T → (index count : ℕ) → Showing T
  with_value value_of size s index count =
      record s {
        elements = slice_set s.elements index
            (record { count = count; value = value_in value_of size s.copy });
      }

  -- ---- what is shown, with its indices

  -- the values that are shown, with this one before them if there is one
  abbrev pub shown_first : Option T → ℕ → List (ℕ × T) → List (ℕ × T)
  shown_first None index rest = rest
  shown_first (Some value) index rest = (index, value) ∷ rest

  -- the values that are shown, with their indices, from this index on
  abbrev pub shown_from : ℕ → List (Element T) → List (ℕ × T)
  shown_from index [] = []
  shown_from index (e ∷ es) = shown_first (value_shown e) index (shown_from (index + 1) es)

  -- the closure was called with these pairs, one after another, up to one on which it said Stop
  pub record HasShown {F : Type 0} (step : F → ℕ × T → CallbackProgression → F → Type 0)
      (pairs : List (ℕ × T)) (f : F) : Type 0 where
    -- the pairs on which it said Continue
    pub before : List (ℕ × T)
    pub now : F
    pub calls : FoldsTo (λ p x q. step p x Continue q) f before now
    -- these were all, or it was called once more and said Stop
    pub ended : (before ≡ pairs)
        ⊎ ((x : ℕ × T) × (rest : List (ℕ × T)) × (last : F) × (pairs ≡ before ++ x ∷ rest)
        × step now x Stop last)

module _ {T : Type 0} where
  -- the closure was called with the index and a reference to the value
  abbrev pub at_value : {F : Type 0} → (F → ℕ → Bor T → CallbackProgression → F → Type 0) → F
      → ℕ × T → CallbackProgression → F → Type 0
  at_value step p x said q = (r : Bor T) × step p x.0 r said q × (r.now ≡ x.1)

  -- the numbers that the state had seen, each replaced by that of the element at its place, if there is one
  abbrev pub numbers_over : List ℕ → List (Element T) → List ℕ
  numbers_over counts [] = counts
  numbers_over [] (e ∷ elements) = []
  numbers_over (n ∷ counts) (e ∷ elements) = e.count ∷ numbers_over counts elements

  -- the numbers that the state has seen once it has seen what it shows
  abbrev pub seen_of : Numbers → Showing T → Numbers
  seen_of seen shown =
      record { change = shown.change; counts = numbers_over seen.counts shown.elements }
