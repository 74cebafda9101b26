-- The words of a container, and what several of its calls ask of them.
use Rattle.std.specs.Prelude.{ℕ, ◌+◌, ◌*◌, ◌%◌, ◌==◌, Bool}
use Rattle.steps.specs.Indices.Robust.Parts.{exchange, one_more}
use Rattle.steps.specs.declared.ask.Op.TheVariants.{Add}
use Rattle.steps.specs.declared.ask.Want.{Want}
use Rattle.steps.specs.declared.ask.Want.TheVariants as wants

-- the word that counts the changes of elements, which comes behind the words of the set
abbrev pub change_word : ℕ → ℕ
change_word capacity = 1 + capacity

-- the word of the number of the element at an index
abbrev pub count_word : (capacity index : ℕ) → ℕ
count_word capacity index = 2 + capacity + index

-- where word `at` of the element at an index lies; each element has `size` words
abbrev pub element_word : (capacity size index at : ℕ) → ℕ
element_word capacity size index at = 2 + (capacity + capacity) + (size * index + at)

-- how many words a container has
abbrev pub total_words : (capacity size : ℕ) → ℕ
total_words capacity size = 2 + (capacity + capacity) + size * capacity

-- whether the number says that nothing stands at the index
abbrev pub is_even : ℕ → Bool
is_even count = count % 2 == 0

-- an addition of 1 to a word
abbrev pub add_one : ℕ → Want (Unit {0})
add_one word = wants.Ask (record { word = word; op = Add 1 })

-- an exchange that hides the element: its odd number becomes the next, which is even
abbrev pub hide : (capacity index count : ℕ) → Want (Unit {0})
hide capacity index count = exchange (count_word capacity index) count (one_more count)

-- an exchange of the element's number for itself, which succeeds where the number stands still
abbrev pub check : (capacity index count : ℕ) → Want (Unit {0})
check capacity index count = exchange (count_word capacity index) count count
