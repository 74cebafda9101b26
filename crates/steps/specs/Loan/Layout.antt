-- Where the parts of a loan channel begin in its words: the indices, the submission queue and the completion queue.
use Rattle.std.specs.Prelude.{ℕ, ◌+◌, ◌/◌}

-- behind the head, a next index for each slot, and the claim flags, 64 to a word
abbrev pub submission_word : ℕ → ℕ
submission_word slots = 1 + slots + (slots + 63) / 64

-- behind two positions, two roles and a cell more than the queue's capacity
abbrev pub completion_word : (slots queue : ℕ) → ℕ
completion_word slots queue = submission_word slots + (5 + queue)

-- two positions, two roles and a cell for each slot
abbrev pub total_words : (slots queue : ℕ) → ℕ
total_words slots queue = completion_word slots queue + (4 + slots)
