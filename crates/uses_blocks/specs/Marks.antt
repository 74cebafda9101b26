-- The mark of a number, and the block of 64 KiB that the sender makes of it.
use Rattle.std.specs.Prelude.{◌≡◌, ℕ, ◌+◌, ◌*◌, List, map, replicate}
use Rattle.std.specs.List.{range_with_len}

-- the mark of a number
abbrev pub mark : ℕ → ℕ
mark n = 3 * n + 1

-- the words are 64 KiB of the number's mark
unfoldable pub IsBlockOf : ℕ → List ℕ → Type 0
IsBlockOf number words = words ≡ replicate 8192 (mark number)

-- the marks of the numbers 0 up to below `count`
abbrev pub first_marks : ℕ → List ℕ
first_marks count = map mark (range_with_len 0 count)
