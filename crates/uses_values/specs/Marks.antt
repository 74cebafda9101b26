-- The mark of a number, and the block of 64 KiB that the sender makes of it.
use Rattle.std.specs.Prelude.{◌≡◌, ℕ, ◌+◌, ◌*◌, List, replicate}

-- the mark of a number
abbrev pub mark : ℕ → ℕ
mark n = 3 * n + 1

-- the words are 64 KiB of the number's mark
unfoldable pub IsBlockOf : ℕ → List ℕ → Type 0
IsBlockOf number words = words ≡ replicate 8192 (mark number)
