-- What clauses see of the numbers of records: that they rise strictly, that none is left out, and which of
-- the numbers that came were delivered.
use Rattle.std.specs.Prelude.{◌≡◌, ◌⊎◌, ℕ, ◌+◌, ◌<◌, ◌≤◌, List, [], ◌∷◌}
use Rattle.zero_copy_bus.specs.declared.numbers.Sequence.{Sequence}

-- the least number that the reader accepts next
abbrev pub expected : Sequence → ℕ
expected s = s.next

-- the numbers rise strictly, the first is at least `from`, and `next` is one more than the last (`from`, if
-- there is none)
abbrev pub Rises : ℕ → List ℕ → ℕ → Type 0
Rises from [] next = next ≡ from
Rises from (n ∷ ns) next = (from ≤ n) × Rises (n + 1) ns next

-- the numbers are exactly `from`, `from + 1` and so on, up to `to - 1`
abbrev pub AreAll : (from to : ℕ) → List ℕ → Type 0
AreAll from to [] = to ≡ from
AreAll from to (n ∷ ns) = (n ≡ from) × AreAll (n + 1) to ns

-- Of the numbers that came, `ds` were delivered: a number below the one expected then is dropped, any other
-- is delivered, and the number after it is expected next.
abbrev pub Delivers : ℕ → List ℕ → List ℕ → ℕ → Type 0
Delivers from [] ds next = (ds ≡ []) × (next ≡ from)
Delivers from (n ∷ ns) ds next =
    ((n < from) × Delivers from ns ds next)
    ⊎ ((from ≤ n) × (rest : List ℕ) × (ds ≡ n ∷ rest) × Delivers (n + 1) ns rest next)
