-- Worked runs of the unique index set's page, and histories that its theorem refuses.
use Rattle.std.proofs.Common.{◌≡◌, ◌<◌, List, None, Some, [], ◌∷◌, ◌++◌, ℕ, arith, fold, refl, true, true≢false, false}
use Rattle.pages.specs.Machine.{Begin, Event, Next, Invoked, Responded, Turn, opening, turned}
use Rattle.pages.specs.UniqueIndexSet.{Acquire, Acquired, Answer, Call, Each, HoldsAlone, IsLocked, OutOfIndices, Release, Released}
use Rattle.pages.specs.UniqueIndexSet.{ReleasesOwn, holder, unique_index_set}

abbrev history : List (Turn Call) → List (Event Call Answer)
history turns = (fold (turned (unique_index_set 2)) (opening (unique_index_set 2)) turns).history

abbrev acquiring : ℕ → List (Turn Call)
acquiring p = Begin p Acquire ∷ Next p ∷ Next p ∷ Next p ∷ Next p ∷ []

-- two get two indices, a third none
abbrev all_out : List (Turn Call)
all_out = acquiring 0 ++ acquiring 1 ++ Begin 2 Acquire ∷ Next 2 ∷ []

no_third : history all_out
    ≡ Invoked 0 Acquire ∷ Responded 0 (Acquired 0) ∷ Invoked 1 Acquire ∷ Responded 1 (Acquired 1)
    ∷ Invoked 2 Acquire ∷ Responded 2 OutOfIndices ∷ []
no_third = refl

-- the last index is given back, and the set is locked
abbrev locking : List (Turn Call)
locking = acquiring 0 ++ Begin 0 (Release 0 true) ∷ Next 0 ∷ Next 0 ∷ Next 0 ∷ Next 0 ∷ Begin 1 Acquire ∷ Next 1 ∷ []

none_once_locked : history locking
    ≡ Invoked 0 Acquire ∷ Responded 0 (Acquired 0) ∷ Invoked 0 (Release 0 true) ∷ Responded 0 (Released true)
    ∷ Invoked 1 Acquire ∷ Responded 1 IsLocked ∷ []
none_once_locked = refl

-- a release and an acquire cross: the index is free as soon as its flag is cleared, and who exchanges second subtracts
abbrev crossing : List (Turn Call)
crossing =
    acquiring 0 ++ Begin 0 (Release 0 false) ∷ Next 0 ∷ Next 0 ∷ Next 0
    ∷ Begin 1 Acquire ∷ Next 1 ∷ Next 1 ∷ Next 1 ∷ Next 0 ∷ Next 0 ∷ Next 1 ∷ []

crosses : history crossing
    ≡ Invoked 0 Acquire ∷ Responded 0 (Acquired 0) ∷ Invoked 0 (Release 0 false) ∷ Invoked 1 Acquire
    ∷ Responded 0 (Released false) ∷ Responded 1 (Acquired 1) ∷ []
crosses = refl

held_by_one : holder 1 (history crossing) ≡ Some 1
held_by_one = refl

-- ---- what the theorem refuses

some_is_none : (n : ℕ) → Some n ≡ None → ⊥
some_is_none n e = absurd (cc)

one_is_other : (m n : ℕ) → m < n → Some m ≡ Some n → ⊥
one_is_other m n lt e = let same : m ≡ n = cc in omega arith

-- a second holder
twice : Each (HoldsAlone 2) (Responded 0 (Acquired 0) ∷ Responded 1 (Acquired 0) ∷ []) → ⊥
twice each = some_is_none 0 (each (Responded 0 (Acquired 0) ∷ []) [] (Responded 1 (Acquired 0)) refl).1

-- an index once the set is locked
late : Each (HoldsAlone 2) (Responded 0 (Released true) ∷ Responded 1 (Acquired 0) ∷ []) → ⊥
late each = true≢false (each (Responded 0 (Released true) ∷ []) [] (Responded 1 (Acquired 0)) refl).2

-- a lock while an index has a holder
early : Each (HoldsAlone 2) (Responded 0 (Acquired 0) ∷ Responded 1 (Released true) ∷ []) → ⊥
early each = some_is_none 0 (each (Responded 0 (Acquired 0) ∷ []) [] (Responded 1 (Released true)) refl 0)

-- who gives back what another one holds breaks the rule
not_own : Each ReleasesOwn (Responded 0 (Acquired 0) ∷ Invoked 1 (Release 0 false) ∷ []) → ⊥
not_own each = one_is_other 0 1 (omega arith) (each (Responded 0 (Acquired 0) ∷ []) [] (Invoked 1 (Release 0 false)) refl)
