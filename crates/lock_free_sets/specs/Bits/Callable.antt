-- What the closure of `reset_all` of a bit set is called with: places that ascend below the capacity,
-- each at most once.
use Rattle.std.specs.Prelude.{ℕ, filter}
use Rattle.std.specs.List.{FoldsTo, range_with_len}
use Rattle.steps.specs.Bits.Words.{has_flag}
pub use Rattle.threaded.specs.Callable.{Ascends, TakesPlaces}

-- Called with each of the `n` places from `first` on whose flag is set in the word `found`, ascending,
-- the closure v became p.
abbrev pub Visited : {F : Type 0} → (F → ℕ → F → Type 0) → ℕ → ℕ → F → ℕ → F → Type 0
Visited R found first v n p =
    FoldsTo R v (filter (λ place. has_flag found place) (range_with_len first n)) p
