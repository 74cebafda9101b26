-- How often a bell stands in a list of bells, and which bits of their bit set threads have set and cleared. A
-- bell is a place of the bit set; it rings while its flag stands.
use Rattle.std.specs.Prelude.{◌≡◌, ℕ, ◌+◌, ◌≤◌, ◌==◌, List, All}
use Rattle.std.specs.List.{count_by}
use Rattle.lock_free.specs.Sums.{sets, clears}
use Rattle.lock_free.specs.Event.{Event}

-- how often the bell stands in the list
abbrev pub times : ℕ → List ℕ → ℕ
times bell bells = count_by (λ b. b == bell) bells

-- each of these bells' flags was set by an event of the list
abbrev pub WereSet : List ℕ → List (Event ℕ) → Type 0
WereSet bells events = All (λ bell. 1 ≤ sets bell events) bells

-- each of these bells was heard, or was still ringing at the end
abbrev pub CameOut : List ℕ → List ℕ → List ℕ → Type 0
CameOut heard left bells = All (λ bell. 1 ≤ times bell heard + times bell left) bells

-- These events set exactly the flags of `bells`, each as often as it stands in the list, and clear none.
pub record HasRung (bells : List ℕ) (events : List (Event ℕ)) : Type 0 where
  pub set : (bell : ℕ) → sets bell events ≡ times bell bells
  pub cleared : (bell : ℕ) → clears bell events ≡ 0

-- These events set the flags of both lists, each as often as it stands in the two, and clear none.
pub record BothRung (one two : List ℕ) (events : List (Event ℕ)) : Type 0 where
  pub set : (bell : ℕ) → sets bell events ≡ times bell one + times bell two
  pub cleared : (bell : ℕ) → clears bell events ≡ 0

-- From `old` to `new` the events set no flag, and clear exactly the flags by which `more` has
-- more bells than `bells`.
pub record HearsMore (bells more : List ℕ) (old new : List (Event ℕ)) : Type 0 where
  pub set : (bell : ℕ) → sets bell new ≡ sets bell old
  pub cleared : (bell : ℕ)
      → clears bell new + times bell bells ≡ clears bell old + times bell more
