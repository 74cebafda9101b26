-- Where an index is (its spot) after one more event.
use Rattle.laws_loan.proofs.Names.{◌≡◌, ◌≢◌, ℕ, ◌==◌, if◌then◌else◌, Bool, true, false, Some, None, List, [], ◌∷◌}
use Rattle.laws_loan.proofs.Names.{◌++◌, ap, ◌∙◌, eq-eqb, ne_eqb, fold-append, Event, Spot, Free, Passing}
use Rattle.laws_loan.proofs.Names.{With, Waiting, Returning, Move, move_of, moved, spot_after, spot_of}
use native.Mathlib.Omega.{arith}

-- ---- the two spots that are queues

-- whether a spot is that of an index that waits in the submission queue
abbrev pub is_waiting : Spot → Bool
is_waiting Waiting = true
is_waiting spot = false

-- whether a spot is that of an index that waits in the completion queue
abbrev pub is_returning : Spot → Bool
is_returning Returning = true
is_returning spot = false

-- a spot that the test takes for `Waiting` is it
pub waits_there : (spot : Spot) → is_waiting spot ≡ true → spot ≡ Waiting
waits_there = grind arith

-- a spot that the test takes for `Returning` is it
pub returns_there : (spot : Spot) → is_returning spot ≡ true → spot ≡ Returning
returns_there = grind arith

-- ---- which spots are in passing

-- an index is in passing in one party's call
pub passing_same : (p q : ℕ) → Passing p ≡ Passing q → p ≡ q
passing_same p q e = cc

-- a free index is not in passing
pub free_passes : (q : ℕ) → Free ≡ Passing q → ⊥
free_passes q e = absurd (cc)

-- an index with a party is not in passing
pub with_passes : (p q : ℕ) → With p ≡ Passing q → ⊥
with_passes p q e = absurd (cc)

-- an index that waits is not in passing
pub waiting_passes : (q : ℕ) → Waiting ≡ Passing q → ⊥
waiting_passes q e = absurd (cc)

-- an index on its way back is not in passing
pub returning_passes : (q : ℕ) → Returning ≡ Passing q → ⊥
returning_passes q e = absurd (cc)

-- where events move the index `index` alone, and it was not in passing in a call of `q`, an index in
-- passing in such a call still is
pub passing_on : {T : Type 0} (events es : List (Event T)) (index : ℕ)
    → ((i : ℕ) → index ≢ i → spot_of i (events ++ es) ≡ spot_of i events)
    → (spot : Spot) → spot_of index events ≡ spot → (q : ℕ) → (spot ≡ Passing q → ⊥)
    → (i : ℕ) → spot_of i events ≡ Passing q → spot_of i (events ++ es) ≡ Passing q
passing_on = grind arith

-- ---- one event

module _ {T : Type 0} (events : List (Event T)) (e : Event T) where
  -- the event moves the spot of an index as its move says
  spot_more : (i : ℕ) → spot_of i (events ++ e ∷ []) ≡ moved i (spot_of i events) (move_of e)
  spot_more i = fold-append (spot_after i) Free events (e ∷ [])

  -- an event that moves no index leaves each where it was
  pub spot_stays : (i : ℕ) → move_of e ≡ None → spot_of i (events ++ e ∷ []) ≡ spot_of i events
  spot_stays i none = spot_more i ∙ ap (moved i (spot_of i events)) none

  module _ (m : Move) (move_is : move_of e ≡ Some m) where
    -- the event moves its own index and leaves the others
    choice : (i : ℕ) → spot_of i (events ++ e ∷ []) ≡ (if m.index == i then m.to else spot_of i events)
    choice i = spot_more i ∙ ap (moved i (spot_of i events)) move_is

    -- an event that moves an index leaves each other index where it was
    pub spot_other : (i : ℕ) → m.index ≢ i → spot_of i (events ++ e ∷ []) ≡ spot_of i events
    spot_other i ne = choice i ∙ ap (λ b. if b then m.to else spot_of i events) (ne_eqb m.index i ne)

    -- the index that the event moves is then where the event says
    pub spot_moved : spot_of m.index (events ++ e ∷ []) ≡ m.to
    spot_moved = grind (arith, choice, eq-eqb)
