-- What a sender's calls do to its set, and to the two queues.
use Rattle.std.specs.Prelude.{◌≡◌, ◌≤◌, ℕ, ◌+◌, Some, None, List, [], ◌∷◌, length, if◌then◌else◌}
use Rattle.std.specs.List.{filter, range_with_len}
use Rattle.steps.specs.declared.indices.enums.ReleaseState.TheVariants.{Unlocked}
use Rattle.model.specs.declared.event.Item.TheVariants.{Index}
use Rattle.model.specs.declared.turn.Kind.TheVariants as kinds
use Rattle.model.specs.Coding.{one_word}
use Rattle.history.specs.declared.view.View.{View}
use Rattle.history.specs.History.{Knows}
use Rattle.history.specs.Passes.{Goes}
use Rattle.lock_free_queues.specs.Queues.Contracts.{HasPopped, FoundNone}
use Rattle.lock_free_sets.specs.Unique.Contracts.{HasGiven}
use Rattle.lock_free_loans.specs.declared.spsc.loan.places.Place.{Place}
use Rattle.lock_free_loans.specs.Loan.Places.{is_sent, place_at}

-- `Does` held of each number of the list in turn, from one view to the next, and nothing else was done
abbrev pub InTurn : (ℕ → View ℕ → View ℕ → Type 0) → List ℕ → View ℕ → View ℕ → Type 0
InTurn Does [] old new = new ≡ old
InTurn Does (x ∷ xs) old new = (between : View ℕ) × Does x old between × InTurn Does xs between new

-- ---- the set

-- the index was given back in mode Default, which never locks the set
pub record HasFreed (index : ℕ) (old new : View ℕ) : Type 0 where
  pub given : HasGiven index Unlocked old new
  pub goes : Goes old new
  -- at most one operation was no step of a call
  pub aside : new.aside ≤ old.aside + 1

-- An index was freed, and what the pass knew then is a run. Of several indices that a pass frees in
-- turn this is a law (`frees_are_known`), since nobody else sees the pass between two of the frees.
pub record HasFreedInRun (capacity index : ℕ) (old new : View ℕ) : Type 0 where
  pub given : HasGiven index Unlocked old new
  pub goes : Goes old new
  -- at most one operation was no step of a call
  pub aside : new.aside ≤ old.aside + 1
  -- what the pass knew then is a run
  pub knows : Knows one_word kinds.Indices capacity new

-- the indices that are sent, in ascending order
abbrev pub all_sent : List Place → List ℕ
all_sent ps = filter (λ i. is_sent (place_at ps i)) (range_with_len 0 (length ps))

-- the list of the index that the value `y` names if that index is sent, else the empty list
abbrev pub sent_back : ℕ → List Place → List ℕ
sent_back y ps = if is_sent (place_at ps y) then y ∷ [] else []

-- ---- a queue

-- a pop took out this number
abbrev pub HasPoppedOne : ℕ → View ℕ → View ℕ → Type 0
HasPoppedOne number old new = HasPopped (Some (Index number)) old new

-- pops took these numbers out, one after another, and then a pop found that nothing waited
pub record HasEmptied (old new : View ℕ) : Type 0 where
  pub numbers : List ℕ
  pub last : View ℕ
  pub popped : InTurn HasPoppedOne numbers old last
  pub none : HasPopped None last new
  pub empty : FoundNone last new
  -- at most one operation of each pop was no step of a call
  pub aside : new.aside ≤ old.aside + (length numbers + 1)
