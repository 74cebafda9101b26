-- What every turn leaves of the elements: to any party (`Passes`), and to a party that may write at an index
-- (`LeavesParty`). What calls know at their stages is kept by these two.
use Rattle.laws_container.proofs.Names.{◌≡◌, ◌⊎◌, ℕ, ◌%◌, ◌<◌, ◌≤◌, Bool, true, false, Option, Some, is_some, List}
use Rattle.laws_container.proofs.Names.{Event, Flight, ContainerFlight, Party, AddStage, RemoveStage, ReplaceStage}
use Rattle.laws_container.proofs.Names.{Coding, WasAlone, contents_of, announced_of, filled_of, party_of, doing_of}
use Rattle.laws_container.proofs.Names.{flight_of, is_gone}
use Rattle.model.specs.declared.families.Flight.TheVariants as flights
use Rattle.model.specs.declared.families.container.calls.ContainerFlight.TheVariants as calls
use Rattle.steps.specs.declared.container.add.AddStage.TheVariants as adds
use Rattle.steps.specs.declared.container.remove.RemoveStage.TheVariants as removes
use Rattle.steps.specs.declared.container.replace.ReplaceStage.TheVariants as replaces
use Rattle.laws_container.proofs.Core.{change_at, count_at, datum_at}
use Rattle.laws_container.proofs.Left.{left_of}
use Rattle.laws_container.proofs.WellFormed.{IsWellFormedSoFar}
use Rattle.laws_container.proofs.Terms.{Terms, Keeps}
use Rattle.laws_container.proofs.Writers.{IsWriter}

-- ---- a call that has changed an element does not end before it has raised the number of changes

abbrev pub add_owes : AddStage → Bool
add_owes (adds.Acquires stage) = false
add_owes stage = true

abbrev pub remove_owes : RemoveStage → Bool
remove_owes (removes.Hides count state) = true
remove_owes (removes.AddsChange state) = true
remove_owes stage = false

abbrev pub replace_owes : ReplaceStage → Bool
replace_owes replaces.Refuses = false
replace_owes replaces.LoadsCell = false
replace_owes stage = true

module _ {T : Type 0} where
  -- whether a call owes the changes a raise: it does from the stage on at which it may
  -- have changed an element
  abbrev pub flight_owes : ContainerFlight T → Bool
  flight_owes (calls.Add run) = add_owes run.call.stage
  flight_owes (calls.Remove run) = remove_owes run.call.stage
  flight_owes (calls.Replace run) = replace_owes run.call.stage
  flight_owes (calls.Recover run) = true
  flight_owes flight = false

  -- the call of a party, if one is under way, owes the changes a raise
  abbrev pub owes : Option (Flight T) → Bool
  owes (Some (flights.Container flight)) = flight_owes flight
  owes flight = false

  -- some party's call under way owes the changes a raise
  pub record Owing (latest : List (ℕ × Party T)) : Type 0 where
    pub party : ℕ
    pub is : owes (flight_of (doing_of (party_of party latest))) ≡ true

-- ---- the machine between two turns

-- the machine between two turns, as the elements depend on it: the terms, the words, the
-- latest calls and the events
pub record Now (T : Type 0) : Type 0 where
  pub terms : Terms
  pub words : List ℕ
  pub latest : List (ℕ × Party T)
  pub events : List (Event T)

module _ {T : Type 0} where
  -- the run up to now is well-formed
  abbrev pub WellFormed : Now T → Type 0
  WellFormed m = IsWellFormedSoFar m.terms m.latest m.events

module _ {T : Type 0} (code : Coding T) (c : ℕ) where
  -- the number of the element at an index
  abbrev pub count_in : Now T → ℕ → ℕ
  count_in m i = count_at c m.words i

  -- a data word of the element at an index
  abbrev pub datum_in : Now T → ℕ → ℕ → ℕ
  datum_in m i j = datum_at c code.size m.words i j

  -- the number of changes
  abbrev pub change_in : Now T → ℕ
  change_in m = change_at c m.words

  -- what a turn from the machine `m` to `m'` leaves to any party
  pub record Passes (m m' : Now T) : Type 0 where
    -- a run that is well-formed and keeps to its terms after the turn was so before it
    pub well_formed : WellFormed m' → WellFormed m
    pub kept : Keeps m'.terms → Keeps m.terms
    -- where few turns are taken no number goes down
    pub counts : Keeps m'.terms → (i : ℕ) → i < c → count_in m i ≤ count_in m' i
    pub change : Keeps m'.terms → change_in m ≤ change_in m'
    -- where the number of an element stays, the same value stands there, and under an odd
    -- number the same words
    pub stands : WellFormed m' → (i : ℕ) → i < c → count_in m' i ≡ count_in m i → contents_of i m'.events ≡ contents_of i m.events
    pub words : WellFormed m' → (i : ℕ) → i < c → count_in m' i ≡ count_in m i → count_in m i % 2 ≡ 1 → (j : ℕ)
        → j < code.size → datum_in m' i j ≡ datum_in m i j
    -- where a value stands both before and after, the number has stayed
    pub stood : WellFormed m' → (i : ℕ) → i < c → is_some (contents_of i m.events) ≡ true
        → is_some (contents_of i m'.events) ≡ true → count_in m' i ≡ count_in m i
    -- where the number stays nothing was placed, so what was left at the index is left still
    pub left : WellFormed m' → (i : ℕ) → i < c → count_in m' i ≡ count_in m i → left_of i m.events ≡ true → left_of i m'.events ≡ true
    -- what is announced only now has raised the number of changes
    pub announces : WellFormed m' → change_in m' ≡ change_in m → (i : ℕ) → i < c → announced_of i m'.events ≡ true
        → (announced_of i m.events ≡ true) × (count_in m' i ≡ count_in m i)
    -- a party that changes an element owes the changes a raise until it has made it
    pub owing : change_in m' ≡ change_in m → Owing m.latest → Owing m'.latest
    pub owed : change_in m' ≡ change_in m → (i : ℕ) → i < c → (count_in m' i ≡ count_in m i) ⊎ Owing m'.latest
    -- where an index is filled for an owner who is gone nothing is placed, but what stands may be hidden
    pub lost : WellFormed m' → (i o : ℕ) → i < c → is_gone m.terms.by o m.events ≡ true → filled_of i m.events ≡ Some o
        → (count_in m' i ≡ count_in m i) ⊎ ((count_in m i % 2 ≡ 1) × (count_in m' i % 2 ≡ 0))

  -- what a turn leaves to party `q` that did not take it
  pub record LeavesParty (q : ℕ) (m m' : Now T) : Type 0 where
    -- under an even number, where `q` writes, the number and the words stay
    pub under : WellFormed m' → (i o : ℕ) → i < c → is_gone m.terms.by o m.events ≡ false → IsWriter q i o m.events → count_in m i % 2 ≡ 0
        → (count_in m' i ≡ count_in m i) × ((j : ℕ) → j < code.size → datum_in m' i j ≡ datum_in m i j)
    -- where `q` may write, the number stays or is made even
    pub over : WellFormed m' → (i o : ℕ) → i < c → is_gone m.terms.by o m.events ≡ false → IsWriter q i o m.events
        → (count_in m' i ≡ count_in m i) ⊎ (count_in m' i % 2 ≡ 0)
    -- a value that `q` has placed still stands
    pub placed : WellFormed m' → (i o : ℕ) → i < c → is_gone m.terms.by o m.events ≡ false → IsWriter q i o m.events
        → left_of i m.events ≡ false → is_some (contents_of i m.events) ≡ true
        → (left_of i m'.events ≡ false) × (is_some (contents_of i m'.events) ≡ true)
    -- where no other call is under way during that of `q`, no number changes
    pub alone : WasAlone q m'.events → (i : ℕ) → i < c → count_in m' i ≡ count_in m i
