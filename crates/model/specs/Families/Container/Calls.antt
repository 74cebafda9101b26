-- The calls of the container: how each begins, and how one under way goes on.
use Rattle.std.specs.Prelude.{ℕ, ◌==◌, Bool, true, false, Option, Some, None, List, [], ◌∷◌, Ok, Err, nat_lt, if◌then◌else◌}
use Rattle.steps.specs.declared.ask.Want.{Want}
use Rattle.steps.specs.declared.ask.After.{After}
use Rattle.steps.specs.declared.ask.After.TheVariants.{GoOn, Done}
use Rattle.steps.specs.declared.container.look.Look as look_calls
use Rattle.steps.specs.declared.container.state.ContainerState.{ContainerState}
use Rattle.steps.specs.declared.indices.enums.ReleaseMode.{ReleaseMode}
use Rattle.steps.specs.Container.Add.{Added, first_add, add_want, add_after, add_goes_back}
use Rattle.steps.specs.Container.Find.{first_find, find_want, find_after, find_kept}
use Rattle.steps.specs.Container.Look as looks
use Rattle.steps.specs.Container.Recover.{first_recover, recover_want, recover_after, recover_kept, recover_goes_back}
use Rattle.steps.specs.Container.Remove.{Removed, first_remove, remove_want, remove_after, remove_goes_back}
use Rattle.steps.specs.Container.Replace.{Replaced, first_replace, replace_want, replace_after}
use Rattle.steps.specs.Container.State.{shown_number}
use Rattle.steps.specs.Indices.Robust.Looks.{first_borrowed, borrowed_want, borrowed_after, borrowed_goes_back, locked_after}
use Rattle.steps.specs.Queues.Ring.{load}
use Rattle.steps.specs.Routine.{went_on}
use Rattle.model.specs.declared.event.Answer.{Answer}
use Rattle.model.specs.declared.event.Answer.TheVariants as answers
use Rattle.model.specs.declared.families.Flight.{Flight}
use Rattle.model.specs.declared.families.Flight.TheVariants as flights
use Rattle.model.specs.declared.families.Registry.{Registry}
use Rattle.model.specs.declared.families.Registry.TheVariants as registries
use Rattle.model.specs.declared.families.container.ContainerStart.{ContainerStart}
use Rattle.model.specs.declared.families.container.ContainerStart.TheVariants as starts
use Rattle.model.specs.declared.families.container.calls.ContainerFlight.{ContainerFlight}
use Rattle.model.specs.declared.families.container.calls.ContainerFlight.TheVariants.{Add, Remove, Replace, Find, Recover, Look, Count, IsLocked}
use Rattle.model.specs.declared.families.container.calls.CountOf.{CountOf}
use Rattle.model.specs.declared.families.container.calls.CountOf.TheVariants as counts
use Rattle.model.specs.declared.families.container.calls.LookOf.{LookOf}
use Rattle.model.specs.declared.families.container.calls.LookOf.TheVariants as kinds
use Rattle.model.specs.declared.turn.Refusal.{Refusal}
use Rattle.model.specs.declared.turn.Refusal.TheVariants.{OwnerIsDead}
use Rattle.model.specs.Coding.{Coding}
use Rattle.model.specs.Families.Container.States.{state_of, set_state, settled}
use Rattle.model.specs.Families.Indices.Robust.Dead.{has_died}
use Rattle.model.specs.Families.Queues.Calls.{as_it_is, fresh_cell, kept_at}
use Rattle.model.specs.Step.{Going, as_call}

-- ---- the calls that begin

-- an index, or the capacity for any index past it
abbrev pub place_of : (capacity index : ℕ) → ℕ
place_of capacity index = if nat_lt index capacity then index else capacity

module _ {T : Type 0} where
  -- an add as it begins, to a container of this capacity
  abbrev pub add_of : ℕ → T → ℕ → ContainerFlight T
  add_of capacity value owner =
      Add
      (record {
        call = first_add capacity;
        given = record { value = value; owner = owner };
        room = tt;
      })

  -- a remove as it begins, in a container of this capacity
  abbrev pub remove_of : (capacity index owner : ℕ) → ReleaseMode → ContainerFlight T
  remove_of capacity index owner mode =
      Remove
      (record {
        call = first_remove capacity (place_of capacity index);
        given = record { index = place_of capacity index; owner = owner; mode = mode };
        room = tt;
      })

  -- a replace as it begins, in a container of this capacity
  abbrev pub replace_of : (capacity index : ℕ) → T → ℕ → ContainerFlight T
  replace_of capacity index value owner =
      Replace
      (record {
        call = first_replace capacity (place_of capacity index);
        given = record { index = place_of capacity index; owner = owner; value = value };
        room = tt;
      })

  -- a find of an owner's values as it begins
  abbrev pub find_of : (capacity owner : ℕ) → ContainerFlight T
  find_of capacity owner =
      Find (record { call = first_find capacity; given = owner; room = fresh_cell })

  -- a recovery of an owner as it begins, in a container of this capacity
  abbrev pub recover_of : (capacity owner : ℕ) → ReleaseMode → ContainerFlight T
  recover_of capacity owner mode =
      Recover
      (record {
        call = first_recover capacity;
        given = record { owner = owner; mode = mode };
        room = fresh_cell;
      })

  -- a look under way as a call of the model
  abbrev pub look_flight : LookOf → look_calls.Look T → ContainerFlight T
  look_flight which call = Look which call

  -- a look as it begins
  abbrev pub look_of : LookOf → ℕ → ContainerFlight T
  look_of which capacity = look_flight which (looks.first_look capacity)

  -- a call on the length as it begins
  abbrev pub count_of : CountOf → ℕ → ContainerFlight T
  count_of which capacity =
      Count which (record { call = first_borrowed capacity; given = tt; room = tt })

  -- a look at the lock as it begins
  abbrev pub locked_of : ContainerFlight T
  locked_of = IsLocked (record { call = record {}; given = tt; room = tt })

  -- a call of the container as it begins
  abbrev pub first : ℕ → ContainerStart T → ContainerFlight T
  first capacity (starts.Add value owner) = add_of capacity value owner
  first capacity (starts.Remove index owner mode) = remove_of capacity index owner mode
  first capacity (starts.Replace index value owner) =
      replace_of capacity index value owner
  first capacity (starts.Find owner) = find_of capacity owner
  first capacity (starts.Recover owner mode) = recover_of capacity owner mode
  first capacity starts.GetState = look_of kinds.GetState capacity
  first capacity starts.UpdateState = look_of kinds.UpdateState capacity
  first capacity starts.Len = count_of counts.Len capacity
  first capacity starts.IsEmpty = count_of counts.IsEmpty capacity
  first capacity starts.IsLocked = locked_of

  -- ---- the calls under way

  -- what a call under way wants next
  abbrev pub want : Coding T → ContainerFlight T → Want (Unit {0})
  want code (Add run) = add_want code.words_of code.size run.call run.given
  want code (Remove run) = remove_want run.call run.given
  want code (Replace run) = replace_want code.words_of code.size run.call run.given
  want code (Find run) = find_want code.size run.call
  want code (Recover run) = recover_want code.size run.call run.given
  want code (Look which call) = looks.look_want code.size call
  want code (Count which run) = borrowed_want run.call
  want code (IsLocked run) = load 0

  -- whether the call begins a turn of its loop again once it is handed this old value
  abbrev pub goes_back : ContainerFlight T → ℕ → Bool
  goes_back (Add run) old = add_goes_back run.call.stage old
  goes_back (Remove run) old = remove_goes_back run.call.stage old
  goes_back (Replace run) old = false
  goes_back (Find run) old = false
  goes_back (Recover run) old = recover_goes_back run.call.stage old
  goes_back (Look which call) old = looks.look_goes_back call.stage old
  goes_back (Count which run) old = borrowed_goes_back run.call old
  goes_back (IsLocked run) old = false

  -- ---- answers

  -- what an add answers
  abbrev pub added : Added → Answer T
  added (Ok index) = answers.Index index
  added (Err failure) = answers.NoPlace failure

  -- what a remove answers
  abbrev pub removed : Removed → Answer T
  removed (Ok state) = answers.State state
  removed (Err failure) = answers.NotRemoved failure

  -- what a replace answers
  abbrev pub replaced : Replaced → Answer T
  replaced (Ok nothing) = answers.Done
  replaced (Err failure) = answers.NotRemoved failure

  -- what a call on the length answers, by the number
  abbrev pub counted : CountOf → ℕ → Answer T
  counted counts.Len number = answers.Number number
  counted counts.IsEmpty number = answers.Truth (number == 0)

  -- the answer of a look that leaves this state: a new state's number of values, or whether an update has changed it
  abbrev pub looked : LookOf → ContainerState T → Bool → Answer T
  looked kinds.GetState state changed =
      answers.Number (shown_number state.shown.elements)
  looked kinds.UpdateState state changed = answers.Truth changed

  -- ---- how a call goes on from the old value of its word

  -- A look goes on from what its party's state has seen, and its answer is about the state that it leaves.

  -- the state of a look's party after a step that was handed this old value, before it is settled
  abbrev pub look_shows : Coding T → look_calls.Look T → ContainerState T → ℕ → ContainerState T
  look_shows code call state old =
      record state { shown = looks.look_kept code.value_of code.size call state.shown old }

  -- how a look of a party that has this state goes on: it ends with the answer that its call has of the state
  abbrev pub look_came : LookOf → ContainerState T → After (look_calls.Look T) Bool
      → After (ContainerFlight T) (Answer T)
  look_came which state (GoOn call) = GoOn (Look which call)
  look_came which state (Done changed) = Done (looked which state changed)

  -- how a look goes on from the old value of its word, where its party has this state
  abbrev pub look_after : Coding T → LookOf → look_calls.Look T → ContainerState T → ℕ
      → After (ContainerFlight T) (Answer T)
  look_after code which call state old =
      look_came which (look_shows code call state old)
      (looks.look_after code.size call state.seen old)

  -- how a look goes on; without a state it stays where it is
  abbrev pub look_goes : Coding T → LookOf → look_calls.Look T → Option (ContainerState T) → ℕ
      → After (ContainerFlight T) (Answer T)
  look_goes code which call None old = GoOn (Look which call)
  look_goes code which call (Some state) old = look_after code which call state old

  -- how a call goes on from the old value of its word, whose party has this state
  abbrev pub after : Coding T → Option (ContainerState T) → ContainerFlight T → ℕ
      → After (ContainerFlight T) (Answer T)
  after code state (Add run) old =
      as_call Add added
      (went_on as_it_is run.given run.room (add_after code.size run.call old))
  after code state (Remove run) old =
      as_call Remove removed
      (went_on as_it_is run.given run.room (remove_after run.call run.given old))
  after code state (Replace run) old =
      as_call Replace replaced
      (went_on as_it_is run.given run.room (replace_after code.size run.call run.given old))
  after code state (Find run) old =
      as_call Find answers.Number
      (went_on as_it_is run.given (find_kept kept_at run.call run.room old)
      (find_after code.size run.call run.given old))
  after code state (Recover run) old =
      as_call Recover answers.State
      (went_on as_it_is run.given (recover_kept kept_at run.call run.room old)
      (recover_after code.size run.call run.given old))
  after code state (Look which call) old = look_goes code which call state old
  after code state (Count which run) old =
      as_call (λ r. Count which r) (counted which)
      (went_on as_it_is run.given run.room (borrowed_after run.call old))
  after code state (IsLocked run) old =
      as_call IsLocked answers.Truth
      (went_on as_it_is run.given run.room (locked_after run.call old))

  -- ---- what a look leaves

  -- the state after a step of a look: one that ends with true has seen what it shows
  abbrev pub settled_if : After (look_calls.Look T) Bool → ContainerState T → ContainerState T
  settled_if (GoOn call) state = state
  settled_if (Done true) state = settled state
  settled_if (Done false) state = state

  -- the state of a look's party after a step that was handed this old value
  abbrev pub look_writes : Coding T → look_calls.Look T → ContainerState T → ℕ → ContainerState T
  look_writes code call state old =
      settled_if (looks.look_after code.size call state.seen old) (look_shows code call state old)

  -- the parties' states after a step of the party's look, which writes its own alone
  abbrev pub writes_state : Coding T → ℕ → look_calls.Look T → ℕ → Option (ContainerState T)
      → List (ℕ × ContainerState T) → List (ℕ × ContainerState T)
  writes_state code p call old None states = states
  writes_state code p call old (Some state) states =
      set_state p (look_writes code call state old) states

  -- the states once a party's call has gone on
  abbrev pub states_after : Coding T → ℕ → ContainerFlight T → ℕ → List (ℕ × ContainerState T)
      → List (ℕ × ContainerState T)
  states_after code p (Look which call) old states =
      writes_state code p call old (state_of p states) states
  states_after code p flight old states = states

  -- ---- refusals

  -- the call adds, removes or replaces for an owner who is dead
  abbrev pub acts_for_dead : List ℕ → ContainerFlight T → Bool
  acts_for_dead dead (Add run) = has_died run.given.owner dead
  acts_for_dead dead (Remove run) = has_died run.given.owner dead
  acts_for_dead dead (Replace run) = has_died run.given.owner dead
  acts_for_dead dead flight = false

  -- what is tested of a call that is to go on
  abbrev pub going_rows : List ℕ → ContainerFlight T → List (Bool × Refusal)
  going_rows dead flight = (acts_for_dead dead flight, OwnerIsDead) ∷ []

  -- what is tested before a call goes on, by who has died
  abbrev pub kept_going_rows : ContainerFlight T → Registry T → Option Bool → List (Bool × Refusal)
  kept_going_rows flight (registries.Container dead states) said = going_rows dead flight
  kept_going_rows flight kept said = []

  -- the family's call under way, as one of a machine: of a party that has no state
  abbrev pub going : Coding T → ContainerFlight T → Going (Flight T) T
  going code flight =
      record {
        want = want code flight;
        after = λ old.
            as_call flights.Container (λ answer. answer) (after code None flight old);
        rows = kept_going_rows flight;
        most = 2;
      }

  -- how a party's call goes on in a machine that keeps this: a look from what the party's state has seen
  abbrev pub goes : Coding T → ℕ → ContainerFlight T → ℕ → Registry T → After (Flight T) (Answer T)
  goes code p flight old (registries.Container dead states) =
      as_call flights.Container (λ answer. answer)
      (after code (state_of p states) flight old)
  goes code p flight old kept = (going code flight).after old
