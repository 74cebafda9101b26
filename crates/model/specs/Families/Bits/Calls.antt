-- The calls of the bit sets: which a kind has, and how one under way goes on.
use Rattle.std.specs.Prelude.{ℕ, Bool, false, Option, Some, None, []}
use Rattle.steps.specs.declared.ask.Want.{Want}
use Rattle.steps.specs.declared.ask.After.{After}
use Rattle.steps.specs.declared.bits.counting_bit_set.Set as counting
use Rattle.steps.specs.declared.bits.looks.IsSet.{IsSet as LooksSet}
use Rattle.steps.specs.declared.bits.looks.Count.{Count as LooksCount}
use Rattle.steps.specs.Bits.BitSet.{first_set, set_want, set_after, set_turns_back, first_reset, reset_want, reset_after, reset_turns_back}
use Rattle.steps.specs.Bits.Counts as counts
use Rattle.steps.specs.Bits.Looks.{is_set_want, is_set_after, count_want, count_after}
use Rattle.steps.specs.Bits.ResetAll.{all_bits, all_counts, reset_all_want, reset_all_after, reset_all_kept}
use Rattle.steps.specs.Routine.{went_on}
use Rattle.model.specs.declared.event.Answer.{Answer}
use Rattle.model.specs.declared.event.Answer.TheVariants as answers
use Rattle.model.specs.declared.families.Flight.{Flight}
use Rattle.model.specs.declared.families.Flight.TheVariants as flights
use Rattle.model.specs.declared.families.bits.BitsStart.{BitsStart}
use Rattle.model.specs.declared.families.bits.BitsStart.TheVariants as starts
use Rattle.model.specs.declared.families.bits.calls.BitsFlight.{BitsFlight}
use Rattle.model.specs.declared.families.bits.calls.BitsFlight.TheVariants.{Set, ResetNext, ResetAll, Count, TakeAll, IsSet, CountOf}
use Rattle.model.specs.declared.turn.Kind.{Kind}
use Rattle.model.specs.declared.turn.Kind.TheVariants.{Bits, Counts}
use Rattle.model.specs.Families.Queues.Calls.{as_it_is, fresh}
use Rattle.model.specs.Step.{Going, as_call}

-- ---- the calls that begin

-- a count as it begins
abbrev pub add_one : counting.Set
add_one = record {}

-- a look at a place as it begins
abbrev pub look_set : LooksSet
look_set = record {}

-- a look at a count as it begins
abbrev pub look_count : LooksCount
look_count = record {}

-- the call that begins, or None where the kind has no such call
abbrev pub first : Kind → ℕ → BitsStart → Option BitsFlight
first Bits capacity (starts.Set bit) =
    Some (Set (record { call = first_set; given = bit; room = tt }))
first Bits capacity starts.ResetNext =
    Some (ResetNext (record { call = first_reset capacity; given = tt; room = tt }))
first Bits capacity starts.ResetAll =
    Some (ResetAll (record { call = all_bits capacity; given = tt; room = fresh }))
first Bits capacity (starts.IsSet bit) =
    Some (IsSet (record { call = look_set; given = bit; room = tt }))
first Counts capacity (starts.Set place) =
    Some (Count (record { call = add_one; given = place; room = tt }))
first Counts capacity starts.ResetAll =
    Some (TakeAll (record { call = all_counts capacity; given = tt; room = fresh }))
first Counts capacity (starts.Count place) =
    Some (CountOf (record { call = look_count; given = place; room = tt }))
first kind capacity start = None

-- ---- the calls under way

-- what a call under way wants next
abbrev pub want : BitsFlight → Want (Unit {0})
want (Set run) = set_want run.call run.given
want (ResetNext run) = reset_want run.call
want (ResetAll run) = reset_all_want run.call
want (Count run) = counts.set_want run.call run.given
want (TakeAll run) = reset_all_want run.call
want (IsSet run) = is_set_want run.call run.given
want (CountOf run) = count_want run.call run.given

-- whether the call begins a turn of its loop again once it is handed this old value
abbrev pub goes_back : BitsFlight → ℕ → Bool
goes_back (Set run) old = set_turns_back run.call.stage old
goes_back (ResetNext run) old = reset_turns_back run.call.stage old
goes_back (ResetAll run) old = false
goes_back (Count run) old = false
goes_back (TakeAll run) old = false
goes_back (IsSet run) old = false
goes_back (CountOf run) old = false

-- how many events the next step of a call writes at most, apart from the end of the call
abbrev pub most_effects : BitsFlight → ℕ
most_effects (ResetAll run) = 64
most_effects flight = 1

module _ {T : Type 0} where
  -- what a reset of the next place answers
  abbrev pub reset_answer : Option ℕ → Answer T
  reset_answer None = answers.ResetNone
  reset_answer (Some bit) = answers.Reset bit

  -- how a call under way goes on from the old value of its word
  abbrev pub after : BitsFlight → ℕ → After BitsFlight (Answer T)
  after (Set run) old =
      as_call Set answers.Truth
      (went_on as_it_is run.given run.room (set_after run.call run.given old))
  after (ResetNext run) old =
      as_call ResetNext reset_answer
      (went_on as_it_is run.given run.room (reset_after run.call old))
  after (ResetAll run) old =
      as_call ResetAll (λ _. answers.Done)
      (went_on as_it_is run.given (reset_all_kept run.room old) (reset_all_after run.call old))
  after (Count run) old =
      as_call Count answers.Number
      (went_on as_it_is run.given run.room (counts.set_after run.call old))
  after (TakeAll run) old =
      as_call TakeAll (λ _. answers.Done)
      (went_on as_it_is run.given (reset_all_kept run.room old) (reset_all_after run.call old))
  after (IsSet run) old =
      as_call IsSet answers.Truth
      (went_on as_it_is run.given run.room (is_set_after run.call run.given old))
  after (CountOf run) old =
      as_call CountOf answers.Number
      (went_on as_it_is run.given run.room (count_after run.call old))

  -- the family's call under way, as one of a machine
  abbrev pub going : BitsFlight → Going (Flight T) T
  going flight =
      record {
        want = want flight;
        after = λ old. as_call flights.Bits (λ answer. answer) (after flight old);
        rows = λ kept said. [];
        most = most_effects flight;
      }
