-- Bit sets and counting bit sets are lock-free: for the calls of each kind a measure that falls with each
-- step and is at most a bound. `FallsIn` says that the call ends, or has as many steps less as it takes and
-- gives no other call more, unless it pays for that.
use Rattle.std.proofs.Common.{◌≡◌, ℕ, ◌+◌, ◌-◌, ◌<◌, ◌≤◌, ◌==◌, inl, inr, nat_lt, max, Bool, true, false, cond, Option, Some}
use Rattle.std.proofs.Common.{List, get_or, refl, arith}
use Rattle.std.proofs.lemmas.Bool.Decides.{nat_tests}
use Rattle.steps.specs.Bits.BitSet.{place_after, reset_tests}
use Rattle.steps.specs.Bits.Words.{element_of, elements, has_flag}
use Rattle.steps.specs.Routine.{went_on}
use Rattle.steps.specs.declared.ask.After.{After}
use Rattle.steps.specs.declared.ask.Op.TheVariants.{Load}
use Rattle.steps.specs.declared.bits.bit_set.ResetNext.{ResetNext}
use Rattle.steps.specs.declared.bits.bit_set.ResetNextStage.{ResetNextStage}
use Rattle.steps.specs.declared.bits.bit_set.ResetNextStage.TheVariants as resetting
use Rattle.steps.specs.declared.bits.bit_set.SetStage.{SetStage}
use Rattle.steps.specs.declared.bits.bit_set.SetStage.TheVariants as setting
use Rattle.steps.specs.declared.copied.OneWord.{OneWord}
use Rattle.model.specs.declared.event.Answer.{Answer}
use Rattle.model.specs.declared.event.Start.{Start}
use Rattle.model.specs.declared.event.Start.TheVariants as starts
use Rattle.model.specs.declared.families.Flight.{Flight}
use Rattle.model.specs.declared.families.Flight.TheVariants as flights
use Rattle.model.specs.declared.families.Registry.{Registry}
use Rattle.model.specs.declared.families.Registry.TheVariants as registries
use Rattle.model.specs.declared.families.bits.calls.BitsFlight.{BitsFlight}
use Rattle.model.specs.declared.families.bits.calls.BitsFlight.TheVariants as calls
use Rattle.model.specs.declared.turn.Kind.{Kind}
use Rattle.model.specs.declared.turn.Kind.TheVariants.{Bits, Counts}
use Rattle.model.specs.Coding.{Coding}
use Rattle.model.specs.Families.{first_of, want_of, after_of, goes_of, step_of, is_question, kept_after_begin, kept_after_death, opening_of}
use Rattle.model.specs.Families.Bits.Calls.{reset_answer}
use Rattle.model.specs.Families.Queues.Calls.{as_it_is}
use Rattle.model.specs.LockFree.{KeepsEnding, stretch}
use Rattle.model.specs.Step.{as_call}
use Rattle.model.specs.Turns.{words_after}
use Rattle.model.proofs.LockFree.Falls.{same_is, load_leaves, FallsIn, StepFalls}
use Rattle.model.proofs.LockFree.Measure.{WordMeasure}
use Rattle.model.proofs.LockFree.Own.{Outline, TableLaws, by_table, OwnAfter, keeps_ending}
use Rattle.laws_bits.proofs.Bits.Knows.{set_at, next_at}

-- ---- how many steps a call takes at most before its last one, while no other call changes a word

-- the steps left to a set: an exchange that finds its element unchanged is the last step, and another tests
-- the element again
abbrev set_left : List ℕ → ℕ → SetStage → ℕ
set_left words bit setting.LoadsElement = 1
set_left words bit (setting.ExchangesElement found) = cond (get_or words (element_of bit) 0 == found) 0 1

-- the steps left to a reset of the next bit, by the places that are still to be tested
abbrev next_left : List ℕ → ℕ → ResetNextStage → ℕ
next_left words c resetting.LoadsPosition = c + 2
next_left words c (resetting.LoadsElement start passed) = c - (passed + 1) + 2
next_left words c (resetting.ExchangesElement start passed found) =
    cond (get_or words (element_of (place_after c start passed)) 0 == found) 1 (c - (passed + 1) + 2)
next_left words c (resetting.StoresPosition place) = 0

-- the steps left to any call of a bit set
abbrev bits_left : List ℕ → BitsFlight → ℕ
bits_left words (calls.Set run) = set_left words run.given run.call.stage
bits_left words (calls.ResetNext run) = next_left words run.call.capacity run.call.stage
bits_left words (calls.ResetAll run) = run.call.end - run.call.word - 1
bits_left words flight = 0

-- ---- how many words it changes at most before its last step

-- a reset of the next bit changes one word before its last step, as it clears a bit; that last
-- step stores the position
abbrev next_pays : ResetNextStage → ℕ
next_pays (resetting.StoresPosition place) = 0
next_pays stage = 1

-- how many words any call of a bit set still changes before its last step, at most
abbrev bits_pays : BitsFlight → ℕ
bits_pays (calls.ResetNext run) = next_pays run.call.stage
bits_pays (calls.ResetAll run) = run.call.end - run.call.word - 1
bits_pays flight = 0

-- the steps left to a call of a counting set; no such call has a loop that others can make longer
abbrev counts_left : BitsFlight → ℕ
counts_left (calls.TakeAll run) = run.call.end - run.call.word - 1
counts_left flight = 0

-- ---- no call has more steps left than the bound

-- one of two numbers is at most what both are
one_of : (t : Bool) (a b most : ℕ) → a ≤ most → b ≤ most → cond t a b ≤ most
one_of true a b most x y = x
one_of false a b most x y = y

-- a set has at most two steps more left than the capacity
set_most : (words : List ℕ) (c bit : ℕ) (stage : SetStage) → set_left words bit stage ≤ c + 2
set_most words c bit setting.LoadsElement = omega arith
set_most words c bit (setting.ExchangesElement found) = one_of _ 0 1 (c + 2) (omega arith) (omega arith)

-- a reset of the next bit has at most two steps more left than the capacity
next_most : (words : List ℕ) (c : ℕ) (stage : ResetNextStage) → next_left words c stage ≤ c + 2
next_most words c resetting.LoadsPosition = omega arith
next_most words c (resetting.LoadsElement start passed) = omega arith
next_most words c (resetting.ExchangesElement start passed found) = one_of _ 1 (c - (passed + 1) + 2) (c + 2) (omega arith) (omega arith)
next_most words c (resetting.StoresPosition place) = omega arith

-- a reset of the next bit changes no more words before its last step than the measure names
next_few : (c : ℕ) (stage : ResetNextStage) → next_pays stage ≤ max 1 (elements c - 1)
next_few = grind arith

-- a word that another follows is not past the end
no_end : (word end : ℕ) → nat_lt (word + 1) end ≡ true → nat_lt word end ≡ true
no_end = grind (arith, nat_tests)

-- ---- where a call stands

-- where a call of a bit set stands: a reset of all bits at an element, one of the next bit with the capacity
-- of the set, and another call anywhere
abbrev BitsStand : ℕ → BitsFlight → Type 0
BitsStand c (calls.Set run) = Unit {0}
BitsStand c (calls.ResetNext run) = run.call.capacity ≡ c
BitsStand c (calls.ResetAll run) = (run.call.end ≡ 1 + elements c) × (1 ≤ run.call.word)
BitsStand c (calls.IsSet run) = Unit {0}
BitsStand c flight = ⊥

-- where a call of a counting set stands
abbrev CountsStand : ℕ → BitsFlight → Type 0
CountsStand c (calls.Count run) = Unit {0}
CountsStand c (calls.TakeAll run) = run.call.end ≡ c
CountsStand c (calls.CountOf run) = Unit {0}
CountsStand c flight = ⊥

-- ---- both kinds, of which `counting` names the counting sets (`true`) or the bit sets (`false`)

abbrev kind_of : Bool → Kind
kind_of true = Counts
kind_of false = Bits

abbrev stand : Bool → ℕ → BitsFlight → Type 0
stand true = CountsStand
stand false = BitsStand

module _ {T : Type 0} where
  -- the steps left to a call of a bit set; calls of other families have none
  abbrev left : List ℕ → Flight T → ℕ
  left words (flights.Bits flight) = bits_left words flight
  left words flight = 0

  -- how many words a call of a bit set still changes before its last step
  abbrev pays : Flight T → ℕ
  pays (flights.Bits flight) = bits_pays flight
  pays flight = 0

  -- the steps left to a call of a counting set
  abbrev count_left : Flight T → ℕ
  count_left (flights.Bits flight) = counts_left flight
  count_left flight = 0

  -- the measure of bit sets, with its bounds when a call begins
  abbrev measure : ℕ → WordMeasure T
  measure c = record { left = left; pays = pays; alone = c + 2; changes = max 1 (elements c - 1) }

  -- the measure of counting sets, with its bounds when a call begins
  abbrev counts_measure : ℕ → WordMeasure T
  counts_measure c = record { left = λ words flight. count_left flight; pays = λ flight. 0; alone = c - 1; changes = 0 }

  -- ---- where a call under way stands

  -- the call is one of a bit set or a counting set, and stands where the measure needs it
  abbrev FlightStands : (BitsFlight → Type 0) → Start T → Flight T → Type 0
  FlightStands stands (starts.Bits start) (flights.Bits flight) = stands flight
  FlightStands stands start flight = ⊥

  -- nothing is kept beside the words
  abbrev Kept : Registry T → Type 0
  Kept registries.Nothing = Unit {0}
  Kept kept = ⊥

  -- the measure of either kind
  abbrev measured : Bool → ℕ → WordMeasure T
  measured true = counts_measure
  measured false = measure

  -- what the frame of lock-freedom asks to know of either kind
  abbrev outline : Bool → Outline T
  outline counting =
      record {
        kind = kind_of counting;
        Such = λ start. Unit {0};
        Kept = Kept;
        At = λ code c start flight. FlightStands (stand counting c) start flight;
        Known = λ p kept flight. Unit {0};
        measure = λ code c. measured counting c;
      }

  -- ---- the measure falls with each step

  -- the step of a call, from the words `words`
  module _ (n : ℕ) (code : Coding T) (words : List ℕ) where
    abbrev M : WordMeasure T
    M = measure n

    -- the measure falls with the step of the call
    abbrev CallStepFalls : BitsFlight → Type 0
    CallStepFalls flight = StepFalls M code words (flights.Bits flight)

    -- the measure falls with each step of a set
    set_falls : (bit : ℕ) (stage : SetStage) → CallStepFalls (set_at bit stage)
    set_falls bit setting.LoadsElement = go (has_flag word bit) refl
      where
        word : ℕ
        word = get_or words (element_of bit) 0

        -- the cases are whether the bit is set
        go : (t : Bool) → has_flag word bit ≡ t → CallStepFalls (set_at bit setting.LoadsElement)
        go true flag_test = rw flag_test tt
        go false flag_test =
            let self = same_is word in
            rw flag_test (inl (load_leaves words (element_of bit), rw self (omega arith), omega arith))
    set_falls bit (setting.ExchangesElement found) = go (word == found) refl (has_flag word bit) refl
      where
        word : ℕ
        word = get_or words (element_of bit) 0

        -- the cases are whether the word is still what was read and whether the bit is set
        go : (t : Bool) → (word == found) ≡ t → (u : Bool) → has_flag word bit ≡ u → CallStepFalls (set_at bit (setting.ExchangesElement found))
        go true element_test u flag_test = rw element_test tt
        go false element_test true flag_test = rw (element_test, flag_test) tt
        go false element_test false flag_test =
            let self = same_is word in
            rw (element_test, flag_test) (inl (load_leaves words (element_of bit), rw (self, element_test) (omega arith), omega arith))

    -- how a reset of the next bit goes on, as any call
    abbrev as_next : After ResetNext (Option ℕ) → After (Flight T) (Answer T)
    as_next after =
        as_call flights.Bits (λ answer. answer)
        (as_call calls.ResetNext reset_answer (went_on as_it_is tt tt after))

    -- a reset of the next bit at a stage
    abbrev next_flight : ℕ → ResetNextStage → Flight T
    next_flight c stage = flights.Bits (next_at c stage)

    abbrev loaded : ℕ → List ℕ
    loaded w = words_after words (Some (record { word = w; op = Load }))

    -- the measure falls when a reset of the next bit tests a place, in a step that leaves the words
    tests_fall : (new : List ℕ) (was : Flight T) (c start passed : ℕ) (stage : ResetNextStage) → new ≡ words → c - (passed + 1) + 2 ≤ left words was
        → 1 ≤ pays was
        → FallsIn M words new 1 was
        (as_next (reset_tests (record { capacity = c; stage = stage }) start passed (get_or words (element_of (place_after c start passed)) 0)))
    tests_fall new was c start passed stage same enough one = go (has_flag word place) refl (nat_lt (passed + 1) c) refl
      where
        place : ℕ
        place = place_after c start passed

        word : ℕ
        word = get_or words (element_of place) 0

        -- the cases are whether the place is set and whether a further place follows
        go : (t : Bool) → has_flag word place ≡ t → (u : Bool) → nat_lt (passed + 1) c ≡ u
            → FallsIn M words new 1 was (as_next (reset_tests (record { capacity = c; stage = stage }) start passed word))
        go true flag_test u next_test =
            let self = same_is word in
            rw flag_test (inl (same, rw self (omega arith), one))
        go false flag_test true next_test =
            let less : passed + 1 < c = grind (arith, nat_tests) in
            rw (flag_test, next_test) (inl (same, omega arith, one))
        go false flag_test false next_test = rw (flag_test, next_test) tt

    -- the measure falls with each step of a reset of the next bit
    next_falls : (c : ℕ) (stage : ResetNextStage) → CallStepFalls (next_at c stage)
    next_falls c resetting.LoadsPosition = go (nat_lt 0 c) refl
      where
        -- the cases are whether there is a place
        go : (t : Bool) → nat_lt 0 c ≡ t → CallStepFalls (next_at c resetting.LoadsPosition)
        go true index_test =
            let less : 0 < c = grind (arith, nat_tests) in
            rw index_test (inl (load_leaves words 0, omega arith, omega arith))
        go false index_test = rw index_test tt
    next_falls c (resetting.LoadsElement start passed) =
        tests_fall (loaded (element_of (place_after c start passed))) (next_flight c (resetting.LoadsElement start passed)) c start passed
        (resetting.LoadsElement start passed) (load_leaves words (element_of (place_after c start passed))) (omega arith) (omega arith)
    next_falls c (resetting.ExchangesElement start passed found) = go (word == found) refl
      where
        place : ℕ
        place = place_after c start passed

        word : ℕ
        word = get_or words (element_of place) 0

        stage : ResetNextStage
        stage = resetting.ExchangesElement start passed found

        -- the cases are whether the word is still what was read
        go : (t : Bool) → (word == found) ≡ t → CallStepFalls (next_at c stage)
        go true element_test = rw element_test (inr (rw element_test (omega arith), inr (omega arith)))
        go false element_test =
            rw element_test
            (tests_fall (loaded (element_of place)) (next_flight c stage) c start passed stage (load_leaves words (element_of place))
            (rw element_test (omega arith)) (omega arith))
    next_falls c (resetting.StoresPosition place) = tt

    -- the measure falls with each step of a reset of all bits
    all_falls : (word end : ℕ) (room : OneWord)
        → CallStepFalls (calls.ResetAll (record { call = record { word = word; end = end }; given = tt; room = room }))
    all_falls word end room = go (nat_lt (word + 1) end) refl
      where
        flight : BitsFlight
        flight = calls.ResetAll (record { call = record { word = word; end = end }; given = tt; room = room })

        -- the cases are whether a further word follows
        go : (t : Bool) → nat_lt (word + 1) end ≡ t → CallStepFalls flight
        go true next_test =
            let less : word + 1 < end = grind (arith, nat_tests) in
            rw (next_test, no_end word end next_test) (inr (omega arith, inr (omega arith)))
        go false next_test = rw next_test tt

    -- the measure falls with each step of any call of a bit set
    bits_fall : (c : ℕ) (start : Start T) (flight : Flight T) → FlightStands (BitsStand c) start flight → StepFalls M code words flight
    bits_fall c (starts.Bits start) (flights.Bits (calls.Set run)) stands = set_falls run.given run.call.stage
    bits_fall c (starts.Bits start) (flights.Bits (calls.ResetNext run)) stands = next_falls run.call.capacity run.call.stage
    bits_fall c (starts.Bits start) (flights.Bits (calls.ResetAll run)) stands = all_falls run.call.word run.call.end run.room
    bits_fall c (starts.Bits start) (flights.Bits (calls.IsSet run)) stands = tt
    bits_fall c start flight stands = absurd stands

    -- the measure falls with the step of a call of a counting set
    abbrev CountStepFalls : BitsFlight → Type 0
    CountStepFalls flight = StepFalls (counts_measure n) code words (flights.Bits flight)

    -- the measure falls with each step of a reset of all counts
    takes_fall : (word end : ℕ) (room : OneWord)
        → CountStepFalls (calls.TakeAll (record { call = record { word = word; end = end }; given = tt; room = room }))
    takes_fall word end room = go (nat_lt (word + 1) end) refl
      where
        flight : BitsFlight
        flight = calls.TakeAll (record { call = record { word = word; end = end }; given = tt; room = room })

        -- the cases are whether a further word follows
        go : (t : Bool) → nat_lt (word + 1) end ≡ t → CountStepFalls flight
        go true next_test =
            let less : word + 1 < end = grind (arith, nat_tests) in
            rw (next_test, no_end word end next_test) (inr (omega arith, inl (λ other. omega arith, omega arith)))
        go false next_test = rw next_test tt

    -- the measure falls with each step of any call of a counting set
    counts_fall : (c : ℕ) (start : Start T) (flight : Flight T) → FlightStands (CountsStand c) start flight → StepFalls (counts_measure n) code words flight
    counts_fall c (starts.Bits start) (flights.Bits (calls.Count run)) stands = tt
    counts_fall c (starts.Bits start) (flights.Bits (calls.TakeAll run)) stands = takes_fall run.call.word run.call.end run.room
    counts_fall c (starts.Bits start) (flights.Bits (calls.CountOf run)) stands = tt
    counts_fall c start flight stands = absurd stands

  -- ---- no call has more steps left than its measure names

  -- no call of a bit set has more than two steps more left than the capacity, nor more words to change than
  -- the measure names
  bits_most : (c : ℕ) (words : List ℕ) (start : Start T) (flight : Flight T) → FlightStands (BitsStand c) start flight
      → (left words flight ≤ c + 2) × (pays flight ≤ max 1 (elements c - 1))
  bits_most c words (starts.Bits start) (flights.Bits (calls.Set run)) stands =
      (set_most words c run.given run.call.stage, omega arith)
  bits_most c words (starts.Bits start) (flights.Bits (calls.ResetNext run)) stands =
      (let here = next_most words run.call.capacity run.call.stage in omega arith, next_few c run.call.stage)
  bits_most c words (starts.Bits start) (flights.Bits (calls.ResetAll run)) stands =
      let end = stands.0 in
      let one = stands.1 in
      (omega arith, grind arith)
  bits_most c words (starts.Bits start) (flights.Bits (calls.IsSet run)) stands = (omega arith, omega arith)
  bits_most c words start flight stands = absurd stands

  -- no call of a counting set has more steps left than the capacity without one
  counts_most : (c : ℕ) (start : Start T) (flight : Flight T) → FlightStands (CountsStand c) start flight → count_left flight ≤ c - 1
  counts_most = grind arith

  -- ---- what the frame asks of each kind

  module _ (code : Coding T) (c : ℕ) where
    -- after a step, too, nothing is kept beside the words
    stays : (words : List ℕ) (beside : Option (ℕ × ℕ)) (p : ℕ) (start : Start T) (flight : Flight T) (old : ℕ) (kept : Registry T)
        → Kept kept → Kept (step_of code words beside p start flight old kept).kept
    stays = grind arith

    -- what becomes of a call by a step is decided by its stage alone
    told : (stands : BitsFlight → Type 0) (words : List ℕ) (beside : Option (ℕ × ℕ)) (p : ℕ) (start : Start T) (flight : Flight T) (old : ℕ)
        (kept : Registry T)
        → FlightStands stands start flight → Kept kept
        → ((step_of code words beside p start flight old kept).after ≡ after_of code flight old)
        × (goes_of code p flight old kept ≡ after_of code flight old)
    told = grind arith

    -- after a death, too, nothing is kept beside the words
    dies : (kept : Registry T) (owner : ℕ) → Kept kept → Kept (kept_after_death kept owner)
    dies = grind arith

    -- nothing is kept beside the words of a set that has just been opened
    opens : (counting : Bool) → Kept ((opening_of (kind_of counting)).kept c)
    opens true = tt
    opens false = tt

    -- a call that begins on a set stands where the measure needs it
    begins : (counting : Bool) (start : Start T) (kept : Registry T) (flight : Flight T) → Kept kept
        → first_of (kind_of counting) c start kept ≡ Some flight
        → FlightStands (stand counting c) start flight × ((p : ℕ) → Kept (kept_after_begin code c start p kept))
    begins true = grind arith
    begins false = grind arith

    -- a call of a set that goes on stands where the measure needs it
    goes : (counting : Bool) (start : Start T) (flight : Flight T) (old : ℕ) → FlightStands (stand counting c) start flight
        → OwnAfter (outline counting) code c start (after_of code flight old)
    goes true = grind arith
    goes false = grind arith

    -- no call of a set asks a question
    asks : (stands : BitsFlight → Type 0) (start : Start T) (flight : Flight T) → FlightStands stands start flight
        → is_question (want_of code flight) ≡ false
    asks = grind arith

    -- no call of a set has more steps left, or more words to change, than its measure names
    most : (counting : Bool) (words : List ℕ) (start : Start T) (flight : Flight T) → FlightStands (stand counting c) start flight
        → ((measured counting c).left words flight ≤ (measured counting c).alone)
        × ((measured counting c).pays flight ≤ (measured counting c).changes)
    most true words start flight at = (counts_most c start flight at, omega arith)
    most false words start flight at = bits_most c words start flight at

    -- the measure falls with each step of a call of a set
    falls : (counting : Bool) (words : List ℕ) (start : Start T) (flight : Flight T) → FlightStands (stand counting c) start flight
        → StepFalls (measured counting c) code words flight
    falls true words start flight at = counts_fall c code words c start flight at
    falls false words start flight at = bits_fall c code words c start flight at

    -- all that the frame of lock-freedom asks of the measure holds of the calls of either kind
    laws : (counting : Bool) → TableLaws (outline counting) code c
    laws counting =
        record {
          opens = opens counting;
          known = λ p kept flight. tt;
          begins = λ start kept flight any h e. begins counting start kept flight h e;
          stays = λ words beside p start flight old kept at h. stays words beside p start flight old kept h;
          goes = goes counting;
          told = told (stand counting c);
          dies = dies;
          decides = λ words start flight said at due. (let none = asks (stand counting c) start flight at in absurd (cc));
          most = most counting;
          falls = λ words start flight at wide. falls counting words start flight at;
        }

  -- bit sets are lock-free: every run of their machine keeps ending calls, within this bound
  pub bits_keep_ending : KeepsEnding T Bits (λ n capacity size. stretch n (max 1 (elements capacity - 1)) (capacity + 2))
  bits_keep_ending =
      keeps_ending (outline false) (λ code c coded admitted. by_table (outline false) code c (laws code c false)) (λ start. tt)
      (λ n capacity size. stretch n (max 1 (elements capacity - 1)) (capacity + 2)) (λ code c n. refl)

  -- counting bit sets are lock-free: every run of their machine keeps ending calls, within this bound
  pub counts_keep_ending : KeepsEnding T Counts (λ n capacity size. stretch n 0 (capacity - 1))
  counts_keep_ending =
      keeps_ending (outline true) (λ code c coded admitted. by_table (outline true) code c (laws code c true)) (λ start. tt)
      (λ n capacity size. stretch n 0 (capacity - 1)) (λ code c n. refl)
