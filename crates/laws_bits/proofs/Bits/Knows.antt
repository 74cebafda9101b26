-- What a call of a bit set knows at each of its stages, how many steps it has taken there at most, and what
-- it has written.
use Rattle.laws_bits.proofs.Names.{◌≡◌, ◌≢◌, ℕ, ◌+◌, ◌-◌, ◌<◌, ◌≤◌, true, false, List, [], ◌∷◌, get_or, SetStage}
use Rattle.laws_bits.proofs.Names.{ResetNextStage, place_after, at_most, element_of, elements, has_flag, Event}
use Rattle.laws_bits.proofs.Names.{Cleared, BitsStart, BitsFlight, ResetNext, CameTo, clears, standing, position_of}
use Rattle.laws_bits.proofs.Names.{HeldSometime, SinceBegin, Span}
use Rattle.steps.specs.declared.bits.bit_set.SetStage.TheVariants as setting
use Rattle.steps.specs.declared.bits.bit_set.ResetNextStage.TheVariants as resetting
use Rattle.model.specs.declared.families.bits.BitsStart.TheVariants as starts
use Rattle.model.specs.declared.families.bits.calls.BitsFlight.TheVariants.{Set, ResetAll, IsSet}
use Rattle.laws_bits.proofs.Bits.Core.{ClearedBelow}
use Rattle.laws_bits.proofs.Spans.{wrote_in}

-- ---- the calls at their stages, as calls of a bit set

-- a set of this bit at a stage
abbrev pub set_at : ℕ → SetStage → BitsFlight
set_at bit stage = Set (record { call = record { stage = stage }; given = bit; room = tt })

-- a reset of the next bit at a stage
abbrev pub next_at : ℕ → ResetNextStage → BitsFlight
next_at c stage =
    ResetNext (record { call = record { capacity = c; stage = stage }; given = tt; room = tt })

-- ---- how many steps they have taken at most

-- how many steps a set has taken at most at its stage, where it has turned back `backs` times
abbrev pub set_number : SetStage → ℕ → ℕ
set_number setting.LoadsElement backs = backs
set_number (setting.ExchangesElement found) backs = 1 + backs

-- how many steps a reset of the next bit has taken at most at its stage, where it has
-- turned back `backs` times
abbrev pub next_number : ℕ → ResetNextStage → ℕ → ℕ
next_number c resetting.LoadsPosition backs = backs
next_number c (resetting.LoadsElement start passed) backs = 1 + passed + backs
next_number c (resetting.ExchangesElement start passed found) backs =
    2 + passed + backs
next_number c (resetting.StoresPosition place) backs = 2 + c + backs

-- how many steps a call has taken at most at its stage, where it has turned back `backs` times
abbrev pub number_of : BitsFlight → ℕ → ℕ
number_of (Set run) backs = set_number run.call.stage backs
number_of (ResetNext run) backs = next_number run.call.capacity run.call.stage backs
number_of (ResetAll run) backs = run.call.word - 1
number_of flight backs = 0

-- ---- where a call under way stands

-- a set at its stage: the bit was clear in the element that it is to exchange
abbrev pub SetStands : ℕ → SetStage → Type 0
SetStands bit setting.LoadsElement = Unit {0}
SetStands bit (setting.ExchangesElement found) = has_flag found bit ≡ false

-- a reset of the next bit at its stage: it is at a place below the capacity, which was set in the element
-- that it is to exchange
abbrev pub NextStands : ℕ → ResetNextStage → Type 0
NextStands c resetting.LoadsPosition = Unit {0}
NextStands c (resetting.LoadsElement start passed) = (start ≤ c) × (passed < c)
NextStands c (resetting.ExchangesElement start passed found) =
    (start ≤ c) × (passed < c) × (has_flag found (place_after c start passed) ≡ true)
NextStands c (resetting.StoresPosition place) = place < c

-- ---- what it knows of the counts

-- each turn back is paid for by a change since the call began; and where the element is no more as it was
-- found, the turn back that follows is paid for too
abbrev pub Paid : List ℕ → ℕ → ℕ → ℕ → ℕ → ℕ → Type 0
Paid words since changes backs element found =
    (backs + since ≤ changes)
    × (get_or words element 0 ≢ found → backs + since + 1 ≤ changes)

-- a set knows that its turns back are paid for
abbrev pub KnowsSet : List ℕ → ℕ → ℕ → ℕ → ℕ → SetStage → Type 0
KnowsSet words since changes backs bit setting.LoadsElement =
    backs + since ≤ changes
KnowsSet words since changes backs bit (setting.ExchangesElement found) =
    Paid words since changes backs (element_of bit) found

module _ {T : Type 0} where
  -- what a reset of the next bit has written at its stage: nothing until it has cleared a bit
  abbrev pub next_wrote : ℕ → ResetNextStage → List (Event T)
  next_wrote p resetting.LoadsPosition = []
  next_wrote p (resetting.LoadsElement start passed) = []
  next_wrote p (resetting.ExchangesElement start passed found) = []
  next_wrote p (resetting.StoresPosition place) = Cleared p place ∷ []

  -- what a call under way has written at its stage
  abbrev pub call_wrote : ℕ → BitsFlight → Span T → List (Event T)
  call_wrote p (ResetAll run) span = wrote_in span
  call_wrote p (ResetNext run) span = next_wrote p run.call.stage
  call_wrote p flight span = []

  -- where a call of each name stands; a reset of all bits has cleared no bit of an element to which it is
  -- still to come
  abbrev pub CallAt : ℕ → List (Event T) → BitsStart → BitsFlight → Type 0
  CallAt c wrote (starts.Set bit) (Set run) =
      (run.given ≡ bit) × (bit < c) × SetStands bit run.call.stage
  CallAt c wrote starts.ResetNext (ResetNext run) =
      (run.call.capacity ≡ c) × NextStands c run.call.stage
  CallAt c wrote starts.ResetAll (ResetAll run) =
      (run.call.end ≡ 1 + elements c) × (1 ≤ run.call.word) × (run.call.word ≤ 1 + elements c)
      × ((b : ℕ) → run.call.word ≤ element_of b → clears b wrote ≡ 0)
  CallAt c wrote (starts.IsSet bit) (IsSet run) = (run.given ≡ bit) × (bit < c)
  CallAt c wrote start flight = ⊥

  -- ---- what it knows of the events

  -- each place that a reset has passed, from `start` on, was clear at a moment of the call
  abbrev pub Passed : ℕ → ℕ → ℕ → ℕ → List (Event T) → Type 0
  Passed c p start passed events =
      (k : ℕ) → k < passed → HeldSometime p (λ part. standing (place_after c start k) part ≡ 0) events

  -- the reset position, cut to the capacity, was `start` at a moment of the call
  abbrev pub Began : ℕ → ℕ → ℕ → List (Event T) → Type 0
  Began c p start events = HeldSometime p (λ part. at_most c (position_of part) ≡ start) events

  -- what a reset of the next bit knows: its turns back are paid for, the places that it has passed were clear
  -- at a moment each, and where it began
  abbrev pub KnowsNext : ℕ → ℕ → List (Event T) → List ℕ → ℕ → ℕ → ℕ → ResetNextStage → Type 0
  KnowsNext c p events words since changes backs resetting.LoadsPosition =
      backs + since ≤ changes
  KnowsNext c p events words since changes backs (resetting.LoadsElement start passed) =
      (backs + since ≤ changes) × Passed c p start passed events × Began c p start events
  KnowsNext c p events words since changes backs
      (resetting.ExchangesElement start passed found) =
      Paid words since changes backs (element_of (place_after c start passed)) found
      × Passed c p start passed events × Began c p start events
  KnowsNext c p events words since changes backs (resetting.StoresPosition place) =
      (backs + since ≤ changes) × CameTo p c place events

  -- what any call of a bit set knows; a reset of all bits knows that each bit of an element before its word
  -- that stood when it began was cleared since
  abbrev pub KnowsCall : ℕ → List (Event T) → List ℕ → ℕ → ℕ → ℕ → BitsFlight → Type 0
  KnowsCall p events words since changes backs (Set run) =
      KnowsSet words since changes backs run.given run.call.stage
  KnowsCall p events words since changes backs (ResetNext run) =
      KnowsNext run.call.capacity p events words since changes backs run.call.stage
  KnowsCall p events words since changes backs (ResetAll run) =
      (backs ≡ 0) × SinceBegin p (ClearedBelow run.call.word) events
  KnowsCall p events words since changes backs (IsSet run) = backs + since ≤ changes
  KnowsCall p events words since changes backs flight = ⊥
