-- What each step of a call of a loan channel does to the weight (`Weight`): a step of the sender costs the
-- receiver nothing, but where a send moves the read position.
use Rattle.laws_loan.proofs.Names.{◌≡◌, ◌≢◌, ℕ, ◌+◌, ◌^◌, ◌<◌, ◌≤◌, ◌⊎◌, inl, Option, Some, List, set, refl, sym}
use Rattle.laws_loan.proofs.Names.{ap, Ask, ask_of, old_of, words_after, submission_word, completion_word, shifted}
use Rattle.laws_loan.proofs.Names.{After, GoOn, AcquireStage, ReleaseStage, TakeBackStage, acquire_asks, back_asks}
use Rattle.laws_loan.proofs.Names.{flag_word, flag_within, Answer, Flight, LoanFlight, Place, locked, back_takes}
use Rattle.laws_loan.proofs.Names.{Release, DefaultMode, ReleaseState, want, after, as_call, nat_tests}
use Rattle.std.proofs.Common.{arith, get_or-set_other}
use Rattle.steps.specs.Loan.TakeBack.{take_back_asks}
use Rattle.steps.specs.Queues.Overflow as overflow
use Rattle.steps.specs.Queues.Ring.{pop_asks, word_at}
use Rattle.steps.specs.declared.ask.After.TheVariants.{Done}
use Rattle.steps.specs.declared.ask.Op.TheVariants.{Load}
use Rattle.steps.specs.declared.loan.send.SendStage.{SendStage}
use Rattle.steps.specs.declared.loan.send.SendStage.TheVariants as sends
use Rattle.steps.specs.declared.queues.overflow.PushStage.{PushStage}
use Rattle.steps.specs.declared.queues.ring.PopStage.{PopStage}
use Rattle.model.specs.declared.families.Flight.TheVariants as flights
use Rattle.model.proofs.LockFree.Falls.{load_leaves}
use Rattle.laws_loan.proofs.Channel.{Channel}
use Rattle.laws_loan.proofs.Knows.{GivesAt, SendAt, TakeBackAt}
use Rattle.laws_loan.proofs.SendStep.{send_at}
use Rattle.laws_loan.proofs.SetSteps.{TakesAt}
use Rattle.laws_loan.proofs.Weight.{allowance, read_at, read_word, most_sending, allowance_most}

-- ---- the read position of the submission queue, which few operations change

-- the operation leaves the read position of the submission queue
abbrev pub Keeps : ℕ → List ℕ → Option Ask → Type 0
Keeps slots words ask = read_at slots (words_after words ask) ≡ read_at slots words

-- the number of indices of a channel, and the capacity of its submission queue
pub record Sizes : Type 0 where
  pub slots : ℕ
  pub queue : ℕ
  pub some : 1 ≤ slots
  pub few : slots < locked
  pub fits : queue < 2 ^ 32

module _ (sizes : Sizes) (words : List ℕ) where
  open sizes use {slots, queue, some, few, fits}

  abbrev Stays : Option Ask → Type 0
  Stays ask = Keeps slots words ask

  -- a write of another word leaves the read position
  other_word : (word new : ℕ) → word ≢ read_word slots → read_at slots (set words word new) ≡ read_at slots words
  other_word word new ne = get_or-set_other words word (read_word slots) new 0 (λ e. ne (sym e))

  -- a load leaves the read position
  loads : (word : ℕ) → Stays (Some (record { word = word; op = Load }))
  loads word = ap (read_at slots) (load_leaves words word)

  -- the word of an index's flag is not the submission queue's read position
  low_flag : (index : ℕ) → index < slots → flag_word slots index ≢ read_word slots
  low_flag index below e = let within = flag_within slots index below in absurd (omega arith)

  -- an operation of an acquire leaves the read position of the submission queue
  pub acquire_keeps : (ws : List ℕ) (stage : AcquireStage) → TakesAt slots ws stage → Stays (ask_of (acquire_asks slots stage))
  acquire_keeps = grind (arith, loads, other_word, low_flag)

  -- an operation of a release, of an index of the channel, leaves the read position of the submission queue
  pub release_keeps : (index : ℕ) → index < slots → (stage : ReleaseStage) → Stays (ask_of (back_asks slots index stage))
  release_keeps = grind (arith, loads, other_word, low_flag)

  -- an operation of a pop of the completion queue leaves the read position of the submission queue
  pub pop_keeps_read : (stage : PopStage) → Stays (ask_of (shifted (completion_word slots queue) (pop_asks stage)))
  pop_keeps_read = grind (arith, loads, other_word)

  -- the word of a cell is not the submission queue's read position
  cell_is_other : (write : ℕ) → word_at (submission_word slots) (overflow.cell_word queue write) ≢ read_word slots
  cell_is_other write e = absurd (omega arith)

-- a release is of an index of the set
pub gives_below : {T : Type 0} (slots queue : ℕ) (s : Channel T) (index : ℕ) (stage : ReleaseStage) → GivesAt slots queue s index stage → index < slots
gives_below = grind arith

-- ---- a step of the sender

module _ (T : Type 0) (sizes : Sizes) (words : List ℕ) where
  open sizes use {slots, queue}

  -- a step of the sender leaves the read position and allows the sender's call no more steps, or it allows
  -- it less by two at least
  abbrev pub Costs : Flight T → Option Ask → Flight T → Type 0
  Costs was ask next = (Keeps slots words ask × (allowance slots next ≤ allowance slots was)) ⊎ (allowance slots next + 2 ≤ allowance slots was)

  -- what a step of the sender costs if its call goes on (`Costs`); nothing is asked if the call ends
  abbrev pub AllCosts : Flight T → Option Ask → After (Flight T) (Answer T) → Type 0
  AllCosts was ask (GoOn next) = Costs was ask next
  AllCosts was ask (Done answer) = Unit {0}

  -- what the call's step leaves of it, by the table of places
  abbrev pub goes : List Place → LoanFlight → After (Flight T) (Answer T)
  goes places flight = as_call flights.Loan (λ answer. answer) (after places flight (old_of words (ask_of (want flight))))

  -- the step of this call of the sender costs what `Costs` allows
  abbrev pub CallCosts : List Place → LoanFlight → Type 0
  CallCosts places flight = AllCosts (flights.Loan flight) (ask_of (want flight)) (goes places flight)

  -- a step of a send's push costs what `Costs` allows
  push_costs : (places : List Place) (index : ℕ) (stage : PushStage)
      → CallCosts places (send_at slots queue index (sends.Pushes stage))
  push_costs = grind (arith, loads, other_word, cell_is_other, nat_tests)

  -- any step of a send costs what `Costs` allows, where the send stands at its stage
  pub send_costs_so : (places : List Place) (s : Channel T) (index given : ℕ) (stage : SendStage) → SendAt slots queue s index stage
      → CallCosts places (send_at slots queue given stage)
  send_costs_so places s index given (sends.Pushes stage) at = push_costs places given stage
  send_costs_so places s index given (sends.Releases oldest stage) at =
      go (back_takes slots stage (old_of words (ask_of (back_asks slots oldest stage)))) refl
    where
      -- the cases are whether the release goes on or ends
      go : (a : After (Release DefaultMode) ReleaseState) → back_takes slots stage (old_of words (ask_of (back_asks slots oldest stage))) ≡ a
          → CallCosts places (send_at slots queue given (sends.Releases oldest stage))
      go (GoOn release) takes_is =
          rw takes_is (inl (release_keeps sizes words oldest (gives_below slots queue s oldest stage at) stage, omega arith))
      go (Done state) takes_is = rw takes_is tt

  -- a step of any other call of the sender that leaves the read position costs what `Costs` allows
  pub any_costs : (was : LoanFlight) (a : After LoanFlight (Answer T)) → Keeps slots words (ask_of (want was))
      → allowance {T = T} slots (flights.Loan was) ≡ most_sending slots
      → AllCosts (flights.Loan was) (ask_of (want was)) (as_call flights.Loan (λ answer. answer) a)
  any_costs = grind (arith, allowance_most)

  -- an operation of a take-back leaves the read position of the submission queue
  pub take_back_keeps : (s : Channel T) (stage : TakeBackStage) → TakeBackAt slots queue s stage → Keeps slots words (ask_of (take_back_asks slots queue stage))
  take_back_keeps = grind (arith, pop_keeps_read, release_keeps, gives_below)
