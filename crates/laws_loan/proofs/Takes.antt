-- Each step of the receiver's call leaves it, by the weight (`Weight`), one step fewer to take.
use Rattle.laws_loan.proofs.Names.{◌≡◌, ℕ, ◌+◌, ◌≤◌, Option, Some, List, ap, Ask, GoOn, After, ask_of, want, after}
use Rattle.laws_loan.proofs.Names.{as_call, old_of, words_after, step_count, Answer, Flight, LoanFlight, Place}
use Rattle.laws_loan.proofs.Names.{Core, OneWord, one_word, KnowsPush, push_number, nat_tests}
use Rattle.std.proofs.Common.{arith}
use Rattle.steps.specs.declared.ask.After.TheVariants.{Done}
use Rattle.steps.specs.declared.ask.Op.TheVariants.{Load}
use Rattle.steps.specs.declared.queues.overflow.PopStage.{PopStage}
use Rattle.steps.specs.declared.queues.ring.PushStage.{PushStage}
use Rattle.model.specs.declared.families.Flight.TheVariants as flights
use Rattle.model.proofs.LockFree.Falls.{same_is, load_leaves}
use Rattle.laws_loan.proofs.GiveBacks.{give_at}
use Rattle.laws_loan.proofs.Receives.{receive_at}
use Rattle.laws_loan.proofs.Weight.{receiver_call, read_at}

one_less : (new old : ℕ) → new ≡ 1 → old ≡ 2 → new + 1 ≤ old
one_less = omega arith

module _ (T : Type 0) (slots queue : ℕ) (words : List ℕ) (places : List Place) where
  abbrev asked : LoanFlight → Option Ask
  asked flight = ask_of (want flight)

  abbrev pub goes : LoanFlight → After (Flight T) (Answer T)
  goes flight = as_call flights.Loan (λ answer. answer) (after places flight (old_of words (asked flight)))

  -- a step after which the call goes on leaves the call fewer steps, by those that it takes
  abbrev pub Fewer : ℕ → Option Ask → Flight T → After (Flight T) (Answer T) → Type 0
  Fewer steps ask was (GoOn next) =
      receiver_call (read_at slots (words_after words ask)) (steps + step_count ask) next + step_count ask ≤ receiver_call (read_at slots words) steps was
  Fewer steps ask was (Done answer) = Unit {0}

  -- this holds of the step of this call
  abbrev pub TakesOne : ℕ → LoanFlight → Type 0
  TakesOne steps flight = Fewer steps (asked flight) (flights.Loan flight) (goes flight)

  -- the submission queue's read position
  abbrev read : ℕ
  read = read_at slots words

  -- a load leaves the read position
  loads : (word : ℕ) → read_at slots (words_after words (Some (record { word = word; op = Load }))) ≡ read
  loads word = ap (read_at slots) (load_leaves words word)

  -- a step of a receive that goes on leaves it fewer steps, by those that it takes, at
  -- whatever stage of its pop
  pub receive_takes : (p steps : ℕ) (room : OneWord) (stage : PopStage) → TakesOne steps (receive_at slots queue p stage room)
  receive_takes = grind (arith, loads, same_is, nat_tests)

  -- a step of a give-back, which has taken no more steps than its stage says, leaves it one step fewer
  pub give_back_takes : (k : Core ℕ) (p index steps : ℕ) (stage : PushStage) → KnowsPush one_word slots k index stage
      → steps ≤ push_number 1 stage → TakesOne steps (give_at slots queue p index stage)
  give_back_takes = grind (arith, nat_tests)
