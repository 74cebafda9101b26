-- A weight of a loan channel's machine: how many steps its sender and its receiver can take before a call of theirs ends.
use Rattle.laws_loan.proofs.Names.{ℕ, ◌+◌, ◌-◌, ◌*◌, ◌≤◌, ◌==◌, Bool, true, Option, Some, None, List, get_or}
use Rattle.laws_loan.proofs.Names.{submission_word, Flight, Registry, Doing, Party, SendStage}
use Rattle.laws_loan.proofs.Names.{Send, Receive, GiveBack, has_died, overflow_pop_number}
use Rattle.std.proofs.Common.{cond, arith}
use Rattle.steps.specs.Queues.Ring.{word_at}
use Rattle.steps.specs.declared.loan.send.SendStage.TheVariants as sends
use Rattle.steps.specs.declared.queues.overflow.PushStage.{PushStage}
use Rattle.steps.specs.declared.queues.overflow.PushStage.TheVariants as overflow_pushes
use Rattle.steps.specs.declared.queues.overflow.PopStage.{PopStage}
use Rattle.steps.specs.declared.queues.overflow.PopStage.TheVariants as overflow_pops
use Rattle.model.specs.declared.families.Flight.TheVariants as flights
use Rattle.model.specs.declared.families.Registry.TheVariants as registries
use Rattle.model.specs.declared.party.Doing.TheVariants.{Going, Over}
use Rattle.model.specs.Parties.{party_of}
use Rattle.model.specs.World.{World}

-- ---- the sender, of whose calls a reclaim takes the most steps

-- how many steps a send can still cost the receiver, by its move of the read position
abbrev pub push_costs : PushStage → ℕ
push_costs (overflow_pushes.LoadsCell read) = 0
push_costs stage = 2

abbrev pub send_costs : SendStage → ℕ
send_costs (sends.Pushes stage) = push_costs stage
send_costs (sends.Releases index stage) = 0

-- the most steps that a call of the sender takes before its last one, with what it can cost the receiver
abbrev pub most_sending : ℕ → ℕ
most_sending slots = 13 * slots + 7

-- ---- the receiver

-- a receive whose read position was moved by a send has one more cell to load
abbrev pub stale : ℕ → PopStage → ℕ
stale read overflow_pops.FindsNone = 0
stale read overflow_pops.LoadsRead = 0
stale read (overflow_pops.LoadsWrite r) = cond (read == r) 0 2
stale read (overflow_pops.LoadsCell r) = cond (read == r) 0 2
stale read (overflow_pops.MovesRead r) = cond (read == r) 0 2

-- the word of the submission queue's read position
abbrev pub read_word : ℕ → ℕ
read_word slots = word_at (submission_word slots) 1

-- the submission queue's read position
abbrev pub read_at : ℕ → List ℕ → ℕ
read_at slots words = get_or words (read_word slots) 0

-- a stage of a send costs at most 2
costs_few : (stage : SendStage) → send_costs stage ≤ 2
costs_few = grind arith

module _ {T : Type 0} where
  -- how many steps a call of this kind takes at most before its last one, with what it can
  -- still cost the receiver
  abbrev pub allowance : ℕ → Flight T → ℕ
  allowance slots (flights.Loan (Send run)) = 13 * slots + 5 + send_costs run.call.stage
  allowance slots flight = most_sending slots

  -- how many steps the sender may still take
  abbrev pub sender_doing : ℕ → ℕ → Doing T → ℕ
  sender_doing slots steps (Going flight since) = allowance slots flight - steps
  sender_doing slots steps (Over others) = most_sending slots

  abbrev pub sender_left : ℕ → Option (Party T) → ℕ
  sender_left slots None = most_sending slots
  sender_left slots (Some x) = sender_doing slots x.steps x.doing

  -- how many steps the receiver's call may still take, where the read position is `read`
  abbrev pub receiver_call : ℕ → ℕ → Flight T → ℕ
  receiver_call read steps (flights.Loan (Receive p run)) = stale read run.call.call.stage + 3 - overflow_pop_number run.call.call.stage
  receiver_call read steps (flights.Loan (GiveBack p run)) = 3 - steps
  receiver_call read steps flight = 4

  abbrev pub receiver_doing : ℕ → ℕ → Doing T → ℕ
  receiver_doing read steps (Going flight since) = receiver_call read steps flight
  receiver_doing read steps (Over others) = 4

  -- how many steps the receiver may still take
  abbrev pub receiver_left : ℕ → Option (Party T) → ℕ
  receiver_left read None = 4
  receiver_left read (Some x) = receiver_doing read x.steps x.doing

  -- ---- both, of whom a dead receiver takes no step

  -- the party that the registry has as the receiver
  abbrev pub receiver_in : Registry T → ℕ
  receiver_in (registries.Loan book) = book.receiver
  receiver_in kept = 0

  -- whether the receiver has died
  abbrev pub is_lost : Registry T → Bool
  is_lost (registries.Loan book) = has_died book.receiver book.dead
  is_lost kept = true

  -- how many steps the receiver may still take: none if it is dead
  abbrev pub receivers_left : ℕ → List ℕ → Registry T → List (ℕ × Party T) → ℕ
  receivers_left slots words kept latest =
      cond (is_lost kept) 0 (receiver_left (read_at slots words) (party_of (receiver_in kept) latest))

  -- the weight of a machine: the steps that its sender and its receiver may still take
  abbrev pub weight : ℕ → World T → ℕ
  weight slots w = sender_left slots (party_of 0 w.latest) + receivers_left slots w.words w.kept w.latest

  -- ---- bounds of these numbers

  -- no call may take more steps than `most_sending`
  pub allowance_most : (slots : ℕ) (flight : Flight T) → allowance slots flight ≤ most_sending slots
  allowance_most = grind (arith, costs_few)

  -- the sender may still take at most `most_sending` steps
  pub sender_most : (slots : ℕ) (o : Option (Party T)) → sender_left slots o ≤ most_sending slots
  sender_most = grind (arith, allowance_most)

  -- a call of the receiver may still take at most four steps
  call_most : (read steps : ℕ) (flight : Flight T) → receiver_call read steps flight ≤ 4
  call_most = grind arith

  -- a call of the receiver has at most four steps left
  pub receiver_most : (read : ℕ) (o : Option (Party T)) → receiver_left read o ≤ 4
  receiver_most = grind (arith, call_most)

  -- a move of the read position costs the receiver at most two steps
  call_moved : (read read' steps : ℕ) (flight : Flight T) → receiver_call read' steps flight ≤ receiver_call read steps flight + 2
  call_moved = grind arith

  -- a move of the read position gives the receiver's call at most two steps more
  pub receiver_moved : (read read' : ℕ) (o : Option (Party T)) → receiver_left read' o ≤ receiver_left read o + 2
  receiver_moved = grind (arith, call_moved)

  -- the weight is at most 13 times the number of slots plus 11
  pub weight_most : (slots : ℕ) (w : World T) → weight slots w ≤ 13 * slots + 11
  weight_most = grind (arith, sender_most, receiver_most)
