-- A worked run of a loan channel with one slot in which no call ends for 14 steps: a receive up to its last step, whose party
-- dies then, and a reclaim of the one index up to its last step.
use Rattle.std.proofs.Common.{◌≡◌, ℕ, ◌<◌, List, ◌∷◌, ◌++◌, refl, arith}
use Rattle.model.specs.declared.event.Start.TheVariants as starts
use Rattle.model.specs.declared.families.loan.LoanStart.TheVariants as calls
use Rattle.model.specs.declared.turn.Kind.TheVariants.{Loan}
use Rattle.model.specs.declared.turn.Turn.{Turn}
use Rattle.model.specs.declared.turn.Turn.TheVariants.{Die}
use Rattle.model.specs.Coding.{one_word, IsCoding}
use Rattle.model.specs.LockFree.{Bound, HasLockFreeRuns, ends, steps_in}
use Rattle.model.specs.Turns.{run, after_turns, AreAllowed, IsReached}
use Rattle.model.specs.World.{Trace, opened}
use Rattle.model.proofs.Runs.{begins}

-- values of one word each are coded as `IsCoding` asks
one_word_codes : IsCoding one_word
one_word_codes = record { some = omega arith; few = omega arith; sized = λ n. refl; given_back = λ n. refl }

-- the one index is sent
abbrev before : List (Turn ℕ)
before = begins 0 (starts.Loan calls.Loan) 4 ++ begins 0 (starts.Loan (calls.Send 0)) 4

-- the receiver begins a receive and dies, and the sender begins a reclaim
abbrev turns : List (Turn ℕ)
turns = begins 1 (starts.Loan calls.Receive) 3 ++ (Die 1 ∷ begins 0 (starts.Loan calls.Reclaim) 11)

-- the run in which the sender has sent the one index
abbrev sent : Trace ℕ
sent = run before (opened one_word Loan 1 1 2)

-- a machine may come to the run
sent_reached : IsReached sent
sent_reached = record { coded = one_word_codes; admitted = refl; queue = 1; queued = refl; turns = before; is = refl }

-- no turn of the run is refused
all_allowed : AreAllowed sent turns
all_allowed =
    (refl, (refl, (refl, (refl, (refl, (refl, (refl, (refl, (refl, (refl, (refl, (refl, (refl, (refl, (refl, (refl, (refl, tt)))))))))))))))))

-- the turns take 14 steps
many : steps_in sent turns ≡ 14
many = refl

-- before them two calls have ended
ended_before : ends sent.events ≡ 2
ended_before = refl

-- after them still two calls have ended
ended_after : ends (after_turns sent turns).events ≡ 2
ended_after = refl

-- the machine has two parties
parties : sent.world.parties ≡ 2
parties = refl

-- the channel has one slot
slots : sent.world.capacity ≡ 1
slots = refl

-- a value has one word
size : sent.world.coding.size ≡ 1
size = refl

-- the number of calls that ended did not grow
none_more : (before after ended : ℕ) → before ≡ ended → after ≡ ended → before < after → ⊥
none_more before after ended was is less = absurd (omega arith)

-- the turns take more steps than the bound
more_steps : (most steps here : ℕ) → steps ≡ here → most < here → most < steps
more_steps = omega arith

-- a bound that is low for these numbers is low for any that equal them
low_there : (bound : Bound) (n c words : ℕ) → n ≡ 2 → c ≡ 1 → words ≡ 1 → bound 2 1 1 < 14 → bound n c words < 14
low_there bound n c words a b words_are_one few = rw (a, b, words_are_one) few

-- by no bound that is below 14 for two parties, one slot and values of one word has a loan
-- channel lock-free runs
pub channel : (bound : Bound) → bound 2 1 1 < 14 → HasLockFreeRuns ℕ Loan bound → ⊥
channel bound few free =
    none_more (ends sent.events) (ends (after_turns sent turns).events) 2 ended_before ended_after
    (free sent refl sent_reached turns all_allowed
    (more_steps (bound sent.world.parties sent.world.capacity sent.world.coding.size) (steps_in sent turns) 14 many
    (low_there bound sent.world.parties sent.world.capacity sent.world.coding.size parties slots size few)))
