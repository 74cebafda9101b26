-- A step of the receiver's call that changes at most the completion queue, and writes nothing: what it
-- shows, and that it leaves a machine with the invariant.
use Rattle.laws_loan.proofs.Names.{◌≡◌, ℕ, ◌+◌, ◌≤◌, Bool, Option, List, [], ◌++◌, sym, ap, refl, ◌∙◌}
use Rattle.laws_loan.proofs.Names.{append-nil, Ask, After, GoOn, Answer, LoanStart, LoanFlight, Effect, Party}
use Rattle.laws_loan.proofs.Names.{one_word, spot_of, words_of_index, Span, Open, span_of}
use Rattle.laws_loan.proofs.Names.{words_after, change_of, step_count, one_if, Core, KnowsPop}
use Rattle.std.proofs.Common.{arith}
use Rattle.steps.specs.declared.queues.ring.PopStage.{PopStage}
use Rattle.model.specs.declared.event.Start.TheVariants as starts
use Rattle.laws_queues.proofs.Queues.Core.{Good}
use Rattle.laws_loan.proofs.Channel.{Channel, words_in}
use Rattle.laws_loan.proofs.Knows.{number_of, wrote_in, At, FlightKnows}
use Rattle.laws_loan.proofs.GiveBackInterference.{given_then, at_given}
use Rattle.laws_loan.proofs.Scene.{Scene, HoldsIn, ReceiverCalls}
use Rattle.laws_loan.proofs.Sender.{party_then, told_by, Steps, StepBy}
use Rattle.laws_loan.proofs.QueueEvents.{Tells, silent_tells}
use Rattle.laws_loan.proofs.QueueEvents.{is_reclaiming}
use Rattle.laws_loan.proofs.Turns.{Shows}
use Rattle.laws_loan.proofs.Turns.{sends_still}

module _ {T : Type 0} (scene : Scene T) (p : ℕ) where
  open scene use {slots, queue, state as s}

  -- the channel after a step with this effect that leaves the completion queue `k`
  abbrev pub s_given : Core ℕ → LoanStart → After LoanFlight (Answer T) → Effect → Channel T
  s_given k start after effect =
      given_then slots queue s k (s.events ++ told_by scene p start after effect) p

  -- a step with this effect, which leaves the completion queue `k` and the book, keeps the invariant
  abbrev pub GivesBy : Core ℕ → Span T → LoanStart → Option Ask → Bool → After LoanFlight (Answer T) → Effect → Type 0
  GivesBy k from start ask back after effect =
      StepBy scene p (s_given k start after effect) from start ask back after effect

-- ---- a step that writes nothing and leaves what waits in the completion queue; its call goes on

-- in `k`, which the completion queue is after a step, the same indices wait, and pops know of it what they knew
pub record StillWaits {T : Type 0} (scene : Scene T) (k : Core ℕ) : Type 0 where
  pub waits : k.waiting ≡ scene.state.completion.waiting
  pub write : k.write ≡ scene.state.completion.write
  pub good : Good 1 words_of_index scene.slots k
  pub pops : (room : List ℕ) (stage : PopStage) → KnowsPop one_word scene.slots scene.state.completion room stage → KnowsPop one_word scene.slots k room stage

-- in the completion queue as it stands the same indices wait, and pops know of it what they knew
pub nothing_stored : {T : Type 0} {scene : Scene T} → HoldsIn scene → StillWaits scene scene.state.completion
nothing_stored holds = record { waits = refl; write = refl; good = holds.parts.completion; pops = λ room stage known. known }

-- the receiver's call `start` takes a step with the operation `ask`, and goes on to `flight`
module _ {T : Type 0} {scene : Scene T} {p : ℕ} {start : LoanStart} (r : ReceiverCalls scene p start) (ask : Option Ask) (back : Bool)
    {k : Core ℕ} (kept : StillWaits scene k) (flight : LoanFlight) where
  open scene use {slots, queue, state as s, latest, turns, changes, since, caller as x}
  open kept use {waits, write, good, pops}
  open r use {other, alive, receives, from}

  -- the receiver after the step
  abbrev y_on : Party T
  y_on = party_then scene start ask back (GoOn flight)

  -- the channel after the step
  abbrev s_on : Channel T
  s_on = given_then slots queue s k (s.events ++ []) p

  -- the step keeps what holds between two turns (`Shows`, Turns), with no event
  shows_on : Shows slots queue s s_on p y_on latest turns []
  shows_on =
      let tells : Tells {T = T} queue (is_reclaiming s.events) s.submission.waiting s.submission.waiting s.completion.waiting k.waiting [] =
      silent_tells [] refl refl refl (append-nil s.completion.waiting ∙ sym waits) in
      let still = sends_still latest y_on p other in
      grind (arith, append-nil)

  -- the step keeps the invariant, where its call stands at the stage to which it goes on,
  -- within its bound of steps
  pub gives_on : words_after (words_in s) ask ≡ words_in s_on
      → x.steps + step_count ask ≤ number_of {T = T} slots [] flight (x.backs + one_if back) → At slots queue s_on p [] start flight
      → FlightKnows slots queue s_on (since + change_of (words_in s) ask) (changes + change_of (words_in s) ask) (x.backs + one_if back) flight
      → Steps scene p s_on (Open (starts.Loan start) []) start ask back (GoOn flight) []
  gives_on words steps at knows =
      let was : [] ≡ wrote_in (span_of p (s.events ++ [])) = sym (ap wrote_in (ap (span_of p) (append-nil s.events) ∙ from)) in
      let others =
      at_given slots queue s k (s.events ++ []) p
      (record { receiver = receives; alive = alive; pop = pops; passes = λ q i ne e. ap (spot_of i) (append-nil s.events) ∙ e }) in
      grind (arith, shows_on)
