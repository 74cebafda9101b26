-- Each step of a send leaves a machine with the invariant: those of its push, and those of the release of
-- an index that it has taken out.
use Rattle.laws_loan.proofs.Names.{◌≡◌, ℕ, sym, ap, subst, ◌∙◌, After, ReleaseState, DefaultMode}
use Rattle.laws_loan.proofs.Names.{Release, ReleaseStage, SendStage, back_asks, back_takes, send_released, went_on}
use Rattle.laws_loan.proofs.Names.{Answer, PoppedIndex, LoanFlight, Send, ask_of, release_effect}
use Rattle.laws_loan.proofs.Names.{as_it_is, popped, Open, span_of, as_call, old_of}
use native.Mathlib.Omega.{arith}
use Rattle.steps.specs.declared.loan.send.Send as send
use Rattle.steps.specs.declared.loan.send.SendStage.TheVariants as sends
use Rattle.model.specs.declared.event.Start.TheVariants as starts
use Rattle.model.specs.declared.families.Flight.TheVariants as flights
use Rattle.model.specs.declared.families.loan.LoanStart.TheVariants as calls
use Rattle.laws_loan.proofs.Channel.{words_in}
use Rattle.laws_loan.proofs.Releases.{send_frees_at, sends_back}
use Rattle.laws_loan.proofs.ReleaseSteps.{StepIsSound, releases_on}
use Rattle.laws_loan.proofs.Releasing.{embedded}
use Rattle.laws_loan.proofs.Scene.{Underway}
use Rattle.laws_loan.proofs.Senders.{Stands, Comes, send_pushes}

-- a send at a stage
abbrev pub send_at : ℕ → ℕ → ℕ → SendStage → LoanFlight
send_at slots queue index stage =
    Send (record { call = record { slots = slots; queue = queue; stage = stage }; given = index; room = tt })

module _ (T : Type 0) (slots queue index oldest : ℕ) where
  abbrev call_at : ReleaseStage → send.Send
  call_at stage = record { slots = slots; queue = queue; stage = sends.Releases oldest stage }

  -- a send that releases an index goes on as its release
  goes_so : (stage : ReleaseStage) (release : After (Release DefaultMode) ReleaseState)
      → as_call Send popped (went_on as_it_is index tt (send_released (call_at stage) oldest release))
      ≡ embedded {A = Answer T} (send_frees_at slots queue index oldest) (PoppedIndex oldest) release
  goes_so = grind arith

module _ {T : Type 0} (m : Underway T) (index : ℕ) where
  open m use {slots, queue, sound}

  -- the step of a send at any stage leaves a machine with the invariant
  pub send_steps : (stage : SendStage)
      → Stands m 0 (starts.Loan (calls.Send index)) (flights.Loan (send_at slots queue index stage))
      → Comes m 0 (starts.Loan (calls.Send index)) (flights.Loan (send_at slots queue index stage))
  send_steps (sends.Pushes stage) there = send_pushes m index stage there
  send_steps (sends.Releases oldest stage) there =
      let stands = there.at in
      let from = ap (span_of 0) sound.holds.same ∙ (there.span ∙ ap (λ es. Open (starts.Loan (calls.Send index)) es) stands.4) in
      let value = old_of (words_in sound.state) (ask_of (back_asks slots oldest stage)) in
      subst (StepIsSound m oldest (sends_back T slots queue index oldest) there.knows stage (release_effect oldest stage))
      (sym (goes_so T slots queue index oldest stage (back_takes slots stage value)))
      (releases_on m oldest (sends_back T slots queue index oldest) there.knows
      stage (record { found = there.found; gives = stands.5; from = from; few = there.steps }))
