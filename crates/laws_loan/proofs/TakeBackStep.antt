-- Each step of a take-back leaves a machine with the invariant: those of its pop, and those of the release
-- of the index that it has taken.
use Rattle.laws_loan.proofs.Names.{◌≡◌, ℕ, sym, ap, subst, ◌∙◌, After, ReleaseState, DefaultMode}
use Rattle.laws_loan.proofs.Names.{Release, ReleaseStage, TakeBackStage, back_asks, back_takes, take_back_released}
use Rattle.laws_loan.proofs.Names.{went_on, Answer, PoppedIndex, LoanFlight, TakeBack, ask_of}
use Rattle.laws_loan.proofs.Names.{release_effect, as_it_is, popped, Open, span_of, as_call, old_of}
use native.Mathlib.Omega.{arith}
use Rattle.steps.specs.declared.loan.take_back.TakeBack as take_back
use Rattle.steps.specs.declared.loan.take_back.TakeBackStage.TheVariants as take_backs
use Rattle.model.specs.declared.event.Start.TheVariants as starts
use Rattle.model.specs.declared.families.Flight.TheVariants as flights
use Rattle.model.specs.declared.families.loan.LoanStart.TheVariants as calls
use Rattle.laws_loan.proofs.Channel.{words_in}
use Rattle.laws_loan.proofs.Releases.{take_back_frees_at, takes_back}
use Rattle.laws_loan.proofs.ReleaseSteps.{StepIsSound, releases_on}
use Rattle.laws_loan.proofs.Releasing.{embedded}
use Rattle.laws_loan.proofs.Scene.{Underway}
use Rattle.laws_loan.proofs.Senders.{Stands, Comes, take_back_pops}

-- a take-back at a stage
abbrev pub take_back_at : ℕ → ℕ → TakeBackStage → LoanFlight
take_back_at slots queue stage =
    TakeBack (record { call = record { slots = slots; queue = queue; stage = stage }; given = tt; room = tt })

module _ (T : Type 0) (slots queue index : ℕ) where
  abbrev call_at : ReleaseStage → take_back.TakeBack
  call_at stage = record { slots = slots; queue = queue; stage = take_backs.Releases index stage }

  -- a take-back that releases an index goes on as its release
  goes_so : (stage : ReleaseStage) (release : After (Release DefaultMode) ReleaseState)
      → as_call TakeBack popped (went_on as_it_is tt tt (take_back_released (call_at stage) index release))
      ≡ embedded {A = Answer T} (take_back_frees_at slots queue index) (PoppedIndex index) release
  goes_so = grind arith

module _ {T : Type 0} (m : Underway T) where
  open m use {slots, queue, sound}

  -- the step of a take-back at any stage leaves a machine with the invariant
  pub take_back_steps : (stage : TakeBackStage)
      → Stands m 0 (starts.Loan calls.TakeBack) (flights.Loan (take_back_at slots queue stage))
      → Comes m 0 (starts.Loan calls.TakeBack) (flights.Loan (take_back_at slots queue stage))
  take_back_steps (take_backs.Pops stage found) there = take_back_pops m stage found there
  take_back_steps (take_backs.Releases index stage) there =
      let stands = there.at in
      let from = ap (span_of 0) sound.holds.same ∙ (there.span ∙ ap (λ es. Open (starts.Loan calls.TakeBack) es) stands.3) in
      let value = old_of (words_in sound.state) (ask_of (back_asks slots index stage)) in
      subst (StepIsSound m index (takes_back T slots queue index) there.knows stage (release_effect index stage))
      (sym (goes_so T slots queue index stage (back_takes slots stage value))) (releases_on m index (takes_back T slots queue index) there.knows stage
      (record { found = there.found; gives = stands.4; from = from; few = there.steps }))
