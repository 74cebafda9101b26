-- Each step of a give-up, which is a release of the set, leaves a machine with the invariant.
use Rattle.laws_loan.proofs.Names.{◌≡◌, ℕ, sym, ap, subst, ◌∙◌, After, ReleaseState, DefaultMode}
use Rattle.laws_loan.proofs.Names.{Release, ReleaseStage, back_asks, back_takes, went_on, Answer, LoanFlight, GiveUp}
use Rattle.laws_loan.proofs.Names.{ask_of, release_effect, as_it_is, Open, span_of, as_call, old_of}
use Rattle.std.proofs.Common.{arith}
use Rattle.model.specs.declared.event.Answer.TheVariants as answers
use Rattle.model.specs.declared.event.Start.TheVariants as starts
use Rattle.model.specs.declared.families.Flight.TheVariants as flights
use Rattle.model.specs.declared.families.loan.LoanStart.TheVariants as calls
use Rattle.laws_loan.proofs.Channel.{words_in}
use Rattle.laws_loan.proofs.Releases.{give_up_at, gives_up}
use Rattle.laws_loan.proofs.ReleaseSteps.{StepIsSound, releases_on}
use Rattle.laws_loan.proofs.Releasing.{embedded}
use Rattle.laws_loan.proofs.Scene.{Underway}
use Rattle.laws_loan.proofs.Senders.{Stands, Comes}

module _ (T : Type 0) (slots queue index : ℕ) where
  -- how a give-up goes on, or ends, where `release` is how its release has gone on or ended
  abbrev given_up_after : After (Release DefaultMode) ReleaseState → After LoanFlight (Answer T)
  given_up_after release = as_call GiveUp (λ _. answers.Done) (went_on as_it_is index tt release)

  -- the give-up goes on, or ends, as `embedded` says of a call that ends with a release
  goes_so : (stage : ReleaseStage) (value : ℕ)
      → given_up_after (back_takes slots stage value) ≡ embedded (give_up_at slots queue index) answers.Done (back_takes slots stage value)
  goes_so = grind arith

module _ {T : Type 0} (m : Underway T) where
  open m use {slots, queue, sound}

  -- the step of a give-up at any stage of its release leaves a machine with the invariant
  pub give_up_releases : (index : ℕ) (stage : ReleaseStage)
      → Stands m 0 (starts.Loan (calls.GiveUp index)) (flights.Loan (give_up_at slots queue index stage))
      → Comes m 0 (starts.Loan (calls.GiveUp index)) (flights.Loan (give_up_at slots queue index stage))
  give_up_releases index stage there =
      let stands = there.at in
      let from = ap (span_of 0) sound.holds.same ∙ (there.span ∙ ap (λ es. Open (starts.Loan (calls.GiveUp index)) es) stands.3) in
      let value = old_of (words_in sound.state) (ask_of (back_asks slots index stage)) in
      subst (StepIsSound m index (gives_up T slots queue index) there.knows stage (release_effect index stage))
      (sym (goes_so T slots queue index stage value)) (releases_on m index (gives_up T slots queue index) there.knows stage
      (record { found = there.found; gives = stands.4; from = from; few = (let steps = there.steps in omega arith) }))
