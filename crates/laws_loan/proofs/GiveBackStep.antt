-- Each step of a give-back, at any stage, leaves a machine with the invariant.
use Rattle.laws_loan.proofs.Names.{◌≡◌, ℕ, false, sym, ap, subst, ◌∙◌, Part, Push, Running}
use Rattle.laws_loan.proofs.Names.{completion_word, Flight, GiveBack, has_died}
use Rattle.model.specs.declared.event.Start.TheVariants as starts
use Rattle.model.specs.declared.families.Flight.TheVariants as flights
use Rattle.model.specs.declared.families.loan.LoanStart.TheVariants as calls
use Rattle.laws_loan.proofs.GiveBacks.{give_at, push_on}
use Rattle.laws_loan.proofs.Scene.{Underway}
use Rattle.laws_loan.proofs.Senders.{Stands, Comes, give_back_pushes}

module _ {T : Type 0} (m : Underway T) (p index : ℕ) (alive : has_died p m.sound.state.book.dead ≡ false) where
  open m use {slots, queue}

  -- the step of a give-back of a living party leaves a machine with the invariant
  pub give_back_comes : (by : ℕ) (run : Running (Part (Push ℕ)) ℕ (Unit {0}))
      → Stands m p (starts.Loan (calls.GiveBack index)) (flights.Loan (GiveBack by run))
      → Comes m p (starts.Loan (calls.GiveBack index)) (flights.Loan (GiveBack by run))
  give_back_comes by run there =
      let stands = there.at in
      let named : ℕ → ℕ → ℕ → ℕ → Flight T =
      λ n base capacity given. flights.Loan
      (GiveBack n (record { call = record { base = base; call = push_on capacity run.call.call.stage }; given = given; room = tt })) in
      let same : flights.Loan (GiveBack by run) ≡ flights.Loan (give_at slots queue p index run.call.call.stage) =
      ap (λ n. named n run.call.base run.call.call.capacity run.given) stands.1
      ∙ (ap (λ base. named p base run.call.call.capacity run.given) stands.2
      ∙ (ap (λ c. named p (completion_word slots queue) c run.given) stands.3 ∙ ap (λ i. named p (completion_word slots queue) slots i) stands.4))
      in
      subst (λ flight. Comes m p (starts.Loan (calls.GiveBack index)) flight) (sym same) (give_back_pushes m p index run.call.call.stage alive
      (subst (λ flight. Stands m p (starts.Loan (calls.GiveBack index)) flight) same there))
