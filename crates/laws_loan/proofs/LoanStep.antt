-- Each step of a loan, which is an acquire of the set, leaves a machine with the invariant.
use Rattle.laws_loan.proofs.Names.{Ok, Err, ◌≡◌, ℕ, false, Bool, Option, List, [], refl, Ask, After, GoOn}
use Rattle.laws_loan.proofs.Names.{AcquireStage, Acquired, acquire_asks, acquire_takes, went_on, Answer, LoanFlight}
use Rattle.laws_loan.proofs.Names.{ask_of, as_it_is, Open, span_of, as_call, old_of, words_after}
use Rattle.std.proofs.Common.{arith}
use Rattle.steps.specs.declared.ask.After.TheVariants.{Done}
use Rattle.steps.specs.declared.indices.enums.UniqueIndexSetAcquireFailure.TheVariants as failures
use Rattle.steps.specs.declared.indices.unique.Acquire as acquire_calls
use Rattle.model.specs.declared.event.Answer.TheVariants as answers
use Rattle.model.specs.declared.event.Start.TheVariants as starts
use Rattle.model.specs.declared.families.Flight.TheVariants as flights
use Rattle.model.specs.declared.families.loan.LoanStart.TheVariants as calls
use Rattle.model.specs.declared.families.loan.calls.LoanFlight.TheVariants.{Loan}
use Rattle.model.specs.declared.families.loan.effects.Effect.TheVariants as effects
use Rattle.model.specs.Families.Indices.Calls.{acquire_answer}
use Rattle.laws_loan.proofs.Channel.{words_in}
use Rattle.laws_loan.proofs.Loans.{loan_at, Loans, step, goes_steps, fails_steps, claims_steps}
use Rattle.laws_loan.proofs.Parts.{set_old}
use Rattle.laws_loan.proofs.Scene.{Scene, Underway, scene_of}
use Rattle.laws_loan.proofs.Senders.{Stands, Comes, from_step}
use Rattle.laws_loan.proofs.SetSteps.{AcquireLeads}
use Rattle.laws_loan.proofs.StepLaw.{holds_now, ComesBy}

-- how a loan goes on, or ends, where `acquire` is how its acquire has gone on or ended
abbrev loaned_after : (T : Type 0) → After acquire_calls.Acquire Acquired → After LoanFlight (Answer T)
loaned_after T acquire = as_call Loan acquire_answer (went_on as_it_is tt tt acquire)

module _ {T : Type 0} (m : Underway T) (stage : AcquireStage) (there : Stands m 0 (starts.Loan calls.Loan) (flights.Loan (loan_at m.slots stage))) where
  open m use {slots, queue, trace as t, sound}

  -- the operation of the loan's step
  abbrev ask : Option Ask
  ask = ask_of (acquire_asks slots stage)

  -- the acquire of the loan at its stage
  abbrev call : acquire_calls.Acquire
  call = record { capacity = slots; stage = stage }

  -- the words of the set after the step
  abbrev words_then : List ℕ
  words_then = words_after sound.state.set ask

  -- the loan has written nothing yet
  from : span_of 0 sound.state.events ≡ Open (starts.Loan calls.Loan) []
  from = grind arith

  abbrev scene : Scene T
  scene = scene_of m

  -- the loan stands at this stage of its acquire, and knows what the stage says of the set
  stands : Loans scene stage
  stands =
      record {
        holds = holds_now m;
        here = there.found;
        takes = there.at.3;
        from = from;
        few = there.steps;
        straight = there.knows;
      }

  -- a step of the loan after which it is as `after` says leaves a machine with the invariant
  abbrev StepIsSound : Bool → After LoanFlight (Answer T) → Type 0
  StepIsSound back after =
      ComesBy m 0 calls.Loan ask back after effects.Claims

  -- where `acquire` is how the acquire goes on or ends, as `SetSteps` says, the loan goes on, claims an
  -- index, or ends with none
  leads_on : (acquire : After acquire_calls.Acquire Acquired)
      → AcquireLeads slots stage sound.state.set words_then sound.state.claims acquire
      → StepIsSound false (loaned_after T acquire)
  leads_on (GoOn acquire) acquire_leads =
      rw acquire_leads.1 (from_step m calls.Loan ask (GoOn (loan_at slots acquire.stage)) effects.Claims _ [] from (
        goes_steps scene stage stands
            acquire.stage acquire_leads.0 acquire_leads.2 acquire_leads.3,
        refl,
      ))
  leads_on (Done (Ok i)) acquire_leads =
      from_step m calls.Loan ask (Done (answers.Index i)) effects.Claims
      _ [] from (
        claims_steps scene stage stands i acquire_leads.1
            acquire_leads.0 acquire_leads.2 acquire_leads.3,
        refl,
      )
  leads_on (Done (Err failures.OutOfIndices)) acquire_leads =
      from_step m calls.Loan ask (Done (answers.NoIndex failures.OutOfIndices)) effects.Claims _ [] from (
        fails_steps scene stage stands acquire_leads.0 acquire_leads.1
            acquire_leads.2,
        refl,
      )
  leads_on (Done (Err failures.IsLocked)) acquire_leads = absurd acquire_leads

  -- the step of a loan at any stage of its acquire leaves a machine with the invariant
  pub loan_acquires : Comes m 0 (starts.Loan calls.Loan) (flights.Loan (loan_at slots stage))
  loan_acquires =
      let does = step scene stage stands in
      let value : old_of (words_in sound.state) ask ≡ old_of sound.state.set ask =
      set_old sound.holds.parts (acquire_asks slots stage) does.on in
      rw (value, does.stays) (leads_on (acquire_takes call stage (old_of sound.state.set ask)) does.leads)
