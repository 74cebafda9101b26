-- `advance` (src/families.rt): its return meets the clause `step`.
use Rattle.std.proofs.Common.{ap, refl}
use Rattle.model.specs.Coding.{Coding}
use Rattle.model.specs.declared.event.Start.TheVariants as starts
use Rattle.model.specs.declared.families.Flight.TheVariants as flights
use Rattle.model.specs.declared.families.Registry.TheVariants as registries
use Rattle.model.specs.Families.Atomic.Steps as atomic_steps
use Rattle.model.specs.Families.Bits.Steps as bits_steps
use Rattle.model.specs.Families.Container.Steps as container_steps
use Rattle.model.specs.Families.Indices.Robust.Steps as robust_steps
use Rattle.model.specs.Families.Indices.Steps as index_steps
use Rattle.model.specs.Families.Loan.Steps as loan_steps
use Rattle.model.specs.Families.Queues.Steps as queue_steps
use Rattle.turns.proofs.Passed.{passed, rests}
use Rattle.turns.proofs.families.advance.Goals as goal
use Rattle.turns.proofs.families.advance.Goals.{in-Queues-Queues-Queues, in-Atomic-Atomic-Atomic, in-Bits-Bits-Nothing}
use Rattle.turns.proofs.families.advance.Goals.{in-Indices-Indices-Indices, in-Robust-Robust-Owners}
use Rattle.turns.proofs.families.advance.Goals.{in-Container-Container-Container, in-Loan-Loan-Loan, in_default}
use Rattle.turns.proofs.families.advance.Goals.{in_default-via-in-Queues+in-Queues+in_default}
use Rattle.turns.proofs.families.advance.Goals.{in_default-via-in-Queues+in_default}
use Rattle.turns.proofs.families.advance.Goals.{in_default-via-in-Atomic+in-Atomic+in_default}
use Rattle.turns.proofs.families.advance.Goals.{in_default-via-in-Atomic+in_default}
use Rattle.turns.proofs.families.advance.Goals.{in_default-via-in-Bits+in-Bits+in_default}
use Rattle.turns.proofs.families.advance.Goals.{in_default-via-in-Bits+in_default}
use Rattle.turns.proofs.families.advance.Goals.{in_default-via-in-Indices+in-Indices+in_default}
use Rattle.turns.proofs.families.advance.Goals.{in_default-via-in-Indices+in_default}
use Rattle.turns.proofs.families.advance.Goals.{in_default-via-in-Robust+in-Robust+in_default}
use Rattle.turns.proofs.families.advance.Goals.{in_default-via-in-Robust+in_default}
use Rattle.turns.proofs.families.advance.Goals.{in_default-via-in-Container+in-Container+in_default}
use Rattle.turns.proofs.families.advance.Goals.{in_default-via-in-Container+in_default}
use Rattle.turns.proofs.families.advance.Goals.{in_default-via-in-Loan+in-Loan+in_default}
use Rattle.turns.proofs.families.advance.Goals.{in_default-via-in-Loan+in_default}

-- for each family: what the call came to, what is kept and what was written is that of the step of a
-- machine's call, and a call whose name or whose kept things are of another family does nothing
pub returns-clause-step : goal.returns-clause-step
returns-clause-step g c =
    let code : Coding g.row.T.Denot = record { size = g.T.Words.WORDS; words_of = g.T.Words.words_of; value_of = g.T.Words.value_of } in
    let p = c.args.number in
    let old = c.args.answer in
    let words = c.args.words.now.items in
    let beside = c.args.beside in
    let start = c.args.start.now in
    let kept = c.args.kept.now in
    let rests_so = rests code words beside p old kept c.args.events.now.items in
    elim c.match-flight.branch [
      | in-Queues-Queues-Queues w ↦
          let a = w.in-Queues-Queues-Queues in
          let r = w.perform in
          rw (w.result-is, w.flight-is, w.kept-is, w.events-is, a.is-0, a.is-1, a.is-2)
          (passed flights.Queues registries.Queues (queue_steps.step code words beside p a.start a.call old a.roles)
          r.ensures.after r.ensures.back r.ensures.kept r.ensures.wrote)
      | in-Atomic-Atomic-Atomic w ↦
          let a = w.in-Atomic-Atomic-Atomic in
          let r = w.perform-in-Atomic-Atomic-Atomic in
          rw (w.result-is, w.flight-is, w.kept-is, w.events-is, a.is-0, a.is-1, a.is-2)
          (passed flights.Atomic registries.Atomic (atomic_steps.step code p a.start a.call old a.producer)
          r.ensures.after r.ensures.back r.ensures.kept r.ensures.wrote)
      | in-Bits-Bits-Nothing w ↦
          let a = w.in-Bits-Bits-Nothing in
          let r = w.perform-in-Bits-Bits-Nothing in
          rw (w.result-is, w.flight-is, w.kept-is, w.events-is, a.is-0, a.is-1, a.is-2)
          (passed flights.Bits (λ _. registries.Nothing) (bits_steps.step p a.call old)
          r.ensures.after r.ensures.back refl r.ensures.wrote)
      | in-Indices-Indices-Indices w ↦
          let a = w.in-Indices-Indices-Indices in
          let r = w.perform-in-Indices-Indices-Indices in
          rw (w.result-is, w.flight-is, w.kept-is, w.events-is, a.is-0, a.is-1, a.is-2)
          (passed flights.Indices registries.Indices (index_steps.step p a.call old a.holders)
          r.ensures.after r.ensures.back r.ensures.kept r.ensures.wrote)
      | in-Robust-Robust-Owners w ↦
          let a = w.in-Robust-Robust-Owners in
          let r = w.perform-in-Robust-Robust-Owners in
          rw (w.result-is, w.flight-is, w.kept-is, w.events-is, a.is-0, a.is-1, a.is-2)
          (passed flights.Robust registries.Owners (robust_steps.step p a.call old a.dead)
          r.ensures.after r.ensures.back r.ensures.kept r.ensures.wrote)
      | in-Container-Container-Container w ↦
          let a = w.in-Container-Container-Container in
          let r = w.perform-in-Container-Container-Container in
          rw (w.result-is, w.flight-is, w.kept-is, w.events-is, a.is-0, a.is-1, a.is-2)
          (passed flights.Container (λ kept. registries.Container kept.0 kept.1) (container_steps.step code p a.call old a.field-0-2 a.states)
          r.ensures.after r.ensures.back (ap (λ s. (a.field-0-2, s)) r.ensures.states) r.ensures.wrote)
      | in-Loan-Loan-Loan w ↦
          let a = w.in-Loan-Loan-Loan in
          let r = w.perform-in-Loan-Loan-Loan in
          rw (w.result-is, w.flight-is, w.kept-is, w.events-is, a.is-0, a.is-1, a.is-2)
          (passed flights.Loan registries.Loan (loan_steps.step words beside p a.start a.call old a.book)
          r.ensures.after r.ensures.back r.ensures.kept r.ensures.wrote)
      | in_default w ↦
          -- The name or what is kept is of another family than the call: nothing happens. Each family has two
          -- cases: what is kept is of another family, or the name is.
          elim w.in_default.branch [
            | in_default-via-in-Queues+in-Queues+in_default v ↦
                rw (w.result-is, w.flight-is, v.flight-is, w.kept-is, w.events-is, v.in_default.is-0, v.in_default.is-1)
                (rests_so (starts.Queues v.in_default.field-0-1) (flights.Queues v.in_default.field-0-0) (λ x y is. v.in_default.not-Queues-2 y))
            | in_default-via-in-Queues+in_default v ↦
                rw (w.result-is, w.flight-is, v.flight-is, w.kept-is, w.events-is, v.in_default.is-0)
                (rests_so start (flights.Queues v.in_default.field-0-0) (λ x y is is_kept. v.in_default.not-Queues-1 x is))
            | in_default-via-in-Atomic+in-Atomic+in_default v ↦
                rw (w.result-is, w.flight-is, v.flight-is, w.kept-is, w.events-is, v.in_default.is-0, v.in_default.is-1)
                (rests_so (starts.Atomic v.in_default.field-0-1) (flights.Atomic v.in_default.field-0-0) (λ x y is. v.in_default.not-Atomic-2 y))
            | in_default-via-in-Atomic+in_default v ↦
                rw (w.result-is, w.flight-is, v.flight-is, w.kept-is, w.events-is, v.in_default.is-0)
                (rests_so start (flights.Atomic v.in_default.field-0-0) (λ x y is is_kept. v.in_default.not-Atomic-1 x is))
            | in_default-via-in-Bits+in-Bits+in_default v ↦
                rw (w.result-is, w.flight-is, v.flight-is, w.kept-is, w.events-is, v.in_default.is-0, v.in_default.is-1)
                (rests_so (starts.Bits v.in_default.field-0-1) (flights.Bits v.in_default.field-0-0) (λ x is. v.in_default.not-Nothing-2))
            | in_default-via-in-Bits+in_default v ↦
                rw (w.result-is, w.flight-is, v.flight-is, w.kept-is, w.events-is, v.in_default.is-0)
                (rests_so start (flights.Bits v.in_default.field-0-0) (λ x is is_kept. v.in_default.not-Bits-1 x is))
            | in_default-via-in-Indices+in-Indices+in_default v ↦
                rw (w.result-is, w.flight-is, v.flight-is, w.kept-is, w.events-is, v.in_default.is-0, v.in_default.is-1)
                (rests_so (starts.Indices v.in_default.field-0-1) (flights.Indices v.in_default.field-0-0) (λ x y is. v.in_default.not-Indices-2 y))
            | in_default-via-in-Indices+in_default v ↦
                rw (w.result-is, w.flight-is, v.flight-is, w.kept-is, w.events-is, v.in_default.is-0)
                (rests_so start (flights.Indices v.in_default.field-0-0) (λ x y is is_kept. v.in_default.not-Indices-1 x is))
            | in_default-via-in-Robust+in-Robust+in_default v ↦
                rw (w.result-is, w.flight-is, v.flight-is, w.kept-is, w.events-is, v.in_default.is-0, v.in_default.is-1)
                (rests_so (starts.Robust v.in_default.field-0-1) (flights.Robust v.in_default.field-0-0) (λ x y is. v.in_default.not-Owners-2 y))
            | in_default-via-in-Robust+in_default v ↦
                rw (w.result-is, w.flight-is, v.flight-is, w.kept-is, w.events-is, v.in_default.is-0)
                (rests_so start (flights.Robust v.in_default.field-0-0) (λ x y is is_kept. v.in_default.not-Robust-1 x is))
            | in_default-via-in-Container+in-Container+in_default v ↦
                rw (w.result-is, w.flight-is, v.flight-is, w.kept-is, w.events-is, v.in_default.is-0, v.in_default.is-1)
                (rests_so (starts.Container v.in_default.field-0-1) (flights.Container v.in_default.field-0-0)
                (λ x dead states is. v.in_default.not-Container-2 dead states))
            | in_default-via-in-Container+in_default v ↦
                rw (w.result-is, w.flight-is, v.flight-is, w.kept-is, w.events-is, v.in_default.is-0)
                (rests_so start (flights.Container v.in_default.field-0-0) (λ x dead states is is_kept. v.in_default.not-Container-1 x is))
            | in_default-via-in-Loan+in-Loan+in_default v ↦
                rw (w.result-is, w.flight-is, v.flight-is, w.kept-is, w.events-is, v.in_default.is-0, v.in_default.is-1)
                (rests_so (starts.Loan v.in_default.field-0-1) (flights.Loan v.in_default.field-0-0) (λ x y is. v.in_default.not-Loan-2 y))
            | in_default-via-in-Loan+in_default v ↦
                rw (w.result-is, w.flight-is, v.flight-is, w.kept-is, w.events-is, v.in_default.is-0)
                (rests_so start (flights.Loan v.in_default.field-0-0) (λ x y is is_kept. v.in_default.not-Loan-1 x is))
          ]
    ]
