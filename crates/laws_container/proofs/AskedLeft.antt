-- What a call of a container asks about after a step: a find or a recovery about the value that it has copied
-- in that step, and any other call, or after any other step, about nothing.
use Rattle.laws_container.proofs.Names.{◌≡◌, ℕ, ◌==◌, if◌then◌else◌, Option, Some, None, arith, After, GoOn}
use Rattle.laws_container.proofs.Names.{FindStage, RecoverStage, ContainerState, Answer, Flight, ContainerStart}
use Rattle.laws_container.proofs.Names.{ContainerFlight, Coding, first, after, question_in, read_in}
use Rattle.steps.specs.declared.ask.After.TheVariants.{Done}
use Rattle.steps.specs.declared.container.find.FindStage.TheVariants as finds
use Rattle.steps.specs.declared.container.recover.RecoverStage.TheVariants as recovers
use Rattle.model.specs.declared.families.Flight.TheVariants as flights
use Rattle.model.specs.declared.families.container.calls.ContainerFlight.TheVariants.{Find, Recover}
use Rattle.laws_container.proofs.Stages.{any_call}

module _ {T : Type 0} where
  -- the call that goes on, if it does not end
  abbrev pub call_in : After (Flight T) (Answer T) → Option (Flight T)
  call_in (GoOn flight) = Some flight
  call_in (Done answer) = None

module _ {T : Type 0} (code : Coding T) where
  -- ---- what a step makes it ask about

  -- what a find asks about after a step
  abbrev pub find_made : FindStage → T → ℕ → Option (ℕ × T)
  find_made (finds.ChecksCount index found count) value old = if old == count then Some (index, value) else None
  find_made stage value old = None

  -- what a recovery asks about after a step
  abbrev pub recover_made : RecoverStage → T → ℕ → Option (ℕ × T)
  recover_made (recovers.ChecksCount index count) value old = if old == count then Some (index, value) else None
  recover_made stage value old = None

  -- what any call asks about after a step
  abbrev pub made : ContainerFlight T → ℕ → Option (ℕ × T)
  made (Find run) old = find_made run.call.stage (read_in code run.room) old
  made (Recover run) old = recover_made run.call.stage (read_in code run.room) old
  made flight old = None

  -- what a call asks about after it has gone on
  abbrev pub left : After (ContainerFlight T) (Answer T) → Option (ℕ × T)
  left goes = question_in code (call_in (any_call goes))

  -- ---- any call

  -- a call asks after a step about what `made` says
  pub question_left : (o : Option (ContainerState T)) (flight : ContainerFlight T) (old : ℕ) → left (after code o flight old) ≡ made flight old
  question_left o flight old = grind arith

  -- a call that begins asks about nothing
  pub question_first : (c : ℕ) (start : ContainerStart T) → question_in code (Some (flights.Container (first c start))) ≡ None
  question_first c start = grind arith
