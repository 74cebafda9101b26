-- No step of a call writes that a call began or ended, but for its own end.
use Rattle.std.proofs.Common.{ℕ, ◌==◌, Bool, true, false, if◌then◌else◌, Option, Some, None, List, [], ◌∷◌, ◌++◌, map, arith}
use Rattle.model.specs.declared.event.Answer.{Answer}
use Rattle.model.specs.declared.event.Event.{Event}
use Rattle.model.specs.declared.event.Event.TheVariants.{Cleared}
use Rattle.model.specs.declared.event.Start.{Start}
use Rattle.model.specs.declared.families.Flight.{Flight}
use Rattle.model.specs.declared.families.Registry.{Registry}
use Rattle.model.specs.declared.families.atomic.AtomicStart.{AtomicStart}
use Rattle.model.specs.declared.families.bits.calls.BitsFlight.{BitsFlight}
use Rattle.model.specs.declared.families.bits.calls.BitsFlight.TheVariants.{Set, ResetNext, ResetAll, Count, TakeAll, IsSet, CountOf}
use Rattle.model.specs.declared.families.container.calls.ContainerFlight.{ContainerFlight}
use Rattle.model.specs.declared.families.container.calls.ContainerFlight.TheVariants.{Recover}
use Rattle.model.specs.declared.families.indices.robust.calls.RobustFlight.{RobustFlight}
use Rattle.model.specs.declared.families.loan.effects.Effect.{Effect as LoanEffect}
use Rattle.model.specs.declared.families.queues.QueueStart.{QueueStart}
use Rattle.model.specs.declared.families.queues.effects.Effect.{Effect}
use Rattle.model.specs.declared.families.queues.effects.Effect.TheVariants.{MakesRoom}
use Rattle.steps.specs.Bits.BitSet.{place_after}
use Rattle.steps.specs.Bits.Places.{places_in}
use Rattle.steps.specs.declared.bits.bit_set.SetStage.{SetStage}
use Rattle.steps.specs.declared.bits.bit_set.ResetNextStage.{ResetNextStage}
use Rattle.steps.specs.declared.bits.bit_set.ResetNextStage.TheVariants.{ExchangesElement}
use Rattle.steps.specs.declared.container.recover.DeadOwner.{DeadOwner}
use Rattle.steps.specs.declared.container.recover.RecoverStage.{RecoverStage}
use Rattle.steps.specs.declared.container.state.ContainerState.{ContainerState}
use Rattle.model.specs.Coding.{Coding}
use Rattle.model.specs.Families.{step_of}
use Rattle.model.specs.Families.Atomic.Steps as atomic
use Rattle.model.specs.Families.Bits.Steps as bits
use Rattle.model.specs.Families.Container.Steps as container
use Rattle.model.specs.Families.Indices.Steps as indices
use Rattle.model.specs.Families.Indices.Robust.Steps as robust
use Rattle.model.specs.Families.Loan.Steps as loan
use Rattle.model.specs.Families.Queues.Steps as queues
use Rattle.lock_free_sets.specs.Whole.{AllInside}

module _ (T : Type 0) where
  -- Of two lists the chosen one has no begin and no end if neither has.
  either : (b : Bool) (xs ys : List (Event T)) → AllInside xs → AllInside ys → AllInside (if b then xs else ys)
  either true xs ys left right = left
  either false xs ys left right = right

  -- Two lists without a begin or an end have none together.
  joined : (xs ys : List (Event T)) → AllInside xs → AllInside ys → AllInside (xs ++ ys)
  joined [] ys h r = r
  joined (x ∷ xs) ys h r = (h.0, joined xs ys h.1 r)

  -- The act of a queue's call is no begin and no end.
  of_acts : (p : ℕ) (start : QueueStart T) (o : Option (Answer T)) → AllInside (queues.acts_if_done p start o)
  of_acts p start None = tt
  of_acts p start (Some answer) = (tt, tt)

  -- No step of a call on a queue writes that a call began or ended.
  of_queue : (p : ℕ) (start : QueueStart T) (effect : Effect T) (o : Option (Answer T)) → AllInside (queues.effects_of p start effect o)
  of_queue p start (MakesRoom item q pushed) o = (tt, joined (queues.acts_if_done p start o) _ (of_acts p start o) (tt, tt))
  of_queue p start effect o = grind (arith, of_acts)

  -- No step of a call on a value writes that a call began or ended.
  of_value : (p : ℕ) (start : AtomicStart T) (o : Option (Answer T)) → AllInside (atomic.acted p start o)
  of_value p start o = grind arith

  -- Clears are neither begins nor ends.
  of_cleared : (p : ℕ) (places : List ℕ) → AllInside {T = T} (map (λ bit. Cleared p bit) places)
  of_cleared p [] = tt
  of_cleared p (x ∷ xs) = (tt, of_cleared p xs)

  -- No step of a set of a flag writes that a call began or ended.
  of_set : (p bit : ℕ) (stage : SetStage) (old : ℕ) → AllInside {T = T} (bits.set_events p bit stage old)
  of_set p bit stage old = grind (arith, either)

  -- No step of a `reset_next` writes that a call began or ended.
  of_reset : (p capacity : ℕ) (stage : ResetNextStage) (old : ℕ) → AllInside {T = T} (bits.reset_events p capacity stage old)
  of_reset p capacity (ExchangesElement start passed found) old =
      either (old == found) (Cleared p (place_after capacity start passed) ∷ []) [] (tt, tt) tt
  of_reset p capacity stage old = tt

  -- no step of a call on a bit set, or on a counting one, writes that a call began or ended
  of_bits : (p : ℕ) (flight : BitsFlight) (old : ℕ) → AllInside {T = T} (bits.effects_of p flight old)
  of_bits p (Set run) old = of_set p run.given run.call.stage old
  of_bits p (ResetNext run) old = of_reset p run.call.capacity run.call.stage old
  of_bits p (ResetAll run) old = of_cleared p (places_in run.call.word old)
  of_bits p (Count run) old = (tt, tt)
  of_bits p (IsSet run) old = tt
  of_bits p (CountOf run) old = tt
  of_bits p (TakeAll run) old = either (old == 0) [] _ tt (tt, tt)

  -- No step of a call on a unique index set writes that a call began or ended.
  of_indices : (p : ℕ) (index : Option ℕ) (o : Option (Answer T)) → AllInside {T = T} (indices.effects p index o)
  of_indices p index o = grind arith

  -- No step of a call on a robust index set writes that a call began or ended.
  of_robust : (p : ℕ) (flight : RobustFlight) (old : ℕ) → AllInside {T = T} (robust.effects p flight old)
  of_robust p flight old = grind arith

  -- No step of a call on a container writes that a call began or ended.
  of_container : (code : Coding T) (p : ℕ) (state : Option (ContainerState T)) (flight : ContainerFlight T) (old : ℕ)
      → AllInside (container.effects code p state flight old)
  of_container code p state flight old = grind arith

  -- No question of a recovery is a begin or an end.
  of_question : (p : ℕ) (given : DeadOwner) (stage : RecoverStage) (old : ℕ) → AllInside {T = T} (container.question_of p given stage old)
  of_question p given stage old = grind (arith, either)

  -- No question of a recovery of a container is a begin or an end.
  of_questions : (p : ℕ) (flight : ContainerFlight T) (old : ℕ) → AllInside (container.questions p flight old)
  of_questions p (Recover run) old = of_question p run.given run.call.stage old
  of_questions p flight old = tt

  -- No step of a call on a loan channel writes that a call began or ended.
  of_loan : (p : ℕ) (effect : LoanEffect) (o : Option (Answer T)) → AllInside {T = T} (loan.effects_of p effect o)
  of_loan p effect o = grind arith

  -- No step of a call of any structure writes that a call began or ended.
  pub step_inside : (code : Coding T) (words : List ℕ) (beside : Option (ℕ × ℕ)) (p : ℕ) (start : Start T) (flight : Flight T) (old : ℕ)
      (kept : Registry T) → AllInside (step_of code words beside p start flight old kept).wrote
  step_inside code words beside p start flight old kept =
      grind (arith, of_queue, of_value, of_bits, of_indices, of_robust, joined, of_container, of_questions, of_loan)
