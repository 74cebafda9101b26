-- What a step of a call writes down has no begin and no end of a call. The end of the call itself
-- is added behind that.
use Rattle.std.proofs.Common.{◌≡◌, ℕ, ◌+◌, ◌≤◌, Option, List, [], ◌∷◌, ◌++◌, map, refl, arith}
use Rattle.std.specs.List.{sum_by}
use Rattle.std.proofs.lemmas.List.Sums.{sum_by-append, sum_by-le-sum_by}
use Rattle.steps.specs.declared.container.state.ContainerState.{ContainerState}
use Rattle.model.specs.declared.event.Answer.{Answer}
use Rattle.model.specs.declared.event.Event.{Event}
use Rattle.model.specs.declared.event.Event.TheVariants.{Cleared}
use Rattle.model.specs.declared.event.Start.{Start}
use Rattle.model.specs.declared.families.Flight.{Flight}
use Rattle.model.specs.declared.families.Registry.{Registry}
use Rattle.model.specs.declared.families.atomic.AtomicStart.{AtomicStart}
use Rattle.model.specs.declared.families.bits.calls.BitsFlight.{BitsFlight}
use Rattle.model.specs.declared.families.container.calls.ContainerFlight.{ContainerFlight}
use Rattle.model.specs.declared.families.loan.effects.Effect as loan_effects
use Rattle.model.specs.declared.families.queues.QueueStart.{QueueStart}
use Rattle.model.specs.declared.families.queues.effects.Effect.{Effect}
use Rattle.model.specs.declared.families.indices.robust.calls.RobustFlight.{RobustFlight}
use Rattle.model.specs.Coding.{Coding}
use Rattle.model.specs.Families.{step_of}
use Rattle.model.specs.LockFree.{end_of, ends}
use Rattle.model.specs.Loads.{begun_of, begun}
use Rattle.model.specs.Families.Atomic.Steps as atomic
use Rattle.model.specs.Families.Bits.Steps as bits
use Rattle.model.specs.Families.Container.Steps as container
use Rattle.model.specs.Families.Indices.Steps as indices
use Rattle.model.specs.Families.Indices.Robust.Steps as robust
use Rattle.model.specs.Families.Loan.Steps as loan
use Rattle.model.specs.Families.Queues.Steps as queues

module _ {T : Type 0} where
  abbrev edge_of : Event T → ℕ
  edge_of e = begun_of e + end_of e

  -- How many events of the list begin or end a call.
  abbrev edges : List (Event T) → ℕ
  edges events = sum_by edge_of events

  end_in : (e : Event T) → end_of e ≤ edge_of e
  end_in = omega arith

  begin_in : (e : Event T) → begun_of e ≤ edge_of e
  begin_in = omega arith

module _ (T : Type 0) where
  queue_writes : (p : ℕ) (start : QueueStart T) (effect : Effect T) (outcome : Option (Answer T)) → edges (queues.effects_of p start effect outcome) ≡ 0
  queue_writes = grind arith

  atomic_writes : (p : ℕ) (start : AtomicStart T) (outcome : Option (Answer T)) → edges (atomic.acted p start outcome) ≡ 0
  atomic_writes = grind arith

  cleared : (p : ℕ) (places : List ℕ) → edges {T = T} (map (λ bit. Cleared p bit) places) ≡ 0
  cleared p [] = refl
  cleared p (x ∷ xs) = cleared p xs

  bits_writes : (p : ℕ) (flight : BitsFlight) (old : ℕ) → edges {T = T} (bits.effects_of p flight old) ≡ 0
  bits_writes = grind (arith, cleared)

  index_writes : (p : ℕ) (frees : Option ℕ) (outcome : Option (Answer T)) → edges (indices.effects p frees outcome) ≡ 0
  index_writes = grind arith

  robust_writes : (p : ℕ) (flight : RobustFlight) (old : ℕ) → edges {T = T} (robust.effects p flight old) ≡ 0
  robust_writes = grind arith

  container_effects : (code : Coding T) (p : ℕ) (state : Option (ContainerState T)) (flight : ContainerFlight T) (old : ℕ)
      → edges (container.effects code p state flight old) ≡ 0
  container_effects = grind arith

  container_questions : (p : ℕ) (flight : ContainerFlight T) (old : ℕ) → edges (container.questions p flight old) ≡ 0
  container_questions = grind arith

  loan_writes : (p : ℕ) (effect : loan_effects.Effect) (outcome : Option (Answer T)) → edges (loan.effects_of p effect outcome) ≡ 0
  loan_writes = grind arith

  -- a step of a container writes neither a beginning nor an end of a call
  container_writes : (code : Coding T) (p : ℕ) (state : Option (ContainerState T)) (flight : ContainerFlight T) (old : ℕ)
      → edges (container.effects code p state flight old ++ container.questions p flight old) ≡ 0
  container_writes code p state flight old =
      let more = sum_by-append edge_of (container.effects code p state flight old) (container.questions p flight old) in
      let one = container_effects code p state flight old in
      let two = container_questions p flight old in
      rw (more, one, two) refl

  -- A step of a call of any family writes no begin and no end of a call.
  no_edge : (code : Coding T) (words : List ℕ) (beside : Option (ℕ × ℕ)) (p : ℕ) (start : Start T) (flight : Flight T) (old : ℕ) (kept : Registry T)
      → edges (step_of code words beside p start flight old kept).wrote ≡ 0
  no_edge =
      grind (arith, queue_writes, atomic_writes, bits_writes, index_writes, robust_writes, container_writes, loan_writes)

  -- The call `start` of party `p` takes a step: it stands at `flight`, and its operation is answered `old`.
  module _ (code : Coding T) (words : List ℕ) (beside : Option (ℕ × ℕ)) (p : ℕ) (start : Start T) (flight : Flight T) (old : ℕ) (kept : Registry T) where
    -- What a step of the call writes down.
    abbrev wrote : List (Event T)
    wrote = (step_of code words beside p start flight old kept).wrote

    pub writes_no_end : ends wrote ≡ 0
    writes_no_end = omega (arith, no_edge code words beside p start flight old kept, sum_by-le-sum_by end_of edge_of wrote end_in)

    pub writes_no_begin : begun wrote ≡ 0
    writes_no_begin = omega (arith, no_edge code words beside p start flight old kept, sum_by-le-sum_by begun_of edge_of wrote begin_in)
