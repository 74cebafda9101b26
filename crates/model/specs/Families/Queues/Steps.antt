-- What a step of a queue's call does to the queue, and who acts there.
use Rattle.std.specs.Prelude.{ℕ, ◌==◌, ◌&&◌, true, not, Option, Some, None, option_map, List, [], ◌∷◌, ◌++◌, if◌then◌else◌, slice_index}
use Rattle.steps.specs.Queues.Ring.{distance}
use Rattle.steps.specs.Queues.Overflow.{cell_word}
use Rattle.steps.specs.declared.queues.ring.PushStage as pushes
use Rattle.steps.specs.declared.queues.ring.PopStage as pops
use Rattle.steps.specs.declared.queues.overflow.PushStage.{PushStage}
use Rattle.steps.specs.declared.queues.overflow.PushStage.TheVariants as overflow_pushes
use Rattle.steps.specs.declared.queues.overflow.PopStage.{PopStage}
use Rattle.steps.specs.declared.queues.overflow.PopStage.TheVariants as overflow_pops
use Rattle.model.specs.declared.event.Item.{Item}
use Rattle.model.specs.declared.event.Item.TheVariants.{Index, Value}
use Rattle.model.specs.declared.event.Start.TheVariants.{Queues}
use Rattle.model.specs.declared.event.Answer.{Answer}
use Rattle.model.specs.declared.event.Answer.TheVariants.{Truth, PoppedNone, PoppedIndex}
use Rattle.model.specs.declared.event.Event.{Event}
use Rattle.model.specs.declared.event.Event.TheVariants.{Published, HandedOut, Acted}
use Rattle.model.specs.declared.families.Flight.{Flight}
use Rattle.model.specs.declared.families.Flight.TheVariants as flights
use Rattle.model.specs.declared.families.queues.QueueStart.{QueueStart}
use Rattle.model.specs.declared.families.queues.QueueStart.TheVariants.{AcquireProducer, ReleaseProducer, AcquireConsumer, ReleaseConsumer, PushIndex}
use Rattle.model.specs.declared.families.queues.Roles.{Roles}
use Rattle.model.specs.declared.families.queues.calls.RingCall.TheVariants as rings
use Rattle.model.specs.declared.families.queues.calls.OverflowCall.TheVariants as overflows
use Rattle.model.specs.declared.families.queues.calls.QueueFlight.{QueueFlight}
use Rattle.model.specs.declared.families.queues.calls.QueueFlight.TheVariants.{Role, Indices, Values, Overflow, Length}
use Rattle.model.specs.declared.families.queues.effects.Effect.{Effect}
use Rattle.model.specs.declared.families.queues.effects.Effect.TheVariants.{Quiet, Acts, Publishes, PublishesAndActs, HandsOut, TakesOut, MakesRoom}
use Rattle.model.specs.declared.party.Party.{Party}
use Rattle.model.specs.Coding.{Coding}
use Rattle.model.specs.Families.Queues.Calls.{read_word, read_in, after, goes_back}
use Rattle.model.specs.Families.Queues.Opening.{holds}
use Rattle.model.specs.Parties.{party_of, doing_of, flight_of}
use Rattle.model.specs.Step.{Step, answer_in}

-- ---- a push that has published over a full queue, and acts once the read position goes on

-- the value of a push that is about to move the read position from this one
abbrev pub pending_from : (position value : ℕ) → PushStage → Option ℕ
pending_from position value (overflow_pushes.MovesRead read) =
    if read == position then Some value else None
pending_from position value other = None

module _ {T : Type 0} where
  -- the value of the call under way, if that is a push that is about to move the read position from this one
  abbrev pub pending_at : ℕ → Option (Flight T) → Option ℕ
  pending_at position
      (Some (flights.Queues (Overflow (overflows.Push run)))) =
      pending_from position run.given run.call.stage
  pending_at position other = None

  -- The party and the value of a push that is about to move the read position from this one. Only the
  -- holder of the producer's role pushes.
  abbrev pub pending : ℕ → Option ℕ → List (ℕ × Party T) → Option (ℕ × ℕ)
  pending position None latest = None
  pending position (Some p) latest =
      option_map (λ value. (p, value))
      (pending_at position (flight_of (doing_of (party_of p latest))))

  -- the push that acts where this party moves the read position, which the consumer alone can do by a pop
  abbrev pub beside : Roles → List ℕ → List (ℕ × Party T) → ℕ → Option (ℕ × ℕ)
  beside roles words latest p =
      if holds roles.consumer p
      then pending (slice_index words read_word) roles.producer latest
      else None

  -- ---- what the next step of a call does

  -- What the next step of a push on a bounded queue does. Its answer false is settled by the load of the
  -- read position, true by the store of the write position. A push that meets the last write position
  -- writes nothing down; no machine comes that far.
  abbrev pub push_effect : Item T → pushes.PushStage → Effect T
  push_effect item pushes.TheVariants.LoadsWrite = Quiet
  push_effect item (pushes.TheVariants.LoadsRead write) = Acts
  push_effect item (pushes.TheVariants.StoresCell write cell at) = Quiet
  push_effect item (pushes.TheVariants.StoresWrite write) = Publishes item

  -- What the next step of a pop on a bounded queue does. Its answer None is settled by the load of the
  -- write position, the value that it has read by the store of the read position.
  abbrev pub pop_effect : Item T → pops.PopStage → Effect T
  pop_effect item pops.TheVariants.LoadsRead = Quiet
  pop_effect item (pops.TheVariants.LoadsWrite read) = Acts
  pop_effect item (pops.TheVariants.LoadsCell read cell at) = Quiet
  pop_effect item (pops.TheVariants.StoresRead read) = HandsOut item

  -- What the next step of an overflowing push does. A push that publishes over a full queue acts only
  -- once the read position moves: by its own step, or by one of a pop. If the read position has moved
  -- before it publishes, there is room, and it acts as it publishes.
  abbrev pub overflow_push_effect : List ℕ → ℕ → Item T → PushStage → ℕ → Effect T
  overflow_push_effect words capacity item overflow_pushes.HandsBack old = Acts
  overflow_push_effect words capacity item overflow_pushes.LoadsWrite old = Quiet
  overflow_push_effect words capacity item (overflow_pushes.LoadsRead write) old = Quiet
  overflow_push_effect words capacity item (overflow_pushes.StoresCell write read) old =
      Quiet
  overflow_push_effect words capacity item
      (overflow_pushes.StoresWrite write read) old =
      if distance write read == capacity && not (slice_index words read_word == read)
      then PublishesAndActs item
      else Publishes item
  overflow_push_effect words capacity item (overflow_pushes.MovesRead read) old =
      if old == read then TakesOut (slice_index words (cell_word capacity read)) else Quiet
  overflow_push_effect words capacity item (overflow_pushes.LoadsCell read) old = Quiet

  -- What a pop does as it moves the read position: it hands an item out, and a push that waits for the
  -- read position acts right after it.
  abbrev pub takes_effect : Item T → Option (ℕ × ℕ) → Effect T
  takes_effect item None = HandsOut item
  takes_effect item (Some push) = MakesRoom item push.0 push.1

  -- What the next step of a pop of an overflowing queue does to the queue, where its word has this old value and `push`
  -- is the push that acts where the read position moves.
  abbrev pub overflow_pop_effect : List ℕ → Option (ℕ × ℕ) → ℕ
      → PopStage → ℕ → Effect T
  overflow_pop_effect words push capacity overflow_pops.FindsNone old = Acts
  overflow_pop_effect words push capacity overflow_pops.LoadsRead old = Quiet
  overflow_pop_effect words push capacity (overflow_pops.LoadsWrite read) old = Acts
  overflow_pop_effect words push capacity (overflow_pops.LoadsCell read) old = Quiet
  overflow_pop_effect words push capacity (overflow_pops.MovesRead read) old =
      if old == read
      then takes_effect (Index (slice_index words (cell_word capacity read))) push
      else Quiet

  -- what the next step of a queue's call does to the queue, where its word has this old value
  abbrev pub effect_of : Coding T → List ℕ → Option (ℕ × ℕ) → QueueFlight T → ℕ → Effect T
  effect_of code words push (Role call) old = Quiet
  effect_of code words push (Indices (rings.Push run)) old =
      push_effect (Index run.given) run.call.stage
  effect_of code words push (Indices (rings.Pop run)) old =
      pop_effect (Index run.room.0) run.call.stage
  effect_of code words push (Indices (rings.Peek run)) old = Quiet
  effect_of code words push (Values (rings.Push run)) old =
      push_effect (Value run.given) run.call.stage
  effect_of code words push (Values (rings.Pop run)) old =
      pop_effect (Value (read_in code run.room)) run.call.stage
  effect_of code words push (Values (rings.Peek run)) old = Quiet
  effect_of code words push (Overflow (overflows.Push run)) old =
      overflow_push_effect words run.call.capacity (Index run.given) run.call.stage old
  effect_of code words push (Overflow (overflows.Pop run)) old =
      overflow_pop_effect words push run.call.capacity run.call.stage old
  effect_of code words push (Length which run) old = Quiet

  -- ---- the events, where this is the answer of a call that is done

  -- the act of a call that has an answer
  abbrev pub acts_if_done : ℕ → QueueStart T → Option (Answer T) → List (Event T)
  acts_if_done p start None = []
  acts_if_done p start (Some answer) = Acted p (Queues start) answer ∷ []

  -- The events of what a step does to the queue, and then of the calls that act with it.
  abbrev pub effects_of : ℕ → QueueStart T → Effect T → Option (Answer T) → List (Event T)
  effects_of p start Quiet outcome = []
  effects_of p start Acts outcome = acts_if_done p start outcome
  effects_of p start (Publishes item) outcome = Published p item ∷ acts_if_done p start outcome
  effects_of p start (PublishesAndActs item) outcome =
      Published p item ∷ Acted p (Queues start) PoppedNone ∷ []
  effects_of p start (HandsOut item) outcome = HandedOut p item ∷ acts_if_done p start outcome
  effects_of p start (TakesOut index) outcome =
      HandedOut p (Index index) ∷ Acted p (Queues start) (PoppedIndex index) ∷ []
  effects_of p start (MakesRoom item q pushed) outcome =
      HandedOut p item
      ∷ (acts_if_done p start outcome ++ Acted q (Queues (PushIndex pushed)) PoppedNone ∷ [])

  -- ---- the roles: held from the end of an acquire that answers true to the end of the giving back

  -- who has the roles once a call has ended with this answer, or goes on
  abbrev pub roles_after : ℕ → QueueStart T → Option (Answer T) → Roles → Roles
  roles_after p AcquireProducer (Some (Truth true)) roles = record roles { producer = Some p }
  roles_after p ReleaseProducer (Some answer) roles = record roles { producer = None }
  roles_after p AcquireConsumer (Some (Truth true)) roles = record roles { consumer = Some p }
  roles_after p ReleaseConsumer (Some answer) roles = record roles { consumer = None }
  roles_after p start outcome roles = roles

  -- ---- all that a step comes to

  -- all that a step of a queue's call comes to, where its word has this old value
  abbrev pub step : Coding T → List ℕ → Option (ℕ × ℕ) → ℕ → QueueStart T → QueueFlight T → ℕ
      → Roles → Step (QueueFlight T) Roles T
  step code words waits p start flight old roles =
      record {
        after = after code flight old;
        back = goes_back flight old;
        wrote = effects_of p start (effect_of code words waits flight old)
            (answer_in (after code flight old));
        kept = roles_after p start (answer_in (after code flight old)) roles;
      }
