-- For each field of what `headline` says of queues and of the single value a run that this field refuses here.
use Rattle.std.proofs.Common.{◌≡◌, ⊎_elim, ℕ, true, false, List, [], ◌∷◌, ◌++◌, refl}
use Rattle.std.specs.List.{flat_map}
use Rattle.model.specs.declared.event.Answer.TheVariants.{Truth, PoppedNone, Loaded}
use Rattle.model.specs.declared.event.Event.{Event}
use Rattle.model.specs.declared.event.Event.TheVariants.{Begun, Published, Acted, Finished}
use Rattle.model.specs.declared.event.Item.TheVariants.{Index}
use Rattle.model.specs.declared.event.Start.TheVariants.{Atomic}
use Rattle.model.specs.declared.families.atomic.AtomicStart.TheVariants.{Load}
use Rattle.model.specs.declared.families.queues.QueueKind.TheVariants as queues
use Rattle.model.specs.Linearized.{as_list}
use Rattle.model.proofs.Readings.{no_more}
use Rattle.model.proofs.WorkedLinearizable.{no_lost_value}
use Rattle.headline.specs.Headline.{QueueRuns, ValueRuns}
use Rattle.headline.specs.Moments.{act_of, ActedOnce, ActAs}
use Rattle.wrong_runs.proofs.Machines.{same_begin}
use Rattle.wrong_runs.proofs.Queues.{queue, push, pop}
use Rattle.wrong_runs.proofs.Value.{value}

-- ---- the calls of one list

abbrev IsList : List (Event ℕ) → Type 0
IsList events = ActAs (as_list queues.IndexQueue 2) events

-- A push has ended with true, and no act of it is written.
abbrev unacted : List (Event ℕ)
unacted = Begun 0 (push 7) ∷ Finished 0 (push 7) (Truth true) ∷ []

-- a push of which no act is written has not acted since it began
pub acts_nowhere : (before since : List (Event ℕ)) → Begun 0 (push 7) ∷ [] ≡ before ++ Begun 0 (push 7) ∷ since
    → flat_map (act_of 0) since ≡ (push 7, Truth true) ∷ [] → ⊥
acts_nowhere [] since split once =
    let none : since ≡ [] = cc in
    cc (rw none at once)
acts_nowhere (e ∷ before) since split once = let more : [] ≡ before ++ Begun 0 (push 7) ∷ since = cc in no_more before (Begun 0 (push 7)) since more

-- a push ends, and has not acted
ends_unacted : IsList unacted → ⊥
ends_unacted list =
    let act = list.inside 0 (push 7) (Truth true) (Begun 0 (push 7) ∷ []) refl ([], refl) in acts_nowhere act.before act.since act.is act.once

-- a push acts after its party has begun another one
abbrev begun_again : List (Event ℕ)
begun_again = Begun 0 (push 7) ∷ Begun 0 (push 8) ∷ Acted 0 (push 7) (Truth true) ∷ []

-- A push that acts after its party has begun another one has not acted once within itself.
acts_late : ActedOnce 0 (push 7) (Truth true) begun_again → ⊥
acts_late act =
    let same =
    same_begin 0 (push 8) (push 7) (Begun 0 (push 7) ∷ []) (Acted 0 (push 7) (Truth true) ∷ []) act.before act.since act.is tt act.within in
    let name : push 8 ≡ push 7 = same.1 in
    cc

-- a push acts twice, and then stops
abbrev twice : List (Event ℕ)
twice = Acted 0 (push 7) (Truth true) ∷ Acted 0 (push 7) (Truth true) ∷ []

-- A push that acts twice is refused.
acts_twice : IsList (Begun 0 (push 7) ∷ twice) → ⊥
acts_twice list = ⊎_elim (λ none. cc) (λ one. cc (one.1)) (list.once 0 (push 7) [] twice [] refl tt)

-- a push says that an empty list is full
pub full_at_once : IsList (Acted 0 (push 7) (Truth false) ∷ []) → ⊥
full_at_once list = cc (list.answers)

-- a pop that begins after the end of a push does not find its value
abbrev too_late : List (Event ℕ)
too_late = Begun 0 (push 5) ∷ Finished 0 (push 5) (Truth true) ∷ Begun 1 pop ∷ Finished 1 pop PoppedNone ∷ []

-- A run in which a push has ended and a later pop answers None is not linearizable, so it is refused.
lost : ActAs (as_list queues.IndexQueue 1) too_late → ⊥
lost acts_as = no_lost_value acts_as.linearizable

-- ---- a queue

-- a push says that an empty queue is full
queue_full_at_once : QueueRuns queues.IndexQueue (queue (0 ∷ 0 ∷ 1 ∷ 1 ∷ 0 ∷ 0 ∷ []) (Acted 0 (push 7) (Truth false) ∷ [])) → ⊥
queue_full_at_once queue_runs = full_at_once queue_runs.list

-- another value stands in the cell than was published
other_cell : QueueRuns queues.IndexQueue (queue (1 ∷ 0 ∷ 1 ∷ 1 ∷ 8 ∷ 0 ∷ []) (Published 0 (Index 7) ∷ [])) → ⊥
other_cell queue_runs = cc (queue_runs.conserved)

-- ---- the single value

-- a load answers what nobody has stored
invents : ValueRuns (value (1 ∷ 1 ∷ 0 ∷ 0 ∷ []) (Acted 0 (Atomic Load) (Loaded 5) ∷ [])) → ⊥
invents value_runs = cc (value_runs.value.answers)
