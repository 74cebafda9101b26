-- The looks of the queues and of the single value at worked runs, and what their definitions refuse.
use Rattle.model.proofs.Names.{Acted, Begun, Event, Finished, List, Number, PoppedIndex, PoppedNone, PushIndex, Queues, Some}
use Rattle.model.proofs.Names.{Truth, Turn, [], false, one_word, refl, true, ℕ, ◌++◌, ◌∷◌, ◌≡◌}
use Rattle.model.specs.declared.event.Event.TheVariants.{Published, HandedOut}
use Rattle.model.specs.declared.event.Item.TheVariants.{Index, Value}
use Rattle.model.specs.declared.event.Start.TheVariants.{Atomic}
use Rattle.model.specs.declared.event.Answer.TheVariants.{Done, Popped}
use Rattle.model.specs.declared.families.atomic.AtomicStart.TheVariants as values
use Rattle.model.specs.declared.families.queues.QueueStart.TheVariants.{AcquireProducer, ReleaseProducer, Push, Pop, Peek, HasProducer, HasConsumer}
use Rattle.model.specs.declared.turn.Kind.TheVariants as kinds
use Rattle.model.specs.declared.turn.Refusal.TheVariants.{WrongCall, NoRole}
use Rattle.model.specs.declared.turn.Turn.TheVariants.{Begin}
use Rattle.model.specs.Families.Atomic.Promises.{AnswersRight}
use Rattle.model.specs.Families.Queues.Lengths.{TellsLength}
use Rattle.model.specs.Families.Queues.Roles.{GrantsRight}
use Rattle.model.proofs.Names.{refusal_of}
use Rattle.model.proofs.Runs.{two_words, begins, roles, roles_told, ran}

-- a peek of an empty queue, a push, two peeks, and the pop of what both have seen
abbrev turns : List (Turn ℕ)
turns =
    roles
    ++ (begins 1 (Queues Peek) 2
    ++ (begins 0 (Queues (PushIndex 5)) 4 ++ (begins 1 (Queues Peek) 3 ++ (begins 1 (Queues Peek) 3 ++ begins 1 (Queues Pop) 4))))

-- The events of `turns`: both peeks answer the value that the pop then takes.
abbrev told : List (Event ℕ)
told =
    roles_told
    ++ Begun 1 (Queues Peek)
    ∷ Finished 1 (Queues Peek) PoppedNone
    ∷ Begun 0 (Queues (PushIndex 5))
    ∷ Published 0 (Index 5)
    ∷ Acted 0 (Queues (PushIndex 5)) (Truth true)
    ∷ Finished 0 (Queues (PushIndex 5)) (Truth true)
    ∷ Begun 1 (Queues Peek)
    ∷ Finished 1 (Queues Peek) (PoppedIndex 5)
    ∷ Begun 1 (Queues Peek)
    ∷ Finished 1 (Queues Peek) (PoppedIndex 5)
    ∷ Begun 1 (Queues Pop)
    ∷ HandedOut 1 (Index 5)
    ∷ Acted 1 (Queues Pop) (PoppedIndex 5)
    ∷ Finished 1 (Queues Pop) (PoppedIndex 5)
    ∷ []

-- The events that the machine writes in `turns` are those of `told`.
pub looked : (ran one_word kinds.IndexQueue 1 2 turns).events ≡ told
looked = refl

-- A value of two words, which a peek reads in four steps.
abbrev first : ℕ
first = 18446744073709551618

-- the peek answers the whole value that was pushed
pub looked_at_value : (ran two_words kinds.Queue 1 2 (roles ++ (begins 0 (Queues (Push first)) 5 ++ begins 1 (Queues Peek) 4))).events
    ≡ roles_told
    ++ Begun 0 (Queues (Push first))
    ∷ Published 0 (Value first)
    ∷ Acted 0 (Queues (Push first)) (Truth true)
    ∷ Finished 0 (Queues (Push first)) (Truth true)
    ∷ Begun 1 (Queues Peek)
    ∷ Finished 1 (Queues Peek) (Popped first)
    ∷ []
looked_at_value = refl

-- the roles: a look answers whether one is taken
abbrev role_turns : List (Turn ℕ)
role_turns =
    begins 1 (Queues HasProducer) 1
    ++ (begins 0 (Queues AcquireProducer) 1
    ++ (begins 1 (Queues HasProducer) 1
    ++ (begins 1 (Queues HasConsumer) 1 ++ (begins 0 (Queues ReleaseProducer) 1 ++ begins 1 (Queues HasProducer) 1))))

-- each look answers whether its role is taken at that moment
pub roles_looked : (ran one_word kinds.Overflow 1 2 role_turns).events
    ≡ Begun 1 (Queues HasProducer)
    ∷ Finished 1 (Queues HasProducer) (Truth false)
    ∷ Begun 0 (Queues AcquireProducer)
    ∷ Finished 0 (Queues AcquireProducer) (Truth true)
    ∷ Begun 1 (Queues HasProducer)
    ∷ Finished 1 (Queues HasProducer) (Truth true)
    ∷ Begun 1 (Queues HasConsumer)
    ∷ Finished 1 (Queues HasConsumer) (Truth false)
    ∷ Begun 0 (Queues ReleaseProducer)
    ∷ Finished 0 (Queues ReleaseProducer) Done
    ∷ Begun 1 (Queues HasProducer)
    ∷ Finished 1 (Queues HasProducer) (Truth false)
    ∷ []
roles_looked = refl

-- the single value: its version goes up with each store
abbrev version_turns : List (Turn ℕ)
version_turns =
    begins 1 (Atomic values.Version) 1
    ++ (begins 0 (Atomic values.AcquireProducer) 1
    ++ (begins 1 (Atomic values.HasProducer) 1
    ++ (begins 0 (Atomic (values.Store first)) 4 ++ begins 1 (Atomic values.Version) 1)))

-- The events of `version_turns`: the version before the store, and after it.
abbrev version_told : List (Event ℕ)
version_told =
    Begun 1 (Atomic values.Version)
    ∷ Finished 1 (Atomic values.Version) (Number 1)
    ∷ Begun 0 (Atomic values.AcquireProducer)
    ∷ Finished 0 (Atomic values.AcquireProducer) (Truth true)
    ∷ Begun 1 (Atomic values.HasProducer)
    ∷ Finished 1 (Atomic values.HasProducer) (Truth true)
    ∷ Begun 0 (Atomic (values.Store first))
    ∷ Acted 0 (Atomic (values.Store first)) (Truth true)
    ∷ Finished 0 (Atomic (values.Store first)) (Truth true)
    ∷ Begun 1 (Atomic values.Version)
    ∷ []

-- The second look at the version answers 2, one more than the number of stores.
pub version_looked : (ran two_words kinds.Atomic 1 2 version_turns).events
    ≡ version_told ++ Finished 1 (Atomic values.Version) (Number 2) ∷ []
version_looked = refl

-- ---- refusals of the machine

-- An overflowing queue has no call `Peek`.
pub no_peek_of_overflow : refusal_of (ran one_word kinds.Overflow 1 2 roles).world (Begin 1 (Queues Peek)) ≡ Some WrongCall
no_peek_of_overflow = refl

-- A party without the consumer's role may not peek.
pub peek_without_role : refusal_of (ran one_word kinds.IndexQueue 1 2 roles).world (Begin 0 (Queues Peek)) ≡ Some NoRole
peek_without_role = refl

-- ---- what the definitions refuse

-- two values wait
abbrev two_wait : List (Event ℕ)
two_wait = Published 0 (Index 5) ∷ Published 0 (Index 7) ∷ Begun 1 (Queues Peek) ∷ []

-- A peek that answers the newer of the two values that wait is refused.
pub no_peek_of_newest : TellsLength 2 two_wait (Finished 1 (Queues Peek) (PoppedIndex 7)) → ⊥
no_peek_of_newest = λ told. cc

-- A peek that answers that no value waits, while two do, is refused.
pub no_peek_of_none : TellsLength 2 two_wait (Finished 1 (Queues Peek) PoppedNone) → ⊥
no_peek_of_none = λ told. cc

-- Party 0 has the producer's role, and has begun to look whether somebody has it.
abbrev held : List (Event ℕ)
held = Finished 0 (Queues AcquireProducer) (Truth true) ∷ Begun 1 (Queues HasProducer) ∷ []

-- Party 0 has the producer's role, and a look that answers false is refused.
pub no_look_past_holder : GrantsRight held (Finished 1 (Queues HasProducer) (Truth false)) → ⊥
no_look_past_holder = λ told. cc

-- After a store the version is 2, and a look that answers 1 is refused.
pub no_version_without_store : AnswersRight two_words version_told (Finished 1 (Atomic values.Version) (Number 1)) → ⊥
no_version_without_store = λ told. cc
