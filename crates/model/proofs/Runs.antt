-- How the worked runs are written: from an opening, calls of parties, each with a number of turns.
use Rattle.model.proofs.Names.{Begin, Begun, Coding, Event, Finished, Kind, List, Next, Queues, Start, Trace, Truth}
use Rattle.model.proofs.Names.{Turn, [], opening, replicate, run, true, ℕ, ◌++◌, ◌∷◌}
use Rattle.steps.specs.Words.{words_of_u128, value_of_u128}
use Rattle.model.specs.declared.families.queues.QueueStart.TheVariants.{AcquireProducer, AcquireConsumer}
use Rattle.model.specs.Coding.{coding_of}

-- numbers of two words, the high one first
abbrev pub two_words : Coding ℕ
two_words = coding_of 2 words_of_u128 value_of_u128

-- The party's call goes on by this number of turns.
abbrev pub nexts : ℕ → ℕ → List (Turn ℕ)
nexts p count = replicate count (Next p)

-- The party's call begins and goes on by this number of turns.
abbrev pub begins : ℕ → Start ℕ → ℕ → List (Turn ℕ)
begins p start count = Begin p start ∷ nexts p count

-- the producer and the consumer of a queue
abbrev pub roles : List (Turn ℕ)
roles = begins 0 (Queues AcquireProducer) 1 ++ begins 1 (Queues AcquireConsumer) 1

-- the events of two parties that take the two roles of a queue
abbrev pub roles_told : List (Event ℕ)
roles_told =
    Begun 0 (Queues AcquireProducer)
    ∷ Finished 0 (Queues AcquireProducer) (Truth true)
    ∷ Begun 1 (Queues AcquireConsumer)
    ∷ Finished 1 (Queues AcquireConsumer) (Truth true)
    ∷ []

-- The machine and its events after these turns, from the opening.
abbrev pub ran : Coding ℕ → Kind → ℕ → ℕ → List (Turn ℕ) → Trace ℕ
ran code kind capacity parties turns = run turns (opening code kind capacity parties)
