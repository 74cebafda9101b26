-- The definitions at a worked run of the queue of values, whose numbers have two words, the high one first, and at
-- histories that they refuse.
use Rattle.model.proofs.Names.{Acted, Begun, Event, Finished, HandedOut, IsLegal, List, Number, PoppedNone, Published}
use Rattle.model.proofs.Names.{Queues, Truth, Turn, [], bounded_list, moments, refl, true, ℕ, ◌++◌, ◌∷◌, ◌≡◌}
use Rattle.model.specs.declared.event.Item.TheVariants.{Value}
use Rattle.model.specs.declared.event.Answer.TheVariants.{Popped}
use Rattle.model.specs.declared.families.queues.QueueStart.TheVariants.{Push, Pop, Len}
use Rattle.model.specs.declared.families.queues.QueueKind.TheVariants.{Queue}
use Rattle.model.specs.declared.turn.Kind.TheVariants as any_kinds
use Rattle.model.specs.Families.Queues.Book.{waiting_in, IsBook}
use Rattle.model.proofs.Runs.{two_words, nexts, begins, roles, roles_told, ran}

-- a push stops inside its cell, a pop answers None, the push goes on, and a length counts it
abbrev turns : List (Turn ℕ)
turns =
    roles
    ++ (begins 0 (Queues (Push 18446744073709551618)) 4
    ++ (begins 1 (Queues Pop) 2 ++ (nexts 0 1 ++ begins 0 (Queues Len) 4)))

-- The events of `turns`, up to the length that counts the value.
abbrev told : List (Event ℕ)
told =
    roles_told
    ++ Begun 0 (Queues (Push 18446744073709551618))
    ∷ Begun 1 (Queues Pop)
    ∷ Acted 1 (Queues Pop) PoppedNone
    ∷ Finished 1 (Queues Pop) PoppedNone
    ∷ Published 0 (Value 18446744073709551618)
    ∷ Acted 0 (Queues (Push 18446744073709551618)) (Truth true)
    ∷ Finished 0 (Queues (Push 18446744073709551618)) (Truth true)
    ∷ Begun 0 (Queues Len)
    ∷ Finished 0 (Queues Len) (Number 1)
    ∷ []

pub stopped_in_a_cell : (ran two_words any_kinds.Queue 1 2 turns).events ≡ told
stopped_in_a_cell = refl

pub stopped_words : (ran two_words any_kinds.Queue 1 2 turns).world.words ≡ 1 ∷ 0 ∷ 0 ∷ 0 ∷ 1 ∷ 2 ∷ []
stopped_words = refl

pub value_waits : waiting_in two_words Queue 1 (1 ∷ 0 ∷ 0 ∷ 0 ∷ 1 ∷ 2 ∷ []) ≡ Value 18446744073709551618 ∷ []
value_waits = refl

pub none_before_push : IsLegal (bounded_list 1) (moments told)
none_before_push = refl

-- the pop that comes then reads both words
abbrev pop_turns : List (Turn ℕ)
pop_turns = begins 1 (Queues Pop) 5

-- the events of the pop
abbrev pop_told : List (Event ℕ)
pop_told =
    Begun 1 (Queues Pop)
    ∷ HandedOut 1 (Value 18446744073709551618)
    ∷ Acted 1 (Queues Pop) (Popped 18446744073709551618)
    ∷ Finished 1 (Queues Pop) (Popped 18446744073709551618)
    ∷ []

pub pop_reads_both : (ran two_words any_kinds.Queue 1 2 (turns ++ pop_turns)).events ≡ told ++ pop_told
pop_reads_both = refl

-- ---- what they refuse

-- a pop that hands its value out before it moves the read position
pub no_early_pop : IsBook two_words Queue (record {
  world = (ran two_words any_kinds.Queue 1 2 turns).world;
  events = told ++ Begun 1 (Queues Pop) ∷ HandedOut 1 (Value 18446744073709551618) ∷ [];
}) → ⊥
no_early_pop book = let read = book.read in cc

-- a push that publishes before it moves the write position
abbrev half_pushed : List (Turn ℕ)
half_pushed = roles ++ begins 0 (Queues (Push 18446744073709551618)) 3

-- A history is refused in which a push has published its value, while the write position in the
-- words has not moved.
pub no_early_push : IsBook two_words Queue (record {
  world = (ran two_words any_kinds.Queue 1 2 half_pushed).world;
  events = roles_told ++ Begun 0 (Queues (Push 18446744073709551618)) ∷ Published 0 (Value 18446744073709551618) ∷ [];
}) → ⊥
no_early_push book = let write = book.write in cc
