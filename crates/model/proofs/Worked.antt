-- The definitions at a worked run, and at histories that they refuse.
use Rattle.model.proofs.Names.{Acted, Answer, Begun, Event, Finished, HandedOut, IsLegal, List, None}
use Rattle.model.proofs.Names.{Number, Open, PoppedIndex, PoppedNone, Published, PushIndex, Queues, Some, Stands, Truth}
use Rattle.model.proofs.Names.{Turn, [], arith, bounded_list, false, length, moments, one_word, progress_in, promise_of}
use Rattle.model.proofs.Names.{refl, true, waiting, ℕ, ◌++◌, ◌∷◌, ◌≡◌}
use Rattle.model.specs.declared.event.Item.TheVariants.{Index}
use Rattle.model.specs.declared.families.Registry.TheVariants as registries
use Rattle.model.specs.declared.families.queues.QueueStart.TheVariants.{AcquireProducer, Pop, Len}
use Rattle.model.specs.declared.families.queues.QueueKind.TheVariants as kinds
use Rattle.model.specs.declared.turn.Kind.TheVariants.{IndexQueue, Overflow}
use Rattle.model.specs.Families.Queues.Book.{AnswersRight}
use Rattle.model.specs.Families.Queues.Lengths.{TellsLength}
use Rattle.model.specs.Families.Queues.Objects.{overflowing_list}
use Rattle.model.specs.Families.Queues.Roles.{GrantsRight, KeepsHolders}
use Rattle.model.specs.Families.Queues.Promises.{wrote}
use Rattle.model.specs.Reading.{acts}
use Rattle.model.proofs.Moments.{so_since}
use Rattle.model.proofs.Runs.{nexts, begins, roles, roles_told, ran}

-- a push stops before it publishes, a pop answers None, and then the push goes on
abbrev turns : List (Turn ℕ)
turns =
    roles
    ++ (begins 0 (Queues (PushIndex 5)) 3 ++ (begins 1 (Queues Pop) 3 ++ nexts 0 1))

-- The events of `turns`, up to the end of the push.
abbrev told : List (Event ℕ)
told =
    roles_told
    ++ Begun 0 (Queues (PushIndex 5))
    ∷ Begun 1 (Queues Pop)
    ∷ Acted 1 (Queues Pop) PoppedNone
    ∷ Finished 1 (Queues Pop) PoppedNone
    ∷ Published 0 (Index 5)
    ∷ Acted 0 (Queues (PushIndex 5)) (Truth true)
    ∷ Finished 0 (Queues (PushIndex 5)) (Truth true)
    ∷ []

-- The events that the machine writes in `turns` are those of `told`.
pub stopped_push : (ran one_word IndexQueue 1 2 turns).events ≡ told
stopped_push = refl

-- After `turns` the write position is 1, the read position 0, both roles are taken, and the cell
-- holds the pushed 5.
pub stopped_push_words : (ran one_word IndexQueue 1 2 turns).world.words ≡ 1 ∷ 0 ∷ 0 ∷ 0 ∷ 5 ∷ []
stopped_push_words = refl

-- After `turns` the one value that waits is the pushed 5.
pub one_waits : waiting told ≡ Index 5 ∷ []
one_waits = refl

-- The pop acts before the push, on an empty list, so it rightly answers that there is none.
pub pop_before_push : IsLegal (bounded_list 1) (moments told)
pop_before_push = refl

-- a length loads both positions, a push moves one, and the length begins again
abbrev length_turns : List (Turn ℕ)
length_turns =
    begins 0 (Queues AcquireProducer) 1
    ++ (begins 1 (Queues Len) 2 ++ (begins 0 (Queues (PushIndex 5)) 4 ++ nexts 1 5))

-- The events of `length_turns`.
abbrev length_told : List (Event ℕ)
length_told =
    Begun 0 (Queues AcquireProducer)
    ∷ Finished 0 (Queues AcquireProducer) (Truth true)
    ∷ Begun 1 (Queues Len)
    ∷ Begun 0 (Queues (PushIndex 5))
    ∷ Published 0 (Index 5)
    ∷ Acted 0 (Queues (PushIndex 5)) (Truth true)
    ∷ Finished 0 (Queues (PushIndex 5)) (Truth true)
    ∷ []

-- The length, which began before the push, answers 1.
pub length_again : (ran one_word IndexQueue 1 2 length_turns).events ≡ length_told ++ Finished 1 (Queues Len) (Number 1) ∷ []
length_again = refl

-- The length has taken 7 steps and begun again once, while the push changed words twice.
pub length_counts : progress_in (ran one_word IndexQueue 1 2 length_turns).world 1 ≡ Some (record { steps = 7; backs = 1; others = 2; finished = true })
length_counts = refl

-- The answer 1 of the length is right: at the end of `length_told` one value waits.
pub one_waited : TellsLength 1 length_told (Finished 1 (Queues Len) (Number 1))
one_waited = record { part = length_told; rest = []; is = refl; within = tt; held = refl }

-- 0 would be right as well, since nothing waited as the call began
pub none_waited : TellsLength 1 length_told (Finished 1 (Queues Len) (Number 0))
none_waited =
    record {
      part = Begun 0 (Queues AcquireProducer) ∷ Finished 0 (Queues AcquireProducer) (Truth true) ∷ Begun 1 (Queues Len) ∷ [];
      rest =
          Begun 0 (Queues (PushIndex 5))
          ∷ Published 0 (Index 5)
          ∷ Acted 0 (Queues (PushIndex 5)) (Truth true)
          ∷ Finished 0 (Queues (PushIndex 5)) (Truth true)
          ∷ [];
      is = refl;
      within = ((λ e. cc), tt);
      held = refl;
    }

-- ---- an overflowing queue

-- Party 0 takes the producer's role, party 1 the consumer's, and 1 is pushed into a queue of capacity 1.
abbrev holding_one : List (Turn ℕ)
holding_one = roles ++ begins 0 (Queues (PushIndex 1)) 4

-- The events of `holding_one`.
abbrev holding_one_told : List (Event ℕ)
holding_one_told =
    roles_told
    ++ Begun 0 (Queues (PushIndex 1))
    ∷ Published 0 (Index 1)
    ∷ Acted 0 (Queues (PushIndex 1)) PoppedNone
    ∷ Finished 0 (Queues (PushIndex 1)) PoppedNone
    ∷ []

-- a push has published over the full queue, a length counts both values, and a pop makes the push act
abbrev room_turns : List (Turn ℕ)
room_turns =
    begins 0 (Queues (PushIndex 2)) 4
    ++ (begins 2 (Queues Len) 4 ++ (begins 1 (Queues Pop) 4 ++ nexts 0 1))

-- The events of `room_turns`: the push acts as the pop makes room.
abbrev room_told : List (Event ℕ)
room_told =
    Begun 0 (Queues (PushIndex 2))
    ∷ Published 0 (Index 2)
    ∷ Begun 2 (Queues Len)
    ∷ Finished 2 (Queues Len) (Number 2)
    ∷ Begun 1 (Queues Pop)
    ∷ HandedOut 1 (Index 1)
    ∷ Acted 1 (Queues Pop) (PoppedIndex 1)
    ∷ Acted 0 (Queues (PushIndex 2)) PoppedNone
    ∷ Finished 1 (Queues Pop) (PoppedIndex 1)
    ∷ Finished 0 (Queues (PushIndex 2)) PoppedNone
    ∷ []

-- In `holding_one` and then `room_turns` the machine writes `holding_one_told` and then `room_told`.
pub pop_makes_room : (ran one_word Overflow 1 3 (holding_one ++ room_turns)).events ≡ holding_one_told ++ room_told
pop_makes_room = refl

-- The answers are those of an overflowing list of capacity 1.
pub room_is_legal : IsLegal (overflowing_list 1) (moments (holding_one_told ++ room_told))
room_is_legal = refl

-- a pop has loaded the cell, a push takes that value out, and the pop reads again
abbrev again_turns : List (Turn ℕ)
again_turns = begins 1 (Queues Pop) 3 ++ (begins 0 (Queues (PushIndex 2)) 6 ++ nexts 1 3)

-- The events of `again_turns`: the push has taken out what the pop had read.
abbrev again_told : List (Event ℕ)
again_told =
    Begun 1 (Queues Pop)
    ∷ Begun 0 (Queues (PushIndex 2))
    ∷ Published 0 (Index 2)
    ∷ HandedOut 0 (Index 1)
    ∷ Acted 0 (Queues (PushIndex 2)) (PoppedIndex 1)
    ∷ Finished 0 (Queues (PushIndex 2)) (PoppedIndex 1)
    ∷ HandedOut 1 (Index 2)
    ∷ Acted 1 (Queues Pop) (PoppedIndex 2)
    ∷ Finished 1 (Queues Pop) (PoppedIndex 2)
    ∷ []

-- In `holding_one` and then `again_turns` the machine writes `holding_one_told` and then `again_told`.
pub pop_reads_again : (ran one_word Overflow 1 3 (holding_one ++ again_turns)).events ≡ holding_one_told ++ again_told
pop_reads_again = refl

-- The pop has taken 6 steps and begun its loop once again, while others changed words three times.
pub pop_counts : progress_in (ran one_word Overflow 1 3 (holding_one ++ again_turns)).world 1
    ≡ Some (record { steps = 6; backs = 1; others = 3; finished = true })
pop_counts = refl

-- The answers are those of an overflowing list of capacity 1.
pub again_is_legal : IsLegal (overflowing_list 1) (moments (holding_one_told ++ again_told))
again_is_legal = refl

-- ---- what is refused

-- a pop that answers the value that a push took out
pub no_stale_pop : IsLegal {T = ℕ} (overflowing_list 1)
    ((Queues (PushIndex 1), PoppedNone) ∷ (Queues (PushIndex 2), PoppedIndex 1) ∷ (Queues Pop, PoppedIndex 1) ∷ [])
    → ⊥
no_stale_pop legal = cc

-- a push that acts at its end, after a pop of the next value
pub no_late_push : IsLegal {T = ℕ} (overflowing_list 1)
    ((Queues (PushIndex 1), PoppedNone) ∷ (Queues Pop, PoppedIndex 2) ∷ (Queues (PushIndex 2), PoppedIndex 1) ∷ [])
    → ⊥
no_late_push legal = cc

-- a push that hands a value out of a bounded queue
pub no_bounded_push_hands_out : Stands {T = ℕ} (promise_of IndexQueue) 1 (HandedOut 0 (Index 5)) (Open (Queues (PushIndex 5)) []) → ⊥
no_bounded_push_hands_out stands = let h : Queues (PushIndex 5) ≡ Queues Pop = stands.0 in cc

-- a push that an overflowing queue loses, and one that it publishes without a place for it
pub no_lost_overflow : wrote {T = ℕ} kinds.Overflow 1 (Queues (PushIndex 5)) PoppedNone (Acted 0 (Queues (PushIndex 5)) PoppedNone ∷ []) → ⊥
no_lost_overflow wrote = let p = wrote.published in cc

-- In an overflowing queue without capacity a push does not publish its value, which it hands back.
pub no_place : wrote {T = ℕ} kinds.Overflow 0 (Queues (PushIndex 5)) (PoppedIndex 5)
    (Published 0 (Index 5) ∷ Acted 0 (Queues (PushIndex 5)) (PoppedIndex 5) ∷ [])
    → ⊥
no_place wrote = let p = wrote.published in cc

-- a push that hands back the newest value
pub no_newest : IsLegal {T = ℕ} (overflowing_list 1) ((Queues (PushIndex 1), PoppedNone) ∷ (Queues (PushIndex 2), PoppedIndex 2) ∷ []) → ⊥
no_newest legal = cc

-- a pop of a value that nobody pushed
pub no_invention : IsLegal {T = ℕ} (bounded_list 1) ((Queues Pop, PoppedIndex 5) ∷ []) → ⊥
no_invention legal = cc

-- a push that is refused by an empty list
pub no_excuse : IsLegal {T = ℕ} (bounded_list 1) ((Queues (PushIndex 5), Truth false) ∷ []) → ⊥
no_excuse legal = cc

-- a call that acts a second time
pub no_second_act : Stands {T = ℕ} (promise_of IndexQueue) 1 (Acted 0 (Queues Pop) PoppedNone) (Open (Queues Pop) (Acted 0 (Queues Pop) PoppedNone ∷ [])) → ⊥
no_second_act = grind (arith, acts)

-- a call that ends without having acted
pub no_silent_end : Stands {T = ℕ} (promise_of IndexQueue) 1 (Finished 0 (Queues Pop) PoppedNone) (Open (Queues Pop) []) → ⊥
no_silent_end stands = let h = stands.1 in let m = h.moments in cc

-- a push that answers true and publishes nothing
pub no_lost_push : wrote {T = ℕ} kinds.IndexQueue 1 (Queues (PushIndex 5)) (Truth true) (Acted 0 (Queues (PushIndex 5)) (Truth true) ∷ []) → ⊥
no_lost_push wrote = let p = wrote.published in cc

-- a pop that answers None while a value waits
pub no_blind_pop : AnswersRight 1 told (Acted 1 (Queues Pop) PoppedNone) → ⊥
no_blind_pop right = cc

-- a length of a moment before the call began
abbrev earlier : List (Event ℕ)
earlier = Published 0 (Index 5) ∷ HandedOut 0 (Index 5) ∷ Begun 1 (Queues Len) ∷ []

-- The answer that one value waits.
abbrev one : Answer ℕ
one = Number 1

-- One value waits after these events.
abbrev IsOne : List (Event ℕ) → Type 0
IsOne part = one ≡ Number (length (waiting part))

-- This length may not answer that one value waits: at the one moment of the call, its begin, none waits.
pub no_length_from_before : TellsLength 1 earlier (Finished 1 (Queues Len) (Number 1)) → ⊥
no_length_from_before = so_since 1 (Queues Len) IsOne (Published 0 (Index 5) ∷ HandedOut 0 (Index 5) ∷ []) [] (λ is. cc)

-- a role for two
pub no_second_holder : GrantsRight {T = ℕ} (Finished 0 (Queues AcquireProducer) (Truth true) ∷ []) (Finished 1 (Queues AcquireProducer) (Truth true)) → ⊥
no_second_holder right = cc

-- a role for nobody
pub no_lost_role : GrantsRight {T = ℕ} [] (Finished 0 (Queues AcquireProducer) (Truth false)) → ⊥
no_lost_role right = cc

-- a machine that forgets who has acquired the role
pub no_forgotten_holder : KeepsHolders {T = ℕ}
    (registries.Queues (record { producer = None; consumer = None }))
    (Finished 0 (Queues AcquireProducer) (Truth true) ∷ [])
    → ⊥
no_forgotten_holder kept = let lost = kept.0 in cc
