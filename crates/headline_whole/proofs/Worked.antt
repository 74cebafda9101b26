-- The definitions at worked runs: calls that run whole, the answers that they give, and runs and answers that are refused.
use Rattle.std.proofs.Common.{◌≡◌, ◌==◌, ℕ, Bool, true, false, Option, Some, None, option_map, List, [], ◌∷◌, ◌++◌, if◌then◌else◌, map, refl, sym}
use Rattle.std.specs.List.{filter}
use Rattle.std.proofs.Common.{ap, subst, ◌∙◌}
use Rattle.steps.specs.declared.ask.Question.{Question}
use Rattle.steps.specs.declared.ask.Question.TheVariants as questions
use Rattle.steps.specs.declared.container.enums.ContainerAddFailure.TheVariants as no_places
use Rattle.steps.specs.declared.indices.enums.ReleaseMode.TheVariants.{Default, LockIfLastIndex}
use Rattle.steps.specs.declared.indices.enums.ReleaseState.TheVariants.{Locked, Unlocked}
use Rattle.steps.specs.declared.indices.enums.UniqueIndexSetAcquireFailure.TheVariants as no_indices
use Rattle.model.specs.declared.event.Answer.{Answer}
use Rattle.model.specs.declared.event.Answer.TheVariants.{Done, Truth, Number, PoppedNone, PoppedIndex, Loaded}
use Rattle.model.specs.declared.event.Answer.TheVariants.{ResetNone, Reset, Index, NoIndex, State, NoPlace}
use Rattle.model.specs.declared.event.Event.{Event}
use Rattle.model.specs.declared.event.Event.TheVariants.{Begun, Finished}
use Rattle.model.specs.declared.event.Start.{Start}
use Rattle.model.specs.declared.event.Start.TheVariants.{Queues, Atomic, Bits, Indices, Robust, Container}
use Rattle.model.specs.declared.families.atomic.AtomicStart.TheVariants as values
use Rattle.model.specs.declared.families.bits.BitsStart.TheVariants as bits
use Rattle.model.specs.declared.families.container.ContainerStart.TheVariants as containers
use Rattle.model.specs.declared.families.indices.IndexStart.TheVariants.{Acquire, Release, IsLocked}
use Rattle.model.specs.declared.families.indices.robust.RobustStart.TheVariants as robust
use Rattle.model.specs.declared.families.queues.QueueKind.TheVariants as queues
use Rattle.model.specs.declared.families.queues.QueueStart.TheVariants.{AcquireProducer, PushIndex, Pop, Peek, HasProducer, Len, IsFull}
use Rattle.model.specs.declared.turn.Kind.TheVariants as kinds
use Rattle.model.specs.declared.turn.Kind.{Kind}
use Rattle.model.specs.declared.turn.Turn.{Turn}
use Rattle.model.specs.declared.turn.Turn.TheVariants.{Decide, Die}
use Rattle.model.specs.Coding.{one_word}
use Rattle.model.specs.Linearized.{is_store_or_load, as_value}
use Rattle.model.specs.Objects.{IsLegal}
use Rattle.model.specs.Reading.{Never, Open, ended, span_of}
use Rattle.model.specs.Shape.{IsShut}
use Rattle.model.specs.World.{opened, flight_in}
use Rattle.model.proofs.Readings.{SplitAt, Last, Earlier, split_last, no_more}
use Rattle.model.proofs.Runs.{begins, nexts, roles, ran}
use Rattle.plain.specs.States.{Snapshot, blank}
use Rattle.headline_whole.specs.Dialogues.{Request, Reply, RepliesAs, stands_after, story_on, is_end, as_end, AreFinished}
use Rattle.headline_whole.specs.Objects.{is_list_call, whole_list, is_places_call, whole_places, whole_counts, is_stack_call, whole_stack}
use Rattle.headline_whole.specs.Objects.{whole_owners, whole_map}
use Rattle.headline_whole.specs.States.{is_look, kept_view}
use Rattle.headline_whole.specs.Whole.{RunsWhole, answered, AnswersAs}

-- ---- a push and a pop at capacity 2, each whole

abbrev push_and_pop : List (Turn ℕ)
push_and_pop = roles ++ (begins 0 (Queues (PushIndex 7)) 4 ++ (begins 1 (Queues Pop) 4 ++ begins 1 (Queues Len) 4))

pushed_and_popped : answered is_list_call (ran one_word kinds.IndexQueue 2 2 push_and_pop).events
    ≡ (Queues (PushIndex 7), Truth true) ∷ (Queues Pop, PoppedIndex 7) ∷ (Queues Len, Number 0) ∷ []
pushed_and_popped = refl

as_a_list : AnswersAs (whole_list queues.IndexQueue 2) (ran one_word kinds.IndexQueue 2 2 push_and_pop).events
as_a_list = subst (λ (xs : List (Start ℕ × Answer ℕ)). IsLegal (whole_list queues.IndexQueue 2).object xs) (sym pushed_and_popped) refl

-- ---- a peek answers the oldest, and leaves it

-- two values are pushed between peeks, one is popped, and a last peek follows
abbrev peeked : List (Turn ℕ)
peeked =
    roles
    ++ (begins 1 (Queues Peek) 3
    ++ (begins 0 (Queues (PushIndex 7)) 4
    ++ (begins 0 (Queues (PushIndex 8)) 4
    ++ (begins 1 (Queues Peek) 3
    ++ (begins 1 (Queues HasProducer) 1 ++ (begins 1 (Queues Pop) 4 ++ begins 1 (Queues Peek) 3))))))

-- a peek answers None of an empty queue, and else what the next pop takes
told_the_oldest : answered is_list_call (ran one_word kinds.IndexQueue 2 2 peeked).events
    ≡ (Queues Peek, PoppedNone)
    ∷ (Queues (PushIndex 7), Truth true)
    ∷ (Queues (PushIndex 8), Truth true)
    ∷ (Queues Peek, PoppedIndex 7)
    ∷ (Queues Pop, PoppedIndex 7)
    ∷ (Queues Peek, PoppedIndex 8)
    ∷ []
told_the_oldest = refl

as_a_list_with_peeks : AnswersAs (whole_list queues.IndexQueue 2) (ran one_word kinds.IndexQueue 2 2 peeked).events
as_a_list_with_peeks = subst (λ (xs : List (Start ℕ × Answer ℕ)). IsLegal (whole_list queues.IndexQueue 2).object xs) (sym told_the_oldest) refl

-- ---- a list that is full refuses, and one that overflows hands its front back

-- two values are pushed into a list of one place, and two pops follow
abbrev past_full : List (Turn ℕ)
past_full =
    roles
    ++ (begins 0 (Queues (PushIndex 7)) 9
    ++ (begins 1 (Queues IsFull) 4
    ++ (begins 0 (Queues (PushIndex 8)) 9 ++ (begins 1 (Queues Pop) 4 ++ begins 1 (Queues Pop) 4))))

-- the second push is refused, and a pop of the empty queue answers None
refused_when_full : answered is_list_call (ran one_word kinds.IndexQueue 1 2 past_full).events
    ≡ (Queues (PushIndex 7), Truth true)
    ∷ (Queues IsFull, Truth true)
    ∷ (Queues (PushIndex 8), Truth false)
    ∷ (Queues Pop, PoppedIndex 7)
    ∷ (Queues Pop, PoppedNone)
    ∷ []
refused_when_full = refl

as_a_full_list : AnswersAs (whole_list queues.IndexQueue 1) (ran one_word kinds.IndexQueue 1 2 past_full).events
as_a_full_list = subst (λ (xs : List (Start ℕ × Answer ℕ)). IsLegal (whole_list queues.IndexQueue 1).object xs) (sym refused_when_full) refl

-- the second push hands the first value back
handed_back : answered is_list_call (ran one_word kinds.Overflow 1 2 past_full).events
    ≡ (Queues (PushIndex 7), PoppedNone)
    ∷ (Queues IsFull, Truth true)
    ∷ (Queues (PushIndex 8), PoppedIndex 7)
    ∷ (Queues Pop, PoppedIndex 8)
    ∷ (Queues Pop, PoppedNone)
    ∷ []
handed_back = refl

as_an_overflowing_list : AnswersAs (whole_list queues.Overflow 1) (ran one_word kinds.Overflow 1 2 past_full).events
as_an_overflowing_list = subst (λ (xs : List (Start ℕ × Answer ℕ)). IsLegal (whole_list queues.Overflow 1).object xs) (sym handed_back) refl

-- Party 0 gets the producer's role, party 1 loads, party 0 stores 7, and party 1 loads again.
abbrev loaded_and_stored : List (Turn ℕ)
loaded_and_stored =
    begins 0 (Atomic values.AcquireProducer) 1
    ++ (begins 1 (Atomic values.Load) 4 ++ (begins 0 (Atomic (values.Store 7)) 4 ++ begins 1 (Atomic values.Load) 4))

loaded_what_was_stored : answered is_store_or_load (ran one_word kinds.Atomic 1 2 loaded_and_stored).events
    ≡ (Atomic values.Load, Loaded 0) ∷ (Atomic (values.Store 7), Truth true) ∷ (Atomic values.Load, Loaded 7) ∷ []
loaded_what_was_stored = refl

as_one_value : AnswersAs (as_value one_word) (ran one_word kinds.Atomic 1 2 loaded_and_stored).events
as_one_value = subst (λ (xs : List (Start ℕ × Answer ℕ)). IsLegal (as_value one_word).object xs) (sym loaded_what_was_stored) refl

-- ---- places are set and reset: a search goes on behind the place that was found last

-- places are set and reset, and a search goes on behind the place that was found last
abbrev set_and_reset : List (Turn ℕ)
set_and_reset =
    begins 0 (Bits (bits.Set 1)) 4
    ++ (begins 1 (Bits (bits.Set 1)) 4
    ++ (begins 0 (Bits (bits.Set 2)) 4
    ++ (begins 1 (Bits bits.ResetNext) 6
    ++ (begins 0 (Bits (bits.Set 0)) 4
    ++ (begins 1 (Bits bits.ResetNext) 6 ++ (begins 0 (Bits bits.ResetAll) 6 ++ begins 1 (Bits bits.ResetNext) 6))))))

-- the second search finds place 2, and place 0 is left for the reset of all
found_in_turn : answered is_places_call (ran one_word kinds.Bits 3 2 set_and_reset).events
    ≡ (Bits (bits.Set 1), Truth true)
    ∷ (Bits (bits.Set 1), Truth false)
    ∷ (Bits (bits.Set 2), Truth true)
    ∷ (Bits bits.ResetNext, Reset 1)
    ∷ (Bits (bits.Set 0), Truth true)
    ∷ (Bits bits.ResetNext, Reset 2)
    ∷ (Bits bits.ResetAll, Done)
    ∷ (Bits bits.ResetNext, ResetNone)
    ∷ []
found_in_turn = refl

as_places : AnswersAs (whole_places 3) (ran one_word kinds.Bits 3 2 set_and_reset).events
as_places = subst (λ (xs : List (Start ℕ × Answer ℕ)). IsLegal (whole_places 3).object xs) (sym found_in_turn) refl

-- Both parties set bit 1, party 0 resets all, and party 1 sets bit 1 again.
abbrev counted_and_reset : List (Turn ℕ)
counted_and_reset =
    begins 0 (Bits (bits.Set 1)) 4
    ++ (begins 1 (Bits (bits.Set 1)) 4 ++ (begins 0 (Bits bits.ResetAll) 6 ++ begins 1 (Bits (bits.Set 1)) 4))

counted_again : answered is_places_call (ran one_word kinds.Counts 2 2 counted_and_reset).events
    ≡ (Bits (bits.Set 1), Number 0) ∷ (Bits (bits.Set 1), Number 1) ∷ (Bits bits.ResetAll, Done) ∷ (Bits (bits.Set 1), Number 0) ∷ []
counted_again = refl

as_counts : AnswersAs (whole_counts 2) (ran one_word kinds.Counts 2 2 counted_and_reset).events
as_counts = subst (λ (xs : List (Start ℕ × Answer ℕ)). IsLegal (whole_counts 2).object xs) (sym counted_again) refl

-- ---- an index of two is acquired, given back and acquired again

abbrev back_and_forth : List (Turn ℕ)
back_and_forth =
    begins 0 (Indices Acquire) 4 ++ (begins 0 (Indices (Release 0 Default)) 4 ++ begins 1 (Indices Acquire) 4)

handed_out_again : answered is_stack_call (ran one_word kinds.Indices 2 2 back_and_forth).events
    ≡ (Indices Acquire, Index 0) ∷ (Indices (Release 0 Default), State Unlocked) ∷ (Indices Acquire, Index 0) ∷ []
handed_out_again = refl

as_a_stack : AnswersAs (whole_stack 2) (ran one_word kinds.Indices 2 2 back_and_forth).events
as_a_stack = subst (λ (xs : List (Start ℕ × Answer ℕ)). IsLegal (whole_stack 2).object xs) (sym handed_out_again) refl

-- Party 0 gives its index back in the mode that locks, and party 1 then gets none and finds the set locked.
abbrev given_back_and_locked : List (Turn ℕ)
given_back_and_locked =
    begins 0 (Indices Acquire) 4
    ++ (begins 0 (Indices (Release 0 LockIfLastIndex)) 4 ++ (begins 1 (Indices Acquire) 4 ++ begins 1 (Indices IsLocked) 4))

-- the release answers Locked, and the next acquire is refused
locked : answered is_stack_call (ran one_word kinds.Indices 2 2 given_back_and_locked).events
    ≡ (Indices Acquire, Index 0)
    ∷ (Indices (Release 0 LockIfLastIndex), State Locked)
    ∷ (Indices Acquire, NoIndex no_indices.IsLocked)
    ∷ (Indices IsLocked, Truth true)
    ∷ []
locked = refl

as_a_locked_stack : AnswersAs (whole_stack 2) (ran one_word kinds.Indices 2 2 given_back_and_locked).events
as_a_locked_stack = subst (λ (xs : List (Start ℕ × Answer ℕ)). IsLegal (whole_stack 2).object xs) (sym locked) refl

-- ---- calls that put questions

-- the finished calls of a machine of two parties that takes these turns
abbrev calls_in : Kind → ℕ → List (Turn ℕ) → List (Request ℕ × Reply ℕ)
calls_in kind capacity turns =
    (story_on turns (opened one_word kind capacity capacity 2) (record { told = []; calls = [] })).calls

abbrev a_call : ℕ → Start ℕ → List Bool → List (Question ℕ) → Answer ℕ → Request ℕ × Reply ℕ
a_call p start decisions questions answer =
    (record { party = p; start = start; decisions = decisions }, record { questions = questions; answer = answer })

-- an owner has two indices; a find is told to stop at the first, and once the owner is dead a recovery to free that one alone
abbrev two_of_one : List (Turn ℕ)
two_of_one =
    begins 0 (Robust (robust.Acquire 5)) 9
    ++ (begins 0 (Robust (robust.Acquire 5)) 9
    ++ (begins 1 (Robust (robust.Find 5)) 2
    ++ (Decide 1 false
    ∷ Die 5
    ∷ begins 1 (Robust (robust.Recover Default)) 3 ++ (Decide 1 true ∷ nexts 1 5 ++ (Decide 1 false ∷ nexts 1 3)))))

-- the find answers one index, and the recovery asks about both
stopped_and_freed : calls_in kinds.Robust 2 two_of_one
    ≡ a_call 0 (Robust (robust.Acquire 5)) [] [] (Index 0)
    ∷ a_call 0 (Robust (robust.Acquire 5)) [] [] (Index 1)
    ∷ a_call 1 (Robust (robust.Find 5)) (false ∷ []) (questions.Index 0 ∷ []) (Number 1)
    ∷ a_call 1 (Robust (robust.Recover Default)) (true ∷ false ∷ []) (questions.Owned 5 0 ∷ questions.Owned 5 1 ∷ []) (State Unlocked)
    ∷ []
stopped_and_freed = refl

as_owners : RepliesAs (whole_owners 2) (calls_in kinds.Robust 2 two_of_one)
as_owners = subst (RepliesAs (whole_owners 2)) (sym stopped_and_freed) refl

-- a container: a value is added, seen, found and removed; the state of party 1 shows it until it is brought up to date
abbrev added_and_removed : List (Turn ℕ)
added_and_removed =
    begins 0 (Container (containers.Add 7 5)) 12
    ++ (begins 1 (Container containers.GetState) 12
    ++ (begins 0 (Container (containers.Find 5)) 4
    ++ (Decide 0 true
    ∷ nexts 0 4
    ++ (begins 0 (Container (containers.Remove 0 5 Default)) 12 ++ begins 1 (Container containers.UpdateState) 12))))

-- the state shows one value, and an update meets the change of the remove
seen_and_gone : calls_in kinds.Container 2 added_and_removed
    ≡ a_call 0 (Container (containers.Add 7 5)) [] [] (Index 0)
    ∷ a_call 1 (Container containers.GetState) [] [] (Number 1)
    ∷ a_call 0 (Container (containers.Find 5)) (true ∷ []) (questions.Value 0 7 ∷ []) (Number 1)
    ∷ a_call 0 (Container (containers.Remove 0 5 Default)) [] [] (State Unlocked)
    ∷ a_call 1 (Container containers.UpdateState) [] [] (Truth true)
    ∷ []
seen_and_gone = refl

as_a_map : RepliesAs (whole_map 2) (calls_in kinds.Container 2 added_and_removed)
as_a_map = subst (RepliesAs (whole_map 2)) (sym seen_and_gone) refl

-- these are the calls that end in the run
ends_so : filter is_end (ran one_word kinds.Container 2 2 added_and_removed).events
    ≡ Finished 0 (Container (containers.Add 7 5)) (Index 0)
    ∷ Finished 1 (Container containers.GetState) (Number 1)
    ∷ Finished 0 (Container (containers.Find 5)) (Number 1)
    ∷ Finished 0 (Container (containers.Remove 0 5 Default)) (State Unlocked)
    ∷ Finished 1 (Container containers.UpdateState) (Truth true)
    ∷ []
ends_so = refl

are_all_finished : AreFinished (calls_in kinds.Container 2 added_and_removed) (ran one_word kinds.Container 2 2 added_and_removed).events
are_all_finished = ap (map as_end) seen_and_gone ∙ sym ends_so

-- a value is replaced, and once its owner is dead a recovery is shown the new one, frees the index and locks the container
abbrev replaced_and_recovered : List (Turn ℕ)
replaced_and_recovered =
    begins 0 (Container (containers.Add 7 5)) 12
    ++ (begins 1 (Container containers.GetState) 12
    ++ (begins 0 (Container (containers.Replace 0 9 5)) 12
    ++ (begins 1 (Container containers.UpdateState) 12
    ++ (Die 5
    ∷ begins 0 (Container (containers.Recover 5 LockIfLastIndex)) 8
    ++ (Decide 0 true ∷ nexts 0 12 ++ (begins 0 (Container containers.IsLocked) 2 ++ begins 1 (Container (containers.Add 8 6)) 12))))))

-- the recovery answers Locked, and the next add is refused
freed_and_locked : calls_in kinds.Container 2 replaced_and_recovered
    ≡ a_call 0 (Container (containers.Add 7 5)) [] [] (Index 0)
    ∷ a_call 1 (Container containers.GetState) [] [] (Number 1)
    ∷ a_call 0 (Container (containers.Replace 0 9 5)) [] [] Done
    ∷ a_call 1 (Container containers.UpdateState) [] [] (Truth true)
    ∷ a_call 0 (Container (containers.Recover 5 LockIfLastIndex)) (true ∷ []) (questions.Value 0 9 ∷ []) (State Locked)
    ∷ a_call 0 (Container containers.IsLocked) [] [] (Truth true)
    ∷ a_call 1 (Container (containers.Add 8 6)) [] [] (NoPlace no_places.IsLocked)
    ∷ []
freed_and_locked = refl

as_a_locked_map : RepliesAs (whole_map 2) (calls_in kinds.Container 2 replaced_and_recovered)
as_a_locked_map = subst (RepliesAs (whole_map 2)) (sym freed_and_locked) refl

-- ---- what a state shows: that of party 1 shows the value that replaced the first, as it was brought up to date before the recovery

abbrev value_of_nine : Option (Snapshot ℕ)
value_of_nine = Some (record { changes = 2; counts = 3 ∷ 0 ∷ []; values = Some 9 ∷ None ∷ [] })

kept_nine : kept_view (ran one_word kinds.Container 2 2 replaced_and_recovered).world.kept 1 ≡ value_of_nine
kept_nine = refl

says_nine : (stands_after (whole_map 2) (calls_in kinds.Container 2 replaced_and_recovered)).views 1 ≡ value_of_nine
says_nine = ap (λ (calls : List (Request ℕ × Reply ℕ)). (stands_after (whole_map 2) calls).views 1) freed_and_locked

-- of party 0 nothing is kept, and the object says so
kept_none : kept_view (ran one_word kinds.Container 2 2 replaced_and_recovered).world.kept 0 ≡ None
kept_none = refl

says_none : (stands_after (whole_map 2) (calls_in kinds.Container 2 replaced_and_recovered)).views 0 ≡ None
says_none = ap (λ (calls : List (Request ℕ × Reply ℕ)). (stands_after (whole_map 2) calls).views 0) freed_and_locked

-- while a look is under way its party's new state shows nothing yet, and the object says what the earlier one showed
abbrev looking : List (Turn ℕ)
looking =
    begins 0 (Container (containers.Add 7 5)) 12
    ++ (begins 1 (Container containers.GetState) 12 ++ begins 1 (Container containers.GetState) 1)

is_looking : is_look (flight_in (ran one_word kinds.Container 2 2 looking).world 1) ≡ true
is_looking = refl

kept_blank : kept_view (ran one_word kinds.Container 2 2 looking).world.kept 1 ≡ Some (blank 2)
kept_blank = refl

says_seven : (stands_after (whole_map 2) (calls_in kinds.Container 2 looking)).views 1
    ≡ Some (record { changes = 1; counts = 1 ∷ 0 ∷ []; values = Some 7 ∷ None ∷ [] })
says_seven = refl

-- ---- wrong answers

refused_push : AnswersAs {T = ℕ} (whole_list queues.IndexQueue 2) (Begun 0 (Queues (PushIndex 7)) ∷ Finished 0 (Queues (PushIndex 7)) (Truth false) ∷ []) → ⊥
refused_push legal = cc

invented_pop : AnswersAs {T = ℕ} (whole_list queues.IndexQueue 2) (Begun 0 (Queues Pop) ∷ Finished 0 (Queues Pop) (PoppedIndex 7) ∷ []) → ⊥
invented_pop legal = cc

-- a peek of two values that answers the second is refused
peeked_the_newest : AnswersAs {T = ℕ} (whole_list queues.IndexQueue 2)
    (Finished 0 (Queues (PushIndex 7)) (Truth true)
    ∷ Finished 0 (Queues (PushIndex 8)) (Truth true)
    ∷ Finished 1 (Queues Peek) (PoppedIndex 8)
    ∷ [])
    → ⊥
peeked_the_newest legal = let one : ◌≡◌ {A = ℕ} 7 8 = cc in absurd (cc)

-- A list of capacity 1 does not take two pushes.
overfull : AnswersAs {T = ℕ} (whole_list queues.IndexQueue 1)
    (Finished 0 (Queues (PushIndex 7)) (Truth true) ∷ Finished 0 (Queues (PushIndex 8)) (Truth true) ∷ [])
    → ⊥
overfull legal = cc

-- A list of capacity 1 that overflows hands a value back at the second push.
none_handed_back : AnswersAs {T = ℕ} (whole_list queues.Overflow 1)
    (Finished 0 (Queues (PushIndex 7)) PoppedNone ∷ Finished 0 (Queues (PushIndex 8)) PoppedNone ∷ [])
    → ⊥
none_handed_back legal = cc

-- A load after a store does not answer the value that stood before it.
loaded_before : AnswersAs (as_value one_word)
    (Finished 0 (Atomic (values.Store 7)) (Truth true) ∷ Finished 1 (Atomic values.Load) (Loaded 0) ∷ [])
    → ⊥
loaded_before legal = let one : ◌≡◌ {A = ℕ} 7 0 = cc in absurd (cc)

-- the search begins behind place 1, so it finds 2 and not 0
found_from_the_front : AnswersAs {T = ℕ} (whole_places 3)
    (Finished 0 (Bits (bits.Set 1)) (Truth true)
    ∷ Finished 0 (Bits (bits.Set 2)) (Truth true)
    ∷ Finished 0 (Bits bits.ResetNext) (Reset 1)
    ∷ Finished 0 (Bits (bits.Set 0)) (Truth true)
    ∷ Finished 0 (Bits bits.ResetNext) (Reset 0)
    ∷ [])
    → ⊥
found_from_the_front legal = let one : ◌≡◌ {A = ℕ} 2 0 = cc in absurd (cc)

-- A second set of a place does not answer that it counted 0.
counted_not : AnswersAs {T = ℕ} (whole_counts 2)
    (Finished 0 (Bits (bits.Set 1)) (Number 0) ∷ Finished 0 (Bits (bits.Set 1)) (Number 0) ∷ [])
    → ⊥
counted_not legal = let one : ◌≡◌ {A = ℕ} 1 0 = cc in absurd (cc)

-- A release of the one index that is held, in the mode that locks, does not leave the set unlocked.
locked_not : AnswersAs {T = ℕ} (whole_stack 2)
    (Finished 0 (Indices Acquire) (Index 0) ∷ Finished 0 (Indices (Release 0 LockIfLastIndex)) (State Unlocked) ∷ [])
    → ⊥
locked_not legal = cc

other_index : AnswersAs {T = ℕ} (whole_stack 2) (Begun 0 (Indices Acquire) ∷ Finished 0 (Indices Acquire) (Index 1) ∷ []) → ⊥
other_index legal = let one : ◌≡◌ {A = ℕ} 0 1 = cc in absurd (cc)

abbrev answers_in : List (Reply ℕ) → List (Answer ℕ)
answers_in replies = map (λ r. r.answer) replies

abbrev questions_in : List (Reply ℕ) → List (List (Question ℕ))
questions_in replies = map (λ r. r.questions) replies

-- a find that was told to go on has come to both indices
stopped_alone : RepliesAs (whole_owners 2)
    (a_call 0 (Robust (robust.Acquire 5)) [] [] (Index 0)
    ∷ a_call 0 (Robust (robust.Acquire 5)) [] [] (Index 1)
    ∷ a_call 1 (Robust (robust.Find 5)) (true ∷ []) (questions.Index 0 ∷ []) (Number 1)
    ∷ [])
    → ⊥
stopped_alone legal =
    let answers : Index 0 ∷ Index 1 ∷ Number 2 ∷ [] ≡ Index 0 ∷ Index 1 ∷ Number 1 ∷ [] = ap answers_in legal in
    let two : ◌≡◌ {A = ℕ} 2 1 = cc in absurd (cc)

-- a recovery asks about each index
asked_none : RepliesAs (whole_owners 2)
    (a_call 0 (Robust (robust.Acquire 5)) [] [] (Index 0) ∷ a_call 1 (Robust (robust.Recover Default)) [] [] (State Unlocked) ∷ [])
    → ⊥
asked_none legal =
    let asked : [] ∷ (questions.Owned 5 0 ∷ []) ∷ [] ≡ [] ∷ [] ∷ [] = ap questions_in legal in absurd (cc)

-- a state that was brought up to date sees that nothing has changed
changed_not : RepliesAs (whole_map 2)
    (a_call 0 (Container (containers.Add 7 5)) [] [] (Index 0)
    ∷ a_call 1 (Container containers.GetState) [] [] (Number 1)
    ∷ a_call 1 (Container containers.UpdateState) [] [] (Truth true)
    ∷ [])
    → ⊥
changed_not legal =
    let answers : Index 0 ∷ Number 1 ∷ Truth false ∷ [] ≡ Index 0 ∷ Number 1 ∷ Truth true ∷ [] = ap answers_in legal in absurd (cc)

-- a recovery of a container shows the value that stands there now
shown_before : RepliesAs (whole_map 2)
    (a_call 0 (Container (containers.Add 7 5)) [] [] (Index 0)
    ∷ a_call 0 (Container (containers.Replace 0 9 5)) [] [] Done
    ∷ a_call 0 (Container (containers.Recover 5 Default)) (true ∷ []) (questions.Value 0 7 ∷ []) (State Unlocked)
    ∷ [])
    → ⊥
shown_before legal = seven (ap questions_in legal)
  where
    seven : ◌≡◌ {A = List (List (Question ℕ))} ([] ∷ [] ∷ (questions.Value 0 9 ∷ []) ∷ []) ([] ∷ [] ∷ (questions.Value 0 7 ∷ []) ∷ []) → ⊥
    seven asked = let nine : ◌≡◌ {A = ℕ} 9 7 = cc in absurd (cc)

-- a state that is brought up to date shows the value that stands there now
still_seven : (stands_after (whole_map 2)
    (a_call 0 (Container (containers.Add 7 5)) [] [] (Index 0)
    ∷ a_call 1 (Container containers.GetState) [] [] (Number 1)
    ∷ a_call 0 (Container (containers.Replace 0 9 5)) [] [] Done
    ∷ a_call 1 (Container containers.UpdateState) [] [] (Truth true)
    ∷ [])).views
    1
    ≡ Some (record { changes = 2; counts = 3 ∷ 0 ∷ []; values = Some 7 ∷ None ∷ [] })
    → ⊥
still_seven is =
    let values : ◌≡◌ {A = Option (List (Option ℕ))} (Some (Some 9 ∷ None ∷ [])) (Some (Some 7 ∷ None ∷ [])) =
    ap (option_map (λ (v : Snapshot ℕ). v.values)) is in
    let nine : ◌≡◌ {A = ℕ} 9 7 = cc in absurd (cc)

-- a list of calls from which one is left out is not that of the run
left_out : AreFinished {T = ℕ} [] (Begun 0 (Queues Len) ∷ Finished 0 (Queues Len) (Number 0) ∷ []) → ⊥
left_out are_finished = cc

other_party : AreFinished (a_call 1 (Queues Len) [] [] (Number 0) ∷ []) (Finished 0 (Queues Len) (Number 0) ∷ []) → ⊥
other_party are_finished = let one : ◌≡◌ {A = ℕ} 1 0 = cc in absurd (cc)

-- ---- calls that run whole, and calls that do not

module _ {T : Type 0} where
  pub no_events : RunsWhole {T = T} []
  no_events p start before at = absurd (no_more before (Begun p start) at.0 at.1)

  -- one event more: a begin where no call is under way, or no begin
  abbrev pub Continues : List (Event T) → Event T → Type 0
  Continues events (Begun p start) = (q : ℕ) → IsShut (span_of q events)
  Continues events e = Unit {0}

  -- an event that continues a run whose calls run whole leaves it one
  pub one_more : (events : List (Event T)) (e : Event T) → RunsWhole events → Continues events e → RunsWhole (events ++ e ∷ [])
  one_more events e runs more p start before at q = go (split_last events e before (Begun p start) at.0 at.1)
    where
      go : SplitAt events e before (Begun p start) at.0 → IsShut (span_of q before)
      go (Last same is) = subst (λ (xs : List (Event T)). IsShut (span_of q xs)) same (subst (Continues events) is more q)
      go (Earlier rest is) = runs p start before (rest, is) q

abbrev acquire : Start ℕ
acquire = Queues AcquireProducer

abbrev push : Start ℕ
push = Queues (PushIndex 7)

-- a call that begins once another has ended runs whole
one_after_another : RunsWhole (Begun 0 acquire ∷ Finished 0 acquire (Truth true) ∷ Begun 0 push ∷ [])
one_after_another =
    one_more (Begun 0 acquire ∷ Finished 0 acquire (Truth true) ∷ []) (Begun 0 push)
    (one_more (Begun 0 acquire ∷ []) (Finished 0 acquire (Truth true)) (one_more [] (Begun 0 acquire) no_events (λ q. tt)) tt)
    (λ q. shut (0 == q))
  where
    shut : (b : Bool)
        → IsShut (if b then ended (if b then Open acquire [] else Never) (Truth true) else (if b then Open acquire [] else Never))
    shut true = tt
    shut false = tt

side_by_side : RunsWhole (Begun 0 acquire ∷ Begun 1 (Queues Len) ∷ []) → ⊥
side_by_side runs = runs 1 (Queues Len) (Begun 0 acquire ∷ []) ([], refl) 0
