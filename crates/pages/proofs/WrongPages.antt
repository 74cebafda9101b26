-- Machines that are not those of the pages, each wrong in one stage or in who may begin: the theorem of its page is false of it.
use Rattle.std.proofs.Common.{◌%◌}
use Rattle.model.proofs.Names.{fold, Bool, List, None, Option, Some, false, [], ap, arith, refl, true, ℕ, ◌+◌, ◌∷◌, ◌≡◌}
use Rattle.std.specs.Prelude.{slice_index}
use Rattle.pages.specs.IndexQueue as index
use Rattle.pages.specs.Machine.{After, Begin, Done, Event, GoOn, IsLinearizable, Load, Next, Operation, Store}
use Rattle.pages.specs.Machine.{Structure, Turn, World, calls_from, opening, turned}
use Rattle.pages.specs.OverflowingQueue as overflowing
use Rattle.pages.specs.Queue as values
use Rattle.pages.specs.Value as single
use Rattle.pages.proofs.TwoCalls.{HasTwo, in_turn_alone, neither_order}
use Rattle.pages.proofs.WorkedQueue.{pairs}

-- what a machine does over these turns
abbrev after : {Call Stage Answer : Type 0} → Structure Call Stage Answer → List (Turn Call) → World Call Stage Answer
after of turns = fold (turned of) (opening of) turns

-- the history has a call of party 0, and behind it one of party p, and both have ended
abbrev two_of : {Call Answer : Type 0} {history : List (Event Call Answer)} (one : Call) (first : Answer) (p : ℕ) (two : Call) (second : Answer)
    → calls_from history 0
    ≡ record { place = 0; party = 0; call = one; response = Some (1, first) }
    ∷ record { place = 2; party = p; call = two; response = Some (3, second) }
    ∷ []
    → HasTwo history
two_of one first p two second calls =
    record {
      first = record { place = 0; party = 0; call = one; end = 1; answer = first };
      second = record { place = 2; party = p; call = two; end = 3; answer = second };
      calls = calls;
      in_order = omega arith;
    }

-- ---- the index queue

-- a push and then a pop
abbrev push_pop : List (Turn index.Call)
push_pop =
    Begin 0 (index.Push 5) ∷ Next 0 ∷ Next 0 ∷ Next 0 ∷ Next 0 ∷ Begin 1 index.Pop ∷ Next 1 ∷ Next 1 ∷ Next 1 ∷ Next 1 ∷ []

-- a push stores its value in the cell after the position
abbrev next_cell : index.Stage → ℕ × Operation × (ℕ → After index.Stage index.Answer)
next_cell (index.PushStoresCell value write) = (4 + (write + 1) % 2, Store value, λ old. GoOn (index.PushStoresWrite value write))
next_cell stage = index.does 2 stage

-- The pop finds 0 in the cell of the push.
not_next_cell : IsLinearizable (index.bounded_list 2) (after (record (index.index_queue 2) { does = next_cell }) push_pop).history → ⊥
not_next_cell =
    in_turn_alone (index.bounded_list 2) (two_of (index.Push 5) (index.Pushed true) 1 index.Pop (index.Popped (Some 0)) refl)
    (λ legal. let front : index.Popped (Some 5) ≡ index.Popped (Some 0) = legal.1.0 in absurd (cc)) (omega arith)

-- a push answers, and has not published
abbrev unpublished : index.Stage → ℕ × Operation × (ℕ → After index.Stage index.Answer)
unpublished (index.PushStoresWrite value write) = (0, Load, λ old. Done (index.Pushed true))
unpublished stage = index.does 2 stage

-- The pop finds the queue empty, though the push before it has answered.
not_unpublished : IsLinearizable (index.bounded_list 2) (after (record (index.index_queue 2) { does = unpublished }) push_pop).history → ⊥
not_unpublished =
    in_turn_alone (index.bounded_list 2) (two_of (index.Push 5) (index.Pushed true) 1 index.Pop (index.Popped None) refl)
    (λ legal. let front : index.Popped (Some 5) ≡ index.Popped None = legal.1.0 in absurd (cc)) (omega arith)

-- the producer's role is for whoever likes: two pushes fill the one cell
abbrev anybody : ℕ → index.Call → Bool
anybody p call = true

abbrev both_push : List (Turn index.Call)
both_push =
    Begin 0 (index.Push 5) ∷ Begin 2 (index.Push 6) ∷ Next 0 ∷ Next 2 ∷ Next 0 ∷ Next 2 ∷ Next 0 ∷ Next 2 ∷ Next 0 ∷ Next 2 ∷ []

-- two pushes that have both answered true are more than a list of one place takes
not_anybody : IsLinearizable (index.bounded_list 1) (after (record (index.index_queue 1) { may = anybody }) both_push).history → ⊥
not_anybody =
    neither_order (index.bounded_list 1) (record {
      first = record { place = 0; party = 0; call = index.Push 5; end = 2; answer = index.Pushed true };
      second = record { place = 1; party = 2; call = index.Push 6; end = 3; answer = index.Pushed true };
      calls = refl;
      in_order = omega arith;
    })
    (λ legal. let room : index.Pushed false ≡ index.Pushed true = legal.1.0 in absurd (cc))
    (λ legal. let room : index.Pushed false ≡ index.Pushed true = legal.1.0 in absurd (cc))

-- ---- the queue of values

abbrev push_pop_pair : List (Turn (values.Call (ℕ × ℕ)))
push_pop_pair =
    Begin 0 (values.Push (5, 6)) ∷ Next 0 ∷ Next 0 ∷ Next 0 ∷ Next 0 ∷ Next 0
    ∷ Begin 1 values.Pop ∷ Next 1 ∷ Next 1 ∷ Next 1 ∷ Next 1 ∷ Next 1 ∷ []

abbrev pair_does : values.Stage (ℕ × ℕ) → ℕ × Operation × (ℕ → After (values.Stage (ℕ × ℕ)) (values.Answer (ℕ × ℕ)))
pair_does stage = values.does pairs 2 stage

-- Equal answers have equal second words.
second_word : {v w : ℕ × ℕ} → values.Popped (Some v) ≡ values.Popped (Some w) → v.1 ≡ w.1
second_word e = ap (λ (x : ℕ × ℕ). x.1) (value e)
  where
    value : {v w : ℕ × ℕ} → values.Popped (Some v) ≡ values.Popped (Some w) → v ≡ w
    value e = cc

-- a push stores its words in the cell after the position
abbrev next_pair : values.Stage (ℕ × ℕ) → ℕ × Operation × (ℕ → After (values.Stage (ℕ × ℕ)) (values.Answer (ℕ × ℕ)))
next_pair (values.PushStoresCell value write word) =
    (values.at pairs 2 (write + 1) word, Store (slice_index (pairs.words_of value) word), λ old. GoOn (values.stores pairs 2 value write (word + 1)))
next_pair stage = pair_does stage

-- the pop answers what no push has stored
not_next_pair : IsLinearizable (values.bounded_list 2) (after (record (values.queue pairs 2) { does = next_pair }) push_pop_pair).history → ⊥
not_next_pair =
    in_turn_alone (values.bounded_list 2) (two_of (values.Push (5, 6)) (values.Pushed true) 1 values.Pop (values.Popped (Some (0, 0))) refl)
    (λ legal. let word : 6 ≡ 0 = second_word {v = (5, 6)} {w = (0, 0)} legal.1.0 in absurd (omega arith)) (omega arith)

-- a push publishes once it has stored one word: the value is torn
abbrev torn : values.Stage (ℕ × ℕ) → ℕ × Operation × (ℕ → After (values.Stage (ℕ × ℕ)) (values.Answer (ℕ × ℕ)))
torn (values.PushStoresCell value write word) =
    (values.at pairs 2 write word, Store (slice_index (pairs.words_of value) word), λ old. GoOn (values.PushStoresWrite value write))
torn stage = pair_does stage

-- the pop answers half of the value
not_torn : IsLinearizable (values.bounded_list 2) (after (record (values.queue pairs 2) { does = torn }) push_pop_pair).history → ⊥
not_torn =
    in_turn_alone (values.bounded_list 2) (two_of (values.Push (5, 6)) (values.Pushed true) 1 values.Pop (values.Popped (Some (5, 0))) refl)
    (λ legal. let word : 6 ≡ 0 = second_word {v = (5, 6)} {w = (5, 0)} legal.1.0 in absurd (omega arith)) (omega arith)

-- ---- the overflowing queue

abbrev push_twice : List (Turn overflowing.Call)
push_twice =
    Begin 0 (overflowing.Push 1) ∷ Next 0 ∷ Next 0 ∷ Next 0 ∷ Next 0
    ∷ Begin 0 (overflowing.Push 2) ∷ Next 0 ∷ Next 0 ∷ Next 0 ∷ Next 0 ∷ Next 0 ∷ Next 0 ∷ []

-- a push hands back what stands in the cell after the oldest
abbrev newest : overflowing.Stage → ℕ × Operation × (ℕ → After overflowing.Stage (Option ℕ))
newest (overflowing.PushLoadsOldest value read) = (4 + (read + 1) % 2, Load, λ old. Done (Some old))
newest stage = overflowing.does 1 stage

-- The second push hands back its own value, and the oldest was 1.
not_newest : IsLinearizable (overflowing.overflowing_list 1) (after (record (overflowing.overflowing_queue 1) { does = newest }) push_twice).history → ⊥
not_newest =
    in_turn_alone (overflowing.overflowing_list 1) (two_of (overflowing.Push 1) None 0 (overflowing.Push 2) (Some 2) refl)
    (λ legal. let oldest : Some 1 ≡ Some 2 = legal.1.0 in absurd (cc)) (omega arith)

-- ---- the single value

abbrev store_load : List (Turn single.Call)
store_load = Begin 0 (single.StoreValue 7) ∷ Next 0 ∷ Next 0 ∷ Next 0 ∷ Begin 1 single.LoadValue ∷ Next 1 ∷ Next 1 ∷ Next 1 ∷ []

-- a store answers, and has not added 1 to the version
abbrev unversioned : single.Stage → ℕ × Operation × (ℕ → After single.Stage single.Answer)
unversioned (single.StoreAddsVersion value) = (0, Load, λ old. Done (single.Stored true))
unversioned stage = single.does stage

-- The load answers 0 after a store of 7.
not_unversioned : IsLinearizable single.register (after (record single.value { does = unversioned }) store_load).history → ⊥
not_unversioned =
    in_turn_alone single.register (two_of (single.StoreValue 7) (single.Stored true) 1 single.LoadValue (single.Loaded 0) refl)
    (λ legal. let held : single.Loaded 7 ≡ single.Loaded 0 = legal.1.0 in absurd (cc)) (omega arith)

-- a store goes to the cell of the version before
abbrev next_version : single.Stage → ℕ × Operation × (ℕ → After single.Stage single.Answer)
next_version (single.StoreStoresCell value version) = (2 + (version + 1) % 2, Store value, λ old. GoOn (single.StoreAddsVersion value))
next_version stage = single.does stage

-- The load answers 0 after a store of 7.
not_next_version : IsLinearizable single.register (after (record single.value { does = next_version }) store_load).history → ⊥
not_next_version =
    in_turn_alone single.register (two_of (single.StoreValue 7) (single.Stored true) 1 single.LoadValue (single.Loaded 0) refl)
    (λ legal. let held : single.Loaded 7 ≡ single.Loaded 0 = legal.1.0 in absurd (cc)) (omega arith)
