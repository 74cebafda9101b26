-- Linearizability at worked histories: two that are linearizable, and one that is not.
use Rattle.model.proofs.Names.{Answer, Begun, Call, Event, Finished, IfSome, IsLegal, IsLinearizable, List, None}
use Rattle.model.proofs.Names.{Option, PoppedIndex, PoppedNone, PushIndex, Queues, Response, Some, Start, Truth, [], ap}
use Rattle.model.proofs.Names.{arith, bounded_list, map, refl, subst, sym, true, ℕ, ⊎_elim, ◌<◌, ◌∙◌, ◌∷◌, ◌≡◌, ◌≢◌}
use Rattle.model.proofs.Names.{◌≤◌}
use Rattle.std.proofs.Common.{All}
use Rattle.std.proofs.lemmas.List.Elements.{All-from_recursion}
use Rattle.std.specs.List.{AllPairs, Contains}
use Rattle.model.specs.declared.families.queues.QueueKind.TheVariants as kinds
use Rattle.model.specs.declared.families.queues.QueueStart.TheVariants.{Pop}
use Rattle.model.specs.Linearizable.{calls_of, Precedes}
use Rattle.model.specs.Linearized.{is_push_or_pop, as_list}
use Rattle.model.proofs.Linearizable.Members.{none_there, split, pair_of, either, three_of_two}

abbrev push : Start ℕ
push = Queues (PushIndex 5)

abbrev pop : Start ℕ
pop = Queues Pop

abbrev responded : ℕ → Answer ℕ → Option (Response ℕ)
responded place answer = Some (record { place = place; answer = answer })

abbrev called : ℕ → ℕ → Start ℕ → Option (Response ℕ) → Call ℕ
called place p start response = record { place = place; party = p; start = start; response = response }

abbrev entry : Call ℕ → Answer ℕ → Call ℕ × Answer ℕ
entry call answer = (call, answer)

-- A call of the order was invoked in the history, and is a push or a pop.
abbrev Invoked : List (Event ℕ) → Call ℕ × Answer ℕ → Type 0
Invoked history x = (is_push_or_pop x.0.start ≡ true) × Contains (calls_of history) x.0

-- The sequential history has the call with its answer, if it has responded and is a push or a pop.
abbrev Completed : List (Call ℕ × Answer ℕ) → Call ℕ → Type 0
Completed sequential call =
    IfSome call.response
    (λ response. is_push_or_pop call.start ≡ true → Contains sequential (call, response.answer))

unequal : (m n : ℕ) → m < n → m ≡ n → ⊥
unequal = omega arith

no_less : (m n : ℕ) → n ≤ m → m < n → ⊥
no_less = omega arith

-- ---- a pop runs inside a push and finds nothing: it stands before the push, which was invoked first

-- A pop answers None within a push that answers true.
abbrev overlapping : List (Event ℕ)
overlapping = Begun 0 push ∷ Begun 1 pop ∷ Finished 1 pop PoppedNone ∷ Finished 0 push (Truth true) ∷ []

abbrev inside : Call ℕ
inside = called 1 1 pop (responded 2 PoppedNone)

abbrev around : Call ℕ
around = called 0 0 push (responded 3 (Truth true))

pub two_calls : calls_of overlapping ≡ around ∷ inside ∷ []
two_calls = refl

abbrev inside_around : List (Call ℕ × Answer ℕ)
inside_around = entry inside PoppedNone ∷ entry around (Truth true) ∷ []

-- the order in which the pop comes first is one of the list, and keeps what came before what
pub pop_inside_push : IsLinearizable (as_list kinds.IndexQueue 1) overlapping
pop_inside_push =
    record {
      sequential = inside_around;
      legal = refl;
      invoked = All-from_recursion (Invoked overlapping) inside_around ((refl, (1, omega arith, refl)), ((refl, (0, omega arith, refl)), tt));
      completed = All-from_recursion (Completed inside_around) (calls_of overlapping) ((λ t. (1, omega arith, refl)), ((λ t. (0, omega arith, refl)), tt));
      once =
          pair_of (λ x y. x.0 ≢ y.0) (entry inside PoppedNone) (entry around (Truth true))
          (λ e. unequal 0 1 (omega arith) (sym (ap (λ (c : Call ℕ). c.place) e)));
      real_time = pair_of (λ x y. ¬ Precedes y.0 x.0) (entry inside PoppedNone) (entry around (Truth true)) (no_less 3 1 (omega arith));
    }

-- ---- a pop answers the value of a push that is pending: the push has an answer that it may yet give

-- A pop answers the value of a push that is still pending.
abbrev pending : List (Event ℕ)
pending = Begun 0 push ∷ Begun 1 pop ∷ Finished 1 pop (PoppedIndex 5) ∷ []

abbrev unfinished : Call ℕ
unfinished = called 0 0 push None

abbrev finished : Call ℕ
finished = called 1 1 pop (responded 2 (PoppedIndex 5))

abbrev unfinished_finished : List (Call ℕ × Answer ℕ)
unfinished_finished = entry unfinished (Truth true) ∷ entry finished (PoppedIndex 5) ∷ []

-- the push is in the order though it has not ended, since the pop has its value
pub pop_of_pending_push : IsLinearizable (as_list kinds.IndexQueue 1) pending
pop_of_pending_push =
    record {
      sequential = unfinished_finished;
      legal = refl;
      invoked = All-from_recursion (Invoked pending) unfinished_finished ((refl, (0, omega arith, refl)), ((refl, (1, omega arith, refl)), tt));
      completed = All-from_recursion (Completed unfinished_finished) (calls_of pending) (tt, ((λ t. (1, omega arith, refl)), tt));
      once =
          pair_of (λ x y. x.0 ≢ y.0) (entry unfinished (Truth true)) (entry finished (PoppedIndex 5))
          (λ e. unequal 0 1 (omega arith) (ap (λ (c : Call ℕ). c.place) e));
      real_time = pair_of (λ x y. ¬ Precedes y.0 x.0) (entry unfinished (Truth true)) (entry finished (PoppedIndex 5)) (no_less 2 0 (omega arith));
    }

-- ---- a pop that begins after the push has ended, and finds nothing

-- A push ends with true, and a pop that begins after it answers None.
abbrev too_late : List (Event ℕ)
too_late = Begun 0 push ∷ Finished 0 push (Truth true) ∷ Begun 1 pop ∷ Finished 1 pop PoppedNone ∷ []

abbrev pushed : Call ℕ
pushed = called 0 0 push (responded 1 (Truth true))

abbrev popped : Call ℕ
popped = called 2 1 pop (responded 3 PoppedNone)

apart : pushed ≡ popped → ⊥
apart pushed_is_popped = unequal 0 2 (omega arith) (ap (λ (c : Call ℕ). c.place) pushed_is_popped)

abbrev Legal : List (Call ℕ × Answer ℕ) → Type 0
Legal xs = IsLegal (bounded_list 1) (map (λ x. (x.0.start, x.1)) xs)

not_legal : Legal (entry pushed (Truth true) ∷ entry popped PoppedNone ∷ []) → ⊥
not_legal legal = cc

-- no order of the two calls both is legal and keeps the push before the pop
refuted : (xs : List (Call ℕ × Answer ℕ)) → Legal xs
    → All (λ x. (is_push_or_pop x.0.start ≡ true) × Contains (calls_of too_late) x.0) xs
    → Contains xs (entry pushed (Truth true)) → Contains xs (entry popped PoppedNone) → AllPairs (λ x y. x.0 ≢ y.0) xs
    → AllPairs (λ x y. ¬ Precedes y.0 x.0) xs → ⊥
refuted [] legal invoked first second once real_time = none_there (entry pushed (Truth true)) first
refuted (x ∷ []) legal invoked first second once real_time =
    ⊎_elim
    (λ is. ⊎_elim (λ too. apart (ap (λ (x : Call ℕ × Answer ℕ). x.0) (sym is ∙ too)))
    (none_there (entry popped PoppedNone)) (split x (entry popped PoppedNone) [] second))
    (none_there (entry pushed (Truth true)))
    (split x (entry pushed (Truth true)) [] first)
refuted (x ∷ y ∷ []) legal invoked first second once real_time =
    ⊎_elim
    (λ is. ⊎_elim (λ too. apart (ap (λ (x : Call ℕ × Answer ℕ). x.0) (sym is ∙ too))) (λ next. in_turn is next) (either x y (entry popped PoppedNone) second))
    (λ is. ⊎_elim (λ front. swapped front is) (λ too. apart (ap (λ (x : Call ℕ × Answer ℕ). x.0) (sym is ∙ too))) (either x y (entry popped PoppedNone) second))
    (either x y (entry pushed (Truth true)) first)
  where
    -- The order in which the pop comes after the push is not legal, since the pop answers None.
    in_turn : x ≡ entry pushed (Truth true) → y ≡ entry popped PoppedNone → ⊥
    in_turn first_is second_is =
        not_legal
        (subst (λ x. Legal (x ∷ entry popped PoppedNone ∷ [])) first_is (subst (λ y. Legal (x ∷ y ∷ [])) second_is legal))

    -- the pop cannot come first, since the push had ended before it began
    swapped : x ≡ entry popped PoppedNone → y ≡ entry pushed (Truth true) → ⊥
    swapped first_is second_is =
        let never = real_time 0 1 x (omega arith) (omega arith) in
        let before : 1 < 2 = omega arith in
        never
        (subst (λ (x : Call ℕ × Answer ℕ). Precedes y.0 x.0) (sym first_is) (subst (λ (y : Call ℕ × Answer ℕ). Precedes y.0 popped) (sym second_is) before))
refuted (x ∷ y ∷ z ∷ rest) legal invoked first second once real_time =
    three_of_two pushed popped x.0 y.0 z.0
    (either pushed popped x.0 (invoked 0 x (omega arith)).1)
    (either pushed popped y.0 (invoked 1 x (omega arith)).1)
    (either pushed popped z.0 (invoked 2 x (omega arith)).1)
    (once 0 1 x (omega arith) (omega arith)) (once 0 2 x (omega arith) (omega arith)) (once 1 2 x (omega arith) (omega arith))

-- this history has no legal order
pub no_lost_value : IsLinearizable (as_list kinds.IndexQueue 1) too_late → ⊥
no_lost_value linearizable =
    refuted linearizable.sequential linearizable.legal linearizable.invoked
    (linearizable.completed 0 pushed (omega arith) refl)
    (linearizable.completed 1 popped (omega arith) refl)
    linearizable.once linearizable.real_time
