-- What the loops of `push_all`, `pop_all` and the calls that wait have done after one value more.
use Rattle.std.proofs.Common.{◌≡◌, ◌+◌, ◌-◌, ◌<◌, ◌≤◌, ℕ, true, Some, List, [], ◌∷◌, ◌++◌, length, take, drop, set, get_or}
use Rattle.std.proofs.Common.{refl, sym, ap, subst, ◌∙◌, length-drop, arith}
use Rattle.std.proofs.lemmas.Grind.{drop_more_same}
use Rattle.std.proofs.lemmas.List.{take_more, take_more_set, drop_more, drop_all, drop-set-lt}
use Rattle.steps.specs.declared.words.Words.{Ghosts}
use Rattle.model.specs.declared.event.Item.{Item}
use Rattle.history.specs.declared.view.View.{View}
use Rattle.lock_free_queues.specs.declared.spsc.ring.rule.Kind as kinds
use Rattle.lock_free_queues.specs.declared.spsc.ring.Producer.{Producer}
use Rattle.lock_free_queues.specs.declared.spsc.ring.Consumer.{Consumer}
use Rattle.lock_free_queues.specs.Queues.Contracts.{PushDone, PushRefused, PopDone, PopEmpty}
use Rattle.lock_free_queues.specs.Queues.Relays.{Sending, Receiving}
use Rattle.lock_free_queues.specs.Queues.Rings.{producer_view, consumer_view, SameProducer, SameConsumer}
use Rattle.lock_free_queues.proofs.Queues.Relays.{sending_one, receiving_one}
use Rattle.uses_streams.specs.Tries.{InTurn, WerePushed, WasStopped, WerePushedUpTo, WasEmptied, WerePopped, WerePoppedUpTo}

-- a list of steps goes on by one more element
in_turn_more : {A B : Type 0} (Step : B → A → A → Type 0) (xs : List B) (x : B) (old now new : A) → InTurn Step xs old now
    → Step x now new → InTurn Step (xs ++ x ∷ []) old new
in_turn_more Step [] x old now new same next = (new, subst (λ v. Step x v new) same next, refl)
in_turn_more Step (y ∷ xs) x old now new each next = (each.0, each.1, in_turn_more Step xs x each.0 now new each.2 next)

module _ {T V : Type 0} (named : V → Item T) where
  -- ---- pushes of the values of a list

  module _ (values : List V) (n : ℕ) (value : V) (below : n < length values) (is : value ≡ get_or values n value) (old now new : View T)
      (so_far : WerePushed named (take n values) old now) where
    -- A push of the next value after those before it has pushed one value more of the list.
    pub pushed_next : PushDone (named value) now new → WerePushed named (take (n + 1) values) old new
    pushed_next pushed =
        subst (λ xs. WerePushed named xs old new)
        (sym (take_more values n value below ∙ ap (λ x. take n values ++ x ∷ []) (sym is)))
        (in_turn_more (λ x was next. PushDone (named x) was next) (take n values) value old now new so_far pushed)

    -- where a value is refused, those before it were pushed
    pub pushed_so_many : (capacity : ℕ) → PushRefused capacity (named value) now new → WerePushedUpTo named capacity n values old new
    pushed_so_many capacity full =
        record {
          last = now;
          pushed = so_far;
          stopped =
              subst (λ xs. WasStopped named capacity xs now new)
              (sym (drop_more values n value below ∙ ap (λ x. x ∷ drop (n + 1) values) (sym is))) full;
        }

  -- where as many were pushed as there are, all were pushed
  pub pushed_them_all : (values : List V) (n m : ℕ) (old now : View T) → WerePushed named (take n values) old now → n ≡ m
      → length values ≤ m → (capacity : ℕ) → WerePushedUpTo named capacity m values old now
  pushed_them_all values n m old now so_far same past capacity =
      record {
        last = now;
        pushed = subst (λ k. WerePushed named (take k values) old now) same so_far;
        stopped = subst (λ xs. WasStopped named capacity xs now now) (sym (drop_all m values past)) refl;
      }

  -- ---- pops into a list

  -- a value that is popped is written at its place in the list
  pub popped_next : (values : List V) (n : ℕ) (value : V) (old now new : View T) → n < length values
      → WerePopped named (take n values) old now → PopDone (named value) now new
      → WerePopped named (take (n + 1) (set values n value)) old new
  popped_next values n value old now new below so_far popped =
      subst (λ xs. WerePopped named xs old new) (sym (take_more_set values n value below))
      (in_turn_more (λ x was next. PopDone (named x) was next) (take n values) value old now new so_far popped)

  emptied : (room : List V) (now new : View T) → 0 < length room → PopEmpty now new → WasEmptied room now new
  emptied [] now new some empty = absurd (omega arith)
  emptied (x ∷ room) now new some empty = empty

  -- where a pop finds nothing, the list has what was popped before, and its rest as it was
  pub popped_so_many : (values : List V) (n : ℕ) (old now new : View T) → n < length values
      → WerePopped named (take n values) old now → PopEmpty now new
      → WerePoppedUpTo named (take n values) (drop n values) old new
  popped_so_many values n old now new below so_far empty =
      record {
        last = now;
        popped = so_far;
        stopped = emptied (drop n values) now new (omega (arith, length-drop n values)) empty;
      }

  -- where as many were popped as the list has places, all of them were
  pub popped_them_all : (values : List V) (n m : ℕ) (old now : View T) → WerePopped named (take n values) old now → n ≡ m
      → length values ≤ m → WerePoppedUpTo named (take m values) (drop m values) old now
  popped_them_all values n m old now so_far same past =
      record {
        last = now;
        popped = subst (λ k. WerePopped named (take k values) old now) same so_far;
        stopped = subst (λ xs. WasEmptied xs now now) (sym (drop_all m values past)) refl;
      }

-- what is left of a list stays as it was
pub rest_stays : {V : Type 0} (first values : List V) (n : ℕ) (value : V) → drop n values ≡ drop n first
    → drop (n + 1) (set values n value) ≡ drop (n + 1) first
rest_stays first values n value same = drop-set-lt (n + 1) values n value (omega arith) ∙ drop_more_same values first n same

-- The loop has passed on the first `n` values of a list. This is what it has done once it has passed on `value` too.
module _ {E T : Type 0} {kind : kinds.Ghosts E} {words : Ghosts T} (named : T → Item T) (values : List T) (n : ℕ) (value : T)
    (below : n < length values) where
  -- A producer that pushes one value more has sent one more of the list.
  pub sends_next : {first was now : Producer E T kind words} → Sending named first (take n values) was → value ≡ get_or values n value
      → SameProducer was now → PushDone (named value) (producer_view was) (producer_view now) → Sending named first (take (n + 1) values) now
  sends_next {first} {was} {now} s is same pushed =
      subst (λ xs. Sending named first xs now) (sym (take_more values n value below ∙ ap (λ x. take n values ++ x ∷ []) (sym is)))
      (sending_one {first = first} {was = was} {now = now} {taken = true} (take n values) value s same refl (λ is_true. pushed))

  -- a consumer that pops one value more has received one more
  pub receives_next : {first was now : Consumer E T kind words} → Receiving named first (take n values) was
      → SameConsumer was now → PopDone (named value) (consumer_view was) (consumer_view now)
      → Receiving named first (take (n + 1) (set values n value)) now
  receives_next {first} {was} {now} s same popped =
      receiving_one {first = first} {was = was} {now = now} {answer = Some value} (take n values) (take (n + 1) (set values n value)) value
      s same popped refl (take_more_set values n value below)
