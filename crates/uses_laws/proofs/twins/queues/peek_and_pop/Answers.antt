-- `peek_and_pop` (src/twins/queues.rt): its return meets the clauses `same`, `taken` and `counted`.
use Rattle.std.proofs.Common.{IfSome, IfNone, Option, None, Some, ◌≡◌, ℕ, ap, subst, ◌∙◌, ◌++◌, ◌∷◌, [], arith}
use Rattle.std.specs.Option.{option_map}
use Rattle.lock_free.specs.HistoryView.View.{View}
use Rattle.lock_free.specs.Coding.{one_word}
use Rattle.model.specs.declared.families.queues.QueueKind.TheVariants.{IndexQueue}
use Rattle.lock_free.specs.Queues.Calls.{consumer_queue, consumer_view}
use Rattle.lock_free.specs.Queues.Contracts.{HasPeeked, HasTakenOut, PopDone, PopEmpty, WasEmpty}
use Rattle.lock_free.specs.Queues.Item.{Item}
use Rattle.lock_free.specs.Queues.Item.TheVariants.{Index}
use Rattle.uses_laws.proofs.twins.queues.peek_and_pop.Goals as goal

abbrev named : ℕ → Item ℕ
named n = Index n

-- what a pop says of its answer, as an item
took : (old new : View ℕ) (answer : Option ℕ) → IfSome answer (λ x. PopDone (Index x) old new)
    → IfSome (option_map named answer) (λ x. HasTakenOut x old new)
took old new None done = tt
took old new (Some x) done = done.1

none : (old new : View ℕ) (answer : Option ℕ) → IfNone answer (PopEmpty old new) → IfNone (option_map named answer) (WasEmpty old new)
none old new None empty = empty.1
none old new (Some x) empty = tt

same_number : (answer : Option ℕ) (number : ℕ) → option_map named answer ≡ Some (Index number) → answer ≡ Some number
same_number None number e = absurd (cc)
same_number (Some x) number e = cc

-- where the peek answered a number, the pop answers it too
pub returns-clause-same : goal.returns-clause-same
returns-clause-same c number is =
    let start = consumer_view c.args.consumer.now in
    let was = consumer_view c.peek-seen.new.self in
    let new = consumer_view c.pop-popped.new.self in
    let peek : HasPeeked (Some (Index number)) start was = subst (λ r. HasPeeked (option_map named r) start was) is c.peek-seen.ensures.peeked in
    same_number c.pop-popped.result number
    (c.peeks_tell_pops.ensures one_word IndexQueue (consumer_queue c.pop-popped.new.self).capacity (Index number) (option_map named c.pop-popped.result)
    start was new c.history.ensures.history peek (took was new c.pop-popped.result c.pop-popped.ensures.popped)
    (none was new c.pop-popped.result c.pop-popped.ensures.empty))

-- a number that the pop answers was taken out right after all that was seen to be taken out
pub returns-clause-taken : goal.returns-clause-taken
returns-clause-taken c number is =
    let was = consumer_view c.peek-seen.new.self in
    let new = consumer_view c.pop-popped.new.self in
    let done : PopDone (Index number) was new = subst (λ r. IfSome r (λ x. PopDone (Index x) was new)) is c.pop-popped.ensures.popped in
    done.1.list ∙ ap (λ xs. xs ++ Index number ∷ []) c.peek-seen.ensures.peeked.list

-- a pop that answers a number, with the peek before it, counts one more as taken out by the pass
pub returns-clause-counted : goal.returns-clause-counted
returns-clause-counted c number is =
    let start = consumer_view c.args.consumer.now in
    let was = consumer_view c.peek-seen.new.self in
    let new = consumer_view c.pop-popped.new.self in
    let done : PopDone (Index number) was new = subst (λ r. IfSome r (λ x. PopDone (Index x) was new)) is c.pop-popped.ensures.popped in
    let one = (c.calls_are_counted.ensures.popped (Index number) was new done.0).gets_more in
    let none = (c.calls_are_counted.ensures.peeked (option_map named c.peek-seen.result) start was c.peek-seen.ensures.peeked).gets_more in
    omega arith
