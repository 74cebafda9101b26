-- `Receiver::receive` (src/ends/calls.rt): `self` meets the invariant of its type, and its return meets the clauses `received`, `end`,
-- `again`, `still`, `popped` and `nothing`.
use Rattle.std.proofs.Common.{◌++◌, sym, ap, subst, ◌∙◌, true≢false}
use Rattle.model.specs.declared.event.Item.TheVariants.{Value}
use Rattle.lock_free_queues.specs.Queues.Contracts.{PopDone, PopEmpty}
use Rattle.lock_free_queues.specs.Queues.Rings.{consumer_view}
use Rattle.uses_streams.specs.declared.element.Element.TheVariants as elements
use Rattle.uses_streams.specs.Ends.{arrived, is_end, IfNothing, IfValue}
use Rattle.uses_streams.specs.Streams.{values_in, popped_by, CameUpTo}
use Rattle.uses_streams.proofs.Streams.{receives, found_nothing, found_value}
use Rattle.uses_streams.proofs.ends.Receiver.receive.Goals as goal

-- `self` still meets the invariant of its type
pub invariant_of-self : goal.invariant_of-self
invariant_of-self g c =
    let came = receives c.pop.ensures.same.goes c.pop.result c.if-self.false c.args.self.now.alone c.args.self.now.came
    c.pop.ensures.popped c.pop.ensures.empty in
    record {
      alone = came.0;
      came = subst (λ b. CameUpTo b (popped_by (consumer_view c.pop.new.self))) (sym (c.is_end-self.ensures ∙ ap is_end c.of-arrival.ensures)) came.1;
    }

-- what arrived comes behind what was received before
pub returns-clause-received : goal.returns-clause-received
returns-clause-received g c =
    (receives c.pop.ensures.same.goes c.pop.result c.if-self.false c.args.self.now.alone c.args.self.now.came
    c.pop.ensures.popped c.pop.ensures.empty).2
    ∙ ap (λ a. values_in (popped_by (consumer_view c.args.self.now.consumer)) ++ arrived a) (sym c.of-arrival.ensures)

-- the receiver is at the end if the end arrived
pub returns-clause-end : goal.returns-clause-end
returns-clause-end g c =
    (receives c.pop.ensures.same.goes c.pop.result c.if-self.false c.args.self.now.alone c.args.self.now.came
    c.pop.ensures.popped c.pop.ensures.empty).3
    ∙ ap is_end (sym c.of-arrival.ensures)

pub returns-clause-again : goal.returns-clause-again
returns-clause-again g c ended = absurd (true≢false (sym ended ∙ (c.args.self.now.came.1 ∙ c.if-self.false)))

pub returns-clause-still : goal.returns-clause-still
returns-clause-still g c ended = absurd (true≢false (sym ended ∙ (c.args.self.now.came.1 ∙ c.if-self.false)))

-- a value that arrived was popped
pub returns-clause-popped : goal.returns-clause-popped
returns-clause-popped g c =
    subst (λ a. IfValue a (λ x. PopDone (Value (elements.Value x)) (consumer_view c.args.self.now.consumer) (consumer_view c.pop.new.self)))
    (sym c.of-arrival.ensures)
    (found_value (consumer_view c.args.self.now.consumer) (consumer_view c.pop.new.self) c.pop.result c.pop.ensures.popped)

-- where nothing arrived, the queue was found empty
pub returns-clause-nothing : goal.returns-clause-nothing
returns-clause-nothing g c =
    subst (λ a. IfNothing a (PopEmpty (consumer_view c.args.self.now.consumer) (consumer_view c.pop.new.self))) (sym c.of-arrival.ensures)
    (found_nothing (consumer_view c.args.self.now.consumer) (consumer_view c.pop.new.self) c.pop.result c.pop.ensures.empty)
