-- `Subscriber::receive_waiting` (src/subscriber.rt): its loop keeps its invariant, and its return meets the clauses `within`,
-- `oldest`, `rises`, `had` and `same`.
use Rattle.std.proofs.Common.{[], ◌∷◌, subst, ◌∙◌, arith}
use Rattle.model.specs.declared.event.Item.TheVariants.{Index}
use Rattle.lock_free_queues.specs.Queues.Contracts.{PopOldest}
use Rattle.zero_copy_loans.specs.Words.{word_of}
use Rattle.zero_copy_loans.specs.declared.words.Layout.{Layout}
use Rattle.zero_copy_bus.specs.Ends.{expected_at, number_of, received, receives_view}
use Rattle.zero_copy_bus.proofs.Rising.{delivers_rise}
use Rattle.zero_copy_bus.proofs.Tries.{waited_none, waited_then}
use Rattle.zero_copy_bus.proofs.subscriber.Subscriber.receive_waiting.Goals as goal

pub loop-init : goal.loop-init
loop-init g c = waited_none c.args.self.now

-- what came in this try comes behind what came in those before, and the slots are unchanged
pub loop-preserved : goal.loop-preserved
loop-preserved g c =
    let more = waited_then [] c.args.self.now c.loop.self c.receive.new.self c.loop.invariant c.in_default.ensures.had in
    record { came = more.0; had = more.1; slots = c.receive.ensures.same.0 ∙ c.loop.invariant.slots }

-- the slot of the sample is one of the publisher's slots, whose number has not changed
pub returns-in-Some-receive-clause-within : goal.returns-in-Some-receive-clause-within
returns-in-Some-receive-clause-within g c =
    let slots = c.loop.invariant.slots in
    let within = c.in-Some-receive.ensures.within in
    omega arith

-- the last try popped the word of this sample, made by the layout that has not changed
pub returns-in-Some-receive-clause-oldest : goal.returns-in-Some-receive-clause-oldest
returns-in-Some-receive-clause-oldest g c =
    let sample = c.in-Some-receive.sample in (
      receives_view c.loop.self,
      subst
          (λ (l : Layout).
          PopOldest (Index (word_of l.room (number_of sample) (received sample))) (receives_view c.loop.self) (receives_view c.receive.new.self))
          c.loop.invariant.had.layout c.in-Some-receive.ensures.oldest,
    )

-- the number of the sample is at least the one that was expected, and below the one expected now
pub returns-in-Some-receive-clause-rises : goal.returns-in-Some-receive-clause-rises
returns-in-Some-receive-clause-rises g c =
    let numbers = number_of c.in-Some-receive.sample ∷ [] in
    let more = waited_then numbers c.args.self.now c.loop.self c.receive.new.self c.loop.invariant c.in-Some-receive.ensures.had in
    delivers_rise (expected_at c.args.self.now) (expected_at c.receive.new.self) more.0 numbers more.1.delivers

pub returns-in-Some-receive-clause-had : goal.returns-in-Some-receive-clause-had
returns-in-Some-receive-clause-had g c =
    waited_then (number_of c.in-Some-receive.sample ∷ []) c.args.self.now c.loop.self c.receive.new.self c.loop.invariant c.in-Some-receive.ensures.had

-- the number of slots, the layout and the place are as before the loop
pub returns-in-Some-receive-clause-same : goal.returns-in-Some-receive-clause-same
returns-in-Some-receive-clause-same g c =
    let same = c.receive.ensures.same in
    let before = c.loop.invariant in
    (same.0 ∙ before.slots, same.1 ∙ before.had.layout, same.2 ∙ before.had.place)
