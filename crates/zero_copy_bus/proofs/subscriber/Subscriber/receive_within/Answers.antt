-- `Subscriber::receive_within` (src/subscriber.rt): its loop keeps its invariant, and its return meets the clauses `within`,
-- `oldest`, `rises`, `had`, `tried` and `same`.
use Rattle.std.proofs.Common.{◌≡◌, [], ◌∷◌, refl, subst, ◌∙◌, arith}
use Rattle.model.specs.declared.event.Item.TheVariants.{Index}
use Rattle.lock_free_queues.specs.Queues.Contracts.{PopOldest}
use Rattle.zero_copy_loans.specs.Words.{word_of}
use Rattle.zero_copy_loans.specs.declared.words.Layout.{Layout}
use Rattle.zero_copy_bus.specs.Ends.{expected_at, number_of, received, receives_view, TriedToReceive}
use Rattle.zero_copy_bus.proofs.Rising.{delivers_rise}
use Rattle.zero_copy_bus.proofs.Tries.{waited_none, waited_then}
use Rattle.zero_copy_bus.proofs.subscriber.Subscriber.receive_within.Goals as goal

pub loop-init : goal.loop-init
loop-init g c = record { waited = waited_none c.args.self.now; tried = ([], refl, refl) }

pub loop-preserved : goal.loop-preserved
loop-preserved g c =
    let more = waited_then [] c.args.self.now c.loop.self c.receive.new.self c.loop.invariant.waited c.in_default.ensures.had in
    let tried = c.loop.invariant.tried in
    record {
      waited = record { came = more.0; had = more.1; slots = c.receive.ensures.same.0 ∙ c.loop.invariant.waited.slots };
      tried = (c.loop.self ∷ tried.0, omega (arith, tried.1), (tried.2, c.in_default.ensures.none));
    }

-- the slot of the sample is one of the publisher's slots, whose number has not changed
pub returns-in-Some-clause-within : goal.returns-in-Some-clause-within
returns-in-Some-clause-within g c =
    let slots = c.loop.invariant.waited.slots in
    let within = c.in-Some.ensures.within in
    omega arith

-- the last try popped the word of this sample, made by the layout that has not changed
pub returns-in-Some-clause-oldest : goal.returns-in-Some-clause-oldest
returns-in-Some-clause-oldest g c =
    let sample = c.in-Some.sample in (
      receives_view c.loop.self,
      subst
          (λ (l : Layout).
          PopOldest (Index (word_of l.room (number_of sample) (received sample))) (receives_view c.loop.self) (receives_view c.receive.new.self))
          c.loop.invariant.waited.had.layout c.in-Some.ensures.oldest,
    )

-- the number of the sample is at least the one that was expected, and below the one expected now
pub returns-in-Some-clause-rises : goal.returns-in-Some-clause-rises
returns-in-Some-clause-rises g c =
    let numbers = number_of c.in-Some.sample ∷ [] in
    let more = waited_then numbers c.args.self.now c.loop.self c.receive.new.self c.loop.invariant.waited c.in-Some.ensures.had in
    delivers_rise (expected_at c.args.self.now) (expected_at c.receive.new.self) more.0 numbers more.1.delivers

pub returns-in-Some-clause-had : goal.returns-in-Some-clause-had
returns-in-Some-clause-had g c =
    waited_then (number_of c.in-Some.sample ∷ []) c.args.self.now c.loop.self c.receive.new.self c.loop.invariant.waited c.in-Some.ensures.had

-- the number of slots, the layout and the place are as before the loop
pub returns-in-Some-clause-same : goal.returns-in-Some-clause-same
returns-in-Some-clause-same g c =
    let same = c.receive.ensures.same in
    let before = c.loop.invariant.waited in
    (same.0 ∙ before.slots, same.1 ∙ before.had.layout, same.2 ∙ before.had.place)

pub returns-clause-rises : goal.returns-clause-rises
returns-clause-rises g c =
    let before = c.loop.invariant.waited in
    delivers_rise (expected_at c.args.self.now) (expected_at c.loop.self) before.came [] before.had.delivers

pub returns-clause-had : goal.returns-clause-had
returns-clause-had g c = (c.loop.invariant.waited.came, c.loop.invariant.waited.had)

pub returns-clause-same : goal.returns-clause-same
returns-clause-same g c = (c.loop.invariant.waited.slots, c.loop.invariant.waited.had.layout, c.loop.invariant.waited.had.place)

-- all tries were made
pub returns-clause-tried : goal.returns-clause-tried
returns-clause-tried g c =
    let all : c.loop.counter ≡ c.args.tries = omega arith in
    subst (λ n. TriedToReceive n c.args.self.now c.loop.self) all c.loop.invariant.tried
