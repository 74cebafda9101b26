-- `Sender::finish_within` (src/ends/tries.rt): the invariant of its loop holds at the start and after each iteration, its result meets
-- the invariant of its type, and its return meets the clauses `sent`, `finished`, `end`, `steps`, `same`, `full` and `tried`.
use Rattle.std.proofs.Common.{refl, ap, ◌∙◌, ◌+◌, ◌*◌, arith}
use Rattle.history.specs.Steps.{TakesAtMost}
use Rattle.model.specs.declared.event.Item.TheVariants.{Value}
use Rattle.lock_free_queues.specs.Queues.Rings.{producer_view, producer_queue}
use Rattle.uses_streams.specs.declared.element.Element.TheVariants as elements
use Rattle.uses_streams.specs.Ends.{sender_queue, sender_view, sender_words}
use Rattle.uses_streams.specs.Streams.{has_values, values_in}
use Rattle.uses_streams.proofs.Streams.{finishes, pushes_none}
use Rattle.uses_streams.proofs.Tries.{refused_more, refused_all, steps_more, steps_within}
use Rattle.uses_streams.proofs.ends.Sender.finish_within.Goals as goal

pub loop-refused-init : goal.loop-refused-init
loop-refused-init g c = record { queue = refl; alone = c.args.self.alone; same = refl; full = refl; steps = omega arith }

-- each iteration keeps the invariant of the loop
pub loop-refused-preserved : goal.loop-refused-preserved
loop-refused-preserved g c =
    let l = c.loop-refused in
    let none = pushes_none c.push.ensures.same.goes (producer_queue l.producer).capacity _ l.invariant.alone (c.push.ensures.full c.if-push.false) in
    record {
      queue = c.push.ensures.same.queue ∙ l.invariant.queue;
      alone = none.0;
      same = none.1 ∙ l.invariant.same;
      full = refused_more l.invariant.queue (Value elements.End) l._refused
          (sender_view c.args.self) (producer_view l.producer) (producer_view c.push.new.self) l.invariant.full
          (c.push.ensures.full c.if-push.false);
      steps = steps_more (3 + sender_words c.args.self) l._refused (sender_view c.args.self) (producer_view l.producer)
          (producer_view c.push.new.self) l.invariant.steps c.push.ensures.steps;
    }

-- the result meets the invariant of its type
pub invariant_of-result : goal.invariant_of-result
invariant_of-result g c =
    let l = c.loop-refused in
    let done = finishes c.push.ensures.same.goes c.release-pass.ensures.same.goes l.invariant.alone (ap has_values l.invariant.same ∙ c.args.self.unended)
    (c.push.ensures.pushed c.if-push.true) c.release-pass.ensures.released c.release-pass.ensures.list in
    record { alone = done.alone }

-- the end and the role's return leave the values that were sent
pub returns-then-push-clause-sent : goal.returns-then-push-clause-sent
returns-then-push-clause-sent g c =
    let l = c.loop-refused in
    (finishes c.push.ensures.same.goes c.release-pass.ensures.same.goes l.invariant.alone (ap has_values l.invariant.same ∙ c.args.self.unended)
    (c.push.ensures.pushed c.if-push.true) c.release-pass.ensures.released c.release-pass.ensures.list).same
    ∙ ap values_in l.invariant.same

-- where `push` answers true, the end was pushed
pub returns-then-push-clause-finished : goal.returns-then-push-clause-finished
returns-then-push-clause-finished g c =
    let l = c.loop-refused in
    (finishes c.push.ensures.same.goes c.release-pass.ensures.same.goes l.invariant.alone (ap has_values l.invariant.same ∙ c.args.self.unended)
    (c.push.ensures.pushed c.if-push.true) c.release-pass.ensures.released c.release-pass.ensures.list).ended

-- where `push` answers true, the end was pushed once, after all values
pub returns-then-push-clause-end : goal.returns-then-push-clause-end
returns-then-push-clause-end g c =
    let l = c.loop-refused in
    (finishes c.push.ensures.same.goes c.release-pass.ensures.same.goes l.invariant.alone (ap has_values l.invariant.same ∙ c.args.self.unended)
    (c.push.ensures.pushed c.if-push.true) c.release-pass.ensures.released c.release-pass.ensures.list).once

-- where `push` answers true, the steps are those of the tries so far, and one for the role
pub returns-then-push-clause-steps : goal.returns-then-push-clause-steps
returns-then-push-clause-steps g c =
    let l = c.loop-refused in
    let tried : TakesAtMost (c.args.tries * (3 + sender_words c.args.self)) (sender_view c.args.self) (producer_view c.push.new.self) =
    steps_within (3 + sender_words c.args.self) (l._refused + 1) (sender_view c.args.self) c.args.tries (producer_view c.push.new.self)
    (omega arith)
    (steps_more (3 + sender_words c.args.self) l._refused (sender_view c.args.self) (producer_view l.producer)
    (producer_view c.push.new.self) l.invariant.steps c.push.ensures.steps) in
    let last = c.release-pass.ensures.steps in
    omega arith

pub returns-clause-same : goal.returns-clause-same
returns-clause-same g c = ap values_in c.loop-refused.invariant.same

-- all tries were refused
pub returns-clause-full : goal.returns-clause-full
returns-clause-full g c =
    let l = c.loop-refused in
    refused_all (sender_queue c.args.self).capacity l._refused c.args.tries (Value elements.End) (sender_view c.args.self)
    (producer_view l.producer) (omega arith) l.invariant.full

-- all tries together have at most the steps of so many pushes
pub returns-clause-tried : goal.returns-clause-tried
returns-clause-tried g c =
    let l = c.loop-refused in
    steps_within (3 + sender_words c.args.self) l._refused (sender_view c.args.self) c.args.tries (producer_view l.producer)
    (omega arith) l.invariant.steps
