-- `Sender::send_within` (src/ends/tries.rt): the invariant of its loop holds at the start and after each iteration, and its return meets
-- the clauses `queue`, `sent`, `pushed`, `steps` and `full`.
use Rattle.std.proofs.Common.{refl, ap, ◌∙◌, ◌++◌, ◌∷◌, [], ◌+◌, arith}
use Rattle.model.specs.declared.event.Item.TheVariants.{Value}
use Rattle.uses_streams.specs.declared.element.Element.TheVariants as elements
use Rattle.uses_streams.specs.Ends.{sender_queue, sender_view, sender_words}
use Rattle.uses_streams.proofs.Tries.{refused_more, refused_all, pushed_within, steps_more, steps_within}
use Rattle.uses_streams.proofs.ends.Sender.send_within.Goals as goal

pub loop-refused-init : goal.loop-refused-init
loop-refused-init g c = record { queue = refl; same = refl; full = refl; steps = omega arith }

-- each iteration keeps the invariant of the loop
pub loop-refused-preserved : goal.loop-refused-preserved
loop-refused-preserved g c =
    let l = c.loop-refused in
    record {
      queue = c.send.ensures.queue ∙ l.invariant.queue;
      same = c.send.ensures.same c.if-send.false ∙ l.invariant.same;
      full = refused_more l.invariant.queue (Value (elements.Value c.args.value))
          l._refused (sender_view c.args.self.now) (sender_view l.self) (sender_view c.send.new.self) l.invariant.full
          (c.send.ensures.full c.if-send.false);
      steps = steps_more (3 + sender_words c.args.self.now) l._refused (sender_view c.args.self.now) (sender_view l.self)
          (sender_view c.send.new.self) l.invariant.steps c.send.ensures.steps;
    }

pub returns-then-send-clause-queue : goal.returns-then-send-clause-queue
returns-then-send-clause-queue g c = c.send.ensures.queue ∙ c.loop-refused.invariant.queue

pub returns-then-send-clause-sent : goal.returns-then-send-clause-sent
returns-then-send-clause-sent g c is =
    c.send.ensures.sent c.if-send.true ∙ ap (λ xs. xs ++ c.args.value ∷ []) c.loop-refused.invariant.same

-- where `send` answers true, the tries before were refused, and this one pushed the value
pub returns-then-send-clause-pushed : goal.returns-then-send-clause-pushed
returns-then-send-clause-pushed g c is =
    let l = c.loop-refused in
    pushed_within l.invariant.queue (Value (elements.Value c.args.value))
    l._refused (sender_view c.args.self.now) (sender_view l.self) (sender_view c.send.new.self) l.invariant.full c.args.tries
    (omega arith) (c.send.ensures.pushed c.if-send.true)

-- where `send` answers true, the steps are those of the tries so far, and so of at most `tries`
pub returns-then-send-clause-steps : goal.returns-then-send-clause-steps
returns-then-send-clause-steps g c =
    let l = c.loop-refused in
    steps_within (3 + sender_words c.args.self.now) (l._refused + 1) (sender_view c.args.self.now) c.args.tries (sender_view c.send.new.self)
    (omega arith)
    (steps_more (3 + sender_words c.args.self.now) l._refused (sender_view c.args.self.now) (sender_view l.self)
    (sender_view c.send.new.self) l.invariant.steps c.send.ensures.steps)

-- all tries were refused
pub returns-clause-full : goal.returns-clause-full
returns-clause-full g c is =
    let l = c.loop-refused in
    refused_all (sender_queue c.args.self.now).capacity l._refused c.args.tries (Value (elements.Value c.args.value))
    (sender_view c.args.self.now) (sender_view l.self) (omega arith) l.invariant.full

-- all tries together have at most the steps of so many sends
pub returns-clause-steps : goal.returns-clause-steps
returns-clause-steps g c =
    let l = c.loop-refused in
    steps_within (3 + sender_words c.args.self.now) l._refused (sender_view c.args.self.now) c.args.tries (sender_view l.self)
    (omega arith) l.invariant.steps
