-- `Receiver::receive_within` (src/ends/tries.rt): the invariant of its loop holds at the start and after each iteration, and its return
-- meets the clauses `queue`, `received`, `again`, `still`, `popped`, `steps` and `nothing`.
use Rattle.std.proofs.Common.{refl, sym, ap, ◌∙◌, ◌++◌, ◌∷◌, [], ◌+◌, append-nil, true≢false, arith}
use Rattle.model.specs.declared.event.Item.TheVariants.{Value}
use Rattle.uses_streams.specs.declared.element.Element.TheVariants as elements
use Rattle.uses_streams.specs.Ends.{receiver_view, receiver_words}
use Rattle.uses_streams.proofs.Tries.{empty_more, empty_all, popped_within, steps_more, steps_within}
use Rattle.uses_streams.proofs.ends.Receiver.receive_within.Goals as goal

pub loop-empty-init : goal.loop-empty-init
loop-empty-init g c = record { queue = refl; received = refl; going = c.args.self.now.came.1 ∙ c.if-self.false; empty = refl; steps = omega arith }

-- each iteration keeps the invariant of the loop
pub loop-empty-preserved : goal.loop-empty-preserved
loop-empty-preserved g c =
    let l = c.loop-empty in
    record {
      queue = c.receive.ensures.queue ∙ l.invariant.queue;
      received = c.in-Nothing.ensures.received ∙ (append-nil _ ∙ l.invariant.received);
      going = c.in-Nothing.ensures.end;
      empty = empty_more l._empty (receiver_view c.args.self.now) (receiver_view l.self) (receiver_view c.receive.new.self) l.invariant.empty
          c.in-Nothing.ensures.nothing;
      steps = steps_more (3 + receiver_words c.args.self.now) l._empty (receiver_view c.args.self.now) (receiver_view l.self)
          (receiver_view c.receive.new.self) l.invariant.steps c.receive.ensures.steps;
    }

pub returns-in-Value-clause-queue : goal.returns-in-Value-clause-queue
returns-in-Value-clause-queue g c = c.receive.ensures.queue ∙ c.loop-empty.invariant.queue

pub returns-in-Value-clause-received : goal.returns-in-Value-clause-received
returns-in-Value-clause-received g c =
    c.in-Value.ensures.received ∙ ap (λ xs. xs ++ c.in-Value.value ∷ []) c.loop-empty.invariant.received

pub returns-in-Value-clause-again : goal.returns-in-Value-clause-again
returns-in-Value-clause-again g c ended = absurd (true≢false (sym ended ∙ (c.args.self.now.came.1 ∙ c.if-self.false)))

pub returns-in-Value-clause-still : goal.returns-in-Value-clause-still
returns-in-Value-clause-still g c ended = absurd (true≢false (sym ended ∙ (c.args.self.now.came.1 ∙ c.if-self.false)))

-- the tries before found the queue empty, and this one popped the value
pub returns-in-Value-clause-popped : goal.returns-in-Value-clause-popped
returns-in-Value-clause-popped g c =
    let l = c.loop-empty in
    popped_within l._empty (receiver_view c.args.self.now) (receiver_view l.self) (receiver_view c.receive.new.self) l.invariant.empty
    c.args.tries (Value (elements.Value c.in-Value.value)) (omega arith) c.in-Value.ensures.popped

-- where a value arrives, the steps are those of the tries so far, and so of at most `tries`
pub returns-in-Value-clause-steps : goal.returns-in-Value-clause-steps
returns-in-Value-clause-steps g c =
    let l = c.loop-empty in
    steps_within (3 + receiver_words c.args.self.now) (l._empty + 1) (receiver_view c.args.self.now) c.args.tries
    (receiver_view c.receive.new.self) (omega arith)
    (steps_more (3 + receiver_words c.args.self.now) l._empty (receiver_view c.args.self.now) (receiver_view l.self)
    (receiver_view c.receive.new.self) l.invariant.steps c.receive.ensures.steps)

pub returns-in-End-clause-queue : goal.returns-in-End-clause-queue
returns-in-End-clause-queue g c = c.receive.ensures.queue ∙ c.loop-empty.invariant.queue

pub returns-in-End-clause-received : goal.returns-in-End-clause-received
returns-in-End-clause-received g c = c.in-End.ensures.received ∙ ap (λ xs. xs ++ []) c.loop-empty.invariant.received

pub returns-in-End-clause-still : goal.returns-in-End-clause-still
returns-in-End-clause-still g c ended = absurd (true≢false (sym ended ∙ (c.args.self.now.came.1 ∙ c.if-self.false)))

-- where the end arrives, the steps are those of the tries so far, and so of at most `tries`
pub returns-in-End-clause-steps : goal.returns-in-End-clause-steps
returns-in-End-clause-steps g c =
    let l = c.loop-empty in
    steps_within (3 + receiver_words c.args.self.now) (l._empty + 1) (receiver_view c.args.self.now) c.args.tries
    (receiver_view c.receive.new.self) (omega arith)
    (steps_more (3 + receiver_words c.args.self.now) l._empty (receiver_view c.args.self.now) (receiver_view l.self)
    (receiver_view c.receive.new.self) l.invariant.steps c.receive.ensures.steps)

pub returns-clause-received : goal.returns-clause-received
returns-clause-received g c = c.loop-empty.invariant.received ∙ sym (append-nil _)

pub returns-clause-again : goal.returns-clause-again
returns-clause-again g c ended = absurd (true≢false (sym ended ∙ (c.args.self.now.came.1 ∙ c.if-self.false)))

pub returns-clause-still : goal.returns-clause-still
returns-clause-still g c ended = absurd (true≢false (sym ended ∙ (c.args.self.now.came.1 ∙ c.if-self.false)))

-- all tries found the queue empty
pub returns-clause-nothing : goal.returns-clause-nothing
returns-clause-nothing g c =
    let l = c.loop-empty in
    empty_all l._empty c.args.tries (receiver_view c.args.self.now) (receiver_view l.self) (omega arith) l.invariant.empty

-- all tries together have at most the steps of so many receives
pub returns-clause-steps : goal.returns-clause-steps
returns-clause-steps g c =
    let l = c.loop-empty in
    steps_within (3 + receiver_words c.args.self.now) l._empty (receiver_view c.args.self.now) c.args.tries (receiver_view l.self)
    (omega arith) l.invariant.steps
