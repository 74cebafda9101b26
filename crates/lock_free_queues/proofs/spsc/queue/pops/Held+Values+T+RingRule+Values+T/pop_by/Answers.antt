-- `Held::pop_by` (src/spsc/queue/pops.rt): its call of `drive` meets the requirements `rule` and `at`, and its return meets the clauses
-- `popped`, `empty`, `taken` and `steps`.
use Rattle.lock_free_queues.proofs.Names.{◌<◌, ◌^◌, IfSome, IfNone, sym, ap, subst, ◌∙◌, option_map, Coding, IsCoding}
use Rattle.lock_free_queues.proofs.Names.{coding_by, Value, Queue, of_values, At, value_there, pops_value}
use Rattle.lock_free_queues.proofs.Names.{value_pop_keeps, value_pop_first}
use Rattle.steps.specs.Queues.Ring.{first_pop, pop_answer}
use Rattle.model.specs.declared.turn.Kind.TheVariants as kinds
use Rattle.history.specs.Rooms.{room_of}
use Rattle.history.proofs.Rooms.{room_fresh}
use Rattle.lock_free_queues.specs.Queues.Values.{token_view}
use Rattle.lock_free_queues.specs.Queues.Contracts.{HasPopped, HasTakenOut, WasEmpty}
use Rattle.lock_free_queues.proofs.Queues.Ended.{has_popped, taken_if, empty_if}
use Rattle.lock_free_queues.proofs.Queues.Values.{value_of, value_pop}
use Rattle.lock_free_queues.proofs.Queues.Paid.{value_pop_takes}
use Rattle.lock_free_queues.proofs.spsc.queue.pops.Held+Values+T+RingRule+Values+T.pop_by.Goals as goal

-- each step of the pop keeps the rule of the table, and tells what is known after it
pub drive-end-requires-clause-rule : goal.drive-end-requires-clause-rule
drive-end-requires-clause-rule g c base v call m key =
    let met = g.met.T.Words in
    let code : Coding g.row.T.Denot = coding_by g.T.Words in
    let law : IsCoding code = record { some = met.some; few = met.few; sized = met.sized; given_back = met.given_back } in
    value_pop_keeps code law g.R.Room.words_in g.R.Room.with_word g.met.R.Room.put_in base v call m key.capacity

-- the pop is about to begin with a room of zeros, as a call that its queue does not refuse to the consumer
pub drive-end-requires-clause-at : goal.drive-end-requires-clause-at
drive-end-requires-clause-at g c =
    let mine = c.args.self.now in
    let v = token_view mine in
    let met = g.met.T.Words in
    let code : Coding g.row.T.Denot = coding_by g.T.Words in
    let law : IsCoding code = record { some = met.some; few = met.few; sized = met.sized; given_back = met.given_back } in
    let room = c.requires.room in
    let zeros = ap (room_of code.size) room.3 ∙ room_fresh code.size room.0 room.1 room.2 in
    subst (λ call. At code kinds.Queue (pops_value code g.R.Room.words_in) v v call c.args.room)
    (ap first_pop mine.known ∙ sym c.new-call.ensures)
    (value_pop_first code law g.R.Room.words_in g.R.Room.with_word g.met.R.Room.put_in v c.args.room zeros mine.idle
    mine.alone mine.some.0 (subst (λ n. n < 2 ^ 32) (sym mine.known) mine.small) c.requires.role)

-- the pop is a call of the history, which took out the value that it answers
pub returns-clause-popped : goal.returns-clause-popped
returns-clause-popped g c =
    let mine = c.args.self.now in
    let code : Coding g.row.T.Denot = coding_by g.T.Words in
    let x = token_view mine in
    let w = c.drive-end.new.self.seat.me.0 in
    subst (λ z. HasPopped (option_map (value_of code) z) x w) (sym c.answer.ensures)
    (has_popped Queue mine.idle (value_pop code g.R.Room.words_in) c.drive-end.ensures.end)

-- a pop that answers None found nothing waiting
pub returns-clause-empty : goal.returns-clause-empty
returns-clause-empty g c =
    let mine = c.args.self.now in
    let code : Coding g.row.T.Denot = coding_by g.T.Words in
    let x = token_view mine in
    let w = c.drive-end.new.self.seat.me.0 in
    let ends = c.drive-end.ensures.end in
    let o = pop_answer (value_there code g.R.Room.words_in c.drive-end.new.room) c.drive-end.result in
    subst (λ z. IfNone z (WasEmpty x w)) (sym c.answer.ensures)
    (empty_if code of_values (value_of code) x.capacity x w ends.history o
    (has_popped Queue mine.idle (value_pop code g.R.Room.words_in) ends))

-- a pop that answers a value took it out right after all that was seen to be taken out
pub returns-clause-taken : goal.returns-clause-taken
returns-clause-taken g c =
    let mine = c.args.self.now in
    let code : Coding g.row.T.Denot = coding_by g.T.Words in
    let x = token_view mine in
    let w = c.drive-end.new.self.seat.me.0 in
    let ends = c.drive-end.ensures.end in
    let o = pop_answer (value_there code g.R.Room.words_in c.drive-end.new.room) c.drive-end.result in
    subst (λ z. IfSome z (λ k. HasTakenOut (Value k) x w)) (sym c.answer.ensures)
    (taken_if code of_values (value_of code) x.capacity x w ends.history o
    (has_popped Queue mine.idle (value_pop code g.R.Room.words_in) ends))

-- the operations that the call has asked for are within clause `steps`
pub returns-clause-steps : goal.returns-clause-steps
returns-clause-steps g c = value_pop_takes c.args.self.now.idle g.R.Room.words_in c.drive-end.ensures.end
