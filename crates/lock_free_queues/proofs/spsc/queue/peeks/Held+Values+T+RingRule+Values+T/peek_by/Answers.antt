-- `Held::peek_by` (src/spsc/queue/peeks.rt): its call of `drive` meets the requirements `rule` and `at`, and its return meets the
-- clauses `peeked`, `roles` and `steps`.
use Rattle.lock_free_queues.proofs.Names.{◌<◌, ◌^◌, sym, ap, subst, ◌∙◌, option_map, Coding, IsCoding}
use Rattle.lock_free_queues.proofs.Names.{coding_by, Queue, At, peeks_value}
use Rattle.lock_free_queues.proofs.Names.{value_peek_keeps, value_peek_first}
use Rattle.steps.specs.Queues.Peek.{first_peek}
use Rattle.model.specs.declared.turn.Kind.TheVariants as kinds
use Rattle.history.specs.Rooms.{room_of}
use Rattle.history.proofs.Rooms.{room_fresh}
use Rattle.lock_free_queues.specs.Queues.Values.{token_view}
use Rattle.lock_free_queues.specs.Queues.Contracts.{HasPeeked}
use Rattle.lock_free_queues.proofs.Queues.Peeks.{has_peeked}
use Rattle.lock_free_queues.proofs.Queues.Sums.{peeked_moves}
use Rattle.lock_free_queues.proofs.Queues.Values.{value_of, value_peek}
use Rattle.lock_free_queues.proofs.Queues.Paid.{value_peek_takes}
use Rattle.lock_free_queues.proofs.spsc.queue.peeks.Held+Values+T+RingRule+Values+T.peek_by.Goals as goal

-- each step of the peek keeps the rule of the table, and tells what is known after it
pub drive-end-requires-clause-rule : goal.drive-end-requires-clause-rule
drive-end-requires-clause-rule g c base v call m key =
    let met = g.met.T.Words in
    let code : Coding g.row.T.Denot = coding_by g.T.Words in
    let law : IsCoding code = record { some = met.some; few = met.few; sized = met.sized; given_back = met.given_back } in
    value_peek_keeps code law g.R.Room.words_in g.R.Room.with_word g.met.R.Room.put_in base v call m key.capacity

-- the peek is about to begin with a room of zeros, as a call that its queue does not refuse to the consumer
pub drive-end-requires-clause-at : goal.drive-end-requires-clause-at
drive-end-requires-clause-at g c =
    let mine = c.args.self.now in
    let v = token_view mine in
    let met = g.met.T.Words in
    let code : Coding g.row.T.Denot = coding_by g.T.Words in
    let law : IsCoding code = record { some = met.some; few = met.few; sized = met.sized; given_back = met.given_back } in
    let room = c.requires.room in
    let zeros = ap (room_of code.size) room.3 ∙ room_fresh code.size room.0 room.1 room.2 in
    subst (λ call. At code kinds.Queue (peeks_value code g.R.Room.words_in) v v call c.args.room)
    (ap first_peek mine.known ∙ sym c.new-call.ensures)
    (value_peek_first code law g.R.Room.words_in g.R.Room.with_word g.met.R.Room.put_in v c.args.room zeros mine.idle
    mine.alone mine.some.0 (subst (λ n. n < 2 ^ 32) (sym mine.known) mine.small) c.requires.role)

-- the peek answers the oldest value that waits as it ends, and since all that was seen none was taken out
pub returns-clause-peeked : goal.returns-clause-peeked
returns-clause-peeked g c =
    let mine = c.args.self.now in
    let code : Coding g.row.T.Denot = coding_by g.T.Words in
    let x = token_view mine in
    let w = c.drive-end.new.self.seat.me.0 in
    subst (λ z. HasPeeked (option_map (value_of code) z) x w) (sym c.answer.ensures)
    (has_peeked Queue mine.idle tt (value_peek code g.R.Room.words_in) c.drive-end.ensures.end)

-- the call moves no role (clause `roles`)
pub returns-clause-roles : goal.returns-clause-roles
returns-clause-roles g c r =
    let code : Coding g.row.T.Denot = coding_by g.T.Words in
    peeked_moves (token_view c.args.self.now) c.drive-end.new.self.seat.me.0 (option_map (value_of code) c.answer.result)
    (returns-clause-peeked g c) r

-- the operations that the call has asked for are within clause `steps`
pub returns-clause-steps : goal.returns-clause-steps
returns-clause-steps g c = value_peek_takes c.args.self.now.idle g.R.Room.words_in c.drive-end.ensures.end
