-- `Held::is_taken` (src/spsc/ring/calls.rt): its call of `drive` meets the requirements `rule` and `at`, and its return meets the
-- clauses `answer`, `roles` and `steps`.
use Rattle.lock_free_queues.proofs.Names.{sym, subst, ◌∙◌, Coding, IsCoding, coding_by, looks_role, At}
use Rattle.lock_free_queues.proofs.Names.{look_first_on}
use Rattle.lock_free_queues.specs.Queues.Bounded.{machine_kind}
use Rattle.lock_free_queues.proofs.Queues.Kinds.{looks_keep}
use Rattle.lock_free_queues.specs.Queues.Rings.{token_view}
use Rattle.lock_free_queues.proofs.Queues.Peeks.{seen_role}
use Rattle.lock_free_queues.proofs.Queues.Sums.{seen_moves}
use Rattle.lock_free_queues.proofs.Queues.Paid.{look_takes}
use Rattle.lock_free_queues.proofs.spsc.ring.calls.Held+E+T+RingRule+E+T.is_taken.Goals as goal

-- each step of the call that looks at a role keeps the rule of the table, and tells what is known after it
pub drive-requires-clause-rule : goal.drive-requires-clause-rule
drive-requires-clause-rule g c base v call m key =
    let met = g.met.T.Words in
    let code : Coding g.row.T.Denot = coding_by g.T.Words in
    let law : IsCoding code = record { some = met.some; few = met.few; sized = met.sized; given_back = met.given_back } in
    looks_keep code law g.E.Kind.KIND g.R.Side.ROLE base v call m key.capacity

-- the call is about to begin, as one that its queue does not refuse
pub drive-requires-clause-at : goal.drive-requires-clause-at
drive-requires-clause-at g c =
    let mine = c.args.self.now in
    let v = token_view mine in
    let code : Coding g.row.T.Denot = coding_by g.T.Words in
    subst (λ n. At code (machine_kind g.E.Kind.KIND) (looks_role g.R.Side.ROLE) v v (record { word = n }) tt)
    (sym (c.WORD.ensures ∙ g.R.Side.there))
    (look_first_on code g.E.Kind.KIND v tt mine.idle mine.alone mine.some.0 g.R.Side.ROLE)

-- the answer is right by what came before the end of the call (clause `answer`)
pub returns-clause-answer : goal.returns-clause-answer
returns-clause-answer g c = seen_role g.E.Kind.KIND c.args.self.now.idle g.R.Side.ROLE c.drive.ensures.end

-- the call moves no role (clause `roles`)
pub returns-clause-roles : goal.returns-clause-roles
returns-clause-roles g c r =
    seen_moves (token_view c.args.self.now) c.drive.new.self.seat.me.0 g.R.Side.ROLE c.drive.result (returns-clause-answer g c) r

-- the operations that the call has asked for are within clause `steps`
pub returns-clause-steps : goal.returns-clause-steps
returns-clause-steps g c = look_takes c.args.self.now.idle g.E.Kind.KIND g.R.Side.ROLE c.drive.ensures.end
