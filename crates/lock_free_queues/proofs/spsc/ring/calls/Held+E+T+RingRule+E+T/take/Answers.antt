-- `Held::take` (src/spsc/ring/calls.rt): its call of `drive` meets the requirements `rule` and `at`, and its return meets the clauses
-- `acquired`, `taken`, `refused`, `other` and `steps`.
use Rattle.lock_free_queues.proofs.Names.{sym, subst, ◌∙◌, Coding, IsCoding, coding_by, takes_role, At}
use Rattle.lock_free_queues.proofs.Names.{acquire_first_on}
use Rattle.lock_free_queues.specs.Queues.Bounded.{machine_kind}
use Rattle.lock_free_queues.proofs.Queues.Kinds.{acquires_keep}
use Rattle.lock_free_queues.specs.Queues.Rings.{token_view}
use Rattle.lock_free_queues.proofs.Queues.Facts.{acquired}
use Rattle.lock_free_queues.proofs.Queues.Sums.{acquired_moves}
use Rattle.lock_free_queues.proofs.Queues.Paid.{acquire_takes}
use Rattle.lock_free_queues.proofs.spsc.ring.calls.Held+E+T+RingRule+E+T.take.Goals as goal

-- each step of the call that takes a role keeps the rule of the table, and tells what is known after it
pub drive-requires-clause-rule : goal.drive-requires-clause-rule
drive-requires-clause-rule g c base v call m key =
    let met = g.met.T.Words in
    let code : Coding g.row.T.Denot = coding_by g.T.Words in
    let law : IsCoding code = record { some = met.some; few = met.few; sized = met.sized; given_back = met.given_back } in
    acquires_keep code law g.E.Kind.KIND g.R.Side.ROLE base v call m key.capacity

-- the call is about to begin, as one that its queue does not refuse
pub drive-requires-clause-at : goal.drive-requires-clause-at
drive-requires-clause-at g c =
    let mine = c.args.self.now in
    let v = token_view mine in
    let code : Coding g.row.T.Denot = coding_by g.T.Words in
    subst (λ n. At code (machine_kind g.E.Kind.KIND) (takes_role g.R.Side.ROLE) v v (record { word = n }) tt)
    (sym (c.WORD.ensures ∙ g.R.Side.there))
    (acquire_first_on code g.E.Kind.KIND v tt mine.idle mine.alone mine.some.0 g.R.Side.ROLE)

-- the acquire of the role is a call of the history (clause `acquired`)
pub returns-clause-acquired : goal.returns-clause-acquired
returns-clause-acquired g c = acquired g.E.Kind.KIND c.args.self.now.idle g.R.Side.ROLE c.drive.ensures.end

-- a taken role is one that the pass has once more (clause `taken`)
pub returns-clause-taken : goal.returns-clause-taken
returns-clause-taken g c is =
    (acquired_moves (token_view c.args.self.now) c.drive.new.self.seat.me.0 g.R.Side.ROLE c.drive.result (returns-clause-acquired g c)).0 is

-- an acquire of the role that is refused moves no role (clause `refused`)
pub returns-clause-refused : goal.returns-clause-refused
returns-clause-refused g c is =
    (acquired_moves (token_view c.args.self.now) c.drive.new.self.seat.me.0 g.R.Side.ROLE c.drive.result (returns-clause-acquired g c)).1 is

-- the other role stays as it was (clause `other`)
pub returns-clause-other : goal.returns-clause-other
returns-clause-other g c = (acquired_moves (token_view c.args.self.now) c.drive.new.self.seat.me.0 g.R.Side.ROLE c.drive.result (returns-clause-acquired g c)).2

-- the operations that the call has asked for are within clause `steps`
pub returns-clause-steps : goal.returns-clause-steps
returns-clause-steps g c = acquire_takes c.args.self.now.idle g.E.Kind.KIND g.R.Side.ROLE c.drive.ensures.end
