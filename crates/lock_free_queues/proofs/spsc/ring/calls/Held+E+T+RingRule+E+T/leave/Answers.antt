-- `Held::leave` (src/spsc/ring/calls.rt): its call of `drive` meets the requirements `rule` and `at`, and its return meets the clauses
-- `left`, `list`, `mine`, `other` and `steps`.
use Rattle.lock_free_queues.proofs.Names.{sym, subst, ◌∙◌, Coding, IsCoding, coding_by, gives_role, At}
use Rattle.lock_free_queues.proofs.Names.{release_first_on}
use Rattle.lock_free_queues.specs.Queues.Bounded.{machine_kind}
use Rattle.lock_free_queues.proofs.Queues.Kinds.{releases_keep}
use Rattle.lock_free_queues.specs.Queues.Rings.{token_view}
use Rattle.lock_free_queues.proofs.Queues.Facts.{released, left_marked}
use Rattle.lock_free_queues.proofs.Queues.Sums.{released_moves}
use Rattle.lock_free_queues.proofs.Queues.Paid.{release_takes}
use Rattle.lock_free_queues.proofs.spsc.ring.calls.Held+E+T+RingRule+E+T.leave.Goals as goal

-- each step of the call that gives a role back keeps the rule of the table, and tells what is known after it
pub drive-requires-clause-rule : goal.drive-requires-clause-rule
drive-requires-clause-rule g c base v call m key =
    let met = g.met.T.Words in
    let code : Coding g.row.T.Denot = coding_by g.T.Words in
    let law : IsCoding code = record { some = met.some; few = met.few; sized = met.sized; given_back = met.given_back } in
    releases_keep code law g.E.Kind.KIND g.R.Side.ROLE base v call m key.capacity

-- the call is about to begin, as one that its queue does not refuse to who has the role
pub drive-requires-clause-at : goal.drive-requires-clause-at
drive-requires-clause-at g c =
    let mine = c.args.self.now in
    let v = token_view mine in
    let code : Coding g.row.T.Denot = coding_by g.T.Words in
    subst (λ n. At code (machine_kind g.E.Kind.KIND) (gives_role g.R.Side.ROLE) v v (record { word = n }) tt)
    (sym (c.WORD.ensures ∙ g.R.Side.there))
    (release_first_on code g.E.Kind.KIND v tt mine.idle mine.alone mine.some.0 g.R.Side.ROLE c.requires)

-- a release of the role is a call of the history (clause `left`)
pub returns-clause-left : goal.returns-clause-left
returns-clause-left g c = released g.E.Kind.KIND c.args.self.now.idle g.R.Side.ROLE c.drive.ensures.end

-- the release publishes and takes out nothing (clause `list`)
pub returns-clause-list : goal.returns-clause-list
returns-clause-list g c = left_marked c.args.self.now.idle g.E.Kind.KIND g.R.Side.ROLE c.drive.ensures.end

-- the role is given back once (clause `mine`)
pub returns-clause-mine : goal.returns-clause-mine
returns-clause-mine g c = (released_moves (token_view c.args.self.now) c.drive.new.self.seat.me.0 g.R.Side.ROLE (returns-clause-left g c)).0

-- the other role stays as it was (clause `other`)
pub returns-clause-other : goal.returns-clause-other
returns-clause-other g c = (released_moves (token_view c.args.self.now) c.drive.new.self.seat.me.0 g.R.Side.ROLE (returns-clause-left g c)).1

-- the operations that the call has asked for are within clause `steps`
pub returns-clause-steps : goal.returns-clause-steps
returns-clause-steps g c = release_takes c.args.self.now.idle g.E.Kind.KIND g.R.Side.ROLE c.drive.ensures.end
