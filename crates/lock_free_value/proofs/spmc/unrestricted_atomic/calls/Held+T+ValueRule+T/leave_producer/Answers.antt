-- `Held::leave_producer` (src/spmc/unrestricted_atomic/calls.rt): its call of `drive` meets the requirements `rule` and `at`, and its
-- return meets the clauses `left` and `steps`.
use Rattle.std.proofs.Common.{arith}
use Rattle.lock_free_value.proofs.Names.{coding_by}
use Rattle.lock_free_value.specs.Calls.{seen}
use Rattle.history_value.proofs.ValueCalls.{release_keeps, release_first}
use Rattle.lock_free_value.proofs.Facts.{released, takes_here}
use Rattle.lock_free_value.proofs.spmc.unrestricted_atomic.calls.Held+T+ValueRule+T.leave_producer.Goals as goal

-- each step of the call keeps the rule of the table (requirement `rule`)
pub drive-requires-clause-rule : goal.drive-requires-clause-rule
drive-requires-clause-rule g c base v call m key = release_keeps (coding_by g.T.Words) base v call m 1

-- the call is about to begin (requirement `at`)
pub drive-requires-clause-at : goal.drive-requires-clause-at
drive-requires-clause-at g c =
    let mine = c.args.self.now in
    release_first (coding_by g.T.Words) (seen mine) tt mine.idle mine.alone mine.some.0 c.requires

-- a release of the role is a call of the history (clause `left`)
pub returns-clause-left : goal.returns-clause-left
returns-clause-left g c = released c.args.self.now.idle c.args.self.now.known c.drive.ensures.end

-- the operations that the call has asked for are within clause `steps`
pub returns-clause-steps : goal.returns-clause-steps
returns-clause-steps g c = takes_here c.args.self.now.idle c.args.self.now.known c.drive.ensures.end (omega arith)
