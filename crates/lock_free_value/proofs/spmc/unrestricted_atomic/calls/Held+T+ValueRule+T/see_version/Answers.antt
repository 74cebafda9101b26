-- `Held::see_version` (src/spmc/unrestricted_atomic/calls.rt): its call of `drive` meets the requirements `rule` and `at`, and its
-- return meets the clauses `answer`, `role` and `steps`.
use Rattle.std.proofs.Common.{arith}
use Rattle.lock_free_value.proofs.Names.{coding_by}
use Rattle.lock_free_value.specs.Calls.{seen}
use Rattle.history_value.proofs.ValueCalls.{version_keeps, version_first}
use Rattle.lock_free_value.proofs.Facts.{seen_version, seen_version_moves, takes_here}
use Rattle.lock_free_value.proofs.spmc.unrestricted_atomic.calls.Held+T+ValueRule+T.see_version.Goals as goal

-- each step of the call keeps the rule of the table (requirement `rule`)
pub drive-requires-clause-rule : goal.drive-requires-clause-rule
drive-requires-clause-rule g c base v call m key = version_keeps (coding_by g.T.Words) base v call m 1

-- the call is about to begin (requirement `at`)
pub drive-requires-clause-at : goal.drive-requires-clause-at
drive-requires-clause-at g c =
    let mine = c.args.self.now in
    version_first (coding_by g.T.Words) (seen mine) tt mine.idle mine.alone mine.some.0

-- the answer is right by what came before the end of the call (clause `answer`)
pub returns-clause-answer : goal.returns-clause-answer
returns-clause-answer g c = seen_version c.args.self.now.idle c.args.self.now.known c.drive.ensures.end

-- the call moves no role (clause `role`)
pub returns-clause-role : goal.returns-clause-role
returns-clause-role g c = seen_version_moves c.args.self.now.idle c.args.self.now.known c.drive.ensures.end

-- the operations that the call has asked for are within clause `steps`
pub returns-clause-steps : goal.returns-clause-steps
returns-clause-steps g c = takes_here c.args.self.now.idle c.args.self.now.known c.drive.ensures.end (omega arith)
