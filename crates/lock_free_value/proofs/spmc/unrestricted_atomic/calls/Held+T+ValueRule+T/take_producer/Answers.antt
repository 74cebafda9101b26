-- `Held::take_producer` (src/spmc/unrestricted_atomic/calls.rt): its call of `drive` meets the requirements `rule` and `at`, and its
-- return meets the clause `steps`.
use Rattle.std.proofs.Common.{arith}
use Rattle.lock_free_value.proofs.Names.{coding_by}
use Rattle.lock_free_value.specs.Calls.{seen}
use Rattle.history_value.proofs.ValueCalls.{acquire_keeps, acquire_first}
use Rattle.lock_free_value.proofs.Facts.{takes_here}
use Rattle.lock_free_value.proofs.spmc.unrestricted_atomic.calls.Held+T+ValueRule+T.take_producer.Goals as goal

-- each step of the call keeps the rule of the table (requirement `rule`)
pub drive-requires-clause-rule : goal.drive-requires-clause-rule
drive-requires-clause-rule g c base v call m key = acquire_keeps (coding_by g.T.Words) base v call m 1

-- the call is about to begin (requirement `at`)
pub drive-requires-clause-at : goal.drive-requires-clause-at
drive-requires-clause-at g c =
    let mine = c.args.self.now in
    acquire_first (coding_by g.T.Words) (seen mine) tt mine.idle mine.alone mine.some.0

-- the operations that the call has asked for are within clause `steps`
pub returns-clause-steps : goal.returns-clause-steps
returns-clause-steps g c = takes_here c.args.self.now.idle c.args.self.now.known c.drive.ensures.end (omega arith)
