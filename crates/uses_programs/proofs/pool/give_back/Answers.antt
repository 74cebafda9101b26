-- `give_back` (src/pool.rt): its call of `release_raw_index` meets the requirement `held`, each iteration keeps the invariant of its
-- loop, and its return meets what it ensures (`Holding`).
use Rattle.uses_programs.proofs.Names.{arith, refl, holds_next, holds_rest, holds_last}
use Rattle.uses_programs.proofs.pool.give_back.Goals as goal

pub release_raw_index-requires-clause-held : goal.release_raw_index-requires-clause-held
release_raw_index-requires-clause-held c =
    holds_next c.args.indices.now c.loop-at.at c.loop-at.invariant.1 c.loop-at.invariant.2 c.loop-at-test.true

pub loop-at-preserved : goal.loop-at-preserved
loop-at-preserved c =
    let gave = c.release_raw_index.ensures in
    (refl, holds_rest c.args.indices.now c.loop-at.at c.loop-at.invariant.1 c.loop-at-test.true gave.same gave.given.given, gave.same.sound)

pub returns : goal.returns
returns c = holds_last c.args.indices.now c.loop-at.at c.loop-at.invariant.1 (let past = c.loop-at-test.false in omega arith)
