-- `reset_all` (src/mpmc/bit_set/resets.rt): its calls meet the requirement `at`, and its return meets the clause `ends`.
use Rattle.lock_free_sets.proofs.Names.{seen}
use Rattle.lock_free_sets.proofs.Bits.Turns.{gone_on, has_ended}
use Rattle.lock_free_sets.proofs.mpmc.bit_set.resets.reset_all.Goals as goal

-- The reset is about to begin, as `reset_once` requires.
pub reset_once-once-requires-clause-at : goal.reset_once-once-requires-clause-at
reset_once-once-requires-clause-at g c = (seen c.args.seat.now, c.requires.at)

-- A reset that `reset_once` left under way is under way, as `reset_on` requires.
pub reset_on-requires-clause-at : goal.reset_on-requires-clause-at
reset_on-requires-clause-at g c =
    let base = seen c.args.seat.now in
    let once = c.reset_once-once in
    (base, gone_on base (seen once.new.seat) c.args.first c.in-GoOn.is once.ensures.goes c.requires.at)

-- a reset that goes on after `reset_once` ends as clause `ends` says
pub returns-in-GoOn-clause-ends : goal.returns-in-GoOn-clause-ends
returns-in-GoOn-clause-ends g c =
    let base = seen c.args.seat.now in
    let once = c.reset_once-once in
    c.reset_on.ensures.ends base
    (gone_on base (seen once.new.seat) c.args.first c.in-GoOn.is once.ensures.goes c.requires.at)

-- where a step has ended the call, its end is as clause `ends` says
pub returns-in-Done-clause-ends : goal.returns-in-Done-clause-ends
returns-in-Done-clause-ends g c =
    let base = seen c.args.seat.now in
    let once = c.reset_once-once in
    has_ended base (seen once.new.seat) c.args.first c.in-Done.is once.ensures.goes c.requires.at
