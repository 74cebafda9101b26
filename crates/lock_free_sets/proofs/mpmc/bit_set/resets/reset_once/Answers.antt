-- `reset_once` (src/mpmc/bit_set/resets.rt): its calls meet the requirement `at`, and its return meets the clause `goes`.
use Rattle.lock_free_sets.proofs.Names.{seen}
use Rattle.lock_free_sets.proofs.Bits.Turns.{gone_on, has_ended, may_go_on}
use Rattle.lock_free_sets.proofs.mpmc.bit_set.resets.reset_once.Goals as goal

-- where the step has ended the call, clause `goes` holds of its end
pub returns-in-Done-clause-goes : goal.returns-in-Done-clause-goes
returns-in-Done-clause-goes c base at =
    let a = c.step_reset-loaded in
    has_ended (seen c.args.seat.now) (seen a.new.seat) c.args.first c.in-Done.is a.ensures.goes at

-- after its first step the reset is under way (requirement `at`)
pub reset_turn-came-requires-clause-at : goal.reset_turn-came-requires-clause-at
reset_turn-came-requires-clause-at c =
    let a = c.step_reset-loaded in
    may_go_on (seen c.args.seat.now) (seen a.new.seat) c.args.first c.in-GoOn.is a.ensures.goes c.requires.at

-- where the steps past clear flags have ended the reset, clause `goes` holds of its end
pub returns-in-Done-came-clause-goes : goal.returns-in-Done-came-clause-goes
returns-in-Done-came-clause-goes c base at =
    let a = c.step_reset-loaded in
    let b = c.reset_turn-came in
    has_ended (seen a.new.seat) (seen b.new.seat) c.in-GoOn.next c.in-Done-came.is b.ensures.goes
    (gone_on (seen c.args.seat.now) (seen a.new.seat) c.args.first c.in-GoOn.is a.ensures.goes at)

-- after the steps past clear flags the reset is under way
pub step_reset-taken-requires-clause-at : goal.step_reset-taken-requires-clause-at
step_reset-taken-requires-clause-at c =
    let a = c.step_reset-loaded in
    let b = c.reset_turn-came in
    may_go_on (seen a.new.seat) (seen b.new.seat) c.in-GoOn.next c.in-GoOn-came.is b.ensures.goes
    (may_go_on (seen c.args.seat.now) (seen a.new.seat) c.args.first c.in-GoOn.is a.ensures.goes c.requires.at)

-- where the exchange of a flag has ended the reset, clause `goes` holds of its end
pub returns-in-Done-taken-clause-goes : goal.returns-in-Done-taken-clause-goes
returns-in-Done-taken-clause-goes c base at =
    let a = c.step_reset-loaded in
    let b = c.reset_turn-came in
    let d = c.step_reset-taken in
    has_ended (seen b.new.seat) (seen d.new.seat) c.in-GoOn-came.next c.in-Done-taken.is d.ensures.goes
    (gone_on (seen a.new.seat) (seen b.new.seat) c.in-GoOn.next c.in-GoOn-came.is b.ensures.goes
    (gone_on (seen c.args.seat.now) (seen a.new.seat) c.args.first c.in-GoOn.is a.ensures.goes at))

-- after the exchange of a flag the reset is under way
pub step_reset-requires-clause-at : goal.step_reset-requires-clause-at
step_reset-requires-clause-at c =
    let a = c.step_reset-loaded in
    let b = c.reset_turn-came in
    let d = c.step_reset-taken in
    may_go_on (seen b.new.seat) (seen d.new.seat) c.in-GoOn-came.next c.in-GoOn-taken.is d.ensures.goes
    (may_go_on (seen a.new.seat) (seen b.new.seat) c.in-GoOn.next c.in-GoOn-came.is b.ensures.goes
    (may_go_on (seen c.args.seat.now) (seen a.new.seat) c.args.first c.in-GoOn.is a.ensures.goes c.requires.at))

-- the last step leads the reset on as clause `goes` says
pub returns-clause-goes : goal.returns-clause-goes
returns-clause-goes c base at =
    let a = c.step_reset-loaded in
    let b = c.reset_turn-came in
    let d = c.step_reset-taken in
    c.step_reset.ensures.goes base
    (gone_on (seen b.new.seat) (seen d.new.seat) c.in-GoOn-came.next c.in-GoOn-taken.is d.ensures.goes
    (gone_on (seen a.new.seat) (seen b.new.seat) c.in-GoOn.next c.in-GoOn-came.is b.ensures.goes
    (gone_on (seen c.args.seat.now) (seen a.new.seat) c.args.first c.in-GoOn.is a.ensures.goes at)))
