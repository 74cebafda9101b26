-- `reset_on` (src/mpmc/bit_set/resets.rt): its call of `reset_turn` meets the requirement `at`, each iteration keeps the invariant of its
-- loop, and its return meets the clause `ends`.
use Rattle.lock_free_sets.proofs.Names.{◌∙◌, seen}
use Rattle.lock_free_sets.proofs.Bits.Turns.{gone_on, has_ended}
use Rattle.lock_free_sets.proofs.mpmc.bit_set.resets.reset_on.Goals as goal

-- by the invariant of the loop the reset is under way (requirement `at`)
pub reset_turn-after-requires-clause-at : goal.reset_turn-after-requires-clause-at
reset_turn-after-requires-clause-at g c = (c.requires.at.0, c.loop.invariant.2 c.requires.at.0 c.requires.at.1)

-- an iteration after which the loop goes on keeps its invariant
pub loop-preserved : goal.loop-preserved
loop-preserved g c =
    let so_far = c.loop.invariant in
    let called = c.reset_turn-after in (
      (called.ensures.same.0 ∙ so_far.0.0, called.ensures.same.1 ∙ so_far.0.1, called.ensures.same.2 ∙ so_far.0.2),
      called.ensures.board,
      λ base at. gone_on (seen c.loop.seat) (seen called.new.seat) c.loop.call c.in-GoOn.is called.ensures.goes (so_far.2 base at),
    )

-- where a step has ended the call, its end is as clause `ends` says
pub returns-in-Done-clause-ends : goal.returns-in-Done-clause-ends
returns-in-Done-clause-ends g c base at =
    let called = c.reset_turn-after in
    has_ended (seen c.loop.seat) (seen called.new.seat) c.loop.call c.in-Done.is called.ensures.goes
    (c.loop.invariant.2 base at)
