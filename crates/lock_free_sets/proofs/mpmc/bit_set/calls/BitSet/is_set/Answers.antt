-- `BitSet::is_set` (src/mpmc/bit_set/calls.rt): its call of `drive` meets the requirements `rule` and `at`, and its return meets the
-- clauses `same`, `answer` and `steps`.
use Rattle.lock_free_sets.proofs.Names.{rules, sym, subst, seen, arith}
use Rattle.lock_free_sets.specs.Bits.Looks.{IsSetDone}
use Rattle.lock_free_sets.proofs.Bits.Looks.{look_keeps, look_first, looked}
use Rattle.lock_free_sets.proofs.Ends.{done}
use Rattle.lock_free_sets.proofs.Sets.Passes.{is_idle, place_below, same_pass}
use Rattle.lock_free_sets.proofs.Steps.{bits_take}
use Rattle.lock_free_sets.proofs.mpmc.bit_set.calls.BitSet.is_set.Goals as goal

-- each step of the call keeps the rule of the table (requirement `rule`)
pub drive-end-requires-clause-rule : goal.drive-end-requires-clause-rule
drive-end-requires-clause-rule c = look_keeps c.args.id

-- the look is about to begin, as a call that its set does not refuse
pub drive-end-requires-clause-at : goal.drive-end-requires-clause-at
drive-end-requires-clause-at c =
    let mine = c.args.pass.now in
    look_first c.args.id (seen mine.seated) _ _ (is_idle mine) (place_below c.args.self.now mine c.requires.pass c.requires.place)

-- the pass is of the same structure as before, and goes on from what it had seen (clause `same`)
pub returns-clause-same : goal.returns-clause-same
returns-clause-same c = same_pass (search rules) (done c.drive-end.ensures.end (λ o p h. h))

-- the call changed nothing, and answered whether the place stood as it ended
pub returns-clause-answer : goal.returns-clause-answer
returns-clause-answer c =
    let base = seen c.args.pass.now.seated in
    let w = seen c.drive-end.new.self in
    subst (λ answer. IsSetDone c.args.id answer base w) (sym c.answer.ensures) (looked c.args.id c.args.pass.now.idle c.drive-end.ensures.end)

-- the operations that the call has asked for are within clause `steps`
pub returns-clause-steps : goal.returns-clause-steps
returns-clause-steps c =
    let mine = c.args.pass.now in
    bits_take mine.idle mine.known c.drive-end.ensures.end (omega arith)
