-- `CountingBitSet::set` (src/mpmc/counting_bit_set/calls.rt): its call of `drive` meets the requirements `rule` and `at`, and its return
-- meets the clauses `same`, `counted` and `steps`.
use Rattle.lock_free_sets.proofs.Names.{rules, sym, subst, seen, arith}
use Rattle.lock_free_sets.specs.Counts.Contracts.{SetDone}
use Rattle.lock_free_sets.proofs.Counts.Counting.{count_keeps, count_first, set_done}
use Rattle.lock_free_sets.proofs.Ends.{done}
use Rattle.lock_free_sets.proofs.Sets.Passes.{is_idle, place_below, same_pass}
use Rattle.lock_free_sets.proofs.Steps.{counts_take}
use Rattle.lock_free_sets.proofs.mpmc.counting_bit_set.calls.CountingBitSet.set.Goals as goal

-- each step of the call keeps the rule of the table (requirement `rule`)
pub drive-old-requires-clause-rule : goal.drive-old-requires-clause-rule
drive-old-requires-clause-rule c = count_keeps c.args.id

-- the call is about to begin, as one that its set does not refuse
pub drive-old-requires-clause-at : goal.drive-old-requires-clause-at
drive-old-requires-clause-at c =
    let mine = c.args.pass.now in
    count_first c.args.id (seen mine.seated) _ _ (is_idle mine) (place_below c.args.self.now mine c.requires.pass c.requires.place)

-- the pass is of the same structure as before, and goes on from what it had seen (clause `same`)
pub returns-clause-same : goal.returns-clause-same
returns-clause-same c = same_pass (search rules) (done c.drive-old.ensures.end (λ o p h. h))

-- the call counted the place, and answered the count just before, modulo 2^64
pub returns-clause-counted : goal.returns-clause-counted
returns-clause-counted c =
    let base = seen c.args.pass.now.seated in
    let w = seen c.drive-old.new.self in
    subst (λ answer. SetDone c.args.id answer base w) (sym c.answer.ensures) (set_done c.args.id c.args.pass.now.idle c.drive-old.ensures.end)

-- the operations that the call has asked for are within clause `steps`
pub returns-clause-steps : goal.returns-clause-steps
returns-clause-steps c =
    let mine = c.args.pass.now in
    counts_take mine.idle mine.known c.drive-old.ensures.end (omega arith)
