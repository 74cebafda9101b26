-- `BitSet::set` (src/mpmc/bit_set/calls.rt): its call of `drive_on` meets the requirements `rule` and `at`, and its return meets the
-- clauses `same`, `added` and `steps`.
use Rattle.lock_free_sets.proofs.Names.{rules, sym, subst, one_word, seen, At, arith}
use Rattle.model.specs.declared.turn.Kind.TheVariants as kinds
use Rattle.lock_free_sets.specs.Bits.Contracts.{SetDone}
use Rattle.lock_free_sets.specs.Bits.Stages.{sets_place}
use Rattle.lock_free_sets.proofs.Bits.Setting.{set_keeps, set_first, set_done}
use Rattle.lock_free_sets.proofs.Ends.{done}
use Rattle.lock_free_sets.proofs.Sets.Passes.{is_idle, place_below, same_pass, same_size}
use Rattle.lock_free_sets.proofs.Steps.{bits_take}
use Rattle.lock_free_sets.proofs.mpmc.bit_set.calls.BitSet.set.Goals as goal

-- each step of the call keeps the rule of the table (requirement `rule`)
pub drive_on-end-requires-clause-rule : goal.drive_on-end-requires-clause-rule
drive_on-end-requires-clause-rule g c = set_keeps c.args.id

-- the set is about to begin, as a call that its set does not refuse
pub drive_on-end-requires-clause-at : goal.drive_on-end-requires-clause-at
drive_on-end-requires-clause-at g c =
    let mine = c.args.pass.now in
    let v = seen mine.seated in
    subst (λ call. At one_word kinds.Bits (sets_place c.args.id) v v call _) (sym c.new.ensures)
    (set_first c.args.id v _ (is_idle mine) (place_below c.args.self.now mine c.requires.pass c.requires.place))

-- the pass is of the same structure as before, and goes on from what it had seen (clause `same`)
pub returns-clause-same : goal.returns-clause-same
returns-clause-same g c = same_pass (search rules) (done c.drive_on-end.ensures.end (λ o p h. h))

-- the call set the place where it answered true, and where it answered false the place stood at a
-- moment of it
pub returns-clause-added : goal.returns-clause-added
returns-clause-added g c =
    let base = seen c.args.pass.now.seated in
    let w = seen c.drive_on-end.new.self in
    subst (λ answer. SetDone c.args.id answer base w) (sym c.answer.ensures) (set_done c.args.id c.args.pass.now.idle c.drive_on-end.ensures.end)

-- the operations that the call has asked for are within clause `steps`
pub returns-clause-steps : goal.returns-clause-steps
returns-clause-steps g c =
    let mine = c.args.pass.now in
    bits_take mine.idle (same_size c.args.self.now mine c.requires.pass) c.drive_on-end.ensures.end (omega arith)
