-- `BitSet::reset_next` (src/mpmc/bit_set/calls.rt): its call of `reset_all` meets the requirement `at`, and its return meets
-- the clauses `cleared`, `clear` and `steps`.
use Rattle.lock_free_sets.proofs.Names.{sym, subst, ap, ◌∙◌, one_word, seen, At, arith}
use Rattle.steps.specs.Bits.BitSet.{first_reset}
use Rattle.model.specs.declared.turn.Kind.TheVariants as kinds
use Rattle.lock_free_sets.specs.Bits.Stages.{resets_next}
use Rattle.lock_free_sets.proofs.Bits.Resetting.{next_first, found_nothing, found_place}
use Rattle.lock_free_sets.proofs.Sets.Passes.{is_idle, same_size}
use Rattle.lock_free_sets.proofs.Steps.{bits_take}
use Rattle.lock_free_sets.proofs.mpmc.bit_set.calls.BitSet.reset_next.Goals as goal

-- the reset is about to begin, as a call that its set does not refuse
pub reset_all-end-requires-clause-at : goal.reset_all-end-requires-clause-at
reset_all-end-requires-clause-at g c =
    let mine = c.args.pass.now in
    let v = seen mine.seated in
    subst (λ call. At one_word kinds.Bits resets_next v v call _) (ap first_reset mine.known ∙ sym c.new-call.ensures)
    (next_first v _ (is_idle mine))

-- a reset that answers a place has cleared it, it lies below the capacity, and the call came to it
-- from the reset position
pub returns-in-Some-clause-cleared : goal.returns-in-Some-clause-cleared
returns-in-Some-clause-cleared g c =
    let mine = c.args.pass.now in
    found_place mine.idle c.reset_all-end.ensures.ends
    (same_size c.args.self.now mine c.requires) c.in-Some.place (sym c.answer.ensures ∙ c.in-Some.is)

-- where a reset answers None, each place was clear at some moment of the call
pub returns-in-None-clause-clear : goal.returns-in-None-clause-clear
returns-in-None-clause-clear g c =
    let mine = c.args.pass.now in
    found_nothing mine.idle c.reset_all-end.ensures.ends
    (same_size c.args.self.now mine c.requires) (sym c.answer.ensures ∙ c.in-None.is)

-- where a place was found, the operations of the reset are within clause `steps`
pub returns-in-Some-clause-steps : goal.returns-in-Some-clause-steps
returns-in-Some-clause-steps g c =
    let mine = c.args.pass.now in
    bits_take mine.idle (same_size c.args.self.now mine c.requires) c.reset_all-end.ensures.ends (omega arith)

-- where nothing was found, the operations of the reset are within clause `steps`
pub returns-in-None-clause-steps : goal.returns-in-None-clause-steps
returns-in-None-clause-steps g c =
    let mine = c.args.pass.now in
    bits_take mine.idle (same_size c.args.self.now mine c.requires) c.reset_all-end.ensures.ends (omega arith)
