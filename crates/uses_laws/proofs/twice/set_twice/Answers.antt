-- `set_twice` (src/twice.rt): where both calls have set the place, somebody has cleared it meanwhile.
use Rattle.std.proofs.Common.{true, subst}
use Rattle.lock_free.specs.Coding.{one_word}
use Rattle.lock_free.specs.Bits.Calls.{view, history, set_of}
use Rattle.lock_free.specs.Bits.Contracts.{HasSet}
use Rattle.uses_laws.proofs.Again.{cleared_since}
use Rattle.uses_laws.proofs.twice.set_twice.Goals as goal

-- where both sets answer true, the place was cleared once more in between
pub returns : goal.returns
returns g c both =
    let place = c.args.place in
    let old = c.args.pass.now in
    let between = c.set.new.pass in
    let new = c.set-again.new.pass in
    let one : HasSet place true (view old) (view between) =
    subst (λ b. HasSet place b (view old) (view between)) c.if-not-set.false c.set.ensures.added.added in
    let two : HasSet place true (view between) (view new) =
    subst (λ b. HasSet place b (view between) (view new)) both c.set-again.ensures.added.added in
    cleared_since place (view old) (view between) (view new) one two
    (c.bits_are_conserved.ensures.conserved one_word (set_of old).capacity (history old) c.history.ensures.history place)
    (c.bits_are_conserved.ensures.conserved one_word (set_of new).capacity (history new) c.history-2.ensures.history place)
    (c.bits_are_conserved.ensures.once one_word (set_of new).capacity (history new) c.history-2.ensures.history place)
