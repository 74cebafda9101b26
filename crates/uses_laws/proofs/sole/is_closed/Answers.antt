-- `is_closed` (src/sole.rt): its return meets the clauses `held` and `claimed`.
use Rattle.std.proofs.Common.{◌≡◌, true, [], append-nil, ap, sym, ◌∙◌}
use Rattle.model.proofs.Locks.{locked_later}
use Rattle.lock_free.specs.Coding.{one_word}
use Rattle.lock_free.specs.IndexReading.{is_locked}
use Rattle.lock_free.specs.UniqueIndexSet.{history, set_of}
use Rattle.uses_laws.proofs.sole.is_closed.Goals as goal

-- where the lock was seen nobody holds an index
pub returns-clause-held : goal.returns-clause-held
returns-clause-held c locked index =
    let after = c.is_locked-locked.new.pass in
    let events = history after in
    let told = c.is_locked-locked.ensures.looked.answered in
    let at : is_locked told.before ≡ true = sym told.right ∙ locked in
    let now : is_locked events ≡ true = ap is_locked told.is ∙ locked_later told.before _ at in
    c.locks_are_final.ensures.held one_word (set_of after).capacity events events [] c.history.ensures.history
    (sym (append-nil events)) now index

pub returns-clause-claimed : goal.returns-clause-claimed
returns-clause-claimed c before after is locked index =
    let pass = c.is_locked-locked.new.pass in
    c.locks_are_final.ensures.claimed one_word (set_of pass).capacity (history pass) before after c.history.ensures.history is locked index
