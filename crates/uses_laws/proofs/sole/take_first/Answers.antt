-- `take_first` (src/sole.rt): its return meets the clauses `sole` and `claimed`.
use Rattle.std.proofs.Common.{◌≡◌, ◌<◌, IfOk, None, false, ap, subst, ◌∙◌}
use Rattle.lock_free.specs.Coding.{one_word}
use Rattle.lock_free.specs.Event.TheVariants.{Claimed}
use Rattle.lock_free.specs.IndexReading.{holder_of, is_locked}
use Rattle.lock_free.specs.Unique.Calls.{AcquireDone}
use Rattle.lock_free.specs.Unique.Contracts.{HasAcquired}
use Rattle.lock_free.specs.UniqueIndexSet.{SetId, capacity_of, history, set_of, view}
use Rattle.uses_laws.proofs.Firsts.{holds_first}
use Rattle.uses_laws.proofs.sole.take_first.Goals as goal

-- an index that was acquired is held by the pass's own party
pub returns-clause-sole : goal.returns-clause-sole
returns-clause-sole g c index is =
    let old = view c.args.pass.now in
    let after = c.acquire_raw_index-taken.new.pass in
    let new = view after in
    let got : HasAcquired index old new =
    (subst (λ r. IfOk r (λ i. AcquireDone (capacity_of c.args.set.now) i old new)) is c.acquire_raw_index-taken.ensures.acquired).acquired in
    let by = got.taken.by in (
      by,
      got.taken.mine,
      c.holders_are_sole.ensures one_word (set_of after).capacity (history after) c.history.ensures.history by index
          (holds_first by index old new got.taken.called c.requires.fresh),
    )

-- whenever an index was claimed, it lay below the capacity, had no holder, and the set was not locked
pub returns-clause-claimed : goal.returns-clause-claimed
returns-clause-claimed g c by index before after is =
    let new = c.acquire_raw_index-taken.new.pass in
    let size = ap (λ (z : SetId). z.capacity) (c.acquire_raw_index-taken.ensures.same.set ∙ c.requires.pass) in
    let sound = c.index_histories_are_sound.ensures one_word (set_of new).capacity (history new) c.history.ensures.history in
    subst (λ n. (index < n) × (holder_of index before ≡ None) × (is_locked before ≡ false)) size
    (sound.holds before after (Claimed by index) is)
