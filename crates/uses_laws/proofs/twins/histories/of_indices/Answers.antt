-- `of_indices` (src/twins/histories.rt): its return meets the clauses `claimed`, `freed`, `acquired`, `looked` and `counted`.
use Rattle.std.proofs.Common.{◌≡◌, Some, sym, ap}
use Rattle.model.specs.declared.event.Answer.TheVariants.{Index, Truth}
use Rattle.model.specs.declared.event.Event.TheVariants.{Claimed, Freed, Finished}
use Rattle.model.specs.declared.event.Start.TheVariants.{Indices}
use Rattle.model.specs.declared.families.indices.IndexStart.TheVariants.{Acquire, IsLocked}
use Rattle.model.specs.Families.Indices.Spans.{SetActs, claimed, set_acts}
use Rattle.lock_free.specs.Coding.{one_word}
use Rattle.lock_free.specs.HistoryKnown.{events_by}
use Rattle.lock_free.specs.UniqueIndexSet.{history, set_of}
use Rattle.uses_laws.proofs.twins.histories.of_indices.Goals as goal

-- an index is claimed only where nobody holds it and the set is not locked
pub returns-clause-claimed : goal.returns-clause-claimed
returns-clause-claimed c p index before after is =
    let pass = c.args.pass.now in
    let sound = c.index_histories_are_sound.ensures one_word (set_of pass).capacity (history pass) c.history.ensures.history in
    sound.holds before after (Claimed p index) is

-- an index is freed by its holder
pub returns-clause-freed : goal.returns-clause-freed
returns-clause-freed c p index before after is =
    let pass = c.args.pass.now in
    let sound = c.index_histories_are_sound.ensures one_word (set_of pass).capacity (history pass) c.history.ensures.history in
    sound.holds before after (Freed p index) is

-- whenever an acquire ends with an index, it has claimed just this one
pub returns-clause-acquired : goal.returns-clause-acquired
returns-clause-acquired c p index before after is =
    let pass = c.args.pass.now in
    let sound = c.index_histories_are_sound.ensures one_word (set_of pass).capacity (history pass) c.history.ensures.history in
    let done = sound.did before after (Finished p (Indices Acquire) (Index index)) is in
    let acts : SetActs = set_acts (events_by p done.since) in
    let did : Some (claimed index) ≡ Some acts = done.did in
    let same : claimed index ≡ acts = cc in
    record {
      before = done.before;
      since = done.since;
      is = done.is;
      within = done.within;
      did = sym (ap (λ (a : SetActs). a.claimed) same);
    }

-- `is_locked` answers whether the set was locked
pub returns-clause-looked : goal.returns-clause-looked
returns-clause-looked c p locked before after is =
    let pass = c.args.pass.now in
    let sound = c.index_histories_are_sound.ensures one_word (set_of pass).capacity (history pass) c.history.ensures.history in
    sound.answers before after (Finished p (Indices IsLocked) (Truth locked)) is

-- at each moment the indices that count as held are those that somebody holds
pub returns-clause-counted : goal.returns-clause-counted
returns-clause-counted c before after is =
    let pass = c.args.pass.now in
    c.holders_are_counted.ensures one_word (set_of pass).capacity (history pass) before after c.history.ensures.history is
