-- `of_value` (src/twins/histories.rt): its return meets the clauses `loaded`, `acquired`, `looked`, `counted` and `stored`.
use Rattle.model.specs.declared.event.Event.TheVariants.{Acted, Finished}
use Rattle.model.specs.declared.event.Start.TheVariants.{Atomic}
use Rattle.model.specs.declared.families.atomic.AtomicStart.TheVariants.{AcquireProducer, HasProducer, Load, Store, Version}
use Rattle.lock_free.specs.Coding.{one_word}
use Rattle.lock_free.specs.Value.Calls.{view}
use Rattle.uses_laws.proofs.twins.histories.of_value.Goals as goal

-- a load answers the value that stands then
pub returns-clause-loaded : goal.returns-clause-loaded
returns-clause-loaded c p answer before after is =
    let sound = c.histories_are_sound.ensures one_word (view c.args.pass.now).seen c.history.ensures.history in
    sound.answers before after (Acted p (Atomic Load) answer) is

-- an acquire of the role answers whether nobody had it
pub returns-clause-acquired : goal.returns-clause-acquired
returns-clause-acquired c p answer before after is =
    let sound = c.histories_are_sound.ensures one_word (view c.args.pass.now).seen c.history.ensures.history in
    sound.roles before after (Finished p (Atomic AcquireProducer) answer) is

-- a look at the role answers whether somebody had it
pub returns-clause-looked : goal.returns-clause-looked
returns-clause-looked c p answer before after is =
    let sound = c.histories_are_sound.ensures one_word (view c.args.pass.now).seen c.history.ensures.history in
    sound.roles before after (Finished p (Atomic HasProducer) answer) is

-- a look at the version answers 1 more than the number of stores
pub returns-clause-counted : goal.returns-clause-counted
returns-clause-counted c p answer before after is =
    let sound = c.histories_are_sound.ensures one_word (view c.args.pass.now).seen c.history.ensures.history in
    sound.answers before after (Finished p (Atomic Version) answer) is

-- who stores has the role
pub returns-clause-stored : goal.returns-clause-stored
returns-clause-stored c p x answer before after is =
    let sound = c.histories_are_sound.ensures one_word (view c.args.pass.now).seen c.history.ensures.history in
    sound.producers before after (Acted p (Atomic (Store x)) answer) is
