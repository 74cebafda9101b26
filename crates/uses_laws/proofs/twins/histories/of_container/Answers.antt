-- `of_container` (src/twins/histories.rt): its return meets the clauses `filled`, `asked`, `freed`, `looked`, `granted`, `held`, `met`
-- and `ended`.
use Rattle.std.proofs.Common.{ℕ, refl, subst}
use Rattle.model.specs.declared.event.Answer.TheVariants.{Truth}
use Rattle.model.specs.declared.event.Event.TheVariants.{Filled, Granted, FreedOf, Asked, Finished}
use Rattle.model.specs.declared.event.Start.TheVariants.{Container}
use Rattle.model.specs.declared.families.container.ContainerStart.TheVariants.{IsLocked, Recover}
use Rattle.model.specs.Reading.{Span, Open}
use Rattle.laws_container.specs.Gone.{FreedBy}
use Rattle.lock_free.specs.Container.Names.{code_of, container_of, history, view}
use Rattle.lock_free.specs.OwnersGone.{Word}
use Rattle.uses_laws.proofs.twins.histories.of_container.Goals as goal

-- an index is filled only where it was not, and is below the capacity
pub returns-clause-filled : goal.returns-clause-filled
returns-clause-filled c p index owner before after is =
    let pass = c.args.pass.now in
    let sound = c.container_histories_are_sound.ensures (code_of pass) (container_of pass).capacity (history pass) c.history.ensures.history in
    let does = sound.does before after (Filled p index owner) is in (does.0, does.1)

-- a recovery asks about an index only if its owner had it at a moment of the call
pub returns-clause-asked : goal.returns-clause-asked
returns-clause-asked c p index owner before after is =
    let pass = c.args.pass.now in
    let sound = c.container_histories_are_sound.ensures (code_of pass) (container_of pass).capacity (history pass) c.history.ensures.history in
    let asks = sound.asks before after (Asked p index owner) is in asks.0

-- whenever a recovery frees an index, this is of the owner that it recovers, and it said yes about it, or was shown it
pub returns-clause-freed : goal.returns-clause-freed
returns-clause-freed c p index owner other mode wrote before after is span =
    let pass = c.args.pass.now in
    let sound = c.container_histories_are_sound.ensures (code_of pass) (container_of pass).capacity (history pass) c.history.ensures.history in
    let freed : FreedBy Word p index owner before (Open (Container (Recover other mode)) wrote) =
    subst (λ (s : Span ℕ). FreedBy Word p index owner before s) span (sound.recovers before after (FreedOf p index owner) is) in
    (freed.0, freed.2)

-- `is_locked` answers whether the container was locked
pub returns-clause-looked : goal.returns-clause-looked
returns-clause-looked c p locked before after is =
    let pass = c.args.pass.now in
    let sound = c.container_histories_are_sound.ensures (code_of pass) (container_of pass).capacity (history pass) c.history.ensures.history in
    sound.answers before after (Finished p (Container IsLocked) (Truth locked)) is

-- in a well-formed, honest history an index is granted only where nobody holds it
pub returns-clause-granted : goal.returns-clause-granted
returns-clause-granted c well honest p index owner before after is =
    let pass = c.args.pass.now in
    let sound = c.container_histories_are_sound.ensures (code_of pass) (container_of pass).capacity (history pass) c.history.ensures.history in
    sound.holds well honest before after (Granted p index owner) is

-- an index that was never freed is granted only where nobody holds it
pub returns-clause-held : goal.returns-clause-held
returns-clause-held c p index owner never before after is =
    let pass = c.args.pass.now in
    c.container_indices_are_held_by_one.ensures index (code_of pass) (container_of pass).capacity (history pass) c.history.ensures.history
    (c.indices_never_freed_are_freed_right.ensures index (history pass) never) before after (Granted p index owner) is refl

-- updates meet the changes, where these are fewer than 2^64 - 1
pub returns-clause-met : goal.returns-clause-met
returns-clause-met c few =
    let pass = c.args.pass.now in
    c.container_updates_meet_changes.ensures (code_of pass) (container_of pass).capacity (history pass) c.history.ensures.history few

-- the events up to the end of any call are those of the first turns of the run that the pass knows
pub returns-clause-ended : goal.returns-clause-ended
returns-clause-ended c p start answer before rest is =
    let pass = c.args.pass.now in
    let ran = c.container_calls_end_histories.ensures (code_of pass) (container_of pass).capacity (view pass) c.history.ensures.run p start
    answer before rest is
    in
    (ran.turns, ran.first, ran.knows.is)
