-- Wrong bodies of the container: for each a run or a turn that it makes, and what refuses that.
use Rattle.std.proofs.Common.{ℕ, ◌-◌, ◌^◌, ◌==◌, Bool, true, false, inl, List, [], ◌∷◌, ◌++◌, if◌then◌else◌, refl, arith}
use Rattle.std.specs.Prelude.{fold}
use Rattle.steps.specs.declared.container.state.ContainerState.{ContainerState}
use Rattle.steps.specs.declared.indices.enums.ReleaseMode.TheVariants.{Default}
use Rattle.steps.specs.declared.indices.enums.ReleaseState.TheVariants.{Unlocked}
use Rattle.model.specs.declared.event.Answer.TheVariants.{Done, Index, State, Truth}
use Rattle.model.specs.declared.event.Event.{Event}
use Rattle.model.specs.declared.event.Event.TheVariants.{Begun, Filled, Granted, FreedOf, Asked, Told, Died, Placed, Copied, Shown, Finished}
use Rattle.model.specs.declared.event.Start.{Start}
use Rattle.model.specs.declared.event.Start.TheVariants.{Container}
use Rattle.model.specs.declared.families.Registry.TheVariants as registries
use Rattle.model.specs.declared.families.container.ContainerStart.TheVariants.{Add, Replace, Recover, UpdateState}
use Rattle.model.specs.declared.turn.Kind.TheVariants as kinds
use Rattle.model.specs.declared.turn.Turn.TheVariants.{Next}
use Rattle.model.specs.Coding.{one_word}
use Rattle.model.specs.Families.Container.Looks.{WasAlone}
use Rattle.model.specs.Families.Container.Promises.{IsContainer, IsWellFormedRun, ReplacesRight}
use Rattle.model.specs.Families.Container.Reading.{MayReplace}
use Rattle.model.specs.Families.Container.States.{fresh}
use Rattle.model.specs.Families.Indices.Robust.Promises.{FreesRight}
use Rattle.model.specs.Families.Indices.Robust.Reading.{Asks}
use Rattle.model.specs.Promises.{IsKept, IsTurn}
use Rattle.model.specs.Reading.{Span, Never, own_after}
use Rattle.model.specs.Shape.{IsShut}
use Rattle.model.specs.World.{Trace}
use Rattle.model.proofs.Readings.{Each-append, Each-nil}
use Rattle.headline.specs.Headline.{ContainerRuns}
use Rattle.wrong_runs.proofs.Container.{container, still, well_formed}
use Rattle.wrong_runs.proofs.Machines.{machine}

abbrev add : Start ℕ
add = Container (Add 5 7)

abbrev recover : Start ℕ
recover = Container (Recover 7 Default)

-- owner 7 has placed 5 at index 0
abbrev added : List (Event ℕ)
added = Begun 0 add ∷ Filled 0 0 7 ∷ Granted 0 0 7 ∷ Placed 0 0 5 ∷ Finished 0 add (Index 0) ∷ []

-- The greatest number of 64 bits, which marks a cell without an owner.
abbrev empty : ℕ
empty = 2 ^ 64 - 1

-- Words of a container: the counter, a cell for each of two indices, the number of changes, the number of
-- each element (`count` of the first), and the word of each (`word` of the first).
abbrev words : ℕ → ℕ → List ℕ
words count word = 0 ∷ 7 ∷ empty ∷ 1 ∷ count ∷ 0 ∷ word ∷ 0 ∷ []

-- ---- replace

abbrev replace : Start ℕ
replace = Container (Replace 0 6 7)

-- A replace of the value at index 0 has begun.
abbrev replacing : List (Event ℕ)
replacing = added ++ Begun 0 replace ∷ []

-- The replace has ended with Done, and has placed nothing.
abbrev unreplaced : List (Event ℕ)
unreplaced = replacing ++ Finished 0 replace Done ∷ []

-- The replace was begun where its party may replace what stands at the index.
may_replace : MayReplace 0 0 7 replacing
may_replace = record { before = added; start = replace; since = []; is = refl; within = tt; holds = (refl, tt) }

-- The run in which the replace has placed nothing is well-formed.
unreplaced_well_formed : IsWellFormedRun (container still unreplaced)
unreplaced_well_formed =
    well_formed unreplaced still
    (Each-append FreesRight [] unreplaced (Each-nil FreesRight) (tt, (tt, (tt, (tt, (tt, (tt, (tt, tt))))))))
    (Each-append ReplacesRight [] unreplaced (Each-nil ReplacesRight) (tt, (tt, (tt, (tt, (tt, (tt, (may_replace, tt))))))))

-- A replace that finds its owner at the index, ends, and changes nothing is refused.
replace_changes_nothing : ContainerRuns (container still unreplaced) → ⊥
replace_changes_nothing container_runs = cc (container_runs.replaced unreplaced_well_formed 0 0 7 6 replacing ([], refl))

-- The run with the replace under way is well-formed, whatever the words are.
replacing_well_formed : (words : List ℕ) → IsWellFormedRun (container words replacing)
replacing_well_formed words =
    well_formed replacing words
    (Each-append FreesRight [] replacing (Each-nil FreesRight) (tt, (tt, (tt, (tt, (tt, (tt, tt)))))))
    (Each-append ReplacesRight [] replacing (Each-nil ReplacesRight) (tt, (tt, (tt, (tt, (tt, (tt, tt)))))))

-- A replace that writes its value over the one that stands, which it has not hidden, is refused.
replace_writes_under_an_odd_count : IsContainer (container (words 1 6) replacing) → ⊥
replace_writes_under_an_odd_count is_container =
    let word = ((is_container.well_formed (replacing_well_formed (words 1 6))).elements 0 (omega arith)).1 0 (omega arith) in cc

-- ---- recovery

-- owner 7 has died within an add, before its value stood, and a recovery that found no value at index 0 has freed it
abbrev unplaced : List (Event ℕ)
unplaced = Begun 0 add ∷ Filled 0 0 7 ∷ Granted 0 0 7 ∷ Died 7 ∷ Begun 1 recover ∷ Shown 1 0 ∷ FreedOf 1 0 7 ∷ []

-- The run in which the owner has died is well-formed, whatever the words are.
unplaced_well_formed : (words : List ℕ) → IsWellFormedRun (container words unplaced)
unplaced_well_formed words =
    well_formed unplaced words
    (Each-append FreesRight [] unplaced (Each-nil FreesRight) (tt, (tt, (tt, (tt, (tt, (tt, (tt, tt))))))))
    (Each-append ReplacesRight [] unplaced (Each-nil ReplacesRight) (tt, (tt, (tt, (tt, (tt, (tt, (tt, tt))))))))

-- a recovery raises the even number of the element to an odd one, so that words stand there that nobody has placed
recovery_raises_an_even_count : IsContainer (container (words 1 0) unplaced) → ⊥
recovery_raises_an_even_count is_container = cc ((is_container.well_formed (unplaced_well_formed (words 1 0))).elements 0 (omega arith))

-- A recovery of the dead owner 7 was told to free index 0.
abbrev told : List (Event ℕ)
told = Filled 0 0 7 ∷ Died 7 ∷ Begun 1 recover ∷ Copied 1 0 5 ∷ Asked 1 0 7 ∷ Told 1 0 7 ∷ []

-- A recovery that was told to free an index, has freed nothing and answers Unlocked is refused.
container_recovers_nothing : ContainerRuns (container still (told ++ Finished 1 recover (State Unlocked) ∷ [])) → ⊥
container_recovers_nothing k = k.recovered 1 0 7 Default told ([], refl) (inl (record { before = Asks 0 7 ∷ []; after = []; is = refl })) refl

-- Owner 7 has died, and a recovery was shown that nothing stands at index 0.
abbrev visited : List (Event ℕ)
visited = Died 7 ∷ Begun 1 recover ∷ Shown 1 0 ∷ []

-- A recovery that is shown an index a second time is refused.
container_recovery_visits_twice : IsKept (container still (visited ++ Shown 1 0 ∷ [])) → ⊥
container_recovery_visits_twice kept = absurd (omega (arith, (kept.spans visited [] (Shown 1 0) refl).0))

-- ---- update_state

abbrev update : Start ℕ
update = Container UpdateState

-- After the add party 1 has begun to bring its state up to date, and no other call is under way.
abbrev looking : List (Event ℕ)
looking = added ++ Begun 1 update ∷ []

-- The update has answered true.
abbrev looked : List (Event ℕ)
looked = looking ++ Finished 1 update (Truth true) ∷ []

abbrev blank : ContainerState ℕ
blank = fresh one_word 2

-- A container in which a value stands at index 0, and party 1 has a state that shows nothing.
abbrev with_blank : List (Event ℕ) → Trace ℕ
with_blank events = machine kinds.Container (words 1 5) (registries.Container [] ((1, blank) ∷ [])) events

shut : (b : Bool) → IsShut (fold (λ (span : Span ℕ) (e : Event ℕ). if b then own_after span e else span) Never added)
shut true = tt
shut false = tt

-- no other call is under way during the update
alone : WasAlone 1 looked
alone =
    record {
      before = added;
      start = update;
      since = Finished 1 update (Truth true) ∷ [];
      is = refl;
      within = tt;
      holds = ((λ q other. shut (0 == q)), (refl, tt));
    }

-- the run is well-formed
looked_well_formed : IsWellFormedRun (with_blank looked)
looked_well_formed =
    record {
      frees = Each-append FreesRight [] looked (Each-nil FreesRight) (tt, (tt, (tt, (tt, (tt, (tt, (tt, tt)))))));
      replaced = Each-append ReplacesRight [] looked (Each-nil ReplacesRight) (tt, (tt, (tt, (tt, (tt, (tt, (tt, tt)))))));
      replaces = λ p. tt;
    }

-- An update that answers true, was alone and leaves a state that shows nothing is refused,
-- since a value stands.
update_copies_nothing : IsTurn (with_blank looking) (Next 1) (with_blank looked) → ⊥
update_copies_nothing turn =
    let right = turn.tells.looks 1 UpdateState (Truth true) blank (record { is_look = tt; wrote = []; is = refl }) refl in
    cc ((right.1 looked_well_formed).0.alone alone 0 (omega arith))
