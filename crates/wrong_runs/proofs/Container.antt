-- For each field of what a container promises a run that this field alone refuses here.
use Rattle.std.proofs.Common.{◌≡◌, ℕ, ◌-◌, ◌^◌, true, List, [], ◌∷◌, ◌++◌, refl, arith}
use Rattle.steps.specs.declared.indices.enums.ReleaseMode.TheVariants.{Default}
use Rattle.steps.specs.declared.indices.enums.ReleaseState.TheVariants as states
use Rattle.model.specs.declared.event.Answer.TheVariants.{Index, State, Truth}
use Rattle.model.specs.declared.event.Event.{Event}
use Rattle.model.specs.declared.event.Event.TheVariants.{Begun, Filled, Granted, FreedOf, Told, Placed, Copied, Finished}
use Rattle.model.specs.declared.event.Start.{Start}
use Rattle.model.specs.declared.event.Start.TheVariants.{Container}
use Rattle.model.specs.declared.families.Registry.TheVariants as registries
use Rattle.model.specs.declared.families.container.ContainerStart.TheVariants.{Add, Remove, Find, Recover, GetState, IsLocked}
use Rattle.model.specs.declared.turn.Kind.TheVariants as kinds
use Rattle.model.specs.declared.turn.Turn.{Turn}
use Rattle.model.specs.Coding.{one_word}
use Rattle.model.specs.Families.Container.Promises.{IsContainer, IsContained, IsWellFormedRun, ReplacesRight}
use Rattle.model.specs.Families.Container.Reading.{Act, Copies}
use Rattle.model.specs.Families.Indices.Robust.Promises.{FreesRight}
use Rattle.model.specs.Families.Indices.Robust.Reading.{SetAct, Frees}
use Rattle.model.specs.Reading.{Each}
use Rattle.model.specs.World.{Trace}
use Rattle.model.proofs.Readings.{Each-append, Each-nil, no_more}
use Rattle.model.proofs.Runs.{begins, ran}
use Rattle.wrong_runs.proofs.Machines.{machine, at_no_moment}

abbrev empty : ℕ
empty = 2 ^ 64 - 1

-- words: the counter, a cell for each index, the number of changes, the number and the word of each element
abbrev pub still : List ℕ
still = 0 ∷ empty ∷ empty ∷ 0 ∷ 0 ∷ 0 ∷ 0 ∷ 0 ∷ []

abbrev pub container : List ℕ → List (Event ℕ) → Trace ℕ
container words events = machine kinds.Container words (registries.Container [] []) events

abbrev pub recover : ℕ → Start ℕ
recover owner = Container (Recover owner Default)

-- an index is filled for two owners
filled_twice : IsContainer (container still (Filled 0 0 7 ∷ Filled 1 0 9 ∷ [])) → ⊥
filled_twice container = cc ((container.does (Filled 0 0 7 ∷ []) [] (Filled 1 0 9) refl).1)

-- a recovery is told to free an index of an owner who lives
told_of_the_living : IsContainer (container still (Told 1 0 7 ∷ [])) → ⊥
told_of_the_living container = cc (container.asks [] [] (Told 1 0 7) refl)

-- a recovery frees an index of an owner who lives
frees_the_living : IsContainer (container still (Filled 0 0 7 ∷ Begun 1 (recover 7) ∷ FreedOf 1 0 7 ∷ [])) → ⊥
frees_the_living container =
    cc ((container.recovers (Filled 0 0 7 ∷ Begun 1 (recover 7) ∷ []) [] (FreedOf 1 0 7) refl).1)

-- it says that it is locked, and is not
says_so : IsContainer (container still (Finished 0 (Container IsLocked) (Truth true) ∷ [])) → ⊥
says_so container = cc (container.answers [] [] (Finished 0 (Container IsLocked) (Truth true)) refl)

-- a cell holds an owner, and nobody has filled it
holds_unfilled : IsContainer (container (0 ∷ 7 ∷ empty ∷ 0 ∷ 0 ∷ 0 ∷ 0 ∷ 0 ∷ []) []) → ⊥
holds_unfilled container = absurd (omega (arith, container.cells 0 (omega arith)))

-- the counter says that it is locked, and nobody has locked it
counter_says_so : IsContainer (container ((2 ^ 64 - 1) ∷ empty ∷ empty ∷ 0 ∷ 0 ∷ 0 ∷ 0 ∷ 0 ∷ []) []) → ⊥
counter_says_so container = cc (container.lock)

-- the machine takes an owner for dead who has not died
unnamed_dead : IsContainer (machine kinds.Container still (registries.Container (7 ∷ []) []) []) → ⊥
unnamed_dead container = cc (container.dead 7)

-- ---- a run of which the events are forgotten: an add, and a find that asks about its value, or a look at it

-- An add has taken eight steps and these turns follow, but the trace has none of their events.
abbrev pub forgotten : List (Turn ℕ) → Trace ℕ
forgotten turns = record { world = (ran one_word kinds.Container 1 2 (begins 0 (Container (Add 5 1)) 8 ++ turns)).world; events = [] }

-- The empty list of acts has no last act.
pub no_copy : (before : List (Act ℕ)) (one : Act ℕ) → [] ≡ before ++ one ∷ [] → ⊥
no_copy [] one split = cc
no_copy (a ∷ bs) one split = cc

-- a find asks about a value that it has not copied
asks_uncopied : IsContainer (forgotten (begins 1 (Container (Find 1)) 4)) → ⊥
asks_uncopied container = let asked_there = container.questions 1 0 5 refl in no_copy asked_there.before (Copies 0 5) asked_there.is

-- a state shows a value that was not copied
shows_uncopied : IsContainer (forgotten (begins 1 (Container GetState) 4)) → ⊥
shows_uncopied container = let shown_there = container.states 1 0 _ 5 refl refl refl in
    no_more shown_there.before (Copied 1 0 5) shown_there.after shown_there.is

-- ---- a well-formed run

-- A run in which no replace is under way is well-formed if what it has freed and replaced was
-- begun where it might be.
pub well_formed : (events : List (Event ℕ)) (words : List ℕ) → Each FreesRight events → Each ReplacesRight events
    → IsWellFormedRun (container words events)
well_formed events words frees replaced = record { frees = frees; replaced = replaced; replaces = λ p. tt }

-- a value is copied that does not stand there
abbrev pub copied : List (Event ℕ)
copied = Copied 0 0 5 ∷ []

-- A copy of a value that does not stand at the index is refused.
pub copies_nothing : IsContained (container still copied) → ⊥
copies_nothing contained = cc (contained.contents [] [] (Copied 0 0 5) refl)

-- The run in which a value is copied that nobody has placed is well-formed.
pub copied_well_formed : IsWellFormedRun (container still copied)
copied_well_formed =
    well_formed copied still (Each-append FreesRight [] copied (Each-nil FreesRight) (tt, tt))
    (Each-append ReplacesRight [] copied (Each-nil ReplacesRight) (tt, tt))

-- A container refuses the well-formed run in which a value is copied that does not stand at the index.
not_contained : IsContainer (container still copied) → ⊥
not_contained container = copies_nothing (container.well_formed copied_well_formed)

-- an index is granted to two owners
granted_twice : IsContained (container still (Filled 0 0 7 ∷ Granted 0 0 7 ∷ Granted 1 0 9 ∷ [])) → ⊥
granted_twice contained = cc (contained.holders (Filled 0 0 7 ∷ Granted 0 0 7 ∷ []) [] (Granted 1 0 9) refl)

-- an add ends, and has placed nothing
abbrev pub unplaced : List (Event ℕ)
unplaced = Begun 0 (Container (Add 5 7)) ∷ Finished 0 (Container (Add 5 7)) (Index 0) ∷ []

-- An add that answers an index and has placed nothing is refused.
places_nothing : IsContained (container still unplaced) → ⊥
places_nothing contained =
    cc (contained.placed (Begun 0 (Container (Add 5 7)) ∷ []) [] (Finished 0 (Container (Add 5 7)) (Index 0)) refl)

-- a remove ends, and what stood at its index still stands
abbrev before_end : List (Event ℕ)
before_end = Placed 0 0 5 ∷ Begun 0 (Container (Remove 0 7 Default)) ∷ FreedOf 0 0 7 ∷ []

-- The empty list of acts on the set has no act in it.
no_act : (before after : List SetAct) (one : SetAct) → [] ≡ before ++ one ∷ after → ⊥
no_act [] after one split = cc
no_act (a ∷ bs) after one split = cc

-- a remove that ends while its value still stands is refused
hides_nothing : IsContained (container still (before_end ++ Finished 0 (Container (Remove 0 7 Default)) (State states.Unlocked) ∷ [])) → ⊥
hides_nothing contained =
    at_no_moment 0 _ before_end (
      (λ h. no_act h.0.before h.0.after (Frees 0 7) h.0.is),
      (
        (λ h. no_act h.0.before h.0.after (Frees 0 7) h.0.is),
        ((λ h. no_act h.0.before h.0.after (Frees 0 7) h.0.is), (λ h. cc (h.1))),
      ),
    )
    (contained.hidden before_end [] (Finished 0 (Container (Remove 0 7 Default)) (State states.Unlocked)) refl)

-- the number of an element is odd, and nothing stands there
stands_unplaced : IsContained (container (0 ∷ empty ∷ empty ∷ 0 ∷ 1 ∷ 0 ∷ 0 ∷ 0 ∷ []) []) → ⊥
stands_unplaced contained = cc (contained.elements 0 (omega arith))
