-- For each field of what `headline` says of a look at a container that ends a turn that this field refuses here.
use Rattle.std.proofs.Common.{◌≡◌, ℕ, ◌==◌, Bool, true, false, Some, List, [], ◌∷◌, ◌++◌, if◌then◌else◌, refl, arith}
use Rattle.steps.specs.declared.container.state.ContainerState.{ContainerState}
use Rattle.model.specs.declared.event.Answer.TheVariants.{Index, Number, Truth}
use Rattle.model.specs.declared.event.Event.{Event}
use Rattle.model.specs.declared.event.Event.TheVariants.{Begun, Filled, Granted, Placed, Finished}
use Rattle.model.specs.declared.event.Start.{Start}
use Rattle.model.specs.declared.event.Start.TheVariants.{Container}
use Rattle.model.specs.declared.families.Registry.TheVariants as registries
use Rattle.model.specs.declared.families.container.ContainerStart.TheVariants.{Add, GetState, UpdateState}
use Rattle.model.specs.declared.party.Doing.TheVariants.{Over}
use Rattle.model.specs.declared.party.Party.{Party}
use Rattle.model.specs.declared.turn.Kind.TheVariants as kinds
use Rattle.model.specs.declared.turn.Turn.TheVariants.{Next}
use Rattle.model.specs.Families.Container.Looks.{StoodThrough, WasAlone, WasAnnounced}
use Rattle.model.specs.Families.Container.Promises.{IsWellFormedRun, ReplacesRight}
use Rattle.model.specs.Families.Container.Reading.{Copies, contents_of}
use Rattle.model.specs.Families.Indices.Robust.Promises.{FreesRight}
use Rattle.model.specs.Reading.{Each, Never}
use Rattle.model.specs.Shape.{IsShut}
use Rattle.model.specs.World.{Trace}
use Rattle.model.proofs.Readings.{Each-append, Each-nil, no_more}
use Rattle.headline.specs.Headline.{Takes}
use Rattle.wrong_runs.proofs.Container.{still}
use Rattle.wrong_runs.proofs.Machines.{machine, at_no_moment, throughout}

abbrev look : Start ℕ
look = Container GetState

abbrev update : Start ℕ
update = Container UpdateState

abbrev add : Start ℕ
add = Container (Add 5 7)

-- A container with these states of parties, latest calls and events.
abbrev of_party : List (ℕ × ContainerState ℕ) → List (ℕ × Party ℕ) → List (Event ℕ) → Trace ℕ
of_party states latest events =
    record {
      world = record (machine kinds.Container still (registries.Container [] states) events).world { latest = latest };
      events = events;
    }

-- a state that shows under this number the value 5 at index 0, and nothing at index 1
abbrev state : ℕ → ContainerState ℕ
state count =
    record {
      container = 0;
      capacity = 2;
      seen = record { change = 0; counts = 0 ∷ 0 ∷ [] };
      shown =
          record {
            change = 0;
            elements = record { count = count; value = 5 } ∷ record { count = 0; value = 0 } ∷ [];
            copy = [];
          };
    }

-- A container in which party 1 has the state that shows 5 at index 0, or shows nothing if the number is even,
-- after these events.
abbrev showing : ℕ → List (Event ℕ) → Trace ℕ
showing count events = of_party ((1, state count) ∷ []) [] events

-- a look leaves no state
leaves_none : Takes (of_party [] [] (Begun 1 look ∷ [])) (Next 1) (of_party [] [] (Begun 1 look ∷ Finished 1 look (Number 0) ∷ [])) → ⊥
leaves_none takes = cc ((takes.looked refl).leaves 1 GetState (Number 0) tt ([], refl))

-- ---- in a well-formed run

well : (t : Trace ℕ) → t.world.latest ≡ [] → Each FreesRight t.events → Each ReplacesRight t.events → IsWellFormedRun t
well t none frees replaced = record { frees = frees; replaced = replaced; replaces = λ p. rw none tt }

-- an add has ended before the look began, and its value is not shown
abbrev added : List (Event ℕ)
added = Begun 0 add ∷ Filled 0 0 7 ∷ Granted 0 0 7 ∷ Placed 0 0 5 ∷ Finished 0 add (Index 0) ∷ []

-- A look of party 1 has ended after the add, and answers that its state shows no value.
abbrev missed : List (Event ℕ)
missed = (added ++ Begun 1 look ∷ []) ++ Finished 1 look (Number 0) ∷ []

-- The run in which the look misses the value is well-formed.
missed_well : IsWellFormedRun (showing 0 missed)
missed_well =
    well (showing 0 missed) refl (Each-append FreesRight [] missed (Each-nil FreesRight) (tt, (tt, (tt, (tt, (tt, (tt, (tt, tt))))))))
    (Each-append ReplacesRight [] missed (Each-nil ReplacesRight) (tt, (tt, (tt, (tt, (tt, (tt, (tt, tt))))))))

-- The value at index 0 was placed by an add that ended before the look began.
announced : WasAnnounced 1 0 missed
announced = record { before = added; start = look; since = Finished 1 look (Number 0) ∷ []; is = refl; within = tt; holds = refl }

-- The value stood at index 0 through the whole look.
stands : StoodThrough 1 0 5 missed
stands = throughout 1 look (λ part. contents_of 0 part ≡ Some 5) added (Finished 1 look (Number 0) ∷ []) (refl, refl)

-- A look whose state does not show a value that stood through the look is refused.
misses : Takes (of_party [] [] (added ++ Begun 1 look ∷ [])) (Next 1) (showing 0 missed) → ⊥
misses takes = cc ((takes.looked refl).stood missed_well 1 0 5 GetState (Number 0) (state 0) tt ([], refl) refl announced stands)

-- A value stands at index 0, and no call is under way.
abbrev standing : List (Event ℕ)
standing = Placed 0 0 5 ∷ []

-- A look of party 1 has ended, alone, and answers that its state shows no value.
abbrev overlooked : List (Event ℕ)
overlooked = (standing ++ Begun 1 look ∷ []) ++ Finished 1 look (Number 0) ∷ []

-- The run in which the look overlooks the value is well-formed.
overlooked_well : IsWellFormedRun (showing 0 overlooked)
overlooked_well =
    well (showing 0 overlooked) refl (Each-append FreesRight [] overlooked (Each-nil FreesRight) (tt, (tt, (tt, tt))))
    (Each-append ReplacesRight [] overlooked (Each-nil ReplacesRight) (tt, (tt, (tt, tt))))

none_began : (b : Bool) → IsShut {T = ℕ} (if b then Never else Never)
none_began true = tt
none_began false = tt

-- no other call is under way during the look
was_alone : WasAlone 1 overlooked
was_alone =
    record {
      before = standing;
      start = look;
      since = Finished 1 look (Number 0) ∷ [];
      is = refl;
      within = tt;
      holds = ((λ q other. none_began (0 == q)), (refl, tt));
    }

-- A look that was alone, and whose state does not show what the container has, is refused.
overlooks : Takes (of_party [] [] (standing ++ Begun 1 look ∷ [])) (Next 1) (showing 0 overlooked) → ⊥
overlooks takes = cc ((takes.looked refl).alone overlooked_well 1 0 GetState (Number 0) (state 0) tt ([], refl) refl was_alone (omega arith))

-- An add and an update are under way, and no value was placed.
abbrev beside : List (Event ℕ)
beside = Begun 0 add ∷ Begun 1 update ∷ []

-- The update has answered true.
abbrev imagined : List (Event ℕ)
imagined = beside ++ Finished 1 update (Truth true) ∷ []

-- The run with this answer is well-formed.
imagined_well : IsWellFormedRun (showing 1 imagined)
imagined_well =
    well (showing 1 imagined) refl (Each-append FreesRight [] imagined (Each-nil FreesRight) (tt, (tt, (tt, tt))))
    (Each-append ReplacesRight [] imagined (Each-nil ReplacesRight) (tt, (tt, (tt, tt))))

-- An update that answers true, and whose state shows what stood at no moment of it, is refused.
imagines : Takes (showing 0 beside) (Next 1) (showing 1 imagined) → ⊥
imagines takes =
    at_no_moment 1 (λ past. Some 5 ≡ contents_of 0 past) imagined ((λ e. cc), ((λ e. cc), ((λ e. cc), (λ e. cc))))
    ((takes.looked refl).moments imagined_well 1 0 (state 1) ([], refl) refl (omega arith))

-- ---- in every run

-- a new state shows a value that its call has not copied
keeps_old : Takes (showing 1 (standing ++ Begun 1 look ∷ [])) (Next 1) (showing 1 (standing ++ Begun 1 look ∷ Finished 1 look (Number 1) ∷ [])) → ⊥
keeps_old takes =
    let one = (takes.looked refl).own 1 0 5 (Number 1) (state 1) ([], refl) refl refl in no_more one.before (Copies 0 5) one.after one.is

-- a look answers another number than that of the values that its state shows
counts_wrong : Takes (of_party [] [] (Begun 1 look ∷ [])) (Next 1) (showing 0 (Begun 1 look ∷ Finished 1 look (Number 1) ∷ [])) → ⊥
counts_wrong takes = cc ((takes.looked refl).number 1 1 (state 0) ([], refl) refl)

-- The latest call of party 1 is an update that is done after this number of steps.
abbrev steps_in : ℕ → List (ℕ × Party ℕ)
steps_in steps = (1, record { start = update; steps = steps; backs = 0; doing = Over 0 }) ∷ []

-- Party 1 has begun an update of its state.
abbrev begun : List (Event ℕ)
begun = Begun 1 update ∷ []

-- The update has answered false.
abbrev ended : List (Event ℕ)
ended = begun ++ Finished 1 update (Truth false) ∷ []

-- An update that answers false after two steps is refused.
false_late : Takes (showing 0 begun) (Next 1) (of_party ((1, state 0) ∷ []) (steps_in 2) ended) → ⊥
false_late takes = absurd (omega (arith, ((takes.looked refl).at_once 1 ([], refl)).0))

-- An update that answers false, and has changed its party's state, is refused.
false_changes : Takes (of_party [] [] begun) (Next 1) (of_party ((1, state 0) ∷ []) (steps_in 1) ended) → ⊥
false_changes takes = cc (((takes.looked refl).at_once 1 ([], refl)).1)
