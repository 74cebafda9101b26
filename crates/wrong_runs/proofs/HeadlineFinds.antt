-- For each field of what `headline` says of a find that ends a turn that this field refuses here.
use Rattle.std.proofs.Common.{◌≡◌, ℕ, true, false, is_some, List, [], ◌∷◌, ◌++◌, refl, sym, ◌∙◌, arith}
use Rattle.model.specs.declared.event.Answer.TheVariants.{Index, Number}
use Rattle.model.specs.declared.event.Event.{Event}
use Rattle.model.specs.declared.event.Event.TheVariants.{Begun, Filled, Granted, Placed, Copied, Finished}
use Rattle.model.specs.declared.event.Start.{Start}
use Rattle.model.specs.declared.event.Start.TheVariants.{Robust, Container}
use Rattle.model.specs.declared.families.Registry.TheVariants as registries
use Rattle.model.specs.declared.families.container.ContainerStart.TheVariants as containers
use Rattle.model.specs.declared.families.indices.robust.RobustStart.TheVariants.{Acquire, Find}
use Rattle.model.specs.declared.turn.Kind.TheVariants as kinds
use Rattle.model.specs.declared.turn.Turn.{Turn}
use Rattle.model.specs.declared.turn.Turn.TheVariants.{Next, Decide}
use Rattle.model.specs.Coding.{one_word}
use Rattle.model.specs.Families.Container.Promises.{IsWellFormedRun, ReplacesRight}
use Rattle.model.specs.Families.Container.Reading.{Copies, contents_of}
use Rattle.model.specs.Families.Indices.Robust.Promises.{FreesRight, IsFilledWith, IsCount}
use Rattle.model.specs.World.{Trace}
use Rattle.model.proofs.Readings.{Each-append, Each-nil, no_more}
use Rattle.model.proofs.Runs.{begins, ran}
use Rattle.headline.specs.Headline.{Takes}
use Rattle.wrong_runs.proofs.Container.{container, still, well_formed}
use Rattle.wrong_runs.proofs.Counting.{one_of_one, one_of_two}
use Rattle.wrong_runs.proofs.Machines.{machine, Stays, throughout}

no_decision : (p : ℕ) → ◌≡◌ {A = Turn ℕ} (Next p) (Decide p false) → ⊥
no_decision p e = cc

-- Two runs that end the same call with a number, and are equal, have the same number.
same_number : (start : Start ℕ) (events : List (Event ℕ)) (n m : ℕ) → events ++ Finished 1 start (Number n) ∷ [] ≡ events ++ Finished 1 start (Number m) ∷ []
    → n ≡ m
same_number start [] n m same_events = cc
same_number start (x ∷ xs) n m same_events =
    let rest : xs ++ Finished 1 start (Number n) ∷ [] ≡ xs ++ Finished 1 start (Number m) ∷ [] = cc in same_number start xs n m rest

-- A run does not equal itself with one event more.
not_ended : (start : Start ℕ) (events : List (Event ℕ)) (n : ℕ) → events ≡ events ++ Finished 1 start (Number n) ∷ [] → ⊥
not_ended start [] n same_events = cc
not_ended start (x ∷ xs) n same_events = let rest : xs ≡ xs ++ Finished 1 start (Number n) ∷ [] = cc in not_ended start xs n rest

-- ---- of a robust set

abbrev find : Start ℕ
find = Robust (Find 7)

-- A robust set of two indices, of which owner 7 fills one, with these events.
abbrev set : List (Event ℕ) → Trace ℕ
set events = machine kinds.Robust (0 ∷ 7 ∷ []) (registries.Owners []) events

-- Index 0 is filled for owner 7, and a find of a robust set has begun.
abbrev filled : List (Event ℕ)
filled = Filled 0 0 7 ∷ Begun 1 find ∷ []

-- A find that ends with 0, and has passed over an index that its owner filled throughout, is refused.
passes_one : Takes (set filled) (Next 1) (set (filled ++ Finished 1 find (Number 0) ∷ [])) → ⊥
passes_one takes =
    let count = (takes.found refl).all 1 7 0 refl (no_decision 1) in
    one_of_two count.chosen (count.through 0 (omega arith) (throughout 1 find (IsFilledWith 7 0) (Filled 0 0 7 ∷ []) [] refl)) count.is

-- a robust set of one index, which owner 1 has, and of which a find asks
abbrev asking : Trace ℕ
asking = ran one_word kinds.Robust 1 2 (begins 0 (Robust (Acquire 1)) 8 ++ begins 1 (Robust (Find 1)) 1)

-- the find goes on after a decision to stop
goes_on : Takes asking (Decide 1 false) asking → ⊥
goes_on takes =
    let stopped = (takes.found refl).up_to 1 1 0 refl (refl, tt) refl in not_ended (Robust (Find 1)) asking.events stopped.0 stopped.1

-- The find has ended with 0.
abbrev ended_by_no : Trace ℕ
ended_by_no = record asking { events = asking.events ++ Finished 1 (Robust (Find 1)) (Number 0) ∷ [] }

-- Owner 1 has acquired index 0.
abbrev acquired : List (Event ℕ)
acquired = Begun 0 (Robust (Acquire 1)) ∷ Filled 0 0 1 ∷ Granted 0 0 1 ∷ Finished 0 (Robust (Acquire 1)) (Index 0) ∷ []

-- a find that counts no index has not counted one that stayed filled for its owner
forgets : (start : Start ℕ) (before since : List (Event ℕ)) (number : ℕ) → 0 ≡ number
    → Stays (IsFilledWith 1 0) (before ++ Begun 1 start ∷ []) since
    → IsCount 1 (IsFilledWith 1) 1 number (before ++ Begun 1 start ∷ since)
    → ⊥
forgets start before since number none filled count =
    one_of_one count.chosen (count.through 0 (omega arith) (throughout 1 start (IsFilledWith 1 0) before since filled)) (count.is ∙ sym none)

-- A find that a decision to stop ends, and that has not counted the index that it asked about, is refused.
forgets_one : Takes asking (Decide 1 false) ended_by_no → ⊥
forgets_one takes =
    let stopped = (takes.found refl).up_to 1 1 0 refl (refl, tt) refl in
    forgets (Robust (Find 1)) acquired [] stopped.0 (same_number (Robust (Find 1)) asking.events 0 stopped.0 stopped.1) refl stopped.2

-- ---- of a container

abbrev find_there : Start ℕ
find_there = Container (containers.Find 7)

-- Index 0 is filled for owner 7, and a find of a container has begun.
abbrev filled_there : List (Event ℕ)
filled_there = Filled 0 0 7 ∷ Begun 1 find_there ∷ []

-- A find of a container that ends with 0, and has passed over an index that its owner filled throughout, is refused.
passes_one_there : Takes (container still filled_there) (Next 1) (container still (filled_there ++ Finished 1 find_there (Number 0) ∷ [])) → ⊥
passes_one_there takes =
    let count = (takes.found_there refl).all 1 7 0 [] refl (no_decision 1) in
    one_of_two count.chosen (count.through 0 (omega arith) (throughout 1 find_there (IsFilledWith 7 0) (Filled 0 0 7 ∷ []) [] refl)) count.is

-- Index 0 is filled for owner 7 and has the value 5, and a find has begun.
abbrev placed : List (Event ℕ)
placed = Filled 0 0 7 ∷ Placed 0 0 5 ∷ Begun 1 find_there ∷ []

-- The find has ended with 1, and has copied no value.
abbrev uncopied : List (Event ℕ)
uncopied = placed ++ Finished 1 find_there (Number 1) ∷ []

uncopied_well : IsWellFormedRun (container still uncopied)
uncopied_well =
    well_formed uncopied still (Each-append FreesRight [] uncopied (Each-nil FreesRight) (tt, (tt, (tt, (tt, tt)))))
    (Each-append ReplacesRight [] uncopied (Each-nil ReplacesRight) (tt, (tt, (tt, (tt, tt)))))

-- a find that has counted an index, and not copied the value that stood there, is refused
copies_none : Takes (container still placed) (Next 1) (container still uncopied) → ⊥
copies_none takes =
    let found = (takes.found_there refl).all_copied uncopied_well 1 7 1 [] refl (no_decision 1) in
    let chosen = found.count.through 0 (omega arith) (throughout 1 find_there (IsFilledWith 7 0) (Filled 0 0 7 ∷ Placed 0 0 5 ∷ []) [] refl) in
    let stood = throughout 1 find_there (λ part. is_some (contents_of 0 part) ≡ true) (Filled 0 0 7 ∷ Placed 0 0 5 ∷ []) [] refl in
    let copied = found.copied 0 (omega arith) chosen stood in
    no_more copied.1.before (Copies 0 copied.0) copied.1.after copied.1.is

-- a container of one index, which owner 1 has with the value 5, and of which a find asks
abbrev asking_there : Trace ℕ
asking_there = ran one_word kinds.Container 1 2 (begins 0 (Container (containers.Add 5 1)) 8 ++ begins 1 (Container (containers.Find 1)) 4)

-- the find goes on after a decision to stop
goes_on_there : Takes asking_there (Decide 1 false) asking_there → ⊥
goes_on_there takes =
    let stopped = (takes.found_there refl).up_to 1 1 0 5 refl (refl, tt) refl in
    not_ended (Container (containers.Find 1)) asking_there.events stopped.0 stopped.1

-- The find of the container has ended with 0.
abbrev ended_by_no_there : Trace ℕ
ended_by_no_there = record asking_there { events = asking_there.events ++ Finished 1 (Container (containers.Find 1)) (Number 0) ∷ [] }

-- what an add of the value 5 for owner 1 at index 0 writes down
abbrev added : List (Event ℕ)
added =
    Begun 0 (Container (containers.Add 5 1))
    ∷ Filled 0 0 1
    ∷ Granted 0 0 1
    ∷ Placed 0 0 5
    ∷ Finished 0 (Container (containers.Add 5 1)) (Index 0)
    ∷ []

-- A find of a container that a decision to stop ends without counting the index that it asked about is refused.
forgets_one_there : Takes asking_there (Decide 1 false) ended_by_no_there → ⊥
forgets_one_there takes =
    let stopped = (takes.found_there refl).up_to 1 1 0 5 refl (refl, tt) refl in
    forgets (Container (containers.Find 1)) added (Copied 1 0 5 ∷ []) stopped.0
    (same_number (Container (containers.Find 1)) asking_there.events 0 stopped.0 stopped.1) (refl, refl) stopped.2
