-- Which runs of a container are well-formed: a worked one that is, and two that are not.
use Rattle.std.proofs.Common.{◌≡◌, ℕ, zero, suc, Some, List, [], ◌∷◌, ◌++◌, refl, arith}
use Rattle.steps.specs.declared.indices.enums.ReleaseMode.TheVariants.{Default}
use Rattle.steps.specs.declared.indices.enums.ReleaseState.TheVariants as states
use Rattle.model.specs.declared.event.Answer.TheVariants.{Done, Index, State}
use Rattle.model.specs.declared.event.Event.{Event}
use Rattle.model.specs.declared.event.Event.TheVariants.{Begun, Filled, Granted, FreedOf, Placed, Hidden, Finished}
use Rattle.model.specs.declared.event.Start.{Start}
use Rattle.model.specs.declared.event.Start.TheVariants.{Container}
use Rattle.model.specs.declared.families.container.ContainerStart.TheVariants.{Add, Remove, Replace}
use Rattle.model.specs.declared.party.Party.{Party}
use Rattle.model.specs.declared.turn.Kind.TheVariants as kinds
use Rattle.model.specs.declared.turn.Turn.{Turn}
use Rattle.model.specs.Families.Container.Promises.{IsWellFormedRun, ReplacesRight, StandsWellFormed}
use Rattle.model.specs.Families.Container.Reading.{MayReplace}
use Rattle.model.specs.Families.Indices.Robust.Promises.{FreesRight, IsFilledWith}
use Rattle.model.specs.Families.Indices.Robust.Reading.{settled_of}
use Rattle.model.specs.Moments.{HeldSometime, SinceBegin}
use Rattle.model.specs.Parties.{party_of}
use Rattle.model.specs.World.{Trace}
use Rattle.model.proofs.Parties.{apart}
use Rattle.model.proofs.Readings.{Each-append, Each-nil}
use Rattle.model.proofs.Runs.{two_words, begins, ran}
use Rattle.wrong_runs.proofs.Machines.{since_is}

abbrev add : ℕ → ℕ → Start ℕ
add value owner = Container (Add value owner)

abbrev remove : ℕ → ℕ → Start ℕ
remove index owner = Container (Remove index owner Default)

abbrev replace : ℕ → ℕ → ℕ → Start ℕ
replace index value owner = Container (Replace index value owner)

-- A container of one index, with values of two words, after these turns.
abbrev ran_on : List (Turn ℕ) → Trace ℕ
ran_on turns = ran two_words kinds.Container 1 2 turns

-- ---- an add, a replace and a remove of its handle, one after another: a well-formed run

-- A value is added, replaced and removed.
abbrev handled : List (Turn ℕ)
handled = begins 0 (add 5 1) 9 ++ (begins 0 (replace 0 6 1) 7 ++ begins 0 (remove 0 1) 6)

-- what the add of the run writes down
abbrev added : List (Event ℕ)
added =
    Begun 0 (add 5 1)
    ∷ Filled 0 0 1
    ∷ Granted 0 0 1
    ∷ Placed 0 0 5
    ∷ Finished 0 (add 5 1) (Index 0)
    ∷ []

-- what the add and the replace of the run write down
abbrev replaced : List (Event ℕ)
replaced =
    added
    ++ Begun 0 (replace 0 6 1)
    ∷ Hidden 0 0
    ∷ Placed 0 0 6
    ∷ Finished 0 (replace 0 6 1) Done
    ∷ []

-- this is what the calls write down
pub handled_events : (ran_on handled).events
    ≡ replaced
    ++ Begun 0 (remove 0 1)
    ∷ FreedOf 0 0 1
    ∷ Hidden 0 0
    ∷ Finished 0 (remove 0 1) (State states.Unlocked)
    ∷ []
handled_events = refl

-- nobody else has begun a call
nobody_else : (n : ℕ) (x : Party ℕ) (events : List (Event ℕ))
    → StandsWellFormed (suc n) (party_of (suc n) ((0, x) ∷ [])) events
nobody_else n x events = rw (apart (suc n) 0 (λ e. cc)) tt

-- each party stands as a well-formed run asks, since the last call has ended
stands : (p : ℕ)
    → StandsWellFormed p (party_of p (ran_on handled).world.latest) (ran_on handled).events
stands zero = λ index owner value wrote is steps held. absurd (cc)
stands (suc n) = nobody_else n _ _

-- After the add a replace has hidden the value and placed its own.
abbrev replaces : List (Event ℕ)
replaces = added ++ Begun 0 (replace 0 6 1) ∷ Hidden 0 0 ∷ Placed 0 0 6 ∷ []

-- the replace was begun as it may be
may_replace : MayReplace 0 0 1 replaces
may_replace =
    record {
      before = added;
      start = replace 0 6 1;
      since = Hidden 0 0 ∷ Placed 0 0 6 ∷ [];
      is = refl;
      within = tt;
      holds = (refl, (tt, (tt, tt)));
    }

-- the remove was begun as it may be, behind the replace
may_remove : FreesRight (replaced ++ Begun 0 (remove 0 1) ∷ []) (FreedOf 0 0 1)
may_remove =
    record {
      before = replaced;
      start = remove 0 1;
      since = [];
      is = refl;
      within = tt;
      holds = refl;
    }

-- the run is well-formed
pub is_well_formed : IsWellFormedRun (ran_on handled)
is_well_formed =
    record {
      frees =
          Each-append FreesRight [] (ran_on handled).events (Each-nil FreesRight)
          (tt, (tt, (tt, (tt, (tt, (tt, (tt, (tt, (tt, (tt, (may_remove, (tt, (tt, tt)))))))))))));
      replaced =
          Each-append ReplacesRight [] (ran_on handled).events (Each-nil ReplacesRight)
          (tt, (tt, (tt, (tt, (tt, (tt, (tt, (tt, (may_replace, (tt, (tt, (tt, (tt, tt)))))))))))));
      replaces = stands;
    }

-- ---- a remove that is begun before the add has finished

-- Party 1 removes the value of an add that has not ended.
abbrev hasty : List (Turn ℕ)
hasty = begins 0 (add 5 1) 3 ++ begins 1 (remove 0 1) 2

-- An add has filled index 0 for owner 1, and has not finished.
abbrev filled : List (Event ℕ)
filled = Begun 0 (add 5 1) ∷ Filled 0 0 1 ∷ []

-- The remove frees the index although the add has not ended.
pub hasty_events : (ran_on hasty).events ≡ filled ++ Begun 1 (remove 0 1) ∷ FreedOf 1 0 1 ∷ []
hasty_events = refl

-- the index is not settled for its owner as the remove begins
no_give_back : SinceBegin 1 (λ before since. settled_of 0 before ≡ Some 1)
    (filled ++ Begun 1 (remove 0 1) ∷ []) → ⊥
no_give_back since_begin =
    let settled : settled_of 0 filled ≡ Some 1 = since_is 1 (remove 0 1) filled [] tt since_begin in
    absurd (cc)

-- The run in which the remove was begun before the add had finished is not well-formed.
pub hasty_is_not_well_formed : IsWellFormedRun (ran_on hasty) → ⊥
hasty_is_not_well_formed well_formed_run =
    no_give_back (well_formed_run.frees (filled ++ Begun 1 (remove 0 1) ∷ []) [] (FreedOf 1 0 1) refl)

-- ---- a replace that is begun beside a replace of the same handle

-- Party 0 has begun to replace the value at index 0 when party 1 begins to replace it too.
abbrev beside : List (Turn ℕ)
beside = begins 0 (add 5 1) 9 ++ (begins 0 (replace 0 6 1) 1 ++ begins 1 (replace 0 7 1) 0)

-- After the add two parties have begun to replace its value.
abbrev both : List (Event ℕ)
both = added ++ Begun 0 (replace 0 6 1) ∷ Begun 1 (replace 0 7 1) ∷ []

-- The events of `beside` are those of `both`.
pub beside_events : (ran_on beside).events ≡ both
beside_events = refl

-- The replace of party 0 may not replace, since party 1 has begun a replace of the same index since then.
no_replace : MayReplace 0 0 1 both → ⊥
no_replace may = (since_is 0 (replace 0 6 1) added (Begun 1 (replace 0 7 1) ∷ []) ((λ e. cc), tt) may).1.0 (refl, refl)

was_filled : HeldSometime 0 (IsFilledWith 1 0) both
was_filled = record { part = both; rest = []; is = refl; within = tt; held = refl }

-- The run in which two replaces of one handle overlap is not well-formed.
pub beside_is_not_well_formed : IsWellFormedRun (ran_on beside) → ⊥
beside_is_not_well_formed well_formed_run = no_replace (well_formed_run.replaces zero 0 1 6 [] refl (omega arith) was_filled)
