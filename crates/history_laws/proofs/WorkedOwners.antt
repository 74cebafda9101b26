-- The conditions on histories of owners at worked runs of a container, of values of two words.
use Rattle.std.proofs.Common.{◌≡◌, ℕ, true, false, Some, List, [], ◌∷◌, ◌++◌, refl}
use Rattle.steps.specs.declared.indices.enums.ReleaseMode.TheVariants.{Default}
use Rattle.steps.specs.declared.indices.enums.ReleaseState.TheVariants as states
use Rattle.model.specs.declared.event.Answer.TheVariants.{Index, State}
use Rattle.model.specs.declared.event.Event.{Event}
use Rattle.model.specs.declared.event.Event.TheVariants.{Begun, Filled, Granted, FreedOf, Asked, Placed, Copied, Shown, Finished}
use Rattle.model.specs.declared.event.Start.{Start}
use Rattle.model.specs.declared.event.Start.TheVariants.{Container}
use Rattle.model.specs.declared.families.container.ContainerStart.TheVariants.{Add, Recover}
use Rattle.model.specs.declared.turn.Kind.TheVariants as kinds
use Rattle.model.specs.declared.turn.Turn.{Turn}
use Rattle.model.specs.declared.turn.Turn.TheVariants.{Decide}
use Rattle.model.specs.Families.Indices.Robust.Reading.{holder_of}
use Rattle.model.specs.Reading.{span_of}
use Rattle.model.specs.World.{Trace, opening}
use Rattle.model.proofs.Runs.{two_words, nexts, begins}
use Rattle.laws_robust.specs.Gone.{Word, is_gone}
use Rattle.model.specs.Open.{run_open}
use Rattle.lock_free_owners.specs.Worn.{changes}
use Rattle.history_laws.specs.Containers.{rises, recoveries, removals, is_acting}
use Rattle.history_laws.specs.Grants.{is_at}

-- the start of an add of this value for this owner
abbrev add : ℕ → ℕ → Start ℕ
add value owner = Container (Add value owner)

-- the start of a recovery of this owner, in the mode that does not lock
abbrev recover : ℕ → Start ℕ
recover owner = Container (Recover owner Default)

-- the run of these turns of a container of this capacity
abbrev ran_on : ℕ → List (Turn ℕ) → Trace ℕ
ran_on capacity turns = run_open turns (opening two_words kinds.Container capacity 3)

-- ---- two adds

-- two adds for owner 1, one after the other
abbrev twice : Trace ℕ
twice = ran_on 2 (begins 0 (add 5 1) 9 ++ begins 0 (add 6 1) 10)

-- what two adds for owner 1 write, one after the other
pub twice_events : twice.events
    ≡ Begun 0 (add 5 1)
    ∷ Filled 0 0 1
    ∷ Granted 0 0 1
    ∷ Placed 0 0 5
    ∷ Finished 0 (add 5 1) (Index 0)
    ∷ Begun 0 (add 6 1)
    ∷ Filled 0 1 1
    ∷ Granted 0 1 1
    ∷ Placed 0 1 6
    ∷ Finished 0 (add 6 1) (Index 1)
    ∷ []
twice_events = refl

-- the counter, two cells, the number of changes, and the numbers of two elements: the last three have risen by 4 in all
pub twice_words : twice.world.words ≡ 2 ∷ 1 ∷ 1 ∷ 2 ∷ 1 ∷ 1 ∷ 0 ∷ 5 ∷ 0 ∷ 6 ∷ []
twice_words = refl

-- the events let the numbers rise by 4
pub twice_rises : rises twice.events ≡ 4
twice_rises = refl

-- the counter has had two changes
pub twice_changes : changes twice.events ≡ 2
twice_changes = refl

-- the history tells of no recovery, and removes nothing
pub twice_calmly : (recoveries twice.events ≡ 0) × (removals twice.events ≡ 0)
twice_calmly = (refl, refl)

-- ---- an owner who has done nothing wrong is granted an index that another holds, who went on after a recovery had freed it

-- party 0 fills the index for owner 1, party 1 frees it in a recovery of owner 1, and party
-- 2 fills it for owner 2
abbrev taken : List (Turn ℕ)
taken = begins 0 (add 5 1) 2 ++ (begins 1 (recover 1) 8 ++ begins 2 (add 7 2) 2)

-- then each of the two adds is granted the index
abbrev both : Trace ℕ
both = ran_on 1 (taken ++ (nexts 0 2 ++ nexts 2 2))

-- what was written before owner 2 is granted the index: owner 1 was granted it after the recovery had freed it
abbrev before_both : List (Event ℕ)
before_both =
    Begun 0 (add 5 1)
    ∷ Filled 0 0 1
    ∷ Begun 1 (recover 1)
    ∷ Shown 1 0
    ∷ FreedOf 1 0 1
    ∷ Finished 1 (recover 1) (State states.Unlocked)
    ∷ Begun 2 (add 7 2)
    ∷ Filled 2 0 2
    ∷ Granted 0 0 1
    ∷ []

-- the last event grants the index to owner 2
pub both_events : both.events ≡ before_both ++ Granted 2 0 2 ∷ []
both_events = refl

-- Owner 1 holds the index then. So conditions on owner 2's use of the index say nothing of it alone: they
-- have to speak of all that had it.
pub both_hold : holder_of 0 before_both ≡ Some 1
both_hold = refl

-- owner 2 is not gone
pub two_lives : is_gone Word 2 both.events ≡ false
two_lives = refl

-- the recovery began while an add for its owner was under way
pub one_acts : is_acting 1 (span_of 0 (Begun 0 (add 5 1) ∷ Filled 0 0 1 ∷ [])) ≡ true
one_acts = refl

-- the recovery freed the index while an add was at it
pub one_is_at : is_at 0 (span_of 0 (Begun 0 (add 5 1) ∷ Filled 0 0 1 ∷ Begun 1 (recover 1) ∷ Shown 1 0 ∷ [])) ≡ true
one_is_at = refl

-- ---- a recovery that is told no, and an owner's number that is used again: no index is freed, so each is held by one

-- an add for owner 1, a recovery of owner 1 that is answered no, and another add for owner 1
abbrev again : Trace ℕ
again = ran_on 2 (begins 0 (add 5 1) 9 ++ (begins 1 (recover 1) 6 ++ (Decide 1 false ∷ nexts 1 3) ++ begins 0 (add 6 1) 10))

-- what these three calls write
pub again_events : again.events
    ≡ Begun 0 (add 5 1)
    ∷ Filled 0 0 1
    ∷ Granted 0 0 1
    ∷ Placed 0 0 5
    ∷ Finished 0 (add 5 1) (Index 0)
    ∷ Begun 1 (recover 1)
    ∷ Copied 1 0 5
    ∷ Asked 1 0 1
    ∷ Finished 1 (recover 1) (State states.Unlocked)
    ∷ Begun 0 (add 6 1)
    ∷ Filled 0 1 1
    ∷ Granted 0 1 1
    ∷ Placed 0 1 6
    ∷ Finished 0 (add 6 1) (Index 1)
    ∷ []
again_events = refl

-- owner 1 is gone, since a recovery for this owner began
pub one_is_gone : is_gone Word 1 again.events ≡ true
one_is_gone = refl

-- the history removes nothing
pub again_frees_none : removals again.events ≡ 0
again_frees_none = refl
