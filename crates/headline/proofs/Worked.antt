-- The definitions at worked runs.
use Rattle.std.proofs.Common.{◌≡◌, ◌≤◌, ℕ, true, None, is_some, List, [], ◌∷◌, ◌++◌, length, refl, subst, arith}
use Rattle.steps.specs.declared.indices.enums.ReleaseMode.TheVariants.{Default}
use Rattle.model.specs.declared.event.Answer.TheVariants as answers
use Rattle.model.specs.declared.event.Answer.TheVariants.{Truth, Done}
use Rattle.model.specs.declared.event.Event.{Event}
use Rattle.model.specs.declared.event.Event.TheVariants.{Begun, Published, HandedOut, Claimed, Freed, Locked, Filled, Granted, FreedOf, Acted, Finished}
use Rattle.model.specs.declared.event.Item.TheVariants.{Index}
use Rattle.model.specs.declared.event.Start.{Start}
use Rattle.model.specs.declared.event.Start.TheVariants as starts
use Rattle.model.specs.declared.families.container.ContainerStart.TheVariants.{Add, Remove, Replace}
use Rattle.model.specs.declared.families.queues.QueueStart.TheVariants.{AcquireProducer, PushIndex}
use Rattle.model.specs.declared.turn.Kind.TheVariants as kinds
use Rattle.model.specs.declared.turn.Turn.TheVariants.{Next}
use Rattle.model.specs.Coding.{one_word}
use Rattle.model.specs.Families.Container.Promises.{ReplacesRight}
use Rattle.model.specs.Families.Container.Reading.{NoneTakes}
use Rattle.model.specs.Families.Indices.Robust.Promises.{FreesRight, IsWellFormed}
use Rattle.model.specs.Promises.Turns.{ask_in}
use Rattle.model.specs.Reading.{Each}
use Rattle.model.specs.Turns.{after_turn}
use Rattle.model.specs.World.{Trace, flight_in}
use Rattle.model.proofs.Readings.{Each-append, Each-nil}
use Rattle.model.proofs.Runs.{begins, ran}
use Rattle.headline.specs.Holders.{holders, claims, fills, grants, loans, NoTwoHold, NoneOnceLocked}
use Rattle.headline.specs.Moments.{ActedOnce}

-- ---- holders

-- party 0 claims index 3, gives it back, and party 1 claims it
abbrev one_after_another : List (Event ℕ)
one_after_another = Claimed 0 3 ∷ Freed 0 3 ∷ Claimed 1 3 ∷ []

one_holder : holders claims 3 one_after_another ≡ 1 ∷ []
one_holder = refl

no_other_index : holders claims 2 one_after_another ≡ []
no_other_index = refl

-- both claim it
abbrev both : List (Event ℕ)
both = Claimed 0 3 ∷ Claimed 1 3 ∷ []

two_holders : holders claims 3 both ≡ 1 ∷ 0 ∷ []
two_holders = refl

few : (holders : List ℕ) → length holders ≤ 1 → length holders ≡ 2 → ⊥
few holders some two = absurd (omega arith)

both_refused : NoTwoHold {T = ℕ} claims both → ⊥
both_refused no_two_hold = few (holders claims 3 both) (no_two_hold both [] refl 3) refl

-- one holds it at the lock
held_at_lock : NoneOnceLocked {T = ℕ} claims (Claimed 0 3 ∷ Locked 1 ∷ []) → ⊥
held_at_lock none_locked = let none = none_locked (Claimed 0 3 ∷ Locked 1 ∷ []) [] refl refl 3 in cc

-- an index is filled for its owner before he is granted it
abbrev filled : List (Event ℕ)
filled = Filled 1 0 7 ∷ []

filled_first : (holders fills 0 filled ≡ 7 ∷ []) × (holders grants 0 filled ≡ [])
filled_first = (refl, refl)

then_granted : holders grants 0 (filled ++ Granted 1 0 7 ∷ []) ≡ 7 ∷ []
then_granted = refl

given_back : holders grants 0 (filled ++ Granted 1 0 7 ∷ FreedOf 1 0 7 ∷ []) ≡ []
given_back = refl

-- what waits in a queue is nobody's
abbrev sent : List (Event ℕ)
sent = Claimed 0 0 ∷ Published 0 (Index 0) ∷ []

nobodys : holders loans 0 sent ≡ []
nobodys = refl

received : holders loans 0 (sent ++ HandedOut 1 (Index 0) ∷ []) ≡ 1 ∷ []
received = refl

-- ---- a call acts once, inside it

abbrev push : Start ℕ
push = starts.Queues (PushIndex 7)

-- party 0 acts once, inside its call, whatever party 1 does in between
acts_inside : ActedOnce 0 push (Truth true) (Begun 1 push ∷ Begun 0 push ∷ Acted 1 push (Truth true) ∷ Acted 0 push (Truth true) ∷ [])
acts_inside =
    record {
      before = Begun 1 push ∷ [];
      since = Acted 1 push (Truth true) ∷ Acted 0 push (Truth true) ∷ [];
      is = refl;
      within = tt;
      once = refl;
    }

-- ---- a turn without an operation ends its call

-- a remove of an index that the container does not have
abbrev refusing : Trace ℕ
refusing = ran one_word kinds.Container 1 2 (begins 0 (starts.Container (Remove 5 7 Default)) 0)

-- A call is under way whose next turn asks for no operation, and that turn ends it.
ends_refused : (is_some (flight_in refusing.world 0) ≡ true) × (ask_in refusing.world (Next 0) ≡ None)
    × (flight_in (after_turn refusing (Next 0)).world 0 ≡ None)
ends_refused = (refl, refl, refl)

-- a push of an overflowing queue of capacity 0, by its producer
abbrev pushing : Trace ℕ
pushing = ran one_word kinds.Overflow 0 2 (begins 0 (starts.Queues AcquireProducer) 1 ++ begins 0 push 0)

-- A push is under way whose next turn asks for no operation, and that turn ends it.
ends_handed_back : (is_some (flight_in pushing.world 0) ≡ true) × (ask_in pushing.world (Next 0) ≡ None)
    × (flight_in (after_turn pushing (Next 0)).world 0 ≡ None)
ends_handed_back = (refl, refl, refl)

-- ---- where replaces overlap, the removes may be well-formed, so that no index has two holders

abbrev replace : Start ℕ
replace = starts.Container (Replace 0 5 7)

-- Both parties have begun to replace the value at index 0, which owner 7 holds.
abbrev begun_twice : List (Event ℕ)
begun_twice = Finished 0 (starts.Container (Add 4 7)) (answers.Index 0) ∷ Begun 0 replace ∷ Begun 1 replace ∷ []

-- The replace of party 0 ends with Done.
abbrev overlapping : List (Event ℕ)
overlapping = begun_twice ++ Finished 0 replace Done ∷ []

removes_well_formed : IsWellFormed overlapping
removes_well_formed = Each-append FreesRight [] overlapping (Each-nil FreesRight) (tt, (tt, (tt, (tt, tt))))

-- since the first replace began another has begun that takes the same index
begun_meanwhile : (before since : List (Event ℕ)) (start : Start ℕ) → begun_twice ≡ before ++ Begun 0 start ∷ since → NoneTakes 0 7 since → ⊥
begun_meanwhile [] since start split none = absurd (cc)
begun_meanwhile (a ∷ []) since start split none =
    let rest : since ≡ Begun 1 replace ∷ [] = cc in (subst (NoneTakes 0 7) rest none).0 (refl, refl)
begun_meanwhile (a ∷ b ∷ []) since start split none = absurd (cc)
begun_meanwhile (a ∷ b ∷ c ∷ []) since start split none = absurd (cc)
begun_meanwhile (a ∷ b ∷ c ∷ d ∷ before) since start split none = absurd (cc)

replaces_ill_formed : Each ReplacesRight overlapping → ⊥
replaces_ill_formed each =
    let may = each begun_twice [] (Finished 0 replace Done) refl in begun_meanwhile may.before may.since may.start may.is may.holds.1
