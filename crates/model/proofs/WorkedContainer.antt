-- The definitions of the container at worked runs, of values of two words.
use Rattle.model.proofs.Names.{Asked, Begin, Begun, Container, ContainerState, Decide, Default, Die, Died, Event}
use Rattle.model.proofs.Names.{Filled, Finished, FreedOf, Granted, List, Next, None, Number, Option, OwnerIsDead}
use Rattle.model.proofs.Names.{OwnerLives, ReleaseMode, Some, Start, State, Told, Trace, Truth, Turn, Undecided}
use Rattle.model.proofs.Names.{WrongCall, [], ap, arith, false, is_look_of, length, progress_in, refl, refusal_of}
use Rattle.model.proofs.Names.{state_in, true, ℕ, ◌++◌, ◌+◌, ◌-◌, ◌^◌, ◌∷◌, ◌≡◌}
use Rattle.steps.specs.declared.container.enums.ContainerRemoveError.TheVariants.{ContainerHandleNotOwnedByContainer}
use Rattle.steps.specs.declared.indices.enums.ReleaseState.TheVariants as states
use Rattle.model.specs.declared.event.Answer.TheVariants.{Done, Index, NotRemoved}
use Rattle.model.specs.declared.event.Event.TheVariants.{Placed, Hidden, Copied, Shown}
use Rattle.model.specs.declared.families.container.ContainerStart.TheVariants.{Add, Remove, Replace, Find, Recover, GetState, UpdateState, IsLocked}
use Rattle.model.specs.declared.turn.Kind.TheVariants as kinds
use Rattle.model.specs.Families.Container.Keeping.{steps_of}
use Rattle.model.specs.Families.Container.Looks.{shows}
use Rattle.model.specs.Families.Container.Promises.{ContainsRight, FindsUpTo}
use Rattle.model.specs.Families.Container.Questions.{question_at, WritesRight, YesTells}
use Rattle.model.specs.Families.Container.Reading.{Hides}
use Rattle.model.specs.Families.Container.Spans.{HasDone}
use Rattle.model.proofs.Runs.{two_words, nexts, begins, ran}

abbrev add : ℕ → ℕ → Start ℕ
add value owner = Container (Add value owner)

abbrev remove : ℕ → ℕ → ReleaseMode → Start ℕ
remove index owner mode = Container (Remove index owner mode)

abbrev replace : ℕ → ℕ → ℕ → Start ℕ
replace index value owner = Container (Replace index value owner)

abbrev find : ℕ → Start ℕ
find owner = Container (Find owner)

abbrev recover : ℕ → Start ℕ
recover owner = Container (Recover owner Default)

abbrev get_state : Start ℕ
get_state = Container GetState

abbrev update_state : Start ℕ
update_state = Container UpdateState

abbrev is_locked : Start ℕ
is_locked = Container IsLocked

-- The events of a whole add by party `p`, which takes the index, of the value, for the owner.
abbrev added : ℕ → ℕ → ℕ → ℕ → List (Event ℕ)
added p index value owner =
    Begun p (add value owner)
    ∷ Filled p index owner
    ∷ Granted p index owner
    ∷ Placed p index value
    ∷ Finished p (add value owner) (Index index)
    ∷ []

-- The events of a whole call by which party `p` makes a new state: it copies this value at index 0, and no other.
abbrev copied : ℕ → ℕ → List (Event ℕ)
copied p value = Begun p get_state ∷ Copied p 0 value ∷ Finished p get_state (Number 1) ∷ []

-- A container of this capacity, with two parties and values of two words, after these turns.
abbrev ran_on : ℕ → List (Turn ℕ) → Trace ℕ
ran_on capacity turns = ran two_words kinds.Container capacity 2 turns

-- what the party's state shows at an index
abbrev shown_to : Option (ContainerState ℕ) → ℕ → Option ℕ
shown_to None i = None
shown_to (Some state) i = shows state i

-- What the state of the party shows at an index.
abbrev shown_in : Trace ℕ → ℕ → ℕ → Option ℕ
shown_in t p i = shown_to (state_in t.world.kept p) i

-- ---- the opening: the counter, the cells, the changes, the numbers, and two words an element

-- At the opening, a container of two indices with values of two words has these words.
pub opening_of_two : (ran_on 2 []).world.words
    ≡ 0 ∷ (2 ^ 64 - 1) ∷ (2 ^ 64 - 1) ∷ 0 ∷ 0 ∷ 0 ∷ 0 ∷ 0 ∷ 0 ∷ 0 ∷ []
opening_of_two = refl

-- ---- an owner who dies between the two words of his value: the index is freed without a question

-- the owner fills the cell, stores one word of the value and dies; another party recovers, and adds
abbrev half_written : List (Turn ℕ)
half_written =
    begins 0 (add 18446744073709551618 1) 6
    ++ (Die 1 ∷ begins 1 (recover 1) 8
    ++ (begins 1 (add 7 2) 9
    ++ begins 1 get_state 5))

-- the recovery shows the index and frees it without a question, and the next add takes it again
pub half_written_events : (ran_on 1 half_written).events
    ≡ Begun 0 (add 18446744073709551618 1)
    ∷ Filled 0 0 1
    ∷ Granted 0 0 1
    ∷ Died 1
    ∷ Begun 1 (recover 1)
    ∷ Shown 1 0
    ∷ FreedOf 1 0 1
    ∷ Finished 1 (recover 1) (State states.Unlocked)
    ∷ added 1 0 7 2
    ++ copied 1 7
half_written_events = refl

-- The state of party 1 shows the value of the second add, not the half-written one.
pub half_written_shows : shown_in (ran_on 1 half_written) 1 0 ≡ Some 7
half_written_shows = refl

-- the counter was raised by two acquires and a recovery, and two changes were counted
pub half_written_words : (ran_on 1 half_written).world.words ≡ 3 ∷ 2 ∷ 2 ∷ 1 ∷ 0 ∷ 7 ∷ []
half_written_words = refl

-- his add goes on no more
pub dead_adds_nothing : refusal_of (ran_on 1 half_written).world (Next 0) ≡ Some OwnerIsDead
dead_adds_nothing = refl

-- ---- a remove that stops after its release: its value can still be seen

-- Party 0 adds a value and has freed its index in a remove, party 1 copies it, and the remove hides it.
abbrev seen_late : List (Turn ℕ)
seen_late =
    begins 0 (add 5 1) 9
    ++ (begins 0 (remove 0 1 Default) 4 ++ (begins 1 get_state 5 ++ nexts 0 2))

-- the state copies the value after the release, and the remove hides it then
pub seen_late_events : (ran_on 1 seen_late).events
    ≡ added 0 0 5 1
    ++ Begun 0 (remove 0 1 Default)
    ∷ FreedOf 0 0 1
    ∷ copied 1 5
    ++ Hidden 0 0
    ∷ Finished 0 (remove 0 1 Default) (State states.Unlocked)
    ∷ []
seen_late_events = refl

-- ---- a replace, and a state that is brought up to date

-- Party 1 copies a value, party 0 replaces it, and party 1 brings its state up to date.
abbrev replaced : List (Turn ℕ)
replaced =
    begins 0 (add 5 1) 9
    ++ (begins 1 get_state 5
    ++ (begins 0 (replace 0 6 1) 7 ++ begins 1 update_state 5))

-- the replace hides the value and places another, and the update then copies that one
pub replaced_events : (ran_on 1 replaced).events
    ≡ added 0 0 5 1
    ++ copied 1 5
    ++ Begun 0 (replace 0 6 1)
    ∷ Hidden 0 0
    ∷ Placed 0 0 6
    ∷ Finished 0 (replace 0 6 1) Done
    ∷ Begun 1 update_state
    ∷ Copied 1 0 6
    ∷ Finished 1 update_state (Truth true)
    ∷ []
replaced_events = refl

-- The state of party 1 shows the new value.
pub replaced_shows : shown_in (ran_on 1 replaced) 1 0 ≡ Some 6
replaced_shows = refl

-- a replace that has stored one word: an update finds no change, and a new state shows nothing
abbrev half_replaced : List (Turn ℕ)
half_replaced =
    begins 0 (add 5 1) 9 ++ (begins 1 get_state 5 ++ begins 0 (replace 0 6 1) 4)

-- The events of `half_replaced`: the replace has hidden the value, and has not placed the other.
abbrev half_replaced_told : List (Event ℕ)
half_replaced_told = added 0 0 5 1 ++ copied 1 5 ++ Begun 0 (replace 0 6 1) ∷ Hidden 0 0 ∷ []

-- the update finds no change while the replace stands between its two words
pub half_replaced_update : (ran_on 1 (half_replaced ++ begins 1 update_state 1)).events
    ≡ half_replaced_told
    ++ Begun 1 update_state
    ∷ Finished 1 update_state (Truth false)
    ∷ []
half_replaced_update = refl

-- The state of party 1 still shows the value 5, which stood before the replace.
pub half_replaced_shows : shown_in (ran_on 1 (half_replaced ++ begins 1 update_state 1)) 1 0 ≡ Some 5
half_replaced_shows = refl

-- the update that says so has taken one step
pub half_replaced_steps : steps_of (progress_in (ran_on 1 (half_replaced ++ begins 1 update_state 1)).world 1) ≡ 1
half_replaced_steps = refl

-- a new state shows no value while the replace stands between its two words
pub half_replaced_state : (ran_on 1 (half_replaced ++ begins 1 get_state 2)).events
    ≡ half_replaced_told
    ++ Begun 1 get_state
    ∷ Finished 1 get_state (Number 0)
    ∷ []
half_replaced_state = refl

-- ---- whole calls: a new state, an update without a change, and one after a remove

-- Party 0 adds a value, copies a new state, and then brings the state up to date.
abbrev looked : List (Turn ℕ)
looked = begins 0 (add 1234567 8192) 9 ++ (begins 0 get_state 6 ++ begins 0 update_state 1)

-- The events of `looked`: the update finds no change since the new state.
abbrev looked_told : List (Event ℕ)
looked_told =
    added 0 0 1234567 8192
    ++ copied 0 1234567
    ++ Begun 0 update_state
    ∷ Finished 0 update_state (Truth false)
    ∷ []

-- The events that the machine writes in `looked` are those of `looked_told`.
pub looked_events : (ran_on 2 looked).events ≡ looked_told
looked_events = refl

-- The state shows the value at index 0, and none at index 1.
pub looked_shows : (shown_in (ran_on 2 looked) 0 0 ≡ Some 1234567) × (shown_in (ran_on 2 looked) 0 1 ≡ None)
looked_shows = (refl, refl)

-- After `looked` the value is removed, and the state is brought up to date once more.
abbrev looked_again : List (Turn ℕ)
looked_again = looked ++ (begins 0 (remove 0 8192 Default) 6 ++ begins 0 update_state 3)

-- the update after the remove finds a change
pub looked_again_events : (ran_on 2 looked_again).events
    ≡ looked_told
    ++ Begun 0 (remove 0 8192 Default)
    ∷ FreedOf 0 0 8192
    ∷ Hidden 0 0
    ∷ Finished 0 (remove 0 8192 Default) (State states.Unlocked)
    ∷ Begun 0 update_state
    ∷ Finished 0 update_state (Truth true)
    ∷ []
looked_again_events = refl

-- The state shows no value at index 0.
pub looked_again_shows : shown_in (ran_on 2 looked_again) 0 0 ≡ None
looked_again_shows = refl

-- A call of the party that is no look leaves its state as it was, and so does a look of another party.
abbrev looked_on : List (Turn ℕ)
looked_on =
    begins 0 (add 5 1) 9
    ++ (begins 1 get_state 5 ++ (begins 1 is_locked 1 ++ begins 0 get_state 5))

-- The state of party 1 still shows the value 5.
pub looked_on_shows : shown_in (ran_on 1 looked_on) 1 0 ≡ Some 5
looked_on_shows = refl

-- A begin of `IsLocked` is no look: the call copies no state.
pub looked_on_is_no_look : is_look_of (ran_on 1 looked_on).world 1 (Begin 1 is_locked) ≡ false
looked_on_is_no_look = refl

-- ---- a recovery that asks: yes to the first value of the owner, no to the second

-- an owner adds two values and dies, and a recovery is told yes of the first and no of the second
abbrev asked : List (Turn ℕ)
asked =
    begins 0 (add 5 1) 9
    ++ (begins 0 (add 6 1) 10
    ++ (Die 1 ∷ begins 1 (recover 1) 6
    ++ (Decide 1 true ∷ nexts 1 9 ++ (Decide 1 false ∷ nexts 1 2))))

-- the first value is freed and hidden, and the second stays
pub asked_events : (ran_on 2 asked).events
    ≡ added 0 0 5 1
    ++ added 0 1 6 1
    ++ Died 1
    ∷ Begun 1 (recover 1)
    ∷ Copied 1 0 5
    ∷ Asked 1 0 1
    ∷ Told 1 0 1
    ∷ FreedOf 1 0 1
    ∷ Hidden 1 0
    ∷ Copied 1 1 6
    ∷ Asked 1 1 1
    ∷ Finished 1 (recover 1) (State states.Unlocked)
    ∷ []
asked_events = refl

-- A find of owner 1 has come to its question about the value 5.
abbrev question : List (Turn ℕ)
question = begins 0 (add 5 1) 9 ++ begins 1 (find 1) 5

-- The find has put its question, so it takes no step before the decision.
pub question_is_due : refusal_of (ran_on 1 question).world (Next 1) ≡ Some Undecided
question_is_due = refl

-- The find asks about the value 5 at index 0.
pub question_is : question_at (ran_on 1 question) 1 ≡ Some (0, 5)
question_is = refl

-- the search ends with the one value that it found
pub question_answered : (ran_on 1 (question ++ Decide 1 false ∷ [])).events
    ≡ added 0 0 5 1
    ++ Begun 1 (find 1)
    ∷ Copied 1 0 5
    ∷ Finished 1 (find 1) (Number 1)
    ∷ []
question_answered = refl

-- ---- turns of a find and of a recovery that the definitions refuse

same_is_more : (n : ℕ) → n ≡ n + 1 → ⊥
same_is_more n same = absurd (omega arith)

-- a find that a no does not end
pub no_deaf_find : FindsUpTo (ran_on 1 question) (Decide 1 false) (ran_on 1 question) → ⊥
no_deaf_find found = same_is_more 7 (ap length (found 1 1 refl (refl, tt)).ends)

-- A find of owner 1 is about to check that the value was copied whole.
abbrev copying : Trace ℕ
copying = ran_on 1 (begins 0 (add 5 1) 9 ++ begins 1 (find 1) 4)

-- one that copies a value and does not ask about it
pub no_silent_find : WritesRight copying (Next 1) copying (Copied 1 0 5) → ⊥
no_silent_find writes_right = let asks = writes_right.1 in absurd (cc)

-- A recovery of owner 1, who is dead, has come to its question.
abbrev asking : Trace ℕ
asking = ran_on 1 (begins 0 (add 5 1) 9 ++ Die 1 ∷ begins 1 (recover 1) 6)

-- a recovery that is told nothing by a yes
pub no_deaf_recovery : YesTells asking (Decide 1 true) asking → ⊥
no_deaf_recovery yes_tells = same_is_more 9 (ap length (yes_tells 1 1 Default refl (refl, tt)).is)

-- a recovery is not told of an index by the next step
pub no_late_told : WritesRight asking (Next 1) asking (Told 1 0 1) → ⊥
no_late_told writes_right = absurd (cc)

-- ---- refusals, and what is none

-- No add begins for a dead owner.
pub dead_begins_nothing : refusal_of (ran_on 1 (Die 7 ∷ [])).world (Begin 0 (add 5 7)) ≡ Some OwnerIsDead
dead_begins_nothing = refl

-- No remove begins for a dead owner, whatever its index.
pub dead_removes_nothing : refusal_of (ran_on 1 (Die 7 ∷ [])).world (Begin 0 (remove 9 7 Default)) ≡ Some OwnerIsDead
dead_removes_nothing = refl

-- No replace begins for a dead owner, whatever its index.
pub dead_replaces_nothing : refusal_of (ran_on 1 (Die 7 ∷ [])).world (Begin 0 (replace 9 5 7)) ≡ Some OwnerIsDead
dead_replaces_nothing = refl

-- No recovery of a living owner begins.
pub living_is_not_recovered : refusal_of (ran_on 1 []).world (Begin 0 (recover 7)) ≡ Some OwnerLives
living_is_not_recovered = refl

-- A find of a dead owner's values may begin.
pub dead_is_found : refusal_of (ran_on 1 (Die 7 ∷ [])).world (Begin 0 (find 7)) ≡ None
dead_is_found = refl

-- The number 2 ^ 64 - 1 marks a free cell, so no call names it as an owner.
pub greatest_is_no_owner : refusal_of (ran_on 1 []).world (Begin 0 (add 5 (2 ^ 64 - 1))) ≡ Some WrongCall
greatest_is_no_owner = refl

-- an index past the capacity: the call ends without a step
abbrev past_the_end : List (Turn ℕ)
past_the_end = begins 0 (remove (2 ^ 40) 7 Default) 1

-- A remove of an index past the capacity is answered that the handle is not owned, and does nothing else.
pub past_the_end_events : (ran_on 1 past_the_end).events
    ≡ Begun 0 (remove (2 ^ 40) 7 Default)
    ∷ Finished 0 (remove (2 ^ 40) 7 Default) (NotRemoved ContainerHandleNotOwnedByContainer)
    ∷ []
past_the_end_events = refl

-- The remove of an index past the capacity has taken no step.
pub past_the_end_counts : progress_in (ran_on 1 past_the_end).world 0
    ≡ Some (record { steps = 0; backs = 0; others = 0; finished = true })
past_the_end_counts = refl

-- ---- counts: a copy that a remove and an add turn back

-- A look has begun to copy index 0 when its value is removed and another one is added there.
abbrev copies_again : List (Turn ℕ)
copies_again =
    begins 0 (add 5 1) 9
    ++ (begins 1 get_state 4
    ++ (begins 0 (remove 0 1 Default) 6 ++ (begins 0 (add 6 1) 9 ++ nexts 1 4)))

-- The look has taken 8 steps and begun a copy once again, while others changed words 9 times.
pub copies_again_counts : progress_in (ran_on 1 copies_again).world 1
    ≡ Some (record { steps = 8; backs = 1; others = 9; finished = true })
copies_again_counts = refl

-- The state of party 1 shows the value of the second add.
pub copies_again_shows : shown_in (ran_on 1 copies_again) 1 0 ≡ Some 6
copies_again_shows = refl

-- ---- what the definitions refuse

-- Index 0 is filled for owner 7, granted to it, and has the value 5.
abbrev stands : List (Event ℕ)
stands = Filled 1 0 7 ∷ Granted 1 0 7 ∷ Placed 1 0 5 ∷ []

-- a replace that hides what stands and then refuses
no_refusal_that_hides : HasDone {T = ℕ} (Replace 0 7 2) (NotRemoved ContainerHandleNotOwnedByContainer) [] (Hides 0 ∷ []) → ⊥
no_refusal_that_hides done = let nothing = done.1 in cc

-- a copy of another value than the one that stands
no_torn_copy : ContainsRight stands (Copied 0 0 6) → ⊥
no_torn_copy whole = cc

-- a value placed over another
no_value_over_another : ContainsRight stands (Placed 0 0 6) → ⊥
no_value_over_another free = cc

-- a recovery that is shown nothing where a value stands
no_blind_recovery : ContainsRight stands (Shown 0 0) → ⊥
no_blind_recovery none = cc
