-- The definitions of the robust index set at worked runs.
use Rattle.model.proofs.Names.{Asked, Asks, BadIndex, Begin, Begun, Bool, Decide, Default, Die, Died, Event}
use Rattle.model.proofs.Names.{Filled, Finished, FreedOf, Frees, Granted, HeldThroughout, IsCount}
use Rattle.model.proofs.Names.{IsFilled, IsFilledWith, IsOneOf, List, LockIfLastIndex, Next, None, Number, Open}
use Rattle.model.proofs.Names.{OwnerIsDead, OwnerLives, ReleaseMode, SetAct, SetDoes, Some, Start, State, Told, Trace}
use Rattle.model.proofs.Names.{Turn, Undecided, WrongCall, Yes, [], arith, count_below, false, filled_of}
use Rattle.model.proofs.Names.{inl, ne_eqb, one_word, opening, progress_in, refl, refusal_of, set_acts_of}
use Rattle.model.proofs.Names.{true, ℕ, ◌++◌, ◌-◌, ◌^◌, ◌∷◌, ◌≡◌}
use Rattle.steps.specs.declared.indices.enums.ReleaseState.TheVariants as states
use Rattle.steps.specs.declared.indices.enums.UniqueIndexSetAcquireFailure.TheVariants as failures
use Rattle.model.specs.declared.event.Answer.TheVariants.{Index, NoIndex}
use Rattle.model.specs.declared.event.Event.TheVariants as events
use Rattle.model.specs.declared.event.Start.TheVariants.{Robust}
use Rattle.model.specs.declared.families.Registry.TheVariants as registries
use Rattle.model.specs.declared.families.indices.robust.RobustStart.TheVariants.{Acquire, Release, Find, Recover, BorrowedIndices}
use Rattle.model.specs.declared.turn.Kind.TheVariants as kinds
use Rattle.model.specs.Families.Indices.Robust.Promises.{HoldsRight}
use Rattle.model.specs.Families.Indices.Robust.Promises.{AsksRight, AnswersRight, HasRecovered, FreesRight}
use Rattle.model.specs.Families.Indices.Robust.Promises.{IsWellFormed}
use Rattle.model.specs.Families.Indices.Robust.Spans.{may_stand}
use Rattle.model.proofs.Moments.{so_by_events, throughout}
use Rattle.model.proofs.Readings.{Each-append, Each-nil}
use Rattle.model.proofs.Runs.{nexts, begins, ran}

abbrev acquire : ℕ → Start ℕ
acquire owner = Robust (Acquire owner)

abbrev release : ℕ → ℕ → ReleaseMode → Start ℕ
release index owner mode = Robust (Release index owner mode)

abbrev find : ℕ → Start ℕ
find owner = Robust (Find owner)

abbrev recover : Start ℕ
recover = Robust (Recover Default)

-- A robust set of this capacity after these turns.
abbrev ran_on : ℕ → List (Turn ℕ) → Trace ℕ
ran_on capacity turns = ran one_word kinds.Robust capacity 2 turns

-- ---- an acquire that meets the lock late: the release has read the cell as empty before it is filled

-- the second acquire fills the cell after the release has read it as empty, and before that release locks
abbrev late : List (Turn ℕ)
late =
    begins 0 (acquire 313) 4
    ++ (begins 0 (release 0 313 LockIfLastIndex) 5
    ++ (begins 1 (acquire 7) 2
    ++ (nexts 0 2
    ++ (nexts 1 2
    ++ Begin 1 (find 7) ∷ Next 1 ∷ Decide 1 true ∷ []))))

-- the acquire is refused though its cell is filled, and a search finds that cell
pub late_events : (ran_on 1 late).events
    ≡ Begun 0 (acquire 313)
    ∷ Filled 0 0 313
    ∷ Granted 0 0 313
    ∷ Finished 0 (acquire 313) (Index 0)
    ∷ Begun 0 (release 0 313 LockIfLastIndex)
    ∷ FreedOf 0 0 313
    ∷ Begun 1 (acquire 7)
    ∷ Filled 1 0 7
    ∷ events.Locked 0
    ∷ Finished 0 (release 0 313 LockIfLastIndex) (State states.Locked)
    ∷ Finished 1 (acquire 7) (NoIndex failures.IsLocked)
    ∷ Begun 1 (find 7)
    ∷ Finished 1 (find 7) (Number 1)
    ∷ []
late_events = refl

-- the counter says locked, and the cell keeps its owner
pub late_words : (ran_on 1 late).world.words ≡ (2 ^ 64 - 1) ∷ 7 ∷ []
late_words = refl

-- ---- a recovery: owner 1 has 0 and 2, and owner 2 has 1

-- Owner 1 acquires indices 0 and 2, and owner 2 acquires index 1.
abbrev three_filled : List (Turn ℕ)
three_filled = begins 0 (acquire 1) 4 ++ (begins 0 (acquire 2) 5 ++ begins 0 (acquire 1) 6)

-- the events of the three acquires
abbrev told_of_three : List (Event ℕ)
told_of_three =
    Begun 0 (acquire 1)
    ∷ Filled 0 0 1
    ∷ Granted 0 0 1
    ∷ Finished 0 (acquire 1) (Index 0)
    ∷ Begun 0 (acquire 2)
    ∷ Filled 0 1 2
    ∷ Granted 0 1 2
    ∷ Finished 0 (acquire 2) (Index 1)
    ∷ Begun 0 (acquire 1)
    ∷ Filled 0 2 1
    ∷ Granted 0 2 1
    ∷ Finished 0 (acquire 1) (Index 2)
    ∷ []

-- the load of a cell puts the question; after a yes come the exchange and the raise
abbrev with_death : List (Turn ℕ)
with_death =
    three_filled
    ++ (Die 1 ∷ begins 1 recover 2
    ++ (Decide 1 true ∷ nexts 1 4
    ++ (Decide 1 false ∷ nexts 1 1
    ++ (Decide 1 true ∷ nexts 1 4))))

-- the recovery asks about all three indices, and frees the two that it was told yes of
pub with_death_events : (ran_on 3 with_death).events
    ≡ told_of_three
    ++ Died 1
    ∷ Begun 1 recover
    ∷ Asked 1 0 1
    ∷ Told 1 0 1
    ∷ FreedOf 1 0 1
    ∷ Asked 1 1 2
    ∷ Asked 1 2 1
    ∷ Told 1 2 1
    ∷ FreedOf 1 2 1
    ∷ Finished 1 recover (State states.Unlocked)
    ∷ []
with_death_events = refl

-- After the recovery only index 1 has an owner: the cells of 0 and 2 say that they are free.
pub with_death_words : (ran_on 3 with_death).world.words ≡ 5 ∷ (2 ^ 64 - 1) ∷ 2 ∷ (2 ^ 64 - 1) ∷ []
with_death_words = refl

-- The registry says that owner 1 is dead.
pub with_death_kept : (ran_on 3 with_death).world.kept ≡ registries.Owners (1 ∷ [])
with_death_kept = refl

-- without the death: a yes about a living owner is refused, and the question stays due

-- Party 1 begins a recovery while all owners live, and comes to its question about index 0.
abbrev without_death : List (Turn ℕ)
without_death = three_filled ++ begins 1 recover 2

-- The decision that owner 1 is dead is refused, since that owner lives.
pub yes_is_refused : refusal_of (ran_on 3 without_death).world (Decide 1 true) ≡ Some OwnerLives
yes_is_refused = refl

-- The refused decision is none: the recovery still waits for one.
pub question_is_due : refusal_of (ran_on 3 (without_death ++ Decide 1 true ∷ [])).world (Next 1) ≡ Some Undecided
question_is_due = refl

-- after the no, the recovery goes on to the next index
pub goes_on_after_no : (ran_on 3 (without_death ++ Decide 1 true ∷ Decide 1 false ∷ Next 1 ∷ [])).events
    ≡ told_of_three
    ++ Begun 1 recover
    ∷ Asked 1 0 1
    ∷ Asked 1 1 2
    ∷ []
goes_on_after_no = refl

-- ---- refusals

-- Index 1 of a set of one index is not released.
pub past_the_capacity : refusal_of (ran_on 1 []).world (Begin 0 (release 1 7 Default)) ≡ Some BadIndex
past_the_capacity = refl

-- A release of a bad index by a dead owner is refused for the index.
pub bad_index_first : refusal_of (ran_on 1 (Die 7 ∷ [])).world (Begin 0 (release 1 7 Default)) ≡ Some BadIndex
bad_index_first = refl

-- No acquire begins for a dead owner.
pub dead_acquires_nothing : refusal_of (ran_on 1 (Die 7 ∷ [])).world (Begin 0 (acquire 7)) ≡ Some OwnerIsDead
dead_acquires_nothing = refl

-- An acquire that is under way takes no step once its owner is dead.
pub dead_goes_on_nowhere : refusal_of (ran_on 1 (begins 0 (acquire 7) 2 ++ Die 7 ∷ [])).world (Next 0) ≡ Some OwnerIsDead
dead_goes_on_nowhere = refl

-- A find of a dead owner's indices may begin.
pub dead_is_found : refusal_of (ran_on 1 (Die 7 ∷ [])).world (Begin 0 (find 7)) ≡ None
dead_is_found = refl

-- An owner who is dead does not die again.
pub dead_dies_no_more : refusal_of (ran_on 1 (Die 9 ∷ Die 7 ∷ [])).world (Die 7) ≡ Some OwnerIsDead
dead_dies_no_more = refl

-- An owner who lives may die after two others.
pub another_dies : refusal_of (ran_on 1 (Die 9 ∷ Die 7 ∷ [])).world (Die 8) ≡ None
another_dies = refl

-- A bit set has no owners, so none dies.
pub no_owner_of_bits : refusal_of (opening {T = ℕ} one_word kinds.Bits 2 2).world (Die 7) ≡ Some WrongCall
no_owner_of_bits = refl

-- The number 2 ^ 64 - 1 marks a free cell, so no call names it as an owner.
pub greatest_is_no_owner : refusal_of (ran_on 1 []).world (Begin 0 (acquire (2 ^ 64 - 1))) ≡ Some WrongCall
greatest_is_no_owner = refl

-- ---- counts: a borrowed_indices that another party's raise turns back

-- Party 0 counts the borrowed indices, and after its first two steps party 1 acquires one.
abbrev turns_back : List (Turn ℕ)
turns_back = begins 0 (Robust BorrowedIndices) 2 ++ (begins 1 (acquire 7) 4 ++ nexts 0 4)

-- The count has taken 6 steps and begun again once, while the acquire changed words twice.
pub turns_back_counts : progress_in (ran_on 1 turns_back).world 0 ≡ Some (record { steps = 6; backs = 1; others = 2; finished = true })
turns_back_counts = refl

pub turns_back_words : (ran_on 1 turns_back).world.words ≡ 2 ∷ 7 ∷ []
turns_back_words = refl

-- ---- what they refuse

-- Owner 7 fills index 0, and was granted it.
abbrev held : List (Event ℕ)
held = Filled 1 0 7 ∷ Granted 1 0 7 ∷ []

-- an index that is granted to two
no_second_holder : HoldsRight held (Granted 0 0 9) → ⊥
no_second_holder free = cc

-- a lock while an index is held
no_lock_over_a_holder : HoldsRight held (events.Locked 0) → ⊥
no_lock_over_a_holder free = let none = free 0 in cc

-- an acquire that fills a filled cell
no_second_owner : SetDoes 1 held (Filled 0 0 9) → ⊥
no_second_owner right = let free = right.1 in cc

-- a release that frees whatever owner stands there
no_other_owner : SetDoes 1 held (FreedOf 0 0 9) → ⊥
no_other_owner same = cc

-- a yes about an owner who lives
no_yes_of_the_living : AsksRight held (Told 0 0 7) → ⊥
no_yes_of_the_living died = cc

-- a grant after the lock
no_grant_once_locked : SetDoes {T = ℕ} 1 (Filled 1 0 7 ∷ events.Locked 0 ∷ []) (Granted 1 0 7) → ⊥
no_grant_once_locked unlocked = cc

-- a recovery that frees before a yes
untold : (before : List SetAct) → Asks 0 7 ∷ [] ≡ before ++ Yes 0 7 ∷ [] → ⊥
untold [] split = cc
untold (a ∷ []) split = cc
untold (a ∷ b ∷ bs) split = cc

frees_untold : may_stand {T = ℕ} (FreedOf 0 0 7) (Open recover (Asked 0 0 7 ∷ [])) → ⊥
frees_untold latest = untold latest.before latest.is

-- a recovery does not ask twice about an index
asks_twice : may_stand {T = ℕ} (Asked 0 0 7) (Open recover (Asked 0 0 7 ∷ [])) → ⊥
asks_twice ascending = absurd (omega (arith, ascending.0))

-- a recovery that was told to free an index, and leaves it
abbrev told_of : List (Event ℕ)
told_of = Filled 1 0 7 ∷ Died 7 ∷ Begun 0 recover ∷ Asked 0 0 7 ∷ Told 0 0 7 ∷ []

leaves_it : HasRecovered 0 told_of → ⊥
leaves_it done = done.gone 0 7 (record { before = Asks 0 7 ∷ []; after = []; is = refl }) refl

-- one that does not ask about an index that was filled through it
abbrev passed : List (Event ℕ)
passed = Filled 1 0 7 ∷ Begun 0 recover ∷ []

-- at every moment since the call began, index 0 is filled by owner 7
stays_filled : (start : Start ℕ) → HeldThroughout 0 (IsFilledWith 7 0) (Filled 1 0 7 ∷ Begun 0 start ∷ [])
stays_filled start = throughout 0 start (IsFilledWith 7 0) (Filled 1 0 7 ∷ []) [] refl

not_asked : (before after : List SetAct) → [] ≡ before ++ Asks 0 7 ∷ after → ⊥
not_asked [] after split = cc
not_asked (a ∷ bs) after split = cc

-- A recovery that has passed over an index which its owner filled throughout has not recovered right.
passes_over : HasRecovered 0 passed → ⊥
passes_over done =
    let asked = done.asked 0 7 (λ part rest is within. inl (stays_filled recover part rest is within)) in
    not_asked asked.before asked.after asked.is

-- a find that comes to the end without that index, and one that counts an index that nobody filled
counted_none : (chosen : ℕ → Bool) → count_below chosen 1 ≡ 0 → chosen 0 ≡ true → ⊥
counted_none = grind (arith, count_below)

misses_one : IsCount 0 (IsFilledWith 7) 1 0 (Filled 1 0 7 ∷ Begun 0 (find 7) ∷ []) → ⊥
misses_one count = counted_none count.chosen count.is (count.through 0 (omega arith) (stays_filled (find 7)))

-- An acquire has begun.
abbrev alone : List (Event ℕ)
alone = Begun 0 (acquire 7) ∷ []

-- OutOfIndices of a set that nobody uses
no_empty_set : AnswersRight 1 alone (Finished 0 (acquire 7) (NoIndex failures.OutOfIndices)) → ⊥
no_empty_set right = so_by_events 0 (IsFilled 0) alone ((λ e. cc), (λ e. cc)) (right.1 0 (omega arith))

no_set_act : (one : SetAct) (before after : List SetAct) → [] ≡ before ++ one ∷ after → ⊥
no_set_act one [] after split = cc
no_set_act one (a ∷ bs) after split = cc

-- a release in mode LockIfLastIndex that answers Unlocked though nothing else is filled
abbrev last_one : List (Event ℕ)
last_one = Filled 1 0 7 ∷ Begun 1 (release 0 7 LockIfLastIndex) ∷ FreedOf 1 0 7 ∷ []

freed_all : (i : ℕ) → filled_of i last_one ≡ None
freed_all = grind (arith, false, ne_eqb)

unfreed : IsOneOf (Frees 0 7) [] → ⊥
unfreed one = no_set_act (Frees 0 7) one.before one.after one.is

-- the release may not answer Unlocked: at no moment after it freed its index was another one filled
never_locks : AnswersRight 1 last_one (Finished 1 (release 0 7 LockIfLastIndex) (State states.Unlocked)) → ⊥
never_locks right =
    so_by_events 1 (λ part. IsOneOf (Frees 0 7) (set_acts_of 1 part) × IsFilled right.1.other part) last_one
    ((λ h. unfreed h.0), ((λ h. unfreed h.0), ((λ h. unfreed h.0), (λ h. let none = freed_all right.1.other in cc)))) right.1.once

-- ---- a well-formed run: an acquire, its release, and an acquire again

abbrev well_formed_turns : List (Turn ℕ)
well_formed_turns = begins 0 (acquire 313) 4 ++ (begins 0 (release 0 313 Default) 3 ++ begins 1 (acquire 7) 4)

-- each event of this run that frees an index frees one that its party has
pub is_well_formed : IsWellFormed (ran_on 1 well_formed_turns).events
is_well_formed =
    Each-append FreesRight [] (ran_on 1 well_formed_turns).events (Each-nil FreesRight) (
      tt,
      (
        tt,
        (
          tt,
          (
            tt,
            (
              tt,
              (
                record {
                  before = (ran_on 1 (begins 0 (acquire 313) 4)).events;
                  start = release 0 313 Default;
                  since = [];
                  is = refl;
                  within = tt;
                  holds = refl;
                },
                (tt, (tt, (tt, (tt, (tt, tt))))),
              ),
            ),
          ),
        ),
      ),
    )
