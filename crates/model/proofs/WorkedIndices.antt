-- The definitions of the unique index set at worked runs, and at histories that they refuse.
use Rattle.model.proofs.Names.{BadIndex, Begin, Begun, Claimed, Default, Event, Finished, Freed, List, LockIfLastIndex}
use Rattle.model.proofs.Names.{Locked, None, Number, Open, Option, Some, Stands, Start, State, Trace, Truth, Turn}
use Rattle.model.proofs.Names.{WrongCall, [], ap, arith, get_or, length, one_word, opening, progress_in, promise_of}
use Rattle.model.proofs.Names.{refl, refusal_of, run, true, ℕ, ◌*◌, ◌++◌, ◌+◌, ◌^◌, ◌∷◌, ◌≡◌}
use Rattle.steps.specs.declared.indices.enums.ReleaseState.TheVariants as states
use Rattle.steps.specs.declared.indices.enums.UniqueIndexSetAcquireFailure.TheVariants as failures
use Rattle.model.specs.declared.event.Answer.TheVariants.{Index, NoIndex}
use Rattle.model.specs.declared.event.Start.TheVariants.{Indices}
use Rattle.model.specs.declared.families.Registry.TheVariants as registries
use Rattle.model.specs.declared.families.indices.IndexStart.TheVariants.{Acquire, Release, BorrowedIndices, IsLocked}
use Rattle.model.specs.declared.turn.Kind.TheVariants as kinds
use Rattle.model.specs.declared.turn.Refusal.TheVariants.{NotHeld}
use Rattle.model.specs.Families.Indices.Promises.{HoldsRight, AnswersRight}
use Rattle.model.specs.Families.Indices.Reading.{holder_of, tally_of}
use Rattle.model.specs.Families.Indices.Spans.{SetActs}
use Rattle.model.proofs.Runs.{nexts, begins}

abbrev acquire : Start ℕ
acquire = Indices Acquire

abbrev release : ℕ → Start ℕ
release index = Indices (Release index Default)

abbrev release_or_lock : ℕ → Start ℕ
release_or_lock index = Indices (Release index LockIfLastIndex)

-- A unique index set of this capacity as it opens.
abbrev opened : ℕ → Trace ℕ
opened capacity = opening one_word kinds.Indices capacity 2

-- ---- a release that falls back: another party has exchanged the head, so it subtracts

-- the release frees its index, and meets the head that another party's acquire has exchanged
abbrev falls_back : List (Turn ℕ)
falls_back =
    begins 0 acquire 4
    ++ begins 0 (release 0) 3
    ++ begins 1 acquire 4
    ++ nexts 0 2
    ++ begins 1 acquire 3

-- The events of `falls_back`.
abbrev told : List (Event ℕ)
told =
    Begun 0 acquire
    ∷ Claimed 0 0
    ∷ Finished 0 acquire (Index 0)
    ∷ Begun 0 (release 0)
    ∷ Freed 0 0
    ∷ Begun 1 acquire
    ∷ Claimed 1 1
    ∷ Finished 1 acquire (Index 1)
    ∷ Finished 0 (release 0) (State states.Unlocked)
    ∷ Begun 1 acquire
    ∷ Claimed 1 0
    ∷ Finished 1 acquire (Index 0)
    ∷ []

-- The events that the machine writes in `falls_back` are those of `told`.
pub falls_back_events : (run falls_back (opened 2)).events ≡ told
falls_back_events = refl

-- the head, with two exchanges more and two borrowed; the next indices, of which that of 0 was
-- written by the release; both flags
pub falls_back_words : (run falls_back (opened 2)).world.words ≡ (2 * 2 ^ 40 + 3 * 2 ^ 24 + 2) ∷ 1 ∷ 2 ∷ 3 ∷ []
falls_back_words = refl

-- The release has taken 5 steps, while others changed words twice.
pub falls_back_counts : progress_in (run falls_back (opened 2)).world 0
    ≡ Some (record { steps = 5; backs = 0; others = 2; finished = true })
falls_back_counts = refl

-- The registry says that party 1 holds both indices.
pub falls_back_kept : (run falls_back (opened 2)).world.kept ≡ registries.Indices (Some 1 ∷ Some 1 ∷ [])
falls_back_kept = refl

-- By the events, too, party 1 holds both indices, and index 2, which does not exist, is held by none.
pub falls_back_holders : (holder_of 0 told ≡ Some 1) × (holder_of 1 told ≡ Some 1) × (holder_of 2 told ≡ None)
falls_back_holders = (refl, refl, refl)

-- Two indices are held, none is being acquired, and none is being released.
pub falls_back_tally : tally_of told ≡ record { held = 2; taking = 0; giving = 0 }
falls_back_tally = refl

-- ---- a lock

-- the last index is given back in the mode that locks, and acquire is then refused
abbrev locks : List (Turn ℕ)
locks =
    begins 0 acquire 4
    ++ begins 0 (release_or_lock 0) 4
    ++ begins 0 acquire 1
    ++ begins 1 (Indices BorrowedIndices) 1
    ++ begins 0 (Indices IsLocked) 1

-- the release answers Locked, the acquire that comes then is refused, and nothing is borrowed
pub locks_events : (run locks (opened 3)).events
    ≡ Begun 0 acquire
    ∷ Claimed 0 0
    ∷ Finished 0 acquire (Index 0)
    ∷ Begun 0 (release_or_lock 0)
    ∷ Freed 0 0
    ∷ Locked 0
    ∷ Finished 0 (release_or_lock 0) (State states.Locked)
    ∷ Begun 0 acquire
    ∷ Finished 0 acquire (NoIndex failures.IsLocked)
    ∷ Begun 1 (Indices BorrowedIndices)
    ∷ Finished 1 (Indices BorrowedIndices) (Number 0)
    ∷ Begun 0 (Indices IsLocked)
    ∷ Finished 0 (Indices IsLocked) (Truth true)
    ∷ []
locks_events = refl

-- ---- words and refusals

-- A set of 100 indices has 103 words: the head, 100 next indices, and their flags in two words.
pub words_of_100 : length (opened 100).world.words ≡ 103
words_of_100 = refl

-- An index that nobody holds is not released.
pub not_held : refusal_of (opened 2).world (Begin 0 (release 0)) ≡ Some NotHeld
not_held = refl

-- An index that another party holds is not released by party 0.
pub not_held_by_it : refusal_of (run falls_back (opened 2)).world (Begin 0 (release 0)) ≡ Some NotHeld
not_held_by_it = refl

-- Index 2 of a set of two indices is not released.
pub past_the_capacity : refusal_of (opened 2).world (Begin 0 (release 2)) ≡ Some BadIndex
past_the_capacity = refl

-- A queue has no call `Acquire` of an index.
pub no_call_of_a_queue : refusal_of (opening {T = ℕ} one_word kinds.Queue 2 2).world (Begin 0 acquire) ≡ Some WrongCall
no_call_of_a_queue = refl

-- ---- what they refuse

-- Party 0 has claimed index 1.
abbrev held : List (Event ℕ)
held = Claimed 0 1 ∷ []

-- an index that is claimed twice
no_second_holder : HoldsRight 2 held (Claimed 1 1) → ⊥
no_second_holder holds_right = let held = holds_right.1 in cc

-- a lock while an index is held
no_lock_over_a_holder : HoldsRight 2 held (Locked 1) → ⊥
no_lock_over_a_holder holds_right = let free = holds_right.0 1 in cc

-- OutOfIndices of a set that nobody uses
no_empty_set : AnswersRight 1 (Begun 0 acquire ∷ []) (Finished 0 acquire (NoIndex failures.OutOfIndices)) → ⊥
no_empty_set = omega arith

-- a release that says that it has not locked, though nothing else is in use
no_missed_lock : AnswersRight 1 (Claimed 0 0 ∷ Begun 0 (release_or_lock 0) ∷ Freed 0 0 ∷ [])
    (Finished 0 (release_or_lock 0) (State states.Unlocked))
    → ⊥
no_missed_lock = omega arith

-- The indices that a call has freed.
abbrev freed_in : Option SetActs → List ℕ
freed_in None = []
freed_in (Some d) = d.freed

-- The first index that a call has claimed, or 0.
abbrev claimed_in : Option SetActs → ℕ
claimed_in None = 0
claimed_in (Some d) = get_or d.claimed 0 0

-- a release that ends and has freed nothing
no_silent_release : Stands (promise_of kinds.Indices) 1 (Finished 0 (release 0) (State states.Unlocked)) (Open (release 0) []) → ⊥
no_silent_release stands = let none = ap freed_in stands.1 in cc

-- an acquire that ends with an index and has claimed another
no_other_index : Stands (promise_of kinds.Indices) 2 (Finished 0 acquire (Index 0)) (Open acquire (Claimed 0 1 ∷ [])) → ⊥
no_other_index stands = omega (arith, ap claimed_in stands.1)
