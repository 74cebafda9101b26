-- In mode LockIfLastIndex a recovery finds, after each index that it frees, some index filled, or the
-- container locked, or its counter at its end; and what it knows of this while it goes on.
use Rattle.laws_container.proofs.Names.{◌≡◌, ◌⊎◌, ⊎_elim, inl, inr, ℕ, ◌<◌, true, false, List, [], ◌++◌, subst}
use Rattle.laws_container.proofs.Names.{append-nil, arith, ReleaseMode, LockIfLastIndex, Default, Lock, Event}
use Rattle.laws_container.proofs.Names.{UnlockedAtLast, is_locked, IsFilled, FilledSinceFreed, Frees}
use Rattle.laws_container.proofs.Names.{set_acts_of, IsOneOf, BeginsNone, HeldSometime, held_later, held_so, no_more}
use Rattle.laws_container.proofs.Names.{LockSays}
use Rattle.laws_container.specs.Gone.{FilledSinceEachBy}

-- no index is exempt
abbrev pub NoIndex : ℕ → Type 0
NoIndex i = ⊥

module _ {T : Type 0} where
  -- some index was filled at a moment of the call after all that the call did to the set
  pub record FilledAtLast (p : ℕ) (events : List (Event T)) : Type 0 where
    pub other : ℕ
    pub once : HeldSometime p (λ part. IsFilled other part × (set_acts_of p part ≡ set_acts_of p events)) events

  -- since each index that the recovery has freed another was filled, or the container is locked, or its
  -- counter at its end; `But` says which freed indices are exempt
  abbrev pub FilledBut : Type 0 → ReleaseMode → ℕ → ℕ → (ℕ → Type 0) → List (Event T) → Type 0
  FilledBut worn LockIfLastIndex p owner But events =
      (i : ℕ) → IsOneOf (Frees i owner) (set_acts_of p events)
      → (FilledSinceFreed p owner i events ⊎ ((is_locked events ≡ true) ⊎ worn)) ⊎ But i
  FilledBut worn Default p owner But events = Unit {0}

  -- a lock that has counted filled indices has found one filled after all that the call did to the set
  abbrev pub FoundFilled : ℕ → List (Event T) → ℕ → ℕ → Type 0
  FoundFilled p events k filled = 0 < filled → FilledAtLast p events

  -- the recovery of `owner` by party `p`
  module _ (p owner : ℕ) where
    -- what a recovery knows of its locks holds when events `es` are written, if each index
    -- that they free is exempt
    pub filled_then : (worn worn' : Type 0) → (worn → worn')
        → (mode : ReleaseMode) (Was But : ℕ → Type 0) (events es : List (Event T)) → BeginsNone p es
        → ((i : ℕ) → IsOneOf (Frees i owner) (set_acts_of p (events ++ es)) → IsOneOf (Frees i owner) (set_acts_of p events) ⊎ But i)
        → ((i : ℕ) → Was i → But i)
        → (is_locked events ≡ true → is_locked (events ++ es) ≡ true) → FilledBut worn mode p owner Was events → FilledBut worn' mode p owner But (events ++ es)
    filled_then worn worn' on Default Was But events es none split more shut filled_but = tt
    filled_then worn worn' on LockIfLastIndex Was But events es none split more shut filled_but =
        λ i was. ⊎_elim (λ had. ⊎_elim
        (λ settled. inl (⊎_elim (λ f. inl (later i f)) (λ l. inr (⊎_elim (λ s. inl (shut s)) (λ w. inr (on w)) l)) settled))
        (λ exempt. inr (more i exempt)) (filled_but i had))
        (λ now. inr now) (split i was)
      where
        -- an index that was filled since was so also by the later events
        later : (i : ℕ) → FilledSinceFreed p owner i events → FilledSinceFreed p owner i (events ++ es)
        later i filled_since = record { other = filled_since.other; once = held_later p _ events es none filled_since.once }

    -- what a recovery knows of its locks holds when nothing is written
    pub filled_calm : (worn worn' : Type 0) → (worn → worn')
        → (mode : ReleaseMode) (But : ℕ → Type 0) (events : List (Event T)) → FilledBut worn mode p owner But events
        → FilledBut worn' mode p owner But (events ++ [])
    filled_calm = grind (arith, filled_then, inl, append-nil)

    -- a recovery that has freed nothing knows this of its locks
    pub filled_none : (worn : Type 0) (mode : ReleaseMode) (But : ℕ → Type 0) (events : List (Event T))
        → set_acts_of p events ≡ [] → FilledBut worn mode p owner But events
    filled_none = grind (arith, no_more)

    -- where the container is locked, a recovery knows this of its locks
    pub filled_locked : (worn : Type 0) (mode : ReleaseMode) (But : ℕ → Type 0) (events : List (Event T))
        → is_locked events ≡ true → FilledBut worn mode p owner But events
    filled_locked = grind (arith, inl, inr)

    -- where the counter is at its end, a recovery knows this of its locks
    pub filled_worn : (worn : Type 0) (mode : ReleaseMode) (But : ℕ → Type 0) (events : List (Event T)) → worn → FilledBut worn mode p owner But events
    filled_worn = grind (arith, inl, inr)

    -- where some index was filled after all that the call did to the set, the recovery
    -- knows this of its locks
    pub filled_last : (worn : Type 0) (mode : ReleaseMode) (But : ℕ → Type 0) (events : List (Event T))
        → FilledAtLast p events → FilledBut worn mode p owner But events
    filled_last worn mode h events filled_last_of_all = grind arith

    -- where the container is not locked, since each index that was freed another was filled, or the counter
    -- is at its end
    pub filled_each : (worn : Type 0) (mode : ReleaseMode) (events : List (Event T)) → is_locked events ≡ false
        → FilledBut worn mode p owner NoIndex events → FilledSinceEachBy worn mode p owner events
    filled_each worn mode events free filled_but = grind arith

    -- what was said of the locks at the end of a recovery holds after events that do nothing to the set
    pub each_later : (worn worn' : Type 0) → (worn → worn') → (mode : ReleaseMode) (events es : List (Event T))
        → BeginsNone p es → set_acts_of p (events ++ es) ≡ set_acts_of p events → FilledSinceEachBy worn mode p owner events
        → FilledSinceEachBy worn' mode p owner (events ++ es)
    each_later worn worn' on Default events es none same filled_since = tt
    each_later worn worn' on LockIfLastIndex events es none same filled_since = λ i was.
        ⊎_elim (λ end. inl (on end)) (λ (f : FilledSinceFreed p owner i events). inr (record { other = f.other; once = held_later p _ events es none f.once }))
        (filled_since i (subst (IsOneOf (Frees i owner)) same was))

    -- the container was not locked at a moment after all that the call did to the set, also
    -- by the later events
    pub unlocked_later : (events es : List (Event T)) → BeginsNone p es
        → set_acts_of p (events ++ es) ≡ set_acts_of p events → UnlockedAtLast p events → UnlockedAtLast p (events ++ es)
    unlocked_later = grind (arith, held_so, held_later)

    -- ---- a lock

    -- an index was filled after all that the call did to the set, also by the later events
    last_later : (events es : List (Event T)) → BeginsNone p es → set_acts_of p (events ++ es) ≡ set_acts_of p events
        → FilledAtLast p events → FilledAtLast p (events ++ es)
    last_later = grind (arith, held_so, held_later)

    -- what a lock in a recovery has found it has found also by the later events
    pub says_later : (c : ℕ) (events es : List (Event T)) → BeginsNone p es
        → set_acts_of p (events ++ es) ≡ set_acts_of p events → (lock : Lock) → LockSays c (FoundFilled p events) lock
        → LockSays c (FoundFilled p (events ++ es)) lock
    says_later = grind (arith, last_later)
