-- When the values of a container stand whole, by its history: what is asked of the events (`IsOrderly`), and
-- what they then say (`IsContained`).
use Rattle.std.specs.Prelude.{◌≡◌, ℕ, ◌+◌, ◌-◌, ◌*◌, ◌^◌, ◌<◌, ◌==◌, Bool, true, false, List, sum_by}
use Rattle.model.specs.declared.event.Event.{Event}
use Rattle.model.specs.declared.event.Event.TheVariants.{Begun, FreedOf, Told, Hidden, Died, Finished}
use Rattle.model.specs.declared.event.Start.{Start}
use Rattle.model.specs.declared.event.Start.TheVariants.{Container}
use Rattle.model.specs.declared.families.container.ContainerStart.TheVariants.{Add, Remove, Replace, Recover}
use Rattle.model.specs.Families.Container.Promises.{ReplacesRight, ContainsRight, PlacesRight}
use Rattle.model.specs.Families.Container.Reading.{MayReplace}
use Rattle.model.specs.Families.Container.Removals.{HidesRight}
use Rattle.model.specs.Families.Indices.Robust.Promises.{FreesRight, HoldsRight, IsFilledWith}
use Rattle.model.specs.Moments.{HeldSometime}
use Rattle.model.specs.Reading.{Each, Span, Open, span_of}
use Rattle.laws_robust.specs.Gone.{Word, is_gone}
use Rattle.lock_free_owners.specs.Worn.{changes, LocksApart}

module _ {T : Type 0} where
  -- ---- nobody acts for an owner in recovery

  -- whether the call adds, removes or replaces for this owner
  abbrev pub is_for : ℕ → Start T → Bool
  is_for owner (Container (Add value o)) = o == owner
  is_for owner (Container (Remove index o mode)) = o == owner
  is_for owner (Container (Replace index value o)) = o == owner
  is_for owner start = false

  -- whether a call that adds, removes or replaces for this owner is under way
  abbrev pub is_acting : ℕ → Span T → Bool
  is_acting owner (Open start wrote) = is_for owner start
  is_acting owner span = false

  -- no add, remove or replace begins for an owner who is gone, and no recovery of an owner for whom an add,
  -- remove or replace is under way
  abbrev pub BeginsRight : List (Event T) → Event T → Type 0
  BeginsRight before (Begun p (Container (Recover owner mode))) = (q : ℕ) → is_acting owner (span_of q before) ≡ false
  BeginsRight before (Begun p start) = (owner : ℕ) → is_for owner start ≡ true → is_gone Word owner before ≡ false
  BeginsRight before e = Unit {0}

  -- each call of the history begins when it may: nobody acts for an owner who is gone
  abbrev pub IsFaithful : List (Event T) → Type 0
  IsFaithful events = Each BeginsRight events

  -- ---- each call gives back, and replaces, what its owner has

  -- A remove that frees was begun where its index might be given back for its owner, and a replace that has replaced,
  -- or is under way at an index that was its owner's meanwhile, where it might be replaced.
  pub record IsWellFormed (events : List (Event T)) : Type 0 where
    -- a remove that freed an index was begun where the index might be given back for its owner
    pub frees : Each FreesRight events
    -- a replace that has replaced was begun where its index might be replaced for its owner
    pub replaced : Each ReplacesRight events
    -- so was a replace under way whose index was its owner's at a moment of the call
    pub replaces : (p index owner : ℕ) (value : T) (wrote : List (Event T))
        → span_of p events ≡ Open (Container (Replace index value owner)) wrote
        → HeldSometime p (IsFilledWith owner index) events → MayReplace p index owner events

  -- ---- no number of an element, and no count of changes, passes 2^64 and begins again

  -- By how much the numbers of elements, and the number of changes, go up at most by a call that begins so,
  -- or by an event: a call that places a value counts it and the change, one that hides some counts the
  -- change, and each that is hidden counts once.
  abbrev pub rise : Event T → ℕ
  rise (Begun p (Container (Add value owner))) = 2
  rise (Begun p (Container (Replace index value owner))) = 2
  rise (Begun p (Container (Remove index owner mode))) = 1
  rise (Begun p (Container (Recover owner mode))) = 1
  rise (Hidden p index) = 1
  rise e = 0

  -- by how much the numbers went up at most in these events
  abbrev pub rises : List (Event T) → ℕ
  rises events = sum_by rise events

  -- too little was done for a number of the container, or the counter of its set, to have passed 2^64
  abbrev pub IsYoung : List (Event T) → Type 0
  IsYoung events = 3 * changes events + rises events < 2 ^ 64 - 3

  -- ---- what is asked of the events, and what they say then

  -- Each call acts for an owner who is not gone, and on what that owner has; no two calls that may
  -- lock overlap, since each could make the other raise the counter any number of times; and no
  -- number has passed 2^64.
  pub record IsOrderly (events : List (Event T)) : Type 0 where
    -- each call gives back and replaces what its owner has
    pub well_formed : IsWellFormed events
    -- nobody acts for an owner who is gone
    pub faithful : IsFaithful events
    -- no two calls that may lock overlap
    pub apart : LocksApart events
    -- no number can have passed 2^64
    pub young : IsYoung events

  -- No index is granted that is held. A value is placed where nothing stands, and hidden where something does; what is
  -- copied stands there, whole. An add or a replace that succeeded has placed its value, and what stood at an index
  -- that a call has freed is hidden before that call ends.
  pub record IsContained (events : List (Event T)) : Type 0 where
    -- no index is granted that is held
    pub holders : Each HoldsRight events
    -- values are placed, hidden and copied right
    pub contents : Each ContainsRight events
    -- an add or a replace that succeeded has placed its value
    pub placed : Each PlacesRight events
    -- what stood at an index that was freed is hidden
    pub hidden : Each HidesRight events

  -- ---- histories without recoveries, or without removals: a count of events shows the conditions above

  -- the event tells that an owner is gone: he has died, a recovery of him begins, or is told to free an index of his
  abbrev pub recovery : Event T → ℕ
  recovery (Died owner) = 1
  recovery (Told p index owner) = 1
  recovery (Begun p (Container (Recover owner mode))) = 1
  recovery e = 0

  -- how many events of the list tell that an owner is gone
  abbrev pub recoveries : List (Event T) → ℕ
  recoveries events = sum_by recovery events

  -- an index is freed, or a replace begins or ends
  abbrev pub removal : Event T → ℕ
  removal (FreedOf p index owner) = 1
  removal (Begun p (Container (Replace index value owner))) = 1
  removal (Finished p (Container (Replace index value owner)) answer) = 1
  removal e = 0

  -- how many events of the list free an index, or begin or end a replace
  abbrev pub removals : List (Event T) → ℕ
  removals events = sum_by removal events
