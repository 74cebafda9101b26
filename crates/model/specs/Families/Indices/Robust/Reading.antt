-- How the events of the robust index set are read.
use Rattle.std.specs.Prelude.{◌≡◌, ℕ, ◌==◌, ◌||◌, Bool, false, Option, Some, None, List, [], ◌∷◌, ◌++◌, fold, if◌then◌else◌}
use Rattle.std.specs.List.{flat_map}
use Rattle.model.specs.declared.event.Answer.TheVariants.{Index}
use Rattle.model.specs.declared.event.Event.{Event}
use Rattle.model.specs.declared.event.Event.TheVariants as events
use Rattle.model.specs.declared.event.Event.TheVariants.{Begun, Filled, Granted, FreedOf, Asked, Told, Died, Finished}
use Rattle.model.specs.declared.event.Start.TheVariants.{Robust, Container}
use Rattle.model.specs.declared.families.container.ContainerStart.TheVariants.{Add, Remove}
use Rattle.model.specs.declared.families.indices.robust.RobustStart.TheVariants.{Acquire, Release}
use Rattle.model.specs.Reading.{Span, Never, Open, Ended, span_of}

-- The owner, or none if it is this one.
abbrev pub without : ℕ → Option ℕ → Option ℕ
without owner None = None
without owner (Some other) = if other == owner then None else Some other

module _ {T : Type 0} where
  -- ---- indices and owners

  -- an index is filled with an owner from its Filled to its next Freed
  abbrev pub filled_after : ℕ → Option ℕ → Event T → Option ℕ
  filled_after i owner (Filled p index o) = if index == i then Some o else owner
  filled_after i owner (FreedOf p index o) = if index == i then None else owner
  filled_after i owner e = owner

  -- the owner for whom index i is filled after these events
  abbrev pub filled_of : ℕ → List (Event T) → Option ℕ
  filled_of i events = fold (filled_after i) None events

  -- an index is held by an owner from its Granted to its next Freed
  abbrev pub holder_after : ℕ → Option ℕ → Event T → Option ℕ
  holder_after i owner (Granted p index o) = if index == i then Some o else owner
  holder_after i owner (FreedOf p index o) = if index == i then None else owner
  holder_after i owner e = owner

  -- who holds index i after these events
  abbrev pub holder_of : ℕ → List (Event T) → Option ℕ
  holder_of i events = fold (holder_after i) None events

  -- The owner for whom index i may be given back, after an event: from the end of the acquire or the add
  -- that was granted it, until a release or a remove of it for that owner begins, or the index is freed.
  abbrev pub settled_after : ℕ → Option ℕ → Event T → Option ℕ
  settled_after i owner (Finished p (Robust (Acquire o)) (Index index)) =
      if index == i then Some o else owner
  settled_after i owner (Finished p (Container (Add value o)) (Index index)) =
      if index == i then Some o else owner
  settled_after i owner (Begun p (Robust (Release index o mode))) =
      if index == i then without o owner else owner
  settled_after i owner (Begun p (Container (Remove index o mode))) =
      if index == i then without o owner else owner
  settled_after i owner (FreedOf p index o) = if index == i then None else owner
  settled_after i owner e = owner

  -- the owner for whom index i may be given back after these events, if there is one
  abbrev pub settled_of : ℕ → List (Event T) → Option ℕ
  settled_of i events = fold (settled_after i) None events

  -- whether the owner has died, after an event
  abbrev pub dead_after : ℕ → Bool → Event T → Bool
  dead_after owner dead (Died o) = (o == owner) || dead
  dead_after owner dead e = dead

  -- whether the owner has died in these events
  abbrev pub is_dead : ℕ → List (Event T) → Bool
  is_dead owner events = fold (dead_after owner) false events

-- ---- what a call does

-- What a call does to the set: it fills an index for an owner, grants it, frees it; asks whether to free an index of an
-- owner, and hears yes; or locks the set.
pub data SetAct : Type 0 where
  Fills : (index owner : ℕ) → SetAct
  Grants : (index owner : ℕ) → SetAct
  Frees : (index owner : ℕ) → SetAct
  Asks : (index owner : ℕ) → SetAct
  Yes : (index owner : ℕ) → SetAct
  Locks : SetAct

module _ {T : Type 0} where
  -- what an event does to the set, without its party
  abbrev pub set_act : Event T → List SetAct
  set_act (Filled p index owner) = Fills index owner ∷ []
  set_act (Granted p index owner) = Grants index owner ∷ []
  set_act (FreedOf p index owner) = Frees index owner ∷ []
  set_act (Asked p index owner) = Asks index owner ∷ []
  set_act (Told p index owner) = Yes index owner ∷ []
  set_act (events.Locked p) = Locks ∷ []
  set_act e = []

  -- what these events do to the set
  abbrev pub set_acts : List (Event T) → List SetAct
  set_acts events = flat_map set_act events

  -- what a party's latest call has written
  abbrev pub wrote_in : Span T → List (Event T)
  wrote_in Never = []
  wrote_in (Open start wrote) = wrote
  wrote_in (Ended start answer wrote) = wrote

  -- What the party's latest call has done to the set so far.
  abbrev pub set_acts_of : ℕ → List (Event T) → List SetAct
  set_acts_of p events = set_acts (wrote_in (span_of p events))

-- `one` is an element of the list
pub record IsOneOf {A : Type 0} (one : A) (all : List A) : Type 0 where
  pub before : List A
  pub after : List A
  pub is : all ≡ before ++ one ∷ after

-- `one` is the last element of the list
pub record IsLatest {A : Type 0} (one : A) (all : List A) : Type 0 where
  pub before : List A
  pub is : all ≡ before ++ one ∷ []

-- The index that an act asks about, if it asks about one.
abbrev pub index_asked : SetAct → List ℕ
index_asked (Asks index owner) = index ∷ []
index_asked one = []

-- All indices that the acts ask about, in order.
abbrev pub asked_in : List SetAct → List ℕ
asked_in all = flat_map index_asked all
