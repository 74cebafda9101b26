-- The words of the contracts of bit sets and counting bit sets: which set a pass is for, what it knows
-- of the set's history, and what calls and joins leave of it.
use Rattle.std.specs.Prelude.{◌≡◌, ◌≤◌, ℕ, ◌+◌, Option, Some, IfSome, List}
use Rattle.steps.specs.declared.words.Words as Words
use Rattle.model.specs.declared.event.Event.{Event}
use Rattle.model.specs.Coding.{one_word}
use Rattle.threaded.specs.declared.share.Share.{Share}
use Rattle.threaded.specs.Seats.{home_id}
pub use Rattle.threaded.specs.Sets.{SetId}
use Rattle.history.specs.declared.view.View.{View}
use Rattle.history.specs.History.{IsHistory, AreFirst}
use Rattle.history.specs.Passes as passes
use Rattle.lock_free_sets.specs.Sets.Kinds.{machine_kind}
use Rattle.lock_free_sets.specs.declared.mpmc.sets.rule.Kind.{Ghosts}
use Rattle.lock_free_sets.specs.declared.mpmc.sets.rule.SetRule.{SetRule}
use Rattle.lock_free_sets.specs.declared.mpmc.sets.Set.{Set}
use Rattle.lock_free_sets.specs.declared.mpmc.sets.FixedSize.{FixedSize}
use Rattle.lock_free_sets.specs.declared.mpmc.sets.Held.{Held}

module _ {E : Type 0} where
  -- what names a set
  abbrev pub set_id : Set E → SetId
  set_id s = record { table = home_id s.home; capacity = s.capacity }

  -- the capacity of a set
  abbrev pub capacity_of : Set E → ℕ
  capacity_of s = s.capacity

  -- a set whose type names its capacity is a set, which it holds as a field
  module _ {CAPACITY : ℕ} where
    -- the set of one whose capacity is part of its type
    abbrev pub inner : FixedSize E CAPACITY → Set E
    inner s = s.set

module _ {E : Type 0} {kind : Ghosts E} {words : Words.Ghosts ℕ} where
  -- which set a pass is for
  abbrev pub set_of : Held E ℕ (SetRule E) kind words → SetId
  set_of p = record { table = p.seated.seat.table_id; capacity = p.capacity }

  -- the pass is for this set
  abbrev pub IsPassOf : Set E → Held E ℕ (SetRule E) kind words → Type 0
  IsPassOf s p = set_of p ≡ set_id s

  -- all that a pass knows
  abbrev pub view : Held E ℕ (SetRule E) kind words → View ℕ
  view p = p.seated.seat.me.0

  -- the beginning of the history that it has seen
  abbrev pub history : Held E ℕ (SetRule E) kind words → List (Event ℕ)
  history p = p.seated.seat.me.0.seen

  -- the events of its own calls, and of those of the passes that it took in
  abbrev pub made : Held E ℕ (SetRule E) kind words → List (Event ℕ)
  made p = p.seated.seat.me.0.made

  -- the party that it is in the history; None before its first call
  abbrev pub party : Held E ℕ (SetRule E) kind words → Option ℕ
  party p = p.seated.seat.me.0.party

  -- its share of the right to know the whole
  abbrev pub share : Held E ℕ (SetRule E) kind words → Share
  share p = p.seated.seat.me.0.share

  -- it has seen a history of its set
  abbrev pub HasHistory : Held E ℕ (SetRule E) kind words → Type 0
  HasHistory p = IsHistory one_word (machine_kind kind.KIND) (set_of p).capacity (history p)

  -- if the pass had been a party, it is the same party
  abbrev pub IsSameParty : Held E ℕ (SetRule E) kind words → Held E ℕ (SetRule E) kind words → Type 0
  IsSameParty old new = IfSome (party old) (λ p. party new ≡ Some p)

  -- with the whole share, the history is what it made
  abbrev pub MissesNothing : Held E ℕ (SetRule E) kind words → Type 0
  MissesNothing p = passes.MissesNothing (view p)

  -- What each call leaves of a pass: its set, share and party, and a run that goes on. With the whole
  -- share it misses nothing.
  pub record SamePass (old new : Held E ℕ (SetRule E) kind words) : Type 0 where
    pub set : set_of new ≡ set_of old
    pub share : share new ≡ share old
    pub party : IsSameParty old new
    pub first : AreFirst (view old).turns (view new).turns
    -- at most one operation was no step of a call
    pub aside : (view new).aside ≤ (view old).aside + 1
    pub all : MissesNothing new

  -- what a join leaves of a pass: its set, and a view that has what both views had
  pub record PassJoins (old other new : Held E ℕ (SetRule E) kind words) : Type 0 where
    pub set : set_of new ≡ set_of old
    pub joined : passes.HasJoined (view old) (view other) (view new)
    pub all : MissesNothing new
