-- What the calls on a value add to the history, and what they answer. (The checker has a module `contracts` of its own,
-- so this one cannot be `Contracts`, as `lock_free` passes it on.)
use Rattle.std.specs.Prelude.{◌≡◌, ℕ, ◌+◌, Bool, true, not, Some, is_none, List, [], ◌∷◌, ◌++◌, length}
use Rattle.laws_value.specs.Stored.{stored}
use Rattle.model.specs.declared.event.Answer.TheVariants.{Truth, Loaded, Number, Done}
use Rattle.model.specs.declared.event.Event.{Event}
use Rattle.model.specs.declared.event.Event.TheVariants.{Acted}
use Rattle.model.specs.declared.event.Start.TheVariants.{Atomic}
use Rattle.model.specs.declared.families.atomic.AtomicStart.TheVariants.{AcquireProducer, ReleaseProducer, Store, Load}
use Rattle.model.specs.declared.families.atomic.AtomicStart.TheVariants.{HasProducer, Version}
use Rattle.model.specs.Families.Atomic.Reading.{holder_of}
use Rattle.history.specs.declared.view.View.{View}
use Rattle.history.specs.History.{Called, IsBeginning}
pub use Rattle.history.specs.Passes.{HasSplit, HasJoined}
use Rattle.history_value.specs.Value.{IsLast}

module _ {T : Type 0} where
  -- A call of the history that tried to acquire the producer's role: it answered whether it took the
  -- role, and wrote nothing else.
  pub record HasAcquired (taken : Bool) (old new : View T) : Type 0 where
    pub by : ℕ
    pub mine : new.party ≡ Some by
    pub called : Called by (Atomic AcquireProducer) (Truth taken) [] old new

  -- a call of the history that gave the producer's role back; since `old` nothing was stored
  pub record HasReleased (old new : View T) : Type 0 where
    pub by : ℕ
    pub mine : new.party ≡ Some by
    pub called : Called by (Atomic ReleaseProducer) Done [] old new
    pub list : stored new.seen ≡ stored old.seen  -- nothing was stored since

  -- A store of the value is a call of the history, after all that the pass had seen. It is the only
  -- store since `old`.
  pub record HasStored (x : T) (old new : View T) : Type 0 where
    pub by : ℕ
    pub mine : new.party ≡ Some by
    pub called : Called by (Atomic (Store x)) (Truth true)
        (Acted by (Atomic (Store x)) (Truth true) ∷ []) old new
    pub before : List (Event T)
    pub after : List (Event T)
    pub is : new.seen ≡ before ++ Acted by (Atomic (Store x)) (Truth true) ∷ after
    pub since : IsBeginning old.seen before
    pub next : stored before ≡ stored old.seen  -- none came between
    pub list : stored new.seen ≡ stored old.seen ++ x ∷ []  -- nor after

  -- A load is a call of the history. At a moment of it, after all that the pass had seen, this was the
  -- last value that was stored.
  pub record HasLoaded (x : T) (old new : View T) : Type 0 where
    pub by : ℕ
    pub mine : new.party ≡ Some by
    pub called : Called by (Atomic Load) (Loaded x) (Acted by (Atomic Load) (Loaded x) ∷ []) old new
    pub before : List (Event T)
    pub after : List (Event T)
    pub is : new.seen ≡ before ++ Acted by (Atomic Load) (Loaded x) ∷ after
    -- all that had been seen came before
    pub since : IsBeginning old.seen before
    -- it was the last value stored by then
    pub last : IsLast x (stored before)

  -- a call `has_producer` of the history: it wrote nothing, and answered whether some party has the
  -- role as it ends
  pub record HasSeenProducer (taken : Bool) (old new : View T) : Type 0 where
    pub by : ℕ
    pub mine : new.party ≡ Some by
    pub called : Called by (Atomic HasProducer) (Truth taken) [] old new
    -- whether somebody holds the role as the call ends
    pub holder : taken ≡ not (is_none (holder_of new.seen))

  -- a call `version` of the history: it wrote nothing, and answered 1 more than the number of the
  -- stores until it ends
  pub record HasSeenVersion (version : ℕ) (old new : View T) : Type 0 where
    pub by : ℕ
    pub mine : new.party ≡ Some by
    pub called : Called by (Atomic Version) (Number version) [] old new
    -- one more than the stores that are seen
    pub count : version ≡ length (stored new.seen) + 1
