-- The calls on unique index sets as calls of the model: where each stands, and what it has written there.
use Rattle.std.specs.Prelude.{◌≡◌, ℕ, ◌<◌, Bool, false, None, IfSome, Ok, Err, List, [], ◌∷◌}
use Rattle.steps.specs.Indices.Head.{proposed}
use Rattle.steps.specs.Indices.Unique.{Acquired}
use Rattle.steps.specs.declared.indices.enums.ReleaseMode.TheVariants as modes
use Rattle.steps.specs.declared.indices.enums.ReleaseState.{ReleaseState}
use Rattle.steps.specs.declared.indices.enums.ReleaseState.TheVariants as states
use Rattle.steps.specs.declared.indices.unique.Acquire.{Acquire as Acquiring}
use Rattle.steps.specs.declared.indices.unique.AcquireStage.{AcquireStage}
use Rattle.steps.specs.declared.indices.unique.AcquireStage.TheVariants as acquires
use Rattle.steps.specs.declared.indices.unique.Release.{Release as Releasing}
use Rattle.steps.specs.declared.indices.unique.DefaultMode.{DefaultMode}
use Rattle.steps.specs.declared.indices.unique.LockMode.{LockMode}
use Rattle.steps.specs.declared.indices.looks.BorrowedIndices.{BorrowedIndices as Counting}
use Rattle.steps.specs.declared.indices.looks.IsLocked.{IsLocked as Looking}
use Rattle.steps.specs.declared.indices.unique.ReleaseStage.{ReleaseStage}
use Rattle.steps.specs.declared.indices.unique.ReleaseStage.TheVariants as releases
use Rattle.model.specs.declared.event.Answer.TheVariants.{State, Number, Truth}
use Rattle.model.specs.declared.event.Event.{Event}
use Rattle.model.specs.declared.event.Event.TheVariants.{Claimed, Freed, Locked}
use Rattle.model.specs.declared.event.Start.TheVariants.{Indices}
use Rattle.model.specs.declared.families.Flight.TheVariants as flights
use Rattle.model.specs.declared.families.indices.IndexStart.TheVariants.{Acquire, Release, BorrowedIndices, IsLocked}
use Rattle.model.specs.declared.families.indices.calls.IndexFlight.TheVariants as calls
use Rattle.model.specs.Families.Indices.Calls.{acquire_answer}
use Rattle.history.specs.Stages.{Calling}

-- where an acquire is about to follow or to claim an index, it is one of the set's
abbrev pub StandsIn : ℕ → AcquireStage → Type 0
StandsIn capacity acquires.LoadsHead = Unit {0}
StandsIn capacity (acquires.LoadsNext head) = proposed head < capacity
StandsIn capacity (acquires.ExchangesHead head next) = Unit {0}
StandsIn capacity (acquires.Claims index) = index < capacity
StandsIn capacity (acquires.Scans index) = index < capacity

module _ {T : Type 0} where
  -- what an acquire with this answer has written
  abbrev pub claimed_by : ℕ → Acquired → List (Event T)
  claimed_by p (Ok index) = Claimed p index ∷ []
  claimed_by p (Err failure) = []

  -- An acquire of an index by the party that the pass has been, if it has been one. It ends with the index or why there
  -- is none, and writes its claim as it ends.
  abbrev pub takes_index : Calling T Acquiring (Unit {0}) Acquired
  takes_index =
      record {
        start = Indices Acquire;
        -- the party that the pass was last makes the call, if the pass has been a party
        by = λ was p. IfSome was (λ q. q ≡ p);
        -- what holds of the call between two steps, and which call of the model is then under way
        stands = λ capacity c. (c.capacity ≡ capacity) × (0 < capacity) × StandsIn capacity c.stage;
        flight = λ c m.
            flights.Indices
            (calls.Acquire (record { call = c; given = tt; room = m }));
        answer = λ e m. acquire_answer e;
        -- no word that it loads ends it outside the history
        skips = λ c n. false;
        left = λ e. ⊥;
        -- under way it has written nothing yet
        wrote = λ capacity p from c m es. es ≡ [];
        wrote_all = λ capacity p from e m es. es ≡ claimed_by p e;
      }

  -- what a release has written at its stages since this one
  abbrev pub freed_at : (p index : ℕ) → ReleaseStage → List (Event T)
  freed_at p index releases.ClearsFlag = []
  freed_at p index stage = Freed p index ∷ []

  -- A release of this index in the default mode, by any party. It ends with the state of the set, and writes that the
  -- index is free with its first step.
  abbrev pub gives_index : ℕ → Calling T (Releasing DefaultMode) (Unit {0}) ReleaseState
  gives_index index =
      record {
        start = Indices (Release index modes.Default);
        -- any party may make the call, whichever party the pass was last
        by = λ was p. Unit {0};
        -- what holds of the call between two steps, and which call of the model is then under way
        stands = λ capacity c. (c.capacity ≡ capacity) × (index < capacity);
        flight = λ c m.
            flights.Indices
            (calls.ReleaseDefault (record { call = c; given = index; room = m }));
        answer = λ e m. State e;
        -- no word that it loads ends it outside the history
        skips = λ c n. false;
        left = λ e. ⊥;
        -- what was written is told only of a call whose begin the pass has seen
        wrote = λ capacity p from c m es. from ≡ None → es ≡ freed_at p index c.stage;
        wrote_all = λ capacity p from e m es. from ≡ None → es ≡ Freed p index ∷ [];
      }

  -- what a release has written that may lock, by its answer
  abbrev pub given_by : (p index : ℕ) → ReleaseState → List (Event T)
  given_by p index states.Unlocked = Freed p index ∷ []
  given_by p index states.Locked = Freed p index ∷ Locked p ∷ []

  -- A release of this index in the mode that locks the set with the last index, by any party. It ends with the state of
  -- the set, and writes that the index is free with its first step.
  abbrev pub gives_or_locks : ℕ → Calling T (Releasing LockMode) (Unit {0}) ReleaseState
  gives_or_locks index =
      record {
        start = Indices (Release index modes.LockIfLastIndex);
        -- any party may make the call, whichever party the pass was last
        by = λ was p. Unit {0};
        -- what holds of the call between two steps, and which call of the model is then under way
        stands = λ capacity c. (c.capacity ≡ capacity) × (index < capacity);
        flight = λ c m.
            flights.Indices
            (calls.ReleaseLock (record { call = c; given = index; room = m }));
        answer = λ e m. State e;
        -- no word that it loads ends it outside the history
        skips = λ c n. false;
        left = λ e. ⊥;
        -- what was written is known only where the pass has seen the call begin
        wrote = λ capacity p from c m es. from ≡ None → es ≡ freed_at p index c.stage;
        wrote_all = λ capacity p from e m es. from ≡ None → es ≡ given_by p index e;
      }

  -- A call that tells how many indices are borrowed. It writes nothing between its begin and its end.
  abbrev pub counts_out : Calling T Counting (Unit {0}) ℕ
  counts_out =
      record {
        start = Indices BorrowedIndices;
        -- the party that the pass was last makes the call, if the pass has been a party
        by = λ was p. IfSome was (λ q. q ≡ p);
        -- what holds of the call between two steps, and which call of the model is then under way
        stands = λ capacity c. Unit {0};
        flight = λ c m.
            flights.Indices
            (calls.BorrowedIndices (record { call = c; given = tt; room = m }));
        answer = λ n m. Number n;
        -- no word that it loads ends it outside the history
        skips = λ c n. false;
        left = λ e. ⊥;
        -- under way it has written nothing yet
        wrote = λ capacity p from c m es. es ≡ [];
        wrote_all = λ capacity p from n m es. es ≡ [];
      }

  -- A call that tells whether the set is locked. It writes nothing between its begin and its end.
  abbrev pub looks_locked : Calling T Looking (Unit {0}) Bool
  looks_locked =
      record {
        start = Indices IsLocked;
        -- the party that the pass was last makes the call, if the pass has been a party
        by = λ was p. IfSome was (λ q. q ≡ p);
        -- what holds of the call between two steps, and which call of the model is then under way
        stands = λ capacity c. Unit {0};
        flight = λ c m.
            flights.Indices
            (calls.IsLocked (record { call = c; given = tt; room = m }));
        answer = λ b m. Truth b;
        -- no word that it loads ends it outside the history
        skips = λ c n. false;
        left = λ e. ⊥;
        -- under way it has written nothing yet
        wrote = λ capacity p from c m es. es ≡ [];
        wrote_all = λ capacity p from b m es. es ≡ [];
      }
