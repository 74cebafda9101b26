-- The calls `set` and `reset_next` of a bit set as calls of the model: where each stands between two
-- steps, and what it has written.
use Rattle.std.specs.Prelude.{◌≡◌, ℕ, ◌<◌, ◌≤◌, Bool, true, false, Option, Some, None, IfSome, List, [], ◌∷◌}
use Rattle.steps.specs.declared.bits.bit_set.Set.{Set as Setting}
use Rattle.steps.specs.declared.bits.bit_set.ResetNext.{ResetNext as Resetting}
use Rattle.steps.specs.declared.bits.bit_set.ResetNextStage.{ResetNextStage}
use Rattle.steps.specs.declared.bits.bit_set.ResetNextStage.TheVariants as resets
use Rattle.model.specs.declared.event.Answer.TheVariants.{Truth}
use Rattle.model.specs.declared.event.Event.{Event}
use Rattle.model.specs.declared.event.Event.TheVariants as events
use Rattle.model.specs.declared.event.Start.TheVariants.{Bits}
use Rattle.model.specs.declared.families.Flight.TheVariants as flights
use Rattle.model.specs.declared.families.bits.BitsStart.TheVariants.{Set, ResetNext}
use Rattle.model.specs.declared.families.bits.calls.BitsFlight.TheVariants as calls
use Rattle.model.specs.Families.Bits.Calls.{reset_answer}
use Rattle.history.specs.Stages.{Calling}

-- what holds at each stage of a `reset_next`: the place that it looks at, or has cleared,
-- is below the capacity
abbrev pub ResetStands : ℕ → ResetNextStage → Type 0
ResetStands capacity resets.LoadsPosition = Unit {0}
ResetStands capacity (resets.LoadsElement start passed) =
    (start ≤ capacity) × (passed < capacity)
ResetStands capacity (resets.ExchangesElement start passed found) =
    (start ≤ capacity) × (passed < capacity)
ResetStands capacity (resets.StoresPosition place) = place < capacity

-- the answer is no place, or one below the capacity
abbrev pub IsPlace : ℕ → Option ℕ → Type 0
IsPlace capacity None = Unit {0}
IsPlace capacity (Some place) = place < capacity

module _ {T : Type 0} where
  -- ---- setting a place

  -- what a `set` with this answer writes in all
  abbrev pub set_wrote : (p place : ℕ) → Bool → List (Event T)
  set_wrote p place true = events.Set p place ∷ []
  set_wrote p place false = []

  -- how a `set` is read as a call of the model
  abbrev pub sets_place : ℕ → Calling T Setting (Unit {0}) Bool
  sets_place place =
      record {
        start = Bits (Set place);
        -- a pass that has been a party makes the call as that party, at a place below the capacity
        by = λ was p. IfSome was (λ q. q ≡ p);
        stands = λ capacity c. place < capacity;
        flight = λ c m.
            flights.Bits
            (calls.Set (record { call = c; given = place; room = m }));
        answer = λ b m. Truth b;
        -- no word that it loads ends it outside the history
        skips = λ c n. false;
        left = λ e. ⊥;
        -- it writes nothing before its last step
        wrote = λ capacity p from c m es. es ≡ [];
        wrote_all = λ capacity p from b m es. es ≡ set_wrote p place b;
      }

  -- ---- resetting the next place

  -- what a `reset_next` has written up to this stage: once it stores the position it has cleared its place
  abbrev pub reset_so_far : ℕ → ResetNextStage → List (Event T)
  reset_so_far p resets.LoadsPosition = []
  reset_so_far p (resets.LoadsElement start passed) = []
  reset_so_far p (resets.ExchangesElement start passed found) = []
  reset_so_far p (resets.StoresPosition place) =
      events.Cleared p place ∷ []

  -- what a `reset_next` with this answer has written in all
  abbrev pub reset_wrote : ℕ → Option ℕ → List (Event T)
  reset_wrote p None = []
  reset_wrote p (Some place) = events.Cleared p place ∷ []

  -- how a `reset_next` is read as a call of the model
  abbrev pub resets_next : Calling T Resetting (Unit {0}) (Option ℕ)
  resets_next =
      record {
        start = Bits ResetNext;
        -- a pass that has been a party makes the call as that party
        by = λ was p. IfSome was (λ q. q ≡ p);
        stands = λ capacity c. (c.capacity ≡ capacity) × ResetStands capacity c.stage;
        flight = λ c m.
            flights.Bits
            (calls.ResetNext (record { call = c; given = tt; room = m }));
        answer = λ o m. reset_answer o;
        -- no word that it loads ends it outside the history
        skips = λ c n. false;
        left = λ e. ⊥;
        -- what it wrote is known where the pass has seen it begin
        wrote = λ capacity p from c m es. from ≡ None → es ≡ reset_so_far p c.stage;
        wrote_all = λ capacity p from o m es.
            IsPlace capacity o × (from ≡ None → es ≡ reset_wrote p o);
      }
