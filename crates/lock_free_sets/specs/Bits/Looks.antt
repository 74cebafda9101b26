-- The look at a place of a bit set (`is_set`) as a call of the model, and what its answer means.
use Rattle.std.specs.Prelude.{◌≡◌, ℕ, ◌<◌, Bool, false, IfSome, List, [], ◌∷◌, ◌++◌}
use Rattle.steps.specs.declared.bits.looks.IsSet.{IsSet as Looking}
use Rattle.model.specs.declared.event.Answer.TheVariants.{Truth}
use Rattle.model.specs.declared.event.Event.{Event}
use Rattle.model.specs.declared.event.Event.TheVariants.{Finished}
use Rattle.model.specs.declared.event.Start.TheVariants.{Bits}
use Rattle.model.specs.declared.families.Flight.TheVariants as flights
use Rattle.model.specs.declared.families.bits.BitsStart.TheVariants.{IsSet}
use Rattle.model.specs.declared.families.bits.calls.BitsFlight.TheVariants as calls
use Rattle.model.specs.Families.Bits.Reading.{standing}
use Rattle.model.specs.Turns.{one_if}
use Rattle.history.specs.declared.view.View.{View}
use Rattle.history.specs.Stages.{Calling}
use Rattle.lock_free_sets.specs.Driven.{HasMade}

module _ {T : Type 0} where
  -- how `is_set` is read as a call of the model
  abbrev pub looks_at : ℕ → Calling T Looking (Unit {0}) Bool
  looks_at place =
      record {
        start = Bits (IsSet place);
        -- a pass that has been a party makes the call as that party, at a place below the capacity
        by = λ was p. IfSome was (λ q. q ≡ p);
        stands = λ capacity c. place < capacity;
        flight = λ c m.
            flights.Bits
            (calls.IsSet (record { call = c; given = place; room = m }));
        answer = λ b m. Truth b;
        -- no word that it loads ends it outside the history, and it writes nothing
        skips = λ c n. false;
        left = λ e. ⊥;
        wrote = λ capacity p from c m es. es ≡ [];
        wrote_all = λ capacity p from b m es. es ≡ [];
      }

-- The call `is_set` wrote nothing. Its answer says whether the flag of the place was set after all
-- events before its end.
pub record IsSetDone (place : ℕ) (answer : Bool) (old new : View ℕ) : Type 0 where
  pub made : HasMade (Bits (IsSet place)) (Truth answer) (λ by. []) old new
  pub by : ℕ
  pub before : List (Event ℕ)
  pub is : new.seen ≡ before ++ Finished by (Bits (IsSet place)) (Truth answer) ∷ []
  pub stood : standing place before ≡ one_if answer
