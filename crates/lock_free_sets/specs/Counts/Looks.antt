-- The look at a count (`count`) as a call of the model, and what its answer means.
use Rattle.std.specs.Prelude.{◌≡◌, ℕ, ◌<◌, ◌%◌, ◌^◌, false, IfSome, List, [], ◌∷◌, ◌++◌}
use Rattle.steps.specs.declared.bits.looks.Count.{Count as Looking}
use Rattle.model.specs.declared.event.Answer.TheVariants.{Number}
use Rattle.model.specs.declared.event.Event.{Event}
use Rattle.model.specs.declared.event.Event.TheVariants.{Finished}
use Rattle.model.specs.declared.event.Start.TheVariants.{Bits}
use Rattle.model.specs.declared.families.Flight.TheVariants as flights
use Rattle.model.specs.declared.families.bits.BitsStart.TheVariants.{Count}
use Rattle.model.specs.declared.families.bits.calls.BitsFlight.TheVariants as calls
use Rattle.model.specs.Families.Bits.Reading.{count_at}
use Rattle.history.specs.declared.view.View.{View}
use Rattle.history.specs.Stages.{Calling}
use Rattle.lock_free_sets.specs.Driven.{HasMade}

module _ {T : Type 0} where
  -- how `count` is read as a call of the model
  abbrev pub looks_at : ℕ → Calling T Looking (Unit {0}) ℕ
  looks_at place =
      record {
        start = Bits (Count place);
        -- a pass that has been a party makes the call as that party, at a place below the capacity
        by = λ was p. IfSome was (λ q. q ≡ p);
        stands = λ capacity c. place < capacity;
        flight = λ c m.
            flights.Bits
            (calls.CountOf (record { call = c; given = place; room = m }));
        answer = λ n m. Number n;
        -- no word that it loads ends it outside the history, and it writes nothing
        skips = λ c n. false;
        left = λ e. ⊥;
        wrote = λ capacity p from c m es. es ≡ [];
        wrote_all = λ capacity p from n m es. es ≡ [];
      }

-- The call `count` wrote nothing. Its answer is the count of the place after all events before
-- its end, modulo 2^64.
pub record CountDone (place number : ℕ) (old new : View ℕ) : Type 0 where
  pub made : HasMade (Bits (Count place)) (Number number) (λ by. []) old new
  pub by : ℕ
  pub before : List (Event ℕ)
  pub is : new.seen ≡ before ++ Finished by (Bits (Count place)) (Number number) ∷ []
  pub count : number ≡ count_at place before % 2 ^ 64
