-- Counting a place (`set` of a counting bit set) as a call of the model.
use Rattle.std.specs.Prelude.{◌≡◌, ℕ, ◌<◌, IfSome, [], ◌∷◌, false}
use Rattle.steps.specs.declared.bits.counting_bit_set.Set as counting
use Rattle.model.specs.declared.event.Answer.TheVariants.{Number}
use Rattle.model.specs.declared.event.Event.TheVariants.{Counted}
use Rattle.model.specs.declared.event.Start.TheVariants.{Bits}
use Rattle.model.specs.declared.families.Flight.TheVariants as flights
use Rattle.model.specs.declared.families.bits.BitsStart.TheVariants.{Set}
use Rattle.model.specs.declared.families.bits.calls.BitsFlight.TheVariants as calls
use Rattle.history.specs.Stages.{Calling}

module _ {T : Type 0} where
  -- how `set` is read as a call of the model
  abbrev pub counts_place : ℕ → Calling T counting.Set (Unit {0}) ℕ
  counts_place place =
      record {
        start = Bits (Set place);
        -- a pass that has been a party makes the call as that party, at a place below the capacity
        by = λ was p. IfSome was (λ q. q ≡ p);
        stands = λ capacity c. place < capacity;
        flight = λ c m.
            flights.Bits
            (calls.Count (record { call = c; given = place; room = m }));
        answer = λ n m. Number n;
        -- no word that it loads ends it outside the history
        skips = λ c n. false;
        left = λ e. ⊥;
        -- its one step counts the place
        wrote = λ capacity p from c m es. es ≡ [];
        wrote_all = λ capacity p from n m es. es ≡ Counted p place ∷ [];
      }
