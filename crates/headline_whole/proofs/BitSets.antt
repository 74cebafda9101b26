-- The calls of the two bit sets, run whole, are those of a set of places and of counts.
use Rattle.std.proofs.Common.{◌≡◌, ℕ, suc, ◌+◌, ◌/◌, ◌%◌, ◌^◌, ◌<◌, ◌≤◌, false, Some, None, List, [], ◌∷◌, length}
use Rattle.std.proofs.Common.{replicate, slice_index, refl, sym, ap, subst, ◌∙◌, arith, length-set}
use Rattle.std.proofs.lemmas.List.{length-replicate}
use Rattle.steps.specs.Bits.BitSet.{first_set, set_want, set_after, first_reset, reset_want, reset_after}
use Rattle.steps.specs.Bits.ResetAll.{all_bits, all_counts, reset_all_want, reset_all_after, reset_all_kept}
use Rattle.steps.specs.Bits.Words.{elements, element_of, stands}
use Rattle.steps.specs.Objects.Counts.{counted}
use Rattle.steps.specs.Objects.Places.{Places, emptied}
use Rattle.steps.specs.declared.bits.bit_set.ResetNext.{ResetNext}
use Rattle.steps.specs.declared.bits.reset_all.ResetAll.{ResetAll}
use Rattle.model.specs.declared.event.Answer.TheVariants as answers
use Rattle.model.specs.declared.event.Start.{Start}
use Rattle.model.specs.declared.event.Start.TheVariants as starts
use Rattle.model.specs.declared.families.Flight.{Flight}
use Rattle.model.specs.declared.families.Flight.TheVariants as flights
use Rattle.model.specs.declared.families.Registry.{Registry}
use Rattle.model.specs.declared.families.Registry.TheVariants as registries
use Rattle.model.specs.declared.families.bits.BitsStart.{BitsStart}
use Rattle.model.specs.declared.families.bits.BitsStart.TheVariants as calls
use Rattle.model.specs.declared.families.bits.calls.BitsFlight.{BitsFlight}
use Rattle.model.specs.declared.families.bits.calls.BitsFlight.TheVariants as under_way
use Rattle.model.specs.declared.turn.Kind.TheVariants as kinds
use Rattle.model.specs.declared.turn.Turn.TheVariants.{Begin}
use Rattle.model.specs.Coding.{Coding}
use Rattle.model.specs.Families.{first_of}
use Rattle.model.specs.Families.Bits.Calls.{add_one, look_set, look_count, reset_answer}
use Rattle.model.specs.Families.Bits.Opening.{kept_rows, bits_words}
use Rattle.model.specs.Families.Queues.Calls.{as_it_is, fresh}
use Rattle.model.specs.Refusals.{refusal_of}
use Rattle.model.specs.Rows.{first_row}
use Rattle.model.specs.Turns.{IsReached}
use Rattle.model.specs.World.{Trace, capacity_error}
use Rattle.model.proofs.Rows.{passes, may_begin, row_passed}
use Rattle.plain.specs.Bits.{flags_in, places_in, Represents}
use Rattle.plain_queues.proofs.Alone.{Runs}
use Rattle.plain.proofs.Places.Empties.{opened}
use Rattle.plain.proofs.Places.Flags.{flag_at, flags_length, same_flags}
use Rattle.plain.proofs.Places.Resets.{reset_runs}
use Rattle.plain.proofs.Places.Sets.{set_runs}
use Rattle.plain.proofs.Walks.{any_low}
use Rattle.headline_whole.specs.Objects.{whole_places, whole_counts}
use Rattle.headline_whole.proofs.Agree.{Agree}
use Rattle.headline_whole.proofs.Flights.{FlightRuns, runs_as, twice, same_flight, family_runs}
use Rattle.headline_whole.proofs.Law.{IsMadeSo, Reading, Answers, BeginsSo, Law}
use Rattle.headline_whole.proofs.Owners.{not_past}
use Rattle.headline_whole.proofs.Sweeps.{cleared, all_cleared, all_but_first, sweep_runs}

-- A bit set opens with a capacity below 2 ^ 32.
admitted_bits : (c : ℕ) → capacity_error kinds.Bits c ≡ None → c < 2 ^ 32
admitted_bits = grind arith

-- A counting bit set has a capacity below 2^32.
admitted_counts : (c : ℕ) → capacity_error kinds.Counts c ≡ None → c < 2 ^ 32
admitted_counts = grind arith

-- once all elements are 0 the words are those of an empty set, whose search begins where it began
record Emptied (capacity : ℕ) (words : List ℕ) : Type 0 where
  pub fits : Represents capacity (cleared words 1 (elements capacity))
  pub places : places_in capacity (cleared words 1 (elements capacity)) ≡ emptied (places_in capacity words)

-- in elements that are 0 no place is set
none_stands : (capacity start m : ℕ) → flags_in capacity (start ∷ replicate {A = ℕ} m 0) ≡ replicate capacity false
none_stands capacity start m =
    same_flags capacity (0 ∷ replicate {A = ℕ} m 0) (start ∷ replicate {A = ℕ} m 0)
    (λ p. let place : element_of p ≡ suc (p / 64) = omega arith in
    ap (slice_index (start ∷ replicate {A = ℕ} m 0)) place ∙ sym (ap (slice_index (0 ∷ replicate {A = ℕ} m 0)) place))
    ∙ ap (λ (s : Places). s.flags) (opened capacity (suc m) (0 ∷ replicate {A = ℕ} m 0) refl)

-- words that hold a set of places hold the emptied one once their elements are cleared
empties : (capacity : ℕ) (words : List ℕ) → Represents capacity words → Emptied capacity words
empties capacity [] fits = let long : 0 ≡ 1 + elements capacity = fits.long in absurd (omega arith)
empties capacity (start ∷ words) fits =
    let same_length : length words ≡ elements capacity =
    let long : suc (length words) ≡ 1 + elements capacity = fits.long in omega arith in
    let same : cleared (start ∷ words) 1 (elements capacity) ≡ start ∷ replicate (elements capacity) 0 =
    subst (λ m. cleared (start ∷ words) 1 m ≡ start ∷ replicate m 0) same_length (all_but_first start words) in
    let long = length-replicate {A = ℕ} (elements capacity) 0 in
    record {
      fits = subst (Represents capacity) (sym same)
          (record { long = omega arith; small = fits.small; start = fits.start });
      places = ap (places_in capacity) same
          ∙ (λ i. record {
            flags = (none_stands capacity start (elements capacity)
                ∙ sym (ap (λ k. replicate k false) (flags_length capacity (start ∷ words)))) i;
            start = start;
          });
    }

module _ {T : Type 0} where
  -- a bit set as an object: what its calls do to a set of places, and how the words represent one
  abbrev pub places_reading : ℕ → Reading T
  places_reading capacity =
      record {
        State = Places;
        spec = whole_places capacity;
        Holds = λ turns words. Represents capacity words;
        read = places_in capacity;
      }

  -- a counting bit set as an object: a list of counts, of which each word holds one
  abbrev pub counts_reading : ℕ → Reading T
  counts_reading capacity =
      record {
        State = List ℕ;
        spec = whole_counts capacity;
        Holds = λ turns words. length words ≡ capacity;
        read = λ words. words;
      }

  -- ---- a set of places

  module _ (code : Coding T) (capacity turns : ℕ) (words : List ℕ) (fits : Represents capacity words) where
    -- The call of a bit set, run alone from these words, answers and leaves what its object does.
    abbrev PlacesWhole : BitsStart → BitsFlight → Type 0
    PlacesWhole start flight = FlightRuns code (Answers (places_reading capacity) turns words (starts.Bits start)) (flights.Bits flight) words

    -- a set of a place, run alone, answers and leaves what the set of places does
    sets : (place : ℕ) → place < capacity → PlacesWhole (calls.Set place) (under_way.Set (record { call = first_set; given = place; room = tt }))
    sets place low =
        family_runs code
        (record {
          want = set_want;
          after = set_after;
          given = place;
          outer = flights.Bits;
          wrap = under_way.Set;
          answer = answers.Truth;
          wants = λ c room. refl;
          goes = λ c room old. refl;
        })
        (set_runs capacity place low words fits first_set refl)
        (λ e room last h. record { said = λ is. ap answers.Truth h.1; holds = h.0; object = h.2 })

    -- a look at a place, run alone, answers and leaves what the set of places does
    looks : (place : ℕ) → place < capacity → PlacesWhole (calls.IsSet place) (under_way.IsSet (record { call = look_set; given = place; room = tt }))
    looks place low =
        record {
          steps = 1;
          few = omega arith;
          end = answers.Truth (stands words place);
          last_room = tt;
          last_words = words;
          ends = (refl, refl, refl);
          holds = record { said = λ is. ap answers.Truth (sym (flag_at capacity words place low)); holds = fits; object = refl };
        }

    -- a reset of the next place, run alone, answers and leaves what the set of places does
    resets : PlacesWhole calls.ResetNext (under_way.ResetNext (record { call = first_reset capacity; given = tt; room = tt }))
    resets =
        family_runs code
        (record {
          want = λ (c : ResetNext) (given : Unit {0}). reset_want c;
          after = λ c given old. reset_after c old;
          given = tt;
          outer = flights.Bits;
          wrap = under_way.ResetNext;
          answer = reset_answer;
          wants = λ c room. refl;
          goes = λ c room old. refl;
        })
        (reset_runs capacity words fits (first_reset capacity) refl)
        (λ e room last h. record { said = λ is. ap reset_answer h.1; holds = h.0; object = h.2 })

    -- a reset of all places, run alone, answers and leaves what the set of places does
    empties_all : PlacesWhole calls.ResetAll (under_way.ResetAll (record { call = all_bits capacity; given = tt; room = fresh }))
    empties_all =
        let small = fits.small in
        runs_as code
        (record {
          want = λ (c : ResetAll) (given : Unit {0}). reset_all_want c;
          after = λ c given old. reset_all_after c old;
          kept = λ c room old. reset_all_kept room old;
          given = tt;
          Low = λ c. Unit {0};
          flight = λ c room. flights.Bits (under_way.ResetAll (record { call = c; given = tt; room = room }));
          answer = λ e room. answers.Done;
          wants = λ c room low. refl;
          goes = λ c room old low.
              twice flights.Bits under_way.ResetAll (λ (end : Unit {0}). answers.Done) as_it_is tt (reset_all_kept room old) (reset_all_after c old);
          stays = λ c old low. any_low (reset_all_after c old);
        })
        (sweep_runs 1 (elements capacity) (omega arith) fresh words)
        tt
        (λ e room last h.
        let so = empties capacity words fits in
        record { said = λ is. refl; holds = subst (Represents capacity) (sym h) so.fits; object = ap (places_in capacity) h ∙ so.places })

  -- ---- counts of places

  module _ (code : Coding T) (capacity turns : ℕ) (words : List ℕ) (long : length words ≡ capacity) where
    -- The call of a counting bit set, run alone from these words, answers and leaves what its object does.
    abbrev CountsWhole : BitsStart → BitsFlight → Type 0
    CountsWhole start flight = FlightRuns code (Answers (counts_reading capacity) turns words (starts.Bits start)) (flights.Bits flight) words

    -- a set that counts a place, run alone, answers and leaves what the counts do
    counts : (place : ℕ) → CountsWhole (calls.Set place) (under_way.Count (record { call = add_one; given = place; room = tt }))
    counts place =
        record {
          steps = 1;
          few = omega arith;
          end = answers.Number (slice_index words place);
          last_room = tt;
          last_words = counted words place;
          ends = (refl, refl, refl);
          holds = record { said = λ is. refl; holds = length-set words place ((slice_index words place + 1) % 2 ^ 64) ∙ long; object = refl };
        }

    -- a look at a count, run alone, answers and leaves what the counts do
    look_counts : (place : ℕ) → CountsWhole (calls.Count place) (under_way.CountOf (record { call = look_count; given = place; room = tt }))
    look_counts place =
        record {
          steps = 1;
          few = omega arith;
          end = answers.Number (slice_index words place);
          last_room = tt;
          last_words = words;
          ends = (refl, refl, refl);
          holds = record { said = λ is. refl; holds = long; object = refl };
        }

    -- a reset of all counts, run alone, answers and leaves what the counts do
    takes_all : capacity < 2 ^ 32 → CountsWhole calls.ResetAll (under_way.TakeAll (record { call = all_counts capacity; given = tt; room = fresh }))
    takes_all few =
        let same : cleared words 0 capacity ≡ replicate capacity 0 = subst (λ n. cleared words 0 n ≡ replicate n 0) long (all_cleared words) in
        let end : 0 + capacity ≡ capacity = omega arith in
        runs_as code
        (record {
          want = λ (c : ResetAll) (given : Unit {0}). reset_all_want c;
          after = λ c given old. reset_all_after c old;
          kept = λ c room old. reset_all_kept room old;
          given = tt;
          Low = λ c. Unit {0};
          flight = λ c room. flights.Bits (under_way.TakeAll (record { call = c; given = tt; room = room }));
          answer = λ e room. answers.Done;
          wants = λ c room low. refl;
          goes = λ c room old low.
              twice flights.Bits under_way.TakeAll (λ (end : Unit {0}). answers.Done) as_it_is tt (reset_all_kept room old) (reset_all_after c old);
          stays = λ c old low. any_low (reset_all_after c old);
        })
        (subst (λ e. Runs (λ (c : ResetAll) (given : Unit {0}). reset_all_want c) (λ c given old. reset_all_after c old)
        (λ c room old. reset_all_kept room old) tt (λ end room last. last ≡ cleared words 0 capacity) (record { word = 0; end = e }) fresh words) end
        (sweep_runs 0 capacity (omega arith) fresh words))
        tt
        (λ e room last h. record {
          said = λ is. refl;
          holds = ap length (h ∙ same) ∙ length-replicate {A = ℕ} capacity 0;
          object = h ∙ same;
        })

  -- ---- the laws

  -- A call of a bit set that is let begin is named as one of its family, and the machine keeps
  -- what that family keeps.
  has_registry : (capacity p : ℕ) (start : BitsStart) (f : BitsFlight) (kept : Registry T) → first_row (kept_rows capacity start kept p) ≡ None
      → Agree (starts.Bits start) (flights.Bits f) kept
  has_registry capacity p start f registries.Nothing rows_passed = tt
  has_registry capacity p start f kept rows_passed = absurd (cc)

  -- A look at a place that is let begin is at a place below the capacity.
  low_look : (capacity p place : ℕ) (kept : Registry T) → first_row (kept_rows capacity (calls.IsSet place) kept p) ≡ None → place < capacity
  low_look capacity p place registries.Nothing rows_passed = let row = row_passed _ _ _ rows_passed in not_past capacity place row.0
  low_look capacity p place kept rows_passed = absurd (cc)

  -- A set of a place that is let begin is of a place below the capacity.
  low_place : (capacity p place : ℕ) (kept : Registry T) → first_row (kept_rows capacity (calls.Set place) kept p) ≡ None → place < capacity
  low_place capacity p place registries.Nothing rows_passed = let row = row_passed _ _ _ rows_passed in not_past capacity place row.0
  low_place capacity p place kept rows_passed = absurd (cc)

  module _ (code : Coding T) (capacity : ℕ) where
    -- A call that its tests let begin begins as `BeginsSo` says, if, run alone, it answers what the object does.
    so : (R : Reading T) (t : Trace T) (p : ℕ) (s : BitsStart) {f : BitsFlight} {flight : Flight T} → flights.Bits f ≡ flight
        → first_row (kept_rows capacity s t.world.kept p) ≡ None
        → FlightRuns code (Answers R t.world.turns t.world.words (starts.Bits s)) (flights.Bits f) t.world.words → BeginsSo R code t p (starts.Bits s) flight
    so R t p s {f} is rows runs =
        subst (BeginsSo R code t p (starts.Bits s)) is (record { agrees = has_registry capacity p s f t.world.kept rows; runs = runs })

    -- each call that a bit set lets begin, run alone, answers and leaves what the set of places does
    places_begin : (t : Trace T) (p : ℕ) (start : Start T) (flight : Flight T) → IsReached t → IsMadeSo code kinds.Bits capacity t
        → refusal_of t.world (Begin p start) ≡ None → Represents capacity t.world.words
        → first_of kinds.Bits capacity start t.world.kept ≡ Some flight → BeginsSo (places_reading capacity) code t p start flight
    places_begin t p (starts.Bits start) flight reached made free fits named =
        go start named
        (subst (λ n. first_row (kept_rows n start t.world.kept p) ≡ None) made.capacity
        (may_begin t.world p (starts.Bits start) (passes t.world (Begin p (starts.Bits start)) free).on).rows)
      where
        -- The cases are which call of a bit set begins.
        go : (s : BitsStart) → first_of kinds.Bits capacity (starts.Bits s) t.world.kept ≡ Some flight
            → first_row (kept_rows capacity s t.world.kept p) ≡ None → BeginsSo (places_reading capacity) code t p (starts.Bits s) flight
        go (calls.Set place) named rows =
            so (places_reading capacity) t p (calls.Set place) (same_flight _ flight named) rows
            (sets code capacity t.world.turns t.world.words fits place (low_place capacity p place t.world.kept rows))
        go calls.ResetNext named rows =
            so (places_reading capacity) t p calls.ResetNext (same_flight _ flight named) rows
            (resets code capacity t.world.turns t.world.words fits)
        go calls.ResetAll named rows =
            so (places_reading capacity) t p calls.ResetAll (same_flight _ flight named) rows
            (empties_all code capacity t.world.turns t.world.words fits)
        go (calls.IsSet place) named rows =
            so (places_reading capacity) t p (calls.IsSet place) (same_flight _ flight named) rows
            (looks code capacity t.world.turns t.world.words fits place (low_look capacity p place t.world.kept rows))
        go (calls.Count place) named rows = absurd (cc)
    places_begin t p start flight reached made free fits named = absurd (cc)

    -- a bit set whose calls run whole is a set of places
    pub places_law : capacity_error kinds.Bits capacity ≡ None → Law (places_reading capacity) code kinds.Bits capacity
    places_law may =
        let one : 1 + elements capacity ≡ suc (elements capacity) = omega arith in
        record {
          later = λ m n words less h. h;
          opens = λ queue. (
            record {
              long = length-replicate {A = ℕ} (1 + elements capacity) 0;
              small = admitted_bits capacity may;
              start = subst (λ n. slice_index (replicate {A = ℕ} n 0) 0 ≤ capacity) (sym one) (omega arith);
            },
            opened capacity (1 + elements capacity) (bits_words capacity) refl,
          );
          begins = places_begin;
        }

    module _ (few : capacity < 2 ^ 32) where
      -- each call that a counting bit set lets begin, run alone, answers and leaves what the counts do
      counts_begin : (t : Trace T) (p : ℕ) (start : Start T) (flight : Flight T) → IsReached t → IsMadeSo code kinds.Counts capacity t
          → refusal_of t.world (Begin p start) ≡ None → length t.world.words ≡ capacity
          → first_of kinds.Counts capacity start t.world.kept ≡ Some flight → BeginsSo (counts_reading capacity) code t p start flight
      counts_begin t p (starts.Bits start) flight reached made free long named =
          go start named
          (subst (λ n. first_row (kept_rows n start t.world.kept p) ≡ None) made.capacity
          (may_begin t.world p (starts.Bits start) (passes t.world (Begin p (starts.Bits start)) free).on).rows)
        where
          -- The cases are which call of a counting bit set begins.
          go : (s : BitsStart) → first_of kinds.Counts capacity (starts.Bits s) t.world.kept ≡ Some flight
              → first_row (kept_rows capacity s t.world.kept p) ≡ None → BeginsSo (counts_reading capacity) code t p (starts.Bits s) flight
          go (calls.Set place) named rows =
              so (counts_reading capacity) t p (calls.Set place) (same_flight _ flight named) rows
              (counts code capacity t.world.turns t.world.words long place)
          go calls.ResetNext named rows = absurd (cc)
          go calls.ResetAll named rows =
              so (counts_reading capacity) t p calls.ResetAll (same_flight _ flight named) rows
              (takes_all code capacity t.world.turns t.world.words long few)
          go (calls.IsSet place) named rows = absurd (cc)
          go (calls.Count place) named rows =
              so (counts_reading capacity) t p (calls.Count place) (same_flight _ flight named) rows
              (look_counts code capacity t.world.turns t.world.words long place)
      counts_begin t p start flight reached made free long named = absurd (cc)

    -- a counting bit set whose calls run whole is a list of counts
    pub counts_law : capacity_error kinds.Counts capacity ≡ None → Law (counts_reading capacity) code kinds.Counts capacity
    counts_law may =
        record {
          later = λ m n words less h. h;
          opens = λ queue. (length-replicate {A = ℕ} capacity 0, refl);
          begins = counts_begin (admitted_counts capacity may);
        }
