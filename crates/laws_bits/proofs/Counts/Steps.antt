-- The one step of a `set` of a counting bit set, which adds 1 to its count, and that of a look,
-- which loads the count.
use Rattle.laws_bits.proofs.Names.{◌≡◌, ◌≢◌, ℕ, ◌+◌, ◌*◌, ◌/◌, ◌%◌, ◌^◌, ◌<◌, ◌≤◌, ◌==◌, Bool, true, false, Some}
use Rattle.laws_bits.proofs.Names.{List, [], ◌∷◌, length, get_or, set, refl, sym, length-set, get_or-set_same}
use Rattle.laws_bits.proofs.Names.{get_or-set_other, nat_tests, Add, Done, Counted, Finished, Bits, Coding}
use Rattle.laws_bits.proofs.Names.{counts, count_at, subst, Event, Load}
use Rattle.std.proofs.Common.{arith}
use Rattle.model.specs.declared.event.Answer.TheVariants as answers
use Rattle.model.specs.declared.families.bits.BitsStart.TheVariants as starts
use Rattle.model.specs.declared.families.bits.BitsStart.TheVariants.{Set}
use Rattle.laws_bits.proofs.Counts.Invariant.{Holds, Preserves, rest_preserves, counting_set}
use Rattle.laws_bits.proofs.Family.{SetScene, StepShows}
use Rattle.laws_bits.proofs.Words.{load_leaves}

-- `scene` is a turn of party `p` with the machine before it
module _ {T : Type 0} (code : Coding T) (c : ℕ) (scene : SetScene T) where
  open scene use {state as s, events, turns, party as p, steps, backs}

  abbrev ws : List ℕ
  ws = s.words

  module _ (holds : Holds c ws events turns) where
    -- ---- a set

    -- the step of a set counts its place, and ends with the number that was there before
    pub set_shows : {place : ℕ} → place < c → steps ≤ 0 → backs ≡ 0
        → StepShows counting_set code c scene [] (Set place)
        (Some (record { word = place; op = Add 1 })) false (Done (answers.Number (get_or ws place 0)))
        (Counted p place ∷ [])
    set_shows {place} below few_steps no_turn_back =
        let low = holds.low place in
        let sized = holds.sized in
        let within : place < length ws = omega arith in
        record {
          preserves = record {
            sized = length-set ws place ((get_or ws place 0 + 1) % 2 ^ 64);
            moved = moved within;
            within = past;
            low = not_far within;
            few = at_most_one;
            right = (tt, (record { before = events; is = refl; count = now }, tt));
          };
          own = (refl, (refl, tt));
          stands = ((refl, refl), ((refl, (refl, one)), tt));
          here = record { answer = answers.Number (get_or ws place 0); wrote = Counted p place ∷ []; span = refl; steps = omega arith };
          knows = omega arith;
        }
      where
        one : counts {T = T} place (Counted p place ∷ []) ≡ 1
        one = let is_same : (place == place) ≡ true = grind (arith, nat_tests) in rw is_same refl

        -- the word of the place is what its events count, modulo 2^64
        now : get_or ws place 0 ≡ count_at place events % 2 ^ 64
        now = let low = holds.low place in omega (arith, (holds.conserved place).1)

        -- the events of the step count no place more than once
        at_most_one : (no_turn_back : ℕ)
            → counts {T = T} no_turn_back (Counted p place ∷ Finished p (Bits (Set place)) (answers.Number (get_or ws place 0)) ∷ []) ≤ 1
        at_most_one no_turn_back = go (place == no_turn_back) refl
          where
            -- the cases are whether it is the place of the set
            go : (t : Bool) → (place == no_turn_back) ≡ t
                → counts {T = T} no_turn_back (Counted p place ∷ Finished p (Bits (Set place)) (answers.Number (get_or ws place 0)) ∷ [])
                ≤ 1
            go true place_test = rw place_test (omega arith)
            go false place_test = rw place_test (omega arith)

        -- a number below 2^64 wraps at most once when 1 is added
        wraps : (n : ℕ) → n < 2 ^ 64 → (k : ℕ) × (1 + n ≡ (n + 1) % 2 ^ 64 + 2 ^ 64 * k)
        wraps n below = ((n + 1) / 2 ^ 64, omega arith)

        -- no place past the capacity is counted
        past : (no_turn_back : ℕ) → c ≤ no_turn_back
            → counts {T = T} no_turn_back (Counted p place ∷ Finished p (Bits (Set place)) (answers.Number (get_or ws place 0)) ∷ []) ≡ 0
        past no_turn_back h = let is_other : (place == no_turn_back) ≡ false = grind (arith, nat_tests) in rw is_other refl

        -- each count moves as the events say, but for a multiple of 2^64
        moved : place < length ws → (no_turn_back : ℕ)
            → (wraps : ℕ)
            × (counts {T = T} no_turn_back (Counted p place ∷ Finished p (Bits (Set place)) (answers.Number (get_or ws place 0)) ∷ [])
            + get_or ws no_turn_back 0
            ≡ 0 + get_or (set ws place ((get_or ws place 0 + 1) % 2 ^ 64)) no_turn_back 0 + 2 ^ 64 * wraps)
        moved within no_turn_back = go (place == no_turn_back) refl
          where
            -- the cases are whether it is the place of the set
            go : (t : Bool) → (place == no_turn_back) ≡ t
                → (wraps : ℕ)
                × (counts {T = T} no_turn_back (Counted p place ∷ Finished p (Bits (Set place)) (answers.Number (get_or ws place 0)) ∷ [])
                + get_or ws no_turn_back 0
                ≡ 0 + get_or (set ws place ((get_or ws place 0 + 1) % 2 ^ 64)) no_turn_back 0 + 2 ^ 64 * wraps)
            go true place_test =
                let same : place ≡ no_turn_back = grind (arith, nat_tests) in
                let here = get_or-set_same ws place ((get_or ws place 0 + 1) % 2 ^ 64) 0 within in
                let k = wraps (get_or ws place 0) (holds.low place) in
                (k.0, rw place_test (rw (sym same) (omega (arith, k.1))))
            go false place_test =
                let other : no_turn_back ≢ place = grind (arith, nat_tests) in
                let there = get_or-set_other ws place no_turn_back ((get_or ws place 0 + 1) % 2 ^ 64) 0 other in
                (0, rw place_test (omega arith))

        -- each number fits its word after the step
        not_far : place < length ws → (no_turn_back : ℕ) → get_or (set ws place ((get_or ws place 0 + 1) % 2 ^ 64)) no_turn_back 0 < 2 ^ 64
        not_far within no_turn_back = go (no_turn_back == place) refl
          where
            -- the cases are whether it is the place of the set
            go : (t : Bool) → (no_turn_back == place) ≡ t → get_or (set ws place ((get_or ws place 0 + 1) % 2 ^ 64)) no_turn_back 0 < 2 ^ 64
            go true place_test =
                let same : no_turn_back ≡ place = grind (arith, nat_tests) in
                let here = get_or-set_same ws place ((get_or ws place 0 + 1) % 2 ^ 64) 0 within in
                rw same (omega arith)
            go false place_test =
                let other : no_turn_back ≢ place = grind (arith, nat_tests) in
                let there = get_or-set_other ws place no_turn_back ((get_or ws place 0 + 1) % 2 ^ 64) 0 other in
                let low = holds.low no_turn_back in
                omega arith

    -- ---- a look

    -- the end of a look that answers this number
    abbrev look_end : ℕ → List (Event T)
    look_end place = Finished p (Bits (starts.Count place)) (answers.Number (get_or ws place 0)) ∷ []

    -- the step of a look ends it with the number of its place
    pub look_shows : (place : ℕ) → place < c → steps ≤ 0 → backs ≡ 0
        → StepShows counting_set code c scene [] (starts.Count place)
        (Some (record { word = place; op = Load })) false (Done (answers.Number (get_or ws place 0))) []
    look_shows place below few_steps backs_are_zero =
        record {
          preserves = subst (λ (words : List ℕ). Preserves c ws events turns words (look_end place)) (sym (load_leaves ws place))
              (rest_preserves holds (λ backs_are_zero. refl) (λ backs_are_zero. refl) ((below, now), tt));
          own = (refl, tt);
          stands = ((refl, refl), tt);
          here = record { answer = answers.Number (get_or ws place 0); wrote = []; span = refl; steps = omega arith };
          knows = omega arith;
        }
      where
        -- the word of the place is what its events count, modulo 2^64
        now : get_or ws place 0 ≡ count_at place events % 2 ^ 64
        now = let low = holds.low place in omega (arith, (holds.conserved place).1)
