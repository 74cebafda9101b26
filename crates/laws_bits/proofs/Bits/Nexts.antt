-- The steps of a reset of the next bit of a bit set: from the reset position on it tests one place after
-- another, clears the first bit that it finds set by an exchange of its element, and stores the position
-- behind that place.
use Rattle.laws_bits.proofs.Names.{◌≡◌, ◌≢◌, ℕ, ◌+◌, ◌-◌, ◌<◌, ◌≤◌, ◌==◌, nat_lt, Bool, true, false, ⊎_elim, Option}
use Rattle.laws_bits.proofs.Names.{Some, List, [], ◌∷◌, ◌++◌, length, get_or, set, refl, sym, ap, subst, ◌∙◌}
use Rattle.laws_bits.proofs.Names.{get_or-set_same, get_or-set_other, cases_lt, nat_tests, Ask, Load, Store, Exchange}
use Rattle.laws_bits.proofs.Names.{After, GoOn, Done, ResetNextStage, place_after, at_most, element_of, has_flag}
use Rattle.laws_bits.proofs.Names.{without_flag, stands, cleared_clear, cleared_leaves, stands_elsewhere}
use Rattle.laws_bits.proofs.Names.{elements_after, Answer, Event, Cleared, BitsStart, BitsFlight, Coding, after}
use Rattle.laws_bits.proofs.Names.{goes_back, CameTo, clears, standing, position_of, effects_of, HeldSometime, one_if}
use Rattle.laws_bits.proofs.Names.{words_after, held_now, held_later}
use Rattle.std.proofs.Common.{arith}
use Rattle.steps.specs.declared.bits.bit_set.ResetNextStage.TheVariants as resetting
use Rattle.steps.specs.Queues.Ring.{after_position}
use Rattle.model.specs.declared.event.Answer.TheVariants as answers
use Rattle.model.specs.declared.families.bits.BitsStart.TheVariants as starts
use Rattle.laws_bits.proofs.Bits.Invariant.{Holds, bit_set}
use Rattle.laws_bits.proofs.Bits.Knows.{NextStands, KnowsNext, Passed, Began, next_at, next_number, next_wrote}
use Rattle.laws_bits.proofs.Bits.Sets.{element_near}
use Rattle.model.proofs.Counts.{as_long}
use Rattle.laws_bits.proofs.Bits.Steps.{same_bits, goes_on, ends, pays_by, by_parts}
use Rattle.laws_bits.proofs.Family.{SetScene, StepShows, ShowsStep}
use Rattle.laws_bits.proofs.Words.{load_leaves, failed_leaves, done_writes}

-- ---- places one after another

-- the place at which the reset is after `passed` places is below the capacity
pub place_near : (c start passed : ℕ) → start ≤ c → passed < c → place_after c start passed < c
place_near = grind arith

-- each place below the capacity comes in the search
pub place_comes : (c start b : ℕ) → start ≤ c → b < c → (k : ℕ) × (k < c) × (place_after c start k ≡ b)
place_comes c start b low below = ⊎_elim behind ahead (cases_lt b start)
  where
    -- a place before the start comes once the search has gone round
    behind : b < start → (k : ℕ) × (k < c) × (place_after c start k ≡ b)
    behind less =
        let not_below : nat_lt (start + (b + c - start)) c ≡ false = grind (arith, nat_tests) in
        let is : start + (b + c - start) - c ≡ b = omega arith in
        (b + c - start, omega arith, rw not_below is)

    -- a place from the start on comes before the search has gone round
    ahead : start ≤ b → (k : ℕ) × (k < c) × (place_after c start k ≡ b)
    ahead more =
        let is_below : nat_lt (start + (b - start)) c ≡ true = grind (arith, nat_tests) in
        let is : start + (b - start) ≡ b = omega arith in
        (b - start, omega arith, rw is_below is)

-- a search starts at the capacity at most
start_near : (c position : ℕ) → at_most c position ≤ c
start_near = grind arith

-- the reset of the next bit in the turn of the scene; the machine's words are as its events say
module _ {T : Type 0} (code : Coding T) {c : ℕ} (scene : SetScene T) (holds : Holds c scene.state.words scene.events) where
  open scene use {state as s, events, party as p, changes, since, steps, backs}

  abbrev next : BitsStart
  next = starts.ResetNext

  -- what a step with the operation `ask` has to show, where the reset had written `before`, by whether it turns back, what
  -- becomes of the reset and which events it writes
  abbrev ShowsWith : List (Event T) → Option Ask → Bool → After BitsFlight (Answer T) → List (Event T) → Type 0
  ShowsWith before ask back after fx = StepShows bit_set code c scene before next ask back after fx

  -- what a step of the reset at this stage has to show
  abbrev StageShows : List (Event T) → ResetNextStage → Type 0
  StageShows before stage = ShowsStep bit_set code c scene before next (next_at c stage)

  -- the reset position was the start at a moment of the call, also when nothing is written
  began_more : (start : ℕ) → Began c p start events → Began c p start (events ++ [])
  began_more start had_begun = held_later p (λ part. at_most c (position_of part) ≡ start) events [] tt had_begun

  -- the places that were passed were clear at a moment each, also when nothing is written
  passed_more : (start passed : ℕ) → Passed c p start passed events → Passed c p start passed (events ++ [])
  passed_more start passed passed_so k below =
      held_later p (λ part. standing (place_after c start k) part ≡ 0) events [] tt (passed_so k below)

  -- ---- a call comes to its next place, by a step that leaves the words

  -- the step leaves the words, and the search began at `start`
  module _ (a : Ask) (back : Bool) (same : words_after s.words (Some a) ≡ s.words)
      (paid : backs + one_if back + since ≤ changes) (start : ℕ) (low : start ≤ c)
      (began : Began c p start events) where
    -- a reset that has passed `passed` places, all clear at a moment each, goes on to the next one
    comes_on : (passed : ℕ) → Passed c p start passed events → steps + 1 ≤ 1 + passed + (backs + one_if back)
        → passed < c → ShowsWith [] (Some a) back (GoOn (next_at c (resetting.LoadsElement start passed))) []
    comes_on = grind (arith, goes_on, next_at, start, same_bits, same, low, passed_more, began_more, began)

    -- a reset that has found each place clear at a moment of its own ends with none
    comes_none : Passed c p start c events → steps + 1 ≤ 3 + c + (backs + one_if back) → ShowsWith [] (Some a) back (Done answers.ResetNone) []
    comes_none held few =
        ends (Some a) back answers.ResetNone (same_bits code c scene (Some a) same) (ap (λ ws. get_or ws 0 0) same)
        all refl few paid
      where
        -- each place below the capacity was clear at a moment of the call
        all : (b : ℕ) → b < c → HeldSometime p (λ part. standing b part ≡ 0) events
        all b below =
            let k = place_comes c start b low below in
            subst (λ n. HeldSometime p (λ part. standing n part ≡ 0) events) k.2 (held k.0 k.1)

    -- a reset that finds a place set goes on to the exchange of its element
    exchanges : (passed found : ℕ) → Passed c p start passed events → steps + 1 ≤ 2 + passed + (backs + one_if back)
        → passed < c → get_or s.words (element_of (place_after c start passed)) 0 ≡ found
        → has_flag found (place_after c start passed) ≡ true
        → ShowsWith [] (Some a) back (GoOn (next_at c (resetting.ExchangesElement start passed found))) []
    exchanges passed found held few below is flag_set =
        goes_on (Some a) back (next_at c (resetting.ExchangesElement start passed found))
        (same_bits code c scene (Some a) same) (ap (λ ws. get_or ws 0 0) same)
        few refl (refl, (low, below, flag_set)) (
          (omega arith, λ ne. absurd (ne (ap (λ ws. get_or ws (element_of (place_after c start passed)) 0) same ∙ is))),
          passed_more start passed held,
          began_more start began,
        )

  -- ---- the reset position

  -- the step in which a reset of the next bit loads the reset position: it goes on to the first place, or
  -- ends with none if there is no place
  loads_position : backs + since ≤ changes → steps ≤ backs → StageShows [] resetting.LoadsPosition
  loads_position paid few = go (nat_lt 0 c) refl
    where
      start : ℕ
      start = at_most c (get_or s.words 0 0)

      low : start ≤ c
      low = start_near c (get_or s.words 0 0)

      began : Began c p start events
      began = grind (arith, held_now, at_most, start)

      -- the cases are whether there is a place
      go : (t : Bool) → nat_lt 0 c ≡ t → StageShows [] resetting.LoadsPosition
      go = grind (arith, by_parts, next_at, start, comes_on, load_leaves, low, began, comes_none, nat_tests)

  -- ---- an element

  -- the reset has passed `passed` places of a search from `start`, and is at the next one
  module _ {start : ℕ} (passed : ℕ) (low : start ≤ c) (below : passed < c) (held : Passed c p start passed events) (began : Began c p start events) where
    abbrev place : ℕ
    place = place_after c start passed

    abbrev element : ℕ
    element = element_of place

    abbrev word : ℕ
    word = get_or s.words element 0

    -- the element of the place is one of the words
    near : element < length s.words
    near = element_near c place s.words holds.sized (place_near c start passed low below)

    -- a place that is clear now was clear at a moment of the call, as those before it
    one_passed : has_flag word place ≡ false → Passed c p start (passed + 1) events
    one_passed t k less = ⊎_elim (λ l. held k l) here (cases_lt k passed)
      where
        -- the place that was passed last was clear at this moment
        here : passed ≤ k → HeldSometime p (λ part. standing (place_after c start k) part ≡ 0) events
        here more =
            let same : passed ≡ k = omega arith in
            let zero : one_if (stands s.words place) ≡ 0 = ap one_if t in
            subst (λ n. HeldSometime p (λ part. standing (place_after c start n) part ≡ 0) events) same
            (held_now p (λ part. standing place part ≡ 0) events (omega (arith, holds.conserved place)))

    -- the step leaves the words, and tests the element that it has read
    module _ (back : Bool) (a : Ask) (same : words_after s.words (Some a) ≡ s.words)
        (paid : backs + one_if back + since ≤ changes) (few : steps + 1 ≤ 2 + passed + (backs + one_if back)) where
      -- where the place is set the reset goes on to the exchange of the element
      stood : has_flag word place ≡ true → ShowsWith [] (Some a) back (GoOn (next_at c (resetting.ExchangesElement start passed word))) []
      stood flag_set = exchanges a back same paid start low began passed word held few below refl flag_set

      -- where the place is clear and a further one follows, the reset goes on to that one
      goes_further : has_flag word place ≡ false → passed + 1 < c
          → ShowsWith [] (Some a) back (GoOn (next_at c (resetting.LoadsElement start (passed + 1)))) []
      goes_further flag_clear more = comes_on a back same paid start low began (passed + 1) (one_passed flag_clear) (omega arith) more

      -- where the last place is clear the reset ends with none
      finds_none : has_flag word place ≡ false → passed + 1 ≡ c → ShowsWith [] (Some a) back (Done answers.ResetNone) []
      finds_none flag_clear last =
          comes_none a back same paid start low began
          (subst (λ n. Passed c p start n events) last (one_passed flag_clear)) (omega arith)

    abbrev loads_it : Ask
    loads_it = record { word = element; op = Load }

    -- the step in which a reset of the next bit loads an element: it goes on to the exchange if the place is
    -- set, and else to the next place or to its end
    loads : backs + since ≤ changes → steps ≤ 1 + passed + backs → StageShows [] (resetting.LoadsElement start passed)
    loads paid few = go (has_flag word place) refl (nat_lt (passed + 1) c) refl
      where
        stage : ResetNextStage
        stage = resetting.LoadsElement start passed

        -- the step keeps the invariant if `ShowsWith` holds of what becomes of the call: a load neither turns the call back
        -- nor writes an event
        parts : (then : After BitsFlight (Answer T)) → after (next_at c stage) word ≡ then → ShowsWith [] (Some loads_it) false then [] → StageShows [] stage
        parts = grind (arith, by_parts, next_at, stage, false)

        same : words_after s.words (Some loads_it) ≡ s.words
        same = load_leaves s.words element

        -- the cases are whether the place is set and whether a further place follows
        go : (t : Bool) → has_flag word place ≡ t → (u : Bool) → nat_lt (passed + 1) c ≡ u → StageShows [] stage
        go true flag_test u next_test =
            parts (GoOn (next_at c (resetting.ExchangesElement start passed word))) (rw flag_test refl)
            (stood false loads_it same (omega arith) (omega arith) flag_test)
        go false flag_test true next_test =
            parts (GoOn (next_at c (resetting.LoadsElement start (passed + 1)))) (rw (flag_test, next_test) refl)
            (goes_further false loads_it same (omega arith) (omega arith) flag_test (grind (arith, nat_tests)))
        go false flag_test false next_test =
            let last : c ≤ passed + 1 = grind (arith, nat_tests) in
            parts (Done answers.ResetNone) (rw (flag_test, next_test) refl) (finds_none false loads_it same (omega arith) (omega arith) flag_test (omega arith))

    abbrev exchanging : ℕ → Ask
    exchanging found = record { word = element; op = Exchange found (without_flag found place) }

    -- an exchange that finds the element unchanged clears the bit, and the reset goes on
    -- to store the position
    clears_it : (found : ℕ) → has_flag found place ≡ true → (word == found) ≡ true → backs + since ≤ changes
        → steps ≤ 2 + passed + backs
        → ShowsWith [] (Some (exchanging found)) false (GoOn (next_at c (resetting.StoresPosition place))) (Cleared p place ∷ [])
    clears_it found was word_is_found paid few =
        record {
          preserves = record {
            sized = as_long s.words (Some (exchanging found));
            moved = λ b. moved b (place == b) refl;
            within = λ b past. refl;
            position = ap (λ ws. get_or ws 0 0) new ∙ get_or-set_other s.words element 0 (without_flag word place) 0 (λ e. elements_after place (sym e));
            pays = pays_by s.words (Some (exchanging found)) changes;
            right = (tt, tt);
          };
          own = (refl, tt);
          stands = (refl, tt);
          here = record { span = refl; steps = omega arith; at = (refl, place_near c start passed low below) };
          knows = (omega arith, came);
        }
      where
        -- the place that the exchange clears is the one to which the reset has come
        came : CameTo p c place (events ++ Cleared p place ∷ [])
        came =
            record {
              start = start;
              passed = passed;
              within = below;
              is = refl;
              begun = held_later p (λ part. at_most c (position_of part) ≡ start) events (Cleared p place ∷ []) tt began;
              clear = λ k less. held_later p (λ part. standing (place_after c start k) part ≡ 0) events (Cleared p place ∷ []) tt (held k less);
            }

        same : found ≡ word
        same = grind (arith, nat_tests)

        then : List ℕ
        then = words_after s.words (Some (exchanging found))

        new : then ≡ set s.words element (without_flag word place)
        new = grind (arith, done_writes, set, same)

        -- by the exchange the bit of this place is cleared, and no other bit changes
        moved : (b : ℕ) (u : Bool) → (place == b) ≡ u → 0 + one_if (stands s.words b) ≡ clears {T = T} b (Cleared p place ∷ []) + one_if (stands then b)
        moved b true place_test =
            let here : place ≡ b = grind (arith, nat_tests) in
            let before : stands s.words b ≡ true = ap (λ n. stands s.words n) (sym here) ∙ (ap (λ n. has_flag n place) (sym same) ∙ was) in
            let after : stands then b ≡ false =
            ap (λ ws. stands ws b) new
            ∙ (ap (λ n. stands (set s.words element (without_flag word place)) n) (sym here) ∙ cleared_clear s.words place near) in
            rw (place_test, before, after) refl
        moved b false place_test =
            let other : place ≢ b = grind (arith, nat_tests) in
            let after : stands then b ≡ stands s.words b = ap (λ ws. stands ws b) new ∙ cleared_leaves s.words place b near other in
            rw (place_test, after) refl

    -- the step in which a reset of the next bit exchanges an element: it clears the bit if the element was
    -- unchanged, and else tests the place again
    exchanges_it : (found : ℕ) → has_flag found place ≡ true → backs + since ≤ changes
        → (word ≢ found → backs + since + 1 ≤ changes) → steps ≤ 2 + passed + backs
        → StageShows [] (resetting.ExchangesElement start passed found)
    exchanges_it found was paid more few = go (word == found) refl (has_flag word place) refl (nat_lt (passed + 1) c) refl
      where
        stage : ResetNextStage
        stage = resetting.ExchangesElement start passed found

        -- the step keeps the invariant if `ShowsWith` holds of what is told of it: whether it turns back, what
        -- becomes of the call, and its events
        parts : (back : Bool) (then : After BitsFlight (Answer T)) (fx : List (Event T))
            → goes_back (next_at c stage) word ≡ back → after (next_at c stage) word ≡ then
            → effects_of p (next_at c stage) word ≡ fx → ShowsWith [] (Some (exchanging found)) back then fx
            → StageShows [] stage
        parts = grind (arith, by_parts, next_at, stage)

        -- an exchange that finds another element leaves the words
        failed : (word == found) ≡ false → words_after s.words (Some (exchanging found)) ≡ s.words
        failed word_is_not_found = failed_leaves s.words element found (without_flag found place) word_is_not_found

        -- the cases are whether the element is still what was read, whether the place is set, and whether a
        -- further place follows
        go : (t : Bool) → (word == found) ≡ t → (u : Bool) → has_flag word place ≡ u → (v : Bool) → nat_lt (passed + 1) c ≡ v → StageShows [] stage
        go true element_test u flag_test v next_test =
            parts false (GoOn (next_at c (resetting.StoresPosition place))) (Cleared p place ∷ [])
            (rw element_test refl) (rw element_test refl) (rw element_test refl) (clears_it found was element_test paid few)
        go false element_test true flag_test v next_test =
            let differs : word ≢ found = grind (arith, nat_tests) in
            let again = more differs in
            parts true (GoOn (next_at c (resetting.ExchangesElement start passed word))) [] (rw element_test refl)
            (rw (element_test, flag_test) refl) (rw element_test refl)
            (stood true (exchanging found) (failed element_test) (omega arith) (omega arith) flag_test)
        go false element_test false flag_test true next_test =
            let differs : word ≢ found = grind (arith, nat_tests) in
            let again = more differs in
            parts true (GoOn (next_at c (resetting.LoadsElement start (passed + 1)))) [] (rw element_test refl)
            (rw (element_test, flag_test, next_test) refl) (rw element_test refl)
            (goes_further true (exchanging found) (failed element_test) (omega arith) (omega arith) flag_test (grind (arith, nat_tests)))
        go false element_test false flag_test false next_test =
            let differs : word ≢ found = grind (arith, nat_tests) in
            let again = more differs in
            let last : c ≤ passed + 1 = grind (arith, nat_tests) in
            parts true (Done answers.ResetNone) [] (rw element_test refl) (rw (element_test, flag_test, next_test) refl) (rw element_test refl)
            (finds_none true (exchanging found) (failed element_test) (omega arith) (omega arith) flag_test (omega arith))

  -- ---- the position after the place

  -- the step in which a reset of the next bit stores the position behind the place ends the
  -- reset with that place
  stores : {place : ℕ} → backs + since ≤ changes → CameTo p c place events → steps ≤ 2 + c + backs
      → StageShows (Cleared p place ∷ []) (resetting.StoresPosition place)
  stores {place} paid came few =
      ends (Some (record { word = 0; op = Store (after_position place) })) false (answers.Reset place)
      (λ b. stands_elsewhere s.words 0 (after_position place) b (λ e. elements_after b (sym e))) stored came (refl, one) (omega arith) (omega arith)
    where
      -- the store writes the position behind the place
      stored : get_or (set s.words 0 (after_position place)) 0 0 ≡ after_position place
      stored = grind (arith, get_or-set_same)

      one : clears {T = T} place (Cleared p place ∷ []) ≡ 1
      one = let is_same : (place == place) ≡ true = grind (arith, nat_tests) in rw is_same refl

  -- any step of a reset of the next bit, at whatever stage, keeps the invariant
  pub next_step : (stage : ResetNextStage) → NextStands c stage
      → KnowsNext c p events s.words since changes backs stage → steps ≤ next_number c stage backs
      → StageShows (next_wrote p stage) stage
  next_step resetting.LoadsPosition stands knows few = loads_position knows few
  next_step (resetting.LoadsElement start passed) stands knows few = loads passed stands.0 stands.1 knows.1 knows.2 knows.0 few
  next_step (resetting.ExchangesElement start passed found) stands knows few =
      exchanges_it passed stands.0 stands.1 knows.1 knows.2 found stands.2 knows.0.0 knows.0.1 few
  next_step (resetting.StoresPosition place) stands knows few = stores knows.0 knows.1 few
