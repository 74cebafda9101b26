-- The steps of a reset of all bits of a bit set: it swaps one element after another with 0, and so clears the
-- bits that stand there.
use Rattle.laws_bits.proofs.Names.{◌≡◌, ◌≢◌, ℕ, ◌+◌, ◌-◌, ◌<◌, ◌≤◌, nat_lt, Bool, true, false, cond, ⊎_elim, Option}
use Rattle.laws_bits.proofs.Names.{Some, None, List, [], ◌∷◌, ◌++◌, fold, length, get_or, set, refl, sym, ap, subst}
use Rattle.laws_bits.proofs.Names.{◌∙◌, append-nil, length-set, get_or-set_other, cases_eq, cases_lt, nat_tests}
use Rattle.laws_bits.proofs.Names.{fold-append, Ask, Swap, After, GoOn, Done, OneWord, first_place, places_in}
use Rattle.laws_bits.proofs.Names.{element_of, elements, has_flag, stands, stands_elsewhere, swapped_clear, Answer}
use Rattle.laws_bits.proofs.Names.{Event, Finished, Bits, BitsFlight, Coding, BitsAnswerRight, HasCleared}
use Rattle.laws_bits.proofs.Names.{bits_promise, sets, clears, position_after, SinceBegin, Stands, Open, own_after}
use Rattle.laws_bits.proofs.Names.{span_of, one_if, change_of, since_more, since_so, AllFollow, span_of-own}
use Rattle.std.proofs.Common.{arith}
use Rattle.steps.proofs.Flags.Places.{place_named, place_not_named}
use Rattle.model.specs.declared.event.Answer.TheVariants as answers
use Rattle.model.specs.declared.families.bits.BitsStart.TheVariants.{ResetAll}
use Rattle.model.specs.declared.families.bits.calls.BitsFlight.TheVariants as calls
use Rattle.laws_bits.proofs.Bits.Core.{ClearedBelow, cleared_still, cleared_by, sets_more, clears_more}
use Rattle.laws_bits.proofs.Bits.Invariant.{Holds, bit_set}
use Rattle.laws_bits.proofs.Bits.Lists.{own_more, right_more, follow_more, places_rise, all_cleared, all_own}
use Rattle.laws_bits.proofs.Bits.Lists.{begin_none, all_right, sets_none, position_same, clears_named, all_stand}
use Rattle.laws_bits.proofs.Bits.Lists.{all_written, no_places}
use Rattle.laws_bits.proofs.Bits.Steps.{no_change, pays_by}
use Rattle.laws_bits.proofs.Family.{SetScene, Shows, party_then, StepShows, ShowsStep}
use Rattle.laws_bits.proofs.Spans.{wrote_in}

-- the reset at the element `word`, which ends at `end`
abbrev pub all_at : OneWord → ℕ → ℕ → BitsFlight
all_at room word end =
    calls.ResetAll (record { call = record { word = word; end = end }; given = tt; room = room })

-- `one_if t` is 1 where `t` is true, and 0 else
one_is : (t : Bool) → one_if t ≡ cond t 1 0
one_is = grind arith

-- the reset in the turn of the scene has written `wrote`, and is at the element `word`: each bit
-- of an earlier element that stood when it began has been cleared since, and it has cleared no
-- bit from this element on
module _ {T : Type 0} (code : Coding T) {c : ℕ} (scene : SetScene T) (holds : Holds c scene.state.words scene.events) (wrote : List (Event T))
    (is : span_of scene.party scene.events ≡ Open (Bits ResetAll) wrote) (word : ℕ) (some : 1 ≤ word)
    (none : (b : ℕ) → word ≤ element_of b → clears b wrote ≡ 0) (cleared : SinceBegin scene.party (ClearedBelow word) scene.events)
    (still : scene.backs ≡ 0) (few : scene.steps ≤ word - 1) where
  open scene use {state as s, events, party as p, changes, since, steps}

  -- the element that is found, its places that are set, and the events by which they are cleared
  abbrev found : ℕ
  found = get_or s.words word 0

  abbrev places : List ℕ
  places = places_in word found

  abbrev fx : List (Event T)
  fx = all_cleared p places

  -- the operation of the step, and the words after it
  abbrev swaps : Option Ask
  swaps = Some (record { word = word; op = Swap 0 })

  abbrev then : List ℕ
  then = set s.words word 0

  -- what a step has to show, by what becomes of the reset and which events it writes
  abbrev ShowsWith : Option Ask → After BitsFlight (Answer T) → List (Event T) → Type 0
  ShowsWith ask after es = StepShows bit_set code c scene wrote ResetAll ask false after es

  -- ---- the bits

  -- each bit of the element that stands is cleared once by the events
  clears_here : (b : ℕ) → element_of b ≡ word → clears b fx ≡ one_if (stands s.words b)
  clears_here b in_element =
      clears_named T p b places
      ∙ (place_named word found b in_element
      ∙ (sym (one_is (has_flag found b)) ∙ ap (λ w. one_if (has_flag (get_or s.words w 0) b)) (sym in_element)))

  -- a bit of another element is not cleared by the events
  clears_there : (b : ℕ) → element_of b ≢ word → clears b fx ≡ 0
  clears_there b other = clears_named T p b places ∙ place_not_named word found some b other

  module _ (near : word < length s.words) where
    -- after the swap no bit of the element stands
    clear_here : (b : ℕ) → element_of b ≡ word → stands then b ≡ false
    clear_here b in_element = swapped_clear s.words word b (sym in_element) near

    -- by the swap each bit of the element that stands is cleared, and no other bit changes
    moved_by : (b : ℕ) → 0 + one_if (stands s.words b) ≡ clears b fx + one_if (stands then b)
    moved_by b = ⊎_elim here there (cases_eq (element_of b) word)
      where
        -- a bit of the element is clear after the swap, and was cleared by the events if it stood
        here : element_of b ≡ word → 0 + one_if (stands s.words b) ≡ clears b fx + one_if (stands then b)
        here in_element =
            let zero : one_if (stands then b) ≡ 0 = ap one_if (clear_here b in_element) in
            let all = clears_here b in_element in
            omega arith

        -- a bit of another element is as it was, and the events do not clear it
        there : element_of b ≢ word → 0 + one_if (stands s.words b) ≡ clears b fx + one_if (stands then b)
        there other =
            let same : one_if (stands then b) ≡ one_if (stands s.words b) = ap one_if (stands_elsewhere s.words word 0 b (λ e. other (sym e))) in
            let none = clears_there b other in
            omega arith

    -- with the end of the call or without it, what the events set and clear of each bit is
    -- what the swap changes
    moved : (ends : List (Event T)) → ((b : ℕ) → sets b ends ≡ 0) → ((b : ℕ) → clears b ends ≡ 0) → (b : ℕ)
        → sets b (fx ++ ends) + one_if (stands s.words b) ≡ clears b (fx ++ ends) + one_if (stands then b)
    moved ends no_sets no_clears b =
        let s_more = sets_more b fx ends in
        let c_more = clears_more b fx ends in
        let s_none = sets_none T p b places in
        let s_ends = no_sets b in
        let c_ends = no_clears b in
        omega (arith, moved_by b)

    -- ---- what has been cleared since the call began

    -- each bit of the element was set as often as it was cleared, once the swap is written
    even : (b : ℕ) → element_of b ≡ word → sets b (events ++ fx) ≡ clears b (events ++ fx)
    even b in_element =
        let was = holds.conserved b in
        let all = clears_here b in_element in
        let s_more = sets_more b events fx in
        let c_more = clears_more b events fx in
        let s_none = sets_none T p b places in
        omega arith

    -- after the swap each bit of an element up to this one that stood when the reset began
    -- has been cleared since
    cleared_next : ClearedBelow (word + 1) cleared.before (cleared.since ++ fx)
    cleared_next b below stood = ⊎_elim
        (λ less. cleared_still word cleared.before cleared.since fx cleared.holds b less stood)
        (λ more. cleared_by b p cleared fx (even b (omega arith)) stood)
        (cases_lt (element_of b) word)

    -- the reset may go on to the next element: what stood before it was cleared since
    cleared_more : SinceBegin p (ClearedBelow (word + 1)) (events ++ fx)
    cleared_more = since_more p (ClearedBelow word) (ClearedBelow (word + 1)) events fx (begin_none T p places) cleared cleared_next

  -- at the end of the words each place that was set when the reset began has been cleared since
  all_behind : {events' : List (Event T)} (end : ℕ) → 1 + elements c ≤ end → SinceBegin p (ClearedBelow end) events' → SinceBegin p (HasCleared c) events'
  all_behind end last since_begin = since_so p since_begin (λ b below stood. since_begin.holds b (omega arith) stood)

  -- ---- the span

  -- the events of the swap may stand in the span of the reset
  stand : AllFollow (Stands bits_promise c) (Open (Bits ResetAll) wrote) fx
  stand = all_stand T p c (first_place word) wrote places (places_rise word found) (λ b above. none b (omega arith))

  -- the events of the swap make the span longer, and do not end it
  written : fold own_after (Open (Bits ResetAll) wrote) fx ≡ Open (Bits ResetAll) (wrote ++ fx)
  written = all_written T p wrote places

  -- the span of the party after the swap
  span_then : span_of p (events ++ fx) ≡ Open (Bits ResetAll) (wrote ++ fx)
  span_then = span_of-own p events fx (all_own T p places) ∙ (ap (λ s. fold own_after s fx) is ∙ written)

  -- the reset has cleared no bit of an element behind this one
  none_then : (b : ℕ) → word + 1 ≤ element_of b → clears b (wrote ++ fx) ≡ 0
  none_then b past =
      let before = none b (omega arith) in
      let there = clears_there b (λ at. absurd (omega arith)) in
      let more = clears_more b wrote fx in
      omega arith

  -- ---- a swap

  -- the reset ends behind the last element
  module _ (room : OneWord) (end : ℕ) (last : end ≡ 1 + elements c) where
    -- the reset at the next element, and the reset that has ended
    abbrev next : After BitsFlight (Answer T)
    next = GoOn (all_at (record { 0 = found }) (word + 1) end)

    abbrev done : After BitsFlight (Answer T)
    done = Done answers.Done

    abbrev finish : List (Event T)
    finish = Finished p (Bits ResetAll) answers.Done ∷ []

    -- the swap of an element leaves the reset position
    start_stays : get_or then 0 0 ≡ get_or s.words 0 0
    start_stays = get_or-set_other s.words word 0 0 0 (λ e. absurd (omega arith))

    -- the swap of an element that is not the last leads to the next element
    swaps_on : word < length s.words → word + 1 < end → ShowsWith swaps next fx
    swaps_on near more =
        subst (λ es. Shows bit_set code c scene then (Open (Bits ResetAll) wrote) (party_then bit_set code c scene ResetAll swaps false next) es
        (changes + change_of s.words swaps))
        (sym (append-nil fx))
        (record {
          preserves = record {
            sized = length-set s.words word 0;
            moved =
                λ b. subst (λ es. sets b es + one_if (stands s.words b) ≡ clears b es + one_if (stands then b))
                (append-nil fx) (moved near [] (λ b. refl) (λ b. refl) b);
            within = λ b past. sets_none T p b places;
            position = start_stays ∙ sym (position_same T p (get_or s.words 0 0) places);
            pays = pays_by s.words swaps changes;
            right = all_right T p c events places;
          };
          own = all_own T p places;
          stands = stand;
          here =
              record {
                span = written ∙ ap (λ span. Open (Bits ResetAll) (wrote_in span)) (sym span_then);
                steps = omega arith;
                at = (last, omega arith, omega arith, λ b past. subst (λ span. clears b (wrote_in span) ≡ 0) (sym span_then) (none_then b past));
              };
          knows = (omega arith, cleared_more near);
        })

    -- the swap of the last element ends the reset
    swaps_last : word < length s.words → word + 1 ≡ end → ShowsWith swaps done fx
    swaps_last near at_end =
        record {
          preserves = record {
            sized = length-set s.words word 0;
            moved = moved near finish (λ b. refl) (λ b. refl);
            within = λ b past. (let more = sets_more b fx finish in let none = sets_none T p b places in omega arith);
            position = start_stays ∙ (sym (position_same T p (get_or s.words 0 0) places) ∙ sym (fold-append position_after (get_or s.words 0 0) fx finish));
            pays = pays_by s.words swaps changes;
            right =
                right_more (BitsAnswerRight c) events fx finish (all_right T p c events places)
                (all_behind (word + 1) (omega arith) (cleared_more near), tt);
          };
          own = own_more p fx finish (all_own T p places) (refl, tt);
          stands =
              follow_more (Stands bits_promise c) (Open (Bits ResetAll) wrote) fx finish stand
              (subst (λ span. AllFollow (Stands bits_promise c) span finish) (sym written) ((refl, tt), tt));
          here =
              record {
                answer = answers.Done;
                wrote = wrote ++ fx;
                span = fold-append own_after (Open (Bits ResetAll) wrote) fx finish ∙ ap (λ span. fold own_after span finish) written;
                steps = omega arith;
              };
          knows = omega arith;
        }

    -- where there is no element the reset ends at once
    asks_nothing : word ≡ end → ShowsWith None done []
    asks_nothing at_end =
        record {
          preserves =
              no_change code c scene None (λ b. refl) (λ b. refl) (λ b. refl) refl (all_behind word (omega arith) cleared, tt);
          own = (refl, tt);
          stands = ((refl, tt), tt);
          here = record { answer = answers.Done; wrote = wrote; span = refl; steps = omega arith };
          knows = omega arith;
        }

    -- any step of a reset of all bits keeps the invariant
    pub reset_all_step : word ≤ end → ShowsStep bit_set code c scene wrote ResetAll (all_at room word end)
    reset_all_step below = go (nat_lt word end) refl (nat_lt (word + 1) end) refl
      where
        -- the cases are whether the word is before the end and whether a further word follows
        go : (t : Bool) → nat_lt word end ≡ t → (u : Bool) → nat_lt (word + 1) end ≡ u
            → ShowsStep bit_set code c scene wrote ResetAll (all_at room word end)
        go true end_test true next_test =
            let more : word + 1 < end = grind (arith, nat_tests) in
            let sized = holds.sized in
            rw end_test (rw next_test (swaps_on (omega arith) more))
        go true end_test false next_test =
            let one : word < end = grind (arith, nat_tests) in
            let at : end ≤ word + 1 = grind (arith, nat_tests) in
            let sized = holds.sized in
            rw end_test (rw next_test (swaps_last (omega arith) (omega arith)))
        go false end_test u next_test =
            let past : end ≤ word = grind (arith, nat_tests) in
            let not_more : nat_lt (word + 1) end ≡ false = grind (arith, nat_tests) in
            rw end_test (rw not_more (subst (λ bs. ShowsWith None done (all_cleared p bs)) (sym (no_places word)) (asks_nothing (omega arith))))
