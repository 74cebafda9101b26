-- The steps of a reset of all counts: it swaps one count after another with 0, and tells what it has taken
-- out of each place that had counted.
use Rattle.laws_bits.proofs.Names.{◌≡◌, ◌≢◌, ℕ, ◌+◌, ◌*◌, ◌^◌, ◌<◌, ◌≤◌, ◌==◌, nat_lt, Bool, true, false, cond}
use Rattle.laws_bits.proofs.Names.{Option, Some, List, [], ◌∷◌, ◌++◌, fold, length, get_or, set, refl, sym, ap, subst}
use Rattle.laws_bits.proofs.Names.{◌∙◌, append-nil, length-set, get_or-set_same, get_or-set_other, nat_tests, Ask}
use Rattle.laws_bits.proofs.Names.{Swap, After, GoOn, Done, OneWord, Answer, Event, TakenOut, Bits, BitsFlight}
use Rattle.laws_bits.proofs.Names.{TakeAll, Coding, ask_of, want, after, counts, takes, effects_of, take_events}
use Rattle.laws_bits.proofs.Names.{SinceBegin, BeginsNone, Open, own_after, span_of, old_of, change_of}
use Rattle.laws_bits.proofs.Names.{CountsAnswerOn, HasTakenOn, counts_promise, Stands, since_more, AreRight, AreOwn}
use Rattle.laws_bits.proofs.Names.{AllFollow, span_of-own}
use Rattle.std.proofs.Common.{arith}
use Rattle.model.specs.declared.event.Answer.TheVariants as answers
use Rattle.model.specs.declared.families.bits.BitsStart.TheVariants.{ResetAll}
use Rattle.laws_bits.proofs.Counts.Core.{TakenBelow, taken_next, counts_more, takes_more}
use Rattle.laws_bits.proofs.Counts.Invariant.{Holds, counting_set}
use Rattle.laws_bits.proofs.Family.{SetScene, Shows, party_then, StepShows}
use Rattle.laws_bits.proofs.Spans.{wrote_in}

-- the reset at the count `word`, which ends at `end`
abbrev pub take_at : OneWord → ℕ → ℕ → BitsFlight
take_at room word end =
    TakeAll (record { call = record { word = word; end = end }; given = tt; room = room })

-- the reset in the turn of the scene has written `wrote`, and is at the count `word`: of each earlier place
-- that had counted when it began something was taken out since, unless 2^64 was counted; and nothing was
-- taken out from this place on
module _ {T : Type 0} (code : Coding T) (c : ℕ) (scene : SetScene T) (holds : Holds c scene.state.words scene.events scene.turns)
    (wrote : List (Event T)) (span_is : span_of scene.party scene.events ≡ Open (Bits ResetAll) wrote) (word : ℕ)
    (empty : (b : ℕ) → word ≤ b → takes b wrote ≡ 0) (taken : SinceBegin scene.party (TakenBelow word) scene.events) (still : scene.backs ≡ 0)
    (few : scene.steps ≤ word) where
  open scene use {state as s, events, party as p, changes, steps}

  abbrev ws : List ℕ
  ws = s.words

  -- the count that the step finds
  abbrev count : ℕ
  count = get_or ws word 0

  abbrev swaps : Option Ask
  swaps = Some (record { word = word; op = Swap 0 })

  -- what a step has to show, by what becomes of the reset and which events it writes
  abbrev ShowsWith : Option Ask → After BitsFlight (Answer T) → List (Event T) → Type 0
  ShowsWith ask after fx = StepShows counting_set code c scene wrote ResetAll ask false after fx

  -- ---- the count

  -- by the swap the count of the word is taken out, and no other count changes
  swapped : (b n : ℕ) → word < length ws → n ≡ cond (word == b) count 0 → 0 + get_or ws b 0 ≡ n + get_or (set ws word 0) b 0
  swapped b n within e = go (word == b) refl
    where
      -- the cases are whether the place is the word that is swapped
      go : (t : Bool) → (word == b) ≡ t → 0 + get_or ws b 0 ≡ n + get_or (set ws word 0) b 0
      go true place_test =
          let same : word ≡ b = grind (arith, nat_tests) in
          let here = get_or-set_same ws word 0 0 within in
          let all : n ≡ count = rw place_test at e in
          rw (sym same) (omega arith)
      go false place_test =
          let other : b ≢ word = grind (arith, nat_tests) in
          let there = get_or-set_other ws word b 0 0 other in
          let none : n ≡ 0 = rw place_test at e in
          omega arith

  -- after the swap each count fits its word
  not_far : word < length ws → (b : ℕ) → get_or (set ws word 0) b 0 < 2 ^ 64
  not_far within b = go (word == b) refl
    where
      -- the cases are whether the place is the word that is swapped
      go : (t : Bool) → (word == b) ≡ t → get_or (set ws word 0) b 0 < 2 ^ 64
      go true place_test =
          let same : word ≡ b = grind (arith, nat_tests) in
          let here = get_or-set_same ws word 0 0 within in
          rw (sym same) (omega arith)
      go false place_test =
          let other : b ≢ word = grind (arith, nat_tests) in
          let there = get_or-set_other ws word b 0 0 other in
          let low = holds.low b in
          omega arith

  -- the events that the step writes take the count out of the word
  record TakesOut (fx : List (Event T)) : Type 0 where
    -- they are of the party, begin nothing, are right, and may stand in the span
    pub own : AreOwn p fx
    pub none : BeginsNone p fx
    pub right : AreRight (CountsAnswerOn c) events fx
    pub stands : AllFollow (Stands counts_promise c) (Open (Bits ResetAll) wrote) fx
    -- they count no place, and take the count out of the word alone
    pub counts : (b : ℕ) → counts b fx ≡ 0
    pub takes : (b : ℕ) → takes b fx ≡ cond (word == b) count 0
    -- they make the span longer, and do not end it
    pub span : fold own_after (Open (Bits ResetAll) wrote) fx ≡ Open (Bits ResetAll) (wrote ++ fx)

  -- the step writes `fx`, by which the count is taken out
  module _ {fx : List (Event T)} (out : TakesOut fx) where
    -- after the step something was taken out of each place up to this one that had counted when the reset
    -- began, unless 2^64 was counted
    taken_more : SinceBegin p (TakenBelow (word + 1)) (events ++ fx)
    taken_more =
        let is_same : (word == word) ≡ true = grind (arith, nat_tests) in
        let all : takes word fx ≡ count = rw is_same at (out.takes word) in
        let none = out.counts word in
        let before = (holds.conserved word).1 in
        let c = counts_more word events fx in
        let m = takes_more word events fx in
        let even : counts word (events ++ fx) ≡ takes word (events ++ fx) + 2 ^ 64 * (holds.conserved word).0 = omega arith in
        since_more p (TakenBelow word) (TakenBelow (word + 1)) events fx out.none taken
        (taken_next word p taken fx (holds.conserved word).0 even)

    -- the span of the party is open after the step, with the step's events behind what it had written
    span_then : span_of p (events ++ fx) ≡ Open (Bits ResetAll) (wrote ++ fx)
    span_then = span_of-own p events fx out.own ∙ (ap (λ s. fold own_after s fx) span_is ∙ out.span)

    -- the reset has taken nothing out of a place behind this one
    empty_then : (b : ℕ) → word + 1 ≤ b → takes b (wrote ++ fx) ≡ 0
    empty_then b past =
        let is_other : (word == b) ≡ false = grind (arith, nat_tests) in
        let none : takes b fx ≡ 0 = rw is_other at (out.takes b) in
        let before : takes b wrote ≡ 0 = empty b (omega arith) in
        omega (arith, takes_more b wrote fx)

  -- ---- the events of one swap

  -- where the count is 0 the step has nothing to take out, and writes nothing
  takes_nothing : count ≡ 0 → TakesOut []
  takes_nothing none =
      record {
        own = tt;
        none = tt;
        right = tt;
        stands = tt;
        counts = λ b. refl;
        takes = nothing;
        span = ap (λ xs. Open (Bits ResetAll) xs) (sym (append-nil wrote));
      }
    where
      -- nothing is taken out of any place
      nothing : (b : ℕ) → 0 ≡ cond (word == b) count 0
      nothing b = go (word == b) refl
        where
          -- the cases are whether the place is the word that is swapped
          go : (t : Bool) → (word == b) ≡ t → 0 ≡ cond (word == b) count 0
          go true place_test = rw place_test (sym none)
          go false place_test = rw place_test refl

  -- where the count is above 0 the step tells that it has taken the count out
  takes_some : 1 ≤ count → TakesOut (TakenOut p word count ∷ [])
  takes_some = grind arith

  -- ---- a swap

  -- the reset ends behind the last count
  module _ (room : OneWord) (end : ℕ) (all : end ≡ c) where
    -- the reset at the next count, with what it has found in its room; and the reset that has ended
    abbrev next : After BitsFlight (Answer T)
    next = GoOn (take_at (record { 0 = count }) (word + 1) end)

    abbrev done : After BitsFlight (Answer T)
    done = Done answers.Done

    -- the word is one of the counts
    module _ (within : word < length ws) where
      -- each count moves as the events say, but for a multiple of 2^64
      moved : (b n m : ℕ) → n ≡ 0 → m ≡ cond (word == b) count 0 → (wraps : ℕ) × (n + get_or ws b 0 ≡ m + get_or (set ws word 0) b 0 + 2 ^ 64 * wraps)
      moved b n m none out = (0, omega (arith, swapped b m within out))

      -- the swap of a count that is not the last leads to the next count
      goes_on : {fx : List (Event T)} → TakesOut fx → word + 1 < end → ShowsWith swaps next fx
      goes_on {fx} out more =
          subst (λ es. Shows counting_set code c scene (set ws word 0) (Open (Bits ResetAll) wrote)
          (party_then counting_set code c scene ResetAll swaps false next) es (changes + change_of ws swaps)) (sym (append-nil fx)) (record {
            preserves = record {
              sized = length-set ws word 0;
              moved = λ b. moved b (counts b fx) (takes b fx) (out.counts b) (out.takes b);
              within = λ b past. out.counts b;
              low = not_far within;
              few = λ b. (let none = out.counts b in omega arith);
              right = out.right;
            };
            own = out.own;
            stands = out.stands;
            here =
                record {
                  span = out.span ∙ ap (λ span. Open (Bits ResetAll) (wrote_in span)) (sym (span_then out));
                  steps = omega arith;
                  at = (all, omega arith, λ b past. subst (λ span. takes b (wrote_in span) ≡ 0) (sym (span_then out)) (empty_then out b past));
                };
            knows = (omega arith, taken_more out);
          })

      -- after the swap of the last count something was taken out of each place that had counted when the
      -- reset began, unless 2^64 was counted
      all_taken : word + 1 ≡ c → (fx : List (Event T)) → TakesOut fx → SinceBegin p (HasTakenOn c) (events ++ fx)
      all_taken last fx out = subst (λ n. SinceBegin p (TakenBelow n) (events ++ fx)) last (taken_more out)

      -- the swap of the last count, which is 0, ends the reset
      ends_with_none : word + 1 ≡ c → count ≡ 0 → ShowsWith swaps done []
      ends_with_none last none =
          let out = takes_nothing none in
          record {
            preserves = record {
              sized = length-set ws word 0;
              moved = λ b. moved b 0 0 refl (out.takes b);
              within = λ b past. refl;
              low = not_far within;
              few = λ b. omega arith;
              right = (subst (λ es. SinceBegin p (HasTakenOn c) es) (append-nil events) (all_taken last [] out), tt);
            };
            own = (refl, tt);
            stands = ((refl, tt), tt);
            here = record { answer = answers.Done; wrote = wrote; span = refl; steps = omega arith };
            knows = omega arith;
          }

      -- the swap of the last count, which is above 0, ends the reset
      ends_with_some : word + 1 ≡ c → 1 ≤ count → ShowsWith swaps done (TakenOut p word count ∷ [])
      ends_with_some = grind (arith, takes_some, length-set, moved, swapped, cond, not_far, all_taken)

      -- the swap of a count that is not the last leads to the next count, whatever the count is
      swaps_on : word + 1 < end → (t : Bool) → (count == 0) ≡ t → ShowsWith swaps next (take_events p word count)
      swaps_on more true count_test = let none : count ≡ 0 = grind (arith, nat_tests) in rw count_test (goes_on (takes_nothing none) more)
      swaps_on more false count_test = let some : 1 ≤ count = grind (arith, nat_tests) in
          rw count_test (goes_on (takes_some some) more)

      -- the swap of the last count ends the reset, whatever the count is
      swaps_last : word + 1 ≡ c → (t : Bool) → (count == 0) ≡ t → ShowsWith swaps done (take_events p word count)
      swaps_last = grind (arith, ends_with_none, ends_with_some, nat_tests)

    -- any step of a reset of all counts keeps the invariant
    pub reset_step : word ≤ c
        → ShowsWith (ask_of (want (take_at room word end)))
        (after (take_at room word end) (old_of ws (ask_of (want (take_at room word end)))))
        (effects_of p (take_at room word end) (old_of ws (ask_of (want (take_at room word end)))))
    reset_step below = go (nat_lt word end) refl (nat_lt (word + 1) end) refl
      where
        -- the cases are whether the word is before the end and whether a further word follows
        go : (t : Bool) → nat_lt word end ≡ t → (u : Bool) → nat_lt (word + 1) end ≡ u
            → ShowsWith (ask_of (want (take_at room word end)))
            (after (take_at room word end) (old_of ws (ask_of (want (take_at room word end)))))
            (effects_of p (take_at room word end) (old_of ws (ask_of (want (take_at room word end)))))
        go true end_test true next_test =
            let less : word + 1 < end = grind (arith, nat_tests) in
            let sized = holds.sized in
            let within : word < length ws = omega arith in
            rw end_test (rw next_test (swaps_on within less (count == 0) refl))
        go true end_test false next_test =
            let one : word < end = grind (arith, nat_tests) in
            let last : end ≤ word + 1 = grind (arith, nat_tests) in
            let sized = holds.sized in
            let within : word < length ws = omega arith in
            rw end_test (rw next_test (swaps_last within (omega arith) (count == 0) refl))
        go false end_test u next_test = grind arith
