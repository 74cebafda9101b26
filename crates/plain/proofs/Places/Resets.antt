-- A `reset_next` of a bit set that runs alone: within how many steps it ends, and that it resets the next
-- place that stands, from the start of the search on.
use Rattle.std.proofs.Common.{◌≡◌, ℕ, zero, suc, ◌+◌, ◌-◌, ◌<◌, ◌≤◌, ◌⊎◌, inl, inr, ⊎_elim, Bool, true, false, Option}
use Rattle.std.proofs.Common.{Some, None, slice_get, List, [], ◌∷◌, length, drop, refl, sym, ap, subst, ◌∙◌, arith}
use Rattle.std.proofs.Common.{slice_index, slice_set, get_or-set_same, get_or-set_other, length-set, eq-eqb, ◌==◌}
use Rattle.std.proofs.Common.{nat_lt, if◌then◌else◌, true≢false}
use Rattle.std.specs.Prelude.{slice_index_or}
use Rattle.plain.proofs.Names.{cases_Bool, cases_lt, nat_tests, after_position, standing_from, by_test, by_eq, After}
use Rattle.plain.proofs.Names.{without_clear, without_leaves}
use Rattle.std.proofs.lemmas.List.{get_or-drop}
use Rattle.steps.specs.Bits.Words.{element_of, has_flag, without_flag, stands}
use Rattle.steps.specs.Bits.BitSet.{first_reset, at_reset, place_after, at_most, reset_want, reset_after}
use Rattle.steps.specs.Objects.Places.{or_else, next_place, without, after_next}
use Rattle.steps.specs.declared.bits.bit_set.ResetNext.{ResetNext}
use Rattle.steps.specs.declared.bits.bit_set.ResetNextStage.TheVariants as resets
use Rattle.plain_queues.specs.Alone.{EndsFrom, EndsIn, BehavesAs}
use Rattle.plain.specs.Bits.{flags_in, places_in, Represents}
use Rattle.plain_queues.proofs.Alone.{Runs}
use Rattle.plain.proofs.Places.Flags.{flag_at, flag_past, flags_change, same_flags}

-- ---- the first flag of a list that stands

-- the first flag that stands in a list is the first of its places
first_standing : (place n : ℕ) (flags : List Bool)
    → ((i : ℕ) → i < n → slice_index_or flags i false ≡ false) → slice_index_or flags n false ≡ true
    → slice_get (standing_from place flags) 0 ≡ Some (place + n)
first_standing place n [] clear stands = absurd (true≢false (sym stands))
first_standing place zero (flag ∷ flags) clear stands = grind (arith, slice_get, standing_from)
first_standing place (suc n) (flag ∷ flags) clear stands =
    ap (λ b. slice_get (if b then place ∷ standing_from (place + 1) flags else standing_from (place + 1) flags) 0) (clear 0 (omega arith))
    ∙ (first_standing (place + 1) n flags (λ i low. clear (suc i) (omega arith)) stands ∙ ap Some (omega arith))

-- a list whose flags are all clear has no place that stands
none_standing : (place : ℕ) (flags : List Bool)
    → ((i : ℕ) → slice_index_or flags i false ≡ false) → standing_from place flags ≡ []
none_standing place [] clear = refl
none_standing place (flag ∷ flags) clear =
    ap (λ b. if b then place ∷ standing_from (place + 1) flags else standing_from (place + 1) flags) (clear 0)
    ∙ none_standing (place + 1) flags (λ i. clear (suc i))

module _ (capacity : ℕ) (words : List ℕ) (fits : Represents capacity words) where
  -- the place from which the search starts
  abbrev start : ℕ
  start = slice_index words 0

  -- for each place whether it stands
  abbrev flags : List Bool
  flags = flags_in capacity words

  -- the place that the search comes to after k others
  abbrev at : ℕ → ℕ
  at k = place_after capacity start k

  -- the first k places that the search comes to are clear
  abbrev Clear : ℕ → Type 0
  Clear k = (j : ℕ) → j < k → stands words (at j) ≡ false

  -- ---- what a search of the set of places finds where the first k places are clear

  -- the flags from the start on are those of the places from there on
  tail_at : (i : ℕ) → slice_index_or (drop start flags) i false ≡ slice_index_or flags (start + i) false
  tail_at i = get_or-drop start flags i false

  -- below the capacity the search comes to the places in order
  ahead : (j : ℕ) → start + j < capacity → at j ≡ start + j
  ahead = grind (arith, nat_tests)

  -- after the last place the search comes to the places from 0 on
  behind : (j : ℕ) → capacity ≤ start + j → at j ≡ start + j - capacity
  behind = grind (arith, false, nat_tests)

  -- a place from the start on that was passed is clear
  clear_tail : (k : ℕ) → Clear k → (i : ℕ) → i < k → start + i < capacity
      → slice_index_or (drop start flags) i false ≡ false
  clear_tail k clear i low inside =
      tail_at i ∙ (flag_at capacity words (start + i) inside ∙ (sym (ap (stands words) (ahead i inside)) ∙ clear i low))

  -- where the search has come to the end, no place from the start on stands
  tail_empty : (k : ℕ) → Clear k → capacity ≤ start + k → standing_from start (drop start flags) ≡ []
  tail_empty = grind (arith, none_standing, drop, clear_tail, tail_at, flag_past)

  -- A place that was passed is clear. It was passed where it is below the start and the search has come round
  -- and past it, or from the start on.
  clear_head : (k : ℕ) → Clear k → (p : ℕ) → p < capacity → (p + capacity < start + k) ⊎ ((start ≤ p) × (capacity ≤ start + k))
      → slice_index_or flags p false ≡ false
  clear_head k clear p inside passed =
      flag_at capacity words p inside
      ∙ ⊎_elim
      (λ (h : p + capacity < start + k).
      let s = fits.start in
      -- a place below the start, which the search has passed after it came round
      ⊎_elim (λ (low : p < start).
      let j = p + capacity - start in
      let is : at j ≡ p = behind j (omega arith) ∙ omega arith in
      sym (ap (stands words) is) ∙ clear j (omega arith))
      -- a place from the start on, which the search has passed before it came round
      (λ (high : start ≤ p).
      let j = p - start in
      let is : at j ≡ p = ahead j (omega arith) ∙ omega arith in
      sym (ap (stands words) is) ∙ clear j (omega arith))
      (cases_lt p start))
      -- the search has come round, so all places from the start on are passed
      (λ (h : (start ≤ p) × (capacity ≤ start + k)).
      let a = h.0 in let b = h.1 in
      let j = p - start in
      let is : at j ≡ p = ahead j (omega arith) ∙ omega arith in
      sym (ap (stands words) is) ∙ clear j (omega arith))
      passed

  -- where the place that it has come to stands and those passed are clear, this is the place
  -- that the search finds
  pub next_is : (k : ℕ) → k < capacity → Clear k → stands words (at k) ≡ true
      → next_place (places_in capacity words) ≡ Some (at k)
  next_is k few clear place_stands =
      let s = fits.start in
      ⊎_elim
      -- the search has not come round: the place is the first one from the start on that stands
      (λ (low : start + k < capacity).
      let here = ahead k low in
      let found : slice_get (standing_from start (drop start flags)) 0 ≡ Some (start + k) =
      first_standing start k (drop start flags) (λ i below. clear_tail k clear i below (omega arith))
      (tail_at k ∙ (flag_at capacity words (start + k) low ∙ (sym (ap (stands words) here) ∙ place_stands))) in
      ap (λ o. or_else o (slice_get (standing_from 0 flags) 0)) found ∙ ap Some (sym here))
      -- the search has come round: no place from the start on stands, and this is the first one from 0 on
      (λ (high : capacity ≤ start + k).
      let here = behind k high in
      let none = tail_empty k clear high in
      let found : slice_get (standing_from 0 flags) 0 ≡ Some (0 + (start + k - capacity)) =
      first_standing 0 (start + k - capacity) flags
      (λ i below. clear_head k clear i (omega arith) (inl (omega arith)))
      (flag_at capacity words (start + k - capacity) (omega arith) ∙ (sym (ap (stands words) here) ∙ place_stands)) in
      ap (λ xs. or_else (slice_get xs 0) (slice_get (standing_from 0 flags) 0)) none
      ∙ (found ∙ ap Some (omega (arith, here))))
      (cases_lt (start + k) capacity)

  -- where all places are clear the search finds none
  pub none_is : Clear capacity → next_place (places_in capacity words) ≡ None
  none_is clear =
      let s = fits.start in
      let tail = tail_empty capacity clear (omega arith) in
      let all : standing_from 0 flags ≡ [] =
      none_standing 0 flags
      (λ i. ⊎_elim (λ (inside : i < capacity).
      ⊎_elim (λ (low : i < start). clear_head capacity clear i inside (inl (omega arith)))
      (λ (high : start ≤ i). clear_head capacity clear i inside (inr (high, omega arith)))
      (cases_lt i start))
      (λ (out : capacity ≤ i). flag_past capacity words i out) (cases_lt i capacity)) in
      λ i. or_else (slice_get (tail i) 0) (slice_get (all i) 0)

  -- ---- the search

  -- the reset, run alone from these words, ends within n steps with this answer and these last words
  abbrev ResetEnds : ℕ → Option ℕ → List ℕ → ResetNext → Type 0
  ResetEnds n end last call =
      EndsIn (λ c (given : Unit {0}). reset_want c) (λ c given old. reset_after c old) (λ c (room : Unit {0}) old. room) tt n end tt last call tt words

  -- what a step of the reset has answered leads to this end and these last words, at once
  -- or within n steps more
  abbrev ResetEndsFrom : ℕ → Option ℕ → List ℕ → After ResetNext (Option ℕ) → List ℕ → Type 0
  ResetEndsFrom n end last a ws =
      EndsFrom (λ c (given : Unit {0}). reset_want c) (λ c given old. reset_after c old) (λ c (room : Unit {0}) old. room) tt n end tt last a tt ws

  -- After k places were passed the reset ends within `most` steps, and has done what a reset does
  -- to the set of places.
  pub record EndsAfterPassing (most k : ℕ) : Type 0 where
    -- within how many steps the reset ends
    pub steps : ℕ
    pub few : steps ≤ most
    -- its answer and the last words, which are those that a reset of the set of places says
    pub end : Option ℕ
    pub last : List ℕ
    pub ends : EndsIn (λ c (given : Unit {0}). reset_want c) (λ c given old. reset_after c old) (λ c (room : Unit {0}) old. room) tt steps end tt last
        (at_reset (first_reset capacity) (resets.LoadsElement start k)) tt words
    pub holds : BehavesAs (Represents capacity) (places_in capacity) next_place after_next words end last

  module _ (k : ℕ) (low : k < capacity) where
    -- the place after k others
    abbrev place : ℕ
    place = at k

    -- the word of the place's element
    abbrev found : ℕ
    found = slice_index words (element_of place)

    -- the words without the place's flag
    abbrev cleared : List ℕ
    cleared = slice_set words (element_of place) (without_flag found place)

    -- those words with the start after the place
    abbrev last : List ℕ
    last = slice_set cleared 0 (after_position place)

    -- the place is one of the set
    within : place < capacity
    within = grind (arith, ahead, behind)

    -- the element of the place is one of the words
    near : element_of place < length words
    near = omega (arith, fits.long, within)

    -- at a place that stands, after clear ones, the reset clears it, moves the start
    -- behind it, and answers it
    finds : Clear k → has_flag found place ≡ true → (most : ℕ) → 3 ≤ most → EndsAfterPassing most k
    finds clear place_stands most room =
        let small = fits.small in
        let w = within in
        let n = near in
        -- the exchange of the word clears the flag, since the word is still the one that was loaded
        let written : (if found == found then cleared else words) ≡ cleared =
        ap (λ b. if b then cleared else words) (eq-eqb found found refl) in
        let next : after_position place ≡ place + 1 = omega arith in
        let long : length cleared ≡ length words = length-set words (element_of place) (without_flag found place) in
        -- the start is the place behind it
        let head : slice_index last 0 ≡ place + 1 =
        get_or-set_same cleared 0 (after_position place) 0 (omega arith) ∙ next in
        -- the flags are those before without the one at this place
        let flags_were : flags_in capacity cleared ≡ slice_set flags place false =
        flags_change words place (without_flag found place) near false (without_clear found place) (λ q ne. without_leaves found place q ne) capacity within in
        let flags_are : flags_in capacity last ≡ flags_in capacity cleared =
        same_flags capacity cleared last (λ p. get_or-set_other cleared 0 (element_of p) (after_position place) 0 (λ e. absurd (omega arith))) in
        let is_next = next_is k low clear place_stands in
        record {
          steps = 3;
          few = room;
          end = Some place;
          last = last;
          -- three steps: the load of the word, its exchange, and the store of the start
          ends = by_test (λ a. ResetEndsFrom 2 (Some place) last a words) (has_flag found place) _ _
              (λ _. by_eq (λ a. ResetEndsFrom 1 (Some place) last a (if found == found then cleared else words)) found found _ _
              (λ _. subst (λ ws. EndsIn (λ c (given : Unit {0}). reset_want c) (λ c given old. reset_after c old)
              (λ c (room : Unit {0}) old. room) tt 1 (Some place) tt last
              (at_reset (first_reset capacity) (resets.StoresPosition place)) tt ws) (sym written) (refl, refl, refl))
              (λ ne. absurd (ne refl)))
              (λ t. absurd (true≢false (sym place_stands ∙ t)));
          -- the words are those of a bit set, the answer is the next place that stands, and the
          -- places are without it
          holds = (
            record { long = length-set cleared 0 (after_position place) ∙ (long ∙ fits.long); small = fits.small; start = omega arith },
            sym is_next,
            (λ i. record { flags = (flags_are ∙ flags_were) i; start = head i })
                ∙ sym (ap (without (places_in capacity words)) is_next),
          );
        }

  -- after a further clear place one place more is passed
  one_more_clear : (k : ℕ) → Clear k → stands words (at k) ≡ false → Clear (k + 1)
  one_more_clear = grind (arith, stands)

  -- at the last place, which is clear, the reset ends with None
  comes_round : (k : ℕ) → k + 1 ≡ capacity → Clear k → stands words (at k) ≡ false → EndsAfterPassing 3 k
  comes_round = grind (arith, one_more_clear, none_is, by_test, has_flag, true≢false, without, nat_tests)

  -- at a clear place that is not the last, the reset goes on to the next place
  comes_on : (most k : ℕ) → k + 1 < capacity → stands words (at k) ≡ false → EndsAfterPassing most (k + 1)
      → EndsAfterPassing (suc most) k
  comes_on most k low not_there rest =
      record {
        steps = suc rest.steps;
        few = omega (arith, rest.few);
        end = rest.end;
        last = rest.last;
        ends = by_test (λ a. ResetEndsFrom rest.steps rest.end rest.last a words) (has_flag (slice_index words (element_of (at k))) (at k)) _ _
            (λ t. absurd (true≢false (sym t ∙ not_there)))
            (λ _. by_test (λ a. ResetEndsFrom rest.steps rest.end rest.last a words) (nat_lt (k + 1) capacity) _ _
            (λ _. rest.ends)
            (λ t. let less : capacity ≤ k + 1 = grind (arith, nat_tests, t) in absurd (omega arith)));
        holds = rest.holds;
      }

  -- from the place after k clear ones, with n + 1 left, the reset ends. The cases are whether the place
  -- stands and whether it is the last.
  scan : (n k : ℕ) → k + suc n ≡ capacity → Clear k → EndsAfterPassing (suc (suc (suc n))) k
  scan zero k sum clear = grind (arith, finds, comes_round, cases_Bool, stands)
  scan (suc n) k sum clear =
      ⊎_elim (λ there. finds k (omega arith) clear there (suc (suc (suc (suc n)))) (omega arith))
      (λ not_there. comes_on (suc (suc (suc n))) k (omega arith) not_there
      (scan n (k + 1) (omega arith) (one_more_clear k clear not_there)))
      (cases_Bool (stands words (at k)))

  -- the reset, run alone from these words, ends and has done what a reset does to the set of places
  abbrev pub ResetRuns : ResetNext → Type 0
  ResetRuns call =
      Runs (λ (c : ResetNext) (given : Unit {0}). reset_want c) (λ c given old. reset_after c old) (λ c (room : Unit {0}) old. room) tt
      (λ end room last. BehavesAs (Represents capacity) (places_in capacity) next_place after_next words end last) call tt words

  -- with capacity 0 a reset ends with None
  nowhere : capacity ≡ 0 → ResetRuns (first_reset capacity)
  nowhere = grind (arith, none_is, false, by_test, true≢false, without, nat_tests)

  -- a reset of a set with places starts its search at the start of the set, and does what a reset does
  from_start : (n : ℕ) → suc n ≡ capacity → ResetRuns (first_reset capacity)
  from_start n sum =
      let small = fits.small in
      let low = fits.start in
      let rest = scan n 0 (omega arith) (λ j below. absurd (omega arith)) in
      -- the start is at most the capacity, so the search begins there
      let here : at_most capacity start ≡ start =
      let t : nat_lt capacity start ≡ false = grind (arith, nat_tests, low) in
      ap (λ b. if b then capacity else start) t in
      let t : nat_lt 0 capacity ≡ true = let c : 0 < capacity = omega arith in grind (arith, nat_tests, c) in
      record {
        steps = suc rest.steps;
        few = omega (arith, rest.few);
        end = rest.end;
        last_room = tt;
        last_words = rest.last;
        ends = by_test (λ a. ResetEndsFrom rest.steps rest.end rest.last a words) (nat_lt 0 capacity) _ _
            (λ _. subst (λ s. ResetEnds rest.steps rest.end rest.last (at_reset (first_reset capacity) (resets.LoadsElement s 0))) (sym here) rest.ends)
            (λ none. absurd (true≢false (sym t ∙ none)));
        holds = rest.holds;
      }

  -- a reset, run alone, does what a reset does to the set of places
  pub reset_runs : (call : ResetNext) → call ≡ first_reset capacity → ResetRuns call
  reset_runs call at_first =
      subst ResetRuns (sym at_first)
      (⊎_elim (λ (h : capacity < 1). nowhere (omega arith)) (λ (h : 1 ≤ capacity). from_start (capacity - 1) (omega arith)) (cases_lt capacity 1))
