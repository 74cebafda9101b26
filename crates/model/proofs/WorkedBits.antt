-- The definitions of the bit sets at worked runs, and at histories that they refuse.
use Rattle.model.proofs.Names.{BadIndex, Begin, Begun, Event, Finished, HeldSometime, Kind, List, Number}
use Rattle.model.proofs.Names.{Open, Some, Trace, Truth, Turn, WrongCall, [], arith, false, length}
use Rattle.model.proofs.Names.{one_word, progress_in, refl, refusal_of, subst, sum_by-append, sym, true}
use Rattle.model.proofs.Names.{suc, zero, ℕ, ◌++◌, ◌+◌, ◌^◌, ◌∷◌, ◌≡◌}
use Rattle.std.specs.Prelude.{cond}
use Rattle.steps.specs.Bits.BitSet.{place_after, at_most}
use Rattle.model.specs.declared.event.Start.TheVariants.{Bits}
use Rattle.model.specs.declared.event.Answer.TheVariants.{Done, ResetNone, Reset}
use Rattle.model.specs.declared.event.Event.TheVariants as told
use Rattle.model.specs.declared.event.Event.TheVariants.{Cleared, Counted, TakenOut}
use Rattle.model.specs.declared.families.Registry.TheVariants as registries
use Rattle.model.specs.declared.families.bits.BitsStart.TheVariants.{Set, ResetNext, ResetAll, IsSet, Count}
use Rattle.model.specs.declared.turn.Kind.TheVariants as kinds
use Rattle.model.specs.Families.Bits.Promises.{IsBitSet, IsCountingSet, AnswersCount, HasCleared, HasTaken, CameTo, BitsWrote, bits_stand, counts_stand}
use Rattle.model.specs.Families.Bits.Reading.{sets, standing, position_of, count_at}
use Rattle.model.proofs.Moments.{so_by_events, so_since}
use Rattle.model.proofs.Runs.{nexts, begins, ran}

-- A bit set, or a counting bit set, of this capacity after these turns.
abbrev set_of : Kind → ℕ → List (Turn ℕ) → Trace ℕ
set_of kind capacity turns = ran one_word kind capacity 2 turns

-- ---- worked runs

-- 64 bits to a word, after the reset position
four_words : length (set_of kinds.Bits 130 []).world.words ≡ 4
four_words = refl

-- A counting set of capacity 0 has no words.
no_words : (set_of kinds.Counts 0 []).world.words ≡ []
no_words = refl

-- a set turns back where another bit of its element was set
abbrev neighbours : Trace ℕ
neighbours = set_of kinds.Bits 70 (begins 0 (Bits (Set 3)) 1 ++ begins 1 (Bits (Set 40)) 2 ++ nexts 0 2)

-- both sets end, the one that was turned back last
neighbours_told : neighbours.events
    ≡ Begun 0 (Bits (Set 3))
    ∷ Begun 1 (Bits (Set 40))
    ∷ told.Set 1 40
    ∷ Finished 1 (Bits (Set 40)) (Truth true)
    ∷ told.Set 0 3
    ∷ Finished 0 (Bits (Set 3)) (Truth true)
    ∷ []
neighbours_told = refl

neighbours_words : neighbours.world.words ≡ 0 ∷ (2 ^ 40 + 2 ^ 3) ∷ 0 ∷ []
neighbours_words = refl

neighbours_counted : progress_in neighbours.world 0 ≡ Some record { steps = 3; backs = 1; others = 1; finished = true }
neighbours_counted = refl

-- a reset of all clears two bits of one element in one turn
abbrev cleared_twice : Trace ℕ
cleared_twice = set_of kinds.Bits 8 (begins 0 (Bits (Set 3)) 2 ++ begins 0 (Bits (Set 1)) 2 ++ begins 0 (Bits ResetAll) 1)

-- the two events of the clearing turn come one after the other, by their places
cleared_twice_told : cleared_twice.events
    ≡ Begun 0 (Bits (Set 3))
    ∷ told.Set 0 3
    ∷ Finished 0 (Bits (Set 3)) (Truth true)
    ∷ Begun 0 (Bits (Set 1))
    ∷ told.Set 0 1
    ∷ Finished 0 (Bits (Set 1)) (Truth true)
    ∷ Begun 0 (Bits ResetAll)
    ∷ Cleared 0 1
    ∷ Cleared 0 3
    ∷ Finished 0 (Bits ResetAll) Done
    ∷ []
cleared_twice_told = refl

-- a reset of the next bit goes round
abbrev round : Trace ℕ
round = set_of kinds.Bits 2 (begins 0 (Bits (Set 0)) 2 ++ begins 0 (Bits ResetNext) 4 ++ begins 0 (Bits ResetNext) 3)

-- the first reset finds the bit of place 0, and the second finds none
round_told : round.events
    ≡ Begun 0 (Bits (Set 0))
    ∷ told.Set 0 0
    ∷ Finished 0 (Bits (Set 0)) (Truth true)
    ∷ Begun 0 (Bits ResetNext)
    ∷ Cleared 0 0
    ∷ Finished 0 (Bits ResetNext) (Reset 0)
    ∷ Begun 0 (Bits ResetNext)
    ∷ Finished 0 (Bits ResetNext) ResetNone
    ∷ []
round_told = refl

-- counts
abbrev counted : Trace ℕ
counted = set_of kinds.Counts 2 (begins 0 (Bits (Set 1)) 1 ++ begins 0 (Bits (Set 1)) 1 ++ begins 1 (Bits ResetAll) 2)

-- the second set answers the count before it, and the reset takes out both at once
counted_told : counted.events
    ≡ Begun 0 (Bits (Set 1))
    ∷ Counted 0 1
    ∷ Finished 0 (Bits (Set 1)) (Number 0)
    ∷ Begun 0 (Bits (Set 1))
    ∷ Counted 0 1
    ∷ Finished 0 (Bits (Set 1)) (Number 1)
    ∷ Begun 1 (Bits ResetAll)
    ∷ TakenOut 1 1 2
    ∷ Finished 1 (Bits ResetAll) Done
    ∷ []
counted_told = refl

-- looks: each takes one step and writes nothing
abbrev looked : Trace ℕ
looked = set_of kinds.Bits 8 (begins 0 (Bits (Set 3)) 2 ++ begins 1 (Bits (IsSet 3)) 1 ++ begins 1 (Bits (IsSet 4)) 1)

-- a look at the bit that is set answers true, and one at another bit false
looked_told : looked.events
    ≡ Begun 0 (Bits (Set 3))
    ∷ told.Set 0 3
    ∷ Finished 0 (Bits (Set 3)) (Truth true)
    ∷ Begun 1 (Bits (IsSet 3))
    ∷ Finished 1 (Bits (IsSet 3)) (Truth true)
    ∷ Begun 1 (Bits (IsSet 4))
    ∷ Finished 1 (Bits (IsSet 4)) (Truth false)
    ∷ []
looked_told = refl

-- Party 0 counts place 1 up, and party 1 then reads its count.
abbrev looked_up : Trace ℕ
looked_up = set_of kinds.Counts 2 (begins 0 (Bits (Set 1)) 1 ++ begins 1 (Bits (Count 1)) 1)

-- the look answers the count that the set has left
looked_up_told : looked_up.events
    ≡ Begun 0 (Bits (Set 1))
    ∷ Counted 0 1
    ∷ Finished 0 (Bits (Set 1)) (Number 0)
    ∷ Begun 1 (Bits (Count 1))
    ∷ Finished 1 (Bits (Count 1)) (Number 1)
    ∷ []
looked_up_told = refl

-- A look at place 8 of a set of 8 bits is refused.
look_past_the_capacity : refusal_of (set_of kinds.Bits 8 []).world (Begin 0 (Bits (IsSet 8))) ≡ Some BadIndex
look_past_the_capacity = refl

-- A bit set has no call `Count`.
no_count_of_bits : refusal_of (set_of kinds.Bits 8 []).world (Begin 0 (Bits (Count 1))) ≡ Some WrongCall
no_count_of_bits = refl

-- A counting set has no call `IsSet`.
no_look_of_counts : refusal_of (set_of kinds.Counts 8 []).world (Begin 0 (Bits (IsSet 1))) ≡ Some WrongCall
no_look_of_counts = refl

-- A set of place 8 of a set of 8 bits is refused.
past_the_capacity : refusal_of (set_of kinds.Bits 8 []).world (Begin 0 (Bits (Set 8))) ≡ Some BadIndex
past_the_capacity = refl

-- A counting set has no call `ResetNext`.
no_next_of_counts : refusal_of (set_of kinds.Counts 8 []).world (Begin 0 (Bits ResetNext)) ≡ Some WrongCall
no_next_of_counts = refl

-- ---- histories that are refused

-- a machine of this kind and of two places, with these words and events
abbrev with_events : Kind → List ℕ → List (Event ℕ) → Trace ℕ
with_events kind words events =
    record {
      world =
          record {
            coding = one_word;
            kind = kind;
            capacity = 2;
            parties = 2;
            words = words;
            kept = registries.Nothing;
            latest = [];
            changes = 0;
            turns = 0;
          };
      events = events;
    }

-- A history is refused in which bit 0 of a set stands and nobody set it.
stands_unset : IsBitSet (with_events kinds.Bits (0 ∷ 1 ∷ []) []) → ⊥
stands_unset bit_set = let e = bit_set.conserved 0 in cc

-- A history is refused in which bit 1 was set and never cleared, but does not stand.
bit_lost : IsBitSet (with_events kinds.Bits (0 ∷ 0 ∷ []) (told.Set 0 1 ∷ [])) → ⊥
bit_lost bit_set = let e = bit_set.conserved 1 in cc

-- A history is refused in which bit 1 is set twice with no clear between.
set_twice : IsBitSet (with_events kinds.Bits (0 ∷ 2 ∷ []) (told.Set 0 1 ∷ told.Set 1 1 ∷ [])) → ⊥
set_twice bit_set = let e = bit_set.conserved 1 in cc

-- A history is refused in which bit 2 of a set of two bits is set.
set_past_the_capacity : IsBitSet (with_events kinds.Bits (0 ∷ 4 ∷ []) (told.Set 0 2 ∷ [])) → ⊥
set_past_the_capacity bit_set = let e = bit_set.within 2 (omega arith) in cc

-- a bit that was set in none of the events stood at no moment
never_stood : (p b : ℕ) (events : List (Event ℕ)) → sets b events ≡ 0 → HeldSometime p (λ part. standing b part ≡ 1) events → ⊥
never_stood = grind (arith, sets, sum_by-append, cond)

-- a set that answers false where its bit never stood
abbrev false_set : List (Event ℕ)
false_set =
    Begun 0 (Bits (Set 1)) ∷ Finished 0 (Bits (Set 1)) (Truth false) ∷ []

-- A bit set refuses the history of `false_set`.
false_without_bit : IsBitSet (with_events kinds.Bits (0 ∷ 0 ∷ []) false_set) → ⊥
false_without_bit bit_set = never_stood 0 1 (Begun 0 (Bits (Set 1)) ∷ []) refl (bit_set.answers (Begun 0 (Bits (Set 1)) ∷ []) [] _ refl)

-- It is refused that a set of bit 1 answers true and has set nothing.
true_without_event : BitsWrote {T = ℕ} 2 (Bits (Set 1)) (Truth true) [] → ⊥
true_without_event bits_wrote = let e = bits_wrote.0 in cc

-- It is refused that a set of bit 1 answers true and has set bit 0.
other_bit : BitsWrote {T = ℕ} 2 (Bits (Set 1)) (Truth true) (told.Set 0 0 ∷ []) → ⊥
other_bit bits_wrote = let e = bits_wrote.1 in cc

-- a reset of the next bit that answers another one than it has cleared
other_answer : BitsWrote {T = ℕ} 2 (Bits ResetNext) (Reset 1) (Cleared 0 0 ∷ []) → ⊥
other_answer bits_wrote = let e = bits_wrote.1 in cc

-- a reset of the next bit that answers the second of two that stand, though the position is the first
abbrev skipping : List (Event ℕ)
skipping =
    told.Set 1 0 ∷ told.Set 1 1 ∷ Begun 0 (Bits ResetNext) ∷ Cleared 0 1 ∷ []

-- at every moment since the call began, the bit of place 0 stands
first_stood : HeldSometime 0 (λ part. standing 0 part ≡ 0) skipping → ⊥
first_stood = so_since 0 (Bits ResetNext) (λ part. standing 0 part ≡ 0) (told.Set 1 0 ∷ told.Set 1 1 ∷ []) (Cleared 0 1 ∷ []) ((λ e. cc), (λ e. cc))

-- A reset that has passed over a bit that stood is refused.
skips : CameTo 0 2 1 skipping → ⊥
skips came = go came.passed refl
  where
    -- The search began at place 0, since none of the events moves the position.
    from : came.start ≡ 0
    from = so_by_events 0 (λ part. at_most 2 (position_of part) ≡ came.start) skipping (sym, (sym, (sym, (sym, sym)))) came.begun

    is : place_after 2 0 came.passed ≡ 1
    is = subst (λ n. place_after 2 n came.passed ≡ 1) from came.is

    -- it passed no place, or place 0
    go : (n : ℕ) → came.passed ≡ n → ⊥
    go zero none = let first : place_after 2 0 0 ≡ 1 = rw none at is in cc
    go (suc n) some =
        first_stood
        (subst (λ start. HeldSometime 0 (λ part. standing (place_after 2 start 0) part ≡ 0) skipping) from (came.clear 0 (omega arith)))

-- a reset of all that goes down, or clears a bit twice
descends : bits_stand {T = ℕ} (Cleared 0 1) (Open (Bits ResetAll) (Cleared 0 3 ∷ [])) → ⊥
descends stands = let e = stands 3 (omega arith) in cc

clears_again : bits_stand {T = ℕ} (Cleared 0 1) (Open (Bits ResetAll) (Cleared 0 1 ∷ [])) → ⊥
clears_again stands = let e = stands 1 (omega arith) in cc

-- a bit that stood as the call began and that nobody has cleared since
abbrev stays : List (Event ℕ) → List (Event ℕ) → Type 0
stays before since = HasCleared 2 before since

left_standing : stays (told.Set 0 1 ∷ []) [] → ⊥
left_standing cleared = let e = cleared 1 (omega arith) refl in absurd (omega arith)

-- a count that nobody counted, and one of which too much was taken out
counts_uncounted : IsCountingSet (with_events kinds.Counts (1 ∷ 0 ∷ []) []) → ⊥
counts_uncounted counting_set = let e = counting_set.conserved 0 in cc

taken_too_much : IsCountingSet (with_events kinds.Counts (0 ∷ 0 ∷ []) (Counted 0 1 ∷ TakenOut 1 1 2 ∷ [])) → ⊥
taken_too_much counting_set = let e = counting_set.conserved 1 in cc

-- a set that answers the count after it
abbrev late_count : List (Event ℕ)
late_count =
    Begun 0 (Bits (Set 1)) ∷ Counted 0 1 ∷ Finished 0 (Bits (Set 1)) (Number 1) ∷ []

count_after : IsCountingSet (with_events kinds.Counts (0 ∷ 1 ∷ []) late_count) → ⊥
count_after counting_set = go right.before right.is right.count
  where
    right : AnswersCount {T = ℕ} 0 1 1 (Begun 0 (Bits (Set 1)) ∷ Counted 0 1 ∷ [])
    right = counting_set.answers (Begun 0 (Bits (Set 1)) ∷ Counted 0 1 ∷ []) [] _ refl

    -- the count at the moment before this one is not what the set answers
    go : (before : List (Event ℕ)) → Begun 0 (Bits (Set 1)) ∷ Counted 0 1 ∷ [] ≡ before ++ Counted 0 1 ∷ [] → 1 ≡ count_at 1 before → ⊥
    go [] split counts_one = cc
    go (a ∷ []) split counts_one =
        let same : Begun 0 (Bits (Set 1)) ≡ a = cc in
        let none = subst (λ (x : Event ℕ). 1 ≡ count_at 1 (x ∷ [])) (sym same) counts_one in
        cc
    go (a ∷ b ∷ []) split counts_one = cc
    go (a ∷ b ∷ c ∷ bs) split counts_one = cc

-- nothing is taken out of a count of 0
taken_of_nothing : counts_stand {T = ℕ} (TakenOut 0 1 0) (Open (Bits ResetAll) []) → ⊥
taken_of_nothing stands = absurd (omega (arith, stands.0))

left_counting : HasTaken {T = ℕ} 2 (Counted 0 1 ∷ []) [] → ⊥
left_counting taken = let e = taken 1 (omega arith) (omega arith) in absurd (omega arith)
