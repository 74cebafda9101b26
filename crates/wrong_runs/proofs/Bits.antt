-- For each field of what the bit sets promise a run that is refused here by this field.
use Rattle.std.proofs.Common.{◌≡◌, ℕ, Bool, true, false, List, [], ◌∷◌, ◌++◌, refl, arith}
use Rattle.model.specs.declared.event.Answer.TheVariants.{Truth, Number}
use Rattle.model.specs.declared.event.Event.{Event}
use Rattle.model.specs.declared.event.Event.TheVariants as events
use Rattle.model.specs.declared.event.Event.TheVariants.{Begun, Counted, Finished}
use Rattle.model.specs.declared.event.Start.TheVariants.{Bits}
use Rattle.model.specs.declared.families.Registry.TheVariants as registries
use Rattle.model.specs.declared.families.bits.BitsStart.TheVariants.{Set, IsSet, Count}
use Rattle.model.specs.declared.turn.Kind.TheVariants as kinds
use Rattle.model.specs.Families.Bits.Promises.{IsBitSet, IsCountingSet}
use Rattle.model.specs.World.{Trace}
use Rattle.wrong_runs.proofs.Machines.{machine, at_no_moment}

-- A machine of a bit set with these words (the reset position and one word of bits) and events.
abbrev pub bits : List ℕ → List (Event ℕ) → Trace ℕ
bits words events = machine kinds.Bits words registries.Nothing events

-- A bit set refuses a bit that stands and that nobody has set.
stands_unset : IsBitSet (bits (0 ∷ 1 ∷ []) []) → ⊥
stands_unset bit_set = cc (bit_set.conserved 0)

-- A bit set refuses the set of a bit past the capacity.
past_the_capacity : IsBitSet (bits (0 ∷ 4 ∷ []) (events.Set 0 2 ∷ [])) → ⊥
past_the_capacity bit_set = cc (bit_set.within 2 (omega arith))

-- a set answers false, though its bit stood at no moment of it
abbrev refused : List (Event ℕ)
refused = Begun 0 (Bits (Set 1)) ∷ Finished 0 (Bits (Set 1)) (Truth false) ∷ []

-- A bit set refuses the run in which a set answers false, though its bit stood at no moment of the call.
refused_set : IsBitSet (bits (0 ∷ 0 ∷ []) refused) → ⊥
refused_set bit_set =
    at_no_moment 0 _ (Begun 0 (Bits (Set 1)) ∷ []) ((λ e. cc), (λ e. cc))
    (bit_set.answers (Begun 0 (Bits (Set 1)) ∷ []) [] (Finished 0 (Bits (Set 1)) (Truth false)) refl)

-- a look answers that its bit stands, which does not, and one is of a place past the capacity
abbrev pub seen : ℕ → Bool → List (Event ℕ)
seen bit answer = Begun 0 (Bits (IsSet bit)) ∷ Finished 0 (Bits (IsSet bit)) (Truth answer) ∷ []

-- A bit set refuses a look that answers true of a bit that does not stand.
seen_standing : IsBitSet (bits (0 ∷ 0 ∷ []) (seen 1 true)) → ⊥
seen_standing bit_set = cc ((bit_set.answers (Begun 0 (Bits (IsSet 1)) ∷ []) [] (Finished 0 (Bits (IsSet 1)) (Truth true)) refl).1)

-- A bit set refuses a look at a place past the capacity.
seen_past_the_capacity : IsBitSet (bits (0 ∷ 0 ∷ []) (seen 9 false)) → ⊥
seen_past_the_capacity bit_set =
    let low = (bit_set.answers (Begun 0 (Bits (IsSet 9)) ∷ []) [] (Finished 0 (Bits (IsSet 9)) (Truth false)) refl).0 in absurd (omega arith)

-- A machine of a counting bit set with these words (the count of each place) and events.
abbrev pub counts : List ℕ → List (Event ℕ) → Trace ℕ
counts words events = machine kinds.Counts words registries.Nothing events

-- A counting bit set refuses a place that counts what nobody has counted.
counts_uncounted : IsCountingSet (counts (1 ∷ 0 ∷ []) []) → ⊥
counts_uncounted counting_set = cc (counting_set.conserved 0)

-- A counting bit set refuses the count of a place past the capacity.
counts_past_the_capacity : IsCountingSet (counts (0 ∷ 0 ∷ []) (Counted 0 2 ∷ [])) → ⊥
counts_past_the_capacity counting_set = cc (counting_set.within 2 (omega arith))

-- a set answers a count, and has counted nothing
abbrev uncounted : List (Event ℕ)
uncounted = Begun 0 (Bits (Set 1)) ∷ Finished 0 (Bits (Set 1)) (Number 0) ∷ []

-- A set that has only begun has counted no place.
no_count : (before : List (Event ℕ)) → Begun 0 (Bits (Set 1)) ∷ [] ≡ before ++ Counted 0 1 ∷ [] → ⊥
no_count [] split = cc
no_count (a ∷ []) split = cc
no_count (a ∷ b ∷ bs) split = cc

-- A counting bit set refuses the run in which a set answers, but has counted nothing.
counts_nothing : IsCountingSet (counts (0 ∷ 0 ∷ []) uncounted) → ⊥
counts_nothing counting_set =
    let right = counting_set.answers (Begun 0 (Bits (Set 1)) ∷ []) [] (Finished 0 (Bits (Set 1)) (Number 0)) refl in
    no_count right.before right.is

-- a look answers another count than its place has
abbrev miscounted : List (Event ℕ)
miscounted =
    Counted 1 1 ∷ Begun 0 (Bits (Count 1)) ∷ Finished 0 (Bits (Count 1)) (Number 2) ∷ []

-- A counting bit set refuses a look that answers 2 of a place that counts 1.
seen_miscounted : IsCountingSet (counts (0 ∷ 1 ∷ []) miscounted) → ⊥
seen_miscounted counting_set =
    cc ((counting_set.answers (Counted 1 1 ∷ Begun 0 (Bits (Count 1)) ∷ []) [] (Finished 0 (Bits (Count 1)) (Number 2)) refl).1)

-- a look at a count beyond the capacity
abbrev past : List (Event ℕ)
past = Begun 0 (Bits (Count 9)) ∷ Finished 0 (Bits (Count 9)) (Number 0) ∷ []

-- A counting bit set refuses a look at a count past the capacity.
seen_count_past_the_capacity : IsCountingSet (counts (0 ∷ 0 ∷ []) past) → ⊥
seen_count_past_the_capacity counting_set =
    let low = (counting_set.answers (Begun 0 (Bits (Count 9)) ∷ []) [] (Finished 0 (Bits (Count 9)) (Number 0)) refl).0 in absurd (omega arith)
