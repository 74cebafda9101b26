-- Marks at short histories that are refused, and the two schedules by which a reset of all places, and a reset of the next one
-- that answers None, are not linearizable as whole calls.
use Rattle.history.proofs.Names.{◌≡◌, ℕ, ◌+◌, ◌==◌, ◌||◌, Bool, true, false, not, None, List, [], ◌∷◌, map, refl}
use Rattle.history.proofs.Names.{arith}
use Rattle.model.specs.declared.event.Answer.{Answer}
use Rattle.model.specs.declared.event.Answer.TheVariants.{Truth, Number, ResetNone, Reset}
use Rattle.model.specs.declared.event.Event.{Event}
use Rattle.model.specs.declared.event.Event.TheVariants.{Begun, Cleared}
use Rattle.history.proofs.Names.{one_word}
use Rattle.model.specs.declared.event.Event.TheVariants.{Finished}
use Rattle.model.specs.declared.event.Start.{Start}
use Rattle.model.specs.declared.families.bits.BitsStart.TheVariants.{Set, ResetNext, ResetAll}
use Rattle.model.specs.declared.turn.Kind.{Kind}
use Rattle.model.specs.declared.turn.Turn.{Turn}
use Rattle.model.specs.declared.turn.Turn.TheVariants.{Begin, Next}
use Rattle.history.proofs.Names.{standing, run, Trace}
use Rattle.std.specs.Prelude.{take}
use Rattle.model.specs.declared.event.Answer.TheVariants.{Done}
use Rattle.model.specs.declared.event.Event.TheVariants as told
use Rattle.model.specs.declared.event.Event.TheVariants.{Counted}
use Rattle.model.specs.declared.event.Start.TheVariants.{Bits}
use Rattle.model.specs.declared.families.bits.BitsStart.TheVariants.{IsSet}
use Rattle.model.specs.declared.turn.Kind.TheVariants as kinds
use Rattle.model.specs.Objects.{Object, IsLegal}
use Rattle.model.specs.World.{opening}
use Rattle.history_bits.specs.Acts.{Mark, Happens, Leaves, IsRight}

-- ---- marks that are not right

abbrev of_party_0 : Kind → ℕ → List (Mark ℕ) → Type 0
of_party_0 kind b marks = IsRight kind 2 (Unit {0}) 0 b 0 None marks

abbrev set_1 : Start ℕ
set_1 = Bits (Set 1)

-- a set that answers false has found its place standing
no_act : of_party_0 kinds.Bits 1 (Happens (Begun 0 set_1) ∷ Happens (Finished 0 set_1 (Truth false)) ∷ []) → ⊥
no_act h = (h.1.0 refl).1 refl

clear_is_left : of_party_0 kinds.Bits 1 (Happens (Begun 0 set_1) ∷ Leaves 0 1 ∷ Happens (Finished 0 set_1 (Truth false)) ∷ []) → ⊥
clear_is_left h = let e = (h.1.0 refl).1 in cc

-- a look has found what it answers
abbrev look_at_1 : Start ℕ
look_at_1 = Bits (IsSet 1)

looks_nowhere : of_party_0 kinds.Bits 1 (Happens (Begun 0 look_at_1) ∷ Happens (Finished 0 look_at_1 (Truth false)) ∷ []) → ⊥
looks_nowhere h = (h.1.0 refl).1 refl

clear_is_seen_set : of_party_0 kinds.Bits 1 (Happens (Begun 0 look_at_1) ∷ Leaves 0 1 ∷ Happens (Finished 0 look_at_1 (Truth true)) ∷ []) → ⊥
clear_is_seen_set h = let e = (h.1.1.0 refl).1 refl in cc

-- a count is what stood before, and a set of counts leaves no place as it was
count_after : of_party_0 kinds.Counts 1 (Happens (Begun 0 set_1) ∷ Happens (Counted 0 1) ∷ Happens (Finished 0 set_1 (Number 1)) ∷ []) → ⊥
count_after h = let e = (h.1.1.0 refl).1 refl in cc

nothing_counted : of_party_0 kinds.Counts 1 (Happens (Begun 0 set_1) ∷ Leaves 0 1 ∷ Happens (Finished 0 set_1 (Number 0)) ∷ []) → ⊥
nothing_counted h = let e = (h.1.0 refl).1 in cc

-- a reset of all acts on each place
place_forgotten : of_party_0 kinds.Bits 1 (Happens (Begun 0 (Bits ResetAll)) ∷ Happens (Finished 0 (Bits ResetAll) Done) ∷ []) → ⊥
place_forgotten h = (h.1.0 refl).1 tt (omega arith)

-- a place that stands is not left silently by a reset
standing_is_left : of_party_0 kinds.Bits 1 (Happens (told.Set 1 1) ∷ Happens (Begun 0 (Bits ResetAll)) ∷ Leaves 0 1 ∷ []) → ⊥
standing_is_left h = let e = (h.1.1.0 refl).1 in cc

-- no place is acted on twice by one call
acted_twice : of_party_0 kinds.Bits 1 (Happens (Begun 0 (Bits ResetNext)) ∷ Leaves 0 1 ∷ Leaves 0 1 ∷ []) → ⊥
acted_twice h = h.1.1.0 refl

-- ---- None though at each moment of the call some place stood

abbrev set_of : ℕ → List (Turn ℕ) → Trace ℕ
set_of capacity turns = run turns (opening one_word kinds.Bits capacity 2)

-- 1 stands; the party 0 begins, and before it looks at 0 that is clear again, before it looks at 1 that is
abbrev passed_by : List (Turn ℕ)
passed_by =
    Begin 1 set_1 ∷ Next 1 ∷ Next 1
    ∷ Begin 0 (Bits ResetNext) ∷ Next 0
    ∷ Begin 1 (Bits (Set 0)) ∷ Next 1 ∷ Next 1
    ∷ Begin 1 (Bits ResetNext) ∷ Next 1 ∷ Next 1 ∷ Next 1 ∷ Next 1
    ∷ Next 0
    ∷ Begin 1 (Bits (Set 0)) ∷ Next 1 ∷ Next 1
    ∷ Begin 1 (Bits ResetNext) ∷ Next 1 ∷ Next 1 ∷ Next 1 ∷ Next 1
    ∷ Next 0
    ∷ []

-- what the reset of the next place, and the calls beside it, have written
abbrev passed_by_told : List (Event ℕ)
passed_by_told =
    Begun 1 set_1
    ∷ told.Set 1 1
    ∷ Finished 1 set_1 (Truth true)
    ∷ Begun 0 (Bits ResetNext)
    ∷ Begun 1 (Bits (Set 0))
    ∷ told.Set 1 0
    ∷ Finished 1 (Bits (Set 0)) (Truth true)
    ∷ Begun 1 (Bits ResetNext)
    ∷ Cleared 1 0
    ∷ Finished 1 (Bits ResetNext) (Reset 0)
    ∷ Begun 1 (Bits (Set 0))
    ∷ told.Set 1 0
    ∷ Finished 1 (Bits (Set 0)) (Truth true)
    ∷ Begun 1 (Bits ResetNext)
    ∷ Cleared 1 1
    ∷ Finished 1 (Bits ResetNext) (Reset 1)
    ∷ Finished 0 (Bits ResetNext) ResetNone
    ∷ []

none_is_told : (set_of 2 passed_by).events ≡ passed_by_told
none_is_told = refl

-- how many places stand after this number of events: at least one, from the begin of the call to its end
abbrev stood : ℕ → ℕ
stood k = standing 0 (take k passed_by_told) + standing 1 (take k passed_by_told)

-- in each of these moments one place stands, at least
never_empty : map stood (4 ∷ 5 ∷ 6 ∷ 7 ∷ 8 ∷ 9 ∷ 10 ∷ 11 ∷ 12 ∷ 13 ∷ 14 ∷ 15 ∷ 16 ∷ [])
    ≡ 1 ∷ 1 ∷ 2 ∷ 2 ∷ 2 ∷ 1 ∷ 1 ∷ 1 ∷ 2 ∷ 2 ∷ 2 ∷ 1 ∷ 1 ∷ []
never_empty = refl

-- ---- a reset of all that clears 0 and 64, which at no moment stood both

abbrev set_64 : Start ℕ
set_64 = Bits (Set 64)

abbrev set_0 : Start ℕ
set_0 = Bits (Set 0)

-- party 1 sets 0 twice and then 64 twice, and the reset of party 0 clears word 0 after the first
-- set, and word 1 after the third
abbrev word_by_word : List (Turn ℕ)
word_by_word =
    Begin 1 set_0 ∷ Next 1 ∷ Next 1
    ∷ Begin 0 (Bits ResetAll) ∷ Next 0
    ∷ Begin 1 set_0 ∷ Next 1 ∷ Next 1
    ∷ Begin 1 set_64 ∷ Next 1 ∷ Next 1
    ∷ Next 0
    ∷ Begin 1 set_64 ∷ Next 1 ∷ Next 1
    ∷ []

-- what the reset of all, and the calls beside it, have written
abbrev word_by_word_told : List (Event ℕ)
word_by_word_told =
    Begun 1 set_0
    ∷ told.Set 1 0
    ∷ Finished 1 set_0 (Truth true)
    ∷ Begun 0 (Bits ResetAll)
    ∷ Cleared 0 0
    ∷ Begun 1 set_0
    ∷ told.Set 1 0
    ∷ Finished 1 set_0 (Truth true)
    ∷ Begun 1 set_64
    ∷ told.Set 1 64
    ∷ Finished 1 set_64 (Truth true)
    ∷ Cleared 0 64
    ∷ Finished 0 (Bits ResetAll) Done
    ∷ Begun 1 set_64
    ∷ told.Set 1 64
    ∷ Finished 1 set_64 (Truth true)
    ∷ []

all_is_told : (set_of 70 word_by_word).events ≡ word_by_word_told
all_is_told = refl

-- the set as one object, of which a reset of all clears every place at once
abbrev flag_set : Object ℕ (ℕ → Bool)
flag_set = record { opening = λ b. false; after = after; answer = answer }
  where
    -- what a call leaves of the flags
    after : (ℕ → Bool) → Start ℕ → (ℕ → Bool)
    after flags (Bits (Set place)) = λ b. (b == place) || flags b
    after flags start = λ b. false

    -- what a call answers by the flags
    answer : (ℕ → Bool) → Start ℕ → Answer ℕ
    answer flags (Bits (Set place)) = Truth (not (flags place))
    answer flags start = Done

abbrev entry : Start ℕ → Answer ℕ → Start ℕ × Answer ℕ
entry start answer = (start, answer)

abbrev sets_true : Start ℕ → Start ℕ × Answer ℕ
sets_true start = entry start (Truth true)

abbrev cleared_all : Start ℕ × Answer ℕ
cleared_all = entry (Bits ResetAll) Done

-- The four sets follow one another, and the reset began after the first and ended before the last: in none of the three
-- places where it can stand does the object answer so.
at_first : IsLegal flag_set (sets_true set_0 ∷ cleared_all ∷ sets_true set_0 ∷ sets_true set_64 ∷ sets_true set_64 ∷ []) → ⊥
at_first legal = cc

in_the_middle : IsLegal flag_set (sets_true set_0 ∷ sets_true set_0 ∷ cleared_all ∷ sets_true set_64 ∷ sets_true set_64 ∷ []) → ⊥
in_the_middle legal = cc

at_last : IsLegal flag_set (sets_true set_0 ∷ sets_true set_0 ∷ sets_true set_64 ∷ cleared_all ∷ sets_true set_64 ∷ []) → ⊥
at_last legal = cc
