-- Machines of sets that are not those of the pages, each wrong in one stage: the theorem of its page is false of it.
use Rattle.std.specs.List.{filter, range_with_len}
use Rattle.std.specs.Prelude.{bit_or, if◌then◌else◌}
use Rattle.std.proofs.Common.{◌*◌, ◌/◌, ◌%◌, ◌^◌, ◌-◌, ◌+◌, ◌<◌, ◌==◌, ◌≡◌, ◌++◌, ◌∷◌, List, None, Some, []}
use Rattle.std.proofs.Common.{arith, false, fold, nat_lt, refl, slice_index, true, true≢false, ℕ}
use Rattle.std.proofs.lemmas.Bool.Decides.{nat_tests}
use Rattle.pages.specs.BitSet as bits
use Rattle.pages.specs.CountingBitSet as counts
use Rattle.pages.specs.Machine.{Add, After, Begin, Done, Exchange, GoOn, Invoked, Load, Next, Operation, Or, Responded, Structure, Swap, Turn}
use Rattle.pages.specs.Machine.{World, opening, turned}
use Rattle.pages.specs.Places.{ActsAt}
use Rattle.pages.specs.UniqueIndexSet as unique
use Rattle.pages.proofs.InSequence.{in_sequence}

-- what a machine does over these turns
abbrev after : {Call Stage Answer : Type 0} → Structure Call Stage Answer → List (Turn Call) → World Call Stage Answer
after of turns = fold (turned of) (opening of) turns

below : (m n : ℕ) → nat_lt m n ≡ true → m < n
below m n t = grind (arith, nat_tests)

unequal : (m n : ℕ) → m < n → m ≡ n → ⊥
unequal m n lt e = omega arith

unequal_back : (m n : ℕ) → m < n → n ≡ m → ⊥
unequal_back m n lt e = omega arith

-- ---- the bit set

-- what the calls of a bit set do at each stage: the word, the operation, and how they go on from
-- the old value
abbrev Bits : Type 0
Bits = bits.Stage → ℕ × Operation × (ℕ → After bits.Stage bits.Answer)

abbrev over : Bits → List (Turn bits.Call) → World bits.Call bits.Stage bits.Answer
over does turns = after (record (bits.bit_set 70) { does = does }) turns

-- In these turns of a set of 70 places with this table, each call acts at place 3 at one moment.
abbrev BitsAct : Bits → List (Turn bits.Call) → Type 0
BitsAct does turns = ActsAt (bits.at 3) (over does turns).history (bits.now (over does turns).words 3)

abbrev set_3 : List (Turn bits.Call)
set_3 = Begin 0 (bits.Set 3) ∷ Next 0 ∷ Next 0 ∷ []

-- a set writes the element after that of its place
abbrev next_element : Bits
next_element (bits.SetExchangesElement place element) =
    (2 + place / 64, Exchange element (bit_or element (2 ^ (place % 64))), λ old. if old == element then Done (bits.WasSet true) else bits.set_tests place old)
next_element stage = bits.does 70 stage

not_next_element : BitsAct next_element set_3 → ⊥
not_next_element bits_act =
    unequal_back 0 1 (omega arith) (in_sequence (bits.at 3) bits_act (((1, bits.WasSet true), refl), (tt, tt))).1

-- a set answers true, and has not written
abbrev unwritten : Bits
unwritten (bits.SetLoadsElement place) = (1 + place / 64, Load, λ old. Done (bits.WasSet true))
unwritten stage = bits.does 70 stage

not_unwritten : BitsAct unwritten set_3 → ⊥
not_unwritten bits_act =
    unequal_back 0 1 (omega arith) (in_sequence (bits.at 3) bits_act (((1, bits.WasSet true), refl), (tt, tt))).1

-- a reset of the next place hands it out untested
abbrev untested : Bits
untested (bits.NextLoadsElement start passed) = (1, Load, λ old. GoOn (bits.NextStoresPosition 3))
untested stage = bits.does 70 stage

abbrev reset_next : List (Turn bits.Call)
reset_next = Begin 0 bits.ResetNext ∷ Next 0 ∷ Next 0 ∷ Next 0 ∷ []

not_untested : BitsAct untested reset_next → ⊥
not_untested bits_act =
    unequal_back 0 1 (omega arith) (in_sequence (bits.at 3) bits_act (((1, bits.WasReset (Some 3)), refl), (tt, tt))).0

-- a reset of all loads the elements, and swaps none
abbrev loads_all : Bits
loads_all (bits.AllSwapsElement word places) = (
  word,
  Load,
  λ old. bits.all_goes_on 70 word (places ++ filter (λ place. bits.stands old place) (range_with_len ((word - 1) * 64) 64)),
)
loads_all stage = bits.does 70 stage

abbrev set_reset : List (Turn bits.Call)
set_reset = set_3 ++ Begin 0 bits.ResetAll ∷ Next 0 ∷ Next 0 ∷ []

not_loads_all : BitsAct loads_all set_reset → ⊥
not_loads_all bits_act =
    unequal 0 1 (omega arith)
    (in_sequence (bits.at 3) bits_act
    (((1, bits.WasSet true), refl), (((below 0 2 refl, below 1 2 refl), tt), (((3, bits.WereReset (3 ∷ [])), refl), (tt, tt))))).1.1

-- a reset of all hands out the places of the last element alone
abbrev last_alone : Bits
last_alone (bits.AllSwapsElement word places) = (
  word,
  Swap 0,
  λ old. bits.all_goes_on 70 word (filter (λ place. bits.stands old place) (range_with_len ((word - 1) * 64) 64)),
)
last_alone stage = bits.does 70 stage

not_last_alone : BitsAct last_alone set_reset → ⊥
not_last_alone bits_act =
    unequal 0 1 (omega arith)
    (in_sequence (bits.at 3) bits_act
    (((1, bits.WasSet true), refl), (((below 0 2 refl, below 1 2 refl), tt), (((3, bits.WereReset []), refl), (tt, tt))))).1.0

-- a search does not go on at 0 behind the last place
abbrev no_wrap : Bits
no_wrap (bits.NextLoadsElement start passed) = (
  1 + (start + passed) / 64,
  Load,
  λ old. if bits.stands old (start + passed) then GoOn (bits.NextExchangesElement start passed old) else bits.next_comes_to 2 start (passed + 1),
)
no_wrap stage = bits.does 2 stage

abbrev searches : List (Turn bits.Call)
searches =
    Begin 0 (bits.Set 1) ∷ Next 0 ∷ Next 0 ∷ Begin 1 bits.ResetNext ∷ Next 1 ∷ Next 1 ∷ Next 1 ∷ Next 1 ∷ Next 1
    ∷ Begin 0 (bits.Set 0) ∷ Next 0 ∷ Next 0 ∷ Begin 1 bits.ResetNext ∷ Next 1 ∷ Next 1 ∷ Next 1 ∷ []

abbrev of_two : Structure bits.Call bits.Stage bits.Answer
of_two = record (bits.bit_set 2) { does = no_wrap }

-- the second search finds none, though the bit of place 0 stands all the while
not_no_wrap : ActsAt (bits.at 0) (after of_two searches).history (bits.now (after of_two searches).words 0) → ⊥
not_no_wrap h =
    unequal 0 1 (omega arith) (in_sequence (bits.at 0) h (
      ((1, bits.WasSet true), refl),
      (
        ((below 0 2 refl, below 1 2 refl), ((below 0 4 refl, below 1 4 refl), ((below 0 6 refl, below 1 6 refl), tt))),
        (
          ((3, bits.WasReset (Some 1)), refl),
          (
            ((below 2 4 refl, below 3 4 refl), ((below 2 6 refl, below 3 6 refl), tt)),
            (
              ((5, bits.WasSet true), refl),
              (
                ((below 4 6 refl, below 5 6 refl), tt),
                (((7, bits.WasReset None), refl), (tt, tt)),
              ),
            ),
          ),
        ),
      ),
    )).1.0

-- ---- the counting bit set

-- what the calls of a counting bit set do at each stage
abbrev Counts : Type 0
Counts = counts.Stage → ℕ × Operation × (ℕ → After counts.Stage counts.Answer)

abbrev counted : Counts → List (Turn counts.Call) → World counts.Call counts.Stage counts.Answer
counted does turns = after (record (counts.counting_bit_set 2) { does = does }) turns

-- In these turns of a counting set of 2 places with this table, each call acts at place 0 at one moment.
abbrev CountsAct : Counts → List (Turn counts.Call) → Type 0
CountsAct does turns = ActsAt (counts.at 0) (counted does turns).history (slice_index (counted does turns).words 0)

abbrev count_0 : List (Turn counts.Call)
count_0 = Begin 0 (counts.Set 0) ∷ Next 0 ∷ []

-- a set counts the place after its own
abbrev next_place : Counts
next_place (counts.SetAdds place) = (place + 1, Add 1, λ old. Done (counts.Counted old))
next_place stage = counts.does 2 stage

not_next_place : CountsAct next_place count_0 → ⊥
not_next_place counts_act =
    unequal_back 0 1 (omega arith) (in_sequence (counts.at 0) counts_act (((1, counts.Counted 0), refl), (tt, tt))).1

-- a set answers the count after it
abbrev count_after : Counts
count_after (counts.SetAdds place) = (place, Add 1, λ old. Done (counts.Counted (old + 1)))
count_after stage = counts.does 2 stage

not_count_after : CountsAct count_after count_0 → ⊥
not_count_after counts_act =
    unequal_back 0 1 (omega arith) (in_sequence (counts.at 0) counts_act (((1, counts.Counted 1), refl), (tt, tt))).0

-- a reset of all leaves the counts
abbrev loads_counts : Counts
loads_counts (counts.AllSwaps place taken) =
    (place, Load, λ old. counts.all_goes_on 2 place (if old == 0 then taken else taken ++ (place, old) ∷ []))
loads_counts stage = counts.does 2 stage

abbrev count_reset : List (Turn counts.Call)
count_reset = count_0 ++ Begin 0 counts.ResetAll ∷ Next 0 ∷ Next 0 ∷ []

not_loads_counts : CountsAct loads_counts count_reset → ⊥
not_loads_counts counts_act =
    unequal 0 1 (omega arith) (in_sequence (counts.at 0) counts_act (
      ((1, counts.Counted 0), refl),
      (((below 0 2 refl, below 1 2 refl), tt), (((3, counts.WereReset ((0, 1) ∷ [])), refl), (tt, tt))),
    )).1.1

-- ---- the unique index set

-- what the calls of a unique index set do at each stage
abbrev Unique : Type 0
Unique = unique.Stage → ℕ × Operation × (ℕ → After unique.Stage unique.Answer)

-- In these turns of a set of 2 indices with this table, whoever gets an index is its only holder, and
-- the set is locked only where no index has a holder.
abbrev HoldAlone : Unique → List (Turn unique.Call) → Type 0
HoldAlone does turns = unique.Each (unique.HoldsAlone 2) (after (record (unique.unique_index_set 2) { does = does }) turns).history

some_is_none : (n : ℕ) → Some n ≡ None → ⊥
some_is_none n e = absurd (cc)

abbrev acquiring : ℕ → List (Turn unique.Call)
acquiring p = Begin p unique.Acquire ∷ Next p ∷ Next p ∷ Next p ∷ Next p ∷ []

-- a release that may lock the set locks it, though an index has a holder
abbrev locks_early : Unique
locks_early (unique.ReleaseExchangesHead index may_lock head) =
    (0, Exchange head (unique.head_of head index (2 ^ 24 - 1)), λ old. Done (unique.Released may_lock))
locks_early stage = unique.does 2 stage

-- The release of party 0 locks the set while party 1 holds an index.
not_locks_early : HoldAlone locks_early (acquiring 0 ++ acquiring 1 ++ Begin 0 (unique.Release 0 true) ∷ Next 0 ∷ Next 0 ∷ Next 0 ∷ Next 0 ∷ []) → ⊥
not_locks_early hold_alone =
    some_is_none 1
    (hold_alone (Invoked 0 unique.Acquire ∷ Responded 0 (unique.Acquired 0) ∷ Invoked 1 unique.Acquire ∷ Responded 1 (unique.Acquired 1)
    ∷ Invoked 0 (unique.Release 0 true) ∷ []) [] (Responded 0 (unique.Released true)) refl 1)

-- an acquire does not look whether the set is locked
abbrev lock_unseen : Unique
lock_unseen unique.AcquireLoadsHead =
    (0, Load, λ old. if nat_lt (old / 2 ^ 40) 2 then GoOn (unique.AcquireLoadsNext old) else Done unique.OutOfIndices)
lock_unseen stage = unique.does 2 stage

-- Party 1 acquires an index of a set that is locked.
not_lock_unseen : HoldAlone lock_unseen (acquiring 0 ++ Begin 0 (unique.Release 0 true) ∷ Next 0 ∷ Next 0 ∷ Next 0 ∷ Next 0 ∷ acquiring 1) → ⊥
not_lock_unseen hold_alone =
    true≢false
    (hold_alone (Invoked 0 unique.Acquire ∷ Responded 0 (unique.Acquired 0) ∷ Invoked 0 (unique.Release 0 true) ∷ Responded 0 (unique.Released true)
    ∷ Invoked 1 unique.Acquire ∷ []) [] (Responded 1 (unique.Acquired 0)) refl).2

-- a scan takes an index whose flag is set
abbrev flag_unseen : Unique
flag_unseen (unique.AcquireScans index) = (3 + index / 64, Or (2 ^ (index % 64)), λ old. Done (unique.Acquired index))
flag_unseen stage = unique.does 2 stage

-- two releases cross, so that one of the indices is not proposed any more, and is found by a scan alone
abbrev scanning : List (Turn unique.Call)
scanning =
    acquiring 0 ++ acquiring 1 ++ Begin 1 (unique.Release 1 false) ∷ Next 1 ∷ Next 1 ∷ Next 1
    ∷ Begin 0 (unique.Release 0 false) ∷ Next 0 ∷ Next 0 ∷ Next 0 ∷ Next 0 ∷ Next 1 ∷ Next 1
    ∷ (acquiring 0 ++ Begin 1 unique.Acquire ∷ Next 1 ∷ Next 1 ∷ Next 1 ∷ [])

-- here an index is acquired that has a holder
not_flag_unseen : HoldAlone flag_unseen scanning → ⊥
not_flag_unseen hold_alone =
    some_is_none 0
    (hold_alone (Invoked 0 unique.Acquire ∷ Responded 0 (unique.Acquired 0) ∷ Invoked 1 unique.Acquire ∷ Responded 1 (unique.Acquired 1)
    ∷ Invoked 1 (unique.Release 1 false) ∷ Invoked 0 (unique.Release 0 false) ∷ Responded 0 (unique.Released false)
    ∷ Responded 1 (unique.Released false) ∷ Invoked 0 unique.Acquire ∷ Responded 0 (unique.Acquired 0) ∷ Invoked 1 unique.Acquire ∷ [])
    [] (Responded 1 (unique.Acquired 0)) refl).1
