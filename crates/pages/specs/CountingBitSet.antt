-- The counting bit set: its words, its calls stage by stage, and what they do at one place.
use Rattle.std.specs.Prelude.{ℕ, ◌+◌, ◌==◌, Bool, true, Option, Some, None, List, [], ◌∷◌, ◌++◌, replicate, if◌then◌else◌, nat_lt}
use Rattle.std.specs.List.{sum_by}
use Rattle.pages.specs.Machine.{Operation, Add, Swap, After, GoOn, Done, Structure}
use Rattle.pages.specs.Places.{Act}

-- the calls: count a place, or take all counts out
pub data Call : Type 0 where
  Set : (place : ℕ) → Call
  ResetAll : Call

-- what the place counted before; each place that counted, and what
pub data Answer : Type 0 where
  Counted : (before : ℕ) → Answer
  WereReset : (counts : List (ℕ × ℕ)) → Answer

-- a call under way, by the word access that it makes next
pub data Stage : Type 0 where
  SetAdds : (place : ℕ) → Stage
  AllSwaps : (place : ℕ) (counts : List (ℕ × ℕ)) → Stage

-- the stage with which a call begins
abbrev pub first : Call → Stage
first (Set place) = SetAdds place
first ResetAll = AllSwaps 0 []

-- a reset of all goes on to the next place, and after the last one it hands the counts out
abbrev pub all_goes_on : (capacity place : ℕ) → List (ℕ × ℕ) → After Stage Answer
all_goes_on capacity place counts =
    if nat_lt (place + 1) capacity then GoOn (AllSwaps (place + 1) counts) else Done (WereReset counts)

-- a place that counts 0 is not handed out
abbrev pub does : ℕ → Stage → ℕ × Operation × (ℕ → After Stage Answer)
does c (SetAdds place) = (place, Add 1, λ old. Done (Counted old))
does c (AllSwaps place counts) =
    (place, Swap 0, λ old. all_goes_on c place (if old == 0 then counts else counts ++ (place, old) ∷ []))

-- which calls may begin: those on places of the set
abbrev pub may : (capacity p : ℕ) → Call → Bool
may capacity p (Set place) = nat_lt place capacity
may capacity p ResetAll = true

-- the counting bit set of the page, in its first words: a count of 0 for each place
abbrev pub counting_bit_set : ℕ → Structure Call Stage Answer
counting_bit_set c = record { words = replicate c 0; may = may c; first = first; does = does c }

-- ---- at one place

-- how much of the place was handed out
abbrev pub handed : ℕ → List (ℕ × ℕ) → ℕ
handed b counts = sum_by (λ x. if x.0 == b then x.1 else 0) counts

-- What a call does at place `b`, as its answer tells:
-- a count finds the number and adds 1 to it, a reset of all takes it all out.
abbrev pub at : ℕ → Call → Answer → Option Act
at b (Set place) (Counted before) = if place == b then Some (record { found = before; left = before + 1 }) else None
at b ResetAll (WereReset counts) = Some (record { found = handed b counts; left = 0 })
at b call answer = None
