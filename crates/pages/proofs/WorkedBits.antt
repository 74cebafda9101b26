-- Worked runs of the pages of the bit set and of the counting bit set, and histories that the theorems refuse.
use Rattle.std.specs.List.{All, AllPairs, Contains}
use Rattle.std.specs.Prelude.{IfSome}
use Rattle.std.proofs.Common.{◌≡◌, List, Some, [], ◌∷◌, ◌++◌, ◌∙◌, ◌≢◌, ℕ, arith, fold, map, refl, subst, sym, true, false, ⊎_elim}
use Rattle.model.proofs.Linearizable.Members.{none_there, split}
use Rattle.pages.specs.BitSet.{Answer, Call, ResetAll, ResetNext, Set, Stage, WasReset, WasSet, WereReset, at, bit_set, now}
use Rattle.pages.specs.CountingBitSet as counts
use Rattle.pages.specs.Machine.{Begin, Called, Event, Next, Invoked, Responded, Turn, World, calls_from, opening, turned}
use Rattle.pages.specs.Places.{Act, ActsAt, IsChain}

abbrev run : List (Turn Call) → World Call Stage Answer
run turns = fold (turned (bit_set 70)) (opening (bit_set 70)) turns

abbrev history : List (Turn Call) → List (Event Call Answer)
history turns = (run turns).history

abbrev setting : ℕ → ℕ → List (Turn Call)
setting p place = Begin p (Set place) ∷ Next p ∷ Next p ∷ []

-- two places in two elements are set, and one call resets both
all_reset : history (setting 0 3 ++ setting 1 65 ++ Begin 2 ResetAll ∷ Next 2 ∷ Next 2 ∷ [])
    ≡ Invoked 0 (Set 3) ∷ Responded 0 (WasSet true) ∷ Invoked 1 (Set 65) ∷ Responded 1 (WasSet true)
    ∷ Invoked 2 ResetAll ∷ Responded 2 (WereReset (3 ∷ 65 ∷ [])) ∷ []
all_reset = refl

-- a reset has swapped the first element, and stops there: the bit is in its hands, and a second reset hands out the other alone
abbrev stopped : List (Turn Call)
stopped = setting 0 3 ++ setting 1 65 ++ Begin 2 ResetAll ∷ Next 2 ∷ Begin 3 ResetAll ∷ Next 3 ∷ Next 3 ∷ []

one_in_hand : history stopped
    ≡ Invoked 0 (Set 3) ∷ Responded 0 (WasSet true) ∷ Invoked 1 (Set 65) ∷ Responded 1 (WasSet true)
    ∷ Invoked 2 ResetAll ∷ Invoked 3 ResetAll ∷ Responded 3 (WereReset (65 ∷ [])) ∷ []
one_in_hand = refl

none_stands_there : now (run stopped).words 3 ≡ 0
none_stands_there = refl

-- two parties set one place: the second finds the element changed, and the bit set
both_set : history (Begin 0 (Set 3) ∷ Next 0 ∷ Begin 1 (Set 3) ∷ Next 1 ∷ Next 0 ∷ Next 1 ∷ [])
    ≡ Invoked 0 (Set 3) ∷ Invoked 1 (Set 3) ∷ Responded 0 (WasSet true) ∷ Responded 1 (WasSet false) ∷ []
both_set = refl

-- a search begins behind the place that the last one reset
abbrev small : List (Turn Call) → List (Event Call Answer)
small turns = (fold (turned (bit_set 2)) (opening (bit_set 2)) turns).history

-- the second search finds the second place first, though the first is set again
next_one : small (setting 0 0 ++ setting 0 1
    ++ Begin 1 ResetNext ∷ Next 1 ∷ Next 1 ∷ Next 1 ∷ Next 1 ∷ setting 0 0
    ++ Begin 1 ResetNext ∷ Next 1 ∷ Next 1 ∷ Next 1 ∷ Next 1 ∷ [])
    ≡ Invoked 0 (Set 0) ∷ Responded 0 (WasSet true) ∷ Invoked 0 (Set 1) ∷ Responded 0 (WasSet true)
    ∷ Invoked 1 ResetNext ∷ Responded 1 (WasReset (Some 0)) ∷ Invoked 0 (Set 0) ∷ Responded 0 (WasSet true)
    ∷ Invoked 1 ResetNext ∷ Responded 1 (WasReset (Some 1)) ∷ []
next_one = refl

-- none begins a set of a place past the last
past : history (Begin 0 (Set 70) ∷ []) ≡ []
past = refl

-- ---- counts

-- Two sets of place 1 count 2 there, which the reset of all hands out.
counted : (fold (turned (counts.counting_bit_set 2)) (opening (counts.counting_bit_set 2))
    (Begin 0 (counts.Set 1) ∷ Begin 1 (counts.Set 1) ∷ Next 1 ∷ Next 0 ∷ Begin 2 counts.ResetAll ∷ Next 2 ∷ Next 2 ∷ [])).history
    ≡ Invoked 0 (counts.Set 1) ∷ Invoked 1 (counts.Set 1) ∷ Responded 1 (counts.Counted 0) ∷ Responded 0 (counts.Counted 1)
    ∷ Invoked 2 counts.ResetAll ∷ Responded 2 (counts.WereReset ((1, 2) ∷ [])) ∷ []
counted = refl

-- ---- histories of one call

abbrev entry : Called Call Answer → Act → Called Call Answer × Act
entry call act = (call, act)

module _ (call : Call) (answer : Answer) where
  abbrev only : Called Call Answer
  only = record { place = 0; party = 0; call = call; response = Some (1, answer) }

  abbrev one_call : List (Event Call Answer)
  one_call = Invoked 0 call ∷ Responded 0 answer ∷ []

  is_only : (c : Called Call Answer) → Contains (calls_from one_call 0) c → only ≡ c
  is_only c is = ⊎_elim (λ e. e) (λ more. absurd (none_there c more)) (split only c [] is)

  module _ (act : Act) (last : ℕ) where
    -- one call that is all of a sequence found 0, and left what is there in the end
    alone : (xs : List (Called Call Answer × Act)) → IsChain 0 (map (λ x. x.1) xs) last → All (λ x. Contains (calls_from one_call 0) x.0) xs
        → AllPairs (λ x y. x.0 ≢ y.0) xs → Contains xs (entry only act) → (act.found ≡ 0) × (act.left ≡ last)
    alone [] chain invoked once is = absurd (none_there (entry only act) is)
    alone (x ∷ []) chain invoked once is =
        ⊎_elim
        (λ e. (
          subst (λ (x : Called Call Answer × Act). x.1.found ≡ 0) e chain.0,
          subst (λ (x : Called Call Answer × Act). x.1.left ≡ last) e chain.1,
        ))
        (λ more. absurd (none_there (entry only act) more)) (split x (entry only act) [] is)
    alone (x ∷ y ∷ rest) chain invoked once is =
        absurd (once 0 1 x (omega arith) (omega arith)
        (sym (is_only x.0 (invoked 0 x (omega arith))) ∙ is_only y.0 (invoked 1 x (omega arith))))

    -- it found 0, and left what is there now
    of_one : at 3 call answer ≡ Some act → ActsAt (at 3) one_call last → (act.found ≡ 0) × (act.left ≡ last)
    of_one does h =
        alone h.sequence h.chain h.invoked h.once
        (subst (λ o. IfSome o (λ act. Contains h.sequence (entry only act))) does (h.completed 0 only (omega arith)))

one_is_none : (n : ℕ) → n ≡ 1 → n ≡ 0 → ⊥
one_is_none n e f = omega arith

-- a bit that nobody set is handed out
from_nothing : ActsAt (at 3) (one_call ResetNext (WasReset (Some 3))) 0 → ⊥
from_nothing h = one_is_none 1 refl (of_one ResetNext (WasReset (Some 3)) (record { found = 1; left = 0 }) 0 refl h).0

-- a reset of all hands out bits that nobody set
all_from_nothing : ActsAt (at 3) (one_call ResetAll (WereReset (2 ∷ 3 ∷ []))) 0 → ⊥
all_from_nothing h = one_is_none 1 refl (of_one ResetAll (WereReset (2 ∷ 3 ∷ [])) (record { found = 1; left = 0 }) 0 refl h).0

-- a bit was set, and does not stand
lost : ActsAt (at 3) (one_call (Set 3) (WasSet true)) 0 → ⊥
lost h = one_is_none 1 refl (of_one (Set 3) (WasSet true) (record { found = 0; left = 1 }) 0 refl h).1

-- nobody set the bit, and it stood already
stood_already : ActsAt (at 3) (one_call (Set 3) (WasSet false)) 1 → ⊥
stood_already h = one_is_none 1 refl (of_one (Set 3) (WasSet false) (record { found = 1; left = 1 }) 1 refl h).0
