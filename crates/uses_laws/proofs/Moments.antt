-- What holds at each moment of a call, or at none, and how many of the two indices 0 and 1 are counted.
use Rattle.std.proofs.Common.{◌≡◌, ℕ, ◌+◌, Bool, true, false, Some, None, is_some, List, [], ◌∷◌, ◌++◌, if◌then◌else◌}
use Rattle.std.proofs.Common.{refl, arith}
use Rattle.model.specs.declared.event.Event.{Event}
use Rattle.model.specs.declared.event.Event.TheVariants.{Begun}
use Rattle.model.specs.declared.event.Start.{Start}
use Rattle.model.specs.Families.Indices.Robust.Promises.{count_below}
use Rattle.model.specs.Moments.{HeldSometime}
pub use Rattle.model.proofs.Moments.{throughout}
use Rattle.model.proofs.Moments.{so_since, Stays}

-- what holds at none of these moments held at no moment of the call
pub at_none_since : (p : ℕ) (start : Start ℕ) (P : List (Event ℕ) → Type 0) (before since : List (Event ℕ))
    → Stays (λ part. P part → ⊥) (before ++ Begun p start ∷ []) since
    → HeldSometime p P (before ++ Begun p start ∷ since)
    → ⊥
at_none_since p start P before since never h = so_since p start P before since never h

-- ---- counts

-- If two of two are counted, the second is.
two_of_two : (a b : Bool) → (if b then 1 else 0) + ((if a then 1 else 0) + 0) ≡ 2 → b ≡ true
two_of_two a true e = refl
two_of_two true false e = absurd (omega arith)
two_of_two false false e = absurd (omega arith)

-- if both indices are counted, index 1 is
pub both_of_two : (chosen : ℕ → Bool) → count_below chosen 2 ≡ 2 → chosen 1 ≡ true
both_of_two chosen is = two_of_two (chosen 0) (chosen 1) is

-- If the first of two is counted, the count is not 0.
one_at_least : (a b : Bool) → a ≡ true → (if b then 1 else 0) + ((if a then 1 else 0) + 0) ≡ 0 → ⊥
one_at_least true true first e = absurd (omega arith)
one_at_least true false first e = absurd (omega arith)
one_at_least false b first e = cc

-- if index 0 is counted, the count is not 0
pub one_of_two : (chosen : ℕ → Bool) → chosen 0 ≡ true → count_below chosen 2 ≡ 0 → ⊥
one_of_two chosen one none = one_at_least (chosen 0) (chosen 1) one none

-- ---- an index that was filled and freed has no owner, and no other has one

pub none_stays : (b : Bool) → is_some {T = ℕ} (if b then None else (if b then Some 7 else None)) ≡ true → ⊥
none_stays true some = cc
none_stays false some = cc
