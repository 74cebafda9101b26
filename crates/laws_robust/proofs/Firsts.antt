-- What a call of the robust index set knows at its first stage, and which calls begin on the set.
use Rattle.laws_robust.proofs.Names.{◌≡◌, ℕ, ◌<◌, ◌≤◌, nat_le, if◌then◌else◌, Bool, true, false, Some, None}
use Rattle.laws_robust.proofs.Names.{option_map, List, [], ◌∷◌, ◌++◌, refl, sym, ◌∙◌, arith, nat_tests, empty, Event}
use Rattle.laws_robust.proofs.Names.{Begun, Start, Robust, Flight, Registry, RobustStart, RobustFlight, BadIndex}
use Rattle.laws_robust.proofs.Names.{OwnerIsDead, first_of, first, has_died, is_owner, names_owner, call_rows}
use Rattle.laws_robust.proofs.Names.{IsFilledWith, SetAct, settled_of, set_acts_of, IsOneOf, first_row, no_more}
use Rattle.laws_robust.proofs.Names.{row_passed}
use Rattle.model.specs.declared.families.Flight.TheVariants as flights
use Rattle.model.specs.declared.families.indices.robust.RobustStart.TheVariants as starts
use Rattle.model.specs.declared.turn.Kind.TheVariants as kinds
use Rattle.laws_robust.specs.Gone.{GoneBy, IsCalm}
use Rattle.laws_robust.proofs.Begins.{taken}
use Rattle.lemmas_owners.proofs.Counting.{count_none}
use Rattle.laws_robust.proofs.Gone.{calm_less}
use Rattle.laws_robust.proofs.Invariant.{view}
use Rattle.laws_robust.proofs.Knows.{Knows}
use Rattle.lemmas_owners.proofs.Past.{since_begun}
use Rattle.laws_robust.proofs.Rights.{AreOwned}
use Rattle.laws_robust.proofs.CallProgress.{At}

-- the call stands at its first stage, and knows what the stage says as it begins
pub record IsFirst (T : Type 0) (by : GoneBy) (c : ℕ) (words : List ℕ) (events : List (Event T)) (p changes : ℕ)
    (start : RobustStart) (flight : RobustFlight) : Type 0 where
  pub at : At c [] start flight
  pub knows : Knows c flight (view by words (events ++ Begun p (Robust start) ∷ []) p changes changes 0)

-- a call that has done nothing has done no one thing
none_of : {A : Type 0} {one : SetAct} {done : List SetAct} → done ≡ [] → IsOneOf one done → A
none_of {one = one} none is_one = absurd (no_more is_one.before one is_one.after (sym none ∙ is_one.is))

-- a number that may be an owner is below the value of an empty cell
is_below : (owner : ℕ) → is_owner owner ≡ true → owner < empty
is_below owner owner_valid = grind (arith, nat_tests)

-- party `p` begins a call on a set of capacity `c`
module _ {T : Type 0} (by : GoneBy) (c : ℕ) (words : List ℕ) {events : List (Event T)} (p changes : ℕ)
    (some : 1 ≤ c) (owned : IsCalm by events → AreOwned events) where
  -- each begin that is not refused leads to a call that stands at its first stage and
  -- knows what the stage says
  pub first_is : (start : RobustStart) → names_owner start ≡ true → (dead : List ℕ)
      → first_row (call_rows c dead start) ≡ None → set_acts_of p (events ++ Begun p (Robust start) ∷ []) ≡ []
      → IsFirst T by c words events p changes start (first c start)
  first_is (starts.Acquire owner) named dead not_refused none =
      record { at = (refl, refl, is_below owner named, refl); knows = record { paid = omega arith; scanned = tt; owns = tt; says = tt; gone = tt } }
  first_is (starts.Release index owner mode) named dead r none =
      let low = row_passed (nat_le c index) BadIndex (first_row ((has_died owner dead, OwnerIsDead) ∷ [])) r in
      let t : nat_le c index ≡ false = low.0 in
      let below : index < c = grind (arith, nat_tests) in
      let written : List (Event T) = Begun p (Robust (starts.Release index owner mode)) ∷ [] in
      record {
        at = (refl, refl, is_below owner named, below, refl);
        knows =
            record {
              paid = omega arith;
              scanned = tt;
              owns =
                  λ calm alive began. taken p index owner (Robust (starts.Release index owner mode)) events (λ r. refl)
                  (owned (calm_less by events (Begun p (Robust (starts.Release index owner mode)) ∷ []) calm))
                  (since_begun p (λ part. settled_of index part ≡ Some owner) events (Robust (starts.Release index owner mode)) began);
              says = tt;
              gone = tt;
            };
      }
  first_is (starts.Find owner) named dead not_refused none =
      record {
        at = (refl, refl, is_below owner named, (omega arith, refl));
        knows = record {
          paid = omega arith;
          scanned = tt;
          owns = tt;
          says = count_none p (IsFilledWith owner)
              (events ++ Begun p (Robust (starts.Find owner)) ∷ []);
          gone = tt;
        };
      }
  first_is (starts.Recover mode) named dead not_refused none =
      record {
        at = (refl, refl, refl);
        knows = record {
          paid = omega arith;
          scanned = tt;
          owns = tt;
          says = tt;
          gone = λ i owner told. none_of none told;
        };
      }
  first_is starts.BorrowedIndices named dead not_refused none =
      record { at = (refl, tt, refl); knows = record { paid = omega arith; scanned = tt; owns = tt; says = tt; gone = tt } }
  first_is starts.IsLocked named dead not_refused none =
      record { at = refl; knows = record { paid = omega arith; scanned = tt; owns = tt; says = tt; gone = tt } }

-- the call of a begin is the one that the table names, for an owner whose number is not that of an empty cell
abbrev pub IsOwn : (T : Type 0) → ℕ → Start T → Flight T → Type 0
IsOwn T c (Robust start) (flights.Robust flight) = (first c start ≡ flight) × (names_owner start ≡ true)
IsOwn T c start flight = ⊥

-- `c` is the capacity
module _ (T : Type 0) (c : ℕ) where
  -- the first stage of a call of the set is that of its own start
  named_own : (start : RobustStart) (flight : Flight T) (b : Bool) → names_owner start ≡ b
      → option_map flights.Robust (if b then Some (first c start) else None) ≡ Some flight
      → IsOwn T c (Robust start) flight
  named_own start flight b names_test e = grind arith

  -- each call that a begin of the set leads to is at the first stage of its own start
  pub begins_own : (kept : Registry T) (start : Start T) (flight : Flight T)
      → first_of kinds.Robust c start kept ≡ Some flight → IsOwn T c start flight
  begins_own = grind (arith, named_own)
