-- The robust index set as it opens: no index is filled, and nobody has died.
use Rattle.laws_robust.proofs.Names.{◌≡◌, ℕ, zero, suc, ◌^◌, ◌<◌, ◌≤◌, None, [], replicate, get_or, refl, arith}
use Rattle.laws_robust.proofs.Names.{length-replicate, empty, opening_words, capacity_error, Each-nil, length, ap}
use Rattle.laws_robust.proofs.Names.{◌+◌, ◌==◌, locked, List}
use Rattle.model.specs.declared.turn.Kind.TheVariants as kinds
use Rattle.laws_robust.specs.Gone.{GoneBy}
use Rattle.laws_robust.proofs.Core.{cell, counter_of}
use Rattle.laws_robust.proofs.Invariant.{Good}

-- each place of a list of equal numbers has this number
pub all_the_same : (x n i : ℕ) → i < n → get_or (replicate n x) i 0 ≡ x
all_the_same x zero i below = absurd (omega arith)
all_the_same x (suc n) zero below = refl
all_the_same x (suc n) (suc i) below = all_the_same x n i (omega arith)

-- each cell opens empty
pub opening_cell : (c i : ℕ) → i < c → cell (opening_words c) i ≡ empty
opening_cell = grind (arith, suc, opening_words, all_the_same, empty)

-- before any event the invariant (`Good`) holds of words whose counter is 0 and whose cells, at least one and fewer than 2^32, are empty
pub unfilled_good : {T : Type 0} {by : GoneBy} {c : ℕ} {words : List ℕ} → 1 ≤ c → c < 2 ^ 32 → c + 1 ≤ length words → counter_of words ≡ 0
    → ((i : ℕ) → i < c → cell words i ≡ empty) → Good {T = T} by c words [] [] 0
unfilled_good some few wide at_zero cells =
    record {
      some = some;
      few = few;
      wide = wide;
      cells = cells;
      filled = λ i owner e. absurd (cc);
      lock = ap (λ n. n == locked) at_zero;
      low = λ t. omega arith;
      bound = omega arith;
      died = λ owner. refl;
      does = Each-nil _;
      answers = Each-nil _;
      owned = λ calm. record { held = λ i owner e. absurd (cc); settled = λ i owner e. absurd (cc) };
      holds = λ calm. Each-nil _;
    }

-- in the opening the invariant holds: no index is filled, and nobody has died
pub opening_good : {T : Type 0} {by : GoneBy} {c : ℕ} → 1 ≤ c → c < 2 ^ 32 → Good {T = T} by c (opening_words c) [] [] 0
opening_good {c = c} some few = let long = length-replicate {A = ℕ} c empty in unfilled_good some few (omega arith) refl (opening_cell c)

-- a capacity that is admitted is at least 1 and below 2 ^ 32
pub admitted_is : (c : ℕ) → capacity_error kinds.Robust c ≡ None → (1 ≤ c) × (c < 2 ^ 32)
admitted_is c capacity_fits = grind arith
