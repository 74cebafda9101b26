-- A fact about a value that a test picks.
use Rattle.std.proofs.Common.{◌≡◌, ◌≢◌, ℕ, ◌==◌, ◌||◌, Bool, true, false, ⊎_elim, refl, sym, subst}
use Rattle.std.specs.Bool.{if◌then◌else◌}
use Rattle.std.proofs.lemmas.Bool.Decides.{eqb_tells}

-- what holds of either value, each where the test picks it, holds of the one picked
pub by_test : {A : Type 0} (P : A → Type 0) (b : Bool) (x y : A) → (b ≡ true → P x)
    → (b ≡ false → P y) → P (if b then x else y)
by_test P true x y hit miss = hit refl
by_test P false x y hit miss = miss refl

-- what holds of x where two numbers are equal, and of y where they differ, holds of the one that the
-- test for equality picks
pub by_eq : {A : Type 0} (P : A → Type 0) (a b : ℕ) (x y : A) → (a ≡ b → P x) → (a ≢ b → P y)
    → P (if a == b then x else y)
by_eq P a b x y hit miss =
    ⊎_elim (λ t. subst (λ z. P (if z then x else y)) (sym t.0) (hit t.1))
    (λ t. subst (λ z. P (if z then x else y)) (sym t.0) (miss t.1)) (eqb_tells a b)

-- a fact about what the test of two equations picks: each equation that holds picks the first value
pub by_either : {A : Type 0} (P : A → Type 0) (a b c d : ℕ) (x y : A) → (a ≡ b → P x)
    → (c ≡ d → P x) → (a ≢ b → c ≢ d → P y)
    → P (if (a == b) || (c == d) then x else y)
by_either P a b c d x y first second miss =
    ⊎_elim (λ t. subst (λ z. P (if z || (c == d) then x else y)) (sym t.0) (first t.1))
    (λ t. subst (λ z. P (if z || (c == d) then x else y)) (sym t.0)
    (by_eq P c d x y second (miss t.1))) (eqb_tells a b)

-- what holds of true where the two numbers are equal, and of false where they differ, holds of the test
-- whether they are equal
pub by_equal : (P : Bool → Type 0) (a b : ℕ) → (a ≡ b → P true) → (a ≢ b → P false) → P (a == b)
by_equal P a b hit miss =
    ⊎_elim (λ t. subst P (sym t.0) (hit t.1)) (λ t. subst P (sym t.0) (miss t.1)) (eqb_tells a b)
