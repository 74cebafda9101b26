-- To show a goal about a test, it is enough to show its two cases.
use Rattle.std.proofs.Common.{◌≡◌, Bool, true, false, refl}

-- a proof by the cases of a test, each with the fact that it gives
pub by_bool : {A : Type 0} → (b : Bool) → (b ≡ true → A) → (b ≡ false → A) → A
by_bool true t f = t refl
by_bool false t f = f refl

-- a goal that speaks of a test is shown in its two cases
pub on_bool : (P : Bool → Type 0) (b : Bool) → (b ≡ true → P true) → (b ≡ false → P false) → P b
on_bool P true t f = t refl
on_bool P false t f = f refl
