-- That a closure may be called with places below a capacity holds for an equal capacity.
use Rattle.std.proofs.Common.{◌≡◌, ℕ, subst}
use Rattle.threaded.specs.Callable.{TakesPlaces}

-- A closure that may be called with places below a number may be so below an equal number.
pub takes_places_at : {F : Type 0} {pre : F → ℕ → Type 0} {step : F → ℕ → F → Type 0} {a b : ℕ} {f : F} → a ≡ b
    → TakesPlaces pre step a f → TakesPlaces pre step b f
takes_places_at {F} {pre} {step} {a} {b} {f} e takes_places = subst (λ z. TakesPlaces pre step z f) e takes_places
