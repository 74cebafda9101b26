-- What tries have done, one after another, up to one that brought something or the caller's stop.
use Rattle.std.specs.Prelude.{◌≡◌, ℕ, zero, suc, Bool, true, false}

module _ {A : Type 0} where
  -- n of these, one after the other, lead from the old state to the new one
  abbrev pub Times : ℕ → (A → A → Type 0) → (old new : A) → Type 0
  Times zero Once old new = new ≡ old
  Times (suc n) Once old new = (between : A) × Times n Once old between × Once between new

-- States are of what is tried, and of the closure.
module _ {A S : Type 0} (Nothing : A → A → Type 0) (Step : S → Bool → S → Type 0) where
  -- a try brought nothing, and then the closure was asked once and did not say stop
  abbrev pub WentOn : (old new : A × S) → Type 0
  WentOn old new = Nothing old.0 new.0 × Step old.1 false new.1

  -- it went on some times or never, and then a try brought nothing and the closure said stop
  abbrev pub WasStopped : (old new : A × S) → Type 0
  WasStopped old new = (n : ℕ) × (last : A × S) × Times n WentOn old last × Nothing last.0 new.0 × Step last.1 true new.1

  -- it went on some times or never, and then a try brought this
  abbrev pub CameAfter : {T : Type 0} → (T → A → A → Type 0) → T → (old new : A × S) → Type 0
  CameAfter Came x old new = (n : ℕ) × (last : A × S) × Times n WentOn old last × Came x last.0 new.0 × (new.1 ≡ last.1)
