-- One try more.
use Rattle.std.proofs.Common.{◌≡◌, ◌+◌, ℕ, suc, sym, subst, arith}
use Rattle.lock_free_waits.specs.Waits.{Times}

module _ {A : Type 0} (Nothing : A → A → Type 0) where
  -- n tries that brought nothing and then one more are n + 1
  pub times_more : (n : ℕ) (old between new : A) → Times n Nothing old between → Nothing between new → Times (n + 1) Nothing old new
  times_more n old between new so_far next =
      let more : n + 1 ≡ suc n = omega arith in
      subst (λ k. Times k Nothing old new) (sym more) (between, so_far, next)
