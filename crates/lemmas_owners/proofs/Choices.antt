-- What a choice is where its test comes out one way, and what a test or an option cannot be at once.
use Rattle.model.proofs.Names.{◌≡◌, ◌≢◌, ℕ, ◌==◌, if◌then◌else◌, Bool, true, false, Option, Some, None, sym, ap, ◌∙◌, eq-eqb, ne_eqb}

module _ {A : Type 0} (i j : ℕ) (x y : A) where
  -- where the indices are equal, the choice is the first
  pub at_same : j ≡ i → (if i == j then x else y) ≡ x
  at_same same_index = ap (λ b. if b then x else y) (eq-eqb i j (sym same_index))

  -- where the indices differ, the choice is the second
  pub at_other : j ≢ i → (if i == j then x else y) ≡ y
  at_other ne = ap (λ b. if b then x else y) (ne_eqb i j (λ e. ne (sym e)))

-- an option is not both None and present
pub some_none : {A B : Type 0} (o : Option B) (x : B) → o ≡ None → o ≡ Some x → A
some_none o x is_none b = let same : None ≡ Some x = sym is_none ∙ b in absurd (cc)

-- an option names one owner
pub one_owner : (o : Option ℕ) (x y : ℕ) → o ≡ Some x → o ≡ Some y → x ≡ y
one_owner o x y first_some second_some = let same : Some x ≡ Some y = sym first_some ∙ second_some in cc

-- a test does not come out both ways
pub both_ways : {A : Type 0} (b : Bool) → b ≡ false → b ≡ true → A
both_ways b f t = let same : true ≡ false = sym t ∙ f in absurd (cc)
