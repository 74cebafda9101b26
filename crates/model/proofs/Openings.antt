-- How machines open: at one number, and a loan channel at two.
use Rattle.model.proofs.Names.{Bool, Coding, Kind, None, Some, arith, capacity_error, false, if◌then◌else◌, is_loan}
use Rattle.model.proofs.Names.{nat_tests, opened, opening, queue_error, refl, true, ℕ, ◌||◌, ◌≡◌}
use Rattle.steps.specs.declared.enums.UniqueIndexCreationError.{UniqueIndexCreationError}
use Rattle.steps.specs.declared.enums.UniqueIndexCreationError.TheVariants.{ProvidedCapacityGreaterThanMaxCapacity, ProvidedCapacityIsZero}
use Rattle.model.specs.declared.turn.Kind.TheVariants.{Loan}
use Rattle.model.specs.declared.turn.Shape.{Shape}
use Rattle.model.specs.declared.turn.Shape.TheVariants as shapes
use Rattle.model.specs.World.{loan_error, shape_error, kind_in, capacity_in, queue_in}

-- ---- the same machine, made with one number and with two

module _ {T : Type 0} where
  -- A machine that opens at twice the same number opens as at that one number.
  pub opened_at_one : (code : Coding T) (kind : Kind) (c parties : ℕ) → opened code kind c c parties ≡ opening code kind c parties
  opened_at_one code Loan c parties = refl
  opened_at_one code kind c parties = refl

  -- another kind than the loan channel has no second number
  pub opened_others : (code : Coding T) (kind : Kind) (c queue parties : ℕ) → is_loan kind ≡ false
      → opened code kind c queue parties ≡ opening code kind c parties
  opened_others = grind arith

-- ---- numbers that are admitted

passed_both : (a b : Bool) (x y : UniqueIndexCreationError) → (if a then Some x else if b then Some y else None) ≡ None → (a ≡ false) × (b ≡ false)
passed_both = grind arith

passes_both : (a b : Bool) (x y : UniqueIndexCreationError) → a ≡ false → b ≡ false → (if a then Some x else if b then Some y else None) ≡ None
passes_both = grind arith

neither : (a b : Bool) → (a || b) ≡ false → (a ≡ false) × (b ≡ false)
neither true b e = absurd (cc)
neither false b e = (refl, e)

-- a capacity that passes both tests is not refused
passes : (a b : Bool) → a ≡ false → b ≡ false
    → (if a then Some ProvidedCapacityGreaterThanMaxCapacity else if b then Some ProvidedCapacityIsZero else None) ≡ None
passes a b same_false f = passes_both a b ProvidedCapacityGreaterThanMaxCapacity ProvidedCapacityIsZero same_false f

-- a number of slots is also a capacity of a submission queue
wide_enough : (c : ℕ) → capacity_error Loan c ≡ None → queue_error Loan c ≡ None
wide_enough = grind (arith, passed_both, false, passes, nat_tests)

-- A capacity that is admitted for a kind is admitted for a submission queue.
pub queue_admitted : (kind : Kind) (c : ℕ) → capacity_error kind c ≡ None → queue_error kind c ≡ None
queue_admitted Loan c admitted = wide_enough c admitted
queue_admitted kind c admitted = refl

loan_admitted : (slots queue : ℕ) → loan_error slots queue ≡ None → (capacity_error Loan slots ≡ None) × (queue_error Loan queue ≡ None)
loan_admitted = grind (arith, passed_both, neither, passes)

-- A shape that is not refused has a capacity, and for a loan channel a submission queue, that are admitted.
pub shape_admitted : (shape : Shape) → shape_error shape ≡ None
    → (capacity_error (kind_in shape) (capacity_in shape) ≡ None) × (queue_error (kind_in shape) (queue_in shape) ≡ None)
shape_admitted (shapes.Of kind capacity) admitted = (admitted, queue_admitted kind capacity admitted)
shape_admitted (shapes.Loan slots queue) admitted = loan_admitted slots queue admitted
