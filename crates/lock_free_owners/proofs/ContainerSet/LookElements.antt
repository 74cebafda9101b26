-- How the loop of a look over the elements goes on from one element: to the next one only.
use Rattle.lock_free_owners.proofs.Names.{◌≡◌, ℕ, ◌<◌, nat_lt, Bool, slice_index_or, nat_tests, arith, subst}
use Rattle.lock_free_owners.proofs.Names.{at_look, look_after, look_comes_to, look_finds, is_even, Numbers, Showing}
use Rattle.lock_free_owners.proofs.Names.{by_test, by_eq, After, GoOn, Coding, View}
use Rattle.steps.specs.declared.container.look.Look.{Look}
use Rattle.steps.specs.declared.container.look.LookStage.TheVariants as looks
use Rattle.model.specs.declared.families.container.calls.LookOf.{LookOf}
use Rattle.lock_free_owners.specs.Container.LookTurns.{LookOnAt, LookOnGoes, at_count}

module _ {T : Type 0} (size : ℕ) (seen : Numbers) (capacity index : ℕ) where
  -- a look that goes on to the number of another element has a greater index there, below the capacity
  abbrev CountsNext : ℕ → Look T → Type 0
  CountsNext other d = d.stage ≡ looks.LoadsCount other → (d ≡ at_count capacity other) × (index < other) × (other < capacity)

  -- A look that passes an element stands at a later one in the same container.
  pub counts_next : (n other : ℕ) (d : Look T) → look_after size (at_count capacity index) seen n ≡ GoOn d → CountsNext other d
  counts_next n other d = grind (arith, by_test, by_eq, is_even, slice_index_or, at_look, look_comes_to, look_finds, nat_lt, nat_tests)

-- The look began in the view `from` with the state of these numbers, and w is what the pass knows after a step that
-- leaves m in its room.
module _ {T : Type 0} (code : Coding T) (which : LookOf) (from : View T) (shown : Showing T) (seen : Numbers) (w : View T) (m : Showing T) where
  -- Where a step has led to a next stage, the look is under way at it.
  pub gone_on : {a : After (Look T) Bool} {d : Look T} → a ≡ GoOn d → LookOnGoes code which from shown seen a m w → LookOnAt code which from shown seen w d m
  gone_on is goes = subst (λ z. LookOnGoes code which from shown seen z m w) is goes
