-- Between two turns of a reset of the next place: how it has gone on, and where the loop over flags leads.
use Rattle.lock_free_sets.proofs.Names.{◌≡◌, ℕ, ◌<◌, nat_lt, subst, Option, arith, nat_tests, by_test, After, View}
use Rattle.steps.specs.Bits.BitSet.{at_reset, reset_after, reset_tests, reset_comes_to}
use Rattle.steps.specs.declared.ask.After.TheVariants.{GoOn, Done}
use Rattle.steps.specs.declared.bits.bit_set.ResetNext.{ResetNext}
use Rattle.steps.specs.declared.bits.bit_set.ResetNextStage.TheVariants as stages
use Rattle.threaded.specs.Driver.{Next}
use Rattle.lock_free_sets.specs.Bits.Resetting.{ResetAt, ResetEnds, ResetMay, ResetGoes}

-- the reset has taken a step, from `call` in the view `v`, behind which the view is `w`
module _ (v w : View ℕ) (call : ResetNext) {a : After ResetNext (Option ℕ)} where
  -- Where a step has led to a next stage, the reset is under way at that stage.
  pub gone_on : {next : ResetNext} → a ≡ GoOn next → ResetGoes v call a w → {base : View ℕ} → ResetAt base v call tt → ResetAt base w next tt
  gone_on is goes {base} at = subst (λ z. Next (λ (x : View ℕ). x.capacity) ResetAt ResetEnds base z tt w) is (goes base at)

  -- Where a step has ended the reset, it has ended with that answer.
  pub has_ended : {end : Option ℕ} → a ≡ Done end → ResetGoes v call a w → {base : View ℕ} → ResetAt base v call tt → ResetEnds base end tt w
  has_ended is goes {base} at = subst (λ z. Next (λ (x : View ℕ). x.capacity) ResetAt ResetEnds base z tt w) is (goes base at)

  -- Where a step has led to a next stage, the reset may take a further step.
  pub may_go_on : {next : ResetNext} → a ≡ GoOn next → ResetGoes v call a w → ResetMay v call → ResetMay w next
  may_go_on is goes may = (may.0, gone_on is goes may.1)

-- ---- a load of an element that is clear leads to the next place, or to no place

module _ (capacity start so_many : ℕ) where
  -- The reset at its load of the next word, with this many places passed.
  abbrev pub loads : ℕ → ResetNext
  loads passed = record { capacity = capacity; stage = stages.LoadsElement start passed }

  -- a reset that goes on to another flag has passed more places there, fewer than the capacity
  abbrev LoadsNext : ℕ → ℕ → ResetNext → Type 0
  LoadsNext other passed d = d.stage ≡ stages.LoadsElement other passed → (d ≡ loads passed) × (so_many < passed) × (passed < capacity)

  -- A reset that loads a clear flag goes on with more places passed.
  pub loads_next : (k other passed : ℕ) (d : ResetNext) → reset_after (loads so_many) k ≡ GoOn d → LoadsNext other passed d
  loads_next k other passed d = grind (arith, by_test, at_reset, reset_tests, reset_comes_to, nat_lt, nat_tests)
