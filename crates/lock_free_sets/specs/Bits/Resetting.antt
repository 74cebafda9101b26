-- What a seat knows between two steps of `reset_next`, whatever the view with which the call began.
use Rattle.std.specs.Prelude.{ℕ, ◌+◌, Option}
use Rattle.steps.specs.Bits.Words.{elements}
use Rattle.steps.specs.declared.ask.After.{After}
use Rattle.steps.specs.declared.bits.bit_set.ResetNext.{ResetNext}
use Rattle.model.specs.declared.turn.Kind.TheVariants as kinds
use Rattle.model.specs.Coding.{one_word}
use Rattle.threaded.specs.declared.driver.seated.Seated.{Seated}
use Rattle.threaded.specs.Driver.{Next}
use Rattle.threaded.specs.Seats.{IsAt}
use Rattle.history.specs.declared.view.View.{View}
use Rattle.history.specs.Stages.{At, Ends}
use Rattle.lock_free_sets.specs.Bits.Stages.{resets_next}

-- the seat is at the table of a bit set
abbrev pub IsBoard : {Q : Type 0} → Seated (View ℕ) ℕ Q → Type 0
IsBoard s = IsAt (λ (key : ℕ). 1 + elements key + 1) (λ (key : ℕ). key) (λ (v : View ℕ). v.capacity) s

-- the call `reset_next` is about to begin or under way
abbrev pub ResetAt : View ℕ → View ℕ → ResetNext → Unit {0} → Type 0
ResetAt = At one_word kinds.Bits resets_next

-- the call `reset_next` has ended with this answer
abbrev pub ResetEnds : View ℕ → Option ℕ → Unit {0} → View ℕ → Type 0
ResetEnds = Ends one_word kinds.Bits resets_next

-- the call stands at this stage, so it may take a step
abbrev pub ResetMay : View ℕ → ResetNext → Type 0
ResetMay v call = (base : View ℕ) × ResetAt base v call tt

-- wherever the call stood so in `v`, it has gone on or ended in `w`
abbrev pub ResetGoes : View ℕ → ResetNext → After ResetNext (Option ℕ) → View ℕ → Type 0
ResetGoes v call after w =
    (base : View ℕ) → ResetAt base v call tt
    → Next (λ (z : View ℕ). z.capacity) ResetAt ResetEnds base after tt w
