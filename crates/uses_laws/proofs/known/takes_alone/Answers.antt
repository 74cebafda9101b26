-- `takes_alone` (src/known.rt): its return meets what it ensures (`TakesAtMost`).
use Rattle.std.proofs.Common.{◌≡◌, ◌≤◌, ℕ, ◌+◌, ◌*◌, Some, sym, subst, ◌∙◌, ap, arith}
use Rattle.model.specs.declared.party.Progress.{Progress}
use Rattle.uses_laws.proofs.known.takes_alone.Goals as goal

-- a call beside which the run counts no change by others takes what it takes alone
pub returns : goal.returns
returns c code kind capacity alone retry p start answer wrote old new called mine knows takes progress latest none =
    let in_run = c.steps_are_bounded.ensures code kind capacity alone retry p start answer wrote old new called mine knows takes in
    let same : Some in_run.progress ≡ Some progress = sym in_run.latest ∙ latest in
    let one : in_run.progress ≡ progress = cc in
    let zero_others : in_run.progress.others ≡ 0 = ap (λ (it : Progress). it.others) one ∙ none in
    let few : new.asked ≤ old.asked + (alone + 0 * retry) =
    subst (λ (n : ℕ). new.asked ≤ old.asked + (alone + n * retry)) zero_others in_run.steps
    in
    omega (few, arith)
