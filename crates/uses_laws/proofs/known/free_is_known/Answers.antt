-- `free_is_known` (src/known.rt): its return meets what it ensures (`HasFreedInRun`).
use Rattle.std.proofs.Common.{ℕ, [], ◌∷◌, refl, sym, subst}
use Rattle.lock_free.specs.HistoryView.View.{View}
use Rattle.lock_free.specs.Loan.Contracts.{HasFreedInRun}
use Rattle.uses_laws.proofs.known.free_is_known.Goals as goal

pub returns : goal.returns
returns c index capacity old new freed before after =
    let turn = c.frees_are_known.ensures (index ∷ []) capacity old new (new, freed, refl) before after in
    subst (λ (v : View ℕ). HasFreedInRun capacity index old v) (sym turn.2) turn.1
