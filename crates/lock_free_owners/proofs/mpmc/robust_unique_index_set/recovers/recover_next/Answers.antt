-- `recover_next` (src/mpmc/robust_unique_index_set/recovers.rt): its return meets the clause `goes`.
use Rattle.lock_free_owners.proofs.Names.{◌≡◌, ℕ, ◌<◌, rules, refl, sym, ap, subst, ◌∙◌, empty}
use Rattle.lock_free_owners.proofs.Names.{recover_after, After, ReleaseState, number_of, seen, View}
use Rattle.steps.specs.declared.indices.robust.recover.Recover.{Recover}
use Rattle.steps.specs.declared.indices.robust.recover.RecoverStage.{RecoverStage}
use Rattle.threaded.specs.Driver.{Next}
use Rattle.history_owners.specs.Robust.{visits_after}
use Rattle.lock_free_owners.specs.Robust.Stages.{RecoverMoves}
use Rattle.lock_free_owners.specs.Robust.Turns.{RecoverAt, RecoverEnds}
use Rattle.lock_free_owners.proofs.RobustSet.Recoveries.{said_goes}
use Rattle.lock_free_owners.proofs.mpmc.robust_unique_index_set.recovers.recover_next.Goals.{then-yes, else-yes}
use Rattle.lock_free_owners.proofs.mpmc.robust_unique_index_set.recovers.recover_next.Goals as goal
use Rattle.lock_free_owners.proofs.mpmc.robust_unique_index_set.recovers.recover_next.Given as given

-- after the answer of the first closure the recovery goes on as clause `goes` says
pub returns-after-yes-clause-goes : goal.returns-after-yes-clause-goes
returns-after-yes-clause-goes g c =
    let k = number_of c.ask-yes.result in
    let heard : c.if-yes.take ≡ k = elim c.if-yes.branch [
      | then-yes w ↦ w.take-is ∙ ap number_of (sym w.if-yes.true)
      | else-yes w ↦ w.take-is ∙ ap number_of (sym w.if-yes.false)
    ] in
    let goes : c.take.result ≡ recover_after c.args.call c.args.mode k = c.take.ensures.goes
    ∙ ap (λ (n : ℕ). recover_after c.args.call c.args.mode n) heard in
    let named : c.in-Asks.owner < empty = search rules in
    let asked : given.F-step g c.args.predicate.now c.in-Asks.owner c.in-Asks.index c.ask-yes.result c.ask-yes.new.predicate = search rules in (
      k,
      λ base visits idle at. subst (λ (a : After Recover ReleaseState). Next (λ (z : View ℕ). z.capacity) (RecoverAt c.args.mode)
          (RecoverEnds c.args.mode) base a (visits_after c.args.call visits k) (seen c.args.seat.now)) (sym goes)
          (said_goes c.args.mode c.in-Asks.is c.ask-yes.result at),
      subst (λ (stage : RecoverStage). RecoverMoves (λ p o i b q. given.F-step g p o i b q)
          (λ s o i t. given.S-step g s o i tt t) c.args.call c.args.mode stage k
          c.args.predicate.now c.args.recovered.now c.take.result c.ask-yes.new.predicate c.args.recovered.now) (sym c.in-Asks.is)
          (named, refl, (c.ask-yes.result, asked, refl), goes),
    )

-- after the exchange of a cell, and the call of the second closure if it freed the index, the recovery
-- goes on as clause `goes` says
pub returns-in-EmptiesCell-clause-goes : goal.returns-in-EmptiesCell-clause-goes
returns-in-EmptiesCell-clause-goes g c =
    let step = c.step_recover-after in
    let tells = c.tell_where in
    let named : c.in-EmptiesCell.owner < empty = search rules in (
      step.ensures.goes.0,
      step.ensures.goes.2,
      subst (λ (stage : RecoverStage). RecoverMoves (λ p o i b q. given.F-step g p o i b q) (λ s o i t. given.S-step g s o i tt t) c.args.call c.args.mode stage
          step.ensures.goes.0 c.args.predicate.now c.args.recovered.now step.result c.args.predicate.now tells.new.recovered) (sym c.in-EmptiesCell.is)
          (named, refl, step.ensures.goes.1, (λ e. tells.ensures.called (c.has_freed.ensures ∙ e)), (λ e. tells.ensures.passed (c.has_freed.ensures ∙ e))),
    )
