-- `look_again` (src/mpmc/robust_unique_index_set/recovers.rt): its return meets the clause `goes`.
use Rattle.lock_free_owners.proofs.Names.{ℕ, subst, seen, View, visits_taken}
use Rattle.steps.specs.declared.indices.robust.recover.RecoverStage.{RecoverStage}
use Rattle.threaded.specs.Driver.{Next}
use Rattle.lock_free_owners.specs.Robust.Turns.{RecoverAt, RecoverEnds}
use Rattle.lock_free_owners.proofs.mpmc.robust_unique_index_set.recovers.look_again.Goals as goal

pub returns-in-LoadsCounterAgain-clause-goes : goal.returns-in-LoadsCounterAgain-clause-goes
returns-in-LoadsCounterAgain-clause-goes c base visits idle at =
    let goes = c.step_recover.ensures.goes in
    subst (λ (stage : RecoverStage). Next (λ (z : View ℕ). z.capacity) (RecoverAt c.args.mode) (RecoverEnds c.args.mode) base c.step_recover.result
    (visits_taken stage visits goes.0) (seen c.step_recover.new.seat)) c.in-LoadsCounterAgain.is (goes.2 base visits idle at)
