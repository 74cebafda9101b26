-- `step_recover` (src/mpmc/robust_unique_index_set/recovers.rt): its call of `step_telling` meets the requirements `owes` and
-- `capacity`, and its return meets the clause `goes`.
use Rattle.lock_free_owners.proofs.Names.{◌+◌, ℕ, List, sym, ap, subst, ◌∙◌, After, ReleaseState, one_word, Owes}
use Rattle.lock_free_owners.proofs.Names.{seen, table_of, key_of, View, IsMachine, recover_tells}
use Rattle.steps.specs.Indices.Robust.Recover.{recover_want}
use Rattle.steps.specs.declared.indices.robust.recover.Recover.{Recover}
use Rattle.model.specs.declared.turn.Kind.TheVariants as kinds
use Rattle.lock_free_owners.specs.Robust.Turns.{size, RecoverSteps, RecoverTells}
use Rattle.lock_free_owners.proofs.mpmc.robust_unique_index_set.recovers.step_recover.Goals as goal

-- the rule of the table allows what the step writes, and it tells what a step of the recovery tells
pub step_telling-requires-clause-owes : goal.step_telling-requires-clause-owes
step_telling-requires-clause-owes c =
    let s = c.args.seat.now in
    let at = c.requires.at in
    let table = table_of s in
    let tells = recover_tells one_word c.args.mode at.0 (seen s) c.args.call at.1 in
    let owed = tells (key_of s) table.words table.slots s.seat.id
    (c.requires.board.0 ∙ ap (λ k. size k + 1) (sym c.requires.board.1)) (sym c.requires.board.1) at.2 at.3 in
    subst (λ (xs : List (ℕ × Unit {0})). Owes (λ (z : View ℕ). z.asked) (IsMachine one_word kinds.Robust (key_of s))
    table.words table.slots s.seat.id
    (RecoverTells c.args.mode c.args.call) (recover_want c.args.call) (seen s, xs)) (sym s.bare) owed

-- a step of the recovery leaves the capacity that the pass knows (requirement `capacity`)
pub step_telling-requires-clause-capacity : goal.step_telling-requires-clause-capacity
step_telling-requires-clause-capacity c v n w h = h.0

-- the recovery has gone on by what the step has heard (clause `goes`)
pub returns-clause-goes : goal.returns-clause-goes
returns-clause-goes c =
    let told = c.step_telling.ensures.told in (
      told.0,
      told.1,
      subst (λ (a : After Recover ReleaseState). RecoverSteps c.args.mode (seen c.args.seat.now) c.args.call told.0 a (seen c.step_telling.new.self))
          (sym told.1) told.3.1,
    )
