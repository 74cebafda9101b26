-- `ask_first` (src/mpmc/robust_unique_index_set/asks.rt): its call of `ask_over` meets the requirement `asks`, and its return meets the
-- clause `goes`.
use Rattle.lock_free_owners.proofs.Names.{sym, subst, at_recover, seen}
use Rattle.steps.specs.declared.indices.robust.recover.RecoverStage.{RecoverStage}
use Rattle.lock_free_owners.specs.Robust.Recovering.{MayAsk, LeadsOn}
use Rattle.lock_free_owners.proofs.mpmc.robust_unique_index_set.asks.ask_first.Goals as goal
use Rattle.lock_free_owners.proofs.mpmc.robust_unique_index_set.asks.ask_first.Given as given

pub ask_over-requires-clause-asks : goal.ask_over-requires-clause-asks
ask_over-requires-clause-asks g c =
    subst (λ (stage : RecoverStage). MayAsk (λ p o i b r. given.F-step g p o i b r) (λ x o i t. given.S-step g x o i tt t) (given.F-pre g)
    c.args.mode (seen c.args.seat.now) (at_recover c.args.call stage) c.args.predicate.now) c.in-LoadsCell.is c.requires.asks

-- where the call stood at a cell, its steps over cells lead on as clause `goes` says
pub returns-in-LoadsCell-clause-goes : goal.returns-in-LoadsCell-clause-goes
returns-in-LoadsCell-clause-goes g c =
    subst (λ (stage : RecoverStage). LeadsOn (λ p o i b r. given.F-step g p o i b r) (λ x o i t. given.S-step g x o i tt t) c.args.mode
    (seen c.args.seat.now) (at_recover c.args.call stage) c.args.predicate.now c.ask_over.result (seen c.ask_over.new.seat) c.ask_over.new.predicate)
    (sym c.in-LoadsCell.is) c.ask_over.ensures.goes

-- at any other stage the recovery stays as it is, as clause `goes` says
pub returns-in_default-clause-goes : goal.returns-in_default-clause-goes
returns-in_default-clause-goes g c base f s q idle began = began
