-- `Roll::recover` (src/roll.rt): its return meets the clause `taken`.
use Rattle.std.proofs.Common.{rules}
use Rattle.zero_copy_bus.proofs.RollLemmas.{told_yes}
use Rattle.zero_copy_bus.proofs.roll.Roll.recover.Goals as goal

-- the closure answers yes each time it is asked
pub returns-clause-taken : goal.returns-clause-taken
returns-clause-taken g c =
    record {
      state = c.recover.result;
      recovered = told_yes _ (λ p x b q k. search rules) _ _ _ _ _ _ _ _ c.recover.ensures.recovered.recovered;
    }
