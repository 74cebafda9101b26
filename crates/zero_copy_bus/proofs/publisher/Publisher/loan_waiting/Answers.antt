-- `Publisher::loan_waiting` (src/publisher.rt): its loop keeps its invariant, and its return meets the clauses `within`,
-- `fresh`, `spares` and `tried`.
use Rattle.std.proofs.Common.{refl, ◌∙◌, arith}
use Rattle.zero_copy_bus.specs.Ends.{loaned}
use Rattle.zero_copy_bus.proofs.Tries.{tried_none, tried_then}
use Rattle.zero_copy_bus.proofs.publisher.Publisher.loan_waiting.Goals as goal

pub loop-init : goal.loop-init
loop-init g c = record { tried = tried_none c.args.self.now; spares = refl }

-- one more try that was refused
pub loop-preserved : goal.loop-preserved
loop-preserved g c =
    record {
      tried = tried_then c.args.self.now c.loop.self c.loan_once.new.self c.loop.invariant.tried c.loan_once.ensures.tried;
      spares = c.in_default.ensures.kept ∙ c.loop.invariant.spares;
    }

pub returns-in-Some-loan_once-clause-within : goal.returns-in-Some-loan_once-clause-within
returns-in-Some-loan_once-clause-within g c =
    let slots = c.loop.invariant.tried.same.pool.slots in
    let within = c.in-Some-loan_once.ensures.within in
    omega arith

pub returns-in-Some-loan_once-clause-fresh : goal.returns-in-Some-loan_once-clause-fresh
returns-in-Some-loan_once-clause-fresh g c on = c.in-Some-loan_once.ensures.fresh (c.loop.invariant.tried.loans (loaned c.in-Some-loan_once.loan) on)

pub returns-in-Some-loan_once-clause-spares : goal.returns-in-Some-loan_once-clause-spares
returns-in-Some-loan_once-clause-spares g c = c.in-Some-loan_once.ensures.spares ∙ c.loop.invariant.spares

pub returns-in-Some-loan_once-clause-tried : goal.returns-in-Some-loan_once-clause-tried
returns-in-Some-loan_once-clause-tried g c = tried_then c.args.self.now c.loop.self c.loan_once.new.self c.loop.invariant.tried c.loan_once.ensures.tried
