-- `Publisher::loan_once` (src/publisher.rt): its return meets the clauses `within`, `fresh`, `can`, `spares`,
-- `kept` and `tried`.
use Rattle.std.proofs.Common.{◌∙◌, arith}
use Rattle.zero_copy_bus.specs.Ends.{loaned, spares_in, table_of}
use Rattle.zero_copy_bus.proofs.Published.{can_send_to_all}
use Rattle.zero_copy_bus.proofs.Tries.{free_not_loaned, tried_asked, tried_collect, tried_then}
use Rattle.zero_copy_bus.proofs.publisher.Publisher.loan_once.Goals as goal

pub returns-in-Ok-clause-within : goal.returns-in-Ok-clause-within
returns-in-Ok-clause-within g c =
    let slots = c.collect.ensures.same.pool.slots in
    let within = c.in-Ok.ensures.within in
    omega arith

pub returns-in-Ok-clause-fresh : goal.returns-in-Ok-clause-fresh
returns-in-Ok-clause-fresh g c on =
    free_not_loaned (table_of c.collect.new.self) (loaned c.in-Ok.loan) c.in-Ok.ensures.free
    (c.collect.ensures.loans (loaned c.in-Ok.loan) ∙ on)

pub returns-in-Ok-clause-can : goal.returns-in-Ok-clause-can
returns-in-Ok-clause-can g c =
    can_send_to_all (loaned c.in-Ok.loan) c.collect.new.self c.loan.new.self c.in-Ok.ensures.free c.in-Ok.ensures.changes c.in-Ok.ensures.loaned

pub returns-in-Ok-clause-spares : goal.returns-in-Ok-clause-spares
returns-in-Ok-clause-spares g c = c.in-Ok.ensures.spares ∙ c.collect.ensures.spares

pub returns-in-Err-clause-kept : goal.returns-in-Err-clause-kept
returns-in-Err-clause-kept g c = c.in-Err.ensures.kept ∙ c.collect.ensures.spares

-- the `collect`, and then the `loan` that was had
pub returns-in-Ok-clause-tried : goal.returns-in-Ok-clause-tried
returns-in-Ok-clause-tried g c =
    let back = c.collect.ensures in
    let asked = c.loan.ensures in
    tried_then c.args.self.now c.collect.new.self c.loan.new.self
    (tried_collect c.args.self.now c.collect.new.self back.taken back.rest back.gains back.loans back.taking back.same
    back.next)
    (tried_asked c.collect.new.self c.loan.new.self asked.lanes asked.same asked.next (spares_in c.collect.new.self) c.loan.result
    asked.refused asked.free asked.changes asked.loaned)

-- the `collect`, and then the `loan` that was refused
pub returns-in-Err-clause-tried : goal.returns-in-Err-clause-tried
returns-in-Err-clause-tried g c =
    let back = c.collect.ensures in
    let asked = c.loan.ensures in
    tried_then c.args.self.now c.collect.new.self c.loan.new.self
    (tried_collect c.args.self.now c.collect.new.self back.taken back.rest back.gains back.loans back.taking back.same
    back.next)
    (tried_asked c.collect.new.self c.loan.new.self asked.lanes asked.same asked.next (spares_in c.collect.new.self) c.loan.result
    asked.refused asked.free asked.changes asked.loaned)
