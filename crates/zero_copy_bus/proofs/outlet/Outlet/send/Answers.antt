-- `Outlet::send` (src/outlet.rt): its return meets the clauses `served` and `loans`.
use Rattle.std.proofs.Common.{arith, refl, rules, subst}
use Rattle.std.proofs.lemmas.Grind.{common_steps}
use Rattle.zero_copy_bus.specs.Books.{Exchanges, KeepsOthers}
use Rattle.zero_copy_bus.specs.Pools.{table_of}
use Rattle.zero_copy_bus.proofs.BookLemmas.{keeps_loans}
use Rattle.zero_copy_bus.proofs.OutletLemmas.{sent_as}
use Rattle.zero_copy_bus.proofs.outlet.Outlet.send.Goals as goal

-- what was pushed and exchanged is what `IsServed` says of a lane that takes part
pub returns-clause-served : goal.returns-clause-served
returns-clause-served c =
    record {
      sent = λ on can.
          sent_as _ _ _ _ _ _ c.args.self.now c.push-back.new.self c.slot-slot.result c.push-back.result c.slot_back.result
          refl c.slot-slot.ensures c.slot_back.ensures c.push-back.ensures.added c.push-back.ensures.handed_back
          c.push-back.ensures.goes
          (subst (λ h. Exchanges c.slot-slot.result h c.slot_back.result (table_of c.args.pool.now) (table_of c.exchange.new.self))
          c.push-back.ensures.holder c.exchange.ensures.has);
      other = first_of (search rules, grind (arith, common_steps));
      idle = first_of (search rules, grind (arith, common_steps));
      waits = c.push-back.ensures.waits;
    }

pub returns-clause-loans : goal.returns-clause-loans
returns-clause-loans c =
    keeps_loans c.args.self.now.holder (table_of c.args.pool.now) (table_of c.exchange.new.self) c.args.self.now.subscribes
    (subst (λ h. KeepsOthers h (table_of c.args.pool.now) (table_of c.exchange.new.self)) c.push-back.ensures.holder c.exchange.ensures.others)
