-- `Outlet::settle` (src/outlet.rt): its return meets the clauses `free`, `all`, `loans` and `popped`.
use Rattle.std.proofs.Common.{refl, inl, inr, ⊎_elim}
use Rattle.zero_copy_bus.proofs.BookLemmas.{all_or_none, keeps_loans}
use Rattle.zero_copy_bus.proofs.Drained.{drained_still}
use Rattle.zero_copy_bus.proofs.outlet.Outlet.settle.Goals as goal

-- a lane becomes free only if `drain` answered true
pub returns-then-drain-clause-free : goal.returns-then-drain-clause-free
returns-then-drain-clause-free g c is = (
  c.drain.ensures.none c.if-drain.true,
  c.drain.ensures.empty c.if-drain.true,
  drained_still c.args.self.now c.drain.new.self _ refl refl (c.drain.ensures.drained c.if-drain.true),
)

pub returns-then-drain-clause-all : goal.returns-then-drain-clause-all
returns-then-drain-clause-all g c =
    all_or_none c.args.self.now.holder _ _ c.drain.ensures.others (c.drain.ensures.none c.if-drain.true)

pub returns-then-drain-clause-loans : goal.returns-then-drain-clause-loans
returns-then-drain-clause-loans g c = keeps_loans c.args.self.now.holder _ _ c.args.self.now.subscribes c.drain.ensures.others

pub returns-then-drain-clause-popped : goal.returns-then-drain-clause-popped
returns-then-drain-clause-popped g c =
    ⊎_elim (λ still. inl still) (λ d. inr (drained_still c.args.self.now c.drain.new.self _ refl refl d)) c.drain.ensures.popped

pub returns-else-drain-clause-popped : goal.returns-else-drain-clause-popped
returns-else-drain-clause-popped g c =
    ⊎_elim (λ still. inl still) (λ d. inr (drained_still c.args.self.now c.drain.new.self _ refl refl d)) c.drain.ensures.popped
